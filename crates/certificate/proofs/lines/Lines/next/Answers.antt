use Rattle.std.proofs.Common.{◌≡◌, ◌∙◌, sym, ap, ℕ, ◌+◌, ◌<◌, ◌==◌, ◌∷◌, Bool, false, List, length, arith}
use Rattle.std.specs.Prelude.{option_map}
use Rattle.std.specs.Borrow.{Bor}
use Rattle.std.proofs.lemmas.Bool.Decides.{nat_tests}
use Rattle.certificate.specs.Words.{lines_of}
use Rattle.certificate.specs.inside.Ahead.{Ahead}
use Rattle.certificate.proofs.Cuts.{next-line}
use Rattle.certificate.proofs.lines.Lines.next.Goals as goal

some_bytes : (rest : List ℕ) (b : Bool) → b ≡ (length rest == 0) → b ≡ false → 0 < length rest
some_bytes rest b e f = grind (arith, nat_tests)

pub returns : goal.returns
returns c =
    let rest = c.self.inside.rest.now in
    let behind = option_map (λ (x : Bor (List ℕ)). x.now) c.cut.result.1 in (
      ap (λ (a : Ahead). a.lines) (sym c.self.view_is)
          ∙ next-line rest c.cut.result.0.now behind (some_bytes rest c.is_empty.result c.is_empty.ensures c.if-is_empty.false) c.cut.ensures.pieces
          ∙ ap (λ (r : List ℕ). c.cut.result.0.now ∷ lines_of r) (sym c.or_nothing-self-inside.ensures),
      ap (λ (a : Ahead). a.number + 1) c.self.view_is,
    )
