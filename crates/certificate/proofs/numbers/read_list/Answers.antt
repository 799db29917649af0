use Rattle.std.proofs.Common.{◌≡◌, ◌∙◌, sym, ap, subst, ◌∷◌, List, ℕ, Some, None, cond}
use Rattle.std.specs.Prelude.{IfOk, Option, option_map}
use Rattle.std.specs.Borrow.{Bor}
use Rattle.std.specs.Str.{bytes_eq}
use Rattle.certificate.specs.Words.{words_of}
use Rattle.certificate.specs.inside.Pieces.{pieces_of}
use Rattle.certificate.proofs.NumberLaws.{list-others, true-from_not}
use Rattle.certificate.proofs.numbers.read_list.Goals as goal

pub returns : goal.returns
returns c =
    let start = c.cut.result.0.now in
    let rest = c.in-Some.rest.now in
    let is : words_of c.args.line.now ≡ start ∷ words_of rest =
    c.cut.ensures.pieces ∙ ap (λ (o : Option (Bor (List ℕ))). start ∷ pieces_of 32 (option_map (λ (x : Bor (List ℕ)). x.now) o)) c.in-Some.is in
    let same = true-from_not (bytes_eq start c.args.word.now) c.ne.result c.ne.ensures c.if-ne.false in
    let other = ap (λ (none : List ℕ). bytes_eq rest none) (sym c.as_slice.ensures) ∙ sym c.eq.ensures ∙ c.if-eq.false in
    let whole = list-others c.args.most c.args.line.now c.args.word.now start rest is same other in
    subst (λ (o : Option (List ℕ)). IfOk c.read_rising.result (λ yes. o ≡ cond yes (Some c.read_rising.new.numbers) None)) (sym whole) c.read_rising.ensures
