-- What stands above a line.
use Rattle.std.proofs.Common.{refl, ap, ℕ, ◌≤◌, nat_lt, List, [], ◌∷◌, inl, inr}
use Rattle.std.proofs.lemmas.Bool.{cases_Bool, ltb-true, ltb-false}
use Rattle.std.proofs.lemmas.List.Elements.{All-nil, All-cons}
use Rattle.uvl_lex.specs.declared.token.Line.{Line}
use Rattle.uvl_reader.specs.Nesting.{AreAbove, lines_above}

-- one line more before, which isn't indented less
past : (last : Line) (before : List Line) (indent : ℕ) (above : List Line) → indent ≤ last.indent → AreAbove before indent above → AreAbove (last ∷ before) indent above
past last before indent [] l h = All-cons (λ line. indent ≤ line.indent) last before l h
past last before indent (nearest ∷ above) l h =
    (last ∷ h.0, h.1, ap (λ (lines : List Line). last ∷ lines) h.2, All-cons (λ line. indent ≤ line.indent) last h.0 l h.3, h.4, h.5)

pub above-latest : (before : List Line) (indent : ℕ) → AreAbove before indent (lines_above before indent)
above-latest [] indent = All-nil (λ line. indent ≤ line.indent)
above-latest (last ∷ before) indent =
    elim (cases_Bool (nat_lt last.indent indent)) [
      | inl y ↦ rw y ([], before, refl, All-nil (λ line. indent ≤ line.indent), ltb-true last.indent indent y, above-latest before last.indent)
      | inr n ↦ rw n (past last before indent (lines_above before indent) (ltb-false last.indent indent n) (above-latest before indent))
    ]
