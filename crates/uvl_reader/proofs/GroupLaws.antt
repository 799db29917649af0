-- Where the group stands under which a line stands: it is the last group of its feature.
use Rattle.std.proofs.Common.{◌≡◌, ℕ, ◌<◌, ◌≤◌, nat_lt, true, List, [], ◌∷◌, ◌++◌, refl, ap, subst, ◌∙◌, arith, append_assoc, inl, inr}
use Rattle.std.proofs.lemmas.Bool.{cases_Bool, ltb-true, ltb-false}
use Rattle.std.proofs.lemmas.Bool.Decides.{nat_tests}
use Rattle.uvl_lex.specs.declared.token.Line.{Line}
use Rattle.uvl_reader.specs.Nesting.{lines_above}
use Rattle.uvl_reader.specs.LineKinds.{kind_by}
use Rattle.uvl_reader.specs.ModelReading.{PlacedLine}
use Rattle.uvl_reader.proofs.PlacedLaws.{Each, each_append, each_above, each_weaker, AllLess, Falling, placed_of, place, all_before, IsBefore}

-- the nearest of the lines has this number at least
abbrev pub IsFrom : ℕ → List Line → Type 0
IsFrom number [] = ⊥
IsFrom number (nearest ∷ above) = number ≤ nearest.number

pub head_less : (number : ℕ) (line : Line) (lines above : List Line) → lines ≡ line ∷ above → AllLess number lines → line.number < number
head_less number line lines above e h = let k : AllLess number (line ∷ above) = subst (AllLess number) e h in k.0

-- what stands above a line that is indented further is nearer
nearer : (before : List Line) (indent more : ℕ) (line : Line) (above : List Line) → indent ≤ more → Falling before → lines_above before indent ≡ line ∷ above → IsFrom line.number (lines_above before more)
nearer [] indent more line above l f e = absurd (cc)
nearer (last ∷ before) indent more line above l f e =
    elim (cases_Bool (nat_lt last.indent indent)) [
      | inl y ↦
          let low : last.indent < indent = ltb-true last.indent indent y in
          let y2 : nat_lt last.indent more ≡ true = grind (arith, nat_tests) in
          let is : last ∷ lines_above before last.indent ≡ line ∷ above = rw y at e in
          let same : last ≡ line = cc in
          let number : last.number ≡ line.number = ap (λ (one : Line). one.number) same in
          rw y2 (omega arith)
      | inr n ↦
          let high : indent ≤ last.indent = ltb-false last.indent indent n in
          let is : lines_above before indent ≡ line ∷ above = rw n at e in
          elim (cases_Bool (nat_lt last.indent more)) [
            | inl y2 ↦
                let less = head_less last.number line (lines_above before indent) above is (each_above (λ one. one.number < last.number) before indent f.0) in
                rw y2 (omega arith)
            | inr n2 ↦ rw n2 (nearer before indent more line above l f.1 is)
          ]
    ]

-- the lines with their places, cut at the one that a line stands under directly: the later ones stand under none before it
pub record CutAt (placed : List PlacedLine) (line : Line) (above : List Line) : Type 0 where
  pub earlier : List PlacedLine
  pub later : List PlacedLine
  pub whole : placed ≡ earlier ++ record { line = line; kind = kind_by line.tokens above; above = above } ∷ later
  pub before : Each (λ at. at.line.number < line.number) earlier
  pub behind : Each (λ at. (line.number < at.line.number) × IsFrom line.number at.above) later

pub cut_above : (before : List Line) (indent : ℕ) (line : Line) (above : List Line) → Falling before → lines_above before indent ≡ line ∷ above → CutAt (placed_of before) line above
cut_above [] indent line above f e = absurd (cc)
cut_above (last ∷ before) indent line above f e =
    elim (cases_Bool (nat_lt last.indent indent)) [
      | inl y ↦
          let is : last ∷ lines_above before last.indent ≡ line ∷ above = rw y at e in
          let same : last ≡ line = cc in
          let rest : lines_above before last.indent ≡ above = cc in
          let at : PlacedLine = record { line = line; kind = kind_by line.tokens above; above = above } in
          let placed : place before last ≡ at = rw (rest, same) refl in
          record {
            earlier = placed_of before;
            later = [];
            whole = ap (λ (one : PlacedLine). placed_of before ++ one ∷ []) placed;
            before = subst (λ (one : Line). Each (λ (at : PlacedLine). at.line.number < one.number) (placed_of before)) same
                (each_weaker (IsBefore last.number) (λ (at : PlacedLine). at.line.number < last.number) (λ at k. k.0) (placed_of before) (all_before last.number before f.0));
            behind = tt;
          }
      | inr n ↦
          let high : indent ≤ last.indent = ltb-false last.indent indent n in
          let is : lines_above before indent ≡ line ∷ above = rw n at e in
          let cut = cut_above before indent line above f.1 is in
          let less = head_less last.number line (lines_above before indent) above is (each_above (λ one. one.number < last.number) before indent f.0) in
          let at : PlacedLine = record { line = line; kind = kind_by line.tokens above; above = above } in
          record {
            earlier = cut.earlier;
            later = cut.later ++ place before last ∷ [];
            whole = ap (λ (placed : List PlacedLine). placed ++ place before last ∷ []) cut.whole ∙ append_assoc cut.earlier (at ∷ cut.later) (place before last ∷ []);
            before = cut.before;
            behind = each_append (λ (at : PlacedLine). (line.number < at.line.number) × IsFrom line.number at.above) cut.later (place before last ∷ []) cut.behind
                ((less, nearer before indent last.indent line above high f.1 is), tt);
          }
    ]
