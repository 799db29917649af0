-- What the first wrong line, the end and the answer say of the lines.
use Rattle.std.proofs.Common.{◌≡◌, ◌∙◌, ◌⊎◌, refl, sym, ap, subst, inl, inr, ⊎_elim, ℕ, suc, ◌+◌, Bool, true, false, cond, List, [], ◌∷◌, ◌++◌, length, append-nil, append_assoc, arith}
use Rattle.std.specs.Prelude.{◌-◌, ◌==◌, ◌↔◌, IsTrue, Option, Some, None, slice_get}
use Rattle.std.specs.Option.{option_map}
use Rattle.std.proofs.lemmas.Bool.{false≢true, cases_Bool, eqb-true, false_from_ne_true}
use Rattle.clauses.specs.declared.literal.Lit.{Lit}
use Rattle.clauses.specs.Clause.{are_satisfied}
use Rattle.clauses.specs.Closure.{follows, AreDerived, IsDerivation}
use Rattle.clauses.proofs.DerivationLaws.{derivation-unsatisfiable}
use Rattle.derivation_check.specs.declared.checked.Checked.TheVariants as checked
use Rattle.derivation_check.specs.Checking.{answer_of, check, ends_empty, first_wrong, EndsEmpty, IsFirstWrong}

abbrev more : ℕ → ℕ
more number = number + 1

-- ---- the first wrong line

pub none-wrong : (clauses lines : List (List Lit)) → AreDerived clauses lines → first_wrong clauses lines ≡ None
none-wrong clauses [] d = refl
none-wrong clauses (l ∷ lines) d =
    ap (λ b. cond b (option_map more (first_wrong (clauses ++ l ∷ []) lines)) (Some 0)) d.0
    ∙ ap (option_map more) (none-wrong (clauses ++ l ∷ []) lines d.1)

pub wrong-at : (clauses before : List (List Lit)) (line : List Lit) (after : List (List Lit)) → AreDerived clauses before → follows (clauses ++ before) line ≡ false
    → first_wrong clauses (before ++ line ∷ after) ≡ Some (length before)
wrong-at clauses [] line after d f =
    ap (λ b. cond b (option_map more (first_wrong (clauses ++ line ∷ []) after)) (Some 0)) (subst (λ c. follows c line ≡ false) (append-nil clauses) f)
wrong-at clauses (l ∷ before) line after d f =
    let count : length before + 1 ≡ length (l ∷ before) = omega arith in
    ap (λ b. cond b (option_map more (first_wrong (clauses ++ l ∷ []) (before ++ line ∷ after))) (Some 0)) d.0
    ∙ ap (option_map more) (wrong-at (clauses ++ l ∷ []) before line after d.1 (subst (λ c. follows c line ≡ false) (sym (append_assoc clauses (l ∷ []) before)) f))
    ∙ ap Some count

wrong-later : (clauses lines : List (List Lit)) (l : List Lit) (number : ℕ) → follows clauses l ≡ true → IsFirstWrong (clauses ++ l ∷ []) lines number → IsFirstWrong clauses (l ∷ lines) (number + 1)
wrong-later clauses lines l number t (before, line, after, e, count, derived, not) = (
  l ∷ before,
  line,
  after,
  ap (λ ls. l ∷ ls) e,
  omega arith,
  (t, derived),
  (λ f. not (subst (λ c. follows c line ≡ true) (sym (append_assoc clauses (l ∷ []) before)) f)),
)

pub all_or_first : (clauses lines : List (List Lit)) → AreDerived clauses lines ⊎ ((number : ℕ) × IsFirstWrong clauses lines number)
all_or_first clauses [] = inl tt
all_or_first clauses (l ∷ lines) =
    ⊎_elim
    (λ (t : follows clauses l ≡ true).
    ⊎_elim
    (λ (d : AreDerived (clauses ++ l ∷ []) lines). inl (t, d))
    (λ (w : (number : ℕ) × IsFirstWrong (clauses ++ l ∷ []) lines number). inr (w.0 + 1, wrong-later clauses lines l w.0 t w.1))
    (all_or_first (clauses ++ l ∷ []) lines))
    (λ (f : follows clauses l ≡ false).
    inr (0, ([], l, lines, refl, refl, tt, λ t. false≢true (sym (subst (λ c. follows c l ≡ false) (sym (append-nil clauses)) f) ∙ t))))
    (cases_Bool (follows clauses l))

pub wrong-is : (clauses lines : List (List Lit)) (number : ℕ) → IsFirstWrong clauses lines number → first_wrong clauses lines ≡ Some number
wrong-is clauses lines number (before, line, after, e, count, derived, not) =
    ap (first_wrong clauses) e ∙ wrong-at clauses before line after derived (false_from_ne_true (follows (clauses ++ before) line) not) ∙ ap Some count

pub all-from : (clauses lines : List (List Lit)) → first_wrong clauses lines ≡ None → AreDerived clauses lines
all-from clauses lines e =
    ⊎_elim
    (λ (d : AreDerived clauses lines). d)
    (λ (w : (number : ℕ) × IsFirstWrong clauses lines number). let no : None ≡ Some w.0 = sym e ∙ wrong-is clauses lines w.0 w.1 in absurd (cc))
    (all_or_first clauses lines)

pub first-from : (clauses lines : List (List Lit)) (number : ℕ) → first_wrong clauses lines ≡ Some number → IsFirstWrong clauses lines number
first-from clauses lines number e =
    ⊎_elim
    (λ (d : AreDerived clauses lines). let no : None ≡ Some number = sym (none-wrong clauses lines d) ∙ e in absurd (cc))
    (λ (w : (number : ℕ) × IsFirstWrong clauses lines number).
    let some : Some w.0 ≡ Some number = sym (wrong-is clauses lines w.0 w.1) ∙ e in
    let same : w.0 ≡ number = cc in
    subst (IsFirstWrong clauses lines) same w.1)
    (all_or_first clauses lines)

-- ---- the end

empty-from : (line : List Lit) → (length line == 0) ≡ true → line ≡ []
empty-from [] e = refl
empty-from (x ∷ line) e = let none : length (x ∷ line) ≡ 0 = eqb-true (length (x ∷ line)) 0 e in absurd (omega arith)

pub ends-from : (lines : List (List Lit)) → ends_empty lines ≡ true → EndsEmpty lines
ends-from [] e = absurd (false≢true e)
ends-from (line ∷ []) e = ([], ap (λ l. l ∷ []) (empty-from line e))
ends-from (line ∷ next ∷ lines) e = let rest = ends-from (next ∷ lines) e in (line ∷ rest.0, ap (λ ls. line ∷ ls) rest.1)

ends-push : (before : List (List Lit)) → ends_empty (before ++ [] ∷ []) ≡ true
ends-push [] = refl
ends-push (x ∷ []) = refl
ends-push (x ∷ y ∷ before) = ends-push (y ∷ before)

pub ends-to : (lines : List (List Lit)) → EndsEmpty lines → ends_empty lines ≡ true
ends-to lines end = ap ends_empty end.1 ∙ ends-push end.0

pub ends-last : (lines : List (List Lit)) (line : List Lit) → slice_get lines (length lines - 1) ≡ Some line → ends_empty lines ≡ (length line == 0)
ends-last [] line e = absurd (cc)
ends-last (x ∷ []) line e = let same : x ≡ line = cc in ap (λ (l : List Lit). length l == 0) same
ends-last (x ∷ y ∷ lines) line e =
    let place : length (x ∷ y ∷ lines) - 1 ≡ suc (length (y ∷ lines) - 1) = omega arith in
    ends-last (y ∷ lines) line (sym (ap (slice_get (x ∷ y ∷ lines)) place) ∙ e)

-- ---- the answer

yes-parts : (wrong : Option ℕ) (ended : Bool) → answer_of wrong ended ≡ checked.Yes → (wrong ≡ None) × (ended ≡ true)
yes-parts (Some number) ended e = absurd (cc)
yes-parts None true e = (refl, refl)
yes-parts None false e = absurd (cc)

end-parts : (wrong : Option ℕ) (ended : Bool) → answer_of wrong ended ≡ checked.NoEnd → (wrong ≡ None) × (ended ≡ false)
end-parts (Some number) ended e = absurd (cc)
end-parts None true e = absurd (cc)
end-parts None false e = (refl, refl)

at-part : (wrong : Option ℕ) (ended : Bool) (number : ℕ) → answer_of wrong ended ≡ checked.NoAt number → wrong ≡ Some number
at-part (Some other) ended number e = let same : other ≡ number = cc in ap Some same
at-part None true number e = absurd (cc)
at-part None false number e = absurd (cc)

module _ (clauses lines : List (List Lit)) where
  pub yes-iff : (check clauses lines ≡ checked.Yes) ↔ IsDerivation clauses lines
  yes-iff = (
    (λ e. let parts = yes-parts (first_wrong clauses lines) (ends_empty lines) e in (all-from clauses lines parts.0, ends-from lines parts.1)),
    (λ d. ap (λ w. answer_of w (ends_empty lines)) (none-wrong clauses lines d.0) ∙ ap (answer_of None) (ends-to lines d.1)),
  )

  pub yes-unsatisfiable : check clauses lines ≡ checked.Yes → (values : List Bool) → ¬ IsTrue (are_satisfied values clauses)
  yes-unsatisfiable e values t = derivation-unsatisfiable values clauses lines (yes-iff.0 e) t

  pub at-iff : (number : ℕ) → (check clauses lines ≡ checked.NoAt number) ↔ IsFirstWrong clauses lines number
  at-iff number = (
    (λ e. first-from clauses lines number (at-part (first_wrong clauses lines) (ends_empty lines) number e)),
    (λ w. ap (λ o. answer_of o (ends_empty lines)) (wrong-is clauses lines number w)),
  )

  pub end-iff : (check clauses lines ≡ checked.NoEnd) ↔ (AreDerived clauses lines × (¬ EndsEmpty lines))
  end-iff = (
    (λ e.
        let parts = end-parts (first_wrong clauses lines) (ends_empty lines) e in
        (all-from clauses lines parts.0, λ end. false≢true (sym parts.1 ∙ ends-to lines end))),
    (λ d. ap (λ w. answer_of w (ends_empty lines)) (none-wrong clauses lines d.0) ∙ ap (answer_of None) (false_from_ne_true (ends_empty lines) (λ t. d.1 (ends-from lines t)))),
  )
