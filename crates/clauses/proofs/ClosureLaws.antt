-- What the rounds of the closure add, and what follows for assignments.
use Rattle.std.proofs.Common.{◌≡◌, ◌∙◌, ◌⊎◌, refl, sym, ap, subst, inl, inr, ⊎_elim, ℕ, zero, suc, Bool, true, false, cond, not, ◌||◌, List, [], ◌∷◌, ◌++◌, map, fold}
use Rattle.std.specs.Prelude.{Contains, filter, flat_map, slice_index_or}
use Rattle.std.proofs.lemmas.Bool.{false≢true, cases_Bool, or_cases}
use Rattle.std.proofs.lemmas.List.Elements.{Contains-append_cases, Contains-push_cases}
use Rattle.clauses.specs.declared.literal.Lit.{Lit}
use Rattle.clauses.specs.Clause.{is_same, has, negation, unit_of, is_true_in, is_satisfied, are_satisfied}
use Rattle.clauses.specs.Closure.{is_forcing, forced_by, with_literal, newly_forced, rounds, closure, literal_count, is_refuted, clash, follows}
use Rattle.lists.proofs.Members.{first, later, none, any_from, any_none, any_at, all_at, all_from, from_filter, from_map, from_flat_map}
use Rattle.clauses.proofs.Literals.{is_same-eq, from_has}

-- ---- one round

with_cases : (b : Bool) (set : List Lit) (x l : Lit) → Contains (cond b set (set ++ x ∷ [])) l → Contains set l ⊎ (x ≡ l)
with_cases true set x l m = inl m
with_cases false set x l m = Contains-push_cases set x l m

from_fold : (set xs : List Lit) (l : Lit) → Contains (fold with_literal set xs) l → Contains set l ⊎ Contains xs l
from_fold set [] l m = inl m
from_fold set (x ∷ xs) l m =
    ⊎_elim
    (λ (s : Contains (with_literal set x) l).
    ⊎_elim (λ (o : Contains set l). inl o) (λ (e : x ≡ l). inr (subst (Contains (x ∷ xs)) e (first x xs))) (with_cases (has set x) set x l s))
    (λ (r : Contains xs l). inr (later x xs l r))
    (from_fold (with_literal set x) xs l m)

-- a new literal: some clause forces it
pub from_newly_forced : (clauses : List (List Lit)) (set : List Lit) (l : Lit) → Contains (newly_forced clauses set) l
    → (clause : List Lit) × Contains clauses clause × Contains clause l × (is_forcing set clause l ≡ true) × (not (has set l) ≡ true)
from_newly_forced clauses set l m =
    let forced = flat_map (forced_by set) clauses in
    let new = ⊎_elim (λ (o : Contains [] l). absurd (none l o)) (λ (r : Contains (filter (λ x. not (has set x)) forced) l). r) (from_fold [] (filter (λ x. not (has set x)) forced) l m) in
    let apart = from_filter (λ x. not (has set x)) forced l new in
    let of = from_flat_map (forced_by set) clauses l apart.0 in
    let forces = from_filter (is_forcing set of.0) of.0 l of.2 in
    (of.0, of.1, forces.0, forces.1, apart.1)

-- ---- all rounds

module _ (clauses : List (List Lit)) (P : List Lit → Type 0) (step : (set : List Lit) → P set → P (set ++ newly_forced clauses set)) where
  next_round : (n : ℕ) (set : List Lit) → P set → ((s : List Lit) → P s → P (rounds clauses n s)) → (new : List Lit) → P (set ++ new)
      → P (elim new [ [] ↦ set | literal ∷ more ↦ rounds clauses n (set ++ literal ∷ more) ])
  next_round n set p rest [] q = p
  next_round n set p rest (l ∷ more) q = rest (set ++ l ∷ more) q

  pub rounds-keep : (n : ℕ) (set : List Lit) → P set → P (rounds clauses n set)
  rounds-keep zero set p = p
  rounds-keep (suc n) set p = next_round n set p (rounds-keep n) (newly_forced clauses set) (step set p)

-- ---- assignments

not_true : (b : Bool) → not b ≡ true → b ≡ true → ⊥
not_true true e t = false≢true e
not_true false e t = false≢true t

negated_value : (values : List Bool) (var : ℕ) (sign : Bool) → is_true_in values (record { var = var; positive = not sign }) ≡ not (is_true_in values (record { var = var; positive = sign }))
negated_value values var true = refl
negated_value values var false = sym (twice (slice_index_or values var false))
  where
    twice : (b : Bool) → not (not b) ≡ b
    twice true = refl
    twice false = refl

-- a literal and its negation aren't both true
pub not_both_true : (values : List Bool) (l : Lit) → is_true_in values (negation l) ≡ true → is_true_in values l ≡ true → ⊥
not_both_true values l e t = not_true (is_true_in values l) (sym (negated_value values l.var l.positive) ∙ e) t

pub negation_true : (values : List Bool) (l : Lit) → is_true_in values l ≡ false → is_true_in values (negation l) ≡ true
negation_true values l e = negated_value values l.var l.positive ∙ ap not e

-- each literal of the set is true
abbrev pub AllTrue : List Bool → List Lit → Type 0
AllTrue values set = (l : Lit) → Contains set l → is_true_in values l ≡ true

module _ (values : List Bool) (clauses : List (List Lit)) (holds : are_satisfied values clauses ≡ true) where
  -- what a satisfied clause forces is true
  forced_true : (set clause : List Lit) (l : Lit) → AllTrue values set → Contains clauses clause → is_forcing set clause l ≡ true → is_true_in values l ≡ true
  forced_true set clause l all m forces =
      let some = any_at (is_true_in values) clause (all_at (is_satisfied values) clauses clause holds m) in
      let other = all_at (λ o. is_same l o || has set (negation o)) clause some.0 forces some.1 in
      ⊎_elim
      (λ (same : is_same l some.0 ≡ true). subst (λ o. is_true_in values o ≡ true) (sym (is_same-eq l some.0 same)) some.2)
      (λ (negated : has set (negation some.0) ≡ true). absurd (not_both_true values some.0 (all (negation some.0) (from_has set (negation some.0) negated)) some.2))
      (or_cases (is_same l some.0) (has set (negation some.0)) other)

  pub closure-true : AllTrue values (closure clauses)
  closure-true =
      rounds-keep clauses (AllTrue values)
      (λ set all l m.
      ⊎_elim
      (λ (old : Contains set l). all l old)
      (λ (new : Contains (newly_forced clauses set) l). let of = from_newly_forced clauses set l new in forced_true set of.0 l all of.1 of.3)
      (Contains-append_cases set (newly_forced clauses set) l m))
      (literal_count clauses) [] (λ l m. absurd (none l m))

  -- clauses that an assignment satisfies don't clash
  pub satisfied-no_clash : clash clauses ≡ true → ⊥
  satisfied-no_clash e =
      let refuted = any_at (is_refuted (closure clauses)) clauses e in
      let some = any_at (is_true_in values) refuted.0 (all_at (is_satisfied values) clauses refuted.0 holds refuted.1) in
      let negated = all_at (λ l. has (closure clauses) (negation l)) refuted.0 some.0 refuted.2 some.1 in
      not_both_true values some.0 (closure-true (negation some.0) (from_has (closure clauses) (negation some.0) negated)) some.2

-- what follows from satisfied clauses is satisfied
pub follows-satisfied : (values : List Bool) (clauses : List (List Lit)) (clause : List Lit) → are_satisfied values clauses ≡ true → follows clauses clause ≡ true → is_satisfied values clause ≡ true
follows-satisfied values clauses clause holds e =
    ⊎_elim
    (λ (t : is_satisfied values clause ≡ true). t)
    (λ (f : is_satisfied values clause ≡ false).
    let negations = map (λ l. unit_of (negation l)) clause in
    absurd
    (satisfied-no_clash values (clauses ++ negations)
    (all_from (is_satisfied values) (clauses ++ negations) (λ c m.
    ⊎_elim
    (λ (old : Contains clauses c). all_at (is_satisfied values) clauses c holds old)
    (λ (new : Contains negations c).
    let of = from_map (λ l. unit_of (negation l)) clause c new in
    subst (λ d. is_satisfied values d ≡ true) of.2
    (any_from (is_true_in values) (unit_of (negation of.0)) (negation of.0) (first (negation of.0) []) (negation_true values of.0 (any_none (is_true_in values) clause of.0 f of.1))))
    (Contains-append_cases clauses negations c m)))
    e))
    (cases_Bool (is_satisfied values clause))
