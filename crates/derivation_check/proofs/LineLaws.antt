-- Lines that were learned, one after another.
use Rattle.std.proofs.Common.{◌≡◌, ◌∙◌, sym, ap, subst, ⊎_elim, ℕ, ◌+◌, ◌<◌, ◌≤◌, true, false, List, [], ◌∷◌, ◌++◌, length, map, take, drop, get_or, append_assoc, arith}
use Rattle.std.specs.Prelude.{Contains, Some}
use Rattle.std.proofs.lemmas.List.{take_more, take-append-drop, length-take-le}
use Rattle.std.proofs.lemmas.List.Elements.{Contains-append_left, Contains-append_right, Contains-append_cases}
use Rattle.req_keys.specs.Key.{PositionSet}
use Rattle.clauses.specs.declared.literal.Lit.{Lit}
use Rattle.clauses.specs.Clause.{unit_of}
use Rattle.clauses.specs.Closure.{clash, follows, AreDerived}
use Rattle.clauses.specs.Problem.{ClauseProblem, clauses_with, roots_at}
use Rattle.clauses.proofs.DerivationLaws.{derived-push}
use Rattle.propagation.specs.Propagation.{Propagation, propagated}
use Rattle.propagation.specs.Roots.{AreRooted}
use Rattle.propagation.specs.inside.Values.{IsPart}
use Rattle.propagation.proofs.ValueLaws.{clash-same, part-among}
use Rattle.derivation_check.specs.Checking.{first_wrong}
use Rattle.derivation_check.proofs.CheckLaws.{wrong-at}
use Rattle.derivation_check.proofs.NegationLaws.{negations, clash-append}

-- ---- the order of clauses

pub swap : (a b c : List (List Lit)) → IsPart ((a ++ b) ++ c) ((a ++ c) ++ b)
swap a b c clause m =
    ⊎_elim
    (λ (front : Contains (a ++ b) clause).
    ⊎_elim
    (λ (x : Contains a clause). Contains-append_left (a ++ c) b clause (Contains-append_left a c clause x))
    (λ (y : Contains b clause). Contains-append_right (a ++ c) b clause y)
    (Contains-append_cases a b clause front))
    (λ (z : Contains c clause). Contains-append_left (a ++ c) b clause (Contains-append_right a c clause z))
    (Contains-append_cases (a ++ b) c clause m)

front-part : (a b more : List (List Lit)) → IsPart a b → IsPart (a ++ more) (b ++ more)
front-part a b more within clause m =
    ⊎_elim
    (λ (x : Contains a clause). Contains-append_left b more clause (within clause x))
    (λ (y : Contains more clause). Contains-append_right b more clause y)
    (Contains-append_cases a more clause m)

-- learned clauses may stand before the roots or behind them
pub follows-swapped : (a b c : List (List Lit)) (line : List Lit) → follows ((a ++ b) ++ c) line ≡ follows ((a ++ c) ++ b) line
follows-swapped a b c line =
    let left = ((a ++ b) ++ c) ++ negations line in
    let right = ((a ++ c) ++ b) ++ negations line in
    clash-same left right
    (part-among left right (front-part ((a ++ b) ++ c) ((a ++ c) ++ b) (negations line) (swap a b c)))
    (part-among right left (front-part ((a ++ c) ++ b) ((a ++ b) ++ c) (negations line) (swap a c b)))

-- ---- the lines so far

module _ (problem : ClauseProblem) (key : PositionSet) where
  -- the roots of the key are assumed, and these lines are learned, each of which follows
  pub record AreChecked (at : Propagation) (lines : List (List Lit)) : Type 0 where
    pub is : at ≡ record { problem = problem; assumed = roots_at problem key; learned = lines }
    pub counted : length at.assumed ≡ length key.members
    pub few : length at.assumed ≤ 4096
    pub derived : AreDerived (clauses_with problem key) lines

  pub checked-none : (at : Propagation) → AreRooted problem key at → AreChecked at []
  checked-none at rooted = record { is = rooted.is; counted = rooted.counted; few = rooted.few; derived = tt }

  module _ (at : Propagation) (lines : List (List Lit)) (before : AreChecked at lines) (line : List Lit) where
    pub same-follows : follows (propagated at) line ≡ follows (clauses_with problem key ++ lines) line
    same-follows =
        ap (λ (p : Propagation). follows (propagated p) line) before.is
        ∙ follows-swapped problem.clauses lines (map unit_of (roots_at problem key)) line

    pub checked-next : (new : Propagation) → follows (propagated at) line ≡ true → new ≡ record at { learned = at.learned ++ line ∷ [] } → AreChecked new (lines ++ line ∷ [])
    checked-next new f e = record {
      is = e ∙ ap (λ (p : Propagation). record p { learned = p.learned ++ line ∷ [] }) before.is;
      counted = ap (λ (p : Propagation). length p.assumed) e ∙ before.counted;
      few = subst (λ (p : Propagation). length p.assumed ≤ 4096) (sym e) before.few;
      derived = derived-push (clauses_with problem key) lines line before.derived (sym same-follows ∙ f);
    }

    pub checked-wrong : (after : List (List Lit)) → follows (propagated at) line ≡ false → first_wrong (clauses_with problem key) (lines ++ line ∷ after) ≡ Some (length lines)
    checked-wrong after f = wrong-at (clauses_with problem key) lines line after before.derived (sym same-follows ∙ f)

-- where the clauses clash every line follows
pub clash-derives : (clauses lines : List (List Lit)) → clash clauses ≡ true → AreDerived clauses lines
clash-derives clauses [] c = tt
clash-derives clauses (line ∷ lines) c = (clash-append clauses (negations line) c, clash-derives (clauses ++ line ∷ []) lines (clash-append clauses (line ∷ []) c))

-- ---- the loop over the lines

-- the line at some place
module _ (items lines : List (List Lit)) (same : items ≡ lines) (i : ℕ) (inside : i < length items) (line : List Lit) (is : line ≡ get_or items i line) where
  within : i < length lines
  within = let size = ap length same in omega arith

  pub take-next : take (i + 1) lines ≡ take i lines ++ line ∷ []
  take-next = take_more lines i line within ∙ ap (λ l. take i lines ++ l ∷ []) (ap (λ ls. get_or ls i line) (sym same) ∙ sym is)

  pub split-at : lines ≡ take i lines ++ line ∷ drop (i + 1) lines
  split-at =
      sym (take-append-drop (i + 1) lines)
      ∙ ap (λ front. front ++ drop (i + 1) lines) take-next
      ∙ append_assoc (take i lines) (line ∷ []) (drop (i + 1) lines)

  pub take-count : length (take i lines) ≡ i
  take-count = length-take-le i lines (omega (arith, within))
