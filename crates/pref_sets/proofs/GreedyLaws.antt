-- The greedy fold gives at most one set, and for a test the set that is computed.
use Rattle.std.proofs.Common.{◌≡◌, ℕ, Bool, true, false, cond, List, [], ◌∷◌, ◌⊎◌, fold, refl, sym, ◌∙◌, inl, inr}
use Rattle.std.specs.Prelude.{IsTrue}
use Rattle.std.proofs.lemmas.Bool.{false≢true}
use Rattle.pref_sets.specs.Greedy.{IsGreedy, greedy_of, set_after}

pub IsGreedy-unique : (P : List ℕ → Type 0) (step : List ℕ → ℕ → List ℕ) (items set a b : List ℕ) → IsGreedy P step set items a → IsGreedy P step set items b → a ≡ b
IsGreedy-unique P step [] set a b p q = p ∙ sym q
IsGreedy-unique P step (item ∷ items) set a b (inl p) (inl q) = IsGreedy-unique P step items (step set item) a b p.1 q.1
IsGreedy-unique P step (item ∷ items) set a b (inl p) (inr q) = absurd (q.0 p.0)
IsGreedy-unique P step (item ∷ items) set a b (inr p) (inl q) = absurd (p.0 q.0)
IsGreedy-unique P step (item ∷ items) set a b (inr p) (inr q) = IsGreedy-unique P step items set a b p.1 q.1

-- the step at an item, by what the test says of the set that it leads to
step_by_test : (passes : Bool) (next set : List ℕ) (Goes : List ℕ → List ℕ → Type 0) → ((s : List ℕ) → Goes s s) → (IsTrue passes × Goes next (cond passes next set)) ⊎ ((¬ IsTrue passes) × Goes set (cond passes next set))
step_by_test true next set Goes goes = inl (refl, goes next)
step_by_test false next set Goes goes = inr (false≢true, goes set)

pub IsGreedy-greedy_of : (test : List ℕ → Bool) (step : List ℕ → ℕ → List ℕ) (items set : List ℕ) → IsGreedy (λ s. IsTrue (test s)) step set items (greedy_of test step set items)
IsGreedy-greedy_of test step [] set = refl
IsGreedy-greedy_of test step (item ∷ items) set =
    step_by_test (test (step set item)) (step set item) set
    (λ s t. IsGreedy (λ u. IsTrue (test u)) step s items (fold (set_after test step) t items))
    (λ s. IsGreedy-greedy_of test step items s)
