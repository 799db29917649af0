-- Lists in which one item was changed, or to which one was added.
use Rattle.std.proofs.Common.{◌≡◌, ◌≢◌, refl, ap, sym, subst, Result, Ok, Err, ℕ, zero, suc, ◌+◌, ◌<◌, ◌⊎◌, inl, inr, List, [], ◌∷◌, ◌++◌, All, Some, length, arith}
use Rattle.std.specs.List.{slice_get, slice_set}
use Rattle.std.specs.Option.{option_map}
use Rattle.std.specs.Result.{OnOk, OnErr}
use Rattle.std.proofs.lemmas.List.Elements.{All-nil, All-cons, All-head, All-tail}
use Rattle.feature_tree.specs.Growing.{changed_at, changed_last}

-- ---- results

pub OnErr-holds : {T E : Type 0} (r : Result T E) (P : Type 0) → P → OnErr r P
OnErr-holds (Ok x) P p = tt
OnErr-holds (Err e) P p = p

-- what holds of the value after either result
pub after_either : {T E V : Type 0} (P : V → Type 0) (r : Result T E) (new ok err : V) → OnOk r (new ≡ ok) → OnErr r (new ≡ err) → P ok → P err → P new
after_either P (Ok x) new ok err on_ok on_err p q = subst P (sym on_ok) p
after_either P (Err e) new ok err on_ok on_err p q = subst P (sym on_err) q

module _ {X : Type 0} where
  -- ---- one more item at the end

  pub slice_get-push_before : (xs : List X) (y : X) (k : ℕ) → k < length xs → slice_get (xs ++ y ∷ []) k ≡ slice_get xs k
  slice_get-push_before [] y k within = absurd (omega arith)
  slice_get-push_before (x ∷ xs) y zero within = refl
  slice_get-push_before (x ∷ xs) y (suc k) within = slice_get-push_before xs y k (omega arith)

  pub slice_get-push_last : (xs : List X) (y : X) → slice_get (xs ++ y ∷ []) (length xs) ≡ Some y
  slice_get-push_last [] y = refl
  slice_get-push_last (x ∷ xs) y = slice_get-push_last xs y

  -- what stands in the longer list stood there before, or is the new item
  pub slice_get-push_cases : (xs : List X) (y : X) (k : ℕ) (z : X) → slice_get (xs ++ y ∷ []) k ≡ Some z
      → ((k < length xs) × (slice_get xs k ≡ Some z)) ⊎ ((k ≡ length xs) × (y ≡ z))
  slice_get-push_cases [] y zero z is = inr (refl, cc)
  slice_get-push_cases [] y (suc k) z is = absurd (cc)
  slice_get-push_cases (x ∷ xs) y zero z is = inl (omega arith, is)
  slice_get-push_cases (x ∷ xs) y (suc k) z is = elim (slice_get-push_cases xs y k z is) [
    | inl before ↦ inl (omega (arith, before.0), before.1)
    | inr last ↦ inr (ap suc last.0, last.1)
  ]

  -- ---- one item changed

  pub slice_set-same : (xs : List X) (i : ℕ) (x : X) → slice_get xs i ≡ Some x → slice_set xs i x ≡ xs
  slice_set-same [] i x is = absurd (cc)
  slice_set-same (y ∷ xs) zero x is = let same : x ≡ y = cc in ap (λ first. first ∷ xs) same
  slice_set-same (y ∷ xs) (suc i) x is = ap (λ rest. y ∷ rest) (slice_set-same xs i x is)

  module _ (change : X → X) where
    pub slice_set-changed_at : (xs : List X) (i : ℕ) (x : X) → slice_get xs i ≡ Some x → slice_set xs i (change x) ≡ changed_at change xs i
    slice_set-changed_at [] i x is = absurd (cc)
    slice_set-changed_at (y ∷ xs) zero x is = let same : x ≡ y = cc in ap (λ first. change first ∷ xs) same
    slice_set-changed_at (y ∷ xs) (suc i) x is = ap (λ rest. y ∷ rest) (slice_set-changed_at xs i x is)

    pub slice_set-changed_last : (xs : List X) (i : ℕ) (x : X) → i + 1 ≡ length xs → slice_get xs i ≡ Some x → slice_set xs i (change x) ≡ changed_last change xs
    slice_set-changed_last [] i x last is = absurd (cc)
    slice_set-changed_last (y ∷ []) zero x last is = let same : x ≡ y = cc in ap (λ first. change first ∷ []) same
    slice_set-changed_last (y ∷ []) (suc i) x last is = absurd (omega arith)
    slice_set-changed_last (y ∷ z ∷ xs) zero x last is = absurd (omega arith)
    slice_set-changed_last (y ∷ z ∷ xs) (suc i) x last is = ap (λ rest. y ∷ rest) (slice_set-changed_last (z ∷ xs) i x (omega arith) is)

    pub changed_at-append : (xs ys : List X) (i : ℕ) → i < length xs → changed_at change (xs ++ ys) i ≡ changed_at change xs i ++ ys
    changed_at-append [] ys i within = absurd (omega arith)
    changed_at-append (x ∷ xs) ys zero within = refl
    changed_at-append (x ∷ xs) ys (suc i) within = ap (λ rest. x ∷ rest) (changed_at-append xs ys i (omega arith))

    pub length-changed_at : (xs : List X) (i : ℕ) → length (changed_at change xs i) ≡ length xs
    length-changed_at [] i = refl
    length-changed_at (x ∷ xs) zero = refl
    length-changed_at (x ∷ xs) (suc i) = ap suc (length-changed_at xs i)

    pub slice_get-changed_at : (xs : List X) (i : ℕ) → slice_get (changed_at change xs i) i ≡ option_map change (slice_get xs i)
    slice_get-changed_at [] i = refl
    slice_get-changed_at (x ∷ xs) zero = refl
    slice_get-changed_at (x ∷ xs) (suc i) = slice_get-changed_at xs i

    pub slice_get-changed_at_other : (xs : List X) (i k : ℕ) → k ≢ i → slice_get (changed_at change xs i) k ≡ slice_get xs k
    slice_get-changed_at_other [] i k other = refl
    slice_get-changed_at_other (x ∷ xs) zero zero other = absurd (other refl)
    slice_get-changed_at_other (x ∷ xs) zero (suc k) other = refl
    slice_get-changed_at_other (x ∷ xs) (suc i) zero other = refl
    slice_get-changed_at_other (x ∷ xs) (suc i) (suc k) other = slice_get-changed_at_other xs i k (λ same. other (ap suc same))

    pub All-changed_last : (P : X → Type 0) (xs : List X) → ((x : X) → P x → P (change x)) → All P xs → All P (changed_last change xs)
    All-changed_last P [] kept all = all
    All-changed_last P (x ∷ []) kept all = All-cons P (change x) [] (kept x (All-head P x [] all)) (All-nil P)
    All-changed_last P (x ∷ y ∷ xs) kept all =
        All-cons P x (changed_last change (y ∷ xs)) (All-head P x (y ∷ xs) all) (All-changed_last P (y ∷ xs) kept (All-tail P x (y ∷ xs) all))
