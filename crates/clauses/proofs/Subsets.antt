-- Sets of numbers below v that differ in pairs are at most 2 ^ v.
use Rattle.std.proofs.Common.{◌≡◌, ◌∙◌, refl, sym, ⊎_elim, ℕ, zero, suc, ◌+◌, ◌*◌, ◌^◌, ◌≤◌, Bool, true, false, cond, not, ◌&&◌, List, [], ◌∷◌, length, arith, pow-suc}
use Rattle.std.specs.Prelude.{Contains, filter}
use Rattle.std.proofs.lemmas.Bool.{true≢false, false≢true, and_from, cases_Bool}
use Rattle.lists.proofs.Members.{first, from_filter}

abbrev Set : Type 0
Set = ℕ → Bool

abbrev equal : Bool → Bool → Bool
equal a b = cond a b (not b)

-- whether the sets agree below v
abbrev pub agree : ℕ → Set → Set → Bool
agree zero f g = true
agree (suc v) f g = equal (f v) (g v) && agree v f g

-- each differs below v from each later one
abbrev pub Differ : ℕ → List Set → Type 0
Differ v [] = Unit {0}
Differ v (f ∷ fs) = ((g : Set) → Contains fs g → agree v f g ≡ false) × Differ v fs

equal_same : (a b c : Bool) → a ≡ c → b ≡ c → equal a b ≡ true
equal_same true b c p q = q ∙ sym p
equal_same false true c p q = p ∙ sym q
equal_same false false c p q = refl

-- those that have v, or haven't, differ below v
agree_below : (v : ℕ) (f g : Set) (c : Bool) → f v ≡ c → g v ≡ c → agree (suc v) f g ≡ false → agree v f g ≡ false
agree_below v f g c p q e =
    ⊎_elim
    (λ (t : agree v f g ≡ true). absurd (false≢true (sym e ∙ and_from (equal (f v) (g v)) (agree v f g) (equal_same (f v) (g v) c p q) t)))
    (λ (h : agree v f g ≡ false). h)
    (cases_Bool (agree v f g))

module _ (v : ℕ) (has_it : Bool → Bool) (c : Bool) (only : (b : Bool) → has_it b ≡ true → b ≡ c) where
  kept_case : (b : Bool) (f : Set) (us : List Set) → ((g : Set) → b ≡ true → Contains us g → agree v f g ≡ false) → Differ v us → Differ v (cond b (f ∷ us) us)
  kept_case true f us h d = ((λ g m. h g refl m), d)
  kept_case false f us h d = d

  differ_filter : (fs : List Set) → Differ (suc v) fs → Differ v (filter (λ f. has_it (f v)) fs)
  differ_filter [] d = tt
  differ_filter (f ∷ fs) d =
      kept_case (has_it (f v)) f (filter (λ g. has_it (g v)) fs)
      (λ g e m. let of = from_filter (λ k. has_it (k v)) fs g m in agree_below v f g c (only (f v) e) (only (g v) of.1) (d.0 g of.0))
      (differ_filter fs d.1)

split : (p : Set → Bool) (fs : List Set) → length fs ≡ length (filter p fs) + length (filter (λ f. not (p f)) fs)
split p [] = refl
split p (f ∷ fs) = by (p f) (split p fs)
  where
    by : (b : Bool) → length fs ≡ length (filter p fs) + length (filter (λ g. not (p g)) fs)
        → suc (length fs) ≡ length (cond b (f ∷ filter p fs) (filter p fs)) + length (cond (not b) (f ∷ filter (λ g. not (p g)) fs) (filter (λ g. not (p g)) fs))
    by true h = omega arith
    by false h = omega arith

is_false : (b : Bool) → not b ≡ true → b ≡ false
is_false true e = absurd (false≢true e)
is_false false e = refl

one_at_zero : (fs : List Set) → Differ 0 fs → length fs ≤ 1
one_at_zero [] d = omega arith
one_at_zero (f ∷ []) d = omega arith
one_at_zero (f ∷ g ∷ fs) d = absurd (true≢false (d.0 g (first g fs)))

pub differ-most : (v : ℕ) (fs : List Set) → Differ v fs → length fs ≤ 2 ^ v
differ-most zero fs d = one_at_zero fs d
differ-most (suc v) fs d =
    let with_it = differ-most v (filter (λ f. f v) fs) (differ_filter v (λ b. b) true (λ b e. e) fs d) in
    let without = differ-most v (filter (λ f. not (f v)) fs) (differ_filter v not false is_false fs d) in
    let parts = split (λ f. f v) fs in
    let twice : 2 ^ suc v ≡ 2 ^ v * 2 = pow-suc 2 v in
    omega arith
