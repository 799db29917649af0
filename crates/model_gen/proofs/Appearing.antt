-- The features in order of appearance.
use Rattle.std.proofs.Common.{◌≡◌, ◌∙◌, refl, sym, ap, ℕ, zero, suc, ◌+◌, ◌-◌, ◌*◌, ◌/◌, ◌<◌, ◌≤◌, eqb, min, List, [], ◌∷◌, length, get_or, inl, inr, ⊎_elim, Some, arith}
use Rattle.std.specs.Prelude.{Contains, slice_get}
use Rattle.std.specs.List.{range_with_len, flat_map}
use Rattle.std.proofs.lemmas.Bool.{cases_Bool, eq-eqb, eqb-true}
use Rattle.std.proofs.lemmas.List.Elements.{Contains-append_left, Contains-append_right, Contains-append_cases}
use Rattle.std.proofs.lemmas.List.FromFn.{length-range_with_len, get_or-range_with_len}
use Rattle.model_gen.specs.Lines.{children}
use Rattle.model_gen.specs.Whole.{appearing, appearing_within, number_of, place_in}

-- ---- members of joined lists and of ranges

in-part : (f : ℕ → List ℕ) (xs : List ℕ) (x y : ℕ) → Contains xs x → Contains (f x) y → Contains (flat_map f xs) y
in-part f [] x y m n = absurd (omega (arith, m.1))
in-part f (first ∷ xs) x y (zero, l, e) n = Contains-append_left (f first) (flat_map f xs) y (rw (← e) at n)
in-part f (first ∷ xs) x y (suc i, l, e) n = Contains-append_right (f first) (flat_map f xs) y (in-part f xs x y (i, omega (arith, l), e) n)

part-of : (f : ℕ → List ℕ) (xs : List ℕ) (y : ℕ) → Contains (flat_map f xs) y → (x : ℕ) × Contains xs x × Contains (f x) y
part-of f [] y m = absurd (omega (arith, m.1))
part-of f (first ∷ xs) y m =
    ⊎_elim
    (λ (n : Contains (f first) y). (first, (0, omega arith, refl), n))
    (λ (n : Contains (flat_map f xs) y).
    let r = part-of f xs y n in
    (r.0, (suc r.1.0, omega (arith, r.1.1), r.1.2), r.2))
    (Contains-append_cases (f first) (flat_map f xs) y m)

range-bounds : (a m x : ℕ) → Contains (range_with_len a m) x → (a ≤ x) × (x < a + m)
range-bounds a m x c =
    let size = length-range_with_len a m in
    let place : c.0 < length (range_with_len a m) = c.1 in
    let within : c.0 < m = omega arith in
    let value : get_or (range_with_len a m) c.0 x ≡ a + c.0 = get_or-range_with_len a m c.0 x within in
    let same : x ≡ a + c.0 = sym c.2 ∙ value in
    (omega arith, omega arith)

in-range : (a m x : ℕ) → a ≤ x → x < a + m → Contains (range_with_len a m) x
in-range a m x low high =
    let size : length (range_with_len a m) ≡ m = length-range_with_len a m in
    let place : x - a < m = omega arith in
    let value : get_or (range_with_len a m) (x - a) x ≡ a + (x - a) = get_or-range_with_len a m (x - a) x place in
    (x - a, omega arith, value ∙ omega arith)

-- ---- every feature appears

-- the children of a feature that appears do
children-appear : (count size top feature child : ℕ) → top ≤ size → size - top < count → Contains (appearing_within count size top) feature → Contains (children size feature) child → Contains (appearing_within count size top) child
children-appear zero size top feature child le l m n = absurd (omega arith)
children-appear (suc zero) size top feature child le l (zero, k, e) n =
    let bounds = range-bounds (4 * feature + 1) (min 4 (size - 4 * feature)) child n in
    let same : top ≡ feature = e in
    absurd (omega (arith, bounds.0, bounds.1))
children-appear (suc (suc count)) size top feature child le l (zero, k, e) n =
    let rest : Contains (flat_map (appearing_within (suc count) size) (children size top)) child =
    in-part (appearing_within (suc count) size) (children size top) child child (rw e n) (0, omega arith, refl) in
    (suc rest.0, omega (arith, rest.1), rest.2)
children-appear (suc count) size top feature child le l (suc i, k, e) n =
    let part = part-of (appearing_within count size) (children size top) feature (i, omega (arith, k), e) in
    let bounds = range-bounds (4 * top + 1) (min 4 (size - 4 * top)) part.0 part.1 in
    let deeper : Contains (appearing_within count size part.0) child =
    children-appear count size part.0 feature child (omega (arith, bounds.0, bounds.1)) (omega (arith, bounds.0, bounds.1)) part.2 n in
    let rest : Contains (flat_map (appearing_within count size) (children size top)) child =
    in-part (appearing_within count size) (children size top) part.0 child part.1 deeper in
    (suc rest.0, omega (arith, rest.1), rest.2)

appears-within : (count size feature : ℕ) → feature < count → feature ≤ size → Contains (appearing_within (suc size) size 0) feature
appears-within zero size feature l le = absurd (omega arith)
appears-within (suc count) size zero l le = (0, omega arith, refl)
appears-within (suc count) size (suc feature) l le =
    children-appear (suc size) size 0 (feature / 4) (suc feature) (omega arith) (omega arith)
    (appears-within count size (feature / 4) (omega arith) (omega arith))
    (in-range (4 * (feature / 4) + 1) (min 4 (size - 4 * (feature / 4))) (suc feature) (omega arith) (omega arith))

pub appears : (size feature : ℕ) → feature ≤ size → Contains (appearing size) feature
unfolding appearing
appears size feature le = appears-within (suc feature) size feature (omega arith) le

-- nothing else appears
within-below : (count size top feature : ℕ) → top ≤ size → Contains (appearing_within count size top) feature → feature ≤ size
within-below zero size top feature le m = absurd (omega (arith, m.1))
within-below (suc count) size top feature le (zero, k, e) = let same : top ≡ feature = e in omega arith
within-below (suc count) size top feature le (suc i, k, e) =
    let part = part-of (appearing_within count size) (children size top) feature (i, omega (arith, k), e) in
    let bounds = range-bounds (4 * top + 1) (min 4 (size - 4 * top)) part.0 part.1 in
    within-below count size part.0 feature (omega (arith, bounds.0, bounds.1)) part.2

pub appearing-below : (size feature : ℕ) → Contains (appearing size) feature → feature ≤ size
unfolding appearing
appearing-below size feature m = within-below (suc size) size 0 feature (omega arith) m

-- ---- their numbers

place-of : (xs : List ℕ) (x : ℕ) → Contains xs x → (place_in xs x < length xs) × (slice_get xs (place_in xs x) ≡ Some x)
place-of [] x m = absurd (omega (arith, m.1))
place-of (first ∷ xs) x (zero, l, e) = rw (eq-eqb first x e) (omega arith, ap Some e)
place-of (first ∷ xs) x (suc i, l, e) =
    let rest = place-of xs x (i, omega (arith, l), e) in
    elim (cases_Bool (eqb first x)) [
      | inl y ↦ rw y (omega arith, ap Some (eqb-true first x y))
      | inr n ↦ rw n (omega (arith, rest.0), rest.1)
    ]

pub number-below : (size feature : ℕ) → feature ≤ size → number_of size feature < length (appearing size)
number-below size feature le = (place-of (appearing size) feature (appears size feature le)).0

pub number-appears : (size feature : ℕ) → feature ≤ size → slice_get (appearing size) (number_of size feature) ≡ Some feature
number-appears size feature le = (place-of (appearing size) feature (appears size feature le)).1
