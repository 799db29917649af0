-- Ascending lists of positions, and the positions that pass a test.
use Rattle.std.proofs.Common.{◌≡◌, ℕ, zero, suc, ◌+◌, ◌<◌, ◌≤◌, Bool, true, false, cond, eqb, ◌||◌, length, ◌-◌, List, [], ◌∷◌, ◌++◌, refl, sym, ◌∙◌, ap, ⊎_elim, arith}
use Rattle.std.proofs.lemmas.Bool.{cases_eq, eq-eqb, ne_eqb}
use Rattle.std.specs.List.{range_with_len, filter}
use Rattle.std.proofs.lemmas.List.Elements.{filter-append}
use Rattle.lists.proofs.Ranges.{range_with_len-push}
use Rattle.req_keys.specs.Positions.{RiseWithin, has, positions_where}

-- a filter at its first element
filter-passes : (p : ℕ → Bool) (x : ℕ) (xs : List ℕ) → p x ≡ true → filter p (x ∷ xs) ≡ x ∷ filter p xs
filter-passes p x xs e = ap (λ b. cond b (x ∷ filter p xs) (filter p xs)) e

filter-fails : (p : ℕ → Bool) (x : ℕ) (xs : List ℕ) → p x ≡ false → filter p (x ∷ xs) ≡ filter p xs
filter-fails p x xs e = ap (λ b. cond b (x ∷ filter p xs) (filter p xs)) e

cond-same : {X : Type 0} (b c : Bool) (x y z w : X) → b ≡ c → x ≡ z → y ≡ w → cond b x y ≡ cond c z w
cond-same b c x y z w e f g = cc

-- two tests that agree on the numbers from a on give the same
pub filter-range_agree : (p q : ℕ → Bool) (a m : ℕ) → ((i : ℕ) → a ≤ i → i < a + m → p i ≡ q i) → filter p (range_with_len a m) ≡ filter q (range_with_len a m)
filter-range_agree p q a zero h = refl
filter-range_agree p q a (suc m) h =
    let first : p a ≡ q a = h a (omega arith) (omega arith) in
    let rest : filter p (range_with_len (a + 1) m) ≡ filter q (range_with_len (a + 1) m) = filter-range_agree p q (a + 1) m (λ i l u. h i (omega arith) (omega arith)) in
    cond-same (p a) (q a) _ _ _ _ first (ap (λ t. a ∷ t) rest) rest

-- where no number passes, nothing is left
pub filter-range_none : (p : ℕ → Bool) (a m : ℕ) → ((i : ℕ) → a ≤ i → i < a + m → p i ≡ false) → filter p (range_with_len a m) ≡ []
filter-range_none p a zero h = refl
filter-range_none p a (suc m) h =
    filter-fails p a (range_with_len (a + 1) m) (h a (omega arith) (omega arith))
    ∙ filter-range_none p (a + 1) m (λ i l u. h i (omega arith) (omega arith))

-- the least number that passes comes first, and the others are those that pass beyond it
pub filter-range_least : (p q : ℕ → Bool) (x a m : ℕ) → a ≤ x → x < a + m → p x ≡ true → ((i : ℕ) → i < x → p i ≡ false) → ((i : ℕ) → i ≤ x → q i ≡ false) → ((i : ℕ) → x < i → p i ≡ q i) → filter p (range_with_len a m) ≡ x ∷ filter q (range_with_len a m)
filter-range_least p q x a zero low high at_x below none beyond = absurd (omega arith)
filter-range_least p q x a (suc m) low high at_x below none beyond =
    ⊎_elim
    (λ (same : a ≡ x).
    filter-passes p a (range_with_len (a + 1) m) (ap p same ∙ at_x)
    ∙ ap (λ t. a ∷ t) (filter-range_agree p q (a + 1) m (λ i l u. beyond i (omega arith)))
    ∙ ap (λ t. t ∷ filter q (range_with_len (a + 1) m)) same
    ∙ ap (λ t. x ∷ t) (sym (filter-fails q a (range_with_len (a + 1) m) (none a (omega arith)))))
    (λ (other : a ≡ x → ⊥).
    let lt : a < x = omega arith in
    filter-fails p a (range_with_len (a + 1) m) (below a lt)
    ∙ filter-range_least p q x (a + 1) m (omega arith) (omega arith) at_x below none beyond
    ∙ ap (λ t. x ∷ t) (sym (filter-fails q a (range_with_len (a + 1) m) (none a (omega arith)))))
    (cases_eq a x)

RiseWithin-cond : (b : Bool) (low high x : ℕ) (xs : List ℕ) → low < x → x ≤ high → RiseWithin x high xs → RiseWithin low high xs → RiseWithin low high (cond b (x ∷ xs) xs)
RiseWithin-cond true low high x xs l h above same = (l, h, above)
RiseWithin-cond false low high x xs l h above same = same

-- what passes ascends
pub RiseWithin-filter_range : (p : ℕ → Bool) (a m low high : ℕ) → low < a → a + m ≤ high + 1 → RiseWithin low high (filter p (range_with_len a m))
RiseWithin-filter_range p a zero low high l h = tt
RiseWithin-filter_range p a (suc m) low high l h =
    RiseWithin-cond (p a) low high a (filter p (range_with_len (a + 1) m)) l (omega arith)
    (RiseWithin-filter_range p (a + 1) m a high (omega arith) (omega arith))
    (RiseWithin-filter_range p (a + 1) m low high (omega arith) (omega arith))

pub RiseWithin-lower : (low lower high : ℕ) (xs : List ℕ) → lower ≤ low → RiseWithin low high xs → RiseWithin lower high xs
RiseWithin-lower low lower high [] l h = tt
RiseWithin-lower low lower high (x ∷ xs) l h = (omega (arith, h.0), h.1, h.2)

-- nothing stands at or below the bound, and nothing above the other
pub has-low : (low high : ℕ) (xs : List ℕ) (i : ℕ) → RiseWithin low high xs → i ≤ low → has xs i ≡ false
has-low low high [] i h l = refl
has-low low high (x ∷ xs) i h l =
    let lt : low < x = h.0 in
    rw (ne_eqb x i (λ e. omega arith)) (has-low x high xs i h.2 (omega arith))

pub has-high : (low high : ℕ) (xs : List ℕ) (i : ℕ) → RiseWithin low high xs → high < i → has xs i ≡ false
has-high low high [] i h l = refl
has-high low high (x ∷ xs) i h l =
    let le : x ≤ high = h.1 in
    rw (ne_eqb x i (λ e. omega arith)) (has-high x high xs i h.2 l)

pub has-first : (x : ℕ) (xs : List ℕ) → has (x ∷ xs) x ≡ true
has-first x xs = rw (eq-eqb x x refl) refl

pub has-other : (x : ℕ) (xs : List ℕ) (i : ℕ) → (x ≡ i → ⊥) → has (x ∷ xs) i ≡ has xs i
has-other x xs i ne = rw (ne_eqb x i ne) refl

has-cond_first : (b : Bool) (x : ℕ) (xs : List ℕ) → has xs x ≡ false → has (cond b (x ∷ xs) xs) x ≡ b
has-cond_first true x xs h = has-first x xs
has-cond_first false x xs h = h

has-cond_other : (b : Bool) (x : ℕ) (xs : List ℕ) (i : ℕ) → (x ≡ i → ⊥) → has (cond b (x ∷ xs) xs) i ≡ has xs i
has-cond_other true x xs i ne = has-other x xs i ne
has-cond_other false x xs i ne = refl

-- what a test keeps of a range has just the numbers of the range that pass
pub has-filter_range : (p : ℕ → Bool) (a m i : ℕ) → a ≤ i → i < a + m → has (filter p (range_with_len a m)) i ≡ p i
has-filter_range p a zero i l h = absurd (omega arith)
has-filter_range p a (suc m) i l h =
    let rest : List ℕ = filter p (range_with_len (a + 1) m) in
    ⊎_elim
    (λ (same : a ≡ i).
    let low : has rest a ≡ false = has-low a (a + m) rest a (RiseWithin-filter_range p (a + 1) m a (a + m) (omega arith) (omega arith)) (omega arith) in
    ap (λ k. has (cond (p a) (a ∷ rest) rest) k) (sym same) ∙ has-cond_first (p a) a rest low ∙ ap p same)
    (λ (other : a ≡ i → ⊥). has-cond_other (p a) a rest i other ∙ has-filter_range p (a + 1) m i (omega arith) (omega arith))
    (cases_eq a i)

-- a list that ascends within 1..=n is the list of the positions that it has
pub positions_where-has : (n low : ℕ) (xs : List ℕ) → RiseWithin low n xs → positions_where n (has xs) ≡ xs
positions_where-has n low [] h = filter-range_none (λ i. false) 1 n (λ i l u. refl)
positions_where-has n low (x ∷ xs) h =
    let lt : low < x = h.0 in
    let le : x ≤ n = h.1 in
    filter-range_least (has (x ∷ xs)) (has xs) x 1 n (omega arith) (omega arith) (has-first x xs)
    (λ i l. has-other x xs i (λ e. omega arith) ∙ has-low x n xs i h.2 (omega arith))
    (λ i l. has-low x n xs i h.2 l)
    (λ i l. has-other x xs i (λ e. omega arith))
    ∙ ap (λ t. x ∷ t) (positions_where-has n x xs h.2)

-- an ascending list has no more members than there is room for
pub length-RiseWithin : (low high : ℕ) (xs : List ℕ) → RiseWithin low high xs → length xs ≤ high - low
length-RiseWithin low high [] h = omega arith
length-RiseWithin low high (x ∷ xs) h =
    let rest : length xs ≤ high - x = length-RiseWithin x high xs h.2 in
    let lt : low < x = h.0 in
    let le : x ≤ high = h.1 in
    omega arith

pub RiseWithin-range : (a m low high : ℕ) → low < a → a + m ≤ high + 1 → RiseWithin low high (range_with_len a m)
RiseWithin-range a zero low high l h = tt
RiseWithin-range a (suc m) low high l h = (l, omega arith, RiseWithin-range (a + 1) m a high (omega arith) (omega arith))

-- a test of one number more
pub filter-range_push : (p : ℕ → Bool) (a m : ℕ) → filter p (range_with_len a (m + 1)) ≡ filter p (range_with_len a m) ++ cond (p (a + m)) ((a + m) ∷ []) []
filter-range_push p a m = ap (filter p) (range_with_len-push a m) ∙ filter-append p (range_with_len a m) ((a + m) ∷ [])

or-false : (b : Bool) → (b || false) ≡ b
or-false true = refl
or-false false = refl

-- a list of one position has just that one
pub has-one : (x i : ℕ) → has (x ∷ []) i ≡ eqb x i
has-one x i = or-false (eqb x i)
