-- The sets of a level: which sets it has, and that they stand in order.
use Rattle.std.proofs.Common.{sym, ◌≡◌, ℕ, ◌<◌, List, [], ◌∷◌, ◌⊎◌, inl, inr, length, refl, ◌∙◌, ap, subst, ⊎_elim, arith}
use Rattle.std.specs.Prelude.{Contains}
use Rattle.std.specs.declared.cmp.Ordering.{Ordering}
use Rattle.std.specs.declared.cmp.Ordering.TheVariants.{Less, Equal, Greater}
use Rattle.std.specs.Ordering.{nat_cmp, ordering_reverse}
use Rattle.std.specs.Cmp.{IsTotalOrder}
use Rattle.std.specs.Cmp.Rules.{comparing}
use Rattle.std.proofs.Common.{rules}
use Rattle.std.proofs.lemmas.Bool.{eq-eqb, lt-ltb, le-ltb}
use Rattle.lists.proofs.Members.{first as contains_first, later as contains_later, none as contains_none, first_or_later}
use Rattle.pref_sets.specs.Positions.{with_position}
use Rattle.req_keys.specs.Key.{PositionSet}
use Rattle.req_keys.specs.Order.{key_cmp}
use Rattle.req_keys.proofs.OrderLaws.{equal_is_one}
use Rattle.req_keys.specs.Wanting.{key_over}
use Rattle.hs_tree.specs.Tree.{by_place, set_cmp, with_set, with_children}

-- each set comes before those behind it
abbrev pub AreSorted : List (List ℕ) → Type 0
AreSorted [] = Unit {0}
AreSorted (set ∷ sets) = ((other : List ℕ) → Contains sets other → set_cmp set other ≡ Less) × AreSorted sets

set_total : IsTotalOrder set_cmp
set_total = search (comparing, rules)

equal-sets : (a b : List ℕ) → set_cmp a b ≡ Equal → a ≡ b
equal-sets a b e =
    let members : PositionSet → List ℕ = λ key. key.members in
    ap members (equal_is_one (key_over 0 a) (key_over 0 b) e)

pub with_set-cases : (sets : List (List ℕ)) (set x : List ℕ) → Contains (with_set sets set) x → (set ≡ x) ⊎ Contains sets x
with_set-cases [] set x m = first_or_later set [] x m
with_set-cases (one ∷ sets) set x m = case (λ l. with_set-cases sets set x l) (set_cmp set one) m
  where
    case : (Contains (with_set sets set) x → (set ≡ x) ⊎ Contains sets x) → (o : Ordering) → Contains (by_place o (set ∷ one ∷ sets) (one ∷ sets) (one ∷ with_set sets set)) x → (set ≡ x) ⊎ Contains (one ∷ sets) x
    case rest Less m = first_or_later set (one ∷ sets) x m
    case rest Equal m = inr m
    case rest Greater m =
        ⊎_elim
        (λ (e : one ≡ x). inr (rw (← e) (contains_first one sets)))
        (λ (l : Contains (with_set sets set) x). ⊎_elim (λ (e : set ≡ x). inl e) (λ (old : Contains sets x). inr (contains_later one sets x old)) (rest l))
        (first_or_later one (with_set sets set) x m)

pub with_set-old : (sets : List (List ℕ)) (set x : List ℕ) → Contains sets x → Contains (with_set sets set) x
with_set-old [] set x m = absurd (contains_none x m)
with_set-old (one ∷ sets) set x m = case (λ l. with_set-old sets set x l) (set_cmp set one)
  where
    case : (Contains sets x → Contains (with_set sets set) x) → (o : Ordering) → Contains (by_place o (set ∷ one ∷ sets) (one ∷ sets) (one ∷ with_set sets set)) x
    case rest Less = contains_later set (one ∷ sets) x m
    case rest Equal = m
    case rest Greater =
        ⊎_elim
        (λ (e : one ≡ x). rw (← e) (contains_first one (with_set sets set)))
        (λ (l : Contains sets x). contains_later one (with_set sets set) x (rest l))
        (first_or_later one sets x m)

pub with_set-has : (sets : List (List ℕ)) (set : List ℕ) → Contains (with_set sets set) set
with_set-has [] set = contains_first set []
with_set-has (one ∷ sets) set = case (with_set-has sets set) (set_cmp set one) refl
  where
    case : Contains (with_set sets set) set → (o : Ordering) → set_cmp set one ≡ o → Contains (by_place o (set ∷ one ∷ sets) (one ∷ sets) (one ∷ with_set sets set)) set
    case rest Less e = contains_first set (one ∷ sets)
    case rest Equal e = let same : one ≡ set = sym (equal-sets set one e) in subst (Contains (one ∷ sets)) same (contains_first one sets)
    case rest Greater e = contains_later one (with_set sets set) set rest

turned : (a b : List ℕ) → set_cmp a b ≡ Greater → set_cmp b a ≡ Less
turned a b e = set_total.antisymm b a ∙ ap ordering_reverse e

pub with_set-sorted : (sets : List (List ℕ)) (set : List ℕ) → AreSorted sets → AreSorted (with_set sets set)
with_set-sorted [] set h = ((λ other m. absurd (contains_none other m)), tt)
with_set-sorted (one ∷ sets) set h = case (with_set-sorted sets set h.1) (set_cmp set one) refl
  where
    case : AreSorted (with_set sets set) → (o : Ordering) → set_cmp set one ≡ o → AreSorted (by_place o (set ∷ one ∷ sets) (one ∷ sets) (one ∷ with_set sets set))
    case rest Less e = (
      (λ other m.
          ⊎_elim
          (λ (same : one ≡ other). subst (λ (x : List ℕ). set_cmp set x ≡ Less) same e)
          (λ (l : Contains sets other). set_total.trans set one other e (h.0 other l))
          (first_or_later one sets other m)),
      h,
    )
    case rest Equal e = h
    case rest Greater e = (
      (λ other m.
          ⊎_elim
          (λ (same : set ≡ other). subst (λ (x : List ℕ). set_cmp one x ≡ Less) same (turned set one e))
          (λ (l : Contains sets other). h.0 other l)
          (with_set-cases sets set other m)),
      rest,
    )

-- the set is one of the level's so far, or comes from the set with a position of the label
pub children-cases : (set label : List ℕ) (next : List (List ℕ)) (x : List ℕ) → Contains (with_children set label next) x → Contains next x ⊎ ((p : ℕ) × Contains label p × (with_position p set ≡ x))
children-cases set [] next x m = inl m
children-cases set (p ∷ label) next x m =
    ⊎_elim
    (λ (old : Contains (with_set next (with_position p set)) x).
    ⊎_elim
    (λ (e : with_position p set ≡ x). inr (p, contains_first p label, e))
    (λ (l : Contains next x). inl l)
    (with_set-cases next (with_position p set) x old))
    (λ (new : (q : ℕ) × Contains label q × (with_position q set ≡ x)). inr (new.0, contains_later p label new.0 new.1, new.2))
    (children-cases set label (with_set next (with_position p set)) x m)

pub children-old : (set label : List ℕ) (next : List (List ℕ)) (x : List ℕ) → Contains next x → Contains (with_children set label next) x
children-old set [] next x m = m
children-old set (p ∷ label) next x m = children-old set label (with_set next (with_position p set)) x (with_set-old next (with_position p set) x m)

pub children-new : (set label : List ℕ) (next : List (List ℕ)) (p : ℕ) → Contains label p → Contains (with_children set label next) (with_position p set)
children-new set [] next p m = absurd (contains_none p m)
children-new set (q ∷ label) next p m =
    ⊎_elim
    (λ (e : q ≡ p).
    subst (λ (r : ℕ). Contains (with_children set (q ∷ label) next) (with_position r set)) e
    (children-old set label (with_set next (with_position q set)) (with_position q set) (with_set-has next (with_position q set))))
    (λ (l : Contains label p). children-new set label (with_set next (with_position q set)) p l)
    (first_or_later q label p m)

pub children-sorted : (set label : List ℕ) (next : List (List ℕ)) → AreSorted next → AreSorted (with_children set label next)
children-sorted set [] next h = h
children-sorted set (p ∷ label) next h = children-sorted set label (with_set next (with_position p set)) (with_set-sorted next (with_position p set) h)

same-numbers : (x y : ℕ) → x ≡ y → nat_cmp x y ≡ Equal
same-numbers x y e = rw (le-ltb x y (omega arith), eq-eqb x y e) refl

less-numbers : (x y : ℕ) → x < y → nat_cmp x y ≡ Less
less-numbers x y l = rw (lt-ltb x y l) refl

-- the order of keys over one number of positions is that of sets
pub key-order : (n : ℕ) (a b : List ℕ) → key_cmp (key_over n a) (key_over n b) ≡ set_cmp a b
key-order n a b = rw (same-numbers n n refl) refl

pub before-by_size : (n : ℕ) (a b : List ℕ) → length a < length b → key_cmp (key_over n a) (key_over n b) ≡ Less
before-by_size n a b l = key-order n a b ∙ rw (less-numbers (length a) (length b) l) refl
