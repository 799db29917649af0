-- The sets of the next level as keys in a set.
use Rattle.std.proofs.Common.{◌≡◌, ℕ, ◌+◌, ◌<◌, ◌≤◌, Bool, true, false, ◌||◌, eqb, List, [], ◌∷◌, ◌⊎◌, inl, inr, length, get_or, drop, refl, sym, ◌∙◌, ap, subst, ⊎_elim, arith}
use Rattle.std.specs.Prelude.{Contains}
use Rattle.std.specs.List.{range_with_len}
use Rattle.std.specs.BTreeSet.{insert_key}
use Rattle.std.specs.Ordering.{nat_cmp, match_ordering}
use Rattle.std.specs.declared.cmp.Ordering.{Ordering}
use Rattle.std.specs.declared.cmp.Ordering.TheVariants.{Less, Equal, Greater}
use Rattle.std.proofs.lemmas.Bool.{eq-eqb, eqb-true, le-ltb}
use Rattle.std.proofs.lemmas.List.Elements.{Contains-append_left, Contains-append_right, Contains-get_or}
use Rattle.lists.proofs.Members.{first as contains_first, later as contains_later, none as contains_none, first_or_later, from_filter, to_filter}
use Rattle.pref_sets.specs.Positions.{with_position, union}
use Rattle.pref_sets.proofs.AscendingPositions.{Ascends-same, union-ascends, union-cases, union-has}
use Rattle.pref_sets.proofs.RisingPositions.{Ascends-from_rises}
use Rattle.req_keys.specs.Key.{PositionSet, IsKey, key_with}
use Rattle.req_keys.specs.Order.{key_cmp}
use Rattle.req_keys.specs.Positions.{has, positions_where}
use Rattle.req_keys.specs.Wanting.{key_over}
use Rattle.req_keys.proofs.MemberLaws.{has-from_Contains, Contains-from_has}
use Rattle.req_keys.proofs.PositionsLaws.{RiseWithin-filter_range}
use Rattle.req_keys.proofs.Rises.{members-within}
use Rattle.hs_tree.specs.Tree.{by_place, set_cmp, with_set, with_children}
use Rattle.hs_tree.specs.inside.Places.{sets_of}
use Rattle.hs_tree.specs.inside.Told.{IsOver, AreOver}
use Rattle.hs_tree.proofs.ToldAnswers.{drop-one}
use Rattle.hs_tree.proofs.PositionSets.{in-range, rises-in_range, child-rises}

or-left : (a b : Bool) → a ≡ true → (a || b) ≡ true
or-left true b e = refl
or-left false b e = absurd (cc)

or-right : (a b : Bool) → b ≡ true → (a || b) ≡ true
or-right true b e = refl
or-right false b e = e

or-parts : (a b : Bool) → (a || b) ≡ true → (a ≡ true) ⊎ (b ≡ true)
or-parts true b e = inl refl
or-parts false b e = inr e

-- a key and one position more
pub child-key : (set : PositionSet) (i : ℕ) → IsKey set → 0 < i → i ≤ set.n → key_with set i ≡ key_over set.n (with_position i set.members)
child-key set i key low high = ap (key_over set.n) same
  where
    same : positions_where set.n (λ j. has set.members j || eqb i j) ≡ with_position i set.members
    same =
        let t : ℕ → Bool = λ j. has set.members j || eqb i j in
        let there : Contains (range_with_len 1 set.n) i = in-range set.n i low high in
        Ascends-same (positions_where set.n t) (union (i ∷ []) set.members)
        (Ascends-from_rises 0 set.n (positions_where set.n t) (RiseWithin-filter_range t 1 set.n 0 set.n (omega arith) (omega arith)))
        (union-ascends (i ∷ []) set.members (Ascends-from_rises 0 set.n set.members key.1))
        (λ j m.
        let f = from_filter t (range_with_len 1 set.n) j m in
        ⊎_elim
        (λ (old : has set.members j ≡ true). union-has (i ∷ []) set.members j (Contains-append_right (i ∷ []) set.members j (Contains-from_has set.members j old)))
        (λ (new : eqb i j ≡ true). union-has (i ∷ []) set.members j (Contains-append_left (i ∷ []) set.members j (subst (Contains (i ∷ [])) (eqb-true i j new) (contains_first i []))))
        (or-parts (has set.members j) (eqb i j) f.1))
        (λ j m.
        ⊎_elim
        (λ (new : Contains (i ∷ []) j).
        ⊎_elim
        (λ (e : i ≡ j). to_filter t (range_with_len 1 set.n) j (subst (Contains (range_with_len 1 set.n)) e there) (or-right (has set.members j) (eqb i j) (eq-eqb i j e)))
        (λ (l : Contains [] j). absurd (contains_none j l))
        (first_or_later i [] j new))
        (λ (old : Contains set.members j). to_filter t (range_with_len 1 set.n) j (rises-in_range set.n set.members key.1 j old) (or-left (has set.members j) (eqb i j) (has-from_Contains set.members j old)))
        (union-cases (i ∷ []) set.members j m))

pub child-over : (set : PositionSet) (i : ℕ) → IsKey set → 0 < i → i ≤ set.n → IsOver set.n (key_over set.n (with_position i set.members))
child-over set i key low high = record { number = refl; key = (key.0, child-rises set.n i set.members key.1 (in-range set.n i low high)) }

key-order : (a b : PositionSet) → a.n ≡ b.n → key_cmp a b ≡ set_cmp a.members b.members
key-order a b e = let same : nat_cmp a.n b.n ≡ Equal = rw (le-ltb a.n b.n (omega arith), eq-eqb a.n b.n e) refl in rw same refl

-- a key that is put into a set of keys
pub insert-set : (n : ℕ) (keys : List PositionSet) (key : PositionSet) → AreOver n keys → key.n ≡ n → sets_of (insert_key key_cmp keys key) ≡ with_set (sets_of keys) key.members
insert-set n [] key over e = refl
insert-set n (one ∷ keys) key over e =
    let same : key.n ≡ one.n = e ∙ sym (over one (contains_first one keys)).number in
    rw (key-order key one same) (case (insert-set n keys key (λ k m. over k (contains_later one keys k m)) e) (set_cmp key.members one.members))
  where
    case : sets_of (insert_key key_cmp keys key) ≡ with_set (sets_of keys) key.members → (o : Ordering) → sets_of (match_ordering o (key ∷ one ∷ keys) (one ∷ keys) (one ∷ insert_key key_cmp keys key)) ≡ by_place o (key.members ∷ one.members ∷ sets_of keys) (one.members ∷ sets_of keys) (one.members ∷ with_set (sets_of keys) key.members)
    case rest Less = refl
    case rest Equal = refl
    case rest Greater = ap (λ (sets : List (List ℕ)). one.members ∷ sets) rest

insert-cases : (keys : List PositionSet) (key x : PositionSet) → Contains (insert_key key_cmp keys key) x → (key ≡ x) ⊎ Contains keys x
insert-cases [] key x m = first_or_later key [] x m
insert-cases (one ∷ keys) key x m = case (λ l. insert-cases keys key x l) (key_cmp key one) m
  where
    case : (Contains (insert_key key_cmp keys key) x → (key ≡ x) ⊎ Contains keys x) → (o : Ordering) → Contains (match_ordering o (key ∷ one ∷ keys) (one ∷ keys) (one ∷ insert_key key_cmp keys key)) x → (key ≡ x) ⊎ Contains (one ∷ keys) x
    case rest Less m = first_or_later key (one ∷ keys) x m
    case rest Equal m = inr m
    case rest Greater m =
        ⊎_elim
        (λ (e : one ≡ x). inr (subst (Contains (one ∷ keys)) e (contains_first one keys)))
        (λ (l : Contains (insert_key key_cmp keys key) x). ⊎_elim (λ (e : key ≡ x). inl e) (λ (old : Contains keys x). inr (contains_later one keys x old)) (rest l))
        (first_or_later one (insert_key key_cmp keys key) x m)

pub insert-over : (n : ℕ) (keys : List PositionSet) (key : PositionSet) → AreOver n keys → IsOver n key → AreOver n (insert_key key_cmp keys key)
insert-over n keys key over k x m = ⊎_elim (λ (e : key ≡ x). subst (IsOver n) e k) (λ (l : Contains keys x). over x l) (insert-cases keys key x m)

-- the positions of a label, by their places
pub label-bounds : (n : ℕ) (label : PositionSet) (items : List ℕ) (i : ℕ) → IsOver n label → items ≡ label.members → i < length items → (0 < get_or items i 0) × (get_or items i 0 ≤ n)
label-bounds n label items i over e l =
    let there : Contains label.members (get_or items i 0) = subst (λ (xs : List ℕ). Contains xs (get_or items i 0)) e (Contains-get_or items i 0 l) in
    let both : (0 < get_or items i 0) × (get_or items i 0 ≤ label.n) = members-within 0 label.n label.members over.key.1 (get_or items i 0) there in
    (both.0, subst (λ (m : ℕ). get_or items i 0 ≤ m) over.number both.1)

-- the child with one position of the label is put in
module _ (set : PositionSet) (items : List ℕ) (i : ℕ) (child : PositionSet) (before after : List PositionSet) (key : IsKey set) (l : i < length items) (low : 0 < get_or items i 0) (high : get_or items i 0 ≤ set.n) (is : child ≡ key_with set (get_or items i 0)) (put : after ≡ insert_key key_cmp before child) (over : AreOver set.n before) where
  same : child ≡ key_over set.n (with_position (get_or items i 0) set.members)
  same = is ∙ child-key set (get_or items i 0) key low high

  pub put-over : AreOver set.n after
  put-over = subst (AreOver set.n) (sym put) (insert-over set.n before child over (subst (IsOver set.n) (sym same) (child-over set (get_or items i 0) key low high)))

  pub put-sets : with_children set.members (drop (i + 1) items) (sets_of after) ≡ with_children set.members (drop i items) (sets_of before)
  put-sets =
      let n : PositionSet → ℕ = λ k. k.n in
      let members : PositionSet → List ℕ = λ k. k.members in
      let sets : sets_of after ≡ with_set (sets_of before) (with_position (get_or items i 0) set.members) =
      ap sets_of put ∙ insert-set set.n before child over (ap n same) ∙ ap (λ (s : List ℕ). with_set (sets_of before) s) (ap members same) in
      ap (with_children set.members (drop (i + 1) items)) sets
      ∙ ap (λ (xs : List ℕ). with_children set.members xs (sets_of before)) (sym (drop-one items i 0 l))
