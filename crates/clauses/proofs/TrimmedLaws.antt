-- What a trimmed set of decisions is: a part of them, none of which is false by the clauses alone.
use Rattle.std.proofs.Common.{◌≡◌, ◌∙◌, refl, sym, ap, subst, ⊎_elim, ℕ, Bool, true, false, cond, not, ◌&&◌, ◌||◌, eqb, List, [], ◌∷◌, ◌++◌, reverse, fold}
use Rattle.std.specs.Prelude.{Contains, IsTrue, filter}
use Rattle.std.proofs.lemmas.Bool.{false≢true, cases_Bool, or_cases, or_left, or_right, eqb-true, eq-eqb, cases_eq}
use Rattle.std.proofs.lemmas.List.Elements.{Contains-append_left, Contains-append_right, Contains-append_cases}
use Rattle.pref_sets.specs.Greedy.{set_after}
use Rattle.pref_sets.specs.Trimmed.{trimmed_of, without_item}
use Rattle.pref_sets.specs.Preferred.{IsDistinct, IsWithin}
use Rattle.pref_sets.proofs.GreedyLaws.{IsGreedy-greedy_of}
use Rattle.pref_sets.proofs.BestLaws.{IsTrimmed-minimal}
use Rattle.clauses.specs.declared.literal.Lit.{Lit}
use Rattle.clauses.specs.Clause.{has, is_same, negation, literal_with, unit_of}
use Rattle.clauses.specs.Closure.{closure, clash, is_forcing, is_refuted}
use Rattle.clauses.specs.Search.{all_with}
use Rattle.lists.proofs.Members.{none, first, first_or_later, any_from, any_at, all_at, all_from, from_filter, to_filter, from_map, to_map}
use Rattle.clauses.proofs.Literals.{is_same-eq, is_same-refl, has-from, from_has}
use Rattle.clauses.proofs.LeastLaws.{closure-has, closure-closed, closure-least, closure-among}
use Rattle.clauses.proofs.DerivationLaws.{trimmed-holds}

-- ---- more clauses have more in their closure, and clash all the more

module _ (a b : List (List Lit)) (within : (clause : List Lit) → Contains a clause → Contains b clause) where
  pub closure-more : (l : Lit) → Contains (closure a) l → Contains (closure b) l
  closure-more = closure-among a b (λ clause m. (clause, within clause m, λ l. (λ n. n, λ n. n)))

-- clauses whose closure is within another, and each of which is refuted there or not, as it stands here
pub clash-from_refuted : (b : List (List Lit)) (clause : List Lit) → Contains b clause → ((l : Lit) → Contains clause l → Contains (closure b) (negation l)) → clash b ≡ true
clash-from_refuted b clause m all = any_from (is_refuted (closure b)) b clause m (all_from (λ l. has (closure b) (negation l)) clause (λ l n. has-from (closure b) (negation l) (all l n)))

pub refuted-from_clash : (a : List (List Lit)) → clash a ≡ true → (clause : List Lit) × Contains a clause × ((l : Lit) → Contains clause l → Contains (closure a) (negation l))
refuted-from_clash a e =
    let g = any_at (is_refuted (closure a)) a e in
    (g.0, g.1, λ l n. from_has (closure a) (negation l) (all_at (λ k. has (closure a) (negation k)) g.0 l g.2 n))

pub clash-more : (a b : List (List Lit)) → ((clause : List Lit) → Contains a clause → Contains b clause) → clash a ≡ true → clash b ≡ true
clash-more a b within e = let g = refuted-from_clash a e in clash-from_refuted b g.0 (within g.0 g.1) (λ l n. closure-more a b within (negation l) (g.2 l n))

-- each literal of the closure has a clause that forces it
abbrev HasReason : List (List Lit) → Lit → Type 0
HasReason clauses l = (clause : List Lit) × Contains clauses clause × Contains clause l × (is_forcing (closure clauses) clause l ≡ true)

pub reason : (clauses : List (List Lit)) (l : Lit) → Contains (closure clauses) l → HasReason clauses l
reason clauses =
    closure-least clauses (HasReason clauses) (λ clause l m n others. (
      clause,
      m,
      n,
      all_from (λ o. is_same l o || has (closure clauses) (negation o)) clause (λ o inside.
          ⊎_elim
          (λ (t : is_same l o ≡ true). or_left (is_same l o) (has (closure clauses) (negation o)) t)
          (λ (f : is_same l o ≡ false).
          let why = others o inside (λ (e : o ≡ l). false≢true (sym f ∙ subst (λ k. is_same l k ≡ true) (sym e) (is_same-refl l))) in
          or_right (is_same l o) (has (closure clauses) (negation o)) (closure-has clauses why.0 (negation o) why.1 why.2 why.3))
          (cases_Bool (is_same l o))),
    ))

-- ---- the trimmed set is a part of the items

filter_again : (p q : ℕ → Bool) (xs : List ℕ) → filter q (filter p xs) ≡ filter (λ x. p x && q x) xs
filter_again p q [] = refl
filter_again p q (x ∷ xs) = by (p x) (q x) (filter p xs) (filter (λ y. p y && q y) xs) refl (filter_again p q xs)
  where
    by : (b c : Bool) (us vs : List ℕ) → q x ≡ c → filter q us ≡ vs → filter q (cond b (x ∷ us) us) ≡ cond (b && c) (x ∷ vs) vs
    by true c us vs e h = (λ i. cond (e i) (x ∷ h i) (h i))
    by false c us vs e h = h

abbrev pub IsPart : List ℕ → List ℕ → Type 0
IsPart items set = (p : ℕ → Bool) × (set ≡ filter p items)

step_part : (items set : List ℕ) (x : ℕ) (b : Bool) → IsPart items set → IsPart items (cond b (without_item set x) set)
step_part items set x true part = ((λ y. part.0 y && not (eqb y x)), ap (filter (λ y. not (eqb y x))) part.1 ∙ filter_again part.0 (λ y. not (eqb y x)) items)
step_part items set x false part = part

fold_part : (test : List ℕ → Bool) (items order set : List ℕ) → IsPart items set → IsPart items (fold (set_after test without_item) set order)
fold_part test items [] set part = part
fold_part test items (x ∷ order) set part = fold_part test items order (set_after test without_item set x) (step_part items set x (test (without_item set x)) part)

filter_all : (xs : List ℕ) → xs ≡ filter (λ x. true) xs
filter_all [] = refl
filter_all (x ∷ xs) = ap (λ ys. x ∷ ys) (filter_all xs)

pub trimmed-part : (test : List ℕ → Bool) (items : List ℕ) → IsPart items (trimmed_of test items)
trimmed-part test items = fold_part test items (reverse items) items ((λ x. true), filter_all items)

part-within : (items set : List ℕ) → IsPart items set → (x : ℕ) → Contains set x → Contains items x
part-within items set part x m = (from_filter part.0 items x (subst (λ s. Contains s x) part.1 m)).0

pub trimmed-within : (test : List ℕ → Bool) (items : List ℕ) (x : ℕ) → Contains (trimmed_of test items) x → Contains items x
trimmed-within test items = part-within items (trimmed_of test items) (trimmed-part test items)

-- ---- a member of the trimmed set isn't false by the clauses alone

from_unit : (l k : Lit) → Contains (unit_of l) k → l ≡ k
from_unit l k m = ⊎_elim (λ (e : l ≡ k). e) (λ (no : Contains [] k). absurd (none k no)) (first_or_later l [] k m)

module _ (sign : Bool) (known : List (List Lit)) (decisions : List ℕ) (distinct : IsDistinct decisions) (clashes : clash (known ++ all_with sign decisions) ≡ true) where
  abbrev test : List ℕ → Bool
  test set = clash (known ++ all_with sign set)

  abbrev pub trimmed : List ℕ
  trimmed = trimmed_of test decisions

  false_units : (a b : List ℕ) → IsWithin a b → (clause : List Lit) → Contains (known ++ all_with sign a) clause → Contains (known ++ all_with sign b) clause
  false_units a b within clause m =
      ⊎_elim
      (λ (old : Contains known clause). Contains-append_left known (all_with sign b) clause old)
      (λ (new : Contains (all_with sign a) clause).
      let of = from_map (λ x. unit_of (literal_with sign x)) a clause new in
      Contains-append_right known (all_with sign b) clause (subst (Contains (all_with sign b)) of.2 (to_map (λ x. unit_of (literal_with sign x)) b of.0 (within of.0 of.1))))
      (Contains-append_cases known (all_with sign a) clause m)

  monotone : (a b : List ℕ) → IsWithin a b → IsTrue (test a) → IsTrue (test b)
  monotone a b within e = clash-more (known ++ all_with sign a) (known ++ all_with sign b) (false_units a b within) e

  minimal : (other : List ℕ) → IsWithin other trimmed → IsTrue (test other) → IsWithin trimmed other
  minimal = IsTrimmed-minimal (λ set. IsTrue (test set)) monotone decisions trimmed distinct (IsGreedy-greedy_of test without_item (reverse decisions) decisions)

  module _ (z : ℕ) (false_already : Contains (closure known) (literal_with sign z)) where
    abbrev rest : List ℕ
    rest = without_item trimmed z

    abbrev whole : List (List Lit)
    whole = known ++ all_with sign trimmed

    abbrev fewer : List (List Lit)
    fewer = known ++ all_with sign rest

    in_fewer : (clause : List Lit) → Contains known clause → Contains fewer clause
    in_fewer clause m = Contains-append_left known (all_with sign rest) clause m

    others_in_fewer : (y : ℕ) → Contains trimmed y → (y ≡ z → ⊥) → Contains fewer (unit_of (literal_with sign y))
    others_in_fewer y m other =
        Contains-append_right known (all_with sign rest) (unit_of (literal_with sign y)) (to_map (λ x. unit_of (literal_with sign x)) rest y (to_filter (λ x. not (eqb x z)) trimmed y m (apart (eqb y z) refl)))
      where
        apart : (b : Bool) → eqb y z ≡ b → not b ≡ true
        apart true e = absurd (other (eqb-true y z e))
        apart false e = refl

    z_false : Contains (closure fewer) (literal_with sign z)
    z_false = closure-more known fewer in_fewer (literal_with sign z) false_already

    whole_within : (l : Lit) → Contains (closure whole) l → Contains (closure fewer) l
    whole_within =
        closure-least whole (Contains (closure fewer)) (λ clause l m n others.
        ⊎_elim
        (λ (old : Contains known clause). closure-closed fewer clause l (in_fewer clause old) n others)
        (λ (new : Contains (all_with sign trimmed) clause).
        let of = from_map (λ x. unit_of (literal_with sign x)) trimmed clause new in
        let same : literal_with sign of.0 ≡ l = from_unit (literal_with sign of.0) l (subst (λ c. Contains c l) (sym of.2) n) in
        ⊎_elim
        (λ (e : of.0 ≡ z). subst (Contains (closure fewer)) (ap (literal_with sign) (sym e) ∙ same) z_false)
        (λ (other : of.0 ≡ z → ⊥). closure-closed fewer clause l (subst (Contains fewer) of.2 (others_in_fewer of.0 of.1 other)) n others)
        (cases_eq of.0 z))
        (Contains-append_cases known (all_with sign trimmed) clause m))

    -- the clause that made it false is refuted, where it is true too
    by_reason : Contains (closure fewer) (literal_with (not sign) z) → test rest ≡ true
    by_reason t =
        let why = reason known (literal_with sign z) false_already in
        clash-from_refuted fewer why.0 (in_fewer why.0 why.1) (λ o inside.
        ⊎_elim
        (λ (same : is_same (literal_with sign z) o ≡ true). subst (λ k. Contains (closure fewer) (negation k)) (is_same-eq (literal_with sign z) o same) t)
        (λ (negated : has (closure known) (negation o) ≡ true). closure-more known fewer in_fewer (negation o) (from_has (closure known) (negation o) negated))
        (or_cases (is_same (literal_with sign z) o) (has (closure known) (negation o)) (all_at (λ k. is_same (literal_with sign z) k || has (closure known) (negation k)) why.0 o why.3 inside)))

    rest_clashes : test rest ≡ true
    rest_clashes =
        let g = refuted-from_clash whole (trimmed-holds test decisions clashes) in
        let refuted : (l : Lit) → Contains g.0 l → Contains (closure fewer) (negation l) = λ l n. whole_within (negation l) (g.2 l n) in
        ⊎_elim
        (λ (old : Contains known g.0). clash-from_refuted fewer g.0 (in_fewer g.0 old) refuted)
        (λ (new : Contains (all_with sign trimmed) g.0).
        let of = from_map (λ x. unit_of (literal_with sign x)) trimmed g.0 new in
        ⊎_elim
        (λ (e : of.0 ≡ z).
        by_reason (subst (λ y. Contains (closure fewer) (literal_with (not sign) y)) e (refuted (literal_with sign of.0) (subst (λ c. Contains c (literal_with sign of.0)) of.2 (first (literal_with sign of.0) [])))))
        (λ (other : of.0 ≡ z → ⊥). clash-from_refuted fewer g.0 (subst (Contains fewer) of.2 (others_in_fewer of.0 of.1 other)) refuted)
        (cases_eq of.0 z))
        (Contains-append_cases known (all_with sign trimmed) g.0 g.1)

    rest_within : IsWithin rest trimmed
    rest_within y m = (from_filter (λ x. not (eqb x z)) trimmed y m).0

    pub not_member : Contains trimmed z → ⊥
    not_member m =
        let there = minimal rest rest_within rest_clashes z m in
        let other : not (eqb z z) ≡ true = (from_filter (λ x. not (eqb x z)) trimmed z there).1 in
        false≢true (sym (ap not (eq-eqb z z refl)) ∙ other)
