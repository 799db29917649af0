-- There is room for a literal that is made true, and what its value says of it.
use Rattle.std.proofs.Common.{◌≡◌, ◌∙◌, ◌⊎◌, refl, sym, ap, subst, inl, inr, ⊎_elim, ℕ, zero, suc, ◌+◌, ◌-◌, ◌<◌, ◌≤◌, Bool, true, false, not, List, [], ◌∷◌, ◌++◌, length, map, take, drop, append_assoc, arith}
use Rattle.std.specs.Prelude.{All, Contains, Some, None}
use Rattle.std.specs.List.{range_with_len}
use Rattle.std.proofs.Math.Bool.{beq}
use Rattle.std.proofs.lemmas.Bool.{false≢true, true≢false, cases_Bool}
use Rattle.std.proofs.lemmas.List.{take-append-drop, length-map, length-drop, map-append, map_push}
use Rattle.std.proofs.lemmas.List.FromFn.{length-range_with_len}
use Rattle.std.proofs.lemmas.List.Elements.{All-cons, All-head, All-tail, All-contains, Contains-append_left, Contains-append_right, Contains-push}
use Rattle.lists.specs.Distinct.{IsDistinct}
use Rattle.lists.proofs.Distinct.{distinct-push}
use Rattle.lists.proofs.Members.{first, later, from_map, to_map}
use Rattle.lists.proofs.Ranges.{range-has}
use Rattle.clauses.specs.declared.literal.Lit.{Lit}
use Rattle.clauses.specs.Clause.{negation, unit_of}
use Rattle.clauses.specs.Closure.{closure, clash}
use Rattle.clauses.specs.Problem.{IsBelow}
use Rattle.clauses.proofs.Counting.{fails, fails-most, fails-less}
use Rattle.clauses.proofs.EnoughLaws.{among, among-from, from_among}
use Rattle.clauses.proofs.LeastLaws.{unit-closed}
use Rattle.clauses.proofs.TrimmedLaws.{closure-more}
use Rattle.propagation.specs.Propagation.{Propagation, propagated, value_of}
use Rattle.propagation.specs.Room.{AreDistinctBehind, HasRoom, IsMadeTrue}
use Rattle.propagation.proofs.ValueLaws.{All-members, both-clash, in_closure, value-none}

-- ---- distinct numbers below a bound are no more than the bound

module _ (n : ℕ) where
  abbrev left : List ℕ → ℕ
  left xs = fails (among xs) (range_with_len 0 n)

  not_among : (xs : List ℕ) (x : ℕ) → ¬ Contains xs x → among xs x ≡ false
  not_among xs x f = ⊎_elim (λ (t : among xs x ≡ true). absurd (f (from_among xs x t))) (λ (e : among xs x ≡ false). e) (cases_Bool (among xs x))

  distinct-left : (xs : List ℕ) → IsDistinct xs → All (λ x. x < n) xs → length xs + left xs ≤ n
  distinct-left [] d below = let size = length-range_with_len 0 n in let most = fails-most (among []) (range_with_len 0 n) in omega arith
  distinct-left (x ∷ xs) d below =
      let less : left (x ∷ xs) < left xs =
      fails-less (among xs) (among (x ∷ xs))
      (λ y h. among-from (x ∷ xs) y (later x xs y (from_among xs y h)))
      (range_with_len 0 n) x (range-has n x (All-head (λ y. y < n) x xs below)) (not_among xs x d.0) (among-from (x ∷ xs) x (first x xs)) in
      let rest = distinct-left xs d.1 (All-tail (λ y. y < n) x xs below) in
      omega arith

  pub distinct-few : (xs : List ℕ) → IsDistinct xs → All (λ x. x < n) xs → length xs ≤ n
  distinct-few xs d below = let few = distinct-left xs d below in omega arith

-- ---- assumed literals

-- a literal that is assumed is in the closure
pub assumed-closed : (at : Propagation) (l : Lit) → Contains at.assumed l → Contains (closure (propagated at)) l
assumed-closed at l m = unit-closed (propagated at) l (Contains-append_right (at.problem.clauses ++ at.learned) (map unit_of at.assumed) (unit_of l) (to_map unit_of at.assumed l m))

pub new-closed : (before at : Propagation) (l : Lit) → at ≡ record before { assumed = before.assumed ++ l ∷ [] } → Contains (closure (propagated at)) l
new-closed before at l e = assumed-closed at l (subst (λ (p : Propagation). Contains p.assumed l) (sym e) (Contains-push before.assumed l))

-- one assumed literal more is one clause more
pub propagated-push : (at : Propagation) (l : Lit) → propagated (record at { assumed = at.assumed ++ l ∷ [] }) ≡ propagated at ++ unit_of l ∷ []
propagated-push at l =
    ap (λ units. (at.problem.clauses ++ at.learned) ++ units) (map-append unit_of at.assumed (l ∷ []))
    ∙ sym (append_assoc (at.problem.clauses ++ at.learned) (map unit_of at.assumed) (unit_of l ∷ []))

-- ---- what stands behind

drop-within : (count : ℕ) (xs : List Lit) (l : Lit) → Contains (drop count xs) l → Contains xs l
drop-within count xs l m = subst (λ ys. Contains ys l) (take-append-drop count xs) (Contains-append_right (take count xs) (drop count xs) l m)

drop-none : (count : ℕ) → drop {A = Lit} count [] ≡ []
drop-none zero = refl
drop-none (suc count) = refl

drop-push : (count : ℕ) (xs : List Lit) (l : Lit) → (drop count (xs ++ l ∷ []) ≡ drop count xs ++ l ∷ []) ⊎ (drop count (xs ++ l ∷ []) ≡ [])
drop-push zero xs l = inl refl
drop-push (suc count) [] l = inr (drop-none count)
drop-push (suc count) (x ∷ xs) l = drop-push count xs l

module _ (at : Propagation) where
  abbrev behind : ℕ → List ℕ
  behind count = map (λ (l : Lit). l.var) (drop count at.assumed)

  signs : (v : ℕ) (sign : Bool) → Contains (closure (propagated at)) (record { var = v; positive = sign }) → ¬ (value_of (propagated at) v ≡ None)
  signs v true m e = ((value-none (propagated at) v).0 e).0 m
  signs v false m e = ((value-none (propagated at) v).0 e).1 m

  -- a variable that has no value isn't that of an assumed literal
  pub new-variable : (count v : ℕ) → value_of (propagated at) v ≡ None → ¬ Contains (behind count) v
  new-variable count v e m =
      let of = from_map (λ (l : Lit). l.var) (drop count at.assumed) v m in
      signs of.0.var of.0.positive (assumed-closed at of.0 (drop-within count at.assumed of.0 of.1)) (ap (value_of (propagated at)) of.2 ∙ e)

  -- there is room for one more variable than those behind
  pub room-for : (count v : ℕ) → count ≤ 4096 → AreDistinctBehind count at → All (λ x. x < at.problem.variables) (behind count) → v < at.problem.variables → ¬ Contains (behind count) v
      → length at.assumed < at.problem.variables + 4096
  room-for count v few distinct below inside new =
      let all = distinct-few at.problem.variables (v ∷ behind count) (new, distinct) (All-cons (λ x. x < at.problem.variables) v (behind count) inside below) in
      let drops : length (behind count) ≡ length at.assumed - count = length-map (drop count at.assumed) (λ (l : Lit). l.var) ∙ length-drop count at.assumed in
      let one : length (v ∷ behind count) ≡ length (behind count) + 1 = omega arith in
      omega arith

  module _ (below : All (IsBelow at.problem.variables) at.assumed) where
    behind-below : (count : ℕ) → All (λ v. v < at.problem.variables) (behind count)
    behind-below count =
        All-members (λ v. v < at.problem.variables) (behind count) (λ v m.
        let of = from_map (λ (l : Lit). l.var) (drop count at.assumed) v m in
        subst (λ x. x < at.problem.variables) of.2 (All-contains (IsBelow at.problem.variables) at.assumed of.0 below (drop-within count at.assumed of.0 of.1)))

    pub room-left : (literal : Lit) → HasRoom at → literal.var < at.problem.variables → value_of (propagated at) literal.var ≡ None → length at.assumed < at.problem.variables + 4096
    room-left literal room inside e = room-for room.0 literal.var room.1 room.2 (behind-below room.0) inside (new-variable room.0 literal.var e)

-- and so they stay distinct
module _ (before : Propagation) (literal : Lit) where
  pushed-distinct : (count : ℕ) → AreDistinctBehind count before → value_of (propagated before) literal.var ≡ None → AreDistinctBehind count (record before { assumed = before.assumed ++ literal ∷ [] })
  pushed-distinct count distinct e =
      ⊎_elim
      (λ (more : drop count (before.assumed ++ literal ∷ []) ≡ drop count before.assumed ++ literal ∷ []).
      subst (λ ls. IsDistinct (map (λ (l : Lit). l.var) ls)) (sym more)
      (subst IsDistinct (sym (map_push (λ (l : Lit). l.var) (drop count before.assumed) literal))
      (distinct-push (behind before count) literal.var distinct (new-variable before count literal.var e))))
      (λ (none : drop count (before.assumed ++ literal ∷ []) ≡ []). subst (λ ls. IsDistinct (map (λ (l : Lit). l.var) ls)) (sym none) tt)
      (drop-push count before.assumed literal)

  pub made-distinct : (now : Propagation) → IsMadeTrue before literal now → (count : ℕ) → AreDistinctBehind count before → AreDistinctBehind count now
  made-distinct now made count distinct =
      ⊎_elim
      (λ (e : now ≡ before). subst (AreDistinctBehind count) (sym e) distinct)
      (λ (o : (value_of (propagated before) literal.var ≡ None) × (now ≡ record before { assumed = before.assumed ++ literal ∷ [] })).
      subst (AreDistinctBehind count) (sym o.1) (pushed-distinct count distinct o.0))
      made

-- ---- what a value says of the literal

same_sign : (value sign : Bool) → beq value sign ≡ true → value ≡ sign
same_sign true true e = refl
same_sign true false e = absurd (false≢true e)
same_sign false true e = absurd (false≢true e)
same_sign false false e = refl

other_sign : (value sign : Bool) → beq value sign ≡ false → value ≡ not sign
other_sign true true e = absurd (true≢false e)
other_sign true false e = refl
other_sign false true e = refl
other_sign false false e = absurd (true≢false e)

module _ (clauses : List (List Lit)) (no_clash : clash clauses ≡ false) (literal : Lit) (value : Bool) (is : value_of clauses literal.var ≡ Some value) where
  pub known-closed : beq value literal.positive ≡ true → Contains (closure clauses) literal
  known-closed e =
      subst (λ (b : Bool). Contains (closure clauses) (record { var = literal.var; positive = b })) (same_sign value literal.positive e)
      (in_closure clauses literal.var value no_clash is)

  pub known-clash : beq value literal.positive ≡ false → clash (clauses ++ unit_of literal ∷ []) ≡ true
  known-clash e =
      let next = clauses ++ unit_of literal ∷ [] in
      both-clash next literal
      (unit-closed next literal (Contains-push clauses (unit_of literal)))
      (closure-more clauses next (λ clause m. Contains-append_left clauses (unit_of literal ∷ []) clause m) (negation literal)
      (subst (λ (b : Bool). Contains (closure clauses) (record { var = literal.var; positive = b })) (other_sign value literal.positive e)
      (in_closure clauses literal.var value no_clash is)))
