-- The closure is the least closed set.
use Rattle.std.proofs.Common.{◌≡◌, ◌∙◌, refl, sym, subst, ⊎_elim, ℕ, zero, suc, ◌<◌, ◌≤◌, Bool, true, false, cond, not, ◌||◌, List, [], ◌∷◌, ◌++◌, get_or, fold, arith}
use Rattle.std.specs.Prelude.{◌↔◌, All, Any, Contains, filter, flat_map}
use Rattle.std.proofs.lemmas.Bool.{false≢true, cases_Bool, or_cases, or_left, or_right, not_from_false}
use Rattle.std.proofs.lemmas.List.Elements.{Contains-append_left, Contains-append_right, Contains-append_cases, Contains-push, Contains-get_or, All-contains}
use Rattle.clauses.specs.declared.literal.Lit.{Lit}
use Rattle.clauses.specs.Clause.{is_same, has, negation, unit_of}
use Rattle.clauses.specs.Closure.{is_forcing, forced_by, with_literal, newly_forced, rounds, closure, literal_count, AreAmong, IsClosed, is_refuted, clash}
use Rattle.lists.proofs.Members.{none, first, first_or_later, any_at, any_from, all_at, all_from, to_filter, to_flat_map}
use Rattle.clauses.proofs.Literals.{is_same-eq, is_same-refl, has-from, from_has}
use Rattle.clauses.proofs.ClosureLaws.{from_newly_forced, rounds-keep}
use Rattle.clauses.proofs.Counting.{fails, fails-most, fails-less}

-- ---- what a round adds is there

in_with : (b : Bool) (set : List Lit) (x l : Lit) → Contains set l → Contains (cond b set (set ++ x ∷ [])) l
in_with true set x l m = m
in_with false set x l m = Contains-append_left set (x ∷ []) l m

itself_with : (b : Bool) (set : List Lit) (x : Lit) → has set x ≡ b → Contains (cond b set (set ++ x ∷ [])) x
itself_with true set x e = from_has set x e
itself_with false set x e = Contains-push set x

fold_keeps : (set xs : List Lit) (l : Lit) → Contains set l → Contains (fold with_literal set xs) l
fold_keeps set [] l m = m
fold_keeps set (x ∷ xs) l m = fold_keeps (with_literal set x) xs l (in_with (has set x) set x l m)

to_fold : (set xs : List Lit) (l : Lit) → Contains xs l → Contains (fold with_literal set xs) l
to_fold set [] l m = absurd (none l m)
to_fold set (x ∷ xs) l m =
    ⊎_elim
    (λ (e : x ≡ l). subst (Contains (fold with_literal (with_literal set x) xs)) e (fold_keeps (with_literal set x) xs x (itself_with (has set x) set x refl)))
    (λ (r : Contains xs l). to_fold (with_literal set x) xs l r)
    (first_or_later x xs l m)

module _ (clauses : List (List Lit)) where
  to_newly_forced : (set clause : List Lit) (l : Lit) → Contains clauses clause → Contains clause l → is_forcing set clause l ≡ true → has set l ≡ false → Contains (newly_forced clauses set) l
  to_newly_forced set clause l m n forces new =
      to_fold [] (filter (λ x. not (has set x)) (flat_map (forced_by set) clauses)) l
      (to_filter (λ x. not (has set x)) (flat_map (forced_by set) clauses) l
      (to_flat_map (forced_by set) clauses clause l m (to_filter (is_forcing set clause) clause l n forces))
      (not_from_false (has set l) new))

  -- ---- there are enough rounds

  abbrev literals : List Lit
  literals = flat_map (λ clause. clause) clauses

  abbrev missing : List Lit → ℕ
  missing set = fails (has set) literals

  not_has : (b : Bool) → not b ≡ true → b ≡ false
  not_has true e = absurd (false≢true e)
  not_has false e = refl

  new_literal : (set : List Lit) (l : Lit) → Contains (newly_forced clauses set) l → Contains literals l × (has set l ≡ false)
  new_literal set l m = let of = from_newly_forced clauses set l m in (to_flat_map (λ clause. clause) clauses of.0 l of.1 of.2, not_has (has set l) of.4)

  has-append : (set more : List Lit) (l : Lit) → has set l ≡ true → has (set ++ more) l ≡ true
  has-append set more l e = has-from (set ++ more) l (Contains-append_left set more l (from_has set l e))

  fewer : (set : List Lit) (l : Lit) (more : List Lit) → newly_forced clauses set ≡ l ∷ more → missing (set ++ l ∷ more) < missing set
  fewer set l more e =
      let new = new_literal set l (subst (λ ls. Contains ls l) (sym e) (first l more)) in
      fails-less (has set) (has (set ++ l ∷ more)) (has-append set (l ∷ more)) literals l new.0 new.1 (has-from (set ++ l ∷ more) l (Contains-append_right set (l ∷ more) l (first l more)))

  none_new : (set : List Lit) → missing set ≤ 0 → (new : List Lit) → newly_forced clauses set ≡ new → new ≡ []
  none_new set few [] e = refl
  none_new set few (l ∷ more) e = let less = fewer set l more e in absurd (omega arith)

  next_settles : (n : ℕ) (set : List Lit) → missing set ≤ suc n → ((s : List Lit) → missing s ≤ n → newly_forced clauses (rounds clauses n s) ≡ [])
      → (new : List Lit) → newly_forced clauses set ≡ new → newly_forced clauses (elim new [ [] ↦ set | literal ∷ more ↦ rounds clauses n (set ++ literal ∷ more) ]) ≡ []
  next_settles n set few rest [] e = e
  next_settles n set few rest (l ∷ more) e = let less = fewer set l more e in rest (set ++ l ∷ more) (omega arith)

  rounds-settle : (n : ℕ) (set : List Lit) → missing set ≤ n → newly_forced clauses (rounds clauses n set) ≡ []
  rounds-settle zero set few = none_new set few (newly_forced clauses set) refl
  rounds-settle (suc n) set few = next_settles n set few (rounds-settle n) (newly_forced clauses set) refl

  settled : newly_forced clauses (closure clauses) ≡ []
  settled = rounds-settle (literal_count clauses) [] (fails-most (has []) literals)

  -- ---- closed, and least

  pub closure-has : (clause : List Lit) (l : Lit) → Contains clauses clause → Contains clause l → is_forcing (closure clauses) clause l ≡ true → has (closure clauses) l ≡ true
  closure-has clause l m n forces =
      ⊎_elim
      (λ (t : has (closure clauses) l ≡ true). t)
      (λ (f : has (closure clauses) l ≡ false). absurd (none l (subst (λ ls. Contains ls l) settled (to_newly_forced (closure clauses) clause l m n forces f))))
      (cases_Bool (has (closure clauses) l))

  pub closure-closed : IsClosed clauses (Contains (closure clauses))
  closure-closed clause l m n others =
      from_has (closure clauses) l
      (closure-has clause l m n
      (all_from (λ o. is_same l o || has (closure clauses) (negation o)) clause (λ o inside.
      ⊎_elim
      (λ (t : is_same l o ≡ true). or_left (is_same l o) (has (closure clauses) (negation o)) t)
      (λ (f : is_same l o ≡ false).
      or_right (is_same l o) (has (closure clauses) (negation o))
      (has-from (closure clauses) (negation o) (others o inside (λ (e : o ≡ l). false≢true (sym f ∙ subst (λ k. is_same l k ≡ true) (sym e) (is_same-refl l))))))
      (cases_Bool (is_same l o)))))

  pub closure-least : (In : Lit → Type 0) → IsClosed clauses In → (l : Lit) → Contains (closure clauses) l → In l
  closure-least In closed =
      rounds-keep clauses
      (λ set. (l : Lit) → Contains set l → In l)
      (λ set all l m.
      ⊎_elim
      (λ (old : Contains set l). all l old)
      (λ (new : Contains (newly_forced clauses set) l).
      let of = from_newly_forced clauses set l new in
      closed of.0 l of.1 of.2 (λ o inside other.
      ⊎_elim
      (λ (same : is_same l o ≡ true). absurd (other (sym (is_same-eq l o same))))
      (λ (negated : has set (negation o) ≡ true). all (negation o) (from_has set (negation o) negated))
      (or_cases (is_same l o) (has set (negation o)) (all_at (λ k. is_same l k || has set (negation k)) of.0 o of.3 inside))))
      (Contains-append_cases set (newly_forced clauses set) l m))
      (literal_count clauses) [] (λ l m. absurd (none l m))

-- the literal of a unit clause is in the closure
pub unit-closed : (clauses : List (List Lit)) (l : Lit) → Contains clauses (unit_of l) → Contains (closure clauses) l
unit-closed clauses l m =
    closure-closed clauses (unit_of l) l m (first l []) (λ other inside apart.
    ⊎_elim (λ (e : l ≡ other). absurd (apart (sym e))) (λ (no : Contains [] other). absurd (none other no)) (first_or_later l [] other inside))

-- ---- the clash, in the words of sets

pub clash-iff : (clauses : List (List Lit)) → (clash clauses ≡ true) ↔ Any (All (λ l. Contains (closure clauses) (negation l))) clauses
clash-iff clauses = (
  (λ e.
      let refuted = any_at (is_refuted (closure clauses)) clauses e in (
        refuted.1.0,
        refuted.0,
        refuted.1.1,
        refuted.1.2,
        λ k d lt. from_has (closure clauses) (negation (get_or refuted.0 k d)) (all_at (λ l. has (closure clauses) (negation l)) refuted.0 (get_or refuted.0 k d) refuted.2 (Contains-get_or refuted.0 k d lt)),
      )),
  (λ some.
      any_from (is_refuted (closure clauses)) clauses some.1 (some.0, some.2, some.3)
      (all_from (λ l. has (closure clauses) (negation l)) some.1 (λ l m. has-from (closure clauses) (negation l) (All-contains (λ k. Contains (closure clauses) (negation k)) some.1 l some.4 m)))),
)

-- the closure of clauses is within that of others among which they are
pub closure-among : (a b : List (List Lit)) → AreAmong a b → (l : Lit) → Contains (closure a) l → Contains (closure b) l
closure-among a b within =
    closure-least a (Contains (closure b)) (λ clause l m n others.
    let same = within clause m in
    closure-closed b same.0 l same.1 ((same.2 l).0 n) (λ o inside other. others o ((same.2 o).1 inside) other))

-- and where the first clash, the others do
pub clash-among : (a b : List (List Lit)) → AreAmong a b → clash a ≡ true → clash b ≡ true
clash-among a b within e =
    let refuted = any_at (is_refuted (closure a)) a e in
    let same = within refuted.0 refuted.1 in
    any_from (is_refuted (closure b)) b same.0 same.1
    (all_from (λ l. has (closure b) (negation l)) same.0 (λ l m.
    has-from (closure b) (negation l)
    (closure-among a b within (negation l)
    (from_has (closure a) (negation l) (all_at (λ k. has (closure a) (negation k)) refuted.0 l refuted.2 ((same.2 l).1 m))))))
