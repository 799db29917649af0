-- The roots of a key: they are among the problem's, and those of a key within another are among the other's.
use Rattle.std.proofs.Common.{◌≡◌, ◌∙◌, ◌⊎◌, sym, ap, subst, inl, inr, ⊎_elim, ℕ, zero, suc, ◌<◌, List, [], ◌∷◌, map, arith}
use Rattle.std.specs.Prelude.{◌-◌, All, Contains, Option, Some, None, filter_map, slice_get}
use Rattle.std.specs.List.{cons_option}
use Rattle.std.proofs.lemmas.List.Elements.{All-contains, Contains-append_left, Contains-append_right, Contains-append_cases}
use Rattle.pref_sets.specs.Preferred.{IsWithin}
use Rattle.req_keys.specs.Key.{PositionSet}
use Rattle.clauses.specs.declared.literal.Lit.{Lit}
use Rattle.clauses.specs.Clause.{unit_of}
use Rattle.clauses.specs.Problem.{ClauseProblem, IsProblem, IsBelow, roots_at, clauses_with}
use Rattle.lists.proofs.Members.{first, later, none, first_or_later, from_map, to_map}

-- ---- the values that a function has

from_option : {X : Type 0} (o : Option X) (us : List X) (y : X) → Contains (cons_option o us) y → (o ≡ Some y) ⊎ Contains us y
from_option None us y m = inr m
from_option (Some x) us y m = ⊎_elim (λ (e : x ≡ y). inl (ap Some e)) (λ (r : Contains us y). inr r) (first_or_later x us y m)

passes_option : {X : Type 0} (o : Option X) (us : List X) (y : X) → Contains us y → Contains (cons_option o us) y
passes_option None us y m = m
passes_option (Some x) us y m = later x us y m

module _ {X Y : Type 0} (h : X → Option Y) where
  pub from_filter_map : (xs : List X) (y : Y) → Contains (filter_map h xs) y → (x : X) × Contains xs x × (h x ≡ Some y)
  from_filter_map [] y m = absurd (none y m)
  from_filter_map (x ∷ xs) y m =
      ⊎_elim
      (λ (e : h x ≡ Some y). (x, first x xs, e))
      (λ (r : Contains (filter_map h xs) y). let of = from_filter_map xs y r in (of.0, later x xs of.0 of.1, of.2))
      (from_option (h x) (filter_map h xs) y m)

  pub to_filter_map : (xs : List X) (x : X) (y : Y) → Contains xs x → h x ≡ Some y → Contains (filter_map h xs) y
  to_filter_map [] x y m e = absurd (none x m)
  to_filter_map (z ∷ zs) x y m e =
      ⊎_elim
      (λ (s : z ≡ x). subst (λ (o : Option Y). Contains (cons_option o (filter_map h zs)) y) (sym (ap h s ∙ e)) (first y (filter_map h zs)))
      (λ (r : Contains zs x). passes_option (h z) (filter_map h zs) y (to_filter_map zs x y r e))
      (first_or_later z zs x m)

got : {X : Type 0} (xs : List X) (k : ℕ) (x : X) → slice_get xs k ≡ Some x → Contains xs x
got [] k x e = absurd (cc)
got (y ∷ ys) zero x e = let same : y ≡ x = cc in (0, omega arith, same)
got (y ∷ ys) (suc k) x e = later y ys x (got ys k x e)

-- ---- the roots

module _ (problem : ClauseProblem) where
  abbrev root_at : ℕ → Option Lit
  root_at position = slice_get problem.roots (position - 1)

  pub roots_at-roots : (key : PositionSet) (l : Lit) → Contains (roots_at problem key) l → Contains problem.roots l
  roots_at-roots key l m = let at = from_filter_map root_at key.members l m in got problem.roots (at.0 - 1) l at.2

  -- of a key within another
  pub roots_at-within : (a b : PositionSet) → IsWithin a.members b.members → (l : Lit) → Contains (roots_at problem a) l → Contains (roots_at problem b) l
  roots_at-within a b within l m = let at = from_filter_map root_at a.members l m in to_filter_map root_at b.members at.0 l (within at.0 at.1) at.2

  pub clauses_with-within : (a b : PositionSet) → IsWithin a.members b.members → (clause : List Lit) → Contains (clauses_with problem a) clause → Contains (clauses_with problem b) clause
  clauses_with-within a b within clause m =
      ⊎_elim
      (λ (old : Contains problem.clauses clause). Contains-append_left problem.clauses (map unit_of (roots_at problem b)) clause old)
      (λ (root : Contains (map unit_of (roots_at problem a)) clause).
      let of = from_map unit_of (roots_at problem a) clause root in
      Contains-append_right problem.clauses (map unit_of (roots_at problem b)) clause
      (subst (Contains (map unit_of (roots_at problem b))) of.2 (to_map unit_of (roots_at problem b) of.0 (roots_at-within a b within of.0 of.1))))
      (Contains-append_cases problem.clauses (map unit_of (roots_at problem a)) clause m)

-- ---- the clauses of a check of a key are about the problem's variables

pub clauses_with-below : (problem : ClauseProblem) (key : PositionSet) → IsProblem problem → (clause : List Lit) → Contains (clauses_with problem key) clause → (l : Lit) → Contains clause l → l.var < problem.variables
clauses_with-below problem key is clause m l n =
    ⊎_elim
    (λ (old : Contains problem.clauses clause). All-contains (IsBelow problem.variables) clause l (All-contains (All (IsBelow problem.variables)) problem.clauses clause is.clauses_below old) n)
    (λ (root : Contains (map unit_of (roots_at problem key)) clause).
    let of = from_map unit_of (roots_at problem key) clause root in
    let there : Contains (unit_of of.0) l = subst (λ c. Contains c l) (sym of.2) n in
    ⊎_elim
    (λ (e : of.0 ≡ l). subst (IsBelow problem.variables) e (All-contains (IsBelow problem.variables) problem.roots of.0 is.roots_below (roots_at-roots problem key of.0 of.1)))
    (λ (no : Contains [] l). absurd (none l no))
    (first_or_later of.0 [] l there))
    (Contains-append_cases problem.clauses (map unit_of (roots_at problem key)) clause m)
