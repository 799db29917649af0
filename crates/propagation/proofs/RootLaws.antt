-- The roots of a key, assumed one by one.
use Rattle.std.proofs.Common.{◌≡◌, ◌∙◌, refl, sym, ap, subst, ⊎_elim, ℕ, zero, suc, ◌+◌, ◌<◌, ◌≤◌, Bool, true, false, not, List, [], ◌∷◌, ◌++◌, length, map, get_or, arith}
use Rattle.std.specs.Prelude.{◌-◌, Contains, filter_map, slice_get, Option, Some}
use Rattle.std.specs.List.{cons_option}
use Rattle.std.proofs.lemmas.List.{length_push}
use Rattle.std.proofs.lemmas.Bool.{true≢false}
use Rattle.std.proofs.lemmas.List.Elements.{Contains-append_left, Contains-append_right, Contains-append_cases, filter_map-append}
use Rattle.std.proofs.lemmas.Option.{slice_get_within, get_or_from_slice_get}
use Rattle.req_keys.specs.Key.{PositionSet, IsKey}
use Rattle.req_keys.specs.Positions.{RiseWithin}
use Rattle.req_keys.proofs.PositionsLaws.{length-RiseWithin}
use Rattle.clauses.specs.declared.literal.Lit.{Lit}
use Rattle.clauses.specs.Clause.{unit_of}
use Rattle.clauses.specs.Closure.{clash}
use Rattle.clauses.specs.Problem.{ClauseProblem, IsProblem, clauses_with, roots_at}
use Rattle.lists.proofs.Members.{none, from_map, to_map}
use Rattle.clauses.proofs.LeastLaws.{clash-among}
use Rattle.propagation.specs.Propagation.{Propagation, all_of, propagated}
use Rattle.propagation.specs.Roots.{AreRooted}
use Rattle.propagation.proofs.ValueLaws.{part-among}

-- ---- positions that ascend

pub rise-at : (low high : ℕ) (xs : List ℕ) (i d : ℕ) → RiseWithin low high xs → i < length xs → (low < get_or xs i d) × (get_or xs i d ≤ high)
rise-at low high [] i d rise inside = absurd (omega arith)
rise-at low high (x ∷ xs) zero d rise inside = (rise.0, rise.1)
rise-at low high (x ∷ xs) (suc i) d rise inside = let rest = rise-at x high xs i d rise.2 (omega arith) in let above = rise.0 in let low_rest = rest.0 in (omega arith, rest.1)

-- ---- the roots at some positions

module _ (problem : ClauseProblem) where
  abbrev pub root_at : ℕ → Option Lit
  root_at position = slice_get problem.roots (position - 1)

  abbrev pub roots_for : List ℕ → List Lit
  roots_for positions = filter_map root_at positions

  pub roots-push : (positions : List ℕ) (position : ℕ) (root : Lit) → root_at position ≡ Some root → roots_for (positions ++ position ∷ []) ≡ roots_for positions ++ root ∷ []
  roots-push positions position root e = filter_map-append root_at positions (position ∷ []) ∙ ap (λ (o : Option Lit). roots_for positions ++ cons_option o []) e

  -- what stands while roots are assumed: they are those of the positions so far
  pub record AreAssumed (at : Propagation) (positions : List ℕ) : Type 0 where
    pub is : at ≡ record { problem = problem; assumed = roots_for positions; learned = [] }
    pub counted : length at.assumed ≡ length positions
    pub no_clash : clash (propagated at) ≡ false

  abbrev made : ClauseProblem → List Lit → List (List Lit) → Propagation
  made about assumed learned = record { problem = about; assumed = assumed; learned = learned }

  pub assumed-none : (at : Propagation) → at.problem ≡ problem → at.assumed ≡ [] → at.learned ≡ [] → clash (propagated at) ≡ false → AreAssumed at []
  assumed-none at p a l no_clash = record {
    is = ap (λ about. made about at.assumed at.learned) p ∙ ap (λ assumed. made problem assumed at.learned) a ∙ ap (made problem []) l;
    counted = ap length a;
    no_clash = no_clash;
  }

  pub assumed-next : (old new : Propagation) (positions : List ℕ) (position : ℕ) (root : Lit) → AreAssumed old positions → root_at position ≡ Some root
      → new ≡ record old { assumed = old.assumed ++ root ∷ [] } → clash (propagated new) ≡ false → AreAssumed new (positions ++ position ∷ [])
  assumed-next old new positions position root before e n no_clash = record {
    is =
        n
        ∙ ap (λ (at : Propagation). record at { assumed = at.assumed ++ root ∷ [] }) before.is
        ∙ ap (λ assumed. made problem assumed []) (sym (roots-push positions position root e));
    counted = ap (λ (at : Propagation). length at.assumed) n ∙ length_push old.assumed root ∙ ap (λ k. k + 1) before.counted ∙ sym (length_push positions position);
    no_clash = no_clash;
  }

  -- the literals at some of the positions clash with the clauses only where all do
  module _ (key : PositionSet) where
    pub some-clash_all : (assumed : List Lit) → ((l : Lit) → Contains assumed l → Contains (roots_at problem key) l) → clash (all_of problem.clauses [] assumed) ≡ true → clash (clauses_with problem key) ≡ true
    some-clash_all assumed within =
        clash-among (all_of problem.clauses [] assumed) (clauses_with problem key)
        (part-among (all_of problem.clauses [] assumed) (clauses_with problem key) (λ clause m.
        ⊎_elim
        (λ (front : Contains (problem.clauses ++ []) clause).
        Contains-append_left problem.clauses (map unit_of (roots_at problem key)) clause
        (⊎_elim (λ (old : Contains problem.clauses clause). old) (λ (no : Contains [] clause). absurd (none clause no)) (Contains-append_cases problem.clauses [] clause front)))
        (λ (unit : Contains (map unit_of assumed) clause).
        let of = from_map unit_of assumed clause unit in
        subst (Contains (clauses_with problem key)) of.2
        (Contains-append_right problem.clauses (map unit_of (roots_at problem key)) (unit_of of.0) (to_map unit_of (roots_at problem key) of.0 (within of.0 of.1))))
        (Contains-append_cases (problem.clauses ++ []) (map unit_of assumed) clause m)))

    pub prefix-within : (positions later : List ℕ) → key.members ≡ positions ++ later → (l : Lit) → Contains (roots_for positions) l → Contains (roots_at problem key) l
    prefix-within positions later e l m =
        subst (λ ps. Contains (roots_for ps) l) (sym e)
        (subst (λ ls. Contains ls l) (sym (filter_map-append root_at positions later)) (Contains-append_left (roots_for positions) (roots_for later) l m))

    pub new-clash : (at : Propagation) → at.problem ≡ problem → at.assumed ≡ [] → at.learned ≡ [] → clash (propagated at) ≡ true → clash (clauses_with problem key) ≡ true
    new-clash at p a l e =
        let is : at ≡ made problem [] [] = ap (λ about. made about at.assumed at.learned) p ∙ ap (λ assumed. made problem assumed at.learned) a ∙ ap (made problem []) l in
        some-clash_all [] (λ x m. absurd (none x m)) (sym (ap (λ (q : Propagation). clash (propagated q)) is) ∙ e)

    pub next-clash : (old new : Propagation) (positions : List ℕ) (position : ℕ) (later : List ℕ) (root : Lit) → AreAssumed old positions → root_at position ≡ Some root
        → new ≡ record old { assumed = old.assumed ++ root ∷ [] } → clash (propagated new) ≡ true → key.members ≡ (positions ++ position ∷ []) ++ later → clash (clauses_with problem key) ≡ true
    next-clash old new positions position later root before e n c members =
        let is : new ≡ made problem (roots_for (positions ++ position ∷ [])) [] =
        n
        ∙ ap (λ (at : Propagation). record at { assumed = at.assumed ++ root ∷ [] }) before.is
        ∙ ap (λ assumed. made problem assumed []) (sym (roots-push positions position root e)) in
        some-clash_all (roots_for (positions ++ position ∷ [])) (prefix-within (positions ++ position ∷ []) later members)
        (sym (ap (λ (q : Propagation). clash (propagated q)) is) ∙ c)

-- ---- the loop over the positions

module _ (key : PositionSet) (is_key : IsKey key) (items : List ℕ) (same : items ≡ key.members) where
  pub items-few : length items ≤ key.n
  items-few = let few = length-RiseWithin 0 key.n key.members is_key.1 in let size = ap length same in omega arith

  pub item-bounds : (i : ℕ) → i < length items → (1 ≤ get_or items i 0) × (get_or items i 0 ≤ key.n)
  item-bounds i inside =
      let size = ap length same in
      let at = rise-at 0 key.n key.members i 0 is_key.1 (omega arith) in
      let value = ap (λ xs. get_or xs i 0) same in
      let low = at.0 in let high = at.1 in
      (omega arith, omega arith)

pub root-below : (problem : ClauseProblem) → IsProblem problem → (k : ℕ) (root : Lit) → slice_get problem.roots k ≡ Some root → root.var < problem.variables
root-below problem is k root e =
    subst (λ (l : Lit). l.var < problem.variables) (get_or_from_slice_get problem.roots k root root e) (is.roots_below k root (slice_get_within problem.roots k root e))

pub clash-from_not : (b : Bool) (r : Bool) → r ≡ not b → r ≡ false → b ≡ true
clash-from_not true r e f = refl
clash-from_not false r e f = absurd (true≢false (sym e ∙ f))

pub no_clash-from_not : (b : Bool) (r : Bool) → r ≡ not b → r ≡ true → b ≡ false
no_clash-from_not true r e t = absurd (true≢false (sym t ∙ e))
no_clash-from_not false r e t = refl

-- where the roots of all positions of the key are assumed
pub rooted-all : (problem : ClauseProblem) (key : PositionSet) (items : List ℕ) → items ≡ key.members → IsKey key → (at : Propagation) → AreAssumed problem at items → AreRooted problem key at
rooted-all problem key items same is_key at are = record {
  is = are.is ∙ ap (λ positions. made problem (roots_for problem positions) []) same;
  counted = are.counted ∙ ap length same;
  few = (let counted = are.counted in let few = items-few key is_key items same in let most = is_key.0 in omega arith);
  no_clash = are.no_clash;
}
  where
    made : ClauseProblem → List Lit → List (List Lit) → Propagation
    made about assumed learned = record { problem = about; assumed = assumed; learned = learned }
