-- The laws of the test of which decisions clash: it keeps holding with more decisions.
use Rattle.std.proofs.Common.{◌≡◌, ◌∙◌, refl, ap, subst, ⊎_elim, ℕ, true, List, ◌++◌, map}
use Rattle.std.specs.Prelude.{Contains, nat_lt}
use Rattle.std.proofs.lemmas.List.Elements.{Contains-append_left, Contains-append_right, Contains-append_cases}
use Rattle.pref_sets.specs.Preferred.{IsWithin}
use Rattle.clauses.specs.declared.literal.Lit.{Lit}
use Rattle.clauses.specs.Clause.{literal_with, unit_of}
use Rattle.clauses.specs.Closure.{closure, clash}
use Rattle.lists.proofs.Members.{from_map, to_map, from_filter, to_filter}
use Rattle.clauses.proofs.LeastLaws.{closure-among, clash-among}
use Rattle.propagation.proofs.ValueLaws.{part-among}
use Rattle.solver.specs.inside.Trials.{Trying, with_tried, variables_in, Clashes, SameButTried}

-- ---- the clauses of more variables

module _ (at : Trying) where
  -- the clause that says that a tried variable has the first value is there
  pub tried-there : (variables : List ℕ) (v : ℕ) → Contains variables v → Contains (with_tried at variables) (unit_of (literal_with at.first v))
  tried-there variables v m =
      Contains-append_right (at.problem.clauses ++ at.learned) (map unit_of (at.fixed ++ map (literal_with at.first) variables)) (unit_of (literal_with at.first v))
      (to_map unit_of (at.fixed ++ map (literal_with at.first) variables) (literal_with at.first v)
      (Contains-append_right at.fixed (map (literal_with at.first) variables) (literal_with at.first v) (to_map (literal_with at.first) variables v m)))

  pub with_tried-part : (a b : List ℕ) → IsWithin a b → (clause : List Lit) → Contains (with_tried at a) clause → Contains (with_tried at b) clause
  with_tried-part a b within clause m =
      ⊎_elim
      (λ (old : Contains (at.problem.clauses ++ at.learned) clause). Contains-append_left (at.problem.clauses ++ at.learned) (map unit_of (at.fixed ++ map (literal_with at.first) b)) clause old)
      (λ (unit : Contains (map unit_of (at.fixed ++ map (literal_with at.first) a)) clause).
      let of = from_map unit_of (at.fixed ++ map (literal_with at.first) a) clause unit in
      ⊎_elim
      (λ (stays : Contains at.fixed of.0).
      subst (Contains (with_tried at b)) of.2
      (Contains-append_right (at.problem.clauses ++ at.learned) (map unit_of (at.fixed ++ map (literal_with at.first) b)) (unit_of of.0)
      (to_map unit_of (at.fixed ++ map (literal_with at.first) b) of.0 (Contains-append_left at.fixed (map (literal_with at.first) b) of.0 stays))))
      (λ (tried : Contains (map (literal_with at.first) a) of.0).
      let var = from_map (literal_with at.first) a of.0 tried in
      subst (Contains (with_tried at b)) (ap unit_of var.2 ∙ of.2) (tried-there b var.0 (within var.0 var.1)))
      (Contains-append_cases at.fixed (map (literal_with at.first) a) of.0 of.1))
      (Contains-append_cases (at.problem.clauses ++ at.learned) (map unit_of (at.fixed ++ map (literal_with at.first) a)) clause m)

  pub more-closed : (a b : List ℕ) → IsWithin a b → (l : Lit) → Contains (closure (with_tried at a)) l → Contains (closure (with_tried at b)) l
  more-closed a b within = closure-among (with_tried at a) (with_tried at b) (part-among (with_tried at a) (with_tried at b) (with_tried-part a b within))

  pub more-clash : (a b : List ℕ) → IsWithin a b → clash (with_tried at a) ≡ true → clash (with_tried at b) ≡ true
  more-clash a b within = clash-among (with_tried at a) (with_tried at b) (part-among (with_tried at a) (with_tried at b) (with_tried-part a b within))

-- ---- the laws of the test

pub clashes-monotone : (at : Trying) (a b : List ℕ) → IsWithin a b → Clashes at a → Clashes at b
clashes-monotone at a b within =
    more-clash at (variables_in at.problem a) (variables_in at.problem b) (λ v m.
    let of = from_filter (λ number. nat_lt number at.problem.variables) a v m in
    to_filter (λ number. nat_lt number at.problem.variables) b v (within v of.0) of.1)

pub same-reflexive : (at : Trying) → SameButTried at at
same-reflexive at = (refl, refl, refl, refl)

pub same-transitive : (a b c : Trying) → SameButTried a b → SameButTried b c → SameButTried a c
same-transitive a b c p q = (q.0 ∙ p.0, q.1 ∙ p.1, q.2 ∙ p.2, q.3 ∙ p.3)
