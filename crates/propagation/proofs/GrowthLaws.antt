-- What stays right when literals are assumed or clauses learned.
use Rattle.std.proofs.Common.{◌≡◌, ◌∙◌, refl, sym, ap, subst, ⊎_elim, ℕ, Bool, List, [], ◌∷◌, ◌++◌, map}
use Rattle.std.specs.Prelude.{Contains}
use Rattle.std.proofs.lemmas.List.{map-append}
use Rattle.std.proofs.lemmas.List.Elements.{Contains-append_left, Contains-append_right, Contains-append_cases}
use Rattle.req_keys.specs.Key.{PositionSet}
use Rattle.clauses.specs.declared.literal.Lit.{Lit}
use Rattle.clauses.specs.Clause.{literal_with, unit_of}
use Rattle.clauses.specs.Closure.{AreAmong}
use Rattle.clauses.specs.Problem.{ClauseProblem, clauses_with, roots_at}
use Rattle.clauses.specs.Search.{Standing, all_with, under}
use Rattle.lists.proofs.Members.{from_map, to_map}
use Rattle.propagation.specs.Propagation.{all_of, propagated, as_searched}
use Rattle.propagation.specs.inside.Values.{IsPart}
use Rattle.propagation.proofs.ValueLaws.{part-among}

-- ---- what there is more of

module _ (clauses learned : List (List Lit)) (assumed : List Lit) where
  map-part : (more : List Lit) → IsPart (map unit_of assumed) (map unit_of (assumed ++ more))
  map-part more clause m =
      let from = from_map unit_of assumed clause m in
      subst (Contains (map unit_of (assumed ++ more))) from.2 (to_map unit_of (assumed ++ more) from.0 (Contains-append_left assumed more from.0 from.1))

  pub more_assumed : (more : List Lit) → AreAmong (all_of clauses learned assumed) (all_of clauses learned (assumed ++ more))
  more_assumed more =
      part-among (all_of clauses learned assumed) (all_of clauses learned (assumed ++ more)) (λ clause m.
      ⊎_elim
      (λ (front : Contains (clauses ++ learned) clause). Contains-append_left (clauses ++ learned) (map unit_of (assumed ++ more)) clause front)
      (λ (back : Contains (map unit_of assumed) clause). Contains-append_right (clauses ++ learned) (map unit_of (assumed ++ more)) clause (map-part more clause back))
      (Contains-append_cases (clauses ++ learned) (map unit_of assumed) clause m))

  pub more_learned : (more : List (List Lit)) → AreAmong (all_of clauses learned assumed) (all_of clauses (learned ++ more) assumed)
  more_learned more =
      let after = clauses ++ (learned ++ more) in
      part-among (all_of clauses learned assumed) (all_of clauses (learned ++ more) assumed) (λ clause m.
      ⊎_elim
      (λ (front : Contains (clauses ++ learned) clause).
      Contains-append_left after (map unit_of assumed) clause
      (⊎_elim
      (λ (old : Contains clauses clause). Contains-append_left clauses (learned ++ more) clause old)
      (λ (new : Contains learned clause). Contains-append_right clauses (learned ++ more) clause (Contains-append_left learned more clause new))
      (Contains-append_cases clauses learned clause front)))
      (λ (back : Contains (map unit_of assumed) clause). Contains-append_right after (map unit_of assumed) clause back)
      (Contains-append_cases (clauses ++ learned) (map unit_of assumed) clause m))

-- ---- the order of a search

map-decisions : (value : Bool) (variables : List ℕ) → map unit_of (map (literal_with value) variables) ≡ all_with value variables
map-decisions value [] = refl
map-decisions value (x ∷ xs) = ap (λ r. unit_of (literal_with value x) ∷ r) (map-decisions value xs)

module _ (clauses learned roots decisions : List (List Lit)) where
  pub there : IsPart ((clauses ++ learned) ++ (roots ++ decisions)) (((clauses ++ roots) ++ learned) ++ decisions)
  there clause m =
      ⊎_elim
      (λ (front : Contains (clauses ++ learned) clause).
      Contains-append_left ((clauses ++ roots) ++ learned) decisions clause
      (⊎_elim
      (λ (c : Contains clauses clause). Contains-append_left (clauses ++ roots) learned clause (Contains-append_left clauses roots clause c))
      (λ (l : Contains learned clause). Contains-append_right (clauses ++ roots) learned clause l)
      (Contains-append_cases clauses learned clause front)))
      (λ (back : Contains (roots ++ decisions) clause).
      ⊎_elim
      (λ (r : Contains roots clause). Contains-append_left ((clauses ++ roots) ++ learned) decisions clause (Contains-append_left (clauses ++ roots) learned clause (Contains-append_right clauses roots clause r)))
      (λ (d : Contains decisions clause). Contains-append_right ((clauses ++ roots) ++ learned) decisions clause d)
      (Contains-append_cases roots decisions clause back))
      (Contains-append_cases (clauses ++ learned) (roots ++ decisions) clause m)

  pub back : IsPart (((clauses ++ roots) ++ learned) ++ decisions) ((clauses ++ learned) ++ (roots ++ decisions))
  back clause m =
      ⊎_elim
      (λ (front : Contains ((clauses ++ roots) ++ learned) clause).
      ⊎_elim
      (λ (both : Contains (clauses ++ roots) clause).
      ⊎_elim
      (λ (c : Contains clauses clause). Contains-append_left (clauses ++ learned) (roots ++ decisions) clause (Contains-append_left clauses learned clause c))
      (λ (r : Contains roots clause). Contains-append_right (clauses ++ learned) (roots ++ decisions) clause (Contains-append_left roots decisions clause r))
      (Contains-append_cases clauses roots clause both))
      (λ (l : Contains learned clause). Contains-append_left (clauses ++ learned) (roots ++ decisions) clause (Contains-append_right clauses learned clause l))
      (Contains-append_cases (clauses ++ roots) learned clause front))
      (λ (d : Contains decisions clause). Contains-append_right (clauses ++ learned) (roots ++ decisions) clause (Contains-append_right roots decisions clause d))
      (Contains-append_cases ((clauses ++ roots) ++ learned) decisions clause m)

module _ (problem : ClauseProblem) (key : PositionSet) (value : Bool) (now : Standing) where
  abbrev roots : List (List Lit)
  roots = map unit_of (roots_at problem key)

  split : propagated (as_searched problem key value now) ≡ (problem.clauses ++ now.learned) ++ (roots ++ all_with value now.decisions)
  split =
      ap (λ r. (problem.clauses ++ now.learned) ++ r)
      (map-append unit_of (roots_at problem key) (map (literal_with value) now.decisions) ∙ ap (λ r. roots ++ r) (map-decisions value now.decisions))

  pub searched-there : AreAmong (propagated (as_searched problem key value now)) (under value (clauses_with problem key) now)
  searched-there =
      subst (λ cs. AreAmong cs (under value (clauses_with problem key) now)) (sym split)
      (part-among ((problem.clauses ++ now.learned) ++ (roots ++ all_with value now.decisions)) (under value (clauses_with problem key) now) (there problem.clauses now.learned roots (all_with value now.decisions)))

  pub searched-back : AreAmong (under value (clauses_with problem key) now) (propagated (as_searched problem key value now))
  searched-back =
      subst (λ cs. AreAmong (under value (clauses_with problem key) now) cs) (sym split)
      (part-among (under value (clauses_with problem key) now) ((problem.clauses ++ now.learned) ++ (roots ++ all_with value now.decisions)) (back problem.clauses now.learned roots (all_with value now.decisions)))
