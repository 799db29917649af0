-- Which keys are met: keys within those that are, and what a verdict says of it.
use Rattle.std.proofs.Common.{◌≡◌, ◌∙◌, refl, sym, ap, ℕ, Bool, List, Some, is_some}
use Rattle.std.specs.Prelude.{IsSome, option_map}
use Rattle.pref_sets.specs.Preferred.{IsWithin}
use Rattle.req_keys.specs.Key.{PositionSet}
use Rattle.req_keys.specs.declared.verdict.Verdict.{Verdict}
use Rattle.req_keys.specs.declared.verdict.Verdict.TheVariants as verdict
use Rattle.clauses.specs.declared.literal.Lit.{Lit}
use Rattle.clauses.specs.Clause.{is_satisfied}
use Rattle.clauses.specs.Met.{IsMet}
use Rattle.clauses.specs.Problem.{ClauseProblem, IsProblem, clauses_with}
use Rattle.clauses.specs.Search.{SearchAnswer, Sat, Unsat, Limit, allowance_of, first_of, search_of, turn_count, verdict_of, verdict_on}
use Rattle.lists.proofs.Members.{all_at, all_from}
use Rattle.clauses.proofs.DerivationLaws.{unsat-derivation, derivation-unsatisfiable}
use Rattle.clauses.proofs.AttemptLaws.{searched, search-of}
use Rattle.clauses.proofs.KeyRoots.{clauses_with-below, clauses_with-within}
use Rattle.clauses.proofs.SatLaws.{sat-satisfies}

module _ (problem : ClauseProblem) where
  pub met-within : (a b : PositionSet) → IsWithin a.members b.members → IsMet problem b → IsMet problem a
  met-within a b within (values, sized, all) = (
    values,
    sized,
    all_from (is_satisfied values) (clauses_with problem a) (λ clause m.
        all_at (is_satisfied values) (clauses_with problem b) clause all (clauses_with-within problem a b within clause m)),
  )

  module _ (key : PositionSet) where
    answers : (answer : SearchAnswer) × (search_of problem key ≡ Some answer)
    answers = searched problem key

    judged : (answer : SearchAnswer) → search_of problem key ≡ Some answer → verdict_on problem key ≡ Some (verdict_of answer)
    judged answer e = ap (option_map verdict_of) e

    pub verdict-some : IsSome (verdict_on problem key)
    verdict-some = let of = answers in ap is_some (judged of.0 of.1)

    unmet : (lines : List (List Lit)) → search_of problem key ≡ Some (Unsat lines) → ¬ IsMet problem key
    unmet lines e (values, sized, all) =
        let of = search-of problem key (Unsat lines) e in
        derivation-unsatisfiable values (clauses_with problem key) lines
        (unsat-derivation (first_of of.attempt) (clauses_with problem key) problem.variables (allowance_of problem of.attempt) (turn_count problem.variables (allowance_of problem of.attempt)) lines of.is) all

    met : IsProblem problem → (values : List Bool) → search_of problem key ≡ Some (Sat values) → IsMet problem key
    met is values e =
        let of = search-of problem key (Sat values) e in
        let holds = sat-satisfies (first_of of.attempt) (clauses_with problem key) problem.variables (allowance_of problem of.attempt) (clauses_with-below problem key is) (turn_count problem.variables (allowance_of problem of.attempt)) values of.is in
        (values, holds.0, holds.1)

    by_sat : IsProblem problem → (answer : SearchAnswer) → search_of problem key ≡ Some answer → verdict_of answer ≡ verdict.Sat → IsMet problem key
    by_sat is (Sat values) e v = met is values e
    by_sat is (Unsat lines) e v = absurd (cc)
    by_sat is Limit e v = absurd (cc)

    by_unsat : (answer : SearchAnswer) → search_of problem key ≡ Some answer → verdict_of answer ≡ verdict.Unsat → ¬ IsMet problem key
    by_unsat (Sat values) e v = absurd (cc)
    by_unsat (Unsat lines) e v = unmet lines e
    by_unsat Limit e v = absurd (cc)

    given : (v : Verdict) → verdict_on problem key ≡ Some v → (answer : SearchAnswer) → search_of problem key ≡ Some answer → verdict_of answer ≡ v
    given v e answer f = let same : Some (verdict_of answer) ≡ Some v = sym (judged answer f) ∙ e in cc

    pub sat-met : IsProblem problem → verdict_on problem key ≡ Some verdict.Sat → IsMet problem key
    sat-met is e = let of = answers in by_sat is of.0 of.1 (given verdict.Sat e of.0 of.1)

    pub unsat-unmet : verdict_on problem key ≡ Some verdict.Unsat → ¬ IsMet problem key
    unsat-unmet e = let of = answers in by_unsat of.0 of.1 (given verdict.Unsat e of.0 of.1)

    -- where the allowance wasn't spent

    sat_from : (answer : SearchAnswer) → search_of problem key ≡ Some answer → (¬ verdict_of answer ≡ verdict.Limit) → IsMet problem key → verdict_of answer ≡ verdict.Sat
    sat_from (Sat values) e n m = refl
    sat_from (Unsat lines) e n m = absurd (unmet lines e m)
    sat_from Limit e n m = absurd (n refl)

    unsat_from : IsProblem problem → (answer : SearchAnswer) → search_of problem key ≡ Some answer → (¬ verdict_of answer ≡ verdict.Limit) → (¬ IsMet problem key) → verdict_of answer ≡ verdict.Unsat
    unsat_from is (Sat values) e n m = absurd (m (met is values e))
    unsat_from is (Unsat lines) e n m = refl
    unsat_from is Limit e n m = absurd (n refl)

    module _ (n : ¬ verdict_on problem key ≡ Some verdict.Limit) where
      decided : (answer : SearchAnswer) → search_of problem key ≡ Some answer → ¬ verdict_of answer ≡ verdict.Limit
      decided answer e f = n (judged answer e ∙ ap Some f)

      pub met-sat : IsMet problem key → verdict_on problem key ≡ Some verdict.Sat
      met-sat m = let of = answers in judged of.0 of.1 ∙ ap Some (sat_from of.0 of.1 (decided of.0 of.1) m)

      pub unmet-unsat : IsProblem problem → (¬ IsMet problem key) → verdict_on problem key ≡ Some verdict.Unsat
      unmet-unsat is m = let of = answers in judged of.0 of.1 ∙ ap Some (unsat_from is of.0 of.1 (decided of.0 of.1) m)
