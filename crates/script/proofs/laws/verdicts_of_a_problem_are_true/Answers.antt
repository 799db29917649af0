use Rattle.std.proofs.Common.{◌≡◌, Option, Some, None, [], ◌∷◌, refl, sym, subst}
use Rattle.std.specs.Prelude.{All}
use Rattle.std.proofs.lemmas.List.Elements.{All-nil, All-cons, All-head, All-tail}
use Rattle.clauses.specs.Met.{AreMet, IsMet}
use Rattle.clauses.specs.Problem.{ClauseProblem}
use Rattle.clauses.specs.Search.{verdict_on}
use Rattle.req_keys.specs.Key.{PositionSet}
use Rattle.req_keys.specs.declared.verdict.Verdict.{Verdict}
use Rattle.req_keys.specs.declared.verdict.Verdict.TheVariants as verdict
use Rattle.script.specs.Job.{Told}
use Rattle.script.specs.Right.{AreTrue, IsTrueVerdict}
use Rattle.script.specs.Sequential.{known_verdict, verdicts_of}
use Rattle.script.proofs.SequentialRuns.{so_far-checks}
use Rattle.script.proofs.laws.verdicts_of_a_problem_are_true.Goals as goal

module _ (problem : ClauseProblem)
    (sat : (key : PositionSet) → verdict_on problem key ≡ Some verdict.Sat → IsMet problem key)
    (unsat : (key : PositionSet) → verdict_on problem key ≡ Some verdict.Unsat → ¬ IsMet problem key) where
  one-true : (key : PositionSet) (answer : Option Verdict) → verdict_on problem key ≡ answer → IsTrueVerdict (AreMet problem) key.members (known_verdict answer)
  one-true key None e = tt
  one-true key (Some verdict.Sat) e = sat key e
  one-true key (Some verdict.Unsat) e = unsat key e
  one-true key (Some verdict.Limit) e = tt

  all-true : (told : Told) → All (λ pair. pair.1 ≡ verdicts_of problem pair.0) told → AreTrue (AreMet problem) told
  all-true [] h = All-nil (λ pair. IsTrueVerdict (AreMet problem) pair.0.members pair.1)
  all-true (pair ∷ told) h =
      All-cons (λ one. IsTrueVerdict (AreMet problem) one.0.members one.1) pair told
      (subst (λ (v : Verdict). IsTrueVerdict (AreMet problem) pair.0.members v) (sym (All-head (λ one. one.1 ≡ verdicts_of problem one.0) pair told h)) (one-true pair.0 (verdict_on problem pair.0) refl))
      (all-true told (All-tail (λ one. one.1 ≡ verdicts_of problem one.0) pair told h))

pub returns : goal.returns
returns c = λ problem plan told is far.
    all-true problem
    (λ key e. c.verdict_says_what_is_met.ensures.sat problem key is e)
    (λ key e. c.verdict_says_what_is_met.ensures.unsat problem key e)
    told (so_far-checks plan (verdicts_of problem) told far).answered
