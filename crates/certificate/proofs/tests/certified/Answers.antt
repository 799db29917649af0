use Rattle.std.proofs.Common.{◌≡◌, ℕ, List, Some, IfOk, Result, Ok, Err, subst, sym}
use Rattle.clause_form.specs.ClauseForm.{problem_of}
use Rattle.clauses.specs.Problem.{ClauseProblem, IsProblem}
use Rattle.script.specs.Sequential.{result_of, verdicts_of}
use Rattle.certificate.specs.declared.judgement.Judgement.TheVariants.{Yes}
use Rattle.certificate.specs.Accepted.{UnlessLimit}
use Rattle.certificate.specs.Judging.{judge}
use Rattle.certificate.specs.Text.{certificate_text}
use Rattle.certificate.proofs.tests.certified.Goals as goal

with_text : {E : Type 0} (r : Result (List ℕ) E) (one : List ℕ) (Q : List ℕ → Type 0) → IfOk r (λ text. text ≡ one) → Q one → IfOk r Q
with_text (Ok text) one Q e h = subst Q (sym e) h
with_text (Err error) one Q e h = tt

pub returns : goal.returns
returns c =
    let form : ClauseProblem = problem_of c.args.model.now c.args.config.now c.args.problem.now.allowance c.args.problem.now.rungs in
    let lawful : IsProblem form = subst IsProblem c.requires.problem c.n-n.ensures.problem in
    let run : result_of c.args.plan (verdicts_of form) ≡ Some c.args.outcome.now =
    subst (λ (p : ClauseProblem). result_of c.args.plan (verdicts_of p) ≡ Some c.args.outcome.now) c.requires.problem c.requires.outcome in
    let accepted : UnlessLimit c.args.outcome.now (λ shown. judge c.args.model.now c.args.config.now form (certificate_text c.args.model.now c.args.config.now form c.args.outcome.now) ≡ Yes shown) =
    c.written_is_accepted.ensures.accepted c.args.model.now c.args.config.now c.args.problem.now.allowance c.args.problem.now.rungs c.args.plan c.args.outcome.now c.requires.stated lawful c.requires.plan run in
    with_text c.write_certificate.result (certificate_text c.args.model.now c.args.config.now c.args.problem.now c.args.outcome.now)
    (λ text. UnlessLimit c.args.outcome.now (λ shown. judge c.args.model.now c.args.config.now c.args.problem.now text ≡ Yes shown)) c.write_certificate.ensures
    (subst (λ (p : ClauseProblem). UnlessLimit c.args.outcome.now (λ shown. judge c.args.model.now c.args.config.now p (certificate_text c.args.model.now c.args.config.now p c.args.outcome.now) ≡ Yes shown)) (sym c.requires.problem) accepted)
