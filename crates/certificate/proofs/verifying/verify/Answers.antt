use Rattle.std.proofs.Common.{◌≡◌, ◌∙◌, refl, sym, ap, [], ◌∷◌, ℕ, List, length, arith}
use Rattle.clauses.specs.Problem.{ClauseProblem}
use Rattle.clause_form.specs.ClauseForm.{first_root}
use Rattle.clause_form.proofs.ProblemLaws.{length-literals}
use Rattle.config_reader.specs.declared.config.Requirement.{Requirement}
use Rattle.config_reader.specs.Consistent.{formulas_of}
use Rattle.certificate.specs.declared.judgement.Judgement.TheVariants.{No}
use Rattle.certificate.specs.declared.judgement.Why.TheVariants.{NoCertificate}
use Rattle.certificate.specs.Judging.{Subject, judged_from_start}
use Rattle.certificate.specs.inside.Ahead.{Ahead}
use Rattle.certificate.proofs.verifying.verify.Goals as goal

formulas-length : (requirements : List Requirement) → length (formulas_of requirements) ≡ length requirements
formulas-length [] = refl
formulas-length (one ∷ requirements) = let rest = formulas-length requirements in omega arith

pub returns-then-not-begins : goal.returns-then-not-begins
returns-then-not-begins c =
    let about : Subject = record { model = c.args.model.now; config = c.args.config.now; problem = c.args.problem.now } in
    ap (λ (n : ℕ). No n NoCertificate) c.number-line.ensures
    ∙ sym (c.begins.ensures.none c.if-not-begins.true about)
    ∙ ap (λ (ahead : Ahead). judged_from_start about ahead.number ahead.lines) c.new-lines.ensures

pub shown-requires-clause-roots : goal.shown-requires-clause-roots
shown-requires-clause-roots c =
    ap (λ (problem : ClauseProblem). length problem.roots) c.requires.problem
    ∙ length-literals (first_root c.args.model.now c.args.config.now) (formulas_of c.args.config.now.requirements)
    ∙ formulas-length c.args.config.now.requirements
