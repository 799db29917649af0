use Rattle.std.proofs.Common.{◌≡◌, ℕ, length, subst, sym, ◌∙◌, ap, arith}
use Rattle.clauses.specs.Problem.{ClauseProblem}
use Rattle.certificate.specs.Writing.{IsOver}
use Rattle.certificate.proofs.WholeLaws.{roots-counted, whole-is}
use Rattle.certificate.proofs.writing.write_certificate.Goals as goal

pub push_outcome-requires : goal.push_outcome-requires
push_outcome-requires c =
    let roots : length c.args.problem.now.roots ≡ length c.args.config.now.requirements =
    ap (λ (problem : ClauseProblem). length problem.roots) c.requires.problem ∙ roots-counted c.args.model.now c.args.config.now c.args.problem.now.allowance c.args.problem.now.rungs in
    record {
      n = c.n.ensures.n ∙ sym (ap (λ (problem : ClauseProblem). length problem.roots) c.in_ok-searcher.ensures);
      most = omega (arith, c.n.ensures.n, c.n.ensures.problem.few_roots);
      outcome = subst (λ (k : ℕ). IsOver k c.args.outcome.now) (sym (c.n.ensures.n ∙ roots)) c.requires.outcome;
    }

pub returns : goal.returns
returns c =
    let roots : length c.args.problem.now.roots ≡ length c.args.config.now.requirements =
    ap (λ (problem : ClauseProblem). length problem.roots) c.requires.problem ∙ roots-counted c.args.model.now c.args.config.now c.args.problem.now.allowance c.args.problem.now.rungs in
    whole-is (record { model = c.args.model.now; config = c.args.config.now; problem = c.args.problem.now }) c.in_ok-searcher.searcher c.n.result c.args.outcome.now
    c.in_ok-text.text c.push_outcome.new.text c.extend_from_slice.new.self
    c.in_ok-searcher.ensures (c.n.ensures.n ∙ roots) c.requires.outcome c.in_default.not-LimitAt c.in_ok-text.ensures c.in_ok-push_outcome.ensures c.in_ok-extend_from_slice.ensures.ok
