use Rattle.std.proofs.Common.{not, sym, ◌∙◌, ap}
use Rattle.req_keys.specs.Positions.{has}
use Rattle.clauses.specs.Problem.{ClauseProblem}
use Rattle.certificate.specs.inside.Parts.{refuted_lines}
use Rattle.certificate.proofs.PieceLaws.{pieces-more, pieces-same}
use Rattle.certificate.proofs.searched.push_all_refuted.Goals as goal
use Rattle.certificate.proofs.searched.push_all_refuted.Goals.{then-not-contains+in_ok-push_refuted, else-not-contains}

pub loop-i-preserved : goal.loop-i-preserved
loop-i-preserved c = elim c.if-not-contains.branch [
  | then-not-contains+in_ok-push_refuted w ↦ record {
    same = w.searcher-is ∙ w.in_ok-push_refuted.ensures.same ∙ c.loop-i.invariant.same;
    text =
        pieces-more (λ (problem : ClauseProblem). refuted_lines problem c.args.kept.now) (λ i. not (has c.args.kept.now.members i)) c.loop-i.i c.args.searcher.now c.loop-i.searcher c.args.text.now c.loop-i.text
        c.loop-i.invariant.same (ap not (sym c.contains.ensures ∙ w.if-not-contains.true)) c.loop-i.invariant.text c.if-not-contains.text
        (w.text-is ∙ w.in_ok-push_refuted.ensures.text);
  }
  | else-not-contains w ↦ record {
    same = w.searcher-is ∙ c.loop-i.invariant.same;
    text =
        w.text-is
        ∙ pieces-same (λ (problem : ClauseProblem). refuted_lines problem c.args.kept.now) (λ i. not (has c.args.kept.now.members i)) c.loop-i.i c.args.searcher.now c.loop-i.searcher c.args.text.now c.loop-i.text
        (ap not (sym c.contains.ensures ∙ w.if-not-contains.false)) c.loop-i.invariant.text;
  }
]
