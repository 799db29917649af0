use Rattle.std.proofs.Common.{◌≡◌, ◌++◌, List, ℕ, sym, ◌∙◌, ap, arith}
use Rattle.std.specs.List.{flat_map}
use Rattle.req_keys.specs.Positions.{has}
use Rattle.req_keys.proofs.PositionsLaws.{positions_where-has}
use Rattle.clauses.specs.Problem.{ClauseProblem}
use Rattle.certificate.specs.inside.Parts.{need_lines}
use Rattle.certificate.proofs.PieceLaws.{pieces-more, pieces-same, passing}
use Rattle.certificate.proofs.searched.push_all_needs.Goals as goal
use Rattle.certificate.proofs.searched.push_all_needs.Goals.{then-contains+in_ok-push_need, else-contains}

pub loop-i-preserved : goal.loop-i-preserved
loop-i-preserved c = elim c.if-contains.branch [
  | then-contains+in_ok-push_need w ↦ record {
    same = w.searcher-is ∙ w.in_ok-push_need.ensures.same ∙ c.loop-i.invariant.same;
    text =
        pieces-more (λ (problem : ClauseProblem). need_lines c.args.model.now problem c.args.conflict.now) (has c.args.conflict.now.members) c.loop-i.i c.args.searcher.now c.loop-i.searcher c.args.text.now c.loop-i.text
        c.loop-i.invariant.same (sym c.contains.ensures ∙ w.if-contains.true) c.loop-i.invariant.text c.if-contains.text
        (w.text-is ∙ w.in_ok-push_need.ensures.text);
  }
  | else-contains w ↦ record {
    same = w.searcher-is ∙ c.loop-i.invariant.same;
    text =
        w.text-is
        ∙ pieces-same (λ (problem : ClauseProblem). need_lines c.args.model.now problem c.args.conflict.now) (has c.args.conflict.now.members) c.loop-i.i c.args.searcher.now c.loop-i.searcher c.args.text.now c.loop-i.text
        (sym c.contains.ensures ∙ w.if-contains.false) c.loop-i.invariant.text;
  }
]

-- the members are those of the positions that are
pub returns-clause-text : goal.returns-clause-text
returns-clause-text c =
    let all : c.loop-i.i ≡ c.args.conflict.now.n = omega (arith, c.n-i-end.ensures.n) in
    c.loop-i.invariant.text
    ∙ ap (λ (t : List ℕ). c.args.text.now ++ flat_map (need_lines c.args.model.now c.args.searcher.now c.args.conflict.now) t)
    (ap (passing (has c.args.conflict.now.members)) all ∙ positions_where-has c.args.conflict.now.n 0 c.args.conflict.now.members (c.n-i-end.ensures.key.1))
