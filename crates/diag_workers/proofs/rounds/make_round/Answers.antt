use Rattle.std.proofs.Common.{length, ap, sym, ◌∙◌}
use Rattle.clauses.specs.Problem.{ClauseProblem}
use Rattle.check_table.specs.declared.view.MainView.{MainView}
use Rattle.diag_workers.proofs.RoundLaws.{ready-at}
use Rattle.diag_workers.proofs.rounds.make_round.Goals as goal

pub share_round-main-requires-clause-ready : goal.share_round-main-requires-clause-ready
share_round-main-requires-clause-ready g c = λ lifetimes lives.
    let main = c.in_ok-table.main.sees in
    let opened = c.in_ok-table.ensures.new in
    ready-at c.args.problem.now c.args.options.now.ahead c.args.options.now.entries c.args.course.run c.args.course.posting c.args.course.next main
    (c.requires.plan ∙ ap (λ (p : ClauseProblem). length p.roots) (sym (ap (λ (m : MainView). m.problem) opened)))
    c.guessed_keys_fit_a_turn.ensures.positions c.turns_follow.ensures.next c.rounds_begin.ensures c.turns_follow.ensures.begins c.turns_follow.ensures.first
    (ap (λ (m : MainView). m.entries) opened) (ap (λ (m : MainView). m.size) opened) c.requires.next c.requires.begins c.requires.turn
