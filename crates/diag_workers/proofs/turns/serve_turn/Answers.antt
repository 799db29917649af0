use Rattle.std.proofs.Common.{◌≡◌, ap, sym, subst, ◌∙◌, length}
use Rattle.clauses.specs.Problem.{ClauseProblem}
use Rattle.script.specs.Running.{Running}
use Rattle.serving.specs.Rounds.{IsHeld}
use Rattle.diag_workers.specs.inside.Course.{IsNext, IsOrdered, posted_so_far}
use Rattle.diag_workers.specs.inside.Ready.{IsReady}
use Rattle.diag_workers.proofs.CourseLaws.{served-between}
use Rattle.diag_workers.proofs.RoundLaws.{ready-on}
use Rattle.diag_workers.proofs.turns.serve_turn.Goals as goal

pub returns-clause-next : goal.returns-clause-next
returns-clause-next g c =
    let problem = c.args.table.now.problem in
    let size = c.args.table.now.size in
    let run = c.args.course.now.run in
    let posting = c.args.course.now.posting in
    let begun : IsOrdered problem c.args.depth size run posting c.in-Some.orders = subst (IsNext problem c.args.depth size run posting) c.in-Some.is c.requires.next in
    c.in_ok-next.ensures problem size
    (served-between problem c.args.depth size run posting c.in-Some.orders begun c.serve.new.run c.serve.new.posting c.turns_go_on.ensures.one_more
    (c.in_ok-serve.ensures.told begun.key begun.asks) (c.in_ok-serve.ensures.settled begun.key begun.asks))

pub returns-clause-same : goal.returns-clause-same
returns-clause-same g c = λ yes.
    let problem = c.args.table.now.problem in
    let size = c.args.table.now.size in
    let run = c.args.course.now.run in
    let posting = c.args.course.now.posting in
    let main = c.serve.new.main.sees in
    let after = c.serve.new.run in
    let begun : IsOrdered problem c.args.depth size run posting c.in-Some.orders = subst (IsNext problem c.args.depth size run posting) c.in-Some.is c.requires.next in
    let told = c.in_ok-serve.ensures.told begun.key begun.asks in
    let between =
    served-between problem c.args.depth size run posting c.in-Some.orders begun after c.serve.new.posting c.turns_go_on.ensures.one_more told (c.in_ok-serve.ensures.settled begun.key begun.asks) in
    let same : after.plan.requirements ≡ length main.problem.roots =
    ap (λ (r : Running). r.plan.requirements) told ∙ c.requires.plan ∙ ap (λ (p : ClauseProblem). length p.roots) (sym c.serve.ensures.own.problem) in
    let held : IsHeld main (posted_so_far c.args.depth size after) = subst (IsHeld main) between.turns c.in_ok-serve.ensures.held in
    let (orders, is, new) = c.is_of_the_round.ensures.same yes in
    let next : IsOrdered problem c.args.depth size after c.next_turn.new.posting orders =
    subst (IsNext problem c.args.depth size after c.next_turn.new.posting) is (c.in_ok-next.ensures problem size between) in
    subst (IsReady main c.next_turn.new.posting) (sym is)
    (ready-on problem c.args.depth size after c.next_turn.new.posting orders main same c.guessed_keys_fit_a_turn.ensures.positions next c.turns_follow.ensures.next held new)
