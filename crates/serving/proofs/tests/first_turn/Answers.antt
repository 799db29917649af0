use Rattle.std.proofs.Common.{◌≡◌, ◌∙◌, sym, ap, subst, List, length, Some}
use Rattle.std.specs.Prelude.{All, Contains}
use Rattle.std.proofs.lemmas.Result.{err_from_is_err_and}
use Rattle.std.proofs.lemmas.List.Elements.{All-weaker}
use Rattle.lists.specs.Distinct.{IsDistinct}
use Rattle.req_keys.specs.Key.{PositionSet}
use Rattle.req_keys.specs.Wanting.{wanted_key}
use Rattle.script.specs.Running.{IsAsking, Running, key_in, want_after}
use Rattle.check_table.specs.declared.view.MainView.{MainView}
use Rattle.serving.proofs.Tested.{asked-three, first-posted, first-ready, on-err, two-posts}
use Rattle.serving.proofs.tests.first_turn.Goals as goal

pub turn-requires-clause-distinct : goal.turn-requires-clause-distinct
turn-requires-clause-distinct g c =
    let run = c.args.run.now in
    subst IsDistinct (sym c.in_ok-list.ensures) (c.guessed_keys_fit_a_turn.ensures.distinct run.plan run.told 3)

pub turn-requires-clause-others : goal.turn-requires-clause-others
turn-requires-clause-others g c =
    let run = c.args.run.now in
    let asks : Some c.in-Ask.asked.now ≡ key_in (want_after run) = ap wanted_key (sym c.in-Ask.is) ∙ c.want.ensures in
    let P : List PositionSet → Type 0 = λ l. ¬ Contains l c.in-Ask.asked.now in
    subst P (sym c.in_ok-list.ensures) (c.guessed_keys_fit_a_turn.ensures.others run.plan run.told 3 c.in-Ask.asked.now (sym asks))

pub turn-requires-clause-positions : goal.turn-requires-clause-positions
turn-requires-clause-positions g c =
    let run = c.args.run.now in
    let asks : Some c.in-Ask.asked.now ≡ key_in (want_after run) = ap wanted_key (sym c.in-Ask.is) ∙ c.want.ensures in
    let three = asked-three run c.in-Ask.asked.now c.in_ok-list.list c.requires.run asks c.in_ok-list.ensures in
    let plan : run.plan.requirements ≡ 3 = ap (λ (r : Running). r.plan.requirements) c.requires.run in
    let P : List PositionSet → Type 0 = λ l. All (λ (k : PositionSet). k.n ≡ run.plan.requirements) l in
    All-weaker (λ (k : PositionSet). k.n ≡ run.plan.requirements) (λ k. k.n ≡ c.in-Ask.asked.now.n) (λ k e. e ∙ plan ∙ sym three) c.in_ok-list.list
    (subst P (sym c.in_ok-list.ensures) (c.guessed_keys_fit_a_turn.ensures.positions run.plan run.told 3))

pub returns-in_err-orders-clause-posted : goal.returns-in_err-orders-clause-posted
returns-in_err-orders-clause-posted g c =
    let p = err_from_is_err_and c.from_residual-in_err-orders.result c.from_residual-in_err-orders.ensures.1 in
    on-err (length c.args.main.now.sees.entries ≡ 2) c.from_residual-in_err-orders.result p.0 p.1

pub serve-requires-clause-plan : goal.serve-requires-clause-plan
serve-requires-clause-plan g c κs within = ap (λ (r : Running). r.plan.requirements) c.requires.run ∙ sym c.requires.roots

pub serve-requires-clause-running : goal.serve-requires-clause-running
serve-requires-clause-running g c κs within = ap (λ (m : MainView). m.stopped) c.requires.new

pub serve-requires-clause-asks : goal.serve-requires-clause-asks
serve-requires-clause-asks g c κs within = subst (λ (r : Running). IsAsking (want_after r)) (sym c.requires.run) tt

pub serve-requires-clause-ready : goal.serve-requires-clause-ready
serve-requires-clause-ready g c κs within =
    let run = c.args.run.now in
    let plan : run.plan.requirements ≡ 3 = ap (λ (r : Running). r.plan.requirements) c.requires.run in
    let P : List PositionSet → Type 0 = λ l. All (λ (k : PositionSet). k.n ≡ run.plan.requirements) l in
    let positions = All-weaker (λ (k : PositionSet). k.n ≡ run.plan.requirements) (λ k. k.n ≡ 3) (λ k e. e ∙ plan) c.in_ok-list.list (subst P (sym c.in_ok-list.ensures) (c.guessed_keys_fit_a_turn.ensures.positions run.plan run.told 3)) in
    first-ready c.args.table.now.problem c.args.main.now.sees c.args.posting.now c.turn.new.self c.in_ok-orders.orders c.in-Ask.asked.now c.in_ok-list.list
    c.turns_follow.ensures.next c.turns_follow.ensures.begins c.turns_follow.ensures.first c.requires.new c.requires.roots c.requires.posting positions c.in_ok-orders.ensures.ok c.in_ok-orders.ensures.orders

pub returns-clause-posted : goal.returns-clause-posted
returns-clause-posted g c =
    let run = c.args.run.now in
    let asked = c.in-Ask.asked.now in
    let list = c.in_ok-list.list in
    let before = c.args.posting.now in
    let orders = c.in_ok-orders.orders in
    let asks : Some asked ≡ key_in (want_after run) = ap wanted_key (sym c.in-Ask.is) ∙ c.want.ensures in
    first-posted asked list 2 before c.turn.new.self orders c.requires.posting c.in_ok-orders.ensures.ok c.in_ok-orders.ensures.orders
    c.serve.result c.serve.new.main.sees asked c.serve.new.posting 2
    (two-posts run asked list c.requires.run asks c.in_ok-list.ensures before orders c.requires.posting c.in_ok-orders.ensures.orders)
    (c.serve.ensures.settled asked (sym asks)) c.serve.ensures.held
