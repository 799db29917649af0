use Rattle.std.proofs.Common.{◌≡◌, ◌∙◌, sym, subst, refl, List}
use Rattle.std.specs.Prelude.{All, Contains, IfOk, IsSome, OnOk, Result}
use Rattle.std.proofs.lemmas.List.Elements.{All-weaker}
use Rattle.lists.specs.Distinct.{IsDistinct}
use Rattle.req_keys.specs.Key.{PositionSet}
use Rattle.script.specs.Running.{want_after}
use Rattle.script.proofs.SequentialRuns.{want-key}
use Rattle.look_ahead.specs.Ahead.{keys_ahead}
use Rattle.look_ahead.specs.Posting.{PostingState, after_turn, orders_of}
use Rattle.look_ahead.specs.declared.orders.Orders.{Orders}
use Rattle.look_ahead.specs.Postings.{wants_of}
use Rattle.diag_workers.proofs.AloneLaws.{asking}
use Rattle.diag_workers.proofs.course.ordered.Goals as goal

pub ahead-requires-clause-asks : goal.ahead-requires-clause-asks
ahead-requires-clause-asks c = subst IsSome (sym c.requires.asks) refl

pub turn-requires-clause-distinct : goal.turn-requires-clause-distinct
turn-requires-clause-distinct c =
    let run = c.args.run.now in
    subst IsDistinct (sym c.in_ok-list.ensures) (c.guessed_keys_fit_a_turn.ensures.distinct run.plan run.told c.args.depth)

pub turn-requires-clause-others : goal.turn-requires-clause-others
turn-requires-clause-others c =
    let run = c.args.run.now in
    let P : List PositionSet → Type 0 = λ l. ¬ Contains l c.args.key.now in
    subst P (sym c.in_ok-list.ensures) (c.guessed_keys_fit_a_turn.ensures.others run.plan run.told c.args.depth c.args.key.now c.requires.asks)

pub turn-requires-clause-positions : goal.turn-requires-clause-positions
turn-requires-clause-positions c =
    let run = c.args.run.now in
    let key = c.args.key.now in
    let by = asking (want_after run) key (sym c.requires.asks) in
    let size : key.n ≡ run.plan.requirements = (want-key run.plan run.told by.0 key by.1).size in
    let P : List PositionSet → Type 0 = λ l. All (λ k. k.n ≡ key.n) l in
    subst P (sym c.in_ok-list.ensures)
    (All-weaker (λ (k : PositionSet). k.n ≡ run.plan.requirements) (λ k. k.n ≡ key.n) (λ k e. e ∙ sym size) (keys_ahead (wants_of run.plan) run.told c.args.depth) (c.guessed_keys_fit_a_turn.ensures.positions run.plan run.told c.args.depth))

-- what is said over an equal list
over_list : {E : Type 0} (found : Result Orders E) (key : PositionSet) (state : PostingState) (l m : List PositionSet) → l ≡ m → IfOk found (λ o. o ≡ orders_of key l state) → IfOk found (λ o. o ≡ orders_of key m state)
over_list found key state l m e h = subst (λ (x : List PositionSet). IfOk found (λ o. o ≡ orders_of key x state)) e h

turned_by : {A E : Type 0} (found : Result A E) (new : PostingState) (key : PositionSet) (state : PostingState) (l m : List PositionSet) → l ≡ m → OnOk found (new ≡ after_turn key l state) → OnOk found (new ≡ after_turn key m state)
turned_by found new key state l m e h = subst (λ (x : List PositionSet). OnOk found (new ≡ after_turn key x state)) e h

pub returns-clause-orders : goal.returns-clause-orders
returns-clause-orders c =
    over_list c.turn.result c.args.key.now c.args.posting.now c.in_ok-list.list (keys_ahead (wants_of c.args.run.now.plan) c.args.run.now.told c.args.depth) c.in_ok-list.ensures c.turn.ensures.orders

pub returns-clause-turn : goal.returns-clause-turn
returns-clause-turn c =
    turned_by c.turn.result c.turn.new.self c.args.key.now c.args.posting.now c.in_ok-list.list (keys_ahead (wants_of c.args.run.now.plan) c.args.run.now.told c.args.depth) c.in_ok-list.ensures c.turn.ensures.ok
