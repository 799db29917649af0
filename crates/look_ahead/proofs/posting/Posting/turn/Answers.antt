use Rattle.std.proofs.Common.{◌∙◌, ◌++◌, ap}
use Rattle.look_ahead.specs.Posting.{PostingState, after_turn, orders_of}
use Rattle.look_ahead.proofs.TurnParts.{entered, entered-keeps, entered-orders}
use Rattle.look_ahead.proofs.posting.Posting.turn.Goals as goal

pub invariant_of-self-2 : goal.invariant_of-self-2
invariant_of-self-2 c =
    let f = c.self.inside in
    let s : PostingState = record { entries = f.entries; live = f.live.entries; taken = f.taken; posted = f.posted; settled = f.settled } in
    entered-keeps c.args.asked.now c.args.list.now s c.in_ok-turn.turn c.push_all.new.list c.in_ok-turn.ensures (c.in_ok-push_all.ensures.ok ∙ ap (λ l. f.posted ++ l) c.as_slice.ensures) c.self.invariant

pub returns-clause-ok : goal.returns-clause-ok
returns-clause-ok c =
    let f = c.self.inside in
    let s : PostingState = record { entries = f.entries; live = f.live.entries; taken = f.taken; posted = f.posted; settled = f.settled } in
    entered c.args.asked.now c.args.list.now s c.in_ok-turn.turn c.push_all.new.list c.in_ok-turn.ensures (c.in_ok-push_all.ensures.ok ∙ ap (λ l. f.posted ++ l) c.as_slice.ensures)
    ∙ ap (after_turn c.args.asked.now c.args.list.now) c.self.view_is

pub returns-clause-orders : goal.returns-clause-orders
returns-clause-orders c =
    let f = c.self.inside in
    let s : PostingState = record { entries = f.entries; live = f.live.entries; taken = f.taken; posted = f.posted; settled = f.settled } in
    entered-orders c.args.asked.now c.args.list.now s c.in_ok-turn.turn c.push_all.new.list c.in_ok-turn.ensures (c.in_ok-push_all.ensures.ok ∙ ap (λ l. f.posted ++ l) c.as_slice.ensures)
    ∙ ap (orders_of c.args.asked.now c.args.list.now) c.self.view_is
