use Rattle.serving.proofs.CarriedOrders.{ready-cancelled, ready-held, ready-room}
use Rattle.serving.proofs.ServedTurns.{cancelled-all, met-since}
use Rattle.serving.proofs.turn.serve.Goals as goal

pub carry_out-requires-clause-room : goal.carry_out-requires-clause-room
carry_out-requires-clause-room g c = ready-room c.args.main.now.sees c.args.posting.now c.args.orders.now c.args.table.now.size c.requires.ready c.requires.own.size

pub answer_asked-requires-clause-held : goal.answer_asked-requires-clause-held
answer_asked-requires-clause-held g c κs within = ready-held c.args.main.now.sees c.carry_out.new.main.sees c.args.posting.now c.args.orders.now c.requires.ready c.carry_out.ensures.keeps c.carry_out.ensures.entries

pub returns-clause-cancelled : goal.returns-clause-cancelled
returns-clause-cancelled g c same =
    cancelled-all c.answer_asked.result c.answer_asked.new.main.sees.entries c.args.orders.now.cancel
    (λ t m. c.answer_asked.ensures.marks t (ready-cancelled c.args.main.now.sees c.carry_out.new.main.sees c.args.posting.now c.args.orders.now c.requires.ready c.carry_out.ensures.keeps c.carry_out.ensures.entries same t m))

pub returns-clause-met : goal.returns-clause-met
returns-clause-met g c key number asks live =
    met-since c.answer_asked.result c.args.table.now.problem c.args.main.now.sees c.carry_out.new.main.sees c.answer_asked.new.main.sees number c.carry_out.ensures.keeps (c.answer_asked.ensures.met key number asks live)
