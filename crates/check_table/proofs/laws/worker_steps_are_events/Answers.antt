use Rattle.check_table.proofs.WorkerEvents.{draw_is, no_draw_is, claim_is, answer_is, give_up_is, look_is}
use Rattle.check_table.proofs.laws.worker_steps_are_events.Goals as goal

pub returns-clause-draw : goal.returns-clause-draw
returns-clause-draw c p size s r id w there idle room = draw_is p size s r id w there idle room

pub returns-clause-no_draw : goal.returns-clause-no_draw
returns-clause-no_draw c p size s r id w there idle past = no_draw_is p size s r id w there idle past

pub returns-clause-claim : goal.returns-clause-claim
returns-clause-claim c p size s r id w t place there holds within verdict are = claim_is p size s r id w there t place holds within

pub returns-clause-answer : goal.returns-clause-answer
returns-clause-answer c p size s r id w t place read v there runs within right verdict are = answer_is p size s r id w there t place read runs within v right verdict are

pub returns-clause-give_up : goal.returns-clause-give_up
returns-clause-give_up c p size s r id w t place read there runs within verdict are = give_up_is p size s r id w there t place read runs within

pub returns-clause-look : goal.returns-clause-look
returns-clause-look c p size s r id w i place j n there = look_is p size s r id w there i place j n
