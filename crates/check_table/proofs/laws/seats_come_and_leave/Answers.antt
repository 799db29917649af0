use Rattle.check_table.proofs.SeatEvents.{split_is, join_idle, join_holding}
use Rattle.check_table.proofs.laws.seats_come_and_leave.Goals as goal

pub returns-clause-split : goal.returns-clause-split
returns-clause-split c p size s r m has = split_is p size s r m has

pub returns-clause-join : goal.returns-clause-join
returns-clause-join c p size s r m id w has there = (join_idle p size s r m id w has there, λ t holds saw verdict are. join_holding p size s r m id w has there t holds saw)
