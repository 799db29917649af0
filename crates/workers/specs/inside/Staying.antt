-- What the stop of a worker's search keeps.
use Rattle.std.specs.Prelude.{◌≡◌, true}
use Rattle.workers.specs.Stopping.{Stopping}

-- the table is the same, and the seat is but for what it saw; what was seen before stays seen
pub record SeatStays (before after : Stopping) : Type 0 where
  pub table : after.table ≡ before.table
  pub seat_table : after.seat.table ≡ before.seat.table
  pub problem : after.seat.sees.problem ≡ before.seat.sees.problem
  pub sized : after.seat.sees.size ≡ before.seat.sees.size
  pub number : after.seat.sees.number ≡ before.seat.sees.number
  pub stage : after.seat.sees.stage ≡ before.seat.sees.stage
  pub done : after.seat.sees.done ≡ before.seat.sees.done
  pub stop : before.seat.sees.saw_stop ≡ true → after.seat.sees.saw_stop ≡ true
  pub mark : before.seat.sees.saw_mark ≡ true → after.seat.sees.saw_mark ≡ true
