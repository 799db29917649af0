-- what was pushed and what is left are all numbers
use Rattle.std.proofs.Common.{◌≡◌, ◌++◌}
use Rattle.look_ahead.specs.Posting.{numbers_of}
use Rattle.look_ahead.proofs.posting.push_numbers.Given as goal

abbrev pub invariant-entries : goal.invariant-entries
invariant-entries l = l.numbers ++ numbers_of l.number-iterator ≡ l.initial.numbers ++ numbers_of l.live.entries
