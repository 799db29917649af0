-- the numbers of the features so far
use Rattle.std.proofs.Common.{◌≡◌, ◌-◌}
use Rattle.std.specs.List.{filter, range_with_len}
use Rattle.feature_tree.specs.Truth.{is_in}
use Rattle.certificate.proofs.line_texts.numbers_in.Given as goal

abbrev pub invariant-loop-i : goal.invariant-loop-i
invariant-loop-i l = l.numbers ≡ filter (λ number. is_in l.set (number - 1)) (range_with_len 1 l.i)
