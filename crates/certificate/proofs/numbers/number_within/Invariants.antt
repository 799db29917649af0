use Rattle.std.proofs.Common.{◌≡◌, ◌<◌, ◌≤◌, drop}
use Rattle.std.specs.Str.{all_ascii_digits}
use Rattle.std.specs.Str.Parse.{digits_value, digits_value_after}
use Rattle.certificate.proofs.numbers.number_within.Given as goal

abbrev pub invariant-loop-digit : goal.invariant-loop-digit
invariant-loop-digit l = record {
  bound : l.number ≤ l.most;
  value : digits_value 10 l.word ≡ digits_value_after 10 l.number (drop l.digit-index l.word);
  digits : all_ascii_digits l.word ≡ all_ascii_digits (drop l.digit-index l.word);
  counted : 0 < l.digit-index → 1 ≤ l.number;
}
