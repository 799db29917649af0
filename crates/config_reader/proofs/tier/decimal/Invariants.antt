use Rattle.std.proofs.Common.{◌≡◌, ◌<◌, drop}
use Rattle.config_reader.specs.Kinds.{decimal_after}
use Rattle.config_reader.proofs.tier.decimal.Given as goal

abbrev pub invariant-loop-digit : goal.invariant-loop-digit
invariant-loop-digit l = record {
  rest : decimal_after 0 l.digits ≡ decimal_after l.number (drop l.digit-index l.digits);
  at_first : l.digit-index < 1 → l.number < 1;
  at_second : l.digit-index < 2 → l.number < 10;
  at_third : l.digit-index < 3 → l.number < 100;
  at_fourth : l.digit-index < 4 → l.number < 1000;
}
