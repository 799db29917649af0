use Rattle.std.proofs.Common.{◌≡◌, ◌++◌}
use Rattle.model_gen.specs.Texts.{tabs_of}
use Rattle.model_gen.proofs.lines.push_tabs.Given as goal

abbrev pub invariant-tabs : goal.invariant-tabs
invariant-tabs l = l.text ≡ l.fn.text ++ tabs_of l.counter
