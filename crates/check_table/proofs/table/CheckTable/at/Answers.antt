use Rattle.std.proofs.Common.{ℕ, ◌+◌, ◌*◌, sym, ap, ◌∙◌}
use Rattle.check_table.specs.Places.{key_width}
use Rattle.check_table.proofs.Slots.{slot_is}
use Rattle.check_table.proofs.table.CheckTable.at.Goals as goal

pub returns-clause-place : goal.returns-clause-place
returns-clause-place c = ap (λ (k : ℕ). 2 + c.args.entry * (1 + k) + c.args.word) (c.self.invariant.1 ∙ ap (λ t. key_width t.problem) c.self.view_is) ∙ sym (slot_is _ c.args.entry c.args.word)
