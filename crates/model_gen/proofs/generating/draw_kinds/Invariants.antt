use Rattle.std.proofs.Common.{◌≡◌, map}
use Rattle.std.specs.List.{range_with_len}
use Rattle.model_gen.specs.Draws.{state_after, drawn}
use Rattle.model_gen.specs.Lines.{kind_by}
use Rattle.model_gen.proofs.generating.draw_kinds.Given as goal

-- so many kinds are drawn
abbrev pub invariant-parents : goal.invariant-parents
invariant-parents l =
    (l.draws.state ≡ state_after l.fn.draws.state l.counter)
    × (l.kinds ≡ map (λ parent. kind_by (drawn l.fn.draws.state parent 4)) (range_with_len 0 l.counter))
