use Rattle.std.proofs.Common.{◌≡◌, ◌+◌, ◌*◌, ◌++◌, ℕ, map, codes}
use Rattle.std.specs.List.{range_with_len, flat_map}
use Rattle.model_gen.specs.Draws.{state_after}
use Rattle.model_gen.specs.Lines.{parent_count, constraint}
use Rattle.model_gen.specs.Texts.{line, constraint_line}
use Rattle.model_gen.proofs.generating.push_constraints.Given as goal

-- so many constraints are drawn and written
abbrev pub invariant-constraints : goal.invariant-constraints
invariant-constraints l = (seed : ℕ) → l.fn.draws.state ≡ state_after seed (parent_count l.size) →
    (l.draws.state ≡ state_after seed (parent_count l.size + 2 * l.counter))
    × (l.text ≡ (l.fn.text ++ line 0 (codes "constraints")) ++ flat_map constraint_line (map (constraint seed l.size) (range_with_len 0 l.counter)))
