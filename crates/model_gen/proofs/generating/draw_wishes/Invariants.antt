use Rattle.std.proofs.Common.{◌≡◌, ◌+◌, ◌*◌, ℕ, map}
use Rattle.std.specs.List.{range_with_len, flat_map}
use Rattle.model_gen.specs.Draws.{state_after}
use Rattle.model_gen.specs.Lines.{draws_before_wishes, wish}
use Rattle.model_gen.specs.Texts.{wish_line}
use Rattle.model_gen.proofs.generating.draw_wishes.Given as goal

-- so many requirements are drawn and written
abbrev pub invariant-wishes : goal.invariant-wishes
invariant-wishes l = (seed : ℕ) → l.fn.draws.state ≡ state_after seed (draws_before_wishes l.size) →
    (l.draws.state ≡ state_after seed (draws_before_wishes l.size + 2 * l.counter))
    × (l.text ≡ flat_map wish_line (map (wish seed l.size) (range_with_len 0 l.counter)))
