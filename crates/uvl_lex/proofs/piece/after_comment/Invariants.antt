use Rattle.std.proofs.Common.{◌≡◌, ℕ, ◌+◌, length}
use Rattle.std.specs.Option.{option_map}
use Rattle.uvl_lex.specs.inside.Cursors.{left, GoesOn}
use Rattle.uvl_lex.specs.Pieces.{closed_after}
use Rattle.uvl_lex.proofs.piece.after_comment.Given as goal

-- so many characters have been passed, and no `*/` has begun in them
abbrev pub invariant-loop-c : goal.invariant-loop-c
invariant-loop-c l =
    (n : ℕ) × GoesOn l.initial.at n l.at × (closed_after (left l.initial.at) ≡ option_map (λ m. n + m) (closed_after (left l.at)))

abbrev pub decreases-loop-c : goal.decreases-loop-c
decreases-loop-c l = length (left l.at)
