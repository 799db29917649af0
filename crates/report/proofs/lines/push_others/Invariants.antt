-- what was put so far, and what is left
use Rattle.std.proofs.Common.{◌≡◌, ◌++◌, drop, ℕ}
use Rattle.std.specs.Prelude.{codes}
use Rattle.std.specs.Fmt.{decimal}
use Rattle.std.specs.List.{flat_map}
use Rattle.report.proofs.lines.push_others.Given as goal

abbrev pub invariant-loop-position : goal.invariant-loop-position
invariant-loop-position l =
    let put = flat_map (λ (position : ℕ). codes " " ++ decimal position) in
    l.text ++ put (drop l.position-index l.positions) ≡ l.fn.text ++ put l.positions
