-- what was put so far, and what is left
use Rattle.std.proofs.Common.{◌≡◌, ◌++◌, drop}
use Rattle.std.specs.Prelude.{codes}
use Rattle.std.specs.List.{flat_map}
use Rattle.req_keys.specs.Key.{PositionSet}
use Rattle.report.specs.Lines.{line, positions_text}
use Rattle.report.proofs.lines.push_diagnoses.Given as goal

abbrev pub invariant-loop-diagnosis : goal.invariant-loop-diagnosis
invariant-loop-diagnosis l =
    let put = flat_map (λ (diagnosis : PositionSet). line (codes "  " ++ positions_text diagnosis.members)) in
    l.text ++ put (drop l.diagnosis-index l.listing) ≡ l.fn.text ++ put l.listing
