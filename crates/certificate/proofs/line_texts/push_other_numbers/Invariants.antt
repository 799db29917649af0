-- what was put so far, and what is left
use Rattle.std.proofs.Common.{◌≡◌, ◌++◌, drop, ℕ}
use Rattle.std.specs.Prelude.{codes}
use Rattle.std.specs.Fmt.{decimal}
use Rattle.std.specs.List.{flat_map}
use Rattle.certificate.proofs.line_texts.push_other_numbers.Given as goal

abbrev pub invariant-loop-number : goal.invariant-loop-number
invariant-loop-number l =
    let put = flat_map (λ (number : ℕ). codes " " ++ decimal number) in
    l.text ++ put (drop l.number-index l.numbers) ≡ l.fn.text ++ put l.numbers
