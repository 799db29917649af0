-- what was put so far, and what is left
use Rattle.std.proofs.Common.{◌≡◌, ◌++◌, drop}
use Rattle.std.specs.Prelude.{codes}
use Rattle.std.specs.List.{flat_map}
use Rattle.clauses.specs.declared.literal.Lit.{Lit}
use Rattle.certificate.specs.Text.{literal_text}
use Rattle.certificate.proofs.line_texts.push_other_literals.Given as goal

abbrev pub invariant-loop-literal : goal.invariant-loop-literal
invariant-loop-literal l =
    let put = flat_map (λ (literal : Lit). codes " " ++ literal_text literal) in
    l.text ++ put (drop l.literal-index l.literals) ≡ l.fn.text ++ put l.literals
