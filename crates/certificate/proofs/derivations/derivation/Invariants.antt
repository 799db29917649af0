use Rattle.std.proofs.Common.{◌≡◌, ◌∷◌, List, length}
use Rattle.clauses.specs.Problem.{clauses_with}
use Rattle.derivation_check.specs.Lines.{given}
use Rattle.certificate.specs.Judging.{Awaited, Derivation, Subject}
use Rattle.certificate.specs.inside.Ahead.{judged_at}
use Rattle.certificate.proofs.derivations.derivation.Given as goal

abbrev pub invariant-lines : goal.invariant-lines
invariant-lines l = record {
  problem : l.checker.problem ≡ l.fn.checker.problem;
  so_far : (about : Subject) → about.problem ≡ l.fn.checker.problem → (rest : List Awaited) → judged_at about (Derivation (clauses_with about.problem l.fn.key) ∷ rest) l.fn.lines ≡ judged_at about (Derivation (given l.checker) ∷ rest) l.lines;
}

abbrev pub decreases-lines : goal.decreases-lines
decreases-lines l = length l.lines.lines
