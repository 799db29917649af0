use Rattle.std.proofs.Common.{◌≡◌, take}
use Rattle.std.specs.Prelude.{All}
use Rattle.clauses.specs.Letters.{clause_of}
use Rattle.clauses.specs.Problem.{IsBelow}
use Rattle.clauses.proofs.letters.clause_of.Given as goal

abbrev pub invariant-loop-letter : goal.invariant-loop-letter
invariant-loop-letter l = record { so_far : l.clause ≡ clause_of l.variables (take l.letter-index l.letter-items); below : All (IsBelow l.variables) l.clause }
