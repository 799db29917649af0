use Rattle.std.proofs.Common.{◌≡◌, map, take}
use Rattle.std.specs.Prelude.{All}
use Rattle.clauses.specs.Letters.{clause_of}
use Rattle.clauses.specs.Problem.{IsBelow}
use Rattle.clauses.proofs.letters.clauses_of.Given as goal

abbrev pub invariant-loop-word : goal.invariant-loop-word
invariant-loop-word l = record { so_far : l.clauses ≡ map (λ word. clause_of l.variables word.now) (take l.word-index l.words); below : All (All (IsBelow l.variables)) l.clauses }
