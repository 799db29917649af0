use Rattle.std.proofs.Common.{◌≡◌, ◌++◌, ℕ, List}
use Rattle.std.specs.Prelude.{All}
use Rattle.std.specs.Option.{option_map}
use Rattle.std.specs.Borrow.{Bor}
use Rattle.clauses.specs.Problem.{IsBelow}
use Rattle.certificate.specs.Words.{literals_of}
use Rattle.certificate.specs.inside.Pieces.{pieces_of}
use Rattle.certificate.proofs.Cuts.{left_of}
use Rattle.certificate.proofs.saying.read_clause.Given as goal

abbrev pub invariant-words : goal.invariant-words
invariant-words l = record {
  read : literals_of l.variables (pieces_of 32 (option_map (λ (x : Bor (List ℕ)). x.now) l.fn.words)) ≡ option_map (λ more. l.clause ++ more) (literals_of l.variables (pieces_of 32 (option_map (λ (x : Bor (List ℕ)). x.now) l.rest)));
  below : All (IsBelow l.variables) l.clause;
}

abbrev pub decreases-words : goal.decreases-words
decreases-words l = left_of l.rest
