-- What a contract sees of a derivation whose lines come one by one.
use Rattle.std.specs.Prelude.{List, [], ◌++◌}
use Rattle.clauses.specs.declared.literal.Lit.{Lit}
use Rattle.clauses.specs.Problem.{ClauseProblem, clauses_with}
use Rattle.req_keys.specs.Key.{PositionSet}

-- the problem, the key whose roots are given, and the lines so far, each of which followed
pub record Lines : Type 0 where
  pub problem : ClauseProblem
  pub key : PositionSet
  pub lines : List (List Lit)

-- the clauses that a further line is to follow from
abbrev pub given : Lines → List (List Lit)
given so_far = clauses_with so_far.problem so_far.key ++ so_far.lines

-- no line has come yet
abbrev pub begun : ClauseProblem → PositionSet → Lines
begun problem key = record { problem = problem; key = key; lines = [] }
