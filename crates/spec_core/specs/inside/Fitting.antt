-- The parts of a world as the struct keeps them.
use Rattle.std.specs.Prelude.{◌≡◌, length}
use Rattle.clauses.specs.Problem.{ClauseProblem}
use Rattle.board.specs.declared.state.Board.{Board}
use Rattle.script.specs.Running.{Running}
use Rattle.spec_core.specs.World.{World}
use Rattle.spec_core.specs.inside.Making.{AreOver}

-- the world of a run and a board
abbrev pub world_of : Running → Board → World
world_of run board = record { plan = run.plan; told = run.told; board = board }

-- the run, the board and the problem fit together
pub record IsFit (run : Running) (board : Board) (problem : ClauseProblem) : Type 0 where
  pub positions : run.plan.requirements ≡ length problem.roots
  pub over : AreOver run.plan.requirements board
