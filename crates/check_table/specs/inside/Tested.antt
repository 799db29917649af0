-- What the tests are about.
use Rattle.std.specs.Prelude.{◌≡◌, true, [], ◌∷◌}
use Rattle.clauses.specs.declared.literal.Lit.{Lit}
use Rattle.clauses.specs.Problem.{ClauseProblem}
use Rattle.check_table.specs.declared.view.MainView.{MainView}

abbrev root : Lit
root = record { var = 0; positive = true }

-- three requirements about one variable, of which no clause speaks
abbrev pub free_problem : ClauseProblem
free_problem = record { variables = 1; features = 1; clauses = []; roots = root ∷ root ∷ root ∷ []; allowance = 0; rungs = 0 }

-- no seat came or left
abbrev pub CountsAre : MainView → MainView → Type 0
CountsAre before after = (after.made ≡ before.made) × (after.left ≡ before.left)
