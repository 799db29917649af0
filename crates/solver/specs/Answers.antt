-- What the answers of a search mean.
use Rattle.std.specs.Prelude.{◌≡◌, ◌-◌, ◌<◌, ◌≤◌, ◌^◌, All, Bool, ℕ, IsTrue, List, [], ◌∷◌, ◌++◌, length}
use Rattle.req_keys.specs.Key.{PositionSet}
use Rattle.clauses.specs.declared.literal.Lit.{Lit}
use Rattle.clauses.specs.Clause.{are_satisfied}
use Rattle.clauses.specs.Closure.{IsDerivation}
use Rattle.clauses.specs.Problem.{ClauseProblem, IsBelow, clauses_with}
use Rattle.clauses.specs.Search.{SearchAnswer, Sat, Unsat, Limit, NameOthers, allowance_of}
use Rattle.solver.specs.declared.answer.Answer.{Answer}
use Rattle.solver.specs.declared.answer.Answer.TheVariants as answer

-- the same answer, as the definition of the search has it
abbrev pub meaning : Answer → SearchAnswer
meaning (answer.Sat values) = Sat values
meaning (answer.Unsat derivation) = Unsat derivation
meaning answer.Limit = Limit

-- What an attempt has learned when it ends: each clause has a member, is about variables of the problem, and names others
-- than the earlier ones; they are no more than the attempt may learn, and than there are sets of variables that aren't
-- empty.
pub record AreLearned (problem : ClauseProblem) (learned : List (List Lit)) : Type 0 where
  pub members : All (λ clause. ¬ clause ≡ []) learned
  pub below : All (All (IsBelow problem.variables)) learned
  pub others : NameOthers [] learned
  pub within : (attempt : ℕ) × (attempt ≤ problem.rungs) × (length learned ≤ allowance_of problem attempt)
  pub most : length learned ≤ 2 ^ problem.variables - 1

-- the lines are what was learned, and the empty clause behind it
abbrev pub EndsWithLearned : ClauseProblem → List (List Lit) → Type 0
EndsWithLearned problem lines = (learned : List (List Lit)) × (lines ≡ learned ++ [] ∷ []) × AreLearned problem learned

-- What the answer says of the clauses and the roots of the key. Sat: this value for each variable makes them all true.
-- Unsat: this is a derivation from them, and no values do. Limit: each attempt may learn fewer clauses than there are sets of
-- variables that aren't empty.
abbrev pub IsRight : ClauseProblem → PositionSet → Answer → Type 0
IsRight problem key (answer.Sat values) = (length values ≡ problem.variables) × IsTrue (are_satisfied values (clauses_with problem key))
IsRight problem key (answer.Unsat lines) =
    IsDerivation (clauses_with problem key) lines
    × ((values : List Bool) → ¬ IsTrue (are_satisfied values (clauses_with problem key)))
    × EndsWithLearned problem lines
IsRight problem key answer.Limit = (attempt : ℕ) → attempt ≤ problem.rungs → allowance_of problem attempt < 2 ^ problem.variables - 1
