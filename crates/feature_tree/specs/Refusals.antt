-- What the reader of formulas answers: the formula of the tokens, or the first of three refusals.
use Rattle.std.specs.Prelude.{◌≡◌, ℕ, ◌<◌, ◌≤◌, IsTrue, IsFalse, List, Result, Ok, Err}
use Rattle.feature_tree.specs.declared.formula.Formula.{Formula}
use Rattle.feature_tree.specs.declared.reader.error.FormulaError.{FormulaError}
use Rattle.feature_tree.specs.declared.reader.error.FormulaError.TheVariants.{Unsupported, BadFormula, TooDeep, Memory}
use Rattle.feature_tree.specs.declared.reader.parsed.Parsed.{Parsed}
use Rattle.feature_tree.specs.declared.reader.role.Role.{Role}
use Rattle.feature_tree.specs.Grammar.{IsFormula}
use Rattle.feature_tree.specs.Roles.{has_unsupported}

-- the height that a formula may have
abbrev pub most : ℕ
most = 200

-- This formula stands for the tokens: none is unsupported, and it is read of them with a height that it may have.
pub record StandsFor (tokens : List Role) (formula : Formula) : Type 0 where
  pub supported : IsFalse (has_unsupported tokens)
  pub height : ℕ
  pub reads : IsFormula tokens (record { formula = formula; height = height })
  pub low : height ≤ most

-- no token is unsupported, and nothing is read of them
pub record IsBad (tokens : List Role) : Type 0 where
  pub supported : IsFalse (has_unsupported tokens)
  pub none : (parsed : Parsed) → IsFormula tokens parsed → ⊥

-- no token is unsupported, and what is read of them is too high
pub record IsTooDeep (tokens : List Role) : Type 0 where
  pub supported : IsFalse (has_unsupported tokens)
  pub parsed : Parsed
  pub reads : IsFormula tokens parsed
  pub high : most < parsed.height

-- the tokens are refused for this reason; want of memory may come for any
abbrev pub IsRefused : List Role → FormulaError → Type 0
IsRefused tokens Unsupported = IsTrue (has_unsupported tokens)
IsRefused tokens BadFormula = IsBad tokens
IsRefused tokens TooDeep = IsTooDeep tokens
IsRefused tokens Memory = Unit {0}

-- the answer is the formula of the tokens, or their refusal
abbrev pub IsAnswer : List Role → Result Formula FormulaError → Type 0
IsAnswer tokens (Ok formula) = StandsFor tokens formula
IsAnswer tokens (Err reason) = IsRefused tokens reason

-- LAWS

-- A list of tokens has at most one formula, with one height.
abbrev pub OneParse : Type 0
OneParse = (tokens : List Role) (one other : Parsed) → IsFormula tokens one → IsFormula tokens other → one ≡ other

abbrev pub IsMemory : Result Formula FormulaError → Type 0
IsMemory answer = answer ≡ Err Memory

-- Each list of tokens has exactly one answer that is not want of memory.
abbrev pub OneAnswer : Type 0
OneAnswer =
    (tokens : List Role)
    → (answer : Result Formula FormulaError) × IsAnswer tokens answer × ¬ IsMemory answer
    × ((other : Result Formula FormulaError) → IsAnswer tokens other → ¬ IsMemory other → other ≡ answer)
