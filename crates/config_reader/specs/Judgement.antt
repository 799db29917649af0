-- What is read of one line and then of all lines, or why one is refused. A must is read as a requirement is. Own to this
-- project.
use Rattle.std.specs.Prelude.{◌≡◌, ℕ, nat_lt, if◌then◌else◌, List, [], ◌∷◌, ◌++◌, length, drop, Option, Some, None, Result, Ok, Err}
use Rattle.feature_tree.specs.declared.formula.Formula.{Formula}
use Rattle.feature_tree.specs.declared.reader.error.FormulaError.{FormulaError}
use Rattle.feature_tree.specs.declared.reader.error.FormulaError.TheVariants as formula
use Rattle.feature_tree.specs.FormulaAnswer.{formula_answer}
use Rattle.feature_tree.specs.Numbered.{numbered}
use Rattle.uvl_lex.specs.declared.token.Line.{Line}
use Rattle.uvl_lex.specs.declared.token.Token.{Token}
use Rattle.config_reader.specs.declared.config.Requirement.{Requirement}
use Rattle.config_reader.specs.declared.error.ConfigError.{ConfigError}
use Rattle.config_reader.specs.declared.error.ConfigError.TheVariants.{Refused, Memory}
use Rattle.config_reader.specs.declared.error.Reason.TheVariants.{TooMany, Unsupported, BadFormula, TooDeep, Unknown, BadTier}
use Rattle.config_reader.specs.declared.kind.Kind.{Kind}
use Rattle.config_reader.specs.declared.kind.Kind.TheVariants.{Tier, Must, Wanted}
use Rattle.config_reader.specs.declared.kind.Version.{Version}
use Rattle.config_reader.specs.declared.placed.Placed.{Placed}
use Rattle.config_reader.specs.Kinds.{kind_in, tier_of_line}
use Rattle.config_reader.specs.Names.{numbers}
use Rattle.name_table.specs.Numbers.{Numbers}
use Rattle.config_reader.specs.Texts.{text}

-- what is asked for, or the one refusal
abbrev pub OrRefused : Type 0 → Type 0
OrRefused A = Result A ConfigError

abbrev pub and_then : {A B : Type 0} → (A → OrRefused B) → OrRefused A → OrRefused B
and_then f (Ok value) = f value
and_then f (Err error) = Err error

abbrev pub on_ok : {A B : Type 0} → (A → B) → OrRefused A → OrRefused B
on_ok f (Ok value) = Ok (f value)
on_ok f (Err error) = Err error

-- ONE REQUIREMENT

-- the refusal of a formula at this line
abbrev pub refusal : ℕ → FormulaError → ConfigError
refusal line formula.Unsupported = Refused line Unsupported
refusal line formula.BadFormula = Refused line BadFormula
refusal line formula.TooDeep = Refused line TooDeep
refusal line formula.Memory = Memory

-- the formula with the numbers of its features, refused where some name is no feature
abbrev pub with_numbers : ℕ → List ℕ → Formula → Option (List ℕ) → OrRefused Requirement
with_numbers line words formula None = Err (Refused line Unknown)
with_numbers line words formula (Some of) = Ok (record { text = words; formula = numbered of formula })

abbrev pub if_formula : Numbers → List ℕ → ℕ → List Token → Result Formula FormulaError → OrRefused Requirement
if_formula names bytes line tokens (Ok formula) = with_numbers line (text bytes tokens) formula (numbers names bytes tokens)
if_formula names bytes line tokens (Err reason) = Err (refusal line reason)

-- the requirement that the tokens of a line with this number state
unfoldable pub requirement : Numbers → List ℕ → ℕ → List Token → OrRefused Requirement
requirement names bytes line tokens = if_formula names bytes line tokens (formula_answer tokens)

-- how many requirements a file may have, and how many musts
abbrev pub most : ℕ
most = 4096

-- The requirement of a line, where there are so many of its kind already: one too many is refused before its formula is
-- looked at.
abbrev pub one_more : ℕ → Numbers → List ℕ → ℕ → List Token → OrRefused Requirement
one_more count names bytes line tokens = if nat_lt count most then requirement names bytes line tokens else Err (Refused line TooMany)

-- LINE AFTER LINE

-- what was read of some lines: the tier that is set, the requirements with their tiers, and the musts
pub record Standing : Type 0 where
  pub tier : ℕ
  pub placed : List Placed
  pub musts : List Requirement

-- before the first line the tier is 1
abbrev pub start : Standing
start = record { tier = 1; placed = []; musts = [] }

abbrev pub with_tier : ℕ → Standing → Option ℕ → OrRefused Standing
with_tier line before None = Err (Refused line BadTier)
with_tier line before (Some tier) = Ok (record before { tier = tier })

abbrev pub with_must : Standing → Requirement → Standing
with_must before must = record before { musts = before.musts ++ must ∷ [] }

-- a requirement is placed in the tier that is set
abbrev pub with_wanted : Standing → Requirement → Standing
with_wanted before wanted = record before { placed = before.placed ++ record { tier = before.tier; requirement = wanted } ∷ [] }

-- The tokens of a must are those after `must`.
abbrev pub after_kind : Numbers → List ℕ → Standing → ℕ → List Token → Kind → OrRefused Standing
after_kind names bytes before line tokens Tier = with_tier line before (tier_of_line bytes tokens)
after_kind names bytes before line tokens Must = on_ok (with_must before) (one_more (length before.musts) names bytes line (drop 1 tokens))
after_kind names bytes before line tokens Wanted = on_ok (with_wanted before) (one_more (length before.placed) names bytes line tokens)

unfoldable pub after_line : Version → Numbers → List ℕ → Standing → Line → OrRefused Standing
after_line version names bytes before line = after_kind names bytes before line.number line.tokens (kind_in version bytes line.tokens)

-- the lines in order; the first refusal decides
unfoldable pub after_lines : Version → Numbers → List ℕ → Standing → List Line → OrRefused Standing
after_lines version names bytes before [] = Ok before
after_lines version names bytes before (line ∷ below) = and_then (λ after. after_lines version names bytes after below) (after_line version names bytes before line)

-- the error is the refusal of what was to be read, unless it is want of memory
abbrev pub IsRefusal : {A : Type 0} → ConfigError → OrRefused A → Type 0
IsRefusal (Refused line reason) read = read ≡ Err (Refused line reason)
IsRefusal Memory read = Unit {0}
