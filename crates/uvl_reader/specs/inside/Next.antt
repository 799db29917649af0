-- What has been read after a line that isn't refused.
use Rattle.std.specs.Prelude.{ℕ, List, [], ◌∷◌, ◌++◌, Option, Some, None, Result, Ok, Err}
use Rattle.feature_tree.specs.declared.formula.Formula.{Formula}
use Rattle.feature_tree.specs.declared.reader.error.FormulaError.{FormulaError}
use Rattle.feature_tree.specs.FormulaAnswer.{formula_answer}
use Rattle.uvl_lex.specs.declared.token.Line.{Line}
use Rattle.uvl_lex.specs.declared.token.Token.{Token}
use Rattle.uvl_lex.specs.Text.{token_text}
use Rattle.uvl_reader.specs.declared.header.Header.{Header}
use Rattle.uvl_reader.specs.declared.kind.LineKind.{LineKind}
use Rattle.uvl_reader.specs.declared.kind.LineKind.TheVariants.{SectionLine, FeatureLine, GroupLine, ConstraintLine, NoLine}
use Rattle.uvl_reader.specs.declared.kind.Section.{Section}
use Rattle.uvl_reader.specs.Shapes.{FeatureShape, header_of, feature_of}
use Rattle.uvl_reader.specs.Attributes.{items_of, formulas_of_item}
use Rattle.uvl_reader.specs.inside.Standing.{StatedFormula, Standing, still_open, nearest_of, kind_at, owner_at, with_open, next_after, with_feature}

abbrev pub stated_if : ℕ → List Token → Result Formula FormulaError → List StatedFormula
stated_if line tokens (Ok formula) = record { line = line; tokens = tokens; formula = formula } ∷ []
stated_if line tokens (Err error) = []

-- the formula of these tokens, if they are one
abbrev pub stated_by : ℕ → List Token → List StatedFormula
stated_by line tokens = stated_if line tokens (formula_answer tokens)

abbrev pub all_stated : ℕ → List (List Token) → List StatedFormula
all_stated line [] = []
all_stated line (tokens ∷ others) = stated_by line tokens ++ all_stated line others

abbrev pub listed_stated : ℕ → Option (List (List Token)) → List StatedFormula
listed_stated line None = []
listed_stated line (Some formulas) = all_stated line formulas

abbrev pub items_stated : List ℕ → ℕ → List (List Token) → List StatedFormula
items_stated bytes line [] = []
items_stated bytes line (item ∷ others) = listed_stated line (formulas_of_item bytes item) ++ items_stated bytes line others

abbrev pub next_section : Standing → Line → Option Section → Standing
next_section before line section = with_open (record before { next = next_after section }) line.indent (SectionLine section) 0

abbrev pub next_group : Standing → Line → Option Header → Standing
next_group before line None = before
next_group before line (Some header) =
    with_open (record before { pending = Some (record { line = line.number; header = header }) }) line.indent GroupLine (owner_at (nearest_of before.open_now))

abbrev pub next_feature : List ℕ → Standing → Line → Option FeatureShape → Standing
next_feature bytes before line None = before
next_feature bytes before line (Some shape) =
    with_feature (record before { stated = before.stated ++ items_stated bytes line.number (items_of shape.attributes) }) line.indent (token_text bytes shape.name)

abbrev pub next_constraint : Standing → Line → Standing
next_constraint before line = with_open (record before { stated = before.stated ++ stated_by line.number line.tokens }) line.indent ConstraintLine 0

unfoldable pub next_kind : List ℕ → Standing → Line → LineKind → Standing
next_kind bytes before line (SectionLine section) = next_section before line section
next_kind bytes before line FeatureLine = next_feature bytes before line (feature_of line.tokens)
next_kind bytes before line GroupLine = next_group before line (header_of bytes line.tokens)
next_kind bytes before line ConstraintLine = next_constraint before line
next_kind bytes before line NoLine = before

abbrev pub closed : Standing → ℕ → Standing
closed before indent = record before { open_now = still_open indent before.open_now }

unfoldable pub next_line : List ℕ → Standing → Line → Standing
next_line bytes before line = next_kind bytes (closed before line.indent) line (kind_at (nearest_of (still_open line.indent before.open_now)) line.tokens)
