-- Whether a logical line may stand where it stands, and if not, why. A fault of a line is the first that this order finds. Own
-- to this project, but for UVL's shapes.
use Rattle.std.specs.Prelude.{◌≡◌, ℕ, ◌+◌, ◌/◌, ◌==◌, ◌&&◌, not, nat_le, nat_lt, Bool, false, if◌then◌else◌, List, [], ◌∷◌, length, Option, Some, None, Result, Ok, Err}
use Rattle.std.specs.List.{list_any, list_all}
use Rattle.std.specs.Option.{is_none}
use Rattle.std.specs.Str.{bytes_eq}
use Rattle.uvl_lex.specs.declared.token.Line.{Line}
use Rattle.uvl_lex.specs.declared.token.Token.{Token}
use Rattle.uvl_lex.specs.Text.{token_text}
use Rattle.feature_tree.specs.declared.reader.error.FormulaError.{FormulaError}
use Rattle.feature_tree.specs.declared.reader.error.FormulaError.TheVariants as formula
use Rattle.feature_tree.specs.FormulaAnswer.{formula_answer}
use Rattle.uvl_reader.specs.declared.error.ModelError.{ModelError}
use Rattle.uvl_reader.specs.declared.error.ModelError.TheVariants.{Refused, Memory}
use Rattle.uvl_reader.specs.declared.error.Reason.{Reason}
use Rattle.uvl_reader.specs.declared.error.Reason.TheVariants as reason
use Rattle.uvl_reader.specs.Nesting.{has_place, lines_above}
use Rattle.uvl_reader.specs.declared.kind.LineKind.{LineKind}
use Rattle.uvl_reader.specs.declared.kind.LineKind.TheVariants.{SectionLine, FeatureLine, GroupLine, ConstraintLine, NoLine}
use Rattle.uvl_reader.specs.declared.kind.Section.{Section}
use Rattle.uvl_reader.specs.declared.kind.Section.TheVariants.{Namespace, Include, Imports, Features, Constraints}
use Rattle.uvl_reader.specs.LineKinds.{section_of, place_of, kind_of, is_feature, is_group, is_one, has_root}
use Rattle.uvl_reader.specs.Shapes.{FeatureShape, header_of, feature_of, is_unsupported}
use Rattle.uvl_reader.specs.Attributes.{items_of, formulas_of_item}

-- what is refused first, of two that are judged one after the other
abbrev pub first_of : {A : Type 0} → Option A → Option A → Option A
first_of (Some refused) later = Some refused
first_of None later = later

-- the fault, if the test passes
abbrev pub fault_if : Bool → Reason → Option Reason
fault_if test fault = if test then Some fault else None

-- ---- formulas

-- why tokens are no formula; the answer to tokens is never want of memory
abbrev pub reason_of : FormulaError → Reason
reason_of formula.Unsupported = reason.Unsupported
reason_of formula.BadFormula = reason.BadFormula
reason_of formula.TooDeep = reason.TooDeep
reason_of formula.Memory = reason.BadFormula

abbrev pub formula_fault : List Token → Option Reason
formula_fault tokens = elim (formula_answer tokens) [ Ok read ↦ None | Err error ↦ Some (reason_of error) ]

abbrev pub formulas_fault : List (List Token) → Option Reason
formulas_fault [] = None
formulas_fault (tokens ∷ others) = first_of (formula_fault tokens) (formulas_fault others)

abbrev pub item_fault : Option (List (List Token)) → Option Reason
item_fault None = Some reason.BadFeature
item_fault (Some formulas) = formulas_fault formulas

-- of the items of a feature's attributes, in order
abbrev pub items_fault : List ℕ → List (List Token) → Option Reason
items_fault bytes [] = None
items_fault bytes (item ∷ others) = first_of (item_fault (formulas_of_item bytes item)) (items_fault bytes others)

-- ---- sections

-- the sections of unindented lines, the latest first
abbrev pub sections_of : List Line → List (Option Section)
sections_of [] = []
sections_of (last ∷ before) = if last.indent == 0 then section_of last.tokens ∷ sections_of before else sections_of before

abbrev pub comes_before : ℕ → Option Section → Bool
comes_before place None = false
comes_before place (Some section) = nat_lt (place_of section) place

-- `imports` isn't supported; `features` and `constraints` stand alone on their line
abbrev pub section_alone : Section → List Token → Option Reason
section_alone Namespace tokens = None
section_alone Include tokens = None
section_alone Imports tokens = Some reason.Unsupported
section_alone Features tokens = fault_if (not (length tokens == 1)) reason.Misplaced
section_alone Constraints tokens = fault_if (not (length tokens == 1)) reason.Misplaced

-- the sections come in their order, each at most once
abbrev pub section_fault : List Line → Option Section → List Token → Option Reason
section_fault before None tokens = Some reason.Misplaced
section_fault before (Some section) tokens =
    first_of (fault_if (not (list_all (comes_before (place_of section)) (sections_of before))) reason.Misplaced) (section_alone section tokens)

-- ---- features

abbrev pub name_of_shape : List ℕ → Option FeatureShape → List ℕ
name_of_shape bytes None = []
name_of_shape bytes (Some shape) = token_text bytes shape.name

-- the name on a feature line, without quotes
abbrev pub feature_name : List ℕ → Line → List ℕ
feature_name bytes line = name_of_shape bytes (feature_of line.tokens)

-- the names of the features among the lines, the latest first
abbrev pub names_of : List ℕ → List Line → List (List ℕ)
names_of bytes [] = []
names_of bytes (last ∷ before) =
    if is_feature (kind_of before last) then feature_name bytes last ∷ names_of bytes before else names_of bytes before

-- how deep a feature is under so many lines, the root being 1: every second line above it is a feature
abbrev pub depth_of : List Line → ℕ
depth_of above = (length above + 1) / 2

-- the shape, then the 65,536th feature, then a name that an earlier feature has, then the constraints among the attributes
abbrev pub shape_fault : List ℕ → List (List ℕ) → Option FeatureShape → Option Reason
shape_fault bytes names None = Some reason.BadFeature
shape_fault bytes names (Some shape) =
    first_of (fault_if (nat_le 65535 (length names)) reason.TooMany)
    (first_of (fault_if (list_any (bytes_eq (token_text bytes shape.name)) names) reason.Twice)
    (items_fault bytes (items_of shape.attributes)))

-- a feature deeper than 1,000 before its shape
abbrev pub feature_fault : List ℕ → List Line → Line → Option Reason
feature_fault bytes before line =
    first_of (fault_if (nat_lt 1000 (depth_of (lines_above before line.indent))) reason.TooDeep)
    (first_of (fault_if (is_unsupported line.tokens) reason.Unsupported)
    (shape_fault bytes (names_of bytes before) (feature_of line.tokens)))

-- ---- lines

-- what is wrong with a line of this kind that has a place; `features` has one root
abbrev pub kind_fault : List ℕ → List Line → Line → LineKind → Option Reason
kind_fault bytes before line (SectionLine section) = section_fault before section line.tokens
kind_fault bytes before line FeatureLine =
    first_of (fault_if (is_one (lines_above before line.indent) && has_root before) reason.Misplaced) (feature_fault bytes before line)
kind_fault bytes before line GroupLine = fault_if (is_none (header_of bytes line.tokens)) reason.BadGroup
kind_fault bytes before line ConstraintLine = formula_fault line.tokens
kind_fault bytes before line NoLine = Some reason.Misplaced

-- the place before what the line is
abbrev pub line_fault : List ℕ → List Line → Line → Option Reason
line_fault bytes before line =
    first_of (fault_if (not (has_place before line.indent)) reason.BadIndent) (kind_fault bytes before line (kind_of before line))

-- a refused line and why
pub record Refusal : Type 0 where
  pub line : ℕ
  pub reason : Reason

-- the error is the refusal of what was to be read, unless it is want of memory
abbrev pub IsRefused : {A : Type 0} → ModelError → Result A Refusal → Type 0
IsRefused (Refused line reason) read = read ≡ Err (record { line = line; reason = reason })
IsRefused Memory read = Unit {0}

abbrev pub refusal_at : ℕ → Option Reason → Option Refusal
refusal_at number None = None
refusal_at number (Some fault) = Some (record { line = number; reason = fault })

-- the refusal of the last line, where it is a group: it has no child so far
abbrev pub childless : List Line → Option Refusal
childless [] = None
childless (last ∷ before) = refusal_at last.number (fault_if (is_group (kind_of before last)) reason.BadGroup)

-- a group line whose next line isn't its child is refused with its own number
abbrev pub left_childless : List Line → ℕ → Option Refusal
left_childless [] indent = None
left_childless (last ∷ before) indent = if nat_lt last.indent indent then None else childless (last ∷ before)

-- the last line as a childless group, then the line
abbrev pub refusal_of : List ℕ → List Line → Line → Option Refusal
refusal_of bytes before line = first_of (left_childless before line.indent) (refusal_at line.number (line_fault bytes before line))

-- the first refusal of the lines behind these, the end of the file included
abbrev pub first_refused : List ℕ → List Line → List Line → Option Refusal
first_refused bytes before [] = childless before
first_refused bytes before (line ∷ lines) = first_of (refusal_of bytes before line) (first_refused bytes (line ∷ before) lines)
