-- What a model file says: a feature model, or the first refused line and why. Own to this project, but for UVL's forms.
use Rattle.std.specs.Prelude.{ℕ, ◌==◌, ◌&&◌, not, Bool, true, false, if◌then◌else◌, List, [], ◌∷◌, map, filter, filter_map, reverse, position, unwrap_or, Option, Some, None, Result, Ok, Err}
use Rattle.std.specs.List.{flat_map, list_any}
use Rattle.std.specs.Option.{option_map, is_some}
use Rattle.std.specs.Str.{bytes_eq}
use Rattle.uvl_lex.specs.declared.error.LexError.{LexError}
use Rattle.uvl_lex.specs.declared.error.LexError.TheVariants as lexed
use Rattle.uvl_lex.specs.declared.error.LexReason.{LexReason}
use Rattle.uvl_lex.specs.declared.error.LexReason.TheVariants as lex
use Rattle.uvl_lex.specs.declared.token.Line.{Line}
use Rattle.uvl_lex.specs.declared.token.Token.{Token}
use Rattle.uvl_lex.specs.Reading.{reading}
use Rattle.uvl_lex.specs.Text.{token_text}
use Rattle.feature_tree.specs.declared.feature.Feature.{Feature}
use Rattle.feature_tree.specs.declared.formula.Formula.{Formula}
use Rattle.feature_tree.specs.declared.group.Group.{Group}
use Rattle.feature_tree.specs.FeatureModel.{FeatureModel}
use Rattle.feature_tree.specs.FormulaAnswer.{formula_answer}
use Rattle.feature_tree.specs.Numbered.{numbered}
use Rattle.uvl_reader.specs.declared.error.Reason.{Reason}
use Rattle.uvl_reader.specs.declared.error.Reason.TheVariants as reason
use Rattle.uvl_reader.specs.Nesting.{judged_lines, lines_above}
use Rattle.uvl_reader.specs.declared.kind.LineKind.{LineKind}
use Rattle.uvl_reader.specs.declared.kind.LineKind.TheVariants.{FeatureLine, ConstraintLine}
use Rattle.uvl_reader.specs.declared.kind.Section.{Section}
use Rattle.uvl_reader.specs.declared.kind.Section.TheVariants.{Features}
use Rattle.uvl_reader.specs.LineKinds.{section_of, kind_of, is_feature, is_group, has_root}
use Rattle.uvl_reader.specs.declared.header.Header.{Header}
use Rattle.uvl_reader.specs.Shapes.{FeatureShape, header_of, feature_of, is_name}
use Rattle.uvl_reader.specs.Attributes.{items_of, formulas_of_item}
use Rattle.uvl_reader.specs.Refusals.{Refusal, first_of, refusal_at, fault_if, feature_name, first_refused}

-- ---- lines with their places

-- a line, what it is, and the lines that it stands under, the nearest first; lines are told apart by their numbers
pub record PlacedLine : Type 0 where
  pub line : Line
  pub kind : LineKind
  pub above : List Line

-- the lines behind these, the latest of which comes first
abbrev pub placed_behind : List Line → List Line → List PlacedLine
placed_behind before [] = []
placed_behind before (line ∷ lines) =
    record { line = line; kind = kind_of before line; above = lines_above before line.indent } ∷ placed_behind (line ∷ before) lines

abbrev pub features_of : List PlacedLine → List PlacedLine
features_of placed = filter (λ at. is_feature at.kind) placed

-- whether the nearest line above is the one with this number
abbrev pub stands_under : ℕ → List Line → Bool
stands_under number [] = false
stands_under number (nearest ∷ above) = nearest.number == number

-- ---- features and groups

-- the number of the feature on a line, in order of appearance
abbrev pub number_of : List PlacedLine → Line → ℕ
number_of placed line = unwrap_or (position (λ at. at.line.number == line.number) (features_of placed)) 0

abbrev pub children_of : List PlacedLine → Line → List ℕ
children_of placed group = map (λ at. number_of placed at.line) (filter (λ at. stands_under group.number at.above) (features_of placed))

abbrev pub group_of : List PlacedLine → Line → Header → Group
group_of placed line header = record { kind = header.kind; low = header.low; high = header.high; children = children_of placed line }

abbrev pub groups_of : List ℕ → List PlacedLine → Line → List Group
groups_of bytes placed feature =
    filter_map (λ at. option_map (group_of placed at.line) (header_of bytes at.line.tokens))
    (filter (λ at. is_group at.kind && stands_under feature.number at.above) placed)

-- the parent of a feature is the feature above its group
abbrev pub parent_of : List PlacedLine → List Line → Option ℕ
parent_of placed (group ∷ feature ∷ above) = Some (number_of placed feature)
parent_of placed above = None

abbrev pub feature_on : List ℕ → List PlacedLine → PlacedLine → Feature
feature_on bytes placed at = record {
  name = feature_name bytes at.line;
  parent = parent_of placed at.above;
  groups = groups_of bytes placed at.line;
}

-- ---- constraints

-- the lists of tokens on a line that are formulas
abbrev pub formulas_in_shape : List ℕ → Option FeatureShape → List (List Token)
formulas_in_shape bytes None = []
formulas_in_shape bytes (Some shape) = flat_map (λ item. unwrap_or (formulas_of_item bytes item) []) (items_of shape.attributes)

abbrev pub formulas_on : List ℕ → LineKind → List Token → List (List Token)
formulas_on bytes FeatureLine tokens = formulas_in_shape bytes (feature_of tokens)
formulas_on bytes ConstraintLine tokens = tokens ∷ []
formulas_on bytes _ tokens = []

-- the number of the feature with the token's name
abbrev pub named_by : List ℕ → List (List ℕ) → Token → Option ℕ
named_by bytes known token = position (bytes_eq (token_text bytes token)) known

-- whether some name among the tokens of a formula is no feature's
abbrev pub names_unknown : List ℕ → List (List ℕ) → List Token → Bool
names_unknown bytes known tokens = list_any (λ token. is_name token.kind && not (is_some (named_by bytes known token))) tokens

-- the number that stands for a token of a formula; one that is no name stands for no feature, and has 0
abbrev pub number_for : List ℕ → List (List ℕ) → Token → ℕ
number_for bytes known token = if is_name token.kind then unwrap_or (named_by bytes known token) 0 else 0

-- the formula, with features for names
abbrev pub constraint_of : List ℕ → List (List ℕ) → List Token → Option Formula
constraint_of bytes known tokens =
    elim (formula_answer tokens) [ Ok read ↦ Some (numbered (map (number_for bytes known) tokens) read) | Err error ↦ None ]

-- ---- the whole model

abbrev pub is_features_line : Option Section → Bool
is_features_line (Some Features) = true
is_features_line _ = false

-- the line of `features`, or 1 without one
abbrev pub features_number : List Line → ℕ
features_number [] = 1
features_number (line ∷ lines) = if (line.indent == 0) && is_features_line (section_of line.tokens) then line.number else features_number lines

-- the first line in which a name in a formula is no feature's
abbrev pub first_unknown : List ℕ → List (List ℕ) → List PlacedLine → Option Refusal
first_unknown bytes known [] = None
first_unknown bytes known (at ∷ placed) =
    first_of (refusal_at at.line.number (fault_if (list_any (names_unknown bytes known) (formulas_on bytes at.kind at.line.tokens)) reason.Unknown))
    (first_unknown bytes known placed)

abbrev pub feature_names : List ℕ → List PlacedLine → List (List ℕ)
feature_names bytes placed = map (λ at. feature_name bytes at.line) (features_of placed)

abbrev pub model_on : List ℕ → List PlacedLine → FeatureModel
model_on bytes placed = record {
  features = map (feature_on bytes placed) (features_of placed);
  constraints = filter_map (constraint_of bytes (feature_names bytes placed)) (flat_map (λ at. formulas_on bytes at.kind at.line.tokens) placed);
}

-- what is refused of judged lines: the first refused one, then that there is no root, then an unknown name
abbrev pub lines_fault : List ℕ → List Line → Option Refusal
lines_fault bytes lines =
    let placed = placed_behind [] lines in
    first_of (first_refused bytes [] lines)
    (first_of (refusal_at (features_number lines) (fault_if (not (has_root (reverse lines))) reason.NoFeatures))
    (first_unknown bytes (feature_names bytes placed) placed))

abbrev pub model_unless : Option Refusal → FeatureModel → Result FeatureModel Refusal
model_unless None model = Ok model
model_unless (Some refused) model = Err refused

abbrev pub model_of_lines : List ℕ → List Line → Result FeatureModel Refusal
model_of_lines bytes lines =
    let judged = judged_lines false lines in
    model_unless (lines_fault bytes judged) (model_on bytes (placed_behind [] judged))

abbrev pub reason_of_text : LexReason → Reason
reason_of_text lex.NotUtf8 = reason.NotUtf8
reason_of_text lex.BadToken = reason.BadToken
reason_of_text lex.OpenBracket = reason.OpenBracket
reason_of_text lex.OpenComment = reason.OpenComment

-- a refused text; its reading is never want of memory
abbrev pub refusal_of_text : LexError → Refusal
refusal_of_text (lexed.Refused line fault) = record { line = line; reason = reason_of_text fault }
refusal_of_text lexed.Memory = record { line = 0; reason = reason.NotUtf8 }

-- what the bytes of a model file say
unfoldable pub model_of : List ℕ → Result FeatureModel Refusal
model_of bytes = elim (reading bytes) [ Ok lines ↦ model_of_lines bytes lines | Err error ↦ Err (refusal_of_text error) ]
