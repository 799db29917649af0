-- What a line is, by the lines that it stands under (UVL's sections, features and groups).
use Rattle.std.specs.Prelude.{ℕ, ◌&&◌, ◌||◌, Bool, true, false, List, [], ◌∷◌, Option, Some, None}
use Rattle.uvl_lex.specs.declared.token.Line.{Line}
use Rattle.uvl_lex.specs.declared.token.Token.{Token}
use Rattle.uvl_lex.specs.declared.token.TokenKind.{TokenKind}
use Rattle.uvl_lex.specs.declared.token.TokenKind.TheVariants.{Keyword}
use Rattle.uvl_lex.specs.declared.token.Keyword.TheVariants as word
use Rattle.uvl_reader.specs.declared.kind.LineKind.{LineKind}
use Rattle.uvl_reader.specs.declared.kind.LineKind.TheVariants.{SectionLine, FeatureLine, GroupLine, ConstraintLine, NoLine}
use Rattle.uvl_reader.specs.declared.kind.Section.{Section}
use Rattle.uvl_reader.specs.declared.kind.Section.TheVariants.{Namespace, Include, Imports, Features, Constraints}
use Rattle.uvl_reader.specs.Nesting.{lines_above}

abbrev pub section_of_kind : TokenKind → Option Section
section_of_kind (Keyword word.Namespace) = Some Namespace
section_of_kind (Keyword word.Include) = Some Include
section_of_kind (Keyword word.Imports) = Some Imports
section_of_kind (Keyword word.Features) = Some Features
section_of_kind (Keyword word.Constraints) = Some Constraints
section_of_kind _ = None

-- the section that an unindented line begins, by its first token
abbrev pub section_of : List Token → Option Section
section_of [] = None
section_of (token ∷ tokens) = section_of_kind token.kind

abbrev pub place_of : Section → ℕ
place_of Namespace = 0
place_of Include = 1
place_of Imports = 2
place_of Features = 3
place_of Constraints = 4

-- a line under `features` is a feature, the root; under a feature stand groups, and under a group features
abbrev pub kind_under : LineKind → LineKind
kind_under (SectionLine (Some Features)) = FeatureLine
kind_under (SectionLine (Some Constraints)) = ConstraintLine
kind_under (SectionLine _) = NoLine
kind_under FeatureLine = GroupLine
kind_under GroupLine = FeatureLine
kind_under ConstraintLine = NoLine
kind_under NoLine = NoLine

-- the kind of a line with these tokens under these lines, the nearest first
abbrev pub kind_by : List Token → List Line → LineKind
kind_by tokens [] = SectionLine (section_of tokens)
kind_by tokens (nearest ∷ above) = kind_under (kind_by nearest.tokens above)

-- the kind of a line behind these, the latest first
abbrev pub kind_of : List Line → Line → LineKind
kind_of before line = kind_by line.tokens (lines_above before line.indent)

abbrev pub is_feature : LineKind → Bool
is_feature FeatureLine = true
is_feature _ = false

abbrev pub is_group : LineKind → Bool
is_group GroupLine = true
is_group _ = false

-- whether it is exactly one line; the root stands under one, the features section
abbrev pub is_one : List Line → Bool
is_one (line ∷ []) = true
is_one _ = false

abbrev pub is_root : List Line → Line → Bool
is_root before line = is_feature (kind_of before line) && is_one (lines_above before line.indent)

-- whether one of the lines, the latest first, is a root
abbrev pub has_root : List Line → Bool
has_root [] = false
has_root (last ∷ before) = is_root before last || has_root before
