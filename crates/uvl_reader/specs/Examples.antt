-- Worked examples: what short files say, each computed. The values were worked out by hand.
use Rattle.std.specs.Prelude.{◌≡◌, ℕ, zero, suc, ◌+◌, false, replicate, List, [], ◌∷◌, ◌++◌, Option, Some, None, Result, Ok, Err, codes, refl}
use Rattle.std.proofs.Common.{ap, ◌∙◌}
use Rattle.uvl_lex.specs.declared.token.Keyword.TheVariants.{Features, Constraints, Integer, Or as OrWord}
use Rattle.uvl_lex.specs.declared.token.Mark.TheVariants.{Amp, Bang, Bar, Comma, Then, OpenRound, CloseRound, OpenSquare, CloseSquare, OpenCurly, CloseCurly}
use Rattle.uvl_lex.specs.declared.token.Line.{Line}
use Rattle.uvl_lex.specs.declared.token.Token.{Token}
use Rattle.uvl_lex.specs.declared.token.TokenKind.{TokenKind}
use Rattle.uvl_lex.specs.declared.token.TokenKind.TheVariants.{Name as NameToken, Quoted, Keyword, Mark}
use Rattle.uvl_lex.specs.Examples.{computing as text_computing}
use Rattle.feature_tree.specs.declared.feature.Feature.{Feature}
use Rattle.feature_tree.specs.declared.formula.Formula.{Formula}
use Rattle.feature_tree.specs.declared.formula.Formula.TheVariants.{Name, Not, All, Any, Implies}
use Rattle.feature_tree.specs.declared.group.Group.{Group}
use Rattle.feature_tree.specs.declared.group.GroupKind.{GroupKind}
use Rattle.feature_tree.specs.declared.group.GroupKind.TheVariants.{Mandatory, Optional, Or, Alternative, Range}
use Rattle.feature_tree.specs.FeatureModel.{FeatureModel}
use Rattle.feature_tree.specs.Folds.{folds}
use Rattle.feature_tree.specs.FormulaAnswerExamples.{computing as formula_computing}
use Rattle.uvl_reader.specs.declared.error.Reason.{Reason}
use Rattle.uvl_reader.specs.declared.error.Reason.TheVariants.{NotUtf8, BadToken, OpenBracket, OpenComment, BadIndent, Misplaced, BadGroup, BadFeature, BadFormula, TooDeep, TooMany, Unsupported, Twice, Unknown, NoFeatures}
use Rattle.uvl_reader.specs.Nesting.{judged_lines}
use Rattle.uvl_reader.specs.Refusals.{Refusal, feature_fault, shape_fault}
use Rattle.uvl_reader.specs.ModelReading.{constraint_of, formulas_in_shape, lines_fault, model_of, model_on, model_unless, placed_behind}

-- `unfolding computing` lets `refl` compute a model
unfoldable computing : Unit {0}
unfolding model_of text_computing formula_computing
computing = tt

abbrev Answer : Type 0
Answer = Result FeatureModel Refusal

abbrev refused : ℕ → Reason → Answer
refused line reason = Err (record { line = line; reason = reason })

abbrev model : List Feature → List Formula → Answer
model features constraints = Ok (record { features = features; constraints = constraints })

abbrev feature : List ℕ → Option ℕ → List Group → Feature
feature name parent groups = record { name = name; parent = parent; groups = groups }

abbrev group : GroupKind → ℕ → Option ℕ → List ℕ → Group
group kind low high children = record { kind = kind; low = low; high = high; children = children }

-- the model whose one feature is `R`
abbrev alone : List Formula → Answer
alone constraints = model (feature (codes "R") None [] ∷ []) constraints

-- `R` with its only child `A`, in a group of this kind
abbrev with_child : GroupKind → ℕ → Option ℕ → Answer
with_child kind low high =
    model (feature (codes "R") None (group kind low high (1 ∷ []) ∷ []) ∷ feature (codes "A") (Some 0) [] ∷ []) []

abbrev at : ℕ → TokenKind → ℕ → ℕ → Token
at number kind start end = record { kind = kind; start = start; end = end; line = number }

abbrev token : TokenKind → ℕ → ℕ → Token
token kind start end = at 1 kind start end

abbrev line : ℕ → ℕ → List Token → Line
line number indent tokens = record { number = number; indent = indent; tokens = tokens }

-- ---- a whole model

-- features are numbered in order of appearance, and groups stand at their feature
pub whole_model : model_of (codes "features\n\tR {abstract}\n\t\toptional\n\t\t\tA\n\t\t\t\talternative\n\t\t\t\t\tD\n\t\t[1..*]\n\t\t\tB\n\t\t\tBoolean \"C\"\nconstraints\n") ≡ model
    (feature (codes "R") None (group Optional 0 None (1 ∷ []) ∷ group Range 1 None (3 ∷ 4 ∷ []) ∷ [])
    ∷ feature (codes "A") (Some 0) (group Alternative 0 None (2 ∷ []) ∷ [])
    ∷ feature (codes "D") (Some 1) []
    ∷ feature (codes "B") (Some 0) []
    ∷ feature (codes "C") (Some 0) [] ∷ [])
    []
unfolding computing
whole_model = refl

-- what stands under `include` is passed over, up to the next unindented line
pub included_lines : model_of (codes "namespace N.M\ninclude\n\t\tA => \n\tB\nfeatures\n\tR\n") ≡ alone []
unfolding computing
included_lines = refl

-- ---- texts

pub empty_file : model_of [] ≡ refused 1 NoFeatures
unfolding computing
empty_file = refl

pub not_utf8 : model_of (255 ∷ []) ≡ refused 1 NotUtf8
unfolding computing
not_utf8 = refl

pub bad_token : model_of (codes "features\n\tR)\n") ≡ refused 2 BadToken
unfolding computing
bad_token = refl

pub open_comment : model_of (codes "features\n\tR /*\n") ≡ refused 2 OpenComment
unfolding computing
open_comment = refl

pub open_bracket : model_of (codes "features\n\tR {abstract") ≡ refused 2 OpenBracket
unfolding computing
open_bracket = refl

-- ---- places

-- the first line
pub indented_first : model_of (codes "\tfeatures\n") ≡ refused 1 BadIndent
unfolding computing
indented_first = refl

-- between the indents of two open lines
pub between_two_lines : model_of (codes "features\n\tR\n\t\tmandatory\n\t\t\tA\n                    B\n") ≡ refused 5 BadIndent
unfolding computing
between_two_lines = refl

-- an indent that is open again
pub back_at_an_open_line : model_of (codes "features\n\tR\n\t\tmandatory\n\t\t\tA\n\tS\n") ≡ refused 5 Misplaced
unfolding computing
back_at_an_open_line = refl

-- a line under a constraint has a place, and may not stand there
pub under_a_constraint : model_of (codes "features\n\tR\nconstraints\n\tR\n\t\tR\n") ≡ refused 5 Misplaced
unfolding computing
under_a_constraint = refl

pub under_a_namespace : model_of (codes "namespace N\n\tR\n") ≡ refused 2 Misplaced
unfolding computing
under_a_namespace = refl

-- a column after a comment
pub comment_before_column : model_of (codes "/*\n*/ features\n") ≡ refused 2 BadIndent
unfolding computing
comment_before_column = refl

-- ---- sections

pub features_again : model_of (codes "features\nfeatures\n") ≡ refused 2 Misplaced
unfolding computing
features_again = refl

pub wrong_order : model_of (codes "constraints\nfeatures\n") ≡ refused 2 Misplaced
unfolding computing
wrong_order = refl

pub imports_first : model_of (codes "imports\n") ≡ refused 1 Unsupported
unfolding computing
imports_first = refl

-- `imports` out of order
pub imports_last : model_of (codes "features\nimports\n") ≡ refused 2 Misplaced
unfolding computing
imports_last = refl

pub features_not_alone : model_of (codes "features R\n") ≡ refused 1 Misplaced
unfolding computing
features_not_alone = refl

pub constraints_not_alone : model_of (codes "constraints R\n") ≡ refused 1 Misplaced
unfolding computing
constraints_not_alone = refl

pub no_section : model_of (codes "R\n") ≡ refused 1 Misplaced
unfolding computing
no_section = refl

-- a second root, before its shape
pub second_root : model_of (codes "features\n\tR\n\tInteger\n") ≡ refused 3 Misplaced
unfolding computing
second_root = refl

-- ---- groups

pub range_upside_down : model_of (codes "features\n\tR\n\t\t[3..2]\n\t\t\tA\n\t\t\tB\n") ≡ refused 3 BadGroup
unfolding computing
range_upside_down = refl

pub range_of_one_number : model_of (codes "features\n\tR\n\t\t[1]\n\t\t\tA\n") ≡ with_child Range 1 (Some 1)
unfolding computing
range_of_one_number = refl

pub range_of_any : model_of (codes "features\n\tR\n\t\t[*]\n\t\t\tA\n") ≡ with_child Range 0 None
unfolding computing
range_of_any = refl

pub leading_zero : model_of (codes "features\n\tR\n\t\t[01..3]\n\t\t\tA\n") ≡ with_child Range 1 (Some 3)
unfolding computing
leading_zero = refl

pub blanks_in_a_range : model_of (codes "features\n\tR\n\t\t[1 .. *]\n\t\t\tA\n") ≡ with_child Range 1 None
unfolding computing
blanks_in_a_range = refl

-- a number above every count of children
pub range_too_great : model_of (codes "features\n\tR\n\t\t[5..5]\n\t\t\tA\n") ≡ with_child Range 5 (Some 5)
unfolding computing
range_too_great = refl

pub fraction : model_of (codes "features\n\tR\n\t\t[1.0]\n\t\t\tA\n") ≡ refused 3 BadGroup
unfolding computing
fraction = refl

pub nine_digits : model_of (codes "features\n\tR\n\t\t[0..999999999]\n\t\t\tA\n") ≡ with_child Range 0 (Some 999999999)
unfolding computing
nine_digits = refl

pub ten_digits : model_of (codes "features\n\tR\n\t\t[0..1000000000]\n\t\t\tA\n") ≡ refused 3 BadGroup
unfolding computing
ten_digits = refl

pub star_first : model_of (codes "features\n\tR\n\t\t[*..3]\n\t\t\tA\n") ≡ refused 3 BadGroup
unfolding computing
star_first = refl

pub word_and_more : model_of (codes "features\n\tR\n\t\tor or\n\t\t\tA\n") ≡ refused 3 BadGroup
unfolding computing
word_and_more = refl

-- at the end of the file
pub no_child : model_of (codes "features\n\tR\n\t\tor\n") ≡ refused 3 BadGroup
unfolding computing
no_child = refl

-- before the indent of the line that shows it
pub no_child_and_bad_indent : model_of (codes "features\n\tR\n\t\tor\n    A\n") ≡ refused 3 BadGroup
unfolding computing
no_child_and_bad_indent = refl

pub or_group : model_of (codes "features\n\tR\n\t\tor\n\t\t\tA\n") ≡ with_child Or 0 None
unfolding computing
or_group = refl

pub equal_bounds : model_of (codes "features\n\tR\n\t\t[2..2]\n\t\t\tA\n") ≡ with_child Range 2 (Some 2)
unfolding computing
equal_bounds = refl

pub comma_for_dots : model_of (codes "features\n\tR\n\t\t[1,2]\n\t\t\tA\n") ≡ refused 3 BadGroup
unfolding computing
comma_for_dots = refl

pub star_twice : model_of (codes "features\n\tR\n\t\t[*..*]\n\t\t\tA\n") ≡ refused 3 BadGroup
unfolding computing
star_twice = refl

-- the earlier of two
pub childless_before_childless : model_of (codes "features\n\tR\n\t\tor\n\t\tor or\n") ≡ refused 3 BadGroup
unfolding computing
childless_before_childless = refl

-- before the section that shows it
pub childless_before_section : model_of (codes "features\n\tR\n\t\tor\nimports\n") ≡ refused 3 BadGroup
unfolding computing
childless_before_section = refl

-- ---- features

pub boolean_feature : model_of (codes "features\n\tR\n\t\tmandatory\n\t\t\tBoolean A\n") ≡ with_child Mandatory 0 None
unfolding computing
boolean_feature = refl

pub other_type : model_of (codes "features\n\tR\n\t\tmandatory\n\t\t\tInteger Size\n") ≡ refused 4 Unsupported
unfolding computing
other_type = refl

pub feature_cardinality : model_of (codes "features\n\tR\n\t\tmandatory\n\t\t\tA cardinality [1..2]\n") ≡ refused 4 Unsupported
unfolding computing
feature_cardinality = refl

pub dotted_name : model_of (codes "features\n\tR\n\t\tmandatory\n\t\t\tA.B\n") ≡ refused 4 Unsupported
unfolding computing
dotted_name = refl

pub quoted_dot : model_of (codes "features\n\tR\n\t\tmandatory\n\t\t\t'A.B'\n") ≡ refused 4 BadFeature
unfolding computing
quoted_dot = refl

pub two_dots : model_of (codes "features\n\tR\n\t\tmandatory\n\t\t\tA..B\n") ≡ refused 4 BadFeature
unfolding computing
two_dots = refl

pub keyword_for_a_name : model_of (codes "features\n\tR\n\t\tmandatory\n\t\t\tBoolean cardinality\n") ≡ refused 4 BadFeature
unfolding computing
keyword_for_a_name = refl

pub behind_the_braces : model_of (codes "features\n\tR\n\t\tmandatory\n\t\t\tA {x} cardinality [1..2]\n") ≡ refused 4 BadFeature
unfolding computing
behind_the_braces = refl

-- quoted or not, the name is the same
pub same_name : model_of (codes "features\n\tR\n\t\tmandatory\n\t\t\t\"R\"\n") ≡ refused 4 Twice
unfolding computing
same_name = refl

-- before the formulas of its line
pub same_name_and_bad_formula : model_of (codes "features\n\tR\n\t\tmandatory\n\t\t\tR {constraint &}\n") ≡ refused 4 Twice
unfolding computing
same_name_and_bad_formula = refl

pub real_feature : model_of (codes "features\n\tR\n\t\tmandatory\n\t\t\tReal A\n") ≡ refused 4 Unsupported
unfolding computing
real_feature = refl

pub string_alone : model_of (codes "features\n\tR\n\t\tmandatory\n\t\t\tString\n") ≡ refused 4 Unsupported
unfolding computing
string_alone = refl

-- a dot, or `cardinality`, after a name with a type
pub boolean_dotted : model_of (codes "features\n\tR\n\t\tmandatory\n\t\t\tBoolean A.B\n") ≡ refused 4 Unsupported
unfolding computing
boolean_dotted = refl

pub boolean_cardinality : model_of (codes "features\n\tR\n\t\tmandatory\n\t\t\tBoolean A cardinality\n") ≡ refused 4 Unsupported
unfolding computing
boolean_cardinality = refl

-- only the first token is a type
pub boolean_integer : model_of (codes "features\n\tR\n\t\tmandatory\n\t\t\tBoolean Integer A\n") ≡ refused 4 BadFeature
unfolding computing
boolean_integer = refl

pub other_word_before_a_name : model_of (codes "features\n\tR\n\t\tmandatory\n\t\t\tor A\n") ≡ refused 4 BadFeature
unfolding computing
other_word_before_a_name = refl

pub quoted_name_and_dot : model_of (codes "features\n\tR\n\t\tmandatory\n\t\t\t\"A\".B\n") ≡ refused 4 Unsupported
unfolding computing
quoted_name_and_dot = refl

pub dot_in_double_quotes : model_of (codes "features\n\tR\n\t\tmandatory\n\t\t\t\"A.B\"\n") ≡ refused 4 BadFeature
unfolding computing
dot_in_double_quotes = refl

pub square_for_braces : model_of (codes "features\n\tR\n\t\tmandatory\n\t\t\tA [1]\n") ≡ refused 4 BadFeature
unfolding computing
square_for_braces = refl

pub two_pairs_of_braces : model_of (codes "features\n\tR\n\t\tmandatory\n\t\t\tA {x} {y}\n") ≡ refused 4 BadFeature
unfolding computing
two_pairs_of_braces = refl

-- the greatest depth: so many lines, each indented further than the one before it, and a line under all of them
abbrev nested : ℕ → List Line
nested zero = []
nested (suc n) = record { number = suc n; indent = n; tokens = [] } ∷ nested n

abbrev under_all : ℕ → Line
under_all n = record { number = n + 1; indent = n; tokens = token (Keyword Integer) 0 7 ∷ [] }

pub depth_1000 : feature_fault [] (nested 1999) (under_all 1999) ≡ Some Unsupported
depth_1000 = refl

pub depth_1001 : feature_fault [] (nested 2001) (under_all 2001) ≡ Some TooDeep
depth_1001 = refl

-- after so many features, a feature with a name that was there
abbrev one_more : ℕ → Option Reason
one_more count = shape_fault (codes "A") (replicate count (codes "A")) (Some (record { name = token NameToken 0 1; attributes = [] }))

pub feature_65535 : one_more 65534 ≡ Some Twice
unfolding computing
feature_65535 = refl

pub feature_65536 : one_more 65535 ≡ Some TooMany
unfolding computing
feature_65536 = refl

-- ---- attributes

pub nothing_between_the_braces : model_of (codes "features\n\tR {}\n") ≡ alone []
unfolding computing
nothing_between_the_braces = refl

pub no_formula : model_of (codes "features\n\tR {constraint}\n") ≡ refused 2 BadFormula
unfolding computing
no_formula = refl

pub no_brackets : model_of (codes "features\n\tR {constraints}\n") ≡ refused 2 BadFeature
unfolding computing
no_brackets = refl

pub behind_the_brackets : model_of (codes "features\n\tR {constraints [R] R}\n") ≡ refused 2 BadFeature
unfolding computing
behind_the_brackets = refl

pub empty_brackets : model_of (codes "features\n\tR {constraints []}\n") ≡ alone []
unfolding computing
empty_brackets = refl

pub comma_at_the_end : model_of (codes "features\n\tR {constraints [R,]}\n") ≡ refused 2 BadFormula
unfolding computing
comma_at_the_end = refl

pub word_in_quotes : model_of (codes "features\n\tR {\"constraint\" x}\n") ≡ alone []
unfolding computing
word_in_quotes = refl

-- items are judged in order
pub wrong_form_after_bad_formula : model_of (codes "features\n\tR\n\t\tmandatory\n\t\t\tA {constraint &, constraints}\n") ≡ refused 4 BadFormula
unfolding computing
wrong_form_after_bad_formula = refl

-- the name before the form of an item
pub twice_before_wrong_form : model_of (codes "features\n\tR\n\t\tmandatory\n\t\t\tR {constraints}\n") ≡ refused 4 Twice
unfolding computing
twice_before_wrong_form = refl

pub round_for_square : model_of (codes "features\n\tR {constraints (R)}\n") ≡ refused 2 BadFeature
unfolding computing
round_for_square = refl

pub number_in_an_attribute : model_of (codes "features\n\tR {constraint 1 &}\n") ≡ refused 2 Unsupported
unfolding computing
number_in_an_attribute = refl

-- ---- the whole model

-- with the line of `features`
pub no_root : model_of (codes "namespace N\nfeatures\nconstraints\n\tT\n") ≡ refused 2 NoFeatures
unfolding computing
no_root = refl

pub no_features_section : model_of (codes "constraints\n\tT\n") ≡ refused 1 NoFeatures
unfolding computing
no_features_section = refl

-- with the line of the first name that is no feature's
pub unknown_name : model_of (codes "features\n\tR\nconstraints\n\tR\n\t\"S\" | R\n\tZ\n") ≡ refused 5 Unknown
unfolding computing
unknown_name = refl

-- with the line on which the feature begins
pub unknown_in_an_attribute : model_of (codes "features\n\tR {x,\nconstraint\nT}\nconstraints\n\tZ\n") ≡ refused 2 Unknown
unfolding computing
unknown_in_an_attribute = refl

pub number_in_a_constraint : model_of (codes "features\n\tR\nconstraints\n\t1\n") ≡ refused 4 Unsupported
unfolding computing
number_in_a_constraint = refl

-- every line is judged before names are looked up
pub bad_formula_behind_unknown : model_of (codes "features\n\tR {constraint T}\nconstraints\n\t!\n") ≡ refused 4 BadFormula
unfolding computing
bad_formula_behind_unknown = refl

-- ---- formulas

-- a [b, c], constraints [R, !R], constraint(R)
abbrev attributes : List ℕ
attributes = codes "a [b, c], constraints [R, !R], constraint(R)"

abbrev first_r : Token
first_r = token NameToken 23 24

abbrev not_r : List Token
not_r = token (Mark Bang) 26 27 ∷ token NameToken 27 28 ∷ []

abbrev bracketed_r : List Token
bracketed_r = token (Mark OpenRound) 41 42 ∷ token NameToken 42 43 ∷ token (Mark CloseRound) 43 44 ∷ []

abbrev attribute_tokens : List Token
attribute_tokens =
    token NameToken 0 1 ∷ token (Mark OpenSquare) 2 3 ∷ token NameToken 3 4 ∷ token (Mark Comma) 4 5 ∷ token NameToken 6 7 ∷ token (Mark CloseSquare) 7 8
    ∷ token (Mark Comma) 8 9 ∷ token (Keyword Constraints) 10 21 ∷ token (Mark OpenSquare) 22 23 ∷ first_r ∷ token (Mark Comma) 24 25 ∷ not_r
    ++ token (Mark CloseSquare) 28 29 ∷ token (Mark Comma) 29 30 ∷ token NameToken 31 41 ∷ bracketed_r

-- commas inside brackets cut nothing
pub formulas_in_attributes :
    formulas_in_shape attributes (Some (record { name = first_r; attributes = attribute_tokens })) ≡ (first_r ∷ []) ∷ not_r ∷ bracketed_r ∷ []
formulas_in_attributes = refl

abbrev known : List (List ℕ)
known = codes "S" ∷ codes "R" ∷ []

pub with_features_for_names : constraint_of attributes known not_r ≡ Some (Not (Name 1))
unfolding computing
with_features_for_names = simp folds refl

-- a whole file with formulas, in two steps: no line is refused, and the model
abbrev formulas_file : List ℕ
formulas_file = codes "features\n\tR\n\t\tor\n\t\t\tA {constraint !R | A & R}\nconstraints\n\tR => A => \"R\"\n"

abbrev formulas_lines : List Line
formulas_lines =
    line 1 0 (at 1 (Keyword Features) 0 8 ∷ [])
    ∷ line 2 8 (at 2 NameToken 10 11 ∷ [])
    ∷ line 3 16 (at 3 (Keyword OrWord) 14 16 ∷ [])
    ∷ line 4 24 (at 4 NameToken 20 21 ∷ at 4 (Mark OpenCurly) 22 23 ∷ at 4 NameToken 23 33 ∷ at 4 (Mark Bang) 34 35 ∷ at 4 NameToken 35 36 ∷ at 4 (Mark Bar) 37 38 ∷ at 4 NameToken 39 40 ∷ at 4 (Mark Amp) 41 42 ∷ at 4 NameToken 43 44 ∷ at 4 (Mark CloseCurly) 44 45 ∷ [])
    ∷ line 5 0 (at 5 (Keyword Constraints) 46 57 ∷ [])
    ∷ line 6 8 (at 6 NameToken 59 60 ∷ at 6 (Mark Then) 61 63 ∷ at 6 NameToken 64 65 ∷ at 6 (Mark Then) 66 68 ∷ at 6 Quoted 69 72 ∷ []) ∷ []

pub formulas_not_refused : lines_fault formulas_file (judged_lines false formulas_lines) ≡ None
unfolding computing
formulas_not_refused = refl

abbrev formulas_model : FeatureModel
formulas_model = record {
  features = feature (codes "R") None (group Or 0 None (1 ∷ []) ∷ []) ∷ feature (codes "A") (Some 0) [] ∷ [];
  constraints = Any (Not (Name 0) ∷ All (Name 1 ∷ Name 0 ∷ []) ∷ []) ∷ Implies (Implies (Name 0) (Name 1)) (Name 0) ∷ [];
}

pub formulas_read : model_on formulas_file (placed_behind [] (judged_lines false formulas_lines)) ≡ formulas_model
unfolding computing
formulas_read = simp folds refl

pub file_with_formulas : model_of formulas_file ≡ Ok formulas_model
unfolding computing
file_with_formulas =
    ap (λ fault. model_unless fault (model_on formulas_file (placed_behind [] (judged_lines false formulas_lines)))) formulas_not_refused
    ∙ ap Ok formulas_read
