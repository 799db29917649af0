-- Worked examples: what the definition says of short files, each computed. The values were worked out by hand.
use Rattle.std.specs.Prelude.{◌≡◌, ℕ, List, [], ◌∷◌, Option, Some, None, Ok, Err, refl, codes}
use Rattle.feature_tree.specs.declared.feature.Feature.{Feature}
use Rattle.feature_tree.specs.declared.formula.Formula.{Formula}
use Rattle.feature_tree.specs.declared.formula.Formula.TheVariants.{Name, All, Implies}
use Rattle.feature_tree.specs.FeatureModel.{FeatureModel}
use Rattle.feature_tree.specs.Folds.{folds}
use Rattle.feature_tree.specs.FormulaAnswerExamples.{computing as formula_computing}
use Rattle.uvl_lex.specs.declared.token.Line.{Line}
use Rattle.uvl_lex.specs.Examples.{computing as text_computing}
use Rattle.uvl_lex.specs.Reading.{OrFault, reading}
use Rattle.config_reader.specs.declared.config.Requirement.{Requirement}
use Rattle.config_reader.specs.declared.error.ConfigError.TheVariants.{Refused}
use Rattle.config_reader.specs.declared.error.Reason.TheVariants.{BadToken, Unsupported, BadFormula, Unknown, BadTier}
use Rattle.config_reader.specs.declared.placed.Placed.{Placed}
use Rattle.config_reader.specs.Judgement.{OrRefused, Standing, after_line, after_lines, requirement}
use Rattle.config_reader.specs.Names.{names_of}
use Rattle.config_reader.specs.Reading.{configuration, standing, fault}
use Rattle.config_reader.specs.Tiers.{by_tier}

-- `unfolding computing` lets `simp folds refl` compute a configuration
unfoldable computing : Unit {0}
unfolding configuration standing after_lines after_line requirement formula_computing text_computing
computing = tt

abbrev feature : List ℕ → Option ℕ → Feature
feature name parent = record { name = name; parent = parent; groups = [] }

-- of a model only its features' names count
abbrev phone : FeatureModel
phone = record { features = feature (codes "R") None ∷ feature (codes "A") (Some 0) ∷ feature (codes "b c") (Some 0) ∷ feature (codes "must") (Some 0) ∷ []; constraints = [] }

abbrev wanted : List ℕ → Formula → Requirement
wanted text formula = record { text = text; formula = formula }

abbrev at : ℕ → List ℕ → Formula → Placed
at tier text formula = record { tier = tier; requirement = wanted text formula }

abbrev placed : ℕ → ℕ → Placed
placed tier place = at tier [] (Name place)

-- what is read of a file's lines, before it is numbered
abbrev stands_if : List ℕ → OrFault (List Line) → OrRefused Standing
stands_if bytes (Ok lines) = standing (names_of phone.features) bytes lines
stands_if bytes (Err error) = Err (fault error)

abbrev stands : List ℕ → OrRefused Standing
stands bytes = stands_if bytes (reading bytes)

-- no lines, no requirements
pub no_lines : configuration [] phone ≡ Ok (record { requirements = []; musts = [] })
unfolding computing
no_lines = refl

-- two requirements; the indent isn't looked at
pub two_lines : configuration (82 ∷ 10 ∷ 9 ∷ 65 ∷ []) phone ≡ Ok (record { requirements = (wanted (codes "R") (Name 0) ∷ wanted (codes "A") (Name 1) ∷ []); musts = ([]) })
unfolding computing
two_lines = simp folds refl

-- quotes stay in the text, and apart tokens have one blank; a name is the same with quotes and without
pub text_of_tokens : configuration (65 ∷ 32 ∷ 32 ∷ 61 ∷ 62 ∷ 34 ∷ 98 ∷ 32 ∷ 99 ∷ 34 ∷ []) phone ≡ Ok (record { requirements = (wanted (65 ∷ 32 ∷ 61 ∷ 62 ∷ 34 ∷ 98 ∷ 32 ∷ 99 ∷ 34 ∷ []) (Implies (Name 1) (Name 2)) ∷ []); musts = ([]) })
unfolding computing
text_of_tokens = simp folds refl

-- a comment between two tokens sets them apart
pub comment_between : configuration (65 ∷ 47 ∷ 42 ∷ 42 ∷ 47 ∷ 38 ∷ 82 ∷ []) phone ≡ Ok (record { requirements = (wanted (codes "A &R") (All (Name 1 ∷ Name 0 ∷ [])) ∷ []); musts = ([]) })
unfolding computing
comment_between = simp folds refl

-- a tier is kept until the next tier line
pub tier_is_kept : stands (118 ∷ 101 ∷ 114 ∷ 115 ∷ 105 ∷ 111 ∷ 110 ∷ 32 ∷ 50 ∷ 10 ∷ 116 ∷ 105 ∷ 101 ∷ 114 ∷ 32 ∷ 50 ∷ 10 ∷ 65 ∷ 10 ∷ 82 ∷ []) ≡ Ok (record {
  tier = 2;
  placed = at 2 (codes "A") (Name 1) ∷ at 2 (codes "R") (Name 0) ∷ [];
  musts = [];
})
unfolding computing
tier_is_kept = simp folds refl

-- musts have no tier, and their text is without the word
pub must_and_tier : stands (118 ∷ 101 ∷ 114 ∷ 115 ∷ 105 ∷ 111 ∷ 110 ∷ 32 ∷ 50 ∷ 10 ∷ 109 ∷ 117 ∷ 115 ∷ 116 ∷ 32 ∷ 82 ∷ 10 ∷ 116 ∷ 105 ∷ 101 ∷ 114 ∷ 32 ∷ 49 ∷ 50 ∷ 10 ∷ 65 ∷ []) ≡ Ok (record {
  tier = 12;
  placed = at 12 (codes "A") (Name 1) ∷ [];
  musts = wanted (codes "R") (Name 0) ∷ [];
})
unfolding computing
must_and_tier = simp folds refl

-- four requirements in two tiers, each named by its place
pub in_two_tiers : by_tier (placed 2 0 ∷ placed 1 1 ∷ placed 2 2 ∷ placed 1 3 ∷ []) ≡ wanted [] (Name 1) ∷ wanted [] (Name 3) ∷ wanted [] (Name 0) ∷ wanted [] (Name 2) ∷ []
in_two_tiers = refl

pub in_high_tiers : by_tier (placed 12 0 ∷ placed 3 1 ∷ placed 9 2 ∷ []) ≡ wanted [] (Name 1) ∷ wanted [] (Name 2) ∷ wanted [] (Name 0) ∷ []
in_high_tiers = refl

-- the second token may not begin a formula, so this is a requirement on the feature `must`
pub must_joined : configuration (118 ∷ 101 ∷ 114 ∷ 115 ∷ 105 ∷ 111 ∷ 110 ∷ 32 ∷ 50 ∷ 10 ∷ 109 ∷ 117 ∷ 115 ∷ 116 ∷ 32 ∷ 38 ∷ 32 ∷ 65 ∷ []) phone ≡ Ok (record { requirements = (wanted (codes "must & A") (All (Name 3 ∷ Name 1 ∷ [])) ∷ []); musts = ([]) })
unfolding computing
must_joined = simp folds refl

-- so is a line with the one name
pub must_alone : configuration (118 ∷ 101 ∷ 114 ∷ 115 ∷ 105 ∷ 111 ∷ 110 ∷ 32 ∷ 50 ∷ 10 ∷ 109 ∷ 117 ∷ 115 ∷ 116 ∷ []) phone ≡ Ok (record { requirements = (wanted (codes "must") (Name 3) ∷ []); musts = ([]) })
unfolding computing
must_alone = simp folds refl

-- this is a must
pub must_enclosed : configuration (118 ∷ 101 ∷ 114 ∷ 115 ∷ 105 ∷ 111 ∷ 110 ∷ 32 ∷ 50 ∷ 10 ∷ 109 ∷ 117 ∷ 115 ∷ 116 ∷ 32 ∷ 40 ∷ 65 ∷ 41 ∷ []) phone ≡ Ok (record { requirements = ([]); musts = (wanted (codes "(A)") (Name 1) ∷ []) })
unfolding computing
must_enclosed = simp folds refl

-- without a version line there are no musts, and this is a requirement
pub first_version : configuration (109 ∷ 117 ∷ 115 ∷ 116 ∷ []) phone ≡ Ok (record { requirements = (wanted (codes "must") (Name 3) ∷ []); musts = ([]) })
unfolding computing
first_version = simp folds refl

-- only a first line says the version
pub version_of_late_line : configuration (65 ∷ 10 ∷ 118 ∷ 101 ∷ 114 ∷ 115 ∷ 105 ∷ 111 ∷ 110 ∷ 32 ∷ 50 ∷ []) phone ≡ Err (Refused 2 Unsupported)
unfolding computing
version_of_late_line = refl

-- there is no version 3
pub version_three : configuration (118 ∷ 101 ∷ 114 ∷ 115 ∷ 105 ∷ 111 ∷ 110 ∷ 32 ∷ 51 ∷ []) phone ≡ Err (Refused 1 Unsupported)
unfolding computing
version_three = refl

-- a tier is not 0
pub tier_zero : configuration (118 ∷ 101 ∷ 114 ∷ 115 ∷ 105 ∷ 111 ∷ 110 ∷ 32 ∷ 50 ∷ 10 ∷ 116 ∷ 105 ∷ 101 ∷ 114 ∷ 32 ∷ 48 ∷ []) phone ≡ Err (Refused 2 BadTier)
unfolding computing
tier_zero = refl

-- its first digit is not 0
pub tier_leading_zero : configuration (118 ∷ 101 ∷ 114 ∷ 115 ∷ 105 ∷ 111 ∷ 110 ∷ 32 ∷ 50 ∷ 10 ∷ 116 ∷ 105 ∷ 101 ∷ 114 ∷ 32 ∷ 48 ∷ 49 ∷ []) phone ≡ Err (Refused 2 BadTier)
unfolding computing
tier_leading_zero = refl

-- it has at most four digits
pub tier_five_digits : configuration (118 ∷ 101 ∷ 114 ∷ 115 ∷ 105 ∷ 111 ∷ 110 ∷ 32 ∷ 50 ∷ 10 ∷ 116 ∷ 105 ∷ 101 ∷ 114 ∷ 32 ∷ 49 ∷ 48 ∷ 48 ∷ 48 ∷ 48 ∷ []) phone ≡ Err (Refused 2 BadTier)
unfolding computing
tier_five_digits = refl

-- they are digits alone
pub tier_fraction : configuration (118 ∷ 101 ∷ 114 ∷ 115 ∷ 105 ∷ 111 ∷ 110 ∷ 32 ∷ 50 ∷ 10 ∷ 116 ∷ 105 ∷ 101 ∷ 114 ∷ 32 ∷ 49 ∷ 46 ∷ 48 ∷ []) phone ≡ Err (Refused 2 BadTier)
unfolding computing
tier_fraction = refl

-- no token stands behind it
pub tier_and_more : configuration (118 ∷ 101 ∷ 114 ∷ 115 ∷ 105 ∷ 111 ∷ 110 ∷ 32 ∷ 50 ∷ 10 ∷ 116 ∷ 105 ∷ 101 ∷ 114 ∷ 32 ∷ 49 ∷ 32 ∷ 50 ∷ []) phone ≡ Err (Refused 2 BadTier)
unfolding computing
tier_and_more = refl

-- without a number this is a requirement line
pub tier_called : configuration (118 ∷ 101 ∷ 114 ∷ 115 ∷ 105 ∷ 111 ∷ 110 ∷ 32 ∷ 50 ∷ 10 ∷ 116 ∷ 105 ∷ 101 ∷ 114 ∷ 32 ∷ 40 ∷ 65 ∷ 41 ∷ []) phone ≡ Err (Refused 2 Unsupported)
unfolding computing
tier_called = refl

-- and so it is in a file of version 1
pub tier_in_first : configuration (116 ∷ 105 ∷ 101 ∷ 114 ∷ 32 ∷ 49 ∷ []) phone ≡ Err (Refused 1 Unsupported)
unfolding computing
tier_in_first = refl

-- no feature has this name; of two lines that are refused here the first decides
pub unknown : configuration (88 ∷ 10 ∷ 49 ∷ []) phone ≡ Err (Refused 1 Unknown)
unfolding computing
unknown = refl

-- what is no formula
pub bad_formula : configuration (65 ∷ 32 ∷ 38 ∷ []) phone ≡ Err (Refused 1 BadFormula)
unfolding computing
bad_formula = refl

-- Unsupported comes before BadFormula
pub unsupported_first : configuration (65 ∷ 32 ∷ 62 ∷ 32 ∷ 51 ∷ 32 ∷ 38 ∷ []) phone ≡ Err (Refused 1 Unsupported)
unfolding computing
unsupported_first = refl

-- a must's tokens are judged alike
pub must_bad : configuration (118 ∷ 101 ∷ 114 ∷ 115 ∷ 105 ∷ 111 ∷ 110 ∷ 32 ∷ 50 ∷ 10 ∷ 109 ∷ 117 ∷ 115 ∷ 116 ∷ 32 ∷ 65 ∷ 32 ∷ 38 ∷ []) phone ≡ Err (Refused 2 BadFormula)
unfolding computing
must_bad = refl

-- the faults of the text come first
pub lexing_first : configuration (88 ∷ 10 ∷ 41 ∷ []) phone ≡ Err (Refused 2 BadToken)
unfolding computing
lexing_first = refl

-- before the first tier line the tier is 1
pub tier_before_tiers : configuration (codes "version 2\nA\ntier 1\nR") phone ≡ Ok (record { requirements = wanted (codes "A") (Name 1) ∷ wanted (codes "R") (Name 0) ∷ []; musts = [] })
unfolding computing
tier_before_tiers = simp folds refl

-- a name in quotes begins a formula, and so a must
pub must_of_a_quoted_name : configuration (codes "version 2\nmust \"A\"") phone ≡ Ok (record { requirements = []; musts = wanted (codes "\"A\"") (Name 1) ∷ [] })
unfolding computing
must_of_a_quoted_name = simp folds refl

-- words in quotes are names of features
pub words_in_quotes :
    (configuration (codes "\"version\" 2") phone ≡ Err (Refused 1 Unsupported))
    × (configuration (codes "version 2\n\"tier\" 0") phone ≡ Err (Refused 2 Unsupported))
    × (configuration (codes "version 2\n\"must\" A") phone ≡ Err (Refused 2 BadFormula))
unfolding computing
words_in_quotes = (refl, refl, refl)

-- the version's line has two tokens, and the second is 2
pub other_versions : (configuration (codes "version 2 2") phone ≡ Err (Refused 1 Unsupported)) × (configuration (codes "version 2.0") phone ≡ Err (Refused 1 Unsupported))
unfolding computing
other_versions = (refl, refl)
