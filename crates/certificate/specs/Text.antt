-- The text of a certificate: what the search on the problem gives for each set that the outcome is about. Own to this project.
use Rattle.std.specs.Prelude.{ℕ, ◌+◌, ◌-◌, Bool, if◌then◌else◌, List, [], ◌∷◌, ◌++◌, length, filter, Option, Some, codes}
use Rattle.std.specs.Fmt.{decimal}
use Rattle.std.specs.List.{flat_map, join_by, range_with_len}
use Rattle.clauses.specs.declared.literal.Lit.{Lit}
use Rattle.clauses.specs.Problem.{ClauseProblem}
use Rattle.clauses.specs.Search.{SearchAnswer, Sat, Unsat, search_of}
use Rattle.clause_form.specs.Laws.{features_in}
use Rattle.config_reader.specs.Configuration.{Configuration}
use Rattle.feature_tree.specs.FeatureModel.{FeatureModel}
use Rattle.feature_tree.specs.Truth.{is_in}
use Rattle.req_keys.specs.Key.{PositionSet}
use Rattle.req_keys.specs.Wanting.{key_over}
use Rattle.script.specs.declared.job.Outcome.{Outcome}
use Rattle.script.specs.declared.job.Outcome.TheVariants as outcome
use Rattle.certificate.specs.Judging.{Subject, count_of}
use Rattle.certificate.specs.Sets.{given_up, refuted_with, met_without}

-- ---- lines

abbrev pub line : List ℕ → List ℕ
line text = text ++ 10 ∷ []

-- ascending numbers with a blank between two, or that there are none
abbrev pub list_text : List ℕ → List ℕ
list_text [] = codes "none"
list_text (number ∷ numbers) = join_by decimal (codes " ") (number ∷ numbers)

-- the features of a set, which count from 1
abbrev pub numbers_in : List Bool → List ℕ
numbers_in set = filter (λ number. is_in set (number - 1)) (range_with_len 1 (length set))

abbrev pub product_line : List Bool → List ℕ
product_line set = line (codes "product " ++ list_text (numbers_in set))

-- a variable, which counts from 1, with `-` before it where it is negated
abbrev pub literal_text : Lit → List ℕ
literal_text literal = if literal.positive then decimal (literal.var + 1) else 45 ∷ decimal (literal.var + 1)

-- the empty clause ends a derivation
abbrev pub derivation_line : List Lit → List ℕ
derivation_line [] = line (codes "clash")
derivation_line (literal ∷ literals) = line (codes "learn " ++ join_by literal_text (codes " ") (literal ∷ literals))

-- ---- parts

-- the product that the search found
abbrev pub found_product : FeatureModel → Option SearchAnswer → List ℕ
found_product model (Some (Sat values)) = product_line (features_in model values)
found_product model _ = []

-- the derivation that the search found
abbrev pub found_derivation : Option SearchAnswer → List ℕ
found_derivation (Some (Unsat lines)) = flat_map derivation_line lines
found_derivation _ = []

abbrev pub searched : Subject → List ℕ → Option SearchAnswer
searched about positions = search_of about.problem (key_over (count_of about) positions)

abbrev pub product_text : Subject → List ℕ → List ℕ
product_text about positions = found_product about.model (searched about positions)

abbrev pub derivation_text : Subject → List ℕ → List ℕ
derivation_text about positions = found_derivation (searched about positions)

abbrev pub refuted_text : Subject → List ℕ → ℕ → List ℕ
refuted_text about kept position =
    line (codes "refute " ++ decimal position) ++ derivation_text about (refuted_with (count_of about) kept position)

abbrev pub need_text : Subject → List ℕ → ℕ → List ℕ
need_text about conflict member = line (codes "need " ++ decimal member) ++ product_text about (met_without (count_of about) conflict member)

-- ---- the whole

abbrev pub explained_text : Subject → List ℕ → List ℕ → List ℕ
explained_text about kept conflict =
    line (codes "explained") ++ line (codes "kept " ++ list_text kept) ++ line (codes "conflict " ++ list_text conflict)
    ++ product_text about kept ++ flat_map (refuted_text about kept) (given_up (count_of about) kept)
    ++ line (codes "refute conflict") ++ derivation_text about conflict ++ flat_map (need_text about conflict) conflict

-- an outcome that is explained has both parts
abbrev pub parts_text : Subject → Option PositionSet → Option PositionSet → List ℕ
parts_text about (Some kept) (Some conflict) = explained_text about kept.members conflict.members
parts_text about _ _ = []

abbrev pub with_ends : List ℕ → List ℕ
with_ends text = line (codes "certificate 1") ++ text ++ line (codes "end")

-- the certificate of an outcome; there is none for a limit
abbrev pub text_of : Subject → Outcome → List ℕ
text_of about outcome.Consistent = with_ends (line (codes "consistent") ++ product_text about (range_with_len 1 (count_of about)))
text_of about outcome.Background = with_ends (line (codes "background") ++ derivation_text about [])
text_of about (outcome.Explained parts) = with_ends (parts_text about parts.kept parts.conflict)
text_of about (outcome.LimitAt part key before) = []

abbrev pub certificate_text : FeatureModel → Configuration → ClauseProblem → Outcome → List ℕ
certificate_text model config problem outcome = text_of (record { model = model; config = config; problem = problem }) outcome
