-- The pieces of a certificate's text, for a problem that is searched again and keys of its requirements.
use Rattle.std.specs.Prelude.{ℕ, List, [], ◌++◌, Option, Some, codes}
use Rattle.std.specs.Fmt.{decimal}
use Rattle.std.specs.List.{flat_map}
use Rattle.clauses.specs.Problem.{ClauseProblem}
use Rattle.clauses.specs.Search.{search_of}
use Rattle.feature_tree.specs.FeatureModel.{FeatureModel}
use Rattle.req_keys.specs.Key.{PositionSet, empty_key, full_key}
use Rattle.req_keys.specs.Wanting.{key_over}
use Rattle.script.specs.declared.job.Outcome.{Outcome}
use Rattle.script.specs.declared.job.Outcome.TheVariants as outcome
use Rattle.certificate.specs.Sets.{given_up, refuted_with, met_without}
use Rattle.certificate.specs.Text.{line, list_text, found_product, found_derivation}

abbrev pub refuted_lines : ClauseProblem → PositionSet → ℕ → List ℕ
refuted_lines problem kept position =
    line (codes "refute " ++ decimal position) ++ found_derivation (search_of problem (key_over kept.n (refuted_with kept.n kept.members position)))

abbrev pub need_lines : FeatureModel → ClauseProblem → PositionSet → ℕ → List ℕ
need_lines model problem conflict member =
    line (codes "need " ++ decimal member) ++ found_product model (search_of problem (key_over conflict.n (met_without conflict.n conflict.members member)))

abbrev pub sets_lines : PositionSet → PositionSet → List ℕ
sets_lines kept conflict = line (codes "explained") ++ line (codes "kept " ++ list_text kept.members) ++ line (codes "conflict " ++ list_text conflict.members)

abbrev pub explained_lines : FeatureModel → ClauseProblem → PositionSet → PositionSet → List ℕ
explained_lines model problem kept conflict =
    sets_lines kept conflict ++ found_product model (search_of problem kept) ++ flat_map (refuted_lines problem kept) (given_up kept.n kept.members)
    ++ line (codes "refute conflict") ++ found_derivation (search_of problem conflict) ++ flat_map (need_lines model problem conflict) conflict.members

-- what is explained has both parts
abbrev pub parts_lines : FeatureModel → ClauseProblem → Option PositionSet → Option PositionSet → List ℕ
parts_lines model problem (Some kept) (Some conflict) = explained_lines model problem kept conflict
parts_lines model problem _ _ = []

-- what stands between the first line and the last
abbrev pub outcome_lines : FeatureModel → ClauseProblem → ℕ → Outcome → List ℕ
outcome_lines model problem n outcome.Consistent = line (codes "consistent") ++ found_product model (search_of problem (full_key n))
outcome_lines model problem n outcome.Background = line (codes "background") ++ found_derivation (search_of problem (empty_key n))
outcome_lines model problem n (outcome.Explained parts) = parts_lines model problem parts.kept parts.conflict
outcome_lines model problem n (outcome.LimitAt part key before) = []
