-- What is left of the features, from one of them on.
use Rattle.std.proofs.Common.{ℕ, List, map}
use Rattle.std.specs.Prelude.{flat_map}
use Rattle.std.specs.List.{enumerate_from}
use Rattle.feature_tree.specs.declared.feature.Feature.{Feature}
use Rattle.clauses.specs.declared.literal.Lit.{Lit}
use Rattle.clause_form.specs.Parts.{Part}
use Rattle.clause_form.specs.Groups.{group_part}
use Rattle.clause_form.specs.ClauseForm.{parent_clauses}

abbrev pub groups_from : ℕ → List Feature → List Part
groups_from number features = flat_map (λ one. map (group_part one.0) one.1.groups) (enumerate_from number features)

abbrev pub parents_from : ℕ → List Feature → List (List Lit)
parents_from number features = flat_map (λ one. parent_clauses one.0 one.1) (enumerate_from number features)
