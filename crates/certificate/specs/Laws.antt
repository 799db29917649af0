-- What an accepted certificate shows, and that written ones are accepted.
use Rattle.std.specs.Prelude.{◌≡◌, ℕ, List, [], length}
use Rattle.std.specs.List.{range_with_len}
use Rattle.clause_form.specs.ClauseForm.{problem_of}
use Rattle.clause_form.specs.Laws.{IsStatedOf}
use Rattle.config_reader.specs.Configuration.{Configuration}
use Rattle.config_reader.specs.Consistent.{AreConsistent}
use Rattle.feature_tree.specs.FeatureModel.{FeatureModel}
use Rattle.script.specs.Right.{IsKeptKey, IsConflictKey}
use Rattle.certificate.specs.declared.judgement.Judgement.TheVariants.{Yes}
use Rattle.certificate.specs.declared.judgement.Shown.{Shown}
use Rattle.certificate.specs.declared.judgement.Shown.TheVariants as shown
use Rattle.certificate.specs.Judging.{judge}

-- what is shown, for 'some product makes the musts and these requirements true'
abbrev pub IsSo : FeatureModel → Configuration → Shown → Type 0
IsSo model config shown.Consistent = AreConsistent model config (range_with_len 1 (length config.requirements))
IsSo model config shown.Background = ¬ AreConsistent model config []
IsSo model config (shown.Explained kept conflict) =
    IsKeptKey (AreConsistent model config) (length config.requirements) kept
    × IsConflictKey (AreConsistent model config) (length config.requirements) conflict

-- What is accepted is so, whatever the bytes are and whoever wrote them.
abbrev pub AcceptedIsSo : Type 0
AcceptedIsSo =
    (model : FeatureModel) (config : Configuration) (allowance rungs : ℕ) (bytes : List ℕ) (shown : Shown) → IsStatedOf model config
    → judge model config (problem_of model config allowance rungs) bytes ≡ Yes shown → IsSo model config shown
