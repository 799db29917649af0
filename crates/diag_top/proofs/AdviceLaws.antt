-- Right verdicts on a problem are right of the model and the configuration that it was made of.
use Rattle.std.proofs.Common.{◌≡◌, ℕ, List, length, Some, None, sym, ap, subst}
use Rattle.std.specs.Prelude.{Option, ◌↔◌}
use Rattle.clauses.specs.Met.{AreMet, IsMet}
use Rattle.clauses.specs.Problem.{IsProblem}
use Rattle.clauses.specs.Search.{verdict_on}
use Rattle.clauses.proofs.MetLaws.{met-within, sat-met, unsat-unmet}
use Rattle.clause_form.specs.ClauseForm.{problem_of}
use Rattle.clause_form.specs.Laws.{IsStatedOf}
use Rattle.clause_form.proofs.AssignmentLaws.{consistent-met}
use Rattle.command_line.specs.Words.{Settings}
use Rattle.config_reader.specs.Configuration.{Configuration}
use Rattle.config_reader.specs.Consistent.{AreConsistent}
use Rattle.feature_tree.specs.FeatureModel.{FeatureModel}
use Rattle.pref_sets.specs.Properties.{PassesToFewer}
use Rattle.req_keys.specs.Key.{PositionSet}
use Rattle.req_keys.specs.Wanting.{key_over}
use Rattle.req_keys.specs.declared.verdict.Verdict.{Verdict}
use Rattle.req_keys.specs.declared.verdict.Verdict.TheVariants as verdict
use Rattle.script.specs.Right.{IsTrueVerdict}
use Rattle.script.specs.Sequential.{known_verdict, verdicts_of}

was_sat : (o : Option Verdict) → verdict.Sat ≡ known_verdict o → o ≡ Some verdict.Sat
was_sat None e = (cc)
was_sat (Some v) e = ap Some (sym e)

was_unsat : (o : Option Verdict) → verdict.Unsat ≡ known_verdict o → o ≡ Some verdict.Unsat
was_unsat None e = (cc)
was_unsat (Some v) e = ap Some (sym e)

module _ (model : FeatureModel) (config : Configuration) (settings : Settings) (stated : IsStatedOf model config) where
  pub same : (positions : List ℕ) → AreConsistent model config positions ↔ AreMet (problem_of model config settings.allowance settings.rungs) positions
  same positions =
      consistent-met model config settings.allowance settings.rungs
      (key_over (length (problem_of model config settings.allowance settings.rungs).roots) positions) stated

  pub fewer_consistent : PassesToFewer (AreConsistent model config)
  fewer_consistent a b within p =
      let problem = problem_of model config settings.allowance settings.rungs in
      (same a).1 (met-within problem (key_over (length problem.roots) a) (key_over (length problem.roots) b) within ((same b).0 p))

  -- a verdict of the problem says what is so
  pub true_verdict : IsProblem (problem_of model config settings.allowance settings.rungs) → (key : PositionSet) (v : Verdict) → key.n ≡ length (problem_of model config settings.allowance settings.rungs).roots
      → v ≡ verdicts_of (problem_of model config settings.allowance settings.rungs) key → IsTrueVerdict (AreConsistent model config) key.members v
  true_verdict is key verdict.Sat n e =
      let problem = problem_of model config settings.allowance settings.rungs in
      (same key.members).1 (subst (λ (k : ℕ). IsMet problem (key_over k key.members)) n (sat-met problem key is (was_sat (verdict_on problem key) e)))
  true_verdict is key verdict.Unsat n e =
      let problem = problem_of model config settings.allowance settings.rungs in
      λ c. unsat-unmet problem key (was_unsat (verdict_on problem key) e) (subst (λ (k : ℕ). IsMet problem (key_over k key.members)) (sym n) ((same key.members).0 c))
  true_verdict is key verdict.Limit n e = tt
