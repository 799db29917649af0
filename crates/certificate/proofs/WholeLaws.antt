-- The pieces of a certificate, put together.
use Rattle.std.proofs.Common.{◌≡◌, ℕ, ◌++◌, List, Option, Some, None, IfSome, OnOk, Result, Ok, Err, refl, sym, ◌∙◌, ap, append_assoc, length}
use Rattle.std.specs.Prelude.{codes}
use Rattle.clause_form.specs.ClauseForm.{first_root, problem_of}
use Rattle.clause_form.proofs.ProblemLaws.{length-literals}
use Rattle.clauses.specs.Problem.{ClauseProblem}
use Rattle.clauses.specs.Search.{search_of}
use Rattle.config_reader.specs.Consistent.{formulas_of}
use Rattle.config_reader.specs.declared.config.Requirement.{Requirement}
use Rattle.std.specs.List.{flat_map}
use Rattle.std.proofs.lemmas.List.{length-map}
use Rattle.script.specs.declared.job.Part.{Part}
use Rattle.script.specs.declared.job.Parts.{Parts}
use Rattle.certificate.specs.Sets.{given_up}
use Rattle.config_reader.specs.Configuration.{Configuration}
use Rattle.feature_tree.specs.FeatureModel.{FeatureModel}
use Rattle.req_keys.specs.Key.{PositionSet}
use Rattle.req_keys.specs.Wanting.{key_over}
use Rattle.script.specs.declared.job.Outcome.{Outcome}
use Rattle.script.specs.declared.job.Outcome.TheVariants as outcome
use Rattle.certificate.specs.Judging.{Subject, count_of}
use Rattle.certificate.specs.Text.{line, list_text, found_product, found_derivation, text_of, parts_text, explained_text, with_ends}
use Rattle.certificate.specs.Writing.{IsOver}
use Rattle.certificate.specs.inside.Parts.{sets_lines, refuted_lines, need_lines, explained_lines, parts_lines, outcome_lines}

-- what follows where there is a value
pub OnOk-then : {T E : Type 0} {P Q : Type 0} (r : Result T E) → (P → Q) → OnOk r P → OnOk r Q
OnOk-then (Ok x) f p = f p
OnOk-then (Err e) f p = tt

-- the three lines before the parts
pub sets-in-order : (text one two three : List ℕ) (kept conflict : PositionSet) (a b : List ℕ) → one ≡ text ++ line (codes "explained") → a ≡ kept.members
    → two ≡ one ++ line (codes "kept " ++ list_text a) → b ≡ conflict.members → three ≡ two ++ line (codes "conflict " ++ list_text b) → three ≡ text ++ sets_lines kept conflict
sets-in-order text one two three kept conflict a b e f g h i =
    rw (i, h, g, f, e)
    (append_assoc (text ++ line (codes "explained")) (line (codes "kept " ++ list_text kept.members)) (line (codes "conflict " ++ list_text conflict.members))
    ∙ append_assoc text (line (codes "explained")) (line (codes "kept " ++ list_text kept.members) ++ line (codes "conflict " ++ list_text conflict.members))
    ∙ ap (λ (t : List ℕ). text ++ t) (sym (append_assoc (line (codes "explained")) (line (codes "kept " ++ list_text kept.members)) (line (codes "conflict " ++ list_text conflict.members)))))

regrouped : (t a b c d e f : List ℕ) → (((((t ++ a) ++ b) ++ c) ++ d) ++ e) ++ f ≡ t ++ (((((a ++ b) ++ c) ++ d) ++ e) ++ f)
regrouped t a b c d e f = simp append_assoc

-- the lines and the parts behind them, where the searcher stays the same
pub parts-in-order : (model : FeatureModel) (first second third fourth : ClauseProblem) (kept conflict : PositionSet) (text one two three four five six : List ℕ)
    → one ≡ text ++ sets_lines kept conflict
    → two ≡ one ++ found_product model (search_of first kept) → second ≡ first
    → three ≡ two ++ flat_map (refuted_lines second kept) (given_up kept.n kept.members) → third ≡ second
    → four ≡ three ++ line (codes "refute conflict")
    → five ≡ four ++ found_derivation (search_of third conflict) → fourth ≡ third
    → six ≡ five ++ flat_map (need_lines model fourth conflict) conflict.members
    → six ≡ text ++ explained_lines model first kept conflict
parts-in-order model first second third fourth kept conflict text one two three four five six e f s g t h i u j =
    let third_is : third ≡ first = t ∙ s in
    let fourth_is : fourth ≡ first = u ∙ third_is in
    j ∙ ap (λ (t : List ℕ). t ++ flat_map (need_lines model fourth conflict) conflict.members)
    (i ∙ ap (λ (t : List ℕ). t ++ found_derivation (search_of third conflict))
    (h ∙ ap (λ (t : List ℕ). t ++ line (codes "refute conflict"))
    (g ∙ ap (λ (t : List ℕ). t ++ flat_map (refuted_lines second kept) (given_up kept.n kept.members))
    (f ∙ ap (λ (t : List ℕ). t ++ found_product model (search_of first kept)) e))))
    ∙ regrouped text (sets_lines kept conflict) (found_product model (search_of first kept)) (flat_map (refuted_lines second kept) (given_up kept.n kept.members)) (line (codes "refute conflict"))
    (found_derivation (search_of third conflict)) (flat_map (need_lines model fourth conflict) conflict.members)
    ∙ ap (λ (problem : ClauseProblem). text ++ (((((sets_lines kept conflict ++ found_product model (search_of first kept)) ++ flat_map (refuted_lines problem kept) (given_up kept.n kept.members)) ++ line (codes "refute conflict"))
    ++ found_derivation (search_of third conflict)) ++ flat_map (need_lines model fourth conflict) conflict.members)) s
    ∙ ap (λ (problem : ClauseProblem). text ++ (((((sets_lines kept conflict ++ found_product model (search_of first kept)) ++ flat_map (refuted_lines first kept) (given_up kept.n kept.members)) ++ line (codes "refute conflict"))
    ++ found_derivation (search_of problem conflict)) ++ flat_map (need_lines model fourth conflict) conflict.members)) third_is
    ∙ ap (λ (problem : ClauseProblem). text ++ (((((sets_lines kept conflict ++ found_product model (search_of first kept)) ++ flat_map (refuted_lines first kept) (given_up kept.n kept.members)) ++ line (codes "refute conflict"))
    ++ found_derivation (search_of first conflict)) ++ flat_map (need_lines model problem conflict) conflict.members)) fourth_is

-- a problem has as many roots as there are requirements
pub roots-counted : (model : FeatureModel) (config : Configuration) (allowance rungs : ℕ) → length (problem_of model config allowance rungs).roots ≡ length config.requirements
roots-counted model config allowance rungs = length-literals (first_root model config) (formulas_of config.requirements) ∙ length-map config.requirements (λ (one : Requirement). one.formula)

module _ (about : Subject) where
  explained-same : (k c : ℕ) (kept conflict : List ℕ) → k ≡ count_of about → c ≡ count_of about
      → explained_lines about.model about.problem (key_over k kept) (key_over c conflict) ≡ explained_text about kept conflict
  explained-same k c kept conflict e f = rw (e, f)

  parts-same : (kept conflict : Option PositionSet) → IfSome kept (λ key. key.n ≡ count_of about) → IfSome conflict (λ key. key.n ≡ count_of about)
      → parts_lines about.model about.problem kept conflict ≡ parts_text about kept conflict
  parts-same (Some kept) (Some conflict) e f = explained-same kept.n conflict.n kept.members conflict.members e f
  parts-same (Some kept) None e f = refl
  parts-same None conflict e f = refl

  at-n : (found : Outcome) → IsOver (count_of about) found → ((part : Part) (key : PositionSet) (before : Parts) → found ≡ outcome.LimitAt part key before → ⊥)
      → with_ends (outcome_lines about.model about.problem (count_of about) found) ≡ text_of about found
  at-n outcome.Consistent h other = refl
  at-n outcome.Background h other = refl
  at-n (outcome.Explained parts) h other = ap with_ends (parts-same parts.kept parts.conflict (h.0) (h.1))
  at-n (outcome.LimitAt part key before) h other = absurd (other part key before refl)

  -- the first line, what was found, and the last line
  pub whole-is : (problem : ClauseProblem) (n : ℕ) (found : Outcome) (begun put text : List ℕ) → problem ≡ about.problem → n ≡ count_of about → IsOver (count_of about) found
      → ((part : Part) (key : PositionSet) (before : Parts) → found ≡ outcome.LimitAt part key before → ⊥)
      → begun ≡ line (codes "certificate 1") → put ≡ begun ++ outcome_lines about.model problem n found → text ≡ put ++ line (codes "end") → text ≡ text_of about found
  whole-is problem n found begun put text same e h other f g i =
      i ∙ ap (λ (t : List ℕ). t ++ line (codes "end")) (g ∙ ap (λ (t : List ℕ). t ++ outcome_lines about.model problem n found) f)
      ∙ ap (λ (p : ClauseProblem). with_ends (outcome_lines about.model p n found)) same
      ∙ ap (λ (k : ℕ). with_ends (outcome_lines about.model about.problem k found)) e
      ∙ at-n found h other
