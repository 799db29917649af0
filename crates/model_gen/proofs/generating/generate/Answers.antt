use Rattle.std.proofs.Common.{◌≡◌, ◌∙◌, ◌++◌, ◌∷◌, [], List, ℕ, refl, codes}
use Rattle.feature_tree.specs.declared.group.GroupKind.{GroupKind}
use Rattle.model_gen.specs.Lines.{kinds, constraints}
use Rattle.model_gen.specs.Texts.{line, tree, constraint_section}
use Rattle.model_gen.proofs.TextLaws.{tabs_of-none}
use Rattle.model_gen.proofs.generating.generate.Goals as goal

-- the three parts of the model's text
parts : (seed size : ℕ) (first second third : List ℕ) (drawn : List GroupKind) → drawn ≡ kinds seed size → first ≡ codes "features" ++ 10 ∷ [] → second ≡ first ++ tree drawn size 0 0 → third ≡ second ++ constraint_section (constraints seed size) → third ≡ line 0 (codes "features") ++ tree (kinds seed size) size 0 0 ++ constraint_section (constraints seed size)
parts seed size first second third drawn k e f g = rw (g, f, e, k, tabs_of-none) refl

pub returns-clause-model : goal.returns-clause-model
returns-clause-model c = parts c.args.seed c.args.size _ _ _ _ (c.as_slice.ensures ∙ c.in_ok-kinds.ensures.kinds) c.in_ok-model.ensures c.in_ok-push_tree.ensures (c.in_ok-push_constraints.ensures.text c.args.seed c.in_ok-kinds.ensures.state)
