-- Worked examples of generated texts, drawn by hand. Each computes.
use Rattle.std.specs.Prelude.{◌≡◌, [], ◌∷◌, ◌++◌, Some, None, codes, map, refl}
use Rattle.feature_tree.specs.declared.formula.Formula.TheVariants.{Name, Implies}
use Rattle.model_gen.specs.Draws.{next_state, drawn}
use Rattle.model_gen.specs.Lines.{children, parent_count, constraint_count, wish_count}
use Rattle.std.specs.Fmt.{digits}
use Rattle.model_gen.specs.Texts.{line, tree, tabs_of, model_text, config_text}
use Rattle.model_gen.specs.Whole.{appearing, model_of, number_of}

-- the first draws of seed 1: 1664525 + 1013904223 = 1015568748
pub state-of_one : next_state 1 ≡ 1015568748
state-of_one = refl

-- 1015568748 / 256 = 3967065, and 3967065 mod 4 = 1
pub draw-first : drawn 1 0 4 ≡ 1
draw-first = refl

-- sizes 1, 2, 4, 5 and 17: the last parent has the children that are left
pub parents-few : (parent_count 1 ≡ 1) × (parent_count 2 ≡ 1) × (parent_count 4 ≡ 1) × (parent_count 5 ≡ 2) × (parent_count 17 ≡ 5)
parents-few = (refl, refl, refl, refl, refl)

pub children-five : (children 5 0 ≡ 1 ∷ 2 ∷ 3 ∷ 4 ∷ []) × (children 5 1 ≡ 5 ∷ []) × (children 5 2 ≡ [])
children-five = (refl, refl, refl)

pub counts : (constraint_count 3 ≡ 0) × (constraint_count 4 ≡ 1) × (wish_count 1 ≡ 1) × (wish_count 15 ≡ 1) × (wish_count 16 ≡ 2) × (wish_count 60000 ≡ 4096)
counts = (refl, refl, refl, refl, refl, refl)

-- seed 1 and size 4
pub model-four : model_text 1 4
    ≡ line 0 (codes "features") ++ line 1 (codes "F0") ++ line 2 (codes "optional") ++ line 3 (codes "F1") ++ line 3 (codes "F2")
    ++ line 3 (codes "F3") ++ line 3 (codes "F4") ++ line 0 (codes "constraints") ++ line 1 (codes "F3 => F2")
unfolding tree tabs_of digits
model-four = refl

pub config-four : config_text 1 4 ≡ line 0 (codes "F3")
unfolding tabs_of digits
config-four = refl

-- a feature's children follow it
pub appearing-five : appearing 5 ≡ 0 ∷ 1 ∷ 5 ∷ 2 ∷ 3 ∷ 4 ∷ []
unfolding appearing
appearing-five = refl

pub numbers-five : (number_of 5 5 ≡ 2) × (number_of 5 2 ≡ 3) × (number_of 5 4 ≡ 5)
unfolding appearing
numbers-five = (refl, refl, refl)

-- feature 5 has the number 2, and the constraint is of features 2 and 5
pub parents-five : map (λ feature. feature.parent) ((model_of 4294967295 5).features) ≡ None ∷ Some 0 ∷ Some 1 ∷ Some 0 ∷ Some 0 ∷ Some 0 ∷ []
unfolding appearing
parents-five = refl

pub constraints-five : (model_of 4294967295 5).constraints ≡ Implies (Name 3) (Name 2) ∷ []
unfolding appearing
constraints-five = refl
