-- The numbers beside names.
use Rattle.std.specs.Prelude.{◌≡◌, ℕ, nat_eq, List, [], ◌∷◌, Option, Some, None, refl}
use Rattle.std.specs.Cmp.Lexicographic.{pointwise}
use Rattle.std.specs.Map.{lookup}

-- names, each with its number
abbrev pub Numbers : Type 0
Numbers = List (List ℕ × ℕ)

-- the number beside the first name with these bytes
abbrev pub number_of : Numbers → List ℕ → Option ℕ
number_of names name = lookup (pointwise nat_eq name) names

-- ---- worked examples: `ab` has 0 and `c` has 1

abbrev two : Numbers
two = (97 ∷ 98 ∷ [], 0) ∷ (99 ∷ [], 1) ∷ []

first : number_of two (97 ∷ 98 ∷ []) ≡ Some 0
first = refl

second : number_of two (99 ∷ []) ≡ Some 1
second = refl

part_of_a_name : number_of two (97 ∷ []) ≡ None
part_of_a_name = refl
