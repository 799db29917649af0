use Rattle.std.proofs.Common.{◌≡◌, ℕ, min, refl, ap, ◌∙◌, arith, eqb}
use Rattle.check_table.proofs.Boards.{same_board}
use Rattle.check_table.proofs.laws.new_table_is_a_fresh_board.Goals as goal

pub returns : goal.returns
returns c p size words zeros =
    let none : min 0 size ≡ 0 = omega arith in
    same_board _ _ refl (ap (λ (k : ℕ). min k size) (zeros 0) ∙ none) refl (ap (λ (k : ℕ). eqb k 1) (zeros 1)) refl
