use Rattle.std.proofs.Common.{◌≡◌, [], List}
use Rattle.pref_sets.specs.Answers.{Answer}
use Rattle.hs_tree.specs.Tree.{levels}
use Rattle.hs_tree.specs.inside.Left.{IsIn, IsHere, left}
use Rattle.hs_tree.specs.inside.Places.{sets_of}
use Rattle.hs_tree.specs.inside.Steps.{Grows, standing}
use Rattle.hs_tree.specs.inside.Told.{HasAll, answers_of}
use Rattle.hs_tree.proofs.levels.from_level.Given as goal

abbrev pub invariant-levels : goal.invariant-levels
invariant-levels l =
    IsIn l.level l.found
    × Grows l.fn.found l.found
    × IsHere (answers_of l.told) l.level l.found l.asking
    × (l.level.n ≡ l.fn.level.n)
    × ((table : List Answer) → HasAll (answers_of l.told) table →
    levels l.fn.level.n table l.fn.level.left (sets_of l.fn.level.sets) (standing l.fn.found []) ≡ left table l.level l.found l.asking)

abbrev pub decreases-levels : goal.decreases-levels
decreases-levels l = l.level.left
