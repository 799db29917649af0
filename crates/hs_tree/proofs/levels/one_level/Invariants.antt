use Rattle.std.proofs.Common.{◌≡◌, ◌+◌, List, length}
use Rattle.pref_sets.specs.Answers.{Answer}
use Rattle.hs_tree.specs.inside.Left.{IsIn, from_place, place_at, standing_at}
use Rattle.hs_tree.specs.inside.Steps.{Grows}
use Rattle.hs_tree.specs.inside.Told.{HasAll, answers_of}
use Rattle.hs_tree.proofs.levels.one_level.Given as goal

abbrev pub invariant-loop-place : goal.invariant-loop-place
invariant-loop-place l =
    IsIn l.level l.found
    × Grows l.fn.found l.found
    × (length l.found.labels ≡ l.level.before + l.place)
    × ((table : List Answer) → HasAll (answers_of l.told) table →
    from_place table l.level (place_at l.level l.fn.found) (standing_at l.level l.fn.found) ≡ from_place table l.level l.place (standing_at l.level l.found))
