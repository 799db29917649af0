-- What is left of the tree where it stands in a level, over each table that answers what was told.
use Rattle.std.specs.Prelude.{◌≡◌, ℕ, zero, suc, ◌+◌, ◌-◌, ◌<◌, ◌≤◌, Bool, true, false, Option, Some, None, List, [], ◌∷◌, length, drop}
use Rattle.pref_sets.specs.Answers.{Answer}
use Rattle.hs_tree.specs.declared.found.Found.{Found}
use Rattle.hs_tree.specs.declared.levels.Level.{Level}
use Rattle.hs_tree.specs.declared.sets.Asking.{Asking}
use Rattle.hs_tree.specs.Tree.{Outcome, ends, Standing, further, one_level, levels}
use Rattle.hs_tree.specs.inside.Places.{at_place, sets_of}
use Rattle.hs_tree.specs.inside.Steps.{IsAsked, IsFound, standing, with_label, waiting}
use Rattle.hs_tree.specs.inside.Told.{AreOver}

-- the next level's sets so far: those that come from sets that are done, with their labels
abbrev pub made : List (List ℕ) → List (List ℕ) → List (Option ℕ) → List (List ℕ) → List (List ℕ)
made known [] labels next = next
made known (set ∷ sets) [] next = next
made known (set ∷ sets) (label ∷ labels) next = made known sets labels (with_label known set label next)

-- no level is behind
abbrev pub is_last : ℕ → Bool
is_last zero = true
is_last (suc more) = false

abbrev pub next_at : Level → Found → List (List ℕ)
next_at level found = made (sets_of found.conflicts) (sets_of level.sets) (drop level.before found.labels) []

abbrev pub standing_at : Level → Found → Standing
standing_at level found = standing found (next_at level found)

-- the place of the first set of the level that isn't done
abbrev pub place_at : Level → Found → ℕ
place_at level found = length found.labels - level.before

-- the level from a place on
abbrev pub from_place : List Answer → Level → ℕ → Standing → Outcome
from_place table level place s = one_level level.n table (is_last level.left) (drop place (sets_of level.sets)) s

-- what is left of the level, where a set asks or none does any more
abbrev pub level_left : List Answer → Level → Found → Option Asking → Outcome
level_left table level found None = ends (standing_at level found)
level_left table level found (Some asking) =
    further (waiting table (is_last level.left) (standing_at level found) (at_place (sets_of level.sets) (place_at level found)) asking)
    (λ after. from_place table level (place_at level found + 1) after)

-- so many levels behind one that is done
abbrev pub levels_behind : ℕ → List Answer → ℕ → Standing → Outcome
levels_behind n table zero after = ends after
levels_behind n table (suc more) after = levels n table more after.next (record after { next = [] })

abbrev pub behind : List Answer → Level → Standing → Outcome
behind table level after = levels_behind level.n table level.left after

-- all that is left
abbrev pub left : List Answer → Level → Found → Option Asking → Outcome
left table level found asking = further (level_left table level found asking) (λ after. behind table level after)

-- the level and what was found go together
pub record IsIn (level : Level) (found : Found) : Type 0 where
  pub sound : IsFound level.n found
  pub sets : AreOver level.n level.sets
  pub low : level.before ≤ length found.labels
  pub high : length found.labels ≤ level.before + length level.sets

-- a set of the level asks for a key without an answer, or all sets of the level are done
abbrev pub IsHere : List Answer → Level → Found → Option Asking → Type 0
IsHere told level found None = length found.labels ≡ level.before + length level.sets
IsHere told level found (Some asking) = IsAsked level.n told asking × (length found.labels < level.before + length level.sets)

-- where no set asks there is no level behind
abbrev pub IsOnlyLast : Level → Option Asking → Type 0
IsOnlyLast level None = level.left ≡ 0
IsOnlyLast level (Some asking) = Unit {0}
