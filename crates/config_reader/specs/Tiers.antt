-- How requirements are numbered: by tier, the lowest first, and within a tier by place in the file. Own to this project.
use Rattle.std.specs.Prelude.{ℕ, ◌+◌, ◌==◌, max, List, [], ◌∷◌, map, filter}
use Rattle.std.specs.List.{flat_map, range_with_len}
use Rattle.config_reader.specs.declared.config.Requirement.{Requirement}
use Rattle.config_reader.specs.declared.placed.Placed.{Placed}

-- those of one tier, by place
abbrev pub of_tier : List Placed → ℕ → List Placed
of_tier placed tier = filter (λ one. one.tier == tier) placed

-- the highest tier among them
abbrev pub highest : List Placed → ℕ
highest [] = 0
highest (one ∷ after) = max one.tier (highest after)

-- the requirements of each tier, up to the highest
abbrev pub in_order : List Placed → List Placed
in_order placed = flat_map (of_tier placed) (range_with_len 0 (highest placed + 1))

abbrev pub by_tier : List Placed → List Requirement
by_tier placed = map (λ one. one.requirement) (in_order placed)
