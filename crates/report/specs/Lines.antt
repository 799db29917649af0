-- The lines that a report is made of (own to this project). Numbers are decimal, and every line ends with a line feed.
use Rattle.std.specs.Prelude.{ℕ, Bool, true, false, not, List, [], ◌∷◌, ◌++◌, length, filter, map, codes, if◌then◌else◌}
use Rattle.std.specs.List.{enumerate_from, flat_map, join_by}
use Rattle.std.specs.Fmt.{decimal}
use Rattle.config_reader.specs.declared.config.Requirement.{Requirement}
use Rattle.feature_tree.specs.FeatureModel.{FeatureModel}
use Rattle.req_keys.specs.Key.{PositionSet}
use Rattle.req_keys.specs.Positions.{has}
use Rattle.script.specs.declared.job.Part.{Part}
use Rattle.script.specs.declared.job.Part.TheVariants as part

-- a text and the end of its line
abbrev pub line : List ℕ → List ℕ
line text = text ++ 10 ∷ []

abbrev pub model_line : FeatureModel → List ℕ
model_line model =
    line (codes "model " ++ decimal (length model.features) ++ codes " features " ++ decimal (length model.constraints) ++ codes " constraints")

abbrev pub requirements_line : List Requirement → List ℕ
requirements_line requirements = line (codes "requirements " ++ decimal (length requirements))

-- where there are musts, how many
abbrev pub musts_line : List Requirement → List ℕ
musts_line [] = []
musts_line (must ∷ musts) = line (codes "musts " ++ decimal (length (must ∷ musts)))

-- ---- requirements

-- the requirements at the key's positions, or those at the others, each with its position, which counts from 1
abbrev pub chosen : Bool → List Requirement → PositionSet → List (ℕ × List ℕ)
chosen inside requirements key =
    filter (λ member. if inside then has key.members member.0 else not (has key.members member.0))
    (enumerate_from 1 (map (λ one. one.text) requirements))

-- a position and the text of the requirement there
abbrev pub member_line : ℕ × List ℕ → List ℕ
member_line member = line (codes "  " ++ decimal member.0 ++ codes " " ++ member.1)

-- how many requirements, and which
abbrev pub member_lines : List ℕ → List (ℕ × List ℕ) → List ℕ
member_lines head members = line (head ++ decimal (length members)) ++ flat_map member_line members

-- what to give up: all that isn't kept
abbrev pub diagnosis_lines : List Requirement → PositionSet → List ℕ
diagnosis_lines requirements kept = member_lines (codes "diagnosis ") (chosen false requirements kept)

abbrev pub conflict_lines : List Requirement → PositionSet → List ℕ
conflict_lines requirements conflict = member_lines (codes "conflict ") (chosen true requirements conflict)

-- ---- positions

-- positions with a blank between two, or that there are none
abbrev pub positions_text : List ℕ → List ℕ
positions_text [] = codes "none"
positions_text (position ∷ others) = join_by decimal (codes " ") (position ∷ others)

-- the minimal diagnoses up to a size, a line each
abbrev pub listing_lines : ℕ → List PositionSet → List ℕ
listing_lines size listing =
    line (codes "listing " ++ decimal (length listing) ++ codes " size " ++ decimal size)
    ++ flat_map (λ diagnosis. line (codes "  " ++ positions_text diagnosis.members)) listing

abbrev pub part_word : Part → List ℕ
part_word part.All = codes "all"
part_word part.Background = codes "background"
part_word part.Kept = codes "kept"
part_word part.Conflict = codes "conflict"
part_word part.Listing = codes "listing"

-- which check spent its allowance
abbrev pub limit_line : Part → PositionSet → List ℕ
limit_line found_in key = line (codes "limit in " ++ part_word found_in ++ codes " at " ++ positions_text key.members)

-- ---- counts

-- how many checks there were, how many were predicted, and how many of these in vain
abbrev pub checks_line : ℕ → ℕ → ℕ → List ℕ
checks_line checks predicted wasted =
    line (codes "checks " ++ decimal checks ++ codes " predicted " ++ decimal predicted ++ codes " wasted " ++ decimal wasted)
