-- The sets of requirements that the parts of a certificate are about. Own to this project. Positions count from 1.
use Rattle.std.specs.Prelude.{ℕ, not, ◌&&◌, ◌||◌, ◌==◌, nat_lt, List}
use Rattle.req_keys.specs.Positions.{has, positions_where}

-- what isn't kept
abbrev pub given_up : ℕ → List ℕ → List ℕ
given_up n kept = positions_where n (λ i. not (has kept i))

-- what is kept of the more important requirements, and a requirement that can't join it
abbrev pub refuted_with : ℕ → List ℕ → ℕ → List ℕ
refuted_with n kept position = positions_where n (λ i. (nat_lt i position && has kept i) || i == position)

-- what can be met without a member of the conflict: all more important requirements, and the less important ones of the
-- conflict
abbrev pub met_without : ℕ → List ℕ → ℕ → List ℕ
met_without n conflict member = positions_where n (λ i. nat_lt i member || (nat_lt member i && has conflict i))
