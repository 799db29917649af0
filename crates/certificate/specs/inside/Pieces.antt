-- What is left behind a piece.
use Rattle.std.specs.Prelude.{ℕ, List, [], ◌==◌, Option, Some, None}
use Rattle.std.specs.List.{slice_split}

-- the further pieces, if there are any
abbrev pub pieces_of : ℕ → Option (List ℕ) → List (List ℕ)
pieces_of at None = []
pieces_of at (Some bytes) = slice_split (λ byte. byte == at) bytes
