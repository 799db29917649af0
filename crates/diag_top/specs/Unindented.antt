-- The lines of a text that don't begin with a blank (own to this project).
use Rattle.std.specs.Prelude.{ℕ, ◌==◌, Bool, false, List, [], ◌∷◌, if◌then◌else◌}
use Rattle.std.specs.List.{flat_map}

-- a byte in front of the first line
abbrev pub onto : ℕ → List (List ℕ) → List (List ℕ)
onto byte [] = (byte ∷ []) ∷ []
onto byte (line ∷ lines) = (byte ∷ line) ∷ lines

-- the lines of a text, each with its line feed; what stands behind the last one is a line too
abbrev pub lines_of : List ℕ → List (List ℕ)
lines_of [] = []
lines_of (byte ∷ text) = if byte == 10 then (byte ∷ []) ∷ lines_of text else onto byte (lines_of text)

abbrev pub is_indented : List ℕ → Bool
is_indented [] = false
is_indented (first ∷ rest) = first == 32

-- without the lines that begin with a blank
abbrev pub unindented : List ℕ → List ℕ
unindented text = flat_map (λ line. if is_indented line then [] else line) (lines_of text)
