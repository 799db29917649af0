-- What a reader that has read the beginning of a text makes of the pieces that follow.
use Rattle.std.specs.Prelude.{ℕ, List, [], ◌∷◌, ◌++◌, Option, Some, None}
use Rattle.uvl_lex.specs.declared.reader.Beginning.{Beginning}
use Rattle.uvl_lex.specs.declared.reader.Reader.{Reader}
use Rattle.uvl_lex.specs.declared.token.Line.{Line}
use Rattle.uvl_lex.specs.declared.token.Token.{Token}
use Rattle.uvl_lex.specs.Pieces.{PlacedPiece}
use Rattle.uvl_lex.specs.Reading.{OrFault, Run, run_of, on_ok, tokens_of, all_lines}

-- the run that goes on with a line that has begun
abbrev pub resumed : Option Line → Run → Run
resumed None run = run
resumed (Some line) run =
    (Some (record { number = line.number; indent = line.indent; tokens = line.tokens ++ tokens_of run.0 }), run.1)

-- the lines that are done, then those of the run that goes on with the current one
abbrev pub lines_with : List Line → Option Line → Run → List Line
lines_with done current run = done ++ all_lines (resumed current run)

-- a line with these tokens, if one has begun
abbrev pub begun_with : Option Beginning → List Token → Option Line
begun_with None tokens = None
begun_with (Some at) tokens = Some (record { number = at.number; indent = at.indent; tokens = tokens })

-- the line that has begun, with its tokens up to here
abbrev pub current : Reader → Option Line
current reader = begun_with reader.begun reader.gathered.items

-- the lines of the reader and of the pieces that follow, or the first fault among these
abbrev pub lines_after : Reader → List PlacedPiece → OrFault (List Line)
lines_after reader ps = on_ok (lines_with reader.lines (current reader)) (run_of reader.open_brackets ps)

-- the lines with one that has ended
abbrev pub ended : List Line → Option Line → List Line
ended done None = done
ended done (Some line) = done ++ line ∷ []

-- the line with one more token, or the line that the token begins
abbrev pub grown : Option Line → Token → ℕ → Line
grown None token column = record { number = token.line; indent = column; tokens = token ∷ [] }
grown (Some line) token column = record { number = line.number; indent = line.indent; tokens = line.tokens ++ token ∷ [] }
