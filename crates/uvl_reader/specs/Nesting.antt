-- Where a logical line stands, in terms of the lines before it, which are given with the latest first. That indentation nests
-- is UVL's; the rest is own to this project.
use Rattle.std.specs.Prelude.{◌≡◌, ℕ, ◌<◌, ◌≤◌, ◌==◌, ◌||◌, nat_lt, Bool, true, false, if◌then◌else◌, List, [], ◌∷◌, ◌++◌, All}
use Rattle.std.specs.List.{list_any}
use Rattle.uvl_lex.specs.declared.token.Line.{Line}
use Rattle.uvl_lex.specs.declared.token.Token.{Token}
use Rattle.uvl_lex.specs.declared.token.TokenKind.{TokenKind}
use Rattle.uvl_lex.specs.declared.token.TokenKind.TheVariants.{Keyword}
use Rattle.uvl_lex.specs.declared.token.Keyword.TheVariants.{Include}

abbrev pub is_include_token : TokenKind → Bool
is_include_token (Keyword Include) = true
is_include_token _ = false

-- whether a line begins with the word `include`
abbrev pub begins_with_include : List Token → Bool
begins_with_include [] = false
begins_with_include (token ∷ tokens) = is_include_token token.kind

-- The lines that are judged: what is indented under an `include` line is left out, up to the next unindented line. `under`
-- says whether the last unindented line begins with `include`.
abbrev pub judged_lines : Bool → List Line → List Line
judged_lines under [] = []
judged_lines under (line ∷ lines) =
    if line.indent == 0 then line ∷ judged_lines (begins_with_include line.tokens) lines
    else if under then judged_lines under lines else line ∷ judged_lines under lines

-- The lines that a line with a place stands under, the nearest first: each is the latest one that is indented less than the one
-- below it.
abbrev pub lines_above : List Line → ℕ → List Line
lines_above [] indent = []
lines_above (last ∷ before) indent = if nat_lt last.indent indent then last ∷ lines_above before last.indent else lines_above before indent

-- the lines that may still get children: the last one, and those that it stands under
abbrev pub open_lines : List Line → List Line
open_lines [] = []
open_lines (last ∷ before) = last ∷ lines_above before last.indent

-- The first line has a place where it isn't indented. Another line has one where it is indented further than the last line, as
-- its child, or where an open line has its indent, as that line's sibling.
abbrev pub has_place : List Line → ℕ → Bool
has_place [] indent = indent == 0
has_place (last ∷ before) indent = nat_lt last.indent indent || list_any (λ line. line.indent == indent) (open_lines (last ∷ before))

-- The lines, the nearest first, are each the latest before the one below that is indented less, and above the last of them no
-- line is.
abbrev pub AreAbove : List Line → ℕ → List Line → Type 0
AreAbove before indent [] = All (λ line. indent ≤ line.indent) before
AreAbove before indent (nearest ∷ above) =
    (later earlier : List Line) × (before ≡ later ++ nearest ∷ earlier) × All (λ line. indent ≤ line.indent) later
    × (nearest.indent < indent) × AreAbove earlier nearest.indent above
