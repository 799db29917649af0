-- Which version a file has, and what each of its lines is. Own to this project.
use Rattle.std.specs.Prelude.{ℕ, ◌+◌, ◌*◌, ◌-◌, ◌==◌, nat_le, nat_eq, Bool, true, false, ◌&&◌, if◌then◌else◌, List, [], ◌∷◌, length, drop, Option, Some, None, codes}
use Rattle.std.specs.Cmp.Lexicographic.{pointwise}
use Rattle.uvl_lex.specs.declared.token.Line.{Line}
use Rattle.uvl_lex.specs.declared.token.Mark.TheVariants.{Bang, OpenRound}
use Rattle.uvl_lex.specs.declared.token.Token.{Token}
use Rattle.uvl_lex.specs.declared.token.TokenKind.{TokenKind}
use Rattle.uvl_lex.specs.declared.token.TokenKind.TheVariants.{Name, Quoted, Number, Mark}
use Rattle.uvl_lex.specs.Text.{token_text}
use Rattle.config_reader.specs.declared.kind.Kind.{Kind}
use Rattle.config_reader.specs.declared.kind.Kind.TheVariants.{Tier, Must, Wanted}
use Rattle.config_reader.specs.declared.kind.Version.{Version}
use Rattle.config_reader.specs.declared.kind.Version.TheVariants.{First, Second}

abbrev pub is_plain : TokenKind → Bool
is_plain Name = true
is_plain _ = false

abbrev pub is_number : TokenKind → Bool
is_number Number = true
is_number _ = false

-- a name, quoted or not, `!` or `(`: what a formula begins with
abbrev pub begins_formula : TokenKind → Bool
begins_formula Name = true
begins_formula Quoted = true
begins_formula (Mark Bang) = true
begins_formula (Mark OpenRound) = true
begins_formula _ = false

-- the token has these bytes
abbrev pub spells : List ℕ → List ℕ → Token → Bool
spells bytes word token = pointwise nat_eq (token_text bytes token) word

-- the token is this word without quotes
abbrev pub is_word : List ℕ → List ℕ → Token → Bool
is_word bytes word token = is_plain token.kind && spells bytes word token

-- exactly the name `version` and the number `2`
abbrev pub is_version_line : List ℕ → List Token → Bool
is_version_line bytes (first ∷ second ∷ []) = is_word bytes (codes "version") first && (is_number second.kind && spells bytes (codes "2") second)
is_version_line bytes _ = false

-- a file of version 2 says so in its first line
abbrev pub version_of : List ℕ → List Line → Version
version_of bytes [] = First
version_of bytes (line ∷ below) = if is_version_line bytes line.tokens then Second else First

-- the lines that are judged
abbrev pub judged : Version → List Line → List Line
judged First lines = lines
judged Second lines = drop 1 lines

-- What a line is, by its first two tokens: `tier` and then a number begin a tier line, `must` and then a token that may begin
-- a formula begin a must line. Any other line is a requirement line.
abbrev pub kind_by : List ℕ → Token → Token → Kind
kind_by bytes first second =
    if is_word bytes (codes "tier") first && is_number second.kind then Tier
    else if is_word bytes (codes "must") first && begins_formula second.kind then Must
    else Wanted

abbrev pub kind_of : List ℕ → List Token → Kind
kind_of bytes (first ∷ second ∷ after) = kind_by bytes first second
kind_of bytes _ = Wanted

-- in a file of version 1 every line is a requirement line
abbrev pub kind_in : Version → List ℕ → List Token → Kind
kind_in First bytes tokens = Wanted
kind_in Second bytes tokens = kind_of bytes tokens

-- TIERS

abbrev pub zero_digit : ℕ
zero_digit = 48

abbrev pub is_digit : ℕ → Bool
is_digit byte = nat_le 48 byte && nat_le byte 57

-- the number with these digits after its own, as 12 and `3` give 123; nothing where one is no digit
abbrev pub decimal_after : ℕ → List ℕ → Option ℕ
decimal_after number [] = Some number
decimal_after number (digit ∷ after) = if is_digit digit then decimal_after (number * 10 + (digit - zero_digit)) after else None

-- the number that 1 to 4 digits write of which the first is not 0, nothing otherwise
abbrev pub tier_of : List ℕ → Option ℕ
tier_of [] = None
tier_of (first ∷ after) = if first == zero_digit then None else (if nat_le (length after) 3 then decimal_after 0 (first ∷ after) else None)

-- the tier that a tier line of two tokens sets, nothing otherwise
abbrev pub tier_of_line : List ℕ → List Token → Option ℕ
tier_of_line bytes (first ∷ second ∷ []) = tier_of (token_text bytes second)
tier_of_line bytes _ = None
