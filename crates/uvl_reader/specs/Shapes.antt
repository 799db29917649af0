-- What stands on a group line and on a feature line (UVL; the meaning of the short forms of a cardinality is own).
use Rattle.std.specs.Prelude.{ℕ, suc, ◌+◌, ◌-◌, ◌*◌, ◌==◌, ◌&&◌, ◌||◌, nat_le, Bool, true, false, if◌then◌else◌, fold, List, [], ◌∷◌, length, Option, Some, None}
use Rattle.std.specs.List.{list_all}
use Rattle.std.specs.Option.{option_and_then, option_map}
use Rattle.feature_tree.specs.declared.group.GroupKind.{GroupKind}
use Rattle.feature_tree.specs.declared.group.GroupKind.TheVariants as group
use Rattle.uvl_lex.specs.declared.token.Token.{Token}
use Rattle.uvl_lex.specs.declared.token.TokenKind.{TokenKind}
use Rattle.uvl_lex.specs.declared.token.TokenKind.TheVariants.{Name, Quoted, Number, Keyword, Mark}
use Rattle.uvl_lex.specs.declared.token.Keyword.TheVariants as word
use Rattle.uvl_lex.specs.declared.token.Mark.TheVariants.{Dots, Dot, Star, OpenRound, CloseRound, OpenSquare, CloseSquare, OpenCurly, CloseCurly}
use Rattle.uvl_lex.specs.Text.{token_text}
use Rattle.uvl_reader.specs.declared.header.Header.{Header}

-- ---- a number of a cardinality: one to nine digits

abbrev pub is_digit : ℕ → Bool
is_digit byte = nat_le 48 byte && nat_le byte 57

abbrev pub value_of : List ℕ → ℕ
value_of digits = fold (λ value digit. 10 * value + (digit - 48)) 0 digits

abbrev pub bound_of_digits : List ℕ → Option ℕ
bound_of_digits digits =
    if nat_le 1 (length digits) && nat_le (length digits) 9 && list_all is_digit digits then Some (value_of digits) else None

abbrev pub bound_by : TokenKind → List ℕ → Option ℕ
bound_by Number text = bound_of_digits text
bound_by _ text = None

abbrev pub bound_of : List ℕ → Token → Option ℕ
bound_of bytes token = bound_by token.kind (token_text bytes token)

-- ---- group lines

abbrev pub plain : GroupKind → Header
plain kind = record { kind = kind; low = 0; high = None }

abbrev pub range : ℕ → Option ℕ → Header
range low high = record { kind = group.Range; low = low; high = high }

-- a range whose least number is above its greatest is no group
abbrev pub range_if : ℕ → ℕ → Option Header
range_if low high = if nat_le low high then Some (range low (Some high)) else None

abbrev pub header_of_word : TokenKind → Option Header
header_of_word (Keyword word.Mandatory) = Some (plain group.Mandatory)
header_of_word (Keyword word.Optional) = Some (plain group.Optional)
header_of_word (Keyword word.Or) = Some (plain group.Or)
header_of_word (Keyword word.Alternative) = Some (plain group.Alternative)
header_of_word _ = None

-- `[n]`, and `[*]`
abbrev pub header_of_one : List ℕ → Token → TokenKind → Option Header
header_of_one bytes token (Mark Star) = Some (range 0 None)
header_of_one bytes token kind = option_and_then (λ n. range_if n n) (bound_of bytes token)

-- `[n..m]`, and `[n..*]`
abbrev pub header_of_two : List ℕ → Token → Token → TokenKind → Option Header
header_of_two bytes low high (Mark Star) = option_map (λ n. range n None) (bound_of bytes low)
header_of_two bytes low high kind = option_and_then (λ n. option_and_then (range_if n) (bound_of bytes high)) (bound_of bytes low)

abbrev pub opens_square : TokenKind → Bool
opens_square (Mark OpenSquare) = true
opens_square _ = false

abbrev pub closes_square : TokenKind → Bool
closes_square (Mark CloseSquare) = true
closes_square _ = false

abbrev pub is_dots : TokenKind → Bool
is_dots (Mark Dots) = true
is_dots _ = false

-- what a group line with these tokens says, if it is one
abbrev pub header_of : List ℕ → List Token → Option Header
header_of bytes (word ∷ []) = header_of_word word.kind
header_of bytes (left ∷ n ∷ right ∷ []) =
    if opens_square left.kind && closes_square right.kind then header_of_one bytes n n.kind else None
header_of bytes (left ∷ n ∷ dots ∷ m ∷ right ∷ []) =
    if opens_square left.kind && is_dots dots.kind && closes_square right.kind then header_of_two bytes n m m.kind else None
header_of bytes tokens = None

-- ---- feature lines

-- what a feature line says: the token of its name, and the tokens between its braces
pub record FeatureShape : Type 0 where
  pub name : Token
  pub attributes : List Token

abbrev pub is_name : TokenKind → Bool
is_name Name = true
is_name Quoted = true
is_name _ = false

abbrev pub opens_curly : TokenKind → Bool
opens_curly (Mark OpenCurly) = true
opens_curly _ = false

-- how many brackets are open after a token; brackets are in order, since the text was read
abbrev pub open_after : ℕ → TokenKind → ℕ
open_after depth (Mark OpenRound) = suc depth
open_after depth (Mark OpenSquare) = suc depth
open_after depth (Mark OpenCurly) = suc depth
open_after (suc depth) (Mark CloseRound) = depth
open_after (suc depth) (Mark CloseSquare) = depth
open_after (suc depth) (Mark CloseCurly) = depth
open_after depth _ = depth

-- where so many brackets are open: the tokens before the last one, if it is the one that closes them all
abbrev pub enclosed : ℕ → List Token → Option (List Token)
enclosed depth [] = None
enclosed depth (token ∷ []) = if open_after depth token.kind == 0 then Some [] else None
enclosed depth (token ∷ next ∷ tokens) =
    if open_after depth token.kind == 0 then None
    else option_map (λ inside. token ∷ inside) (enclosed (open_after depth token.kind) (next ∷ tokens))

-- nothing behind the name, or one pair of braces to the end
abbrev pub attributes_of : List Token → Option (List Token)
attributes_of [] = Some []
attributes_of (left ∷ tokens) = if opens_curly left.kind then enclosed 1 tokens else None

abbrev pub is_boolean : TokenKind → Bool
is_boolean (Keyword word.Boolean) = true
is_boolean _ = false

-- the tokens behind the word `Boolean`, which may be left out
abbrev pub untyped : List Token → List Token
untyped [] = []
untyped (token ∷ tokens) = if is_boolean token.kind then tokens else token ∷ tokens

abbrev pub feature_by : List Token → Option FeatureShape
feature_by [] = None
feature_by (name ∷ tokens) =
    if is_name name.kind then option_map (λ inside. record { name = name; attributes = inside }) (attributes_of tokens) else None

abbrev pub feature_of : List Token → Option FeatureShape
feature_of tokens = feature_by (untyped tokens)

-- ---- what UVL has and this level hasn't

abbrev pub is_other_type : TokenKind → Bool
is_other_type (Keyword word.Integer) = true
is_other_type (Keyword word.Real) = true
is_other_type (Keyword word.String) = true
is_other_type _ = false

abbrev pub is_beyond : TokenKind → Bool
is_beyond (Keyword word.Cardinality) = true
is_beyond (Mark Dot) = true
is_beyond _ = false

-- a name is followed by the word `cardinality` or by a dot
abbrev pub goes_beyond : List Token → Bool
goes_beyond (name ∷ next ∷ tokens) = is_name name.kind && is_beyond next.kind
goes_beyond tokens = false

abbrev pub has_other_type : List Token → Bool
has_other_type [] = false
has_other_type (token ∷ tokens) = is_other_type token.kind

abbrev pub is_unsupported : List Token → Bool
is_unsupported tokens = has_other_type tokens || goes_beyond (untyped tokens)
