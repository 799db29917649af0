-- The formulas in a feature's attributes. Attributes are UVL's; that all but constraints are passed over is own.
use Rattle.std.specs.Prelude.{ℕ, zero, Bool, true, false, if◌then◌else◌, List, [], ◌∷◌, Option, Some, None, codes}
use Rattle.std.specs.Str.{bytes_eq}
use Rattle.uvl_lex.specs.declared.token.Token.{Token}
use Rattle.uvl_lex.specs.declared.token.TokenKind.{TokenKind}
use Rattle.uvl_lex.specs.declared.token.TokenKind.TheVariants.{Name, Keyword, Mark}
use Rattle.uvl_lex.specs.declared.token.Keyword.TheVariants.{Constraints}
use Rattle.uvl_lex.specs.declared.token.Mark.TheVariants.{Comma}
use Rattle.uvl_lex.specs.Text.{token_text}
use Rattle.uvl_reader.specs.Shapes.{open_after, enclosed, opens_square}

abbrev pub is_comma : ℕ → TokenKind → Bool
is_comma zero (Mark Comma) = true
is_comma _ _ = false

-- the first item, and the others
abbrev pub Items : Type 0
Items = List Token × List (List Token)

abbrev pub with_token : Bool → Token → Items → Items
with_token true token items = ([], items.0 ∷ items.1)
with_token false token items = (token ∷ items.0, items.1)

-- the tokens cut at the commas outside all brackets, where so many are open before them
abbrev pub cut_at_commas : ℕ → List Token → Items
cut_at_commas depth [] = ([], [])
cut_at_commas depth (token ∷ tokens) =
    with_token (is_comma depth token.kind) token (cut_at_commas (open_after depth token.kind) tokens)

-- the items; no tokens are one empty item
abbrev pub items_of : List Token → List (List Token)
items_of tokens = let items = cut_at_commas 0 tokens in items.0 ∷ items.1

-- the lists of tokens that are to be formulas; nothing where an item has a wrong form
abbrev pub Formulas : Type 0
Formulas = Option (List (List Token))

-- no list for empty brackets, else one for each item between them
abbrev pub listed : List Token → List (List Token)
listed [] = []
listed (token ∷ tokens) = items_of (token ∷ tokens)

abbrev pub listed_if : Option (List Token) → Formulas
listed_if None = None
listed_if (Some inside) = Some (listed inside)

-- after `constraints` one pair of square brackets goes to the end of the item
abbrev pub bracketed : List Token → Formulas
bracketed [] = None
bracketed (left ∷ tokens) = if opens_square left.kind then listed_if (enclosed 1 tokens) else None

-- an item that begins with the name `constraint` gives the rest as a formula, one that begins with the word `constraints` a list
-- of formulas, and every other item none
abbrev pub formulas_behind : List ℕ → TokenKind → List Token → Formulas
formulas_behind text Name tokens = if bytes_eq text (codes "constraint") then Some (tokens ∷ []) else Some []
formulas_behind text (Keyword Constraints) tokens = bracketed tokens
formulas_behind text kind tokens = Some []

abbrev pub formulas_of_item : List ℕ → List Token → Formulas
formulas_of_item bytes [] = Some []
formulas_of_item bytes (token ∷ tokens) = formulas_behind (token_text bytes token) token.kind tokens
