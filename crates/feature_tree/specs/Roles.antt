-- What the tokens are to a formula. The grammar sees no more of a token than its role.
use Rattle.std.specs.Prelude.{Bool, true, false, List, [], ◌∷◌, map}
use Rattle.uvl_lex.specs.declared.token.Keyword.TheVariants.{True, False}
use Rattle.uvl_lex.specs.declared.token.Mark.{Mark}
use Rattle.uvl_lex.specs.declared.token.Mark.TheVariants.{Iff, Then, Equal, Unequal, AtMost, AtLeast, Dots, Bang, Amp, Bar, OpenRound, CloseRound, OpenSquare, CloseSquare, OpenCurly, CloseCurly, Comma, Dot, Star, Plus, Minus, Slash, Less, Greater, Assign, Colon, Semicolon}
use Rattle.uvl_lex.specs.declared.token.Token.{Token}
use Rattle.uvl_lex.specs.declared.token.TokenKind.{TokenKind}
use Rattle.uvl_lex.specs.declared.token.TokenKind.TheVariants.{Name as NameToken, Quoted, Text, Number, Keyword, Mark as MarkToken}
use Rattle.feature_tree.specs.declared.reader.role.Level.{Level}
use Rattle.feature_tree.specs.declared.reader.role.Level.TheVariants.{Same, Implies, Any, All}
use Rattle.feature_tree.specs.declared.reader.role.Role.{Role}
use Rattle.feature_tree.specs.declared.reader.role.Role.TheVariants.{Name, Not, Joins, Opens, Closes, Unsupported, Other}

abbrev pub role_of_mark : Mark → Role
role_of_mark Iff = Joins Same
role_of_mark Then = Joins Implies
role_of_mark Bar = Joins Any
role_of_mark Amp = Joins All
role_of_mark Bang = Not
role_of_mark OpenRound = Opens
role_of_mark CloseRound = Closes
role_of_mark Dot = Unsupported
role_of_mark Plus = Unsupported
role_of_mark Minus = Unsupported
role_of_mark Star = Unsupported
role_of_mark Slash = Unsupported
role_of_mark Less = Unsupported
role_of_mark Greater = Unsupported
role_of_mark AtMost = Unsupported
role_of_mark AtLeast = Unsupported
role_of_mark Equal = Unsupported
role_of_mark Unequal = Unsupported
role_of_mark Assign = Unsupported
role_of_mark Dots = Other
role_of_mark OpenSquare = Other
role_of_mark CloseSquare = Other
role_of_mark OpenCurly = Other
role_of_mark CloseCurly = Other
role_of_mark Comma = Other
role_of_mark Colon = Other
role_of_mark Semicolon = Other

abbrev pub role_of : TokenKind → Role
role_of NameToken = Name
role_of Quoted = Name
role_of Text = Unsupported
role_of Number = Unsupported
role_of (Keyword True) = Unsupported
role_of (Keyword False) = Unsupported
role_of (Keyword _) = Other
role_of (MarkToken mark) = role_of_mark mark

abbrev pub roles_of : List Token → List Role
roles_of tokens = map (λ token. role_of token.kind) tokens

-- whether the token joins members of a chain of this level
abbrev pub joins : Level → Role → Bool
joins Same (Joins Same) = true
joins Implies (Joins Implies) = true
joins Any (Joins Any) = true
joins All (Joins All) = true
joins _ _ = false

-- Whether some token is one that no formula has yet, or a name whose next token opens a parenthesis, as in a call.
abbrev pub has_unsupported : List Role → Bool
has_unsupported [] = false
has_unsupported (Unsupported ∷ after) = true
has_unsupported (Name ∷ Opens ∷ after) = true
has_unsupported (role ∷ after) = has_unsupported after
