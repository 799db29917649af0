-- The reserved words and the marks. Own to this project.
use Rattle.std.specs.Prelude.{ℕ, ◌==◌, Bool, true, false, ◌&&◌, if◌then◌else◌, List, [], ◌∷◌, length, Option, Some, None, codes}
use Rattle.std.specs.Str.{bytes_eq}
use Rattle.uvl_lex.specs.declared.token.Keyword.{Keyword}
use Rattle.uvl_lex.specs.declared.token.Keyword.TheVariants.{Namespace, Include, Imports, Features, Constraints, Mandatory, Optional, Or, Alternative, Cardinality, Boolean, Integer, Real, String, True, False}
use Rattle.uvl_lex.specs.declared.token.Mark.{Mark}
use Rattle.uvl_lex.specs.declared.token.Mark.TheVariants.{Iff, Then, Equal, Unequal, AtMost, AtLeast, Dots, Bang, Amp, Bar, OpenRound, CloseRound, OpenSquare, CloseSquare, OpenCurly, CloseCurly, Comma, Dot, Star, Plus, Minus, Slash, Less, Greater, Assign, Colon, Semicolon}

abbrev pub spelling : Keyword → List ℕ
spelling Namespace = codes "namespace"
spelling Include = codes "include"
spelling Imports = codes "imports"
spelling Features = codes "features"
spelling Constraints = codes "constraints"
spelling Mandatory = codes "mandatory"
spelling Optional = codes "optional"
spelling Or = codes "or"
spelling Alternative = codes "alternative"
spelling Cardinality = codes "cardinality"
spelling Boolean = codes "Boolean"
spelling Integer = codes "Integer"
spelling Real = codes "Real"
spelling String = codes "String"
spelling True = codes "true"
spelling False = codes "false"

abbrev pub keywords : List Keyword
keywords =
    Namespace ∷ Include ∷ Imports ∷ Features ∷ Constraints ∷ Mandatory ∷ Optional ∷ Or ∷ Alternative ∷ Cardinality
    ∷ Boolean ∷ Integer ∷ Real ∷ String ∷ True ∷ False ∷ []

-- the first of these keywords that the whole text spells
abbrev pub spelled : List ℕ → List Keyword → Option Keyword
spelled text [] = None
spelled text (word ∷ words) = if bytes_eq (spelling word) text then Some word else spelled text words

unfoldable pub keyword_of : List ℕ → Option Keyword
keyword_of text = spelled text keywords

abbrev pub marks : List (List ℕ × Mark)
marks =
    (codes "<=>", Iff) ∷ (codes "=>", Then) ∷ (codes "==", Equal) ∷ (codes "!=", Unequal) ∷ (codes "<=", AtMost) ∷ (codes ">=", AtLeast)
    ∷ (codes "..", Dots) ∷ (codes "!", Bang) ∷ (codes "&", Amp) ∷ (codes "|", Bar) ∷ (codes "(", OpenRound) ∷ (codes ")", CloseRound)
    ∷ (codes "[", OpenSquare) ∷ (codes "]", CloseSquare) ∷ (codes "{", OpenCurly) ∷ (codes "}", CloseCurly) ∷ (codes ",", Comma)
    ∷ (codes ".", Dot) ∷ (codes "*", Star) ∷ (codes "+", Plus) ∷ (codes "-", Minus) ∷ (codes "/", Slash) ∷ (codes "<", Less)
    ∷ (codes ">", Greater) ∷ (codes "=", Assign) ∷ (codes ":", Colon) ∷ (codes ";", Semicolon) ∷ []

-- the text begins with these characters
abbrev pub begins : List ℕ → List ℕ → Bool
begins cs [] = true
begins [] (k ∷ ks) = false
begins (c ∷ cs) (k ∷ ks) = c == k && begins cs ks

-- how many characters the mark takes at the start of the text, 0 where it does not stand there
abbrev pub mark_len : List ℕ → List ℕ → ℕ
mark_len mark cs = if begins cs mark then length mark else 0
