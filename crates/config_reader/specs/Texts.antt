-- The text of a requirement: the bytes of its tokens, quotes included. Two tokens that are apart in the file have one blank
-- between them, two that touch have none. Own to this project.
use Rattle.std.specs.Prelude.{ℕ, ◌-◌, ◌==◌, if◌then◌else◌, List, [], ◌∷◌, ◌++◌, take, drop}
use Rattle.uvl_lex.specs.declared.token.Token.{Token}

-- the bytes of one token
abbrev pub span : List ℕ → Token → List ℕ
span bytes token = take (token.end - token.start) (drop token.start bytes)

abbrev pub blank : ℕ
blank = 32

-- what goes before a token where the one before it ended at this byte
abbrev pub gap : ℕ → Token → List ℕ
gap end token = if end == token.start then [] else blank ∷ []

-- the text of tokens where the one before them ended at this byte
abbrev pub text_after : List ℕ → ℕ → List Token → List ℕ
text_after bytes end [] = []
text_after bytes end (token ∷ after) = gap end token ++ span bytes token ++ text_after bytes token.end after

-- where the first token begins
abbrev pub beginning : List Token → ℕ
beginning [] = 0
beginning (token ∷ after) = token.start

-- the text of tokens: nothing goes before the first
abbrev pub text : List ℕ → List Token → List ℕ
text bytes tokens = text_after bytes (beginning tokens) tokens
