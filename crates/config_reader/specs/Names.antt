-- Which features the tokens of a formula name.
use Rattle.std.specs.Prelude.{ℕ, ◌+◌, Bool, true, false, if◌then◌else◌, List, [], ◌∷◌, Option, Some}
use Rattle.std.specs.Option.{option_and_then, option_map}
use Rattle.name_table.specs.Numbers.{Numbers, number_of}
use Rattle.feature_tree.specs.declared.feature.Feature.{Feature}
use Rattle.uvl_lex.specs.declared.token.Token.{Token}
use Rattle.uvl_lex.specs.declared.token.TokenKind.{TokenKind}
use Rattle.uvl_lex.specs.declared.token.TokenKind.TheVariants.{Name, Quoted, Text, Number, Keyword, Mark}
use Rattle.uvl_lex.specs.Text.{token_text}

-- the names of features, of which the first has this number
abbrev pub names_from : ℕ → List Feature → Numbers
names_from number [] = []
names_from number (feature ∷ after) = (feature.name, number) ∷ names_from (number + 1) after

-- the names of a model's features
abbrev pub names_of : List Feature → Numbers
names_of features = names_from 0 features

-- a name, quoted or not
abbrev pub is_name : TokenKind → Bool
is_name Name = true
is_name Quoted = true
is_name Text = false
is_name Number = false
is_name (Keyword word) = false
is_name (Mark mark) = false

-- The number of the feature that the token names, if there is one. A token that is no name stands for no feature, and
-- has 0.
abbrev pub number_at : Numbers → List ℕ → Token → Option ℕ
number_at names bytes token = if is_name token.kind then number_of names (token_text bytes token) else Some 0

-- the number for each token, nothing where some name is no feature
abbrev pub numbers : Numbers → List ℕ → List Token → Option (List ℕ)
numbers names bytes [] = Some []
numbers names bytes (token ∷ after) =
    option_and_then (λ number. option_map (λ others. number ∷ others) (numbers names bytes after)) (number_at names bytes token)
