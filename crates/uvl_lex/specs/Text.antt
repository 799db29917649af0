-- The text of a token.
use Rattle.std.specs.Prelude.{ℕ, ◌+◌, ◌*◌, ◌-◌, ◌≤◌, List, length, take, drop}
use Rattle.uvl_lex.specs.declared.token.Token.{Token}
use Rattle.uvl_lex.specs.declared.token.TokenKind.{TokenKind}
use Rattle.uvl_lex.specs.declared.token.TokenKind.TheVariants.{Name, Quoted, Text, Number, Keyword, Mark}

-- how many quotes stand at each end of a token of this kind
abbrev pub quotes : TokenKind → ℕ
quotes Name = 0
quotes Quoted = 1
quotes Text = 1
quotes Number = 0
quotes (Keyword word) = 0
quotes (Mark mark) = 0

-- the token's span lies in the bytes and has room for its quotes
pub record IsSpanOf (bytes : List ℕ) (token : Token) : Type 0 where
  pub quoted : token.start + 2 * quotes token.kind ≤ token.end
  pub inside : token.end ≤ length bytes

-- the bytes of the span, without the quotes
abbrev pub token_text : List ℕ → Token → List ℕ
token_text bytes token =
    let from = token.start + quotes token.kind in
    take (token.end - quotes token.kind - from) (drop from bytes)
