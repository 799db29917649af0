use Rattle.std.proofs.Common.{◌≡◌, ◌++◌, drop}
use Rattle.config_reader.specs.Texts.{text, text_after}
use Rattle.config_reader.proofs.texts.text_of_tokens.Given as goal

abbrev pub invariant-loop-token : goal.invariant-loop-token
invariant-loop-token l = text l.bytes l.tokens ≡ l.out.items ++ text_after l.bytes l.end (drop l.token-index l.tokens)
