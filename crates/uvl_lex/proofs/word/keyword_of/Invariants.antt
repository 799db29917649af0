use Rattle.std.proofs.Common.{◌≡◌, drop}
use Rattle.uvl_lex.specs.Words.{keyword_of, spelled}
use Rattle.uvl_lex.proofs.word.keyword_of.Given as goal

-- the keywords that have been passed are not the text
abbrev pub invariant-loop-keyword : goal.invariant-loop-keyword
invariant-loop-keyword l = keyword_of l.text ≡ spelled l.text (drop l.keyword-index l.keyword-items)
