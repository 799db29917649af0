use Rattle.std.proofs.Common.{◌≡◌, ℕ, List, false, ap, sym, ◌∙◌, subst}
use Rattle.std.specs.Str.{bytes_eq}
use Rattle.uvl_lex.specs.inside.Classes.{words_of_len}
use Rattle.uvl_lex.specs.Words.{keyword_of, keywords, spelled}
use Rattle.uvl_lex.proofs.WordLemmas.{spelled_past, spelled_of_len}
use Rattle.uvl_lex.proofs.word.keyword_of.Goals as goal

pub loop-keyword-init : goal.loop-keyword-init
unfolding keyword_of words_of_len
loop-keyword-init c = spelled_of_len c.args.text.now keywords ∙ ap (spelled c.args.text.now) (sym c.words_of_len-keyword-items.ensures)

pub loop-keyword-preserved : goal.loop-keyword-preserved
loop-keyword-preserved c =
    c.loop-keyword.invariant
    ∙ spelled_past c.args.text.now _ c.loop-keyword.keyword-index _ c.loop-keyword-test.true
    (subst (λ (word : List ℕ). bytes_eq word c.args.text.now ≡ false) c.spelling.ensures (sym c.eq.ensures ∙ c.if-eq.false))
