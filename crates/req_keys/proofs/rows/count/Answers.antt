use Rattle.std.proofs.Math.Facts.{Fits-lt-pow}
use Rattle.std.proofs.Common.{ℕ, List, ◌<◌, ◌^◌, ◌≡◌, ◌+◌, ◌*◌, ◌∙◌, sym, ap, length, get_or, count_ones, arith}
use Rattle.std.proofs.lemmas.List.{length-append}
use Rattle.req_keys.specs.inside.Rows.{positions_to}
use Rattle.req_keys.proofs.RowLaws.{count-word, shown_by, shown_by-more, shown_by-few}
use Rattle.req_keys.proofs.rows.count.Goals as goal

one_more : (words : List ℕ) (total j : ℕ) → get_or words j 0 < 2 ^ 64 → total ≡ length (shown_by words j) → total + count_ones (get_or words j 0) ≡ length (shown_by words (j + 1))
one_more words total j fits e =
    let more : List ℕ = positions_to (64 * j + 1) (get_or words j 0) 64 in
    ap (λ n. n + count_ones (get_or words j 0)) e
    ∙ ap (λ n. length (shown_by words j) + n) (count-word (get_or words j 0) (64 * j + 1) fits)
    ∙ sym (length-append (shown_by words j) more) ∙ ap length (sym (shown_by-more words j))

pub overflow_add-total : goal.overflow_add-total
overflow_add-total c =
    let sum = one_more c.args.words.now c.loop-word.total c.loop-word.word-index (Fits-lt-pow (c.type_inv.words c.loop-word.word-index)) c.loop-word.invariant in
    let few = shown_by-few c.args.words.now (c.loop-word.word-index + 1) in
    omega (arith, sum, few, c.requires)

pub loop-word-preserved : goal.loop-word-preserved
loop-word-preserved c = one_more c.args.words.now c.loop-word.total c.loop-word.word-index (Fits-lt-pow (c.type_inv.words c.loop-word.word-index)) c.loop-word.invariant
