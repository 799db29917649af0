use Rattle.std.proofs.Common.{ℕ, ◌≡◌, ◌+◌, ◌*◌, ◌<◌, List, length, get_or, sym, arith}
use Rattle.std.specs.declared.cmp.Ordering.{Ordering}
use Rattle.std.specs.declared.cmp.Ordering.TheVariants.{Less, Equal, Greater}
use Rattle.std.proofs.lemmas.Grind.{same_number_lists}
use Rattle.req_keys.specs.inside.Rows.{SaysOrder, SaysWordOrder}
use Rattle.req_keys.proofs.RowLaws.{IsInSecond-at}
use Rattle.req_keys.proofs.rows.compare.Goals as goal

-- the order of two words that differ is that of their rows, if the words before are the same
at_word : (first second : List ℕ) (j : ℕ) (order : Ordering) → length first ≡ length second → j < length first → ((k : ℕ) → k < j → get_or first k 0 ≡ get_or second k 0) → SaysWordOrder (get_or first j 0) (get_or second j 0) order → SaysOrder first second order
at_word first second j Less e l same h = (64 * j + h.0, IsInSecond-at first second j h.0 l same h.1)
at_word first second j Equal e l same h = absurd h
at_word first second j Greater e l same h = (64 * j + h.0, IsInSecond-at second first j h.0 (omega arith) (λ k u. sym (same k u)) h.1)

pub returns-then-first-j : goal.returns-then-first-j
returns-then-first-j c = at_word c.args.first.now c.args.second.now c.loop-j.j c.word_order.result c.requires c.loop-j-test.true c.loop-j.invariant c.word_order.ensures

pub returns : goal.returns
returns c = same_number_lists c.args.first.now c.args.second.now c.requires (λ k l. c.loop-j.invariant k (omega arith))
