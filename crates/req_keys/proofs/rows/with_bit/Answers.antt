use Rattle.std.proofs.Common.{◌≡◌, ◌*◌, ◌/◌, ◌%◌, ◌^◌, ◌<◌, ◌||◌, List, ℕ, ◌∙◌, ap, get_or, set, length, bit_or, arith}
use Rattle.std.proofs.lemmas.Grind.{get_or_default_zero}
use Rattle.std.specs.Prelude.{◌==◌}
use Rattle.req_keys.specs.Words.{bit_of}
use Rattle.req_keys.specs.inside.Rows.{HasBits}
use Rattle.req_keys.proofs.RowLaws.{with_bit-row}
use Rattle.req_keys.proofs.rows.with_bit.Goals as goal

written : (words copy : List ℕ) (bit old : ℕ) → bit < 64 * length words → copy ≡ words → bit < 64 * length copy → old ≡ get_or copy (bit / 64) old → HasBits (set copy (bit / 64) (bit_or old (1 * 2 ^ (bit % 64) % 2 ^ 64))) (length words) (λ i. bit_of words i || (bit == i))
written words copy bit old l e in_copy f =
    let at : old ≡ get_or words (bit / 64) 0 = f ∙ get_or_default_zero copy (bit / 64) old (omega arith) ∙ ap (λ t. get_or t (bit / 64) 0) e in
    rw (at, e) (with_bit-row words bit l)

pub returns : goal.returns
returns c = written c.args.words.now c.in_ok-all.all.items c.args.bit c.index_mut.result.now c.requires c.in_ok-all.ensures.items (rw c.in_ok-all.ensures.items c.requires) c.index_mut.ensures.value
