use Rattle.std.proofs.Common.{◌≡◌, ◌<◌, ◌∙◌, ℕ, List, ap, get_or}
use Rattle.req_keys.specs.Key.{PositionSet}
use Rattle.req_keys.specs.Words.{word_of, word_count}
use Rattle.req_keys.proofs.WordLaws.{word-of_row, bit_at-bits_where, IsBitSet-from_bit_at}
use Rattle.req_keys.proofs.key.Key.word.Goals as goal

pub word_at-requires : goal.word_at-requires
word_at-requires c =
    let number : PositionSet → ℕ = λ key. key.n in
    rw (c.deref.ensures.value, c.self.invariant.over.0, ap number c.self.view_is) c.requires

value : (c : goal.After-word_at) → c.word_at.result ≡ word_of c.args.self.now c.args.j
value c =
    let number : PositionSet → ℕ = λ key. key.n in
    let within : c.args.j < word_count c.self.inside.n = rw (ap number c.self.view_is) c.requires in
    let is : c.word_at.result ≡ get_or c.self.inside.words.items c.args.j 0 = c.word_at.ensures ∙ ap (λ (t : List ℕ). get_or t c.args.j 0) c.deref.ensures.value in
    rw (← c.self.view_is) (is ∙ word-of_row c.self.inside.n c.self.inside.words.items c.self.invariant.over c.args.j (rw (← is) c.word_at.type_inv) within)

pub returns-clause-value : goal.returns-clause-value
returns-clause-value c = value c

pub returns-clause-bits : goal.returns-clause-bits
returns-clause-bits c = λ b l. IsBitSet-from_bit_at c.word_at.result b _ (rw (value c) (bit_at-bits_where _ 64 b l))
