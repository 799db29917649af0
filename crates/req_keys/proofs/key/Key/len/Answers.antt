use Rattle.std.proofs.Common.{◌∙◌, List, ℕ, ap, length}
use Rattle.req_keys.proofs.RowLaws.{shown_by, shown_by-members}
use Rattle.req_keys.proofs.KeyRowLaws.{few_words}
use Rattle.req_keys.proofs.key.Key.len.Goals as goal

pub count-requires : goal.count-requires
count-requires c = rw c.deref.ensures.value (few_words c.self.inside.n c.self.inside.words.items c.self.invariant)

pub returns : goal.returns
returns c =
    rw (← c.self.view_is)
    (c.count.ensures
    ∙ ap (λ (t : List ℕ). length (shown_by t (length t))) c.deref.ensures.value
    ∙ ap length (shown_by-members c.self.inside.n c.self.inside.words.items c.self.invariant))
