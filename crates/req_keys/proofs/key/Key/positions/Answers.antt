use Rattle.std.proofs.Common.{◌∙◌, ◌≡◌, List, ℕ, ap, length}
use Rattle.req_keys.proofs.RowLaws.{shown_by, shown_by-members}
use Rattle.req_keys.proofs.KeyRowLaws.{shown, few_words}
use Rattle.req_keys.proofs.key.Key.positions.Goals as goal

pub positions-requires : goal.positions-requires
positions-requires c = rw c.deref.ensures.value (few_words c.self.inside.n c.self.inside.words.items c.self.invariant)

pub returns : goal.returns
returns c =
    let whole : shown_by c.deref.result.now (length c.deref.result.now) ≡ shown c.self.inside.n c.self.inside.words.items =
    ap (λ (t : List ℕ). shown_by t (length t)) c.deref.ensures.value ∙ shown_by-members c.self.inside.n c.self.inside.words.items c.self.invariant in
    rw (← c.self.view_is, ← whole) c.positions.ensures
