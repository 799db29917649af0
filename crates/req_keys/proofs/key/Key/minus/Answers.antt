use Rattle.std.proofs.Common.{◌≡◌, ℕ, List, ap}
use Rattle.req_keys.specs.inside.Rows.{IsRow}
use Rattle.req_keys.specs.Key.{PositionSet}
use Rattle.req_keys.proofs.KeyRowLaws.{same_n, row_over, same_length, minus-row, minus-shown}
use Rattle.req_keys.proofs.key.Key.minus.Goals as goal

pub difference-requires : goal.difference-requires
difference-requires c =
    same_length _ _ c.self.inside.words.items c.other.inside.words.items _ _ c.deref.ensures.value c.deref-2.ensures.value
    (same_n _ _ c.self.inside.words.items c.other.inside.words.items _ _ c.self.view_is c.other.view_is c.requires) c.self.invariant c.other.invariant

one : (c : goal.In_ok-words) → c.other.inside.n ≡ c.self.inside.n
one c = same_n _ _ c.self.inside.words.items c.other.inside.words.items _ _ c.self.view_is c.other.view_is c.requires

is_other : (c : goal.In_ok-words) → IsRow c.self.inside.n c.other.inside.words.items
is_other c = row_over c.self.inside.n _ c.other.inside.words.items (one c) c.other.invariant

pub invariant_of-result : goal.invariant_of-result
invariant_of-result c =
    minus-row c.self.inside.n c.self.inside.words.items c.other.inside.words.items c.self.invariant (is_other c) c.in_ok-words.words.items
    (rw (c.deref.ensures.value, c.deref-2.ensures.value) at c.in_ok-words.ensures)

pub returns : goal.returns
returns c =
    let P : List ℕ → PositionSet = λ t. record { n = c.self.inside.n; members = t } in
    rw (← c.self.view_is, ← c.other.view_is, one c)
    (ap P (minus-shown c.self.inside.n c.self.inside.words.items c.other.inside.words.items c.self.invariant (is_other c) c.in_ok-words.words.items
    (rw (c.deref.ensures.value, c.deref-2.ensures.value) at c.in_ok-words.ensures)))
