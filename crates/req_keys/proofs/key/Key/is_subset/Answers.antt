use Rattle.std.proofs.Common.{◌≡◌, ◌*◌, ℕ, List, length}
use Rattle.req_keys.specs.inside.Rows.{IsRow, AreWithin}
use Rattle.req_keys.proofs.KeyRowLaws.{same_n, row_over, same_length, subset-true, subset-from, same_tests}
use Rattle.req_keys.proofs.key.Key.is_subset.Goals as goal

pub is_within-requires : goal.is_within-requires
is_within-requires c =
    same_length _ _ c.self.inside.words.items c.other.inside.words.items _ _ c.deref.ensures.value c.deref-2.ensures.value
    (same_n _ _ c.self.inside.words.items c.other.inside.words.items _ _ c.self.view_is c.other.view_is c.requires) c.self.invariant c.other.invariant

pub returns : goal.returns
returns c =
    let n : ℕ = c.self.inside.n in
    let a : List ℕ = c.self.inside.words.items in
    let b : List ℕ = c.other.inside.words.items in
    let one : c.other.inside.n ≡ n = same_n n _ a b _ _ c.self.view_is c.other.view_is c.requires in
    let is_b : IsRow n b = row_over n _ b one c.other.invariant in
    rw (← c.self.view_is, ← c.other.view_is, one)
    (same_tests c.is_within.result _ (AreWithin (64 * length a) a b) (rw (c.deref.ensures.value, c.deref-2.ensures.value) at c.is_within.ensures) (subset-true n a b c.self.invariant is_b) (subset-from n a b c.self.invariant is_b))
