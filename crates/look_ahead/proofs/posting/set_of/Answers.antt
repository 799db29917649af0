use Rattle.std.proofs.Common.{◌≡◌, ◌<◌, length, get_or, sym, subst, arith}
use Rattle.lists.specs.Distinct.{IsDistinct}
use Rattle.look_ahead.proofs.LiveEntries.{key-more}
use Rattle.look_ahead.proofs.posting.set_of.Goals as goal

pub keys-preserved : goal.keys-preserved
keys-preserved c =
    let items = c.as_slice-key-items.result.now in
    let i = c.keys.key-index in
    let key = c.in_ok-key.key in
    let within : i < length items = omega arith in
    let is : key ≡ get_or items i key = subst (λ k. k ≡ get_or items i k) (sym c.in_ok-key.ensures) c.key-item.is in
    let apart : IsDistinct items = subst IsDistinct (sym c.as_slice-key-items.ensures) c.requires in
    key-more items i key c.keys.set.keys c.insert.new.self.keys c.keys.invariant within is apart c.in_ok-insert.ensures.keys
