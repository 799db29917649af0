use Rattle.std.proofs.Common.{sym, subst, ◌≤◌, ℕ, length, get_or, arith}
use Rattle.std.specs.Prelude.{codes}
use Rattle.req_keys.specs.Positions.{RiseWithin}
use Rattle.certificate.proofs.ProductLaws.{read-rising, list-in-range, empty-set}
use Rattle.certificate.proofs.products.read_product.Goals as goal

rise : (c : goal.After-as_slice) → RiseWithin 0 (length c.args.set.now) c.as_slice.result.now
rise c =
    subst (RiseWithin 0 (length c.args.set.now)) (sym c.as_slice.ensures)
    (subst (λ (count : ℕ). RiseWithin 0 count c.read_list.new.numbers) c.requires
    (read-rising c.args.count (codes "product") c.args.line.now c.read_list.new.numbers c.in_ok-read_list.field-0 c.in_ok-read_list.ensures c.if-not-branch.false))

pub put-requires-clause-within : goal.put-requires-clause-within
put-requires-clause-within c = λ k d inside.
    subst (λ n. get_or c.as_slice.result.now k d ≤ n) (sym c.fill.ensures.len) (list-in-range 0 (length c.args.set.now) c.as_slice.result.now (rise c) k d inside).1

pub put-requires-clause-counted : goal.put-requires-clause-counted
put-requires-clause-counted c = λ k d inside.
    let above = (list-in-range 0 (length c.args.set.now) c.as_slice.result.now (rise c) k d inside).0 in omega arith

pub put-requires-clause-empty : goal.put-requires-clause-empty
put-requires-clause-empty c = empty-set c.fill.new.self (length c.args.set.now) (c.fill.ensures.after (λ y e. e))
