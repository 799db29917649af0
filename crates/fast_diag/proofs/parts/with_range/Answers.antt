use Rattle.std.proofs.Common.{◌≡◌, ◌+◌, ◌≤◌, ◌++◌, refl, subst, arith}
use Rattle.std.specs.Prelude.{IfOk}
use Rattle.pref_sets.specs.Positions.{range}
use Rattle.pref_sets.proofs.RisingPositions.{RiseWithin-of_range}
use Rattle.req_keys.specs.Key.{PositionSet, union_of}
use Rattle.req_keys.specs.Wanting.{key_over}
use Rattle.req_keys.proofs.Rises.{union_of-behind}
use Rattle.fast_diag.proofs.parts.with_range.Goals as goal

pub returns : goal.returns
returns c =
    let within : c.args.before + c.args.length ≤ c.args.kept.now.n = c.requires.within in
    let number : c.n.result ≡ c.args.kept.now.n = c.n.ensures.n in
    let b : c.in_ok-range.range ≡ key_over c.args.kept.now.n (range c.args.before c.args.length) = rw number at c.in_ok-range.ensures in
    let e : union_of c.args.kept.now c.in_ok-range.range ≡ key_over c.args.kept.now.n (c.args.kept.now.members ++ range c.args.before c.args.length) =
    rw b
    (union_of-behind c.args.kept.now.n c.args.before (c.args.before + c.args.length) c.args.kept.now (key_over c.args.kept.now.n (range c.args.before c.args.length)) refl c.requires.below (RiseWithin-of_range c.args.before c.args.length) (omega arith) within) in
    subst (λ (k : PositionSet). IfOk c.union.result (λ key. key ≡ k)) e c.union.ensures
