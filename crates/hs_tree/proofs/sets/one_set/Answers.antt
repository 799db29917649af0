use Rattle.std.proofs.Common.{◌≡◌, ◌<◌, Some, None, List, length, sym, ap, subst, arith}
use Rattle.req_keys.specs.Key.{PositionSet}
use Rattle.hs_tree.specs.inside.Told.{AreOver}
use Rattle.hs_tree.proofs.Findings.{done-found}
use Rattle.hs_tree.proofs.sets.one_set.Goals as goal

pub has_part-requires : goal.has_part-requires
has_part-requires c = subst (AreOver c.args.set.now.n) (sym c.as_slice.ensures) c.requires.found.diagnoses

pub returns-then-has_part-clause-found : goal.returns-then-has_part-clause-found
returns-then-has_part-clause-found c = done-found c.args.set.now.n c.args.found.now None c.push.new.self c.requires.found (λ place e. absurd (cc)) c.in_ok-push.ensures.ok

pub first_apart-requires : goal.first_apart-requires
first_apart-requires c = subst (AreOver c.args.set.now.n) (sym c.as_slice-2.ensures) c.requires.found.conflicts

pub returns-in-Some-clause-found : goal.returns-in-Some-clause-found
returns-in-Some-clause-found c =
    done-found c.args.set.now.n c.args.found.now (Some c.in-Some.place) c.push-in-Some.new.self c.requires.found
    (λ place e.
    let same : c.in-Some.place ≡ place = cc in
    let low : c.in-Some.place < length c.as_slice-2.result.now = c.in-Some.ensures.0 in
    let size : length c.as_slice-2.result.now ≡ length c.args.found.now.conflicts = ap (λ (keys : List PositionSet). length keys) c.as_slice-2.ensures in
    omega arith) c.in_ok-push-2.ensures.ok
