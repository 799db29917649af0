use Rattle.std.proofs.Common.{◌≡◌, ◌∙◌, ap, ◌+◌, ◌++◌, map, drop, List, arith}
use Rattle.clause_form.specs.Groups.{group_part}
use Rattle.clause_form.specs.Parts.{Part, clauses_from, size_of}
use Rattle.clause_form.proofs.Sizes.{drop-one, walk-clauses, walk-size}
use Rattle.clause_form.proofs.Walks.{groups_from}
use Rattle.clause_form.proofs.problem.add_features.Goals as goal

pub add_groups-requires-clause-room : goal.add_groups-requires-clause-room
add_groups-requires-clause-room c =
    let i = c.loop-i.i in
    let features = c.args.features.now in
    let feature = c.index-features-i.result in
    let here : List Part = map (group_part c.loop-i.i) c.index-features-i.result.groups in
    let rest : List Part = groups_from (c.loop-i.i + 1) (drop (c.loop-i.i + 1) c.args.features.now) in
    let split : groups_from i (drop i features) ≡ here ++ rest = ap (groups_from i) (drop-one features i feature c.loop-i-test.true c.index-features-i.is) in
    let size = walk-size (groups_from i (drop i features)) here rest split in
    let same : size_of (map (group_part i) c.as_slice.result.now) ≡ size_of here = ap (λ groups. size_of (map (group_part i) groups)) c.as_slice.ensures in
    omega arith

pub loop-i-preserved : goal.loop-i-preserved
loop-i-preserved c =
    let i = c.loop-i.i in
    let features = c.args.features.now in
    let feature = c.index-features-i.result in
    let here : List Part = map (group_part c.loop-i.i) c.index-features-i.result.groups in
    let rest : List Part = groups_from (c.loop-i.i + 1) (drop (c.loop-i.i + 1) c.args.features.now) in
    let left : List Part = groups_from c.loop-i.i (drop c.loop-i.i c.args.features.now) in
    let split : left ≡ here ++ rest = ap (groups_from i) (drop-one features i feature c.loop-i-test.true c.index-features-i.is) in
    let size = walk-size left here rest split in
    let after : c.add_groups.new.out.next_variable ≡ c.loop-i.out.next_variable + size_of here = c.in_ok-add_groups.ensures.variable ∙ ap (λ groups. c.loop-i.out.next_variable + size_of (map (group_part i) groups)) c.as_slice.ensures in
    let made : c.add_groups.new.out.clauses ≡ c.loop-i.out.clauses ++ clauses_from c.loop-i.out.next_variable here =
    c.in_ok-add_groups.ensures.clauses ∙ ap (λ groups. c.loop-i.out.clauses ++ clauses_from c.loop-i.out.next_variable (map (group_part i) groups)) c.as_slice.ensures in record {
      clauses = walk-clauses c.loop-i.out.clauses c.add_groups.new.out.clauses c.loop-i.out.next_variable c.add_groups.new.out.next_variable left here rest split after made ∙ c.loop-i.invariant.clauses;
      variable = omega arith;
      more = omega arith;
    }
