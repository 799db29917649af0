use Rattle.std.proofs.Common.{◌∙◌, refl, ◌≤◌, length, arith}
use Rattle.propagation.specs.inside.Watching.{nothing}
use Rattle.propagation.proofs.SortLaws.{end-row, end-sorted, entry-next, entry-watched, room-left, sent-smaller, sent-sorting, sorting-start}
use Rattle.propagation.proofs.sorting.sort_chain.Goals as goal

pub loop-heads-init : goal.loop-heads-init
loop-heads-init c = record {
  room = refl;
  sorting = sorting-start c.args.clauses.now c.args.variables c.args.watched.now c.args.slot c.args.others.now.items c.args.heads.now c.args.next.now c.requires.sorted;
}

pub chain_for-to-requires-clause-entry : goal.chain_for-to-requires-clause-entry
chain_for-to-requires-clause-entry c =
    let few : length c.loop-heads.next ≤ nothing = omega arith in
    entry-watched c.args.clauses.now c.args.variables c.args.watched.now c.args.slot c.args.others.now.items c.requires.slot c.loop-heads.heads c.loop-heads.next c.loop-heads.others.items c.loop-heads.invariant.sorting few c.loop-heads-test.true

pub chain_for-to-requires-clause-room : goal.chain_for-to-requires-clause-room
chain_for-to-requires-clause-room c =
    let few : length c.loop-heads.next ≤ nothing = omega arith in
    let left = room-left c.args.clauses.now c.args.variables c.args.watched.now c.args.slot c.args.others.now.items c.requires.slot c.loop-heads.heads c.loop-heads.next c.loop-heads.others.items c.loop-heads.invariant.sorting few c.loop-heads-test.true in
    let room = c.requires.room in
    let same = c.loop-heads.invariant.room in
    omega arith

pub shift-requires-clause-some : goal.shift-requires-clause-some
shift-requires-clause-some c =
    let few : length c.loop-heads.next ≤ nothing = omega arith in
    entry-next c.args.clauses.now c.args.variables c.args.watched.now c.args.slot c.args.others.now.items c.requires.slot c.loop-heads.heads c.loop-heads.next c.loop-heads.others.items c.loop-heads.invariant.sorting few c.loop-heads-test.true

pub loop-heads-smaller : goal.loop-heads-smaller
loop-heads-smaller c =
    let few : length c.loop-heads.next ≤ nothing = omega arith in
    rw (c.shift.ensures.heads, c.shift.ensures.next)
    (sent-smaller c.args.clauses.now c.args.variables c.args.watched.now c.args.slot c.args.others.now.items c.requires.slot c.loop-heads.heads c.loop-heads.next c.loop-heads.others.items c.loop-heads.invariant.sorting few c.loop-heads-test.true
    c.chain_for-to.new.others.items c.chain_for-to.result c.chain_for-to.ensures.chain)

pub loop-heads-preserved : goal.loop-heads-preserved
loop-heads-preserved c =
    let few : length c.loop-heads.next ≤ nothing = omega arith in
    record {
      room = c.chain_for-to.ensures.room ∙ c.loop-heads.invariant.room;
      sorting =
          rw (c.shift.ensures.heads, c.shift.ensures.next)
          (sent-sorting c.args.clauses.now c.args.variables c.args.watched.now c.args.slot c.args.others.now.items c.requires.slot c.loop-heads.heads c.loop-heads.next c.loop-heads.others.items c.loop-heads.invariant.sorting few c.loop-heads-test.true
          c.chain_for-to.new.others.items c.chain_for-to.result c.chain_for-to.ensures.chain);
    }

pub returns-clause-sorted : goal.returns-clause-sorted
returns-clause-sorted c =
    let few : length c.loop-heads.next ≤ nothing = omega arith in
    end-sorted c.args.clauses.now c.args.variables c.args.watched.now c.args.slot c.args.others.now.items c.requires.slot c.loop-heads.heads c.loop-heads.next c.loop-heads.others.items c.loop-heads.invariant.sorting few c.loop-heads-test.false c.requires.below

pub returns-clause-row : goal.returns-clause-row
returns-clause-row c =
    let few : length c.loop-heads.next ≤ nothing = omega arith in
    end-row c.args.clauses.now c.args.variables c.args.watched.now c.args.slot c.args.others.now.items c.requires.slot c.loop-heads.heads c.loop-heads.next c.loop-heads.others.items c.loop-heads.invariant.sorting few c.loop-heads-test.false
