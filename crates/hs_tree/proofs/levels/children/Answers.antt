use Rattle.std.proofs.Common.{◌≡◌, ◌∙◌, ◌+◌, ◌-◌, ◌≤◌, ℕ, drop, sym, ap, subst, arith}
use Rattle.std.proofs.lemmas.Option.{slice_get_within}
use Rattle.std.specs.Prelude.{Contains}
use Rattle.hs_tree.specs.inside.Left.{made}
use Rattle.hs_tree.specs.inside.Places.{sets_of}
use Rattle.hs_tree.specs.inside.Told.{AreOver}
use Rattle.hs_tree.proofs.MadeLevels.{made-step, place-next}
use Rattle.hs_tree.proofs.ToldAnswers.{got, got-is}
use Rattle.hs_tree.proofs.levels.children.Goals as goal

pub add_done-requires-clause-next : goal.add_done-requires-clause-next
add_done-requires-clause-next c =
    let over = c.requires.inside.sets c.get-set.result.now (got c.args.level.now.sets (c.loop-place.place - c.args.level.now.before) c.get-set.result.now c.get-set.ensures) in
    subst (λ (n : ℕ). AreOver n c.loop-place.next.keys) (sym over.number) c.loop-place.invariant.1

pub add_done-requires-clause-set : goal.add_done-requires-clause-set
add_done-requires-clause-set c = (c.requires.inside.sets c.get-set.result.now (got c.args.level.now.sets (c.loop-place.place - c.args.level.now.before) c.get-set.result.now c.get-set.ensures)).key

pub add_done-requires-clause-label : goal.add_done-requires-clause-label
add_done-requires-clause-label c place e =
    c.requires.inside.sound.labels place (subst (Contains c.args.found.now.labels) e (got c.args.found.now.labels c.loop-place.place c.get-label.result.now c.get-label.ensures))

pub add_done-requires-clause-conflicts : goal.add_done-requires-clause-conflicts
add_done-requires-clause-conflicts c =
    let over = c.requires.inside.sets c.get-set.result.now (got c.args.level.now.sets (c.loop-place.place - c.args.level.now.before) c.get-set.result.now c.get-set.ensures) in
    subst (λ (n : ℕ). AreOver n c.args.found.now.conflicts) (sym over.number) c.requires.inside.sound.conflicts

pub loop-place-preserved : goal.loop-place-preserved
loop-place-preserved c =
    let level = c.args.level.now in
    let found = c.args.found.now in
    let place = c.loop-place.place in
    let low : level.before ≤ place = c.loop-place.invariant.0 in
    let over = c.requires.inside.sets c.get-set.result.now (got level.sets (place - level.before) c.get-set.result.now c.get-set.ensures) in
    let next : (place + 1) - level.before ≡ (place - level.before) + 1 = place-next place level.before low in (
      omega arith,
      subst (λ (n : ℕ). AreOver n c.add_done.new.next.keys) over.number c.in_ok-add_done.ensures.over,
      ap (λ (p : ℕ). made (sets_of found.conflicts) (sets_of (drop p level.sets)) (drop (place + 1) found.labels) (sets_of c.add_done.new.next.keys)) next
          ∙ ap (made (sets_of found.conflicts) (sets_of (drop ((place - level.before) + 1) level.sets)) (drop (place + 1) found.labels)) c.in_ok-add_done.ensures.sets
          ∙ sym (made-step (sets_of found.conflicts) level.sets found.labels (place - level.before) place c.get-set.result.now c.get-label.result.now (sets_of c.loop-place.next.keys)
          (slice_get_within level.sets (place - level.before) c.get-set.result.now c.get-set.ensures) (got-is level.sets (place - level.before) c.get-set.result.now c.get-set.ensures)
          (slice_get_within found.labels place c.get-label.result.now c.get-label.ensures) (got-is found.labels place c.get-label.result.now c.get-label.ensures))
          ∙ c.loop-place.invariant.2,
    )

pub returns-clause-over : goal.returns-clause-over
returns-clause-over c = subst (AreOver c.args.level.now.n) (sym c.in_ok-keys.ensures) c.loop-place.invariant.1
