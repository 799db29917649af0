use Rattle.std.proofs.Common.{◌≡◌, ◌∙◌, eqb, ℕ, Bool, List, Option, Some, None, sym, subst}
use Rattle.std.specs.Prelude.{MatchOption}
use Rattle.std.proofs.lemmas.Option.{slice_get_within}
use Rattle.pref_sets.specs.Answers.{Answer}
use Rattle.req_keys.specs.Key.{PositionSet}
use Rattle.hs_tree.specs.declared.found.Found.{Found}
use Rattle.hs_tree.specs.declared.levels.Level.{Level}
use Rattle.hs_tree.specs.declared.sets.Asking.{Asking}
use Rattle.hs_tree.specs.inside.Told.{AreToldOver, answers_of}
use Rattle.hs_tree.specs.inside.Steps.{IsFound, IsSetDone, IsSetWaiting, from_start}
use Rattle.hs_tree.specs.inside.Left.{is_last}
use Rattle.hs_tree.proofs.MadeLevels.{last-is, step-done, step-waiting, waits-here, labels-more, inside-more}
use Rattle.hs_tree.proofs.GrowsLaws.{grows-more}
use Rattle.hs_tree.proofs.ToldAnswers.{got, got-is}
use Rattle.hs_tree.proofs.levels.one_level.Goals as goal

pub one_set-requires-clause-set : goal.one_set-requires-clause-set
one_set-requires-clause-set c = (c.requires.inside.sets c.get-set.result.now (got c.args.level.now.sets c.loop-place.place c.get-set.result.now c.get-set.ensures)).key

pub one_set-requires-clause-found : goal.one_set-requires-clause-found
one_set-requires-clause-found c =
    let over = c.requires.inside.sets c.get-set.result.now (got c.args.level.now.sets c.loop-place.place c.get-set.result.now c.get-set.ensures) in
    subst (λ (n : ℕ). IsFound n c.loop-place.found) (sym over.number) c.loop-place.invariant.0.sound

pub one_set-requires-clause-told : goal.one_set-requires-clause-told
one_set-requires-clause-told c =
    let over = c.requires.inside.sets c.get-set.result.now (got c.args.level.now.sets c.loop-place.place c.get-set.result.now c.get-set.ensures) in
    subst (λ (n : ℕ). AreToldOver n c.args.told.now) (sym over.number) c.requires.told

-- what the work on the set came to, in the level's words
goes-of : (level : Level) (told : List Answer) (old new : Found) (set : PositionSet) (asking other : Option Asking) → set.n ≡ level.n → asking ≡ other →
    MatchOption asking (IsSetDone told old new set.members (from_start set.n (eqb level.left 0) set.members)) (IsSetWaiting set.n told (eqb level.left 0) old new set.members (from_start set.n (eqb level.left 0) set.members)) →
    MatchOption other (IsSetDone told old new set.members (from_start level.n (is_last level.left) set.members)) (IsSetWaiting level.n told (is_last level.left) old new set.members (from_start level.n (is_last level.left) set.members))
goes-of level told old new set asking other number same h =
    let goes : Option Asking → ℕ → Bool → Type 0 = λ o n last. MatchOption o (IsSetDone told old new set.members (from_start n last set.members)) (IsSetWaiting n told last old new set.members (from_start n last set.members)) in
    subst (λ (o : Option Asking). goes o level.n (is_last level.left)) same
    (subst (λ (last : Bool). goes asking level.n last) (last-is level.left)
    (subst (λ (n : ℕ). goes asking n (eqb level.left 0)) number h))

pub returns-in-Some-clause-here : goal.returns-in-Some-clause-here
returns-in-Some-clause-here c =
    let level = c.args.level.now in
    let set = c.get-set.result.now in
    let l = slice_get_within level.sets c.loop-place.place set c.get-set.ensures in
    let is = got-is level.sets c.loop-place.place set c.get-set.ensures in
    let over = c.requires.inside.sets set (got level.sets c.loop-place.place set c.get-set.ensures) in
    let waits = goes-of level (answers_of c.args.told.now) c.loop-place.found c.one_set.new.found set c.in_ok-asking.field-0 (Some c.in-Some.asking) over.number c.in-Some.is c.in_ok-asking.ensures.goes in
    waits-here level c.loop-place.found c.one_set.new.found set c.loop-place.place c.loop-place.invariant.0 l is c.loop-place.invariant.2 (answers_of c.args.told.now) c.in-Some.asking waits.same waits.asked

pub returns-in-Some-clause-goes : goal.returns-in-Some-clause-goes
returns-in-Some-clause-goes c table has =
    let level = c.args.level.now in
    let set = c.get-set.result.now in
    let l = slice_get_within level.sets c.loop-place.place set c.get-set.ensures in
    let is = got-is level.sets c.loop-place.place set c.get-set.ensures in
    let over = c.requires.inside.sets set (got level.sets c.loop-place.place set c.get-set.ensures) in
    let waits = goes-of level (answers_of c.args.told.now) c.loop-place.found c.one_set.new.found set c.in_ok-asking.field-0 (Some c.in-Some.asking) over.number c.in-Some.is c.in_ok-asking.ensures.goes in
    c.loop-place.invariant.3 table has
    ∙ step-waiting level c.loop-place.found c.one_set.new.found set c.loop-place.place c.loop-place.invariant.0 l is c.loop-place.invariant.2 (answers_of c.args.told.now) c.in-Some.asking waits table has

pub loop-place-preserved : goal.loop-place-preserved
loop-place-preserved c =
    let level = c.args.level.now in
    let set = c.get-set.result.now in
    let old = c.loop-place.found in
    let new = c.one_set.new.found in
    let p = c.loop-place.place in
    let l = slice_get_within level.sets c.loop-place.place set c.get-set.ensures in
    let is = got-is level.sets c.loop-place.place set c.get-set.ensures in
    let over = c.requires.inside.sets set (got level.sets c.loop-place.place set c.get-set.ensures) in
    let done = goes-of level (answers_of c.args.told.now) old new set c.in_ok-asking.field-0 None over.number c.in-None.is c.in_ok-asking.ensures.goes in (
      inside-more level old new set p c.loop-place.invariant.0 l is c.loop-place.invariant.2 done.label c.in_ok-asking.ensures.grows done.labels (subst (λ (n : ℕ). IsFound n new) over.number c.in_ok-asking.ensures.found),
      grows-more c.args.found.now old new c.loop-place.invariant.1 c.in_ok-asking.ensures.grows,
      labels-more level old new set p c.loop-place.invariant.0 l is c.loop-place.invariant.2 done.label c.in_ok-asking.ensures.grows done.labels,
      λ table has.
          c.loop-place.invariant.3 table has
          ∙ step-done level old new set p c.loop-place.invariant.0 l is c.loop-place.invariant.2 (answers_of c.args.told.now) c.in_ok-asking.ensures.grows done table has,
    )
