use Rattle.std.proofs.Common.{◌∙◌, ◌-◌, eqb, ℕ, Bool, List, sym, ap, subst}
use Rattle.std.specs.Prelude.{MatchOption}
use Rattle.std.proofs.lemmas.Option.{slice_get_within}
use Rattle.req_keys.specs.Key.{PositionSet}
use Rattle.quick_xplain.specs.Explaining.{Explaining}
use Rattle.hs_tree.specs.declared.sets.Asking.{Asking}
use Rattle.hs_tree.specs.inside.Left.{is_last, place_at}
use Rattle.hs_tree.specs.inside.Places.{at_place, sets_of}
use Rattle.hs_tree.specs.inside.Standing.{IsWaitingFor}
use Rattle.hs_tree.specs.inside.Steps.{IsFound, IsLabelOf, IsSetDone, IsSetWaiting, from_rest, from_label, from_waiting}
use Rattle.hs_tree.specs.inside.Told.{AreToldOver, HasAll, IsOver, answers_of}
use Rattle.hs_tree.proofs.FoundLists.{at_place-key}
use Rattle.hs_tree.proofs.MadeLevels.{last-is}
use Rattle.hs_tree.proofs.ToldAnswers.{got, got-is}
use Rattle.hs_tree.proofs.state.again.Goals as goal

pub by_rest-requires-clause-set : goal.by_rest-requires-clause-set
by_rest-requires-clause-set c = (c.requires.inside.sets c.get-set.result.now (got c.args.level.now.sets (c.len.result - c.args.level.now.before) c.get-set.result.now c.get-set.ensures)).key

pub by_rest-requires-clause-found : goal.by_rest-requires-clause-found
by_rest-requires-clause-found c =
    let over = c.requires.inside.sets c.get-set.result.now (got c.args.level.now.sets (c.len.result - c.args.level.now.before) c.get-set.result.now c.get-set.ensures) in
    subst (λ (n : ℕ). IsFound n c.args.found.now) (sym over.number) c.requires.inside.sound

pub by_rest-requires-clause-told : goal.by_rest-requires-clause-told
by_rest-requires-clause-told c =
    let over = c.requires.inside.sets c.get-set.result.now (got c.args.level.now.sets (c.len.result - c.args.level.now.before) c.get-set.result.now c.get-set.ensures) in
    subst (λ (n : ℕ). AreToldOver n c.args.told.now) (sym over.number) c.requires.told

pub by_rest-requires-clause-rest : goal.by_rest-requires-clause-rest
by_rest-requires-clause-rest c =
    let over = c.requires.inside.sets c.get-set.result.now (got c.args.level.now.sets (c.len.result - c.args.level.now.before) c.get-set.result.now c.get-set.ensures) in
    let waits : IsOver c.args.level.now.n c.in-Rest.rest = subst (IsWaitingFor c.args.level.now.n (answers_of c.args.told.now)) c.in-Rest.is c.requires.waits in
    subst (λ (n : ℕ). IsOver n c.in_ok-rest-in-Rest.rest) (sym over.number) (subst (IsOver c.args.level.now.n) (sym c.in_ok-rest-in-Rest.ensures) waits)

pub by_label-requires-clause-told : goal.by_label-requires-clause-told
by_label-requires-clause-told c =
    let n : Explaining → ℕ = λ label. label.among.n in
    let waits : IsLabelOf c.args.level.now.n (answers_of c.args.told.now) c.in-Label.label = subst (IsWaitingFor c.args.level.now.n (answers_of c.args.told.now)) c.in-Label.is c.requires.waits in
    subst (λ (k : ℕ). AreToldOver k c.args.told.now) (sym (ap n c.in_ok-label-in-Label.ensures ∙ waits.number)) c.requires.told

pub by_label-requires-clause-known : goal.by_label-requires-clause-known
by_label-requires-clause-known c =
    let waits : IsLabelOf c.args.level.now.n (answers_of c.args.told.now) c.in-Label.label = subst (IsWaitingFor c.args.level.now.n (answers_of c.args.told.now)) c.in-Label.is c.requires.waits in
    subst (λ (label : Explaining). HasAll label.told (answers_of c.args.told.now)) (sym c.in_ok-label-in-Label.ensures) waits.known

pub returns-in_ok-further-in-Rest-clause-found : goal.returns-in_ok-further-in-Rest-clause-found
returns-in_ok-further-in-Rest-clause-found c =
    let over = c.requires.inside.sets c.get-set.result.now (got c.args.level.now.sets (c.len.result - c.args.level.now.before) c.get-set.result.now c.get-set.ensures) in
    subst (λ (n : ℕ). IsFound n c.by_rest.new.found) over.number c.in_ok-further-in-Rest.ensures.found

pub returns-in_ok-further-in-Rest-clause-goes : goal.returns-in_ok-further-in-Rest-clause-goes
returns-in_ok-further-in-Rest-clause-goes c =
    let level = c.args.level.now in
    let told = answers_of c.args.told.now in
    let old = c.args.found.now in
    let new = c.by_rest.new.found in
    let set = c.get-set.result.now in
    let at = c.len.result - level.before in
    let over = c.requires.inside.sets set (got level.sets at set c.get-set.ensures) in
    let members : PositionSet → List ℕ = λ key. key.members in
    let goes : Asking → ℕ → Bool → List ℕ → List ℕ → Type 0 = λ a n last s rest. MatchOption c.in_ok-further-in-Rest.further (IsSetDone told old new s (from_rest last s rest)) (IsSetWaiting n told last old new s (from_rest last s rest)) in
    let asking : Asking → Type 0 = λ a. MatchOption c.in_ok-further-in-Rest.further (IsSetDone told old new (at_place (sets_of level.sets) (place_at level old)) (from_waiting (is_last level.left) (at_place (sets_of level.sets) (place_at level old)) a)) (IsSetWaiting level.n told (is_last level.left) old new (at_place (sets_of level.sets) (place_at level old)) (from_waiting (is_last level.left) (at_place (sets_of level.sets) (place_at level old)) a)) in
    let here = sym (at_place-key level.sets at set (slice_get_within level.sets at set c.get-set.ensures) (got-is level.sets at set c.get-set.ensures)) ∙ ap (λ (k : ℕ). at_place (sets_of level.sets) (k - level.before)) c.len.ensures in
    subst asking (sym c.in-Rest.is)
    (subst (goes c.args.asking.now level.n (is_last level.left) (at_place (sets_of level.sets) (place_at level old))) (ap members c.in_ok-rest-in-Rest.ensures)
    (subst (λ (s : List ℕ). goes c.args.asking.now level.n (is_last level.left) s c.in_ok-rest-in-Rest.rest.members) here
    (subst (λ (last : Bool). goes c.args.asking.now level.n last set.members c.in_ok-rest-in-Rest.rest.members) (last-is level.left)
    (subst (λ (n : ℕ). goes c.args.asking.now n (eqb level.left 0) set.members c.in_ok-rest-in-Rest.rest.members) over.number c.in_ok-further-in-Rest.ensures.goes))))

pub returns-in_ok-further-in-Label-clause-goes : goal.returns-in_ok-further-in-Label-clause-goes
returns-in_ok-further-in-Label-clause-goes c =
    let level = c.args.level.now in
    let told = answers_of c.args.told.now in
    let old = c.args.found.now in
    let new = c.by_label.new.found in
    let further = c.in_ok-further-in-Label.further in
    let last = is_last level.left in
    let set = at_place (sets_of level.sets) (place_at level old) in
    let waits : IsLabelOf level.n told c.in-Label.label = subst (IsWaitingFor level.n told) c.in-Label.is c.requires.waits in
    let asking : Asking → Type 0 = λ a. MatchOption further (IsSetDone told old new set (from_waiting last set a)) (IsSetWaiting level.n told last old new set (from_waiting last set a)) in
    let goes : Explaining → ℕ → Type 0 = λ label n. MatchOption further (IsSetDone told old new set (from_label set label.among.members)) (IsSetWaiting n told last old new set (from_label set label.among.members)) in
    subst asking (sym c.in-Label.is)
    (subst (goes c.in-Label.label) waits.number
    (subst (λ (label : Explaining). goes label label.among.n) c.in_ok-label-in-Label.ensures (c.in_ok-further-in-Label.ensures.goes last set)))
