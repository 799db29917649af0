use Rattle.std.proofs.Common.{◌∙◌, ◌++◌, ◌∷◌, [], ℕ, List, sym, ap, subst}
use Rattle.pref_sets.specs.Answers.{Answer}
use Rattle.hs_tree.specs.inside.Left.{IsHere}
use Rattle.hs_tree.specs.inside.Standing.{IsWaitingFor, level_after}
use Rattle.hs_tree.specs.inside.Told.{AreToldOver, answer_of, answers_of}
use Rattle.hs_tree.proofs.AskedSets.{asked-set, waiting-from, waiting-more, answers-push, HasAll-more, told-push, sound-after}
use Rattle.hs_tree.proofs.state.go_on.Goals as goal

pub told_answer-requires : goal.told_answer-requires
told_answer-requires c =
    let state = c.args.state.now in
    let here = subst (IsHere (answers_of state.told) state.level state.found) c.in-Some.is c.requires.sound.here in
    asked-set state.level.n (answers_of state.told) c.in-Some.asking here.0

pub step_or_none-requires-clause-told : goal.step_or_none-requires-clause-told
step_or_none-requires-clause-told c =
    let state = c.args.state.now in
    let here = subst (IsHere (answers_of state.told) state.level state.found) c.in-Some.is c.requires.sound.here in
    let waits = waiting-from state.level.n (answers_of state.told) c.in-Some.asking here.0 in
    subst (AreToldOver state.level.n) (sym c.in_ok-push.ensures.ok)
    (told-push state.level.n state.told c.in_ok-answer.answer c.requires.sound.over (c.in_ok-answer.ensures.n state.level.n (answers_of state.told) waits))

pub step_or_none-requires-clause-waits : goal.step_or_none-requires-clause-waits
step_or_none-requires-clause-waits c =
    let state = c.args.state.now in
    let here = subst (IsHere (answers_of state.told) state.level state.found) c.in-Some.is c.requires.sound.here in
    let waits = waiting-from state.level.n (answers_of state.told) c.in-Some.asking here.0 in
    subst (λ (told : List Answer). IsWaitingFor state.level.n told c.in-Some.asking) (sym (ap answers_of c.in_ok-push.ensures.ok ∙ answers-push state.told c.in_ok-answer.answer))
    (waiting-more state.level.n (answers_of state.told) (answers_of state.told ++ answer_of c.in_ok-answer.answer ∷ []) c.in-Some.asking (HasAll-more (answers_of state.told) (answer_of c.in_ok-answer.answer ∷ [])) waits)

pub returns-in-Ok-clause-sound : goal.returns-in-Ok-clause-sound
returns-in-Ok-clause-sound c =
    let state = c.args.state.now in
    let level = level_after state.level c.in-Ok.step.deeper in
    let here = subst (IsHere (answers_of state.told) state.level state.found) c.in-Some.is c.requires.sound.here in
    let waits = waiting-from state.level.n (answers_of state.told) c.in-Some.asking here.0 in
    let over = subst (AreToldOver state.level.n) (sym c.in_ok-push.ensures.ok)
    (told-push state.level.n state.told c.in_ok-answer.answer c.requires.sound.over (c.in_ok-answer.ensures.n state.level.n (answers_of state.told) waits)) in
    sound-after c.settle.new.state c.push.new.self c.step_or_none.new.found level c.in-Ok.step.asking c.settle.ensures.told c.settle.ensures.found c.settle.ensures.level c.settle.ensures.asking
    (subst (λ (n : ℕ). AreToldOver n c.push.new.self) (sym c.in-Ok.ensures.n) over) c.in-Ok.ensures.inside c.in-Ok.ensures.here c.in-Ok.ensures.last
