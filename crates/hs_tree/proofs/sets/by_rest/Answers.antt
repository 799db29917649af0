use Rattle.std.proofs.Common.{◌∙◌, ◌++◌, ◌∷◌, [], ℕ, Bool, List, Some, None, sym, ap, refl}
use Rattle.req_keys.specs.Key.{PositionSet}
use Rattle.quick_xplain.specs.Explaining.{Explaining}
use Rattle.hs_tree.specs.inside.Told.{answers_of}
use Rattle.hs_tree.proofs.Findings.{done-found, diagnosis-found, rest-goes, some-members}
use Rattle.hs_tree.proofs.sets.by_rest.Goals as goal

pub returns-in-Some-true-clause-found : goal.returns-in-Some-true-clause-found
returns-in-Some-true-clause-found c =
    diagnosis-found c.args.set.now.n c.args.found.now c.args.set.now c.push.new.self c.push-in-Some-true.new.self c.requires.found (record { number = refl; key = c.requires.set })
    (c.in_ok-push-in-Some-true.ensures.ok ∙ ap (λ (key : PositionSet). c.args.found.now.diagnoses ++ key ∷ []) c.in_ok-copy-in-Some-true.ensures) c.in_ok-push-in-Some-true-2.ensures.ok

pub returns-then-last-clause-found : goal.returns-then-last-clause-found
returns-then-last-clause-found c = done-found c.args.set.now.n c.args.found.now None c.push-then-last.new.self c.requires.found (λ place e. absurd (cc)) c.in_ok-push-in-Some-false.ensures.ok

pub by_label-requires-clause-told : goal.by_label-requires-clause-told
by_label-requires-clause-told c answer m =
    let n : Explaining → ℕ = λ label. label.among.n in
    c.requires.told answer m ∙ sym (ap n c.in_ok-label-in-Some-false.ensures ∙ c.requires.rest.number)

pub returns-clause-goes : goal.returns-clause-goes
returns-clause-goes c =
    let n : Explaining → ℕ = λ label. label.among.n in
    let members : Explaining → List ℕ = λ label. label.among.members in
    let same = c.in_ok-label-in-Some-false.ensures in
    rest-goes c.args.set.now.n (answers_of c.args.told.now) c.args.last c.args.found.now c.by_label.new.found c.args.set.now.members c.args.rest.members c.in_ok-label-in-Some-false.label.among.members c.in_ok-label-in-Some-false.label.among.n c.in_ok-asking-in-Some-false.asking
    (ap members same) (ap n same ∙ c.requires.rest.number) c.if-last.false (some-members c.args.rest.members (sym c.is_empty.ensures ∙ c.if-is_empty.false))
    (sym c.answer.ensures ∙ c.in-Some-false.is ∙ ap (λ (b : Bool). Some b) c.in-Some-false.field-0-test)
    (c.in_ok-asking-in-Some-false.ensures.goes c.args.last c.args.set.now.members)
