use Rattle.std.proofs.Common.{◌≡◌, ◌+◌, ℕ, List, false, length, ◌∙◌, ap, sym, subst}
use Rattle.std.specs.Prelude.{IfOk, reverse}
use Rattle.pref_sets.specs.Plan.{Plan, after_answer}
use Rattle.req_keys.specs.Key.{PositionSet}
use Rattle.quick_xplain.specs.inside.Remaining.{IsRange, StandsAt, remaining, left_of, waiting, with_waiting}
use Rattle.quick_xplain.specs.declared.parts.Half.{Half}
use Rattle.quick_xplain.specs.declared.parts.Part.{Part}
use Rattle.quick_xplain.proofs.AfterAnswer.{after-sat, after-unsat}
use Rattle.quick_xplain.proofs.WaitingHalves.{stands-done}
use Rattle.quick_xplain.proofs.parts.Asking.after.Goals as goal

pub descend-requires : goal.descend-requires
descend-requires c =
    let asking = c.args.self.now in
    subst (λ (halves : List Half). IsRange c.args.among.now c.in_ok-conflict.conflict asking.before asking.length halves) (sym (c.in_ok-halves.ensures ∙ c.as_slice.ensures))
    (subst (λ (conflict : PositionSet). IsRange c.args.among.now conflict asking.before asking.length asking.halves) (sym c.in_ok-conflict.ensures) c.requires.range)

pub returns-then-sat-clause-plan : goal.returns-then-sat-clause-plan
returns-then-sat-clause-plan c =
    let asking = c.args.self.now in
    let members = c.args.among.now.members in
    let e : with_waiting members asking.before asking.length c.in_ok-conflict.conflict.members false c.in_ok-halves.halves ≡ after_answer c.args.sat (left_of members asking) =
    ap (with_waiting members asking.before asking.length c.in_ok-conflict.conflict.members false) (c.in_ok-halves.ensures ∙ c.as_slice.ensures)
    ∙ ap (λ (conflict : PositionSet). with_waiting members asking.before asking.length conflict.members false asking.halves) c.in_ok-conflict.ensures
    ∙ after-sat c.args.among.now asking c.requires
    ∙ ap (λ sat. after_answer sat (left_of members asking)) (sym c.if-sat.true) in
    subst (λ (p : Plan). IfOk c.descend.result (λ (part : Part). remaining members part ≡ p)) e c.descend.ensures.plan

pub settle-requires : goal.settle-requires
settle-requires c =
    let asking = c.args.self.now in
    let stands : PositionSet → List Half → Type 0 = λ conflict halves. StandsAt c.args.among.now conflict (length conflict.members) halves in
    subst (stands c.in_ok-conflict.conflict) (sym (c.in_ok-halves.ensures ∙ c.as_slice.ensures))
    (subst (λ (conflict : PositionSet). stands conflict asking.halves) (sym c.in_ok-conflict.ensures)
    (stands-done asking.before (asking.before + asking.length) c.args.among.now asking.conflict (length asking.conflict.members) asking.halves c.requires.range.place))

pub returns-clause-plan : goal.returns-clause-plan
returns-clause-plan c =
    let asking = c.args.self.now in
    let members = c.args.among.now.members in
    let e : waiting members (reverse c.in_ok-halves.halves) c.in_ok-conflict.conflict.members ≡ after_answer c.args.sat (left_of members asking) =
    ap (λ (halves : List Half). waiting members (reverse halves) c.in_ok-conflict.conflict.members) (c.in_ok-halves.ensures ∙ c.as_slice.ensures)
    ∙ ap (λ (conflict : PositionSet). waiting members (reverse asking.halves) conflict.members) c.in_ok-conflict.ensures
    ∙ after-unsat c.args.among.now asking c.requires
    ∙ ap (λ sat. after_answer sat (left_of members asking)) (sym c.if-sat.false) in
    subst (λ (p : Plan). IfOk c.settle.result (λ (part : Part). remaining members part ≡ p)) e c.settle.ensures.plan
