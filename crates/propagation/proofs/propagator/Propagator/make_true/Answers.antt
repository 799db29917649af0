use Rattle.std.proofs.Common.{◌≡◌, ◌∙◌, sym, ap, subst, inr, false, ◌<◌}
use Rattle.std.specs.Prelude.{All}
use Rattle.clauses.specs.Closure.{clash}
use Rattle.clauses.specs.Problem.{IsBelow}
use Rattle.propagation.specs.Propagation.{Propagation, all_of, propagated, value_of}
use Rattle.propagation.specs.declared.state.State.TheVariants as state
use Rattle.propagation.specs.inside.Levels.{HasState}
use Rattle.propagation.proofs.StateLaws.{rest-value, state-rests}
use Rattle.propagation.proofs.RootLaws.{clash-from_not}
use Rattle.propagation.proofs.RoomLaws.{known-closed, known-clash, made-distinct, new-closed, propagated-push, room-left}
use Rattle.propagation.proofs.propagator.Propagator.make_true.Goals as goal

pub assume-requires-clause-few : goal.assume-requires-clause-few
assume-requires-clause-few c =
    let no_clash : clash (all_of c.self.inside.problem.clauses c.self.inside.learned c.self.inside.assumed.items) ≡ false = ap (λ (at : Propagation). clash (propagated at)) c.self.view_is ∙ c.requires.no_clash in
    let is : HasState c.self.inside.problem c.self.inside.learned c.self.inside.assumed.items c.self.inside.trail c.self.inside.watches c.self.inside.learned_watches c.self.inside.marks.items c.self.inside.base state.Rests = subst (HasState c.self.inside.problem c.self.inside.learned c.self.inside.assumed.items c.self.inside.trail c.self.inside.watches c.self.inside.learned_watches c.self.inside.marks.items c.self.inside.base) (state-rests c.self.inside.problem c.self.inside.learned c.self.inside.assumed.items c.self.inside.trail c.self.inside.watches c.self.inside.learned_watches c.self.inside.marks.items c.self.inside.base c.self.inside.state c.self.invariant.standing no_clash) c.self.invariant.standing in
    let value : c.value.result ≡ value_of (propagated c.args.self.now) c.args.literal.var = c.value.ensures ∙ rest-value c.self.inside.problem c.self.inside.learned c.self.inside.assumed.items c.self.inside.trail c.self.inside.watches c.self.inside.learned_watches c.self.inside.marks.items c.self.inside.base is c.args.literal.var ∙ ap (λ (at : Propagation). value_of (propagated at) c.args.literal.var) c.self.view_is in
    room-left c.args.self.now (subst (λ (at : Propagation). All (IsBelow at.problem.variables) at.assumed) c.self.view_is c.self.invariant.assumed_below)
    c.args.literal c.requires.room c.requires.variable (sym value ∙ c.in-None.is)

pub returns-in-Some-clause-closed : goal.returns-in-Some-clause-closed
returns-in-Some-clause-closed c =
    let no_clash : clash (all_of c.self.inside.problem.clauses c.self.inside.learned c.self.inside.assumed.items) ≡ false = ap (λ (at : Propagation). clash (propagated at)) c.self.view_is ∙ c.requires.no_clash in
    let is : HasState c.self.inside.problem c.self.inside.learned c.self.inside.assumed.items c.self.inside.trail c.self.inside.watches c.self.inside.learned_watches c.self.inside.marks.items c.self.inside.base state.Rests = subst (HasState c.self.inside.problem c.self.inside.learned c.self.inside.assumed.items c.self.inside.trail c.self.inside.watches c.self.inside.learned_watches c.self.inside.marks.items c.self.inside.base) (state-rests c.self.inside.problem c.self.inside.learned c.self.inside.assumed.items c.self.inside.trail c.self.inside.watches c.self.inside.learned_watches c.self.inside.marks.items c.self.inside.base c.self.inside.state c.self.invariant.standing no_clash) c.self.invariant.standing in
    let value : c.value.result ≡ value_of (propagated c.args.self.now) c.args.literal.var = c.value.ensures ∙ rest-value c.self.inside.problem c.self.inside.learned c.self.inside.assumed.items c.self.inside.trail c.self.inside.watches c.self.inside.learned_watches c.self.inside.marks.items c.self.inside.base is c.args.literal.var ∙ ap (λ (at : Propagation). value_of (propagated at) c.args.literal.var) c.self.view_is in
    known-closed (propagated c.args.self.now) c.requires.no_clash c.args.literal c.in-Some.value (sym value ∙ c.in-Some.is)

pub returns-in-Some-clause-clash : goal.returns-in-Some-clause-clash
returns-in-Some-clause-clash c =
    let no_clash : clash (all_of c.self.inside.problem.clauses c.self.inside.learned c.self.inside.assumed.items) ≡ false = ap (λ (at : Propagation). clash (propagated at)) c.self.view_is ∙ c.requires.no_clash in
    let is : HasState c.self.inside.problem c.self.inside.learned c.self.inside.assumed.items c.self.inside.trail c.self.inside.watches c.self.inside.learned_watches c.self.inside.marks.items c.self.inside.base state.Rests = subst (HasState c.self.inside.problem c.self.inside.learned c.self.inside.assumed.items c.self.inside.trail c.self.inside.watches c.self.inside.learned_watches c.self.inside.marks.items c.self.inside.base) (state-rests c.self.inside.problem c.self.inside.learned c.self.inside.assumed.items c.self.inside.trail c.self.inside.watches c.self.inside.learned_watches c.self.inside.marks.items c.self.inside.base c.self.inside.state c.self.invariant.standing no_clash) c.self.invariant.standing in
    let value : c.value.result ≡ value_of (propagated c.args.self.now) c.args.literal.var = c.value.ensures ∙ rest-value c.self.inside.problem c.self.inside.learned c.self.inside.assumed.items c.self.inside.trail c.self.inside.watches c.self.inside.learned_watches c.self.inside.marks.items c.self.inside.base is c.args.literal.var ∙ ap (λ (at : Propagation). value_of (propagated at) c.args.literal.var) c.self.view_is in
    known-clash (propagated c.args.self.now) c.requires.no_clash c.args.literal c.in-Some.value (sym value ∙ c.in-Some.is)

pub returns-in-None-clause-assumed : goal.returns-in-None-clause-assumed
returns-in-None-clause-assumed c =
    let no_clash : clash (all_of c.self.inside.problem.clauses c.self.inside.learned c.self.inside.assumed.items) ≡ false = ap (λ (at : Propagation). clash (propagated at)) c.self.view_is ∙ c.requires.no_clash in
    let is : HasState c.self.inside.problem c.self.inside.learned c.self.inside.assumed.items c.self.inside.trail c.self.inside.watches c.self.inside.learned_watches c.self.inside.marks.items c.self.inside.base state.Rests = subst (HasState c.self.inside.problem c.self.inside.learned c.self.inside.assumed.items c.self.inside.trail c.self.inside.watches c.self.inside.learned_watches c.self.inside.marks.items c.self.inside.base) (state-rests c.self.inside.problem c.self.inside.learned c.self.inside.assumed.items c.self.inside.trail c.self.inside.watches c.self.inside.learned_watches c.self.inside.marks.items c.self.inside.base c.self.inside.state c.self.invariant.standing no_clash) c.self.invariant.standing in
    let value : c.value.result ≡ value_of (propagated c.args.self.now) c.args.literal.var = c.value.ensures ∙ rest-value c.self.inside.problem c.self.inside.learned c.self.inside.assumed.items c.self.inside.trail c.self.inside.watches c.self.inside.learned_watches c.self.inside.marks.items c.self.inside.base is c.args.literal.var ∙ ap (λ (at : Propagation). value_of (propagated at) c.args.literal.var) c.self.view_is in
    inr (sym value ∙ c.in-None.is, c.assume.ensures.assumed)

pub returns-in-None-clause-distinct : goal.returns-in-None-clause-distinct
returns-in-None-clause-distinct c =
    let no_clash : clash (all_of c.self.inside.problem.clauses c.self.inside.learned c.self.inside.assumed.items) ≡ false = ap (λ (at : Propagation). clash (propagated at)) c.self.view_is ∙ c.requires.no_clash in
    let is : HasState c.self.inside.problem c.self.inside.learned c.self.inside.assumed.items c.self.inside.trail c.self.inside.watches c.self.inside.learned_watches c.self.inside.marks.items c.self.inside.base state.Rests = subst (HasState c.self.inside.problem c.self.inside.learned c.self.inside.assumed.items c.self.inside.trail c.self.inside.watches c.self.inside.learned_watches c.self.inside.marks.items c.self.inside.base) (state-rests c.self.inside.problem c.self.inside.learned c.self.inside.assumed.items c.self.inside.trail c.self.inside.watches c.self.inside.learned_watches c.self.inside.marks.items c.self.inside.base c.self.inside.state c.self.invariant.standing no_clash) c.self.invariant.standing in
    let value : c.value.result ≡ value_of (propagated c.args.self.now) c.args.literal.var = c.value.ensures ∙ rest-value c.self.inside.problem c.self.inside.learned c.self.inside.assumed.items c.self.inside.trail c.self.inside.watches c.self.inside.learned_watches c.self.inside.marks.items c.self.inside.base is c.args.literal.var ∙ ap (λ (at : Propagation). value_of (propagated at) c.args.literal.var) c.self.view_is in
    made-distinct c.args.self.now c.args.literal c.assume.new.self (inr (sym value ∙ c.in-None.is, c.assume.ensures.assumed))

pub returns-in-None-clause-closed : goal.returns-in-None-clause-closed
returns-in-None-clause-closed c = λ _. new-closed c.args.self.now c.assume.new.self c.args.literal c.assume.ensures.assumed

pub returns-in-None-clause-clash : goal.returns-in-None-clause-clash
returns-in-None-clause-clash c = λ e.
    ap clash (sym (propagated-push c.args.self.now c.args.literal))
    ∙ ap (λ (at : Propagation). clash (propagated at)) (sym c.assume.ensures.assumed)
    ∙ clash-from_not (clash (propagated c.assume.new.self)) c.assume.result c.assume.ensures.no_clash e

pub value-requires : goal.value-requires
value-requires c =
    let no_clash : clash (all_of c.self.inside.problem.clauses c.self.inside.learned c.self.inside.assumed.items) ≡ false = ap (λ (at : Propagation). clash (propagated at)) c.self.view_is ∙ c.requires.no_clash in
    let is : HasState c.self.inside.problem c.self.inside.learned c.self.inside.assumed.items c.self.inside.trail c.self.inside.watches c.self.inside.learned_watches c.self.inside.marks.items c.self.inside.base state.Rests = subst (HasState c.self.inside.problem c.self.inside.learned c.self.inside.assumed.items c.self.inside.trail c.self.inside.watches c.self.inside.learned_watches c.self.inside.marks.items c.self.inside.base) (state-rests c.self.inside.problem c.self.inside.learned c.self.inside.assumed.items c.self.inside.trail c.self.inside.watches c.self.inside.learned_watches c.self.inside.marks.items c.self.inside.base c.self.inside.state c.self.invariant.standing no_clash) c.self.invariant.standing in
    let below : c.args.literal.var < c.self.inside.problem.variables = subst (λ (at : Propagation). c.args.literal.var < at.problem.variables) (sym c.self.view_is) c.requires.variable in
    subst (λ n. c.args.literal.var < n) (sym is.0.parts.trail_of) below
