use Rattle.std.proofs.Common.{◌≡◌, ◌∙◌, sym, ap, subst, ◌<◌, false}
use Rattle.clauses.specs.Closure.{clash}
use Rattle.propagation.specs.Propagation.{Propagation, all_of, propagated, value_of}
use Rattle.propagation.specs.declared.state.State.TheVariants as state
use Rattle.propagation.specs.inside.Levels.{HasState}
use Rattle.propagation.proofs.StateLaws.{rest-value, state-rests}
use Rattle.propagation.proofs.propagator.Propagator.value.Goals as goal

pub returns : goal.returns
returns c =
    let no_clash : clash (all_of c.self.inside.problem.clauses c.self.inside.learned c.self.inside.assumed.items) ≡ false = ap (λ (at : Propagation). clash (propagated at)) c.self.view_is ∙ c.requires.no_clash in
    let is : HasState c.self.inside.problem c.self.inside.learned c.self.inside.assumed.items c.self.inside.trail c.self.inside.watches c.self.inside.learned_watches c.self.inside.marks.items c.self.inside.base state.Rests = subst (HasState c.self.inside.problem c.self.inside.learned c.self.inside.assumed.items c.self.inside.trail c.self.inside.watches c.self.inside.learned_watches c.self.inside.marks.items c.self.inside.base) (state-rests c.self.inside.problem c.self.inside.learned c.self.inside.assumed.items c.self.inside.trail c.self.inside.watches c.self.inside.learned_watches c.self.inside.marks.items c.self.inside.base c.self.inside.state c.self.invariant.standing no_clash) c.self.invariant.standing in
    c.value.ensures ∙ rest-value c.self.inside.problem c.self.inside.learned c.self.inside.assumed.items c.self.inside.trail c.self.inside.watches c.self.inside.learned_watches c.self.inside.marks.items c.self.inside.base is c.args.var ∙ ap (λ (at : Propagation). value_of (propagated at) c.args.var) c.self.view_is

pub value-requires : goal.value-requires
value-requires c =
    let no_clash : clash (all_of c.self.inside.problem.clauses c.self.inside.learned c.self.inside.assumed.items) ≡ false = ap (λ (at : Propagation). clash (propagated at)) c.self.view_is ∙ c.requires.no_clash in
    let is : HasState c.self.inside.problem c.self.inside.learned c.self.inside.assumed.items c.self.inside.trail c.self.inside.watches c.self.inside.learned_watches c.self.inside.marks.items c.self.inside.base state.Rests = subst (HasState c.self.inside.problem c.self.inside.learned c.self.inside.assumed.items c.self.inside.trail c.self.inside.watches c.self.inside.learned_watches c.self.inside.marks.items c.self.inside.base) (state-rests c.self.inside.problem c.self.inside.learned c.self.inside.assumed.items c.self.inside.trail c.self.inside.watches c.self.inside.learned_watches c.self.inside.marks.items c.self.inside.base c.self.inside.state c.self.invariant.standing no_clash) c.self.invariant.standing in
    let below : c.args.var < c.self.inside.problem.variables = subst (λ (at : Propagation). c.args.var < at.problem.variables) (sym c.self.view_is) c.requires.variable in
    subst (λ n. c.args.var < n) (sym is.0.parts.trail_of) below
