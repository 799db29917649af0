use Rattle.std.proofs.Common.{◌∙◌, sym, ap, not}
use Rattle.clauses.specs.Closure.{clash}
use Rattle.propagation.specs.Propagation.{Propagation, propagated}
use Rattle.propagation.proofs.StateLaws.{state-answers}
use Rattle.propagation.proofs.propagator.Propagator.clashes.Goals as goal

pub returns : goal.returns
returns c = ap not c.is_rest.ensures ∙ sym (state-answers c.self.inside.problem c.self.inside.learned c.self.inside.assumed.items c.self.inside.trail c.self.inside.watches c.self.inside.learned_watches c.self.inside.marks.items c.self.inside.base c.self.inside.state c.self.invariant.standing) ∙ ap (λ (at : Propagation). clash (propagated at)) c.self.view_is
