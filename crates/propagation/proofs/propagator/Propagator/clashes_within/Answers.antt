use Rattle.std.proofs.Common.{◌∙◌, sym, ap, subst, not, ◌<◌, ◌≤◌, length, get_or, take, arith}
use Rattle.clauses.specs.Closure.{clash}
use Rattle.propagation.specs.Propagation.{Propagation, propagated}
use Rattle.propagation.specs.declared.state.State.TheVariants as state
use Rattle.propagation.specs.inside.Trails.{Trailing}
use Rattle.propagation.proofs.StateLaws.{fewer-above, fewer-below, state-answers}
use Rattle.propagation.proofs.propagator.Propagator.clashes_within.Goals as goal

pub returns-then-count-len : goal.returns-then-count-len
returns-then-count-len c =
    let at = c.self.inside in
    let count = c.args.count in
    let within : count ≤ length at.assumed.items = subst (λ (p : Propagation). count ≤ length p.assumed) (sym c.self.view_is) c.requires in
    let inside : count < length at.marks.items = (let t = c.if-count-len.true in let l = c.len.ensures in omega arith) in
    let back : Trailing = record at.trail { literals = take (get_or at.marks.items count 0) at.trail.literals } in
    sym (state-answers at.problem at.learned (take count at.assumed.items) back at.watches at.learned_watches (take count at.marks.items) at.base state.Rests
    (fewer-below at.problem at.learned at.assumed.items at.trail at.watches at.learned_watches at.marks.items at.base at.state c.self.invariant.standing count inside within))
    ∙ ap (λ (p : Propagation). clash (propagated (record p { assumed = take count p.assumed }))) c.self.view_is

pub returns : goal.returns
returns c =
    let at = c.self.inside in
    let count = c.args.count in
    let within : count ≤ length at.assumed.items = subst (λ (p : Propagation). count ≤ length p.assumed) (sym c.self.view_is) c.requires in
    let le : length at.marks.items ≤ count = (let t = c.if-count-len.false in let l = c.len.ensures in omega arith) in
    ap not c.is_rest.ensures
    ∙ sym (state-answers at.problem at.learned (take count at.assumed.items) at.trail at.watches at.learned_watches at.marks.items at.base at.state
    (fewer-above at.problem at.learned at.assumed.items at.trail at.watches at.learned_watches at.marks.items at.base at.state c.self.invariant.standing count le within))
    ∙ ap (λ (p : Propagation). clash (propagated (record p { assumed = take count p.assumed }))) c.self.view_is
