use Rattle.std.proofs.Common.{◌≡◌, ◌∙◌, sym, ap, subst, ◌+◌, ◌<◌, ◌≤◌, false, not, length, arith}
use Rattle.std.specs.Prelude.{All}
use Rattle.std.proofs.lemmas.List.{length_push}
use Rattle.std.proofs.lemmas.List.Elements.{All-push}
use Rattle.clauses.specs.Closure.{clash}
use Rattle.clauses.specs.Problem.{IsBelow}
use Rattle.propagation.specs.Propagation.{Propagation, all_of, propagated}
use Rattle.propagation.specs.declared.state.State.TheVariants as state
use Rattle.propagation.specs.inside.Levels.{HasState, IsStanding, IsTop}
use Rattle.propagation.specs.inside.UpToDate.{is_rest}
use Rattle.propagation.proofs.StateLaws.{assumed-more, brought-rest, brought-state, not-not, state-answers, state-rests}
use Rattle.propagation.proofs.propagator.Propagator.assume.Goals as goal

pub bring_all-fits-requires-clause-standing : goal.bring_all-fits-requires-clause-standing
bring_all-fits-requires-clause-standing c =
    let no_clash : clash (all_of c.self.inside.problem.clauses c.self.inside.learned c.self.inside.assumed.items) ≡ false = ap (λ (at : Propagation). clash (propagated at)) c.self.view_is ∙ c.requires.no_clash in
    let is : HasState c.self.inside.problem c.self.inside.learned c.self.inside.assumed.items c.self.inside.trail c.self.inside.watches c.self.inside.learned_watches c.self.inside.marks.items c.self.inside.base state.Rests = subst (HasState c.self.inside.problem c.self.inside.learned c.self.inside.assumed.items c.self.inside.trail c.self.inside.watches c.self.inside.learned_watches c.self.inside.marks.items c.self.inside.base) (state-rests c.self.inside.problem c.self.inside.learned c.self.inside.assumed.items c.self.inside.trail c.self.inside.watches c.self.inside.learned_watches c.self.inside.marks.items c.self.inside.base c.self.inside.state c.self.invariant.standing no_clash) c.self.invariant.standing in
    subst (λ cs. IsStanding c.self.inside.problem cs c.as_slice.result.now c.self.inside.trail c.self.inside.watches c.self.inside.learned_watches c.self.inside.marks.items c.self.inside.base) (sym c.self.invariant.in_row)
    (subst (λ a. IsStanding c.self.inside.problem c.self.inside.learned a c.self.inside.trail c.self.inside.watches c.self.inside.learned_watches c.self.inside.marks.items c.self.inside.base) (sym (c.as_slice.ensures.value ∙ c.push_reserved.ensures.items))
    (assumed-more c.self.inside.problem c.self.inside.learned c.self.inside.assumed.items c.self.inside.trail c.self.inside.watches c.self.inside.learned_watches c.self.inside.marks.items c.self.inside.base is c.args.lit).0)

pub bring_all-fits-requires-clause-top : goal.bring_all-fits-requires-clause-top
bring_all-fits-requires-clause-top c =
    let no_clash : clash (all_of c.self.inside.problem.clauses c.self.inside.learned c.self.inside.assumed.items) ≡ false = ap (λ (at : Propagation). clash (propagated at)) c.self.view_is ∙ c.requires.no_clash in
    let is : HasState c.self.inside.problem c.self.inside.learned c.self.inside.assumed.items c.self.inside.trail c.self.inside.watches c.self.inside.learned_watches c.self.inside.marks.items c.self.inside.base state.Rests = subst (HasState c.self.inside.problem c.self.inside.learned c.self.inside.assumed.items c.self.inside.trail c.self.inside.watches c.self.inside.learned_watches c.self.inside.marks.items c.self.inside.base) (state-rests c.self.inside.problem c.self.inside.learned c.self.inside.assumed.items c.self.inside.trail c.self.inside.watches c.self.inside.learned_watches c.self.inside.marks.items c.self.inside.base c.self.inside.state c.self.invariant.standing no_clash) c.self.invariant.standing in
    subst (λ cs. IsTop c.self.inside.problem cs c.as_slice.result.now c.self.inside.trail c.self.inside.watches c.self.inside.learned_watches c.self.inside.marks.items) (sym c.self.invariant.in_row)
    (subst (λ a. IsTop c.self.inside.problem c.self.inside.learned a c.self.inside.trail c.self.inside.watches c.self.inside.learned_watches c.self.inside.marks.items) (sym (c.as_slice.ensures.value ∙ c.push_reserved.ensures.items))
    (assumed-more c.self.inside.problem c.self.inside.learned c.self.inside.assumed.items c.self.inside.trail c.self.inside.watches c.self.inside.learned_watches c.self.inside.marks.items c.self.inside.base is c.args.lit).1)

pub invariant_of-self : goal.invariant_of-self
invariant_of-self c =
    let all = c.bring_all-fits.ensures.all in
    let standing : HasState c.self.inside.problem c.self.inside.learned c.as_slice.result.now c.bring_all-fits.new.trail c.bring_all-fits.new.own c.bring_all-fits.new.more c.bring_all-fits.new.marks.items c.self.inside.base c.brought-self-inside.result =
    subst (λ cs. HasState c.self.inside.problem cs c.as_slice.result.now c.bring_all-fits.new.trail c.bring_all-fits.new.own c.bring_all-fits.new.more c.bring_all-fits.new.marks.items c.self.inside.base c.brought-self-inside.result) c.self.invariant.in_row
    (brought-state c.self.inside.problem c.self.inside.flat c.as_slice.result.now c.bring_all-fits.new.trail c.bring_all-fits.new.own c.bring_all-fits.new.more c.bring_all-fits.new.marks.items c.self.inside.base c.bring_all-fits.result c.brought-self-inside.result c.brought-self-inside.ensures.fits c.brought-self-inside.ensures.clashes c.bring_all-fits.ensures.standing c.bring_all-fits.ensures.top c.bring_all-fits.ensures.all c.bring_all-fits.ensures.some) in
    let below : c.args.lit.var < c.self.inside.problem.variables = subst (λ (at : Propagation). c.args.lit.var < at.problem.variables) (sym c.self.view_is) c.requires.variable in
    let few : length c.self.inside.assumed.items < c.self.inside.problem.variables + 4096 = subst (λ (at : Propagation). length at.assumed < at.problem.variables + 4096) (sym c.self.view_is) c.requires.few in
    let pushed = c.push_reserved.ensures.items in
    record {
      problem = c.self.invariant.problem;
      assumed_below = subst (All (IsBelow c.self.inside.problem.variables)) (sym pushed) (All-push (IsBelow c.self.inside.problem.variables) c.self.inside.assumed.items c.args.lit c.self.invariant.assumed_below below);
      learned_below = c.self.invariant.learned_below;
      in_row = c.self.invariant.in_row;
      few = (let size = ap length pushed ∙ length_push c.self.inside.assumed.items c.args.lit in omega arith);
      reserved = subst (λ n. c.self.inside.problem.variables + 4096 ≤ n) (sym c.push_reserved.ensures.capacity) c.self.invariant.reserved;
      marks_reserved = subst (λ n. c.self.inside.problem.variables + 4096 ≤ n) (sym c.bring_all-fits.ensures.room) c.self.invariant.marks_reserved;
      standing = subst (λ a. HasState c.self.inside.problem c.self.inside.learned a c.bring_all-fits.new.trail c.bring_all-fits.new.own c.bring_all-fits.new.more c.bring_all-fits.new.marks.items c.self.inside.base c.brought-self-inside.result) c.as_slice.ensures.value standing;
    }

pub returns-clause-no_clash : goal.returns-clause-no_clash
returns-clause-no_clash c =
    let all = c.bring_all-fits.ensures.all in
    let standing : HasState c.self.inside.problem c.self.inside.learned c.as_slice.result.now c.bring_all-fits.new.trail c.bring_all-fits.new.own c.bring_all-fits.new.more c.bring_all-fits.new.marks.items c.self.inside.base c.brought-self-inside.result =
    subst (λ cs. HasState c.self.inside.problem cs c.as_slice.result.now c.bring_all-fits.new.trail c.bring_all-fits.new.own c.bring_all-fits.new.more c.bring_all-fits.new.marks.items c.self.inside.base c.brought-self-inside.result) c.self.invariant.in_row
    (brought-state c.self.inside.problem c.self.inside.flat c.as_slice.result.now c.bring_all-fits.new.trail c.bring_all-fits.new.own c.bring_all-fits.new.more c.bring_all-fits.new.marks.items c.self.inside.base c.bring_all-fits.result c.brought-self-inside.result c.brought-self-inside.ensures.fits c.brought-self-inside.ensures.clashes c.bring_all-fits.ensures.standing c.bring_all-fits.ensures.top c.bring_all-fits.ensures.all c.bring_all-fits.ensures.some) in
    let rests : c.bring_all-fits.result ≡ is_rest c.brought-self-inside.result = brought-rest c.bring_all-fits.result c.brought-self-inside.result c.brought-self-inside.ensures.fits c.brought-self-inside.ensures.clashes in
    rests ∙ not-not (is_rest c.brought-self-inside.result) ∙ ap not (sym (state-answers c.self.inside.problem c.self.inside.learned c.as_slice.result.now c.bring_all-fits.new.trail c.bring_all-fits.new.own c.bring_all-fits.new.more c.bring_all-fits.new.marks.items c.self.inside.base c.brought-self-inside.result standing))
    ∙ ap (λ a. not (clash (all_of c.self.inside.problem.clauses c.self.inside.learned a))) c.as_slice.ensures.value
