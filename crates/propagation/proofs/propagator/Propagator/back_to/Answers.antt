use Rattle.std.proofs.Common.{◌≡◌, ◌∙◌, sym, ap, subst, ℕ, ◌+◌, ◌<◌, ◌≤◌, List, length, get_or, take, arith}
use Rattle.std.specs.Prelude.{All}
use Rattle.std.proofs.lemmas.List.{length-take-le, get_or_default}
use Rattle.std.proofs.lemmas.List.Elements.{All-contains}
use Rattle.clauses.specs.declared.literal.Lit.{Lit}
use Rattle.clauses.specs.Problem.{IsBelow}
use Rattle.propagation.specs.Propagation.{Propagation}
use Rattle.propagation.specs.declared.state.State.TheVariants as state
use Rattle.propagation.specs.inside.Levels.{HasState}
use Rattle.propagation.specs.inside.Trails.{Trailing}
use Rattle.propagation.proofs.PropagateLaws.{take-subset}
use Rattle.propagation.proofs.StateLaws.{fewer-above, fewer-below}
use Rattle.propagation.proofs.ValueLaws.{All-members}
use Rattle.propagation.proofs.propagator.Propagator.back_to.Goals as goal

all-taken : (n count : ℕ) (ls : List Lit) → All (IsBelow n) ls → All (IsBelow n) (take count ls)
all-taken n count ls all = All-members (IsBelow n) (take count ls) (λ l m. All-contains (IsBelow n) ls l all (take-subset count ls l m))

pub invariant_of-self : goal.invariant_of-self
invariant_of-self c =
    let count = c.args.count in
    let assumed : List Lit = c.self.inside.assumed.items in
    let kept : c.truncate.new.self.items ≡ take count assumed = c.truncate.ensures.items in
    let within : count ≤ length assumed = subst (λ (at : Propagation). count ≤ length at.assumed) (sym c.self.view_is) c.requires in
    let le : length c.self.inside.marks.items ≤ count = (let t = c.if-count-len.true in let l = c.len.ensures in omega arith) in
    record {
      problem = c.self.invariant.problem;
      assumed_below = subst (All (IsBelow c.self.inside.problem.variables)) (sym kept) (all-taken c.self.inside.problem.variables count assumed c.self.invariant.assumed_below);
      learned_below = c.self.invariant.learned_below;
      in_row = c.self.invariant.in_row;
      few = (let size = ap length kept ∙ length-take-le count assumed within in let f = c.self.invariant.few in omega arith);
      reserved = subst (λ n. c.self.inside.problem.variables + 4096 ≤ n) (sym c.truncate.ensures.capacity) c.self.invariant.reserved;
      marks_reserved = c.self.invariant.marks_reserved;
      standing =
          subst (λ a. HasState c.self.inside.problem c.self.inside.learned a c.self.inside.trail c.self.inside.watches c.self.inside.learned_watches c.self.inside.marks.items c.self.inside.base c.self.inside.state) (sym kept)
          (fewer-above c.self.inside.problem c.self.inside.learned c.self.inside.assumed.items c.self.inside.trail c.self.inside.watches c.self.inside.learned_watches c.self.inside.marks.items c.self.inside.base c.self.inside.state c.self.invariant.standing count le within);
    }

pub invariant_of-self-2 : goal.invariant_of-self-2
invariant_of-self-2 c =
    let count = c.args.count in
    let assumed : List Lit = c.self.inside.assumed.items in
    let marks : List ℕ = c.self.inside.marks.items in
    let kept : c.truncate-3.new.self.items ≡ take count assumed = c.truncate-3.ensures.items in
    let marked : c.truncate-2.new.self.items ≡ take count marks = c.truncate-2.ensures.items in
    let within : count ≤ length assumed = subst (λ (at : Propagation). count ≤ length at.assumed) (sym c.self.view_is) c.requires in
    let inside : count < length marks = (let t = c.if-count-len.false in let l = c.len.ensures in omega arith) in
    let cut : c.cut.new.self ≡ record c.self.inside.trail { literals = take (get_or marks count 0) c.self.inside.trail.literals } =
    c.cut.ensures ∙ ap (λ n. record c.self.inside.trail { literals = take n c.self.inside.trail.literals }) (c.index.ensures ∙ get_or_default marks count c.index.result.now 0 inside) in
    record {
      problem = c.self.invariant.problem;
      assumed_below = subst (All (IsBelow c.self.inside.problem.variables)) (sym kept) (all-taken c.self.inside.problem.variables count assumed c.self.invariant.assumed_below);
      learned_below = c.self.invariant.learned_below;
      in_row = c.self.invariant.in_row;
      few = (let size = ap length kept ∙ length-take-le count assumed within in let f = c.self.invariant.few in omega arith);
      reserved = subst (λ n. c.self.inside.problem.variables + 4096 ≤ n) (sym c.truncate-3.ensures.capacity) c.self.invariant.reserved;
      marks_reserved = subst (λ n. c.self.inside.problem.variables + 4096 ≤ n) (sym c.truncate-2.ensures.capacity) c.self.invariant.marks_reserved;
      standing =
          subst (λ a. HasState c.self.inside.problem c.self.inside.learned a c.cut.new.self c.self.inside.watches c.self.inside.learned_watches c.truncate-2.new.self.items c.self.inside.base state.Rests) (sym kept)
          (subst (λ ms. HasState c.self.inside.problem c.self.inside.learned (take count assumed) c.cut.new.self c.self.inside.watches c.self.inside.learned_watches ms c.self.inside.base state.Rests) (sym marked)
          (subst (λ (t : Trailing). HasState c.self.inside.problem c.self.inside.learned (take count assumed) t c.self.inside.watches c.self.inside.learned_watches (take count marks) c.self.inside.base state.Rests) (sym cut)
          (fewer-below c.self.inside.problem c.self.inside.learned c.self.inside.assumed.items c.self.inside.trail c.self.inside.watches c.self.inside.learned_watches c.self.inside.marks.items c.self.inside.base c.self.inside.state c.self.invariant.standing count inside within)));
    }
