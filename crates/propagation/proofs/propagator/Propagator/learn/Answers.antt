use Rattle.std.proofs.Common.{◌≡◌, ◌∙◌, sym, ap, subst, ◌+◌, ◌≤◌, not, List, [], ◌∷◌, ◌++◌, ◌-◌, get_or, length, vec_capacity, arith}
use Rattle.std.specs.Prelude.{All}
use Rattle.std.proofs.lemmas.List.Elements.{All-push}
use Rattle.clauses.specs.declared.literal.Lit.{Lit}
use Rattle.clauses.specs.Closure.{clash}
use Rattle.clauses.specs.Problem.{IsBelow}
use Rattle.propagation.specs.Propagation.{Propagation, all_of}
use Rattle.propagation.specs.inside.Levels.{HasState, front, last}
use Rattle.propagation.specs.inside.UpToDate.{IsUpToDate, is_rest}
use Rattle.propagation.proofs.StateLaws.{front-push, last-push, not-not, state-answers, state-room}
use Rattle.propagation.proofs.propagator.Propagator.learn.Goals as goal

pub learn_in-self-inside-requires : goal.learn_in-self-inside-requires
learn_in-self-inside-requires c =
    let clause = c.args.clause.now in
    let learned = c.self.inside.learned in
    let pushed : c.keep.new.flat ≡ learned ++ clause ∷ [] = c.in_ok-keep.ensures.flat ∙ ap (λ cs. cs ++ clause ∷ []) c.self.invariant.in_row in
    let below : All (IsBelow c.self.inside.problem.variables) clause = subst (λ (at : Propagation). All (IsBelow at.problem.variables) clause) (sym c.self.view_is) c.requires in
    let there : c.get-last.result.now ≡ last c.keep.new.flat = c.get-last.ensures ∙ ap (λ n. get_or c.keep.new.flat (n - 1) []) c.len.ensures in
    let is_clause : c.get-last.result.now ≡ clause = there ∙ ap last pushed ∙ last-push learned clause in
    let same : c.as_slice.result.now ≡ c.self.inside.assumed.items = c.as_slice.ensures.value in
    record {
      state =
          subst (λ cs. HasState c.self.inside.problem (front cs) c.as_slice.result.now c.self.inside.trail c.self.inside.watches c.reserve.new.self c.self.inside.marks.items c.self.inside.base c.self.inside.state) (sym pushed)
          (subst (λ cs. HasState c.self.inside.problem cs c.as_slice.result.now c.self.inside.trail c.self.inside.watches c.reserve.new.self c.self.inside.marks.items c.self.inside.base c.self.inside.state) (sym (front-push learned clause))
          (subst (λ a. HasState c.self.inside.problem learned a c.self.inside.trail c.self.inside.watches c.reserve.new.self c.self.inside.marks.items c.self.inside.base c.self.inside.state) (sym same)
          (state-room c.self.inside.problem c.self.inside.learned c.self.inside.assumed.items c.self.inside.trail c.self.inside.watches c.self.inside.learned_watches c.reserve.new.self c.self.inside.marks.items c.self.inside.base c.in_ok-reserve.ensures.variables c.in_ok-reserve.ensures.watched c.in_ok-reserve.ensures.pairs c.self.inside.state c.self.invariant.standing)));
      learned =
          pushed ∙ sym (ap (λ cs. front cs ++ last cs ∷ []) pushed ∙ ap (λ cs. cs ++ last (learned ++ clause ∷ []) ∷ []) (front-push learned clause) ∙ ap (λ (k : List Lit). learned ++ k ∷ []) (last-push learned clause));
      clause = there;
      below = subst (All (IsBelow c.self.inside.problem.variables)) (sym is_clause) below;
      room = c.in_ok-reserve.ensures.room;
      marks_room = (let size = ap length same in let f = c.self.invariant.few in let r = c.self.invariant.marks_reserved in omega arith);
      assumed_below = subst (All (IsBelow c.self.inside.problem.variables)) (sym same) c.self.invariant.assumed_below;
    }

pub invariant_of-self : goal.invariant_of-self
invariant_of-self c =
    record {
      problem = c.self.invariant.problem;
      assumed_below = c.self.invariant.assumed_below;
      learned_below = c.self.invariant.learned_below;
      in_row = c.self.invariant.in_row;
      few = c.self.invariant.few;
      reserved = c.self.invariant.reserved;
      marks_reserved = c.self.invariant.marks_reserved;
      standing = state-room c.self.inside.problem c.self.inside.learned c.self.inside.assumed.items c.self.inside.trail c.self.inside.watches c.self.inside.learned_watches c.reserve.new.self c.self.inside.marks.items c.self.inside.base c.in_err-reserve.ensures.variables c.in_err-reserve.ensures.watched c.in_err-reserve.ensures.pairs c.self.inside.state c.self.invariant.standing;
    }

pub invariant_of-self-in_err-keep : goal.invariant_of-self-in_err-keep
invariant_of-self-in_err-keep c =
    subst (λ cs. IsUpToDate (record { problem = c.self.inside.problem; assumed = c.self.inside.assumed.items; learned = cs }) c.keep.new.flat c.self.inside.trail c.self.inside.watches c.reserve.new.self c.self.inside.marks.items c.self.inside.base c.self.inside.state (vec_capacity c.self.inside.assumed) (vec_capacity c.self.inside.marks)) (sym c.in_err-keep.ensures.learned_err)
    (record {
      problem = c.self.invariant.problem;
      assumed_below = c.self.invariant.assumed_below;
      learned_below = c.self.invariant.learned_below;
      in_row = c.in_err-keep.ensures.flat_err ∙ c.self.invariant.in_row;
      few = c.self.invariant.few;
      reserved = c.self.invariant.reserved;
      marks_reserved = c.self.invariant.marks_reserved;
      standing = state-room c.self.inside.problem c.self.inside.learned c.self.inside.assumed.items c.self.inside.trail c.self.inside.watches c.self.inside.learned_watches c.reserve.new.self c.self.inside.marks.items c.self.inside.base c.in_ok-reserve.ensures.variables c.in_ok-reserve.ensures.watched c.in_ok-reserve.ensures.pairs c.self.inside.state c.self.invariant.standing;
    })

pub invariant_of-self-2 : goal.invariant_of-self-2
invariant_of-self-2 c =
    let clause = c.args.clause.now in
    let learned = c.self.inside.learned in
    let pushed : c.keep.new.learned ≡ learned ++ clause ∷ [] = c.in_ok-keep.ensures.learned in
    let row : c.keep.new.flat ≡ c.keep.new.learned = c.in_ok-keep.ensures.flat ∙ ap (λ cs. cs ++ clause ∷ []) c.self.invariant.in_row ∙ sym pushed in
    let below : All (IsBelow c.self.inside.problem.variables) clause = subst (λ (at : Propagation). All (IsBelow at.problem.variables) clause) (sym c.self.view_is) c.requires in
    record {
      problem = c.self.invariant.problem;
      assumed_below = c.self.invariant.assumed_below;
      learned_below = subst (All (All (IsBelow c.self.inside.problem.variables))) (sym pushed) (All-push (All (IsBelow c.self.inside.problem.variables)) learned clause c.self.invariant.learned_below below);
      in_row = row;
      few = c.self.invariant.few;
      reserved = c.self.invariant.reserved;
      marks_reserved = subst (λ n. c.self.inside.problem.variables + 4096 ≤ n) (sym c.learn_in-self-inside.ensures.room) c.self.invariant.marks_reserved;
      standing =
          subst (λ a. HasState c.self.inside.problem c.keep.new.learned a c.learn_in-self-inside.new.trail c.learn_in-self-inside.new.own c.learn_in-self-inside.new.more c.learn_in-self-inside.new.marks.items c.self.inside.base c.learn_in-self-inside.result) c.as_slice.ensures.value
          (subst (λ cs. HasState c.self.inside.problem cs c.as_slice.result.now c.learn_in-self-inside.new.trail c.learn_in-self-inside.new.own c.learn_in-self-inside.new.more c.learn_in-self-inside.new.marks.items c.self.inside.base c.learn_in-self-inside.result) row
          c.learn_in-self-inside.ensures.state);
    }

pub returns-clause-no_clash : goal.returns-clause-no_clash
returns-clause-no_clash c =
    let clause = c.args.clause.now in
    let row : c.keep.new.flat ≡ c.keep.new.learned = c.in_ok-keep.ensures.flat ∙ ap (λ cs. cs ++ clause ∷ []) c.self.invariant.in_row ∙ sym c.in_ok-keep.ensures.learned in
    c.is_rest.ensures ∙ not-not (is_rest c.learn_in-self-inside.result) ∙ ap not (sym (state-answers c.self.inside.problem c.keep.new.flat c.as_slice.result.now c.learn_in-self-inside.new.trail c.learn_in-self-inside.new.own c.learn_in-self-inside.new.more c.learn_in-self-inside.new.marks.items c.self.inside.base c.learn_in-self-inside.result c.learn_in-self-inside.ensures.state))
    ∙ ap (λ a. not (clash (all_of c.self.inside.problem.clauses c.keep.new.flat a))) c.as_slice.ensures.value
    ∙ ap (λ cs. not (clash (all_of c.self.inside.problem.clauses cs c.self.inside.assumed.items))) row
