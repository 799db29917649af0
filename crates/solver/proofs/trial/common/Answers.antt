use Rattle.std.proofs.Common.{◌≡◌, ◌∙◌, ◌+◌, ◌≤◌, ℕ, List, false, arith, length, map, subst, sym, take}
use Rattle.std.proofs.lemmas.List.{take_all}
use Rattle.pref_sets.specs.Preferred.{IsWithin}
use Rattle.clauses.specs.declared.literal.Lit.{Lit}
use Rattle.solver.proofs.TrialLaws.{common-all, common-next, common-stays}
use Rattle.solver.proofs.trial.common.Goals.{then-kept-tried+then-tried-kept, else-kept-tried}
use Rattle.solver.proofs.trial.common.Goals as goal

pub loop-number-preserved : goal.loop-number-preserved
loop-number-preserved c =
    elim c.if-kept-tried.branch [
      | then-kept-tried+then-tried-kept w ↦ record {
        most = omega arith;
        few = (let few = c.loop-number.invariant.few in let kept = w.kept-is in omega arith);
        whole = (λ e.
            let same : c.loop-number.kept ≡ c.loop-number.number-index = (let kept = w.kept-is in omega arith) in
            subst (λ n. take (c.loop-number.number-index + 1) c.args.numbers.now ≡ take n (map (λ (l : Lit). l.var) c.args.tried.now)) (sym w.kept-is)
            (common-all c.args.tried.now (record { var = 0; positive = false }) c.args.numbers.now c.loop-number.kept c.loop-number.number-index w.if-kept-tried.true c.loop-number-test.true w.if-tried-kept.true
            (c.loop-number.invariant.whole same)));
        within = subst (λ n. IsWithin (take n (map (λ (l : Lit). l.var) c.args.tried.now)) (take (c.loop-number.number-index + 1) c.args.numbers.now)) (sym w.kept-is)
            (common-next c.args.tried.now (record { var = 0; positive = false }) c.args.numbers.now c.loop-number.kept c.loop-number.number-index w.if-kept-tried.true c.loop-number-test.true w.if-tried-kept.true
            c.loop-number.invariant.within);
      }
      | else-kept-tried w ↦ record {
        most = subst (λ n. n ≤ length c.args.tried.now) (sym w.kept-is) c.loop-number.invariant.most;
        few = (let few = c.loop-number.invariant.few in let kept = w.kept-is in omega arith);
        whole = (λ e. let few = c.loop-number.invariant.few in let kept = w.kept-is in absurd (omega arith));
        within = subst (λ n. IsWithin (take n (map (λ (l : Lit). l.var) c.args.tried.now)) (take (c.loop-number.number-index + 1) c.args.numbers.now)) (sym w.kept-is)
            (common-stays (take c.loop-number.kept (map (λ (l : Lit). l.var) c.args.tried.now)) c.args.numbers.now c.loop-number.number-index c.loop-number-test.true c.loop-number.invariant.within);
      }
    ]

pub returns-clause-whole : goal.returns-clause-whole
returns-clause-whole c e =
    let few = c.loop-number.invariant.few in
    sym (take_all c.loop-number.number-index c.args.numbers.now (omega arith)) ∙ c.loop-number.invariant.whole (omega arith)

pub returns-clause-within : goal.returns-clause-within
returns-clause-within c =
    subst (λ (numbers : List ℕ). IsWithin (take c.loop-number.kept (map (λ (l : Lit). l.var) c.args.tried.now)) numbers)
    (take_all c.loop-number.number-index c.args.numbers.now (omega arith)) c.loop-number.invariant.within
