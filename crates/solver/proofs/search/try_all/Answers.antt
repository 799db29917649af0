use Rattle.std.proofs.Common.{◌≡◌, ◌∙◌, ap, sym, subst, inr, ℕ, List, ◌++◌, get_or, take, drop}
use Rattle.std.specs.Prelude.{Contains}
use Rattle.std.proofs.lemmas.List.{take-append-drop}
use Rattle.solver.specs.inside.Trials.{Trying}
use Rattle.solver.proofs.SearchLaws.{distinct-next}
use Rattle.solver.proofs.search.try_all.Goals as goal

pub returns-then-clashes-clause-shown : goal.returns-then-clashes-clause-shown
returns-then-clashes-clause-shown c =
    let i = c.loop-variable.variable-index in
    let decisions : List ℕ = c.args.decisions.now in
    let front : c.loop-variable.trial.tried ≡ take i decisions = ap (λ (t : Trying). t.tried) c.loop-variable.invariant in
    (drop i decisions, sym (ap (λ (xs : List ℕ). xs ++ drop i decisions) front ∙ take-append-drop i decisions), inr (sym c.if-clashes.ensures))

pub decide-requires-clause-new : goal.decide-requires-clause-new
decide-requires-clause-new c = λ m.
    let i = c.loop-variable.variable-index in
    let decisions : List ℕ = c.args.decisions.now in
    distinct-next decisions i 0 c.requires.distinct c.loop-variable-test.true
    (subst (λ (xs : List ℕ). Contains xs (get_or decisions i 0)) (ap (λ (t : Trying). t.tried) c.loop-variable.invariant) m)
