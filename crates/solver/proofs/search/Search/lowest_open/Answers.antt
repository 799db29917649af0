use Rattle.std.proofs.Common.{◌≡◌, ◌∙◌, ap, arith, below_more}
use Rattle.clauses.specs.Closure.{clash}
use Rattle.clauses.specs.Problem.{ClauseProblem}
use Rattle.propagation.specs.Propagation.{value_of}
use Rattle.solver.specs.inside.Trials.{with_tried}
use Rattle.solver.specs.inside.Searching.{Searching, all_under, is_open}
use Rattle.solver.proofs.SearchLaws.{shown-no_clash, shown-value, value-closed, value-open, none-pass, first-passes}
use Rattle.solver.proofs.search.Search.lowest_open.Goals as goal

pub value-requires-clause-no_clash : goal.value-requires-clause-no_clash
value-requires-clause-no_clash c = ap (λ (s : Searching). clash (with_tried s.trial s.trial.tried)) c.self.view_is ∙ shown-no_clash c.args.self.now c.requires.shown c.requires.no_clash

pub returns-then-is_none-clause-some : goal.returns-then-is_none-clause-some
returns-then-is_none-clause-some c =
    let now : Searching = c.args.self.now in
    let v = c.loop-variable.variable in
    let bound : c.behind-self.inside.variables ≡ now.trial.problem.variables =
    ap (λ (p : ClauseProblem). p.variables) (c.behind-self.view_is ∙ c.problem.ensures.problem ∙ ap (λ (s : Searching). s.trial.problem) c.self.view_is) in
    let value : c.value.result ≡ value_of (all_under now) v =
    c.value.ensures ∙ ap (λ (s : Searching). value_of (with_tried s.trial s.trial.tried) v) c.self.view_is ∙ shown-value now c.requires.shown c.requires.no_clash v in
    first-passes (is_open (all_under now)) 0 now.trial.problem.variables v (omega arith) (omega arith) (λ x low high. c.loop-variable.invariant x high)
    (value-open (all_under now) v c.value.result value c.if-is_none.ensures)

pub loop-variable-preserved : goal.loop-variable-preserved
loop-variable-preserved c =
    let now : Searching = c.args.self.now in
    let v = c.loop-variable.variable in
    let value : c.value.result ≡ value_of (all_under now) v =
    c.value.ensures ∙ ap (λ (s : Searching). value_of (with_tried s.trial s.trial.tried) v) c.self.view_is ∙ shown-value now c.requires.shown c.requires.no_clash v in
    below_more _ _ c.loop-variable.invariant (value-closed (all_under now) v c.value.result value c.if-is_none.ensures)

pub returns-clause-none : goal.returns-clause-none
returns-clause-none c = λ _.
    let now : Searching = c.args.self.now in
    let bound : c.behind-self.inside.variables ≡ now.trial.problem.variables =
    ap (λ (p : ClauseProblem). p.variables) (c.behind-self.view_is ∙ c.problem.ensures.problem ∙ ap (λ (s : Searching). s.trial.problem) c.self.view_is) in
    none-pass (is_open (all_under now)) 0 now.trial.problem.variables (λ v low high. c.loop-variable.invariant v (omega arith))
