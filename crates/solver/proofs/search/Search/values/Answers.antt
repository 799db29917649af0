use Rattle.std.proofs.Common.{◌≡◌, ◌∙◌, ap, sym, arith, ℕ, Bool, List, map, ◌++◌, ◌∷◌, []}
use Rattle.std.specs.List.{range_with_len}
use Rattle.std.proofs.lemmas.List.FromFn.{map-range_with_len_more}
use Rattle.clauses.specs.Clause.{has, positive_of}
use Rattle.clauses.specs.Closure.{clash, closure}
use Rattle.propagation.specs.Propagation.{value_of}
use Rattle.solver.specs.inside.Trials.{with_tried}
use Rattle.solver.specs.inside.Searching.{Searching, all_under}
use Rattle.solver.proofs.SearchLaws.{shown-no_clash, shown-value, value-equals}
use Rattle.solver.proofs.search.Search.values.Goals as goal

pub value-requires-clause-no_clash : goal.value-requires-clause-no_clash
value-requires-clause-no_clash c = ap (λ (s : Searching). clash (with_tried s.trial s.trial.tried)) c.self.view_is ∙ shown-no_clash c.args.self.now c.requires.shown c.requires.no_clash

pub loop-variable-preserved : goal.loop-variable-preserved
loop-variable-preserved c =
    let now : Searching = c.args.self.now in
    let v = c.loop-variable.variable in
    let test = λ (x : ℕ). has (closure (all_under now)) (positive_of x) in
    let value : c.value.result ≡ value_of (all_under now) v =
    c.value.ensures ∙ ap (λ (s : Searching). value_of (with_tried s.trial s.trial.tried) v) c.self.view_is ∙ shown-value now c.requires.shown c.requires.no_clash v in
    c.in_ok-push.ensures.ok
    ∙ ap (λ (values : List Bool). values ++ c.eq.result ∷ []) c.loop-variable.invariant
    ∙ ap (λ (b : Bool). map test (range_with_len 0 v) ++ b ∷ []) (c.eq.ensures ∙ value-equals (all_under now) v c.value.result value)
    ∙ sym (map-range_with_len_more test 0 v v (omega arith))
