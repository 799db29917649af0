use Rattle.std.proofs.Common.{◌∙◌, ap, sym, subst, ℕ, List, ◌++◌, ◌∷◌, [], ◌<◌}
use Rattle.std.specs.Prelude.{Contains}
use Rattle.clauses.specs.Closure.{clash}
use Rattle.solver.specs.inside.Trials.{Trying, with_tried}
use Rattle.solver.specs.inside.Searching.{AreSettled, Searching, IsSearch}
use Rattle.solver.proofs.SearchLaws.{shown-no_clash, shown-all, search-decides}
use Rattle.solver.proofs.search.Search.decide.Goals as goal

pub decide-requires-clause-no_clash : goal.decide-requires-clause-no_clash
decide-requires-clause-no_clash c = ap (λ (s : Searching). clash (with_tried s.trial s.trial.tried)) c.self.view_is ∙ shown-no_clash c.args.self.now c.requires.shown c.requires.no_clash

pub decide-requires-clause-new : goal.decide-requires-clause-new
decide-requires-clause-new c = λ m.
    let all = ap (λ (s : Searching). s.trial.tried) c.self.view_is ∙ shown-all c.args.self.now c.requires.shown c.requires.no_clash in
    c.requires.new (subst (λ (vs : List ℕ). Contains vs c.args.variable) all m)

pub invariant_of-self-2 : goal.invariant_of-self-2
invariant_of-self-2 c =
    let v = c.args.variable in
    let more = search-decides c.self.inside.trial c.self.inside.decisions.items c.self.inside.allowance c.self.inside.settled v c.self.invariant
    (subst (λ (s : Searching). v < s.trial.problem.variables) (sym c.self.view_is) c.requires.variable)
    (subst (λ (s : Searching). ¬ Contains s.decisions v) (sym c.self.view_is) c.requires.new)
    (subst (λ (s : Searching). AreSettled s v) (sym c.self.view_is) c.requires.settled)
    (c.self.inside.trial.tried ++ v ∷ []) in
    subst (λ (t : Trying). IsSearch t c.push.new.self.items c.self.inside.allowance v) (sym c.decide.ensures.tried)
    (subst (λ (ds : List ℕ). IsSearch (record c.self.inside.trial { tried = c.self.inside.trial.tried ++ v ∷ [] }) ds c.self.inside.allowance v) (sym c.in_ok-push.ensures.items) more)

pub returns-clause-trial : goal.returns-clause-trial
returns-clause-trial c =
    let now : Searching = c.args.self.now in
    let v = c.args.variable in
    c.decide.ensures.tried
    ∙ ap (λ (s : Searching). record s.trial { tried = s.trial.tried ++ v ∷ [] }) c.self.view_is
    ∙ ap (λ (vs : List ℕ). record now.trial { tried = vs ++ v ∷ [] }) (shown-all now c.requires.shown c.requires.no_clash)
