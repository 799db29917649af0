use Rattle.std.proofs.Common.{◌∙◌, ap, sym, subst, ℕ, List, All, length, reverse, [], ◌∷◌, ◌++◌, ◌<◌}
use Rattle.pref_sets.specs.Preferred.{IsDistinct, IsWithin}
use Rattle.clauses.specs.Problem.{IsBelow}
use Rattle.clauses.specs.Search.{cut_after}
use Rattle.solver.specs.inside.Trials.{Trying}
use Rattle.solver.specs.inside.Searching.{AreShown, Searching, IsSearch}
use Rattle.clauses.proofs.Cuts.{cut-distinct, cut-within}
use Rattle.solver.proofs.SearchLaws.{some_without-below, within-below, search-cut, search-learns, shown-learned}
use Rattle.solver.proofs.search.Search.learn.Goals as goal

pub try_all-requires-clause-distinct : goal.try_all-requires-clause-distinct
try_all-requires-clause-distinct c =
    subst IsDistinct (sym (c.deref.ensures.value ∙ c.cut.ensures)) (cut-distinct c.self.inside.decisions.items (reverse c.args.trimmed.now) c.self.invariant.distinct)

pub try_all-requires-clause-below : goal.try_all-requires-clause-below
try_all-requires-clause-below c =
    let n = c.self.inside.trial.problem.variables in
    let decisions : List ℕ = c.self.inside.decisions.items in
    subst (All (λ v. v < n)) (sym (c.deref.ensures.value ∙ c.cut.ensures))
    (within-below n decisions (cut_after decisions (reverse c.args.trimmed.now)) c.self.invariant.below (cut-within decisions (reverse c.args.trimmed.now)))

pub invariant_of-self : goal.invariant_of-self
invariant_of-self c =
    let tried : List ℕ = c.try_all.new.trial.tried in
    subst (λ (t : Trying). IsSearch t c.cut.new.decisions.items c.self.inside.allowance 0) (sym c.try_all.ensures.same)
    (subst (λ (ds : List ℕ). IsSearch (record c.self.inside.trial { tried = tried }) ds c.self.inside.allowance 0) (sym c.cut.ensures)
    (search-cut c.self.inside.trial c.self.inside.decisions.items c.self.inside.allowance c.self.inside.settled c.self.invariant (reverse c.args.trimmed.now) tried))

pub learn-requires : goal.learn-requires
learn-requires c =
    let n = c.self.inside.trial.problem.variables in
    subst (λ (t : Trying). All (IsBelow t.problem.variables) c.deref-2.result.now) (sym c.try_all.ensures.same)
    (subst (All (IsBelow n)) (sym (c.deref-2.ensures.value ∙ c.in_ok-some_without.ensures))
    (some_without-below c.first.result n c.self.inside.decisions.items c.args.trimmed.now c.self.invariant.below
    (subst (λ (s : Searching). IsWithin c.args.trimmed.now s.decisions) (sym c.self.view_is) c.requires.part)))

pub invariant_of-self-in_err-learn : goal.invariant_of-self-in_err-learn
invariant_of-self-in_err-learn c =
    let tried : List ℕ = c.try_all.new.trial.tried in
    subst (λ (t : Trying). IsSearch t c.cut.new.decisions.items c.self.inside.allowance 0) (sym (c.in_err-learn.ensures.err ∙ c.try_all.ensures.same))
    (subst (λ (ds : List ℕ). IsSearch (record c.self.inside.trial { tried = tried }) ds c.self.inside.allowance 0) (sym c.cut.ensures)
    (search-cut c.self.inside.trial c.self.inside.decisions.items c.self.inside.allowance c.self.inside.settled c.self.invariant (reverse c.args.trimmed.now) tried))

pub invariant_of-self-2 : goal.invariant_of-self-2
invariant_of-self-2 c =
    let allowed : length c.self.inside.trial.learned < c.self.inside.allowance =
    subst (λ (s : Searching). length s.trial.learned < s.allowance) (sym c.self.view_is) c.requires.allowed in
    let tried : List ℕ = c.try_all.new.trial.tried in
    let clause = c.deref-2.result.now in
    let now = c.in_ok-learn.ensures.ok ∙ ap (λ (t : Trying). record t { learned = t.learned ++ clause ∷ [] }) c.try_all.ensures.same in
    subst (λ (t : Trying). IsSearch t c.cut.new.decisions.items c.self.inside.allowance 0) (sym now)
    (subst (λ (ds : List ℕ). IsSearch (record c.self.inside.trial { learned = c.self.inside.trial.learned ++ clause ∷ []; tried = tried }) ds c.self.inside.allowance 0) (sym c.cut.ensures)
    (search-learns c.self.inside.trial c.self.inside.decisions.items c.self.inside.allowance c.self.inside.settled c.self.invariant allowed clause (reverse c.args.trimmed.now) tried))

pub returns-clause-shown : goal.returns-clause-shown
returns-clause-shown c =
    subst (λ (t : Trying). AreShown t c.cut.new.decisions.items) (sym c.in_ok-learn.ensures.ok)
    (shown-learned c.try_all.new.trial c.cut.new.decisions.items c.deref-2.result.now
    (subst (AreShown c.try_all.new.trial) c.deref.ensures.value c.try_all.ensures.shown))
