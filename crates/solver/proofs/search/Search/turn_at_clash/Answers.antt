use Rattle.std.proofs.Common.{◌≡◌, ◌∙◌, ap, sym, subst, ℕ, Bool, List, [], ◌∷◌, ◌++◌, length, reverse, arith}
use Rattle.std.specs.Prelude.{Contains, vec_len}
use Rattle.std.proofs.lemmas.Bool.{false≢true, eq-eqb}
use Rattle.pref_sets.specs.Trimmed.{IsTrimmed}
use Rattle.clauses.specs.Closure.{clash}
use Rattle.clauses.specs.Search.{GoesOn, some_without, cut_after, needed_decisions}
use Rattle.solver.specs.inside.Trials.{Clashes}
use Rattle.solver.specs.inside.Searching.{Searching, clauses_of, all_under}
use Rattle.solver.proofs.SearchLaws.{clashes-there, trimmed-needed, trimmed-part, turn-learns}
use Rattle.solver.proofs.search.Search.turn_at_clash.Goals as goal

pub trim-requires-clause-yes : goal.trim-requires-clause-yes
trim-requires-clause-yes c =
    subst (Clashes c.self.inside.trial) (sym c.deref.ensures.value)
    (clashes-there c.self.inside.trial c.self.inside.decisions.items c.self.invariant.below
    (ap (λ (s : Searching). clash (all_under s)) c.self.view_is ∙ c.requires.clash))

pub learn-requires-clause-part : goal.learn-requires-clause-part
learn-requires-clause-part c = λ v m.
    trimmed-part c.self.inside.trial c.self.inside.decisions.items c.self.invariant.below c.in_ok-trimmed.trimmed
    (subst (λ (items : List ℕ). IsTrimmed (Clashes c.self.inside.trial) items c.in_ok-trimmed.trimmed) c.deref.ensures.value c.in_ok-trimmed.ensures.trimmed)
    v (subst (λ (items : List ℕ). Contains items v) c.as_slice.ensures m)

pub returns-clause-turn : goal.returns-clause-turn
returns-clause-turn c =
    let now : Searching = c.args.self.now in
    let decisions : List ℕ = c.self.inside.decisions.items in
    let left : List ℕ = c.as_slice.result.now in
    let trimmed : left ≡ needed_decisions now.trial.first (clauses_of now.trial ++ now.trial.learned) now.decisions =
    c.as_slice.ensures
    ∙ trimmed-needed c.self.inside.trial decisions c.self.invariant.below c.in_ok-trimmed.trimmed
    (subst (λ (items : List ℕ). IsTrimmed (Clashes c.self.inside.trial) items c.in_ok-trimmed.trimmed) c.deref.ensures.value c.in_ok-trimmed.ensures.trimmed)
    ∙ ap (λ (s : Searching). needed_decisions s.trial.first (clauses_of s.trial ++ s.trial.learned) s.decisions) c.self.view_is in
    let some : ¬ now.decisions ≡ [] = λ none.
    let empty : length c.self.inside.decisions.items ≡ 0 = ap (λ (s : Searching). length s.decisions) c.self.view_is ∙ ap length none in
    let size : vec_len c.self.inside.decisions ≡ 0 = omega arith in
    false≢true (sym c.if-is_empty.false ∙ c.is_empty.ensures ∙ eq-eqb (vec_len c.self.inside.decisions) 0 size) in
    let more : ¬ length now.trial.learned ≡ now.allowance = λ all.
    false≢true (sym c.if-is_spent.false ∙ c.is_spent.ensures ∙ eq-eqb (length now.trial.learned) now.allowance all) in
    let learned : c.learn.new.self.trial.learned ≡ now.trial.learned ++ some_without now.trial.first left ∷ [] =
    c.in_ok-learn.ensures.learned
    ∙ ap (λ lines. lines ++ some_without c.trim.new.test.first left ∷ []) (c.in_ok-trimmed.ensures.stays.1 ∙ ap (λ (s : Searching). s.trial.learned) c.self.view_is)
    ∙ ap (λ (value : Bool). now.trial.learned ++ some_without value left ∷ []) (c.in_ok-trimmed.ensures.stays.3 ∙ ap (λ (s : Searching). s.trial.first) c.self.view_is) in
    let stays : c.learn.new.self.decisions ≡ cut_after now.decisions (reverse left) =
    c.in_ok-learn.ensures.decisions ∙ ap (λ (s : Searching). cut_after s.decisions (reverse left)) c.self.view_is in (
      turn-learns now c.requires.clash some more
          ∙ ap (λ (set : List ℕ). GoesOn (record { learned = now.trial.learned ++ some_without now.trial.first set ∷ []; decisions = cut_after now.decisions (reverse set) })) (sym trimmed)
          ∙ sym (ap (λ lines. GoesOn (record { learned = lines; decisions = c.learn.new.self.decisions })) learned ∙ ap (λ (ds : List ℕ). GoesOn (record { learned = now.trial.learned ++ some_without now.trial.first left ∷ []; decisions = ds })) stays),
      c.in_ok-learn.ensures.problem ∙ c.in_ok-trimmed.ensures.stays.0 ∙ ap (λ (s : Searching). s.trial.problem) c.self.view_is,
      c.in_ok-learn.ensures.fixed ∙ c.in_ok-trimmed.ensures.stays.2 ∙ ap (λ (s : Searching). s.trial.fixed) c.self.view_is,
      c.in_ok-learn.ensures.first ∙ c.in_ok-trimmed.ensures.stays.3 ∙ ap (λ (s : Searching). s.trial.first) c.self.view_is,
      c.in_ok-learn.ensures.allowance ∙ ap (λ (s : Searching). s.allowance) c.self.view_is,
      c.in_ok-learn.ensures.shown,
    )
