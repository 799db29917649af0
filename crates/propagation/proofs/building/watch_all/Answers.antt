use Rattle.std.proofs.Common.{◌≡◌, ◌∙◌, ◌<◌, sym, ap, subst, [], ◌∷◌, ◌++◌, length, get_or, take, arith}
use Rattle.std.specs.Prelude.{All, Contains}
use Rattle.std.proofs.lemmas.List.{take_more, take_all}
use Rattle.std.proofs.lemmas.List.Elements.{Contains-get_or}
use Rattle.clauses.specs.Problem.{IsBelow}
use Rattle.propagation.specs.inside.Building.{AreWatched, IsWatched}
use Rattle.propagation.proofs.BuildLaws.{watched-none, watched-next, watched-refuted}
use Rattle.propagation.proofs.building.watch_all.Goals as goal

pub loop-number-init : goal.loop-number-init
loop-number-init c = watched-none c.args.problem.now c.args.own.now c.args.trail.now c.requires.own_of c.requires.trail_of c.requires.own_empty c.requires.own_plain c.requires.trail_empty

pub watch_clause-requires-clause-below : goal.watch_clause-requires-clause-below
watch_clause-requires-clause-below c =
    let clauses = c.args.problem.now.clauses in
    let i = c.loop-number.number in
    let low : i < length clauses = (let e = ap length c.clauses-clauses.ensures.clauses in let t = c.loop-number-test.true in let l = c.len-number-end.ensures in omega arith) in
    let clause : c.get.result.now ≡ get_or clauses i [] = c.get.ensures ∙ ap (λ cs. get_or cs i []) c.clauses-clauses.ensures.clauses in
    subst (λ n. All (IsBelow n) c.get.result.now) (sym c.loop-number.invariant.own_of)
    (subst (All (IsBelow c.args.problem.now.variables)) (sym clause) (c.clauses-clauses.ensures.lawful.clauses_below i [] low))

pub returns-then-not-branch : goal.returns-then-not-branch
returns-then-not-branch c =
    let clauses = c.args.problem.now.clauses in
    let i = c.loop-number.number in
    let low : i < length clauses = (let e = ap length c.clauses-clauses.ensures.clauses in let t = c.loop-number-test.true in let l = c.len-number-end.ensures in omega arith) in
    let clause : c.get.result.now ≡ get_or clauses i [] = c.get.ensures ∙ ap (λ cs. get_or cs i []) c.clauses-clauses.ensures.clauses in
    let there : Contains clauses c.get.result.now = subst (Contains clauses) (sym clause) (Contains-get_or clauses i [] low) in
    watched-refuted c.args.problem.now (take i clauses) c.loop-number.own c.loop-number.trail c.loop-number.invariant c.get.result.now there
    (subst (IsWatched c.get.result.now c.loop-number.own c.watch_clause.new.own c.loop-number.trail c.watch_clause.new.trail) c.if-not-branch.true c.in_ok-watch_clause.ensures)

pub loop-number-preserved : goal.loop-number-preserved
loop-number-preserved c =
    let clauses = c.args.problem.now.clauses in
    let i = c.loop-number.number in
    let low : i < length clauses = (let e = ap length c.clauses-clauses.ensures.clauses in let t = c.loop-number-test.true in let l = c.len-number-end.ensures in omega arith) in
    let clause : c.get.result.now ≡ get_or clauses i [] = c.get.ensures ∙ ap (λ cs. get_or cs i []) c.clauses-clauses.ensures.clauses in
    let there : Contains clauses c.get.result.now = subst (Contains clauses) (sym clause) (Contains-get_or clauses i [] low) in
    subst (λ cs. AreWatched c.args.problem.now cs c.watch_clause.new.own c.watch_clause.new.trail) (sym (take_more clauses i [] low ∙ ap (λ k. take i clauses ++ k ∷ []) (sym clause)))
    (watched-next c.args.problem.now (take i clauses) c.loop-number.own c.loop-number.trail c.loop-number.invariant c.get.result.now there c.watch_clause.new.own c.watch_clause.new.trail
    (subst (IsWatched c.get.result.now c.loop-number.own c.watch_clause.new.own c.loop-number.trail c.watch_clause.new.trail) c.if-not-branch.false c.in_ok-watch_clause.ensures))

pub returns : goal.returns
returns c =
    let clauses = c.args.problem.now.clauses in
    subst (λ cs. AreWatched c.args.problem.now cs c.loop-number.own c.loop-number.trail)
    (take_all c.loop-number.number clauses (let e = ap length c.clauses-clauses.ensures.clauses in let t = c.loop-number-test.false in let l = c.len-number-end.ensures in omega arith))
    c.loop-number.invariant
