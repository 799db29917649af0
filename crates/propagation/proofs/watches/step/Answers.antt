use Rattle.std.proofs.Common.{◌≡◌, ◌∙◌, refl, ap, subst, [], List, ◌/◌, get_or, arith}
use Rattle.std.proofs.lemmas.List.{get_or_default}
use Rattle.clauses.specs.declared.literal.Lit.{Lit}
use Rattle.clauses.specs.Clause.{negative_of}
use Rattle.propagation.specs.inside.Visits.{IsStep, IsVisit}
use Rattle.propagation.specs.inside.Watching.{watched_at}
use Rattle.propagation.proofs.VisitLaws.{step-from}
use Rattle.propagation.proofs.watches.step.Goals as goal

pub returns-in_default : goal.returns-in_default
returns-in_default c =
    let clauses = c.args.clauses.now in
    let watched = c.args.watched.now in
    let other : c.index-watched-partner.result ≡ watched_at watched c.partner.result =
    c.index-watched-partner.is ∙ get_or_default watched c.partner.result c.index-watched-partner.result (negative_of 0) (let s = c.requires.sized in let e = c.requires.entry in let p = c.partner.ensures in omega arith) in
    let clause : c.get.result.now ≡ get_or clauses (c.args.entry / 2) [] = c.get.ensures in
    subst (λ (o : Lit). IsStep c.args.entry (get_or clauses (c.args.entry / 2) []) o watched watched c.args.trail.now c.look_at-visit.new.trail c.look_at-visit.result) (ap (watched_at watched) c.partner.ensures)
    (subst (λ (k : List Lit). IsStep c.args.entry k (watched_at watched c.partner.result) watched watched c.args.trail.now c.look_at-visit.new.trail c.look_at-visit.result) clause
    (step-from c.args.entry c.get.result.now (watched_at watched c.partner.result) watched watched c.args.trail.now c.look_at-visit.new.trail c.look_at-visit.result (subst (λ (o : Lit). IsVisit c.args.trail.now c.look_at-visit.new.trail c.get.result.now o c.look_at-visit.result) other c.look_at-visit.ensures) (λ found e. absurd (c.in_default.not-Moves found e)) (λ _. refl)))
