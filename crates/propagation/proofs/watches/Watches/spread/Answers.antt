use Rattle.std.proofs.Common.{◌≡◌, ◌∙◌, sym, ap, subst, true}
use Rattle.std.specs.Prelude.{All, Contains}
use Rattle.clauses.specs.Problem.{IsBelow}
use Rattle.propagation.specs.inside.Pairing.{IsBrought, row_of}
use Rattle.propagation.specs.inside.Trails.{code_of}
use Rattle.propagation.specs.inside.Watching.{Watching}
use Rattle.propagation.proofs.PairLaws.{brought-growth, brought-refuted, row-below}
use Rattle.propagation.proofs.WalkLaws.{growth-then, growth-within}
use Rattle.propagation.proofs.watches.Watches.spread.Goals as goal

pub bring_row-requires : goal.bring_row-requires
bring_row-requires c =
    let row : c.row.result.now ≡ row_of c.args.self.now.pairs (code_of c.args.literal) =
    c.row.ensures ∙ ap (row_of c.self.inside.pairs) c.slot.ensures ∙ ap (λ (w : Watching). row_of w.pairs (code_of c.args.literal)) c.self.view_is in
    subst (λ ls. All (IsBelow c.args.trail.now.variables) ls) (sym row)
    (row-below c.args.clauses.now c.args.self.now.pairs c.requires.paired c.args.literal c.args.trail.now c.args.trail.now true c.requires.is_false c.args.trail.now.variables
    (subst (λ n. All (All (IsBelow n)) c.args.clauses.now) (sym c.requires.variables) c.requires.below))

pub returns-then-not-bring_row-clause-growth : goal.returns-then-not-bring_row-clause-growth
returns-then-not-bring_row-clause-growth c =
    let row : c.row.result.now ≡ row_of c.args.self.now.pairs (code_of c.args.literal) =
    c.row.ensures ∙ ap (row_of c.self.inside.pairs) c.slot.ensures ∙ ap (λ (w : Watching). row_of w.pairs (code_of c.args.literal)) c.self.view_is in
    brought-growth c.args.clauses.now c.args.self.now.pairs c.requires.paired c.args.literal c.args.trail.now c.bring_row.new.trail c.bring_row.result c.requires.is_false
    (subst (λ ls. IsBrought ls c.args.trail.now c.bring_row.new.trail c.bring_row.result) row c.bring_row.ensures)

pub returns-then-not-bring_row-clause-refuted : goal.returns-then-not-bring_row-clause-refuted
returns-then-not-bring_row-clause-refuted c _ =
    let row : c.row.result.now ≡ row_of c.args.self.now.pairs (code_of c.args.literal) =
    c.row.ensures ∙ ap (row_of c.self.inside.pairs) c.slot.ensures ∙ ap (λ (w : Watching). row_of w.pairs (code_of c.args.literal)) c.self.view_is in
    brought-refuted c.args.clauses.now c.args.self.now.pairs c.requires.paired c.args.literal c.args.trail.now c.bring_row.new.trail c.bring_row.result c.requires.is_false
    (subst (λ ls. IsBrought ls c.args.trail.now c.bring_row.new.trail c.bring_row.result) row c.bring_row.ensures) c.if-not-bring_row.true

pub walk-requires-clause-brought : goal.walk-requires-clause-brought
walk-requires-clause-brought c l m =
    let row : c.row.result.now ≡ row_of c.args.self.now.pairs (code_of c.args.literal) =
    c.row.ensures ∙ ap (row_of c.self.inside.pairs) c.slot.ensures ∙ ap (λ (w : Watching). row_of w.pairs (code_of c.args.literal)) c.self.view_is in
    c.bring_row.ensures.all c.if-not-bring_row.false l (subst (λ ls. Contains ls l) (sym row) m)

pub returns-clause-growth : goal.returns-clause-growth
returns-clause-growth c =
    let row : c.row.result.now ≡ row_of c.args.self.now.pairs (code_of c.args.literal) =
    c.row.ensures ∙ ap (row_of c.self.inside.pairs) c.slot.ensures ∙ ap (λ (w : Watching). row_of w.pairs (code_of c.args.literal)) c.self.view_is in
    growth-then c.args.clauses.now c.args.trail.now c.bring_row.new.trail c.walk.new.trail
    (brought-growth c.args.clauses.now c.args.self.now.pairs c.requires.paired c.args.literal c.args.trail.now c.bring_row.new.trail c.bring_row.result c.requires.is_false
    (subst (λ ls. IsBrought ls c.args.trail.now c.bring_row.new.trail c.bring_row.result) row c.bring_row.ensures))
    c.walk.ensures.growth

pub returns-clause-kept : goal.returns-clause-kept
returns-clause-kept c done within sub under covered =
    let row : c.row.result.now ≡ row_of c.args.self.now.pairs (code_of c.args.literal) =
    c.row.ensures ∙ ap (row_of c.self.inside.pairs) c.slot.ensures ∙ ap (λ (w : Watching). row_of w.pairs (code_of c.args.literal)) c.self.view_is in
    let grown = brought-growth c.args.clauses.now c.args.self.now.pairs c.requires.paired c.args.literal c.args.trail.now c.bring_row.new.trail c.bring_row.result c.requires.is_false
    (subst (λ ls. IsBrought ls c.args.trail.now c.bring_row.new.trail c.bring_row.result) row c.bring_row.ensures) in
    c.walk.ensures.kept done within sub (λ l m. growth-within c.args.clauses.now c.args.trail.now c.bring_row.new.trail grown l (under l m)) covered
