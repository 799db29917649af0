use Rattle.std.proofs.Common.{◌≡◌, ℕ, List, ◌++◌, Some, map, ap, subst, ◌∙◌}
use Rattle.std.specs.String.{string_bytes}
use Rattle.diag_top.specs.Answer.{work_for}
use Rattle.diag_top.specs.Run.{Counts, IsRun}
use Rattle.diag_top.proofs.running.run.Goals as goal

-- where `run_alone` did nothing, the shelf and the sink are those that were handed in
pub returns-clause-told : goal.returns-clause-told
returns-clause-told g c = λ files before tells has.
    let shelf = c.in_default.ensures.shelf_rests in
    let sink = c.in_default.ensures.sink_rests in
    let counts : ℕ → ℕ → Counts =
    λ a b. record { shelf_before = a; shelf_now = g.F.Shelf.faults c.run_with.new.shelf; sink_before = b; sink_now = g.K.Sink.faults c.run_with.new.sink } in
    let same : counts (g.F.Shelf.faults c.run_alone.new.shelf) (g.K.Sink.faults c.run_alone.new.sink) ≡ counts (g.F.Shelf.faults c.args.shelf.now) (g.K.Sink.faults c.args.sink.now) =
    ap (λ (n : ℕ). counts n (g.K.Sink.faults c.run_alone.new.sink)) (ap g.F.Shelf.faults shelf) ∙ ap (counts (g.F.Shelf.faults c.args.shelf.now)) (ap g.K.Sink.faults sink) in
    let P : Counts → Type 0 =
    λ now. (appended : List ℕ) × (g.K.Sink.written c.run_with.new.sink ≡ Some (before ++ appended)) × IsRun (work_for (map string_bytes c.args.words.now)) files (g.F.Shelf.lost c.run_with.new.shelf) now c.run_with.result appended in
    subst P same (c.run_with.ensures.told files before (ap g.F.Shelf.files shelf ∙ tells) (ap g.K.Sink.written sink ∙ has))
