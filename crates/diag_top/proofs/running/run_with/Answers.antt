use Rattle.std.proofs.Common.{◌≡◌, List, ℕ, map, subst, sym, ap, ◌∙◌}
use Rattle.std.specs.Prelude.{IfSome}
use Rattle.std.specs.String.{string_bytes}
use Rattle.command_line.specs.declared.status.Status.TheVariants.{ReadFault}
use Rattle.diag_base.specs.Faults.{Rises}
use Rattle.diag_base.specs.Shelf.{Files}
use Rattle.diag_base.specs.Sink.{Gains, GainsPart}
use Rattle.diag_top.specs.Answer.{work_for}
use Rattle.diag_top.specs.Run.{Counts}
use Rattle.diag_top.specs.Work.{Reply}
use Rattle.diag_top.specs.inside.Follows.{Follows}
use Rattle.diag_top.proofs.Runs.{written, written_part, completed}
use Rattle.diag_top.proofs.running.run_with.Goals as goal

pub returns-clause-told : goal.returns-clause-told
returns-clause-told g c = λ files before tells has.
    let files_of = g.F.Shelf.files in
    let bytes_of = g.K.Sink.written in
    written_part (work_for (map string_bytes c.args.words.now)) (files_of c.args.shelf.now) files (g.F.Shelf.lost c.reply_to.new.shelf)
    (record { shelf_before = g.F.Shelf.faults c.args.shelf.now; shelf_now = g.F.Shelf.faults c.reply_to.new.shelf; sink_before = g.K.Sink.faults c.args.sink.now; sink_now = g.K.Sink.faults c.put_whole.new.sink })
    c.in-Ok.reply before (bytes_of c.args.sink.now) (bytes_of c.put_whole.new.sink) tells has
    c.in-Ok.ensures.read_fault c.in-Err-put_whole.ensures.failed c.in-Ok.ensures.told
    (subst (λ (text : List ℕ). GainsPart text (bytes_of c.args.sink.now) (bytes_of c.put_whole.new.sink))
    (c.as_slice.ensures ∙ ap (λ (r : Reply). r.text) c.reply.view_is) c.in-Err-put_whole.ensures.err)

pub returns-in-Ok-put_whole-clause-told : goal.returns-in-Ok-put_whole-clause-told
returns-in-Ok-put_whole-clause-told g c = λ files before tells has.
    let files_of = g.F.Shelf.files in
    let bytes_of = g.K.Sink.written in
    let work = work_for (map string_bytes c.args.words.now) in
    let lost = g.F.Shelf.lost c.reply_to.new.shelf in
    let counts : Counts = record { shelf_before = g.F.Shelf.faults c.args.shelf.now; shelf_now = g.F.Shelf.faults c.reply_to.new.shelf; sink_before = g.K.Sink.faults c.args.sink.now; sink_now = g.K.Sink.faults c.put_whole.new.sink } in
    let reply : Reply = record { status = c.reply.inside.status; text = c.reply.inside.text } in
    written work (files_of c.args.shelf.now) files lost counts reply before (bytes_of c.args.sink.now) (bytes_of c.put_whole.new.sink) tells has
    (subst (λ (r : Reply). r.status ≡ ReadFault → Rises counts.shelf_before counts.shelf_now) (sym c.reply.view_is) c.in-Ok.ensures.read_fault)
    (subst (λ (r : Reply). IfSome (files_of c.args.shelf.now) (λ (f : Files). Follows f lost work r)) (sym c.reply.view_is) c.in-Ok.ensures.told)
    (subst (λ (text : List ℕ). Gains text (bytes_of c.args.sink.now) (bytes_of c.put_whole.new.sink)) c.as_slice.ensures c.in-Ok-put_whole.ensures.ok)

pub returns-in-Ok-put_whole-clause-complete : goal.returns-in-Ok-put_whole-clause-complete
returns-in-Ok-put_whole-clause-complete g c = λ files before tells has none.
    completed (work_for (map string_bytes c.args.words.now)) files (g.F.Shelf.lost c.reply_to.new.shelf)
    (record { shelf_before = g.F.Shelf.faults c.args.shelf.now; shelf_now = g.F.Shelf.faults c.reply_to.new.shelf; sink_before = g.K.Sink.faults c.args.sink.now; sink_now = g.K.Sink.faults c.put_whole.new.sink })
    c.reply.inside.status before (g.K.Sink.written c.put_whole.new.sink) none (returns-in-Ok-put_whole-clause-told g c files before tells has)
