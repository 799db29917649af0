use Rattle.std.proofs.Common.{sym}
use Rattle.serving.proofs.AskedKeys.{held-told, live-stands, marks-kept}
use Rattle.serving.proofs.LiveEntries.{held-settled}
use Rattle.serving.proofs.answering.answer_asked.Goals as goal

pub verdict_of-requires-clause-stands : goal.verdict_of-requires-clause-stands
verdict_of-requires-clause-stands g c κs within = live-stands c.args.main.now.sees.entries c.args.posting.now.live c.in_ok-key.key c.entry_of-entry.result c.entry_of-entry.ensures c.requires.held.live

pub returns-in_err-verdict-clause-marks : goal.returns-in_err-verdict-clause-marks
returns-in_err-verdict-clause-marks g c =
    let stands = live-stands c.args.main.now.sees.entries c.args.posting.now.live c.in_ok-key.key c.entry_of-entry.result c.entry_of-entry.ensures c.requires.held.live in
    marks-kept c.args.main.now.sees.entries c.verdict_of.new.main.sees.entries c.in_ok-key.key c.entry_of-entry.result stands c.verdict_of.ensures.entries

pub returns-clause-marks : goal.returns-clause-marks
returns-clause-marks g c =
    let stands = live-stands c.args.main.now.sees.entries c.args.posting.now.live c.in_ok-key.key c.entry_of-entry.result c.entry_of-entry.ensures c.requires.held.live in
    marks-kept c.args.main.now.sees.entries c.verdict_of.new.main.sees.entries c.in_ok-key.key c.entry_of-entry.result stands c.verdict_of.ensures.entries

pub returns-clause-held : goal.returns-clause-held
returns-clause-held g c =
    held-told c.tell.result c.verdict_of.new.main.sees c.in_ok-key.key c.args.posting.now c.tell.new.posting c.tell.ensures.settled
    (held-settled c.args.main.now.sees c.verdict_of.new.main.sees c.args.posting.now c.in_ok-key.key c.requires.held c.verdict_of.ensures.keeps.size c.entry_of-entry.result (sym c.entry_of-entry.ensures) c.verdict_of.ensures.entries)
