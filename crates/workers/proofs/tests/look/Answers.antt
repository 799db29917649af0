use Rattle.std.proofs.Common.{ap, ◌∙◌, length}
use Rattle.check_table.specs.Views.{answer_met}
use Rattle.check_table.specs.declared.view.KnownEntry.{KnownEntry}
use Rattle.check_table.specs.declared.view.MainView.{MainView}
use Rattle.check_table.proofs.Entries.{change_length}
use Rattle.workers.proofs.tests.look.Goals as goal

pub returns-clause-entries : goal.returns-clause-entries
returns-clause-entries c = ap (λ (m : MainView). length m.entries) c.look.ensures.view
    ∙ change_length (λ (e : KnownEntry). record e { seen = answer_met c.look.new.main.sees.trace.word e.seen }) c.args.main.now.sees.entries c.args.entry
