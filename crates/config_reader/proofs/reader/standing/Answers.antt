use Rattle.std.proofs.Common.{◌∙◌, sym}
use Rattle.config_reader.specs.declared.kind.Version.TheVariants.{First, Second}
use Rattle.config_reader.proofs.Drafts.{standing_of_version}
use Rattle.config_reader.proofs.reader.standing.Goals as goal

pub returns-in-First-clause-ok : goal.returns-in-First-clause-ok
returns-in-First-clause-ok c =
    rw (standing_of_version c.args.names.now c.args.bytes.now c.args.lines.now First (sym c.of-version.ensures ∙ c.in-First.is)) (rw c.in-First.is at c.draft_of.ensures.ok)

pub returns-in-First-clause-refused : goal.returns-in-First-clause-refused
returns-in-First-clause-refused c =
    rw (standing_of_version c.args.names.now c.args.bytes.now c.args.lines.now First (sym c.of-version.ensures ∙ c.in-First.is)) (rw c.in-First.is at c.draft_of.ensures.refused)

pub returns-in-Second-clause-ok : goal.returns-in-Second-clause-ok
returns-in-Second-clause-ok c =
    rw (standing_of_version c.args.names.now c.args.bytes.now c.args.lines.now Second (sym c.of-version.ensures ∙ c.in-Second.is)) (rw (c.in-Second.is, c.after_first.ensures) at c.draft_of-in-Second.ensures.ok)

pub returns-in-Second-clause-refused : goal.returns-in-Second-clause-refused
returns-in-Second-clause-refused c =
    rw (standing_of_version c.args.names.now c.args.bytes.now c.args.lines.now Second (sym c.of-version.ensures ∙ c.in-Second.is)) (rw (c.in-Second.is, c.after_first.ensures) at c.draft_of-in-Second.ensures.refused)
