use Rattle.std.proofs.Common.{◌≡◌, drop}
use Rattle.config_reader.specs.Judgement.{start, after_lines}
use Rattle.config_reader.specs.inside.Drafts.{standing_of}
use Rattle.config_reader.proofs.draft.draft_of.Given as goal

-- what is read from here on is what is read of the whole
abbrev pub invariant-loop-line : goal.invariant-loop-line
invariant-loop-line l =
    after_lines l.version l.names l.bytes start l.lines ≡ after_lines l.version l.names l.bytes (standing_of l.draft) (drop l.line-index l.lines)
