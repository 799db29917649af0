use Rattle.std.proofs.Common.{◌≡◌, drop}
use Rattle.uvl_reader.specs.inside.Drafts.{standing_of}
use Rattle.uvl_reader.specs.inside.Good.{IsGood}
use Rattle.uvl_reader.specs.inside.Standing.{start, after_lines}
use Rattle.uvl_reader.proofs.draft.draft_of.Given as goal

abbrev pub invariant-loop-line : goal.invariant-loop-line
invariant-loop-line l = record {
  rest : after_lines l.bytes start l.lines ≡ after_lines l.bytes (standing_of l.draft) (drop l.line-index l.lines);
  good : IsGood l.bytes (standing_of l.draft);
}
