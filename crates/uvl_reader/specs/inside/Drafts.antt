-- What the code has read, as its contracts see it.
use Rattle.uvl_reader.specs.declared.draft.Draft.{Draft}
use Rattle.uvl_reader.specs.inside.Standing.{Standing}

abbrev pub standing_of : Draft → Standing
standing_of draft = record {
  under = draft.under;
  open_now = draft.lines;
  next = draft.next;
  pending = draft.pending;
  names = draft.names;
  tree = draft.tree;
  stated = draft.stated;
}
