-- What the steps of a turn leave as it was.
use Rattle.std.specs.Prelude.{◌≡◌, ◌≢◌, ℕ, ◌≤◌, List}
use lib.ListN.{get_elem?}
use Rattle.check_table.specs.declared.view.KnownEntry.{KnownEntry}
use Rattle.check_table.specs.declared.view.MainView.{MainView}
use Rattle.serving.specs.Entries.{keys_of}

-- the seat knows what it knew, but for its entries, and its trace has grown
pub record Keeps (before after : MainView) : Type 0 where
  pub problem : after.problem ≡ before.problem
  pub size : after.size ≡ before.size
  pub stopped : after.stopped ≡ before.stopped
  pub made : after.made ≡ before.made
  pub left : after.left ≡ before.left
  pub count : before.trace.count ≤ after.trace.count

-- the entries have their keys, and all but this one are as they were
pub record LeavesOthers (number : ℕ) (before after : List KnownEntry) : Type 0 where
  pub keys : keys_of after ≡ keys_of before
  pub others : (other : ℕ) → other ≢ number → get_elem? after other ≡ get_elem? before other
