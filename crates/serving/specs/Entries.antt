-- What the main seat knows of its entries, as far as a turn asks for it. Own to this project.
use Rattle.std.specs.Prelude.{◌≡◌, ℕ, true, false, List, map}
use mathlib.Core.Option.{some}
use lib.ListN.{get_elem?}
use Rattle.req_keys.specs.Key.{PositionSet}
use Rattle.check_table.specs.declared.view.KnownEntry.{KnownEntry}

-- the keys that were posted, in order
abbrev pub keys_of : List KnownEntry → List PositionSet
keys_of entries = map (λ e. e.key) entries

-- the entry with this number stands under the key, and was neither cancelled nor taken
pub record StandsUnder (entries : List KnownEntry) (number : ℕ) (key : PositionSet) : Type 0 where
  pub entry : KnownEntry
  pub at : get_elem? entries number ≡ some entry
  pub same : entry.key ≡ key
  pub kept : entry.cancelled ≡ false
  pub free : entry.mine ≡ false

-- the entry was cancelled
pub record IsCancelled (entries : List KnownEntry) (number : ℕ) : Type 0 where
  pub entry : KnownEntry
  pub at : get_elem? entries number ≡ some entry
  pub marked : entry.cancelled ≡ true

-- the main seat took the entry
pub record IsTaken (entries : List KnownEntry) (number : ℕ) : Type 0 where
  pub entry : KnownEntry
  pub at : get_elem? entries number ≡ some entry
  pub taken : entry.mine ≡ true
