-- What the orders of a turn leave of the main seat's entries.
use Rattle.std.specs.Prelude.{ℕ, true, List, ◌++◌, fold, map, if◌then◌else◌}
use Rattle.look_ahead.specs.declared.orders.Orders.{Orders}
use Rattle.check_table.specs.Views.{change_at, fresh_entry}
use Rattle.check_table.specs.declared.view.KnownEntry.{KnownEntry}

abbrev pub with_mark : KnownEntry → KnownEntry
with_mark e = record e { cancelled = true }

-- each of the entries with these numbers has the mark
abbrev pub with_marks : List ℕ → List KnownEntry → List KnownEntry
with_marks numbers entries = fold (λ es number. change_at with_mark number es) entries numbers

-- where a new round begins, what the orders cancel belongs to the table before
abbrev pub with_cancels : Orders → List KnownEntry → List KnownEntry
with_cancels orders entries = if orders.new_round then entries else with_marks orders.cancel entries

abbrev pub with_orders : Orders → List KnownEntry → List KnownEntry
with_orders orders entries = with_cancels orders entries ++ map fresh_entry orders.post
