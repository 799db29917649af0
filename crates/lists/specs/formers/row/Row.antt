-- How a row holds its items, so that a type may reach itself through a row: the row is the list of its vector's items.
use mathlib.Core.Path.{◌≡◌, refl, sym}
use mathlib.Core.List.{List, []}
use mathlib.Core.Former.{Former, this, list, via, children}
use base.Stored.{code_map}
use denote.RattleType.{RattleType}
use denote.HoleLaws.{Alike}
use denote.HolePlaces.{Recodes, struct_places, laid}
use denote.Hole.Carrier.{listed, list-listed}
use denote.Hole.Fix.{over}
use denote.Param.Weighed.{Weighed, w_list}
use denote.Model.Placed.{view_places}
use Rattle.std.specs.formers.vec.Vec as vec
use Rattle.std.specs.declared.alloc.Global.{Global}
use Rattle.std.specs.contracts.alloc.Global as heap
use Rattle.std.specs.contracts.impls.GlobalAllocator.TheImpl.{ghosts}
use Rattle.lists.specs.declared.row.Row.TheInside.{Inside}
use Rattle.lists.specs.declared.row.Row.TheView.{view, invariant}
use Rattle.lists.specs.contracts.row.Row as whole
use Rattle.lists.specs.contracts.row.Row.TheInside as within

-- the way from a type to the lists of it
abbrev pub the_former : Former {0} → Former {0}
the_former g = list g

abbrev pub the_weighed : {g : Former {0}} → Weighed g → Weighed (the_former g)
the_weighed w = w_list w

pub the_empty : List ⊥
the_empty = []

-- the items of a row, as a list
abbrev pub the_items : (X : Type 0) → List X → List X
the_items X row = row

pub the_items_listed : (X : Type 0) (row : List X) → listed _ (children (the_former this) X row) ≡ the_items X row
the_items_listed X row = list-listed X row

-- the fields of a row: those of its vector, round the items
abbrev in_fields : Former {0}
in_fields = via (vec.the_former this Global) Inside (λ X row. row.items) (λ X v. record { items = v }) (λ X row. refl) (λ X v. refl)

module _ (R S : RattleType) (h : R.Denot → S.Denot) where
  -- a row of one type lies in memory as one of the other where the two types do
  pub the_places : Alike R S h → Alike (whole.the_row R) (whole.the_row S) ((the_former this).map R.Denot S.Denot h)
  the_places alike =
      view_places in_fields (list this) view (λ X Y k u. refl) (λ X u. refl) R.Denot S.Denot h (whole.the_row R).coded (whole.the_row S).coded
      (invariant R.Denot) (invariant S.Denot) (λ u p q. refl) (λ u p q. refl) (λ u e. tt) (λ u e. tt)
      (over (within.the_row R)) (over (within.the_row S))
      (struct_places (within.the_type R) (within.the_type S) (vec.mapped h, tt) _ (λ row. refl) refl (laid _ _ _ (vec.the_places heap.the_row ghosts R S h alike), tt))

  pub the_codes_placed : Recodes R S h → Recodes (whole.the_row R) (whole.the_row S) ((the_former this).map R.Denot S.Denot h)
  the_codes_placed recodes row = sym (code_map R.coded.code S.coded.code h (λ x. sym (recodes x)) row)
