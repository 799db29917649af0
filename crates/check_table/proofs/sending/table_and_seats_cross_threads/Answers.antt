-- What is shared of a seat is a part of what it owns, and that may be with any thread.
use denote.Builtin.{unit}
use denote.Param.Send.{IsSend, sendable, part_keyless, cell_keyless}
use mir.Syntax.{ty_int, ty_bool, w32, w64}
use mathlib.Core.List.{[], ◌∷◌}
use Prim.Native.Nat.{◌+◌}
use Rattle.atomic_table.specs.contracts.shared.Seat as seat
use Rattle.atomic_table.proofs.shared.Seat.TheSendSync.{the_send}
use Rattle.check_table.specs.contracts.view.View as view
use Rattle.check_table.proofs.sending.table_and_seats_cross_threads.Goals as goal

seat_send : IsSend (seat.the_row unit view.the_row)
seat_send = search (sendable, the_send) depth 20

pub may_be_shared-requires-2-sync-T : goal.may_be_shared-requires-2-sync-T
may_be_shared-requires-2-sync-T c κs = record {
  shared = λ x b o κ y. (
    (
      (
        (λ q. part_keyless (seat.the_row unit view.the_row) seat_send q y.0.seat b (o + 0)),
        ((λ vs. ((tt, tt), λ q. cell_keyless q (ty_int w32 ∷ []) vs b (o + 0))), ((λ vs. ((tt, tt), λ q. cell_keyless q (ty_int w32 ∷ []) vs b (o + 4))), tt)),
      ),
      λ q. tt,
    ),
    tt,
  );
}

pub may_be_shared-requires-3-sync-T : goal.may_be_shared-requires-3-sync-T
may_be_shared-requires-3-sync-T c κs = record {
  shared = λ x b o κ y. (
    (
      (
        (λ q. part_keyless (seat.the_row unit view.the_row) seat_send q y.0.seat b (o + 0)),
        (
          (λ vs. ((tt, tt), λ q. cell_keyless q (ty_int w64 ∷ []) vs b (o + 0))),
          ((λ vs. ((tt, tt), λ q. cell_keyless q (ty_int w32 ∷ []) vs b (o + 8))), ((λ vs. (tt, λ q. cell_keyless q (ty_bool ∷ []) vs b (o + 12))), tt)),
        ),
      ),
      λ q. tt,
    ),
    tt,
  );
}
