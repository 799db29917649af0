use Rattle.std.proofs.Common.{◌≡◌, ℕ, ◌+◌, ◌*◌, ◌<◌, ◌≤◌, List, length, get_or}
use Rattle.std.specs.Prelude.{Contains, IsFalse, ◌==◌}
use Rattle.std.specs.Int.{bit_at}
use Rattle.check_table.specs.Seats.{IsWorkerOf}
use Rattle.check_table.specs.declared.view.Stage.TheVariants.{Runs}
use Rattle.workers.proofs.searching.read_words.Given as goal

abbrev pub invariant-loop-j : goal.invariant-loop-j
invariant-loop-j l = record {
  own : IsWorkerOf l.table l.w;
  number : l.w.sees.number ≡ l.initial.w.sees.number;
  done : l.w.sees.done ≡ l.initial.w.sees.done;
  long : length l.words.items ≡ l.j;
  bits : (i : ℕ) → i < l.j → (b : ℕ) → b < 64 → length l.table.problem.roots ≤ 64 * i + b → IsFalse (bit_at (get_or l.words.items i 0) b == 1);
  read : (t : ℕ) × (read : List (ℕ × ℕ)) × (l.w.sees.stage ≡ Runs t read) × ((i : ℕ) → i < l.j → Contains read (i, get_or l.words.items i 0));
}
