-- What a turn leaves, put together from its two halves.
use Rattle.std.proofs.Common.{ℕ, List, Result, Ok, Err, arith}
use Rattle.std.specs.Prelude.{All, Contains, OnOk}
use Rattle.clauses.specs.Problem.{ClauseProblem}
use Rattle.check_table.specs.declared.view.KnownEntry.{KnownEntry}
use Rattle.check_table.specs.declared.view.MainView.{MainView}
use Rattle.serving.specs.Entries.{IsCancelled}
use Rattle.serving.specs.Met.{IsMet}
use Rattle.serving.specs.inside.Staying.{Keeps}
use Rattle.serving.proofs.LiveEntries.{all-members}

pub cancelled-all : {T E : Type 0} (r : Result T E) (es : List KnownEntry) (numbers : List ℕ) → ((t : ℕ) → Contains numbers t → IsCancelled es t) → OnOk r (All (IsCancelled es) numbers)
cancelled-all (Ok x) es numbers f = all-members numbers (IsCancelled es) f
cancelled-all (Err e) es numbers f = tt

-- a step since later is a step since before
pub met-since : {T E : Type 0} (r : Result T E) (problem : ClauseProblem) (before later after : MainView) (number : ℕ) → Keeps before later → OnOk r (IsMet problem later after number) → OnOk r (IsMet problem before after number)
met-since (Ok x) problem before later after number keeps met =
    let far = keeps.count in
    let near = met.rose in
    record { rose = omega arith; place = met.place; word = met.word }
met-since (Err e) problem before later after number keeps met = tt
