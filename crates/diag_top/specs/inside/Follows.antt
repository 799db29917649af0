-- What a command's function makes of a piece of work, step by step.
use Rattle.std.specs.Prelude.{◌≡◌, ◌⊎◌, ℕ, List, Option, Some}
use Rattle.command_line.specs.declared.status.Status.TheVariants as status
use Rattle.diag_base.specs.Shelf.{Files}
use Rattle.diag_top.specs.Run.{fault_text}
use Rattle.diag_top.specs.Work.{Reply, Role, Work, Done, Fetch, handed}

-- the reply where the fetch of a file failed
abbrev pub read_failed : Role → Reply
read_failed role = record { status = status.ReadFault; text = fault_text role }

-- the reply follows the work: it is what is done, or the fetch failed, or it follows what comes after the fetch
abbrev pub Follows : Files → Option (List ℕ) → Work → Reply → Type 0
Follows files lost (Done done) reply = reply ≡ done
Follows files lost (Fetch role word most next) reply =
    ((lost ≡ Some word) × (reply ≡ read_failed role))
    ⊎ ((bytes : List ℕ) × (files word ≡ Some bytes) × Follows files lost (next (handed most bytes)) reply)
