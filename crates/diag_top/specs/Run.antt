-- What a run may end with, over a shelf that tells its files and a sink that tells what was written (own to this project).
use Rattle.std.specs.Prelude.{◌≡◌, ◌⊎◌, ℕ, ◌≤◌, List, [], length, take, codes, Option, Some}
use Rattle.command_line.specs.declared.status.Status.{Status}
use Rattle.command_line.specs.declared.status.Status.TheVariants as status
use Rattle.diag_base.specs.Faults.{Rises}
use Rattle.diag_base.specs.Shelf.{Files}
use Rattle.report.specs.Lines.{line}
use Rattle.diag_top.specs.Work.{Role, Model, Config, Certificate, Work, replied, ComesTo}

-- what is written where a file could not be fetched
abbrev pub fault_text : Role → List ℕ
fault_text Model = line (codes "read failed model")
fault_text Config = line (codes "read failed configuration")
fault_text Certificate = line (codes "read failed certificate")

-- a fetch failed that the work comes to, and the text says of which file
pub record IsReadFault (work : Work) (files : Files) (lost : Option (List ℕ)) (text : List ℕ) : Type 0 where
  pub role : Role
  pub word : List ℕ
  pub reached : ComesTo files work role word
  -- the shelf lost this file last
  pub named : lost ≡ Some word
  pub told : text ≡ fault_text role

-- the counts of faults of the shelf and of the sink, as the run began and ended
pub record Counts : Type 0 where
  pub shelf_before : ℕ
  pub shelf_now : ℕ
  pub sink_before : ℕ
  pub sink_now : ℕ

-- the first bytes of a text
abbrev pub IsPrefix : List ℕ → List ℕ → Type 0
IsPrefix front text = (count : ℕ) × (count ≤ length text) × (front ≡ take count text)

-- the work is answered with this status and this text
abbrev pub IsAnswer : Work → Files → Status → List ℕ → Type 0
IsAnswer work files ended text = replied files work ≡ Some (record { status = ended; text = text })

-- a text that was to be written: the answer's, or where the shelf failed in this run that of the fault
abbrev pub IsText : Work → Files → Option (List ℕ) → Counts → List ℕ → Type 0
IsText work files lost counts text =
    ((ended : Status) × IsAnswer work files ended text) ⊎ (Rises counts.shelf_before counts.shelf_now × IsReadFault work files lost text)

-- How a run of the work may end, with this status and these bytes appended to the sink.
pub data IsRun (work : Work) (files : Files) (lost : Option (List ℕ)) (counts : Counts) (ended : Status) (appended : List ℕ) : Type 0 where
  -- with the answer
  Answers : IsAnswer work files ended appended → IsRun work files lost counts ended appended
  -- without memory, and nothing was written
  WantsMemory : ended ≡ status.Memory → appended ≡ [] → IsRun work files lost counts ended appended
  -- with a fault that the shelf counted in this run, and its text was written
  LosesFile : ended ≡ status.ReadFault → Rises counts.shelf_before counts.shelf_now → IsReadFault work files lost appended
      → IsRun work files lost counts ended appended
  -- with a fault that the sink counted in this run, and the first bytes of what was to be written were
  LosesSink : ended ≡ status.WriteFault → Rises counts.sink_before counts.sink_now
      → (text : List ℕ) → IsPrefix appended text → IsText work files lost counts text
      → IsRun work files lost counts ended appended

-- a status that an answer may have; the other three are those of want of memory and of faults
abbrev pub IsOfAnAnswer : Status → Type 0
IsOfAnAnswer status.Memory = ⊥
IsOfAnAnswer status.ReadFault = ⊥
IsOfAnAnswer status.WriteFault = ⊥
IsOfAnAnswer _ = Unit {0}

-- no shelf and no sink failed in the run
abbrev pub HasNoFault : Counts → Type 0
HasNoFault counts = (¬ Rises counts.shelf_before counts.shelf_now) × (¬ Rises counts.sink_before counts.sink_now)

-- a run without a fault: the answer, or want of memory with nothing written
abbrev pub IsComplete : Work → Files → Status → List ℕ → Type 0
IsComplete work files ended appended = IsAnswer work files ended appended ⊎ ((ended ≡ status.Memory) × (appended ≡ []))
