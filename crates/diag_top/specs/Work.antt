-- The order of work of a command line: which files are fetched, one after the other, and what is answered (own to this
-- project). A piece of work is done with a reply, or fetches a file and goes on with what it is handed.
use Rattle.std.specs.Prelude.{◌≡◌, ◌⊎◌, ℕ, nat_lt, List, length, Option, Some, if◌then◌else◌}
use Rattle.std.specs.Option.{option_and_then}
use Rattle.command_line.specs.declared.status.Status.{Status}
use Rattle.diag_base.specs.Shelf.{Files}
use Rattle.diag_base.specs.declared.shelf.Fetched.{Fetched}
use Rattle.diag_base.specs.declared.shelf.Fetched.TheVariants.{Whole, Longer}

-- a status, and the text that goes with it
pub record Reply : Type 0 where
  pub status : Status
  pub text : List ℕ

-- what a file is to a command
pub data Role : Type 0 where
  Model : Role
  Config : Role
  Certificate : Role

pub data Work : Type 0 where
  Done : (reply : Reply) → Work
  -- the file, the word that names it, how many bytes it may have, and what is done once it is there
  Fetch : (role : Role) → (word : List ℕ) → (most : ℕ) → (next : Fetched → Work) → Work

-- what a fetch hands over of a file with these bytes: all of them, or that there are too many
abbrev pub handed : ℕ → List ℕ → Fetched
handed most bytes = if nat_lt most (length bytes) then Longer else Whole bytes

-- The reply to the work over these files. It is there where every file is that the work fetches.
abbrev pub replied : Files → Work → Option Reply
replied files (Done reply) = Some reply
replied files (Fetch role word most next) = option_and_then (λ bytes. replied files (next (handed most bytes))) (files word)

-- over these files the work comes to the fetch of the file that this word names
abbrev pub ComesTo : Files → Work → Role → List ℕ → Type 0
ComesTo files (Done reply) file name = ⊥
ComesTo files (Fetch role word most next) file name =
    ((role ≡ file) × (word ≡ name)) ⊎ ((bytes : List ℕ) × (files word ≡ Some bytes) × ComesTo files (next (handed most bytes)) file name)
