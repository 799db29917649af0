-- From what was fetched and read to how a run ends.
use Rattle.std.proofs.Common.{◌≡◌, inl, inr, ℕ, ◌++◌, List, take, Some, refl, ap, sym, subst, ◌∙◌}
use Rattle.std.specs.Prelude.{Option, IfSome, option_map, ◌⊎◌}
use Rattle.command_line.specs.declared.status.Status.{Status}
use Rattle.command_line.specs.declared.status.Status.TheVariants as status
use Rattle.diag_base.specs.Faults.{Rises}
use Rattle.diag_base.specs.Shelf.{Files}
use Rattle.diag_base.specs.Sink.{Gains, GainsPart}
use Rattle.diag_base.specs.declared.shelf.Fetched.{Fetched}
use Rattle.diag_top.specs.Work.{Reply, Role, Work, Done, Fetch, handed, replied}
use Rattle.diag_top.specs.Run.{IsReadFault, Counts, IsText, IsRun, Answers, WantsMemory, LosesFile, LosesSink, HasNoFault, IsComplete}
use Rattle.diag_top.specs.inside.Follows.{Follows}

-- a lost file that the work comes to after a fetch
later : (files : Files) (lost : Option (List ℕ)) (role : Role) (word : List ℕ) (most : ℕ) (next : Fetched → Work) (bytes text : List ℕ) → files word ≡ Some bytes → IsReadFault (next (handed most bytes)) files lost text → IsReadFault (Fetch role word most next) files lost text
later files lost role word most next bytes text here fault =
    record { role = fault.role; word = fault.word; reached = inr (bytes, here, fault.reached); named = fault.named; told = fault.told }

-- a reply that follows the work is its answer, or that a file was lost
pub answered_or_lost : (files : Files) (lost : Option (List ℕ)) (work : Work) (reply : Reply) → Follows files lost work reply
    → (replied files work ≡ Some reply) ⊎ ((reply.status ≡ status.ReadFault) × IsReadFault work files lost reply.text)
answered_or_lost files lost (Done done) reply f = inl (ap Some (sym f))
answered_or_lost files lost (Fetch role word most next) reply (inl (named, is)) =
    inr (ap (λ (r : Reply). r.status) is, record { role = role; word = word; reached = inl (refl, refl); named = named; told = ap (λ (r : Reply). r.text) is })
answered_or_lost files lost (Fetch role word most next) reply (inr (bytes, here, f)) =
    elim (answered_or_lost files lost (next (handed most bytes)) reply f) [
      | inl answers ↦ inl (rw here answers)
      | inr fault ↦ inr (fault.0, later files lost role word most next bytes reply.text here fault.1)
    ]

-- a reply that was written whole
whole : (work : Work) (files : Files) (lost : Option (List ℕ)) (counts : Counts) (reply : Reply) → (reply.status ≡ status.ReadFault → Rises counts.shelf_before counts.shelf_now)
    → (replied files work ≡ Some reply) ⊎ ((reply.status ≡ status.ReadFault) × IsReadFault work files lost reply.text) → IsRun work files lost counts reply.status reply.text
whole work files lost counts reply rose (inl answers) = Answers answers
whole work files lost counts reply rose (inr fault) = LosesFile fault.0 (rose fault.0) fault.1

written_whole : (work : Work) (told : Option Files) (files : Files) (lost : Option (List ℕ)) (counts : Counts) (reply : Reply) → told ≡ Some files → (reply.status ≡ status.ReadFault → Rises counts.shelf_before counts.shelf_now)
    → IfSome told (λ files. Follows files lost work reply) → IsRun work files lost counts reply.status reply.text
written_whole work told files lost counts reply tells rose follows =
    let f : Follows files lost work reply = subst (λ (o : Option Files). IfSome o (λ files. Follows files lost work reply)) tells follows in
    whole work files lost counts reply rose (answered_or_lost files lost work reply f)

pub written : (work : Work) (told : Option Files) (files : Files) (lost : Option (List ℕ)) (counts : Counts) (reply : Reply) (before : List ℕ) (old new : Option (List ℕ)) → told ≡ Some files → old ≡ Some before
    → (reply.status ≡ status.ReadFault → Rises counts.shelf_before counts.shelf_now) → IfSome told (λ files. Follows files lost work reply) → Gains reply.text old new
    → (appended : List ℕ) × (new ≡ Some (before ++ appended)) × IsRun work files lost counts reply.status appended
written work told files lost counts reply before old new tells has rose follows gained =
    (reply.text, gained ∙ ap (option_map (λ (w : List ℕ). w ++ reply.text)) has, written_whole work told files lost counts reply tells rose follows)

-- what was to be written
text_of : (work : Work) (files : Files) (lost : Option (List ℕ)) (counts : Counts) (reply : Reply) → (reply.status ≡ status.ReadFault → Rises counts.shelf_before counts.shelf_now)
    → (replied files work ≡ Some reply) ⊎ ((reply.status ≡ status.ReadFault) × IsReadFault work files lost reply.text) → IsText work files lost counts reply.text
text_of work files lost counts reply rose (inl answers) = inl (reply.status, answers)
text_of work files lost counts reply rose (inr fault) = inr (rose fault.0, fault.1)

-- a reply of which the sink took a part
pub written_part : (work : Work) (told : Option Files) (files : Files) (lost : Option (List ℕ)) (counts : Counts) (reply : Reply) (before : List ℕ) (old new : Option (List ℕ)) → told ≡ Some files → old ≡ Some before
    → (reply.status ≡ status.ReadFault → Rises counts.shelf_before counts.shelf_now) → Rises counts.sink_before counts.sink_now → IfSome told (λ files. Follows files lost work reply) → GainsPart reply.text old new
    → (appended : List ℕ) × (new ≡ Some (before ++ appended)) × IsRun work files lost counts status.WriteFault appended
written_part work told files lost counts reply before old new tells has rose sank follows (taken, few, gained) =
    let f : Follows files lost work reply = subst (λ (o : Option Files). IfSome o (λ files. Follows files lost work reply)) tells follows in (
      take taken reply.text,
      gained ∙ ap (option_map (λ (w : List ℕ). w ++ take taken reply.text)) has,
      LosesSink refl sank reply.text (taken, few, refl) (text_of work files lost counts reply rose (answered_or_lost files lost work reply f)),
    )

-- without a fault
complete : (work : Work) (files : Files) (lost : Option (List ℕ)) (counts : Counts) (ended : Status) (appended : List ℕ) → HasNoFault counts → IsRun work files lost counts ended appended → IsComplete work files ended appended
complete work files lost counts ended appended none (Answers answers) = inl answers
complete work files lost counts ended appended none (WantsMemory is nothing) = inr (is, nothing)
complete work files lost counts ended appended none (LosesFile is rose fault) = absurd (none.0 rose)
complete work files lost counts ended appended none (LosesSink is rose text front whole) = absurd (none.1 rose)

pub completed : (work : Work) (files : Files) (lost : Option (List ℕ)) (counts : Counts) (ended : Status) (before : List ℕ) (new : Option (List ℕ)) → HasNoFault counts
    → (appended : List ℕ) × (new ≡ Some (before ++ appended)) × IsRun work files lost counts ended appended
    → (appended : List ℕ) × (new ≡ Some (before ++ appended)) × IsComplete work files ended appended
completed work files lost counts ended before new none (appended, is, run) = (appended, is, complete work files lost counts ended appended none run)
