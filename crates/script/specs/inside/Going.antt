-- A recursion that goes on over the pairs that were told to the whole job, as far as they answer it.
use Rattle.std.specs.Prelude.{◌≡◌, ℕ, ◌+◌, Bool, true, false, List, [], ◌∷◌, ◌++◌, Option, Some, None}
use Rattle.pref_sets.specs.Answers.{Answer, Next, IsDone, answer_to}
use Rattle.pref_sets.specs.Answers.Next.{Ask}
use Rattle.req_keys.specs.Wanting.{key_over}
use Rattle.req_keys.specs.declared.verdict.Verdict.{Verdict}
use Rattle.req_keys.specs.declared.verdict.Verdict.TheVariants as verdict
use Rattle.script.specs.declared.beside.Beside.{Beside}
use Rattle.script.specs.declared.going.Halt.{Halt}
use Rattle.script.specs.declared.going.Halt.TheVariants as halt
use Rattle.script.specs.declared.going.Said.{Said}
use Rattle.script.specs.declared.going.Said.TheVariants as said
use Rattle.script.specs.Job.{Told, answers_of, verdict_in}

-- the told pairs and one more
abbrev pub told_beside : Beside → Told
told_beside beside = beside.used.now ++ (beside.key.now, beside.verdict) ∷ []

-- what a verdict answers; a Limit answers nothing
abbrev pub answer_in : Option Verdict → Option Bool
answer_in None = None
answer_in (Some verdict.Sat) = Some true
answer_in (Some verdict.Unsat) = Some false
answer_in (Some verdict.Limit) = None

-- the table has on each set of the n positions what was told of its key
abbrev pub IsTable : ℕ → Told → Type 0
IsTable n told = (set : List ℕ) → answer_to (answers_of told) set ≡ answer_in (verdict_in told (key_over n set))

-- the table answers what the answers do
abbrev pub HasAll : List Answer → List Answer → Type 0
HasAll answers table = (set : List ℕ) (sat : Bool) → answer_to answers set ≡ Some sat → answer_to table set ≡ Some sat

abbrev pub one_if_none : Option Bool → ℕ
one_if_none None = 1
one_if_none (Some sat) = 0

-- how many of the pairs the answers lack
abbrev pub lacking : List Answer → Told → ℕ
lacking answers [] = 0
lacking answers (pair ∷ told) = one_if_none (answer_to answers pair.0.members) + lacking answers told

-- why a recursion over n positions goes no further: nothing was told of what it asks, or Limit was, or it is done
abbrev pub IsHalted : ℕ → Told → Next → Halt → Type 0
IsHalted n told next halt.Waits = (set : List ℕ) × (next ≡ Ask set) × (verdict_in told (key_over n set) ≡ None)
IsHalted n told next (halt.Limit key) =
    (set : List ℕ) × (next ≡ Ask set) × (key ≡ key_over n set) × (verdict_in told (key_over n set) ≡ Some verdict.Limit)
IsHalted n told next halt.Ends = IsDone next

-- what the pairs say to a recursion: why it goes no further, or the answer to the set that it asks
abbrev pub IsSaid : ℕ → Told → Next → Said → Type 0
IsSaid n told next (said.Halts why) = IsHalted n told next why
IsSaid n told next (said.Answers sat) = (set : List ℕ) × (next ≡ Ask set) × (answer_in (verdict_in told (key_over n set)) ≡ Some sat)
