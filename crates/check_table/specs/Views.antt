-- What each step leaves in the view of the seat that makes it. A step that met a word tells its place and that word.
use Rattle.std.specs.Prelude.{ℕ, zero, suc, ◌+◌, Bool, true, false, ◌||◌, List, [], ◌∷◌, ◌++◌, length, nat_lt, ◌==◌, if◌then◌else◌, Option, Some, None}
use Rattle.req_keys.specs.Key.{PositionSet}
use Rattle.req_keys.specs.Words.{key_of_words}
use Rattle.req_keys.specs.declared.verdict.Verdict.{Verdict}
use Rattle.req_keys.specs.declared.verdict.Verdict.TheVariants as verdict
use Rattle.check_table.specs.Places.{has_mark}
use Rattle.check_table.specs.declared.view.Trace.{Trace}
use Rattle.check_table.specs.declared.view.KnownEntry.{KnownEntry}
use Rattle.check_table.specs.declared.view.MainView.{MainView}
use Rattle.check_table.specs.declared.view.WorkerView.{WorkerView}
use Rattle.check_table.specs.declared.view.Stage.{Stage}
use Rattle.check_table.specs.declared.view.Stage.TheVariants.{Idle, Holds, Runs}

-- one more step
abbrev pub noted : ℕ → ℕ → Trace → Trace
noted place word t = record { count = t.count + 1; place = place; word = word; place_before = t.place; word_before = t.word }

abbrev pub no_trace : Trace
no_trace = record { count = 0; place = 0; word = 0; place_before = 0; word_before = 0 }

-- a draw that met n at the cursor
abbrev pub after_draw : ℕ → ℕ → WorkerView → WorkerView
after_draw place n w = record w {
  stage = if nat_lt n w.size then Holds n else w.stage;
  done = if nat_lt n w.size then w.done else true;
  trace = noted place n w.trace;
}

-- a claim, by whether the word was Posted, and whether it was Empty
abbrev pub stage_claimed : Bool → Bool → Stage → Stage
stage_claimed posted empty Idle = Idle
stage_claimed posted empty (Holds t) = if posted then Runs t [] else if empty then Holds t else Idle
stage_claimed posted empty (Runs t read) = Runs t read

abbrev pub after_claim : ℕ → ℕ → WorkerView → WorkerView
after_claim place n w = record w {
  stage = stage_claimed (n == 1) (n == 0) w.stage;
  saw_mark = if n == 1 then false else w.saw_mark;
  trace = noted place n w.trace;
}

abbrev pub stage_read : ℕ → ℕ → Stage → Stage
stage_read j n Idle = Idle
stage_read j n (Holds t) = Holds t
stage_read j n (Runs t read) = Runs t (read ++ (j, n) ∷ [])

-- word j of the key was met as n
abbrev pub after_read : ℕ → ℕ → ℕ → WorkerView → WorkerView
after_read j place n w = record w { stage = stage_read j n w.stage; trace = noted place n w.trace }

-- an answer, or a giving up
abbrev pub after_answer : ℕ → ℕ → WorkerView → WorkerView
after_answer place n w = record w { stage = Idle; saw_mark = false; trace = noted place n w.trace }

-- a worker's look at the stop word
abbrev pub after_stop_look : ℕ → ℕ → WorkerView → WorkerView
after_stop_look place n w = record w { saw_stop = w.saw_stop || n == 1; trace = noted place n w.trace }

-- a worker's look at the state word of the entry that it runs
abbrev pub after_mark_look : ℕ → ℕ → WorkerView → WorkerView
after_mark_look place n w = record w { saw_mark = w.saw_mark || has_mark n; trace = noted place n w.trace }

-- the main seat wrote the next word of the next key; a store meets no word
abbrev pub after_write : ℕ → MainView → MainView
after_write n m = record m { written = m.written ++ n ∷ [] }

abbrev pub fresh_entry : PositionSet → KnownEntry
fresh_entry key = record { key = key; cancelled = false; mine = false; seen = None }

-- the main seat posted the key
abbrev pub posted_key : PositionSet → MainView → MainView
posted_key key m = record m { entries = m.entries ++ fresh_entry key ∷ []; written = [] }

-- the main seat posted the key whose words it wrote
abbrev pub after_post : MainView → MainView
after_post m = posted_key (key_of_words (length m.problem.roots) m.written) m

abbrev pub change_at : (KnownEntry → KnownEntry) → ℕ → List KnownEntry → List KnownEntry
change_at f t [] = []
change_at f zero (e ∷ es) = f e ∷ es
change_at f (suc t) (e ∷ es) = e ∷ change_at f t es

-- the answer that a state word without the mark holds, or what was seen before
abbrev pub answer_met : ℕ → Option Verdict → Option Verdict
answer_met n seen = if n == 5 then Some verdict.Sat else if n == 6 then Some verdict.Unsat else if n == 7 then Some verdict.Limit else seen

-- the main seat met n at the state word of entry t
abbrev pub after_look : ℕ → ℕ → ℕ → MainView → MainView
after_look t place n m = record m { entries = change_at (λ e. record e { seen = answer_met n e.seen }) t m.entries; trace = noted place n m.trace }

-- and took the entry where it was Posted
abbrev pub after_take : ℕ → ℕ → ℕ → MainView → MainView
after_take t place n m = record m { entries = change_at (λ e. record e { seen = answer_met n e.seen; mine = n == 1 || e.mine }) t m.entries; trace = noted place n m.trace }

-- the state word of entry t has the cancel mark from now on
abbrev pub after_cancel : ℕ → ℕ → ℕ → MainView → MainView
after_cancel t place n m = record m { entries = change_at (λ e. record e { cancelled = true }) t m.entries; trace = noted place n m.trace }

abbrev pub after_stop : MainView → MainView
after_stop m = record m { stopped = true }

-- a seat for one more worker
abbrev pub after_seat : MainView → MainView
after_seat m = record m { made = m.made + 1 }

abbrev pub newcomer : MainView → WorkerView
newcomer m = record { problem = m.problem; size = m.size; number = m.made + 1; stage = Idle; done = false; saw_stop = false; saw_mark = false; trace = no_trace }

-- a worker's seat left
abbrev pub after_leave : WorkerView → MainView → MainView
after_leave w m = record m { left = m.left + 1; left_done = m.left_done + (if w.done then 1 else 0) }
