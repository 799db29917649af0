-- Worked examples on the table's words and on the board that they stand for. Each computes.
use Rattle.std.specs.Prelude.{◌≡◌, true, false, [], Some, None, refl}
use Rattle.req_keys.specs.declared.verdict.Verdict.TheVariants as verdict
use Rattle.req_keys.specs.declared.verdict.Cell.TheVariants as cell
use Rattle.check_table.specs.Places.{slot, code, cell_of, has_mark}
use Rattle.check_table.specs.Views.{answer_met, no_trace, noted, stage_claimed}
use Rattle.check_table.specs.declared.view.Stage.TheVariants.{Idle, Holds, Runs}

-- entry 0 stands behind the cursor and the stop word; with two words for a key, entry 1 comes three words later
pub first-state : slot 2 0 0 ≡ 2
unfolding slot
first-state = refl

pub second-state : slot 2 1 0 ≡ 5
unfolding slot
second-state = refl

pub second-key : slot 2 1 2 ≡ 7
unfolding slot
second-key = refl

-- keys without positions have no words
pub no-words : slot 0 3 0 ≡ 5
unfolding slot
no-words = refl

pub running : code (cell.Running 1) false ≡ 258
running = refl

pub running-marked : (cell_of 266 ≡ cell.Running 1) × (has_mark 266 ≡ true)
running-marked = (refl, refl)

pub running-last : (cell_of (code (cell.Running 64) true) ≡ cell.Running 64) × (has_mark (code (cell.Running 64) false) ≡ false)
running-last = (refl, refl)

pub empty : (cell_of 0 ≡ cell.Empty) × (has_mark 0 ≡ false)
empty = (refl, refl)

pub posted-marked : (cell_of 9 ≡ cell.Posted) × (has_mark 9 ≡ true)
posted-marked = (refl, refl)

pub mine : cell_of 3 ≡ cell.Mine
mine = refl

pub given-up : cell_of 4 ≡ cell.GivenUp
given-up = refl

pub answered : (cell_of 5 ≡ cell.Answered verdict.Sat) × (cell_of 6 ≡ cell.Answered verdict.Unsat) × (cell_of 7 ≡ cell.Answered verdict.Limit)
answered = (refl, refl, refl)

-- an answer is seen where it has no mark, and stays seen
pub seen : (answer_met 6 None ≡ Some verdict.Unsat) × (answer_met 14 None ≡ None) × (answer_met 14 (Some verdict.Unsat) ≡ Some verdict.Unsat)
seen = (refl, refl, refl)

-- a claim begins with no word read
pub claims : stage_claimed true false (Holds 3) ≡ Runs 3 []
claims = refl

pub claims-early : stage_claimed false true (Holds 3) ≡ Holds 3
claims-early = refl

pub claims-late : stage_claimed false false (Holds 3) ≡ Idle
claims-late = refl

-- the last step becomes the one before it
pub notes : noted 5 1 (noted 0 7 no_trace) ≡ record { count = 2; place = 5; word = 1; place_before = 0; word_before = 7 }
notes = refl
