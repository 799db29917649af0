-- The job over the pairs of key and verdict that were told: which key is wanted next, for which part, or how the job ends. Own
-- to this project. The parts are `all`, `background`, `kept` (FastDiag), `conflict` (QuickXplain) and, where it is asked for,
-- `listing` (the tree of hitting sets). Each runs over all that was told, so a key that was told is not asked again.
use Rattle.std.specs.Prelude.{ℕ, true, false, List, [], ◌∷◌, map, Option, Some, None}
use Rattle.std.specs.List.{range_with_len}
use Rattle.std.specs.Map.{lookup}
use Rattle.pref_sets.specs.Answers.{Answer, Next}
use Rattle.pref_sets.specs.Answers.Next.{Ask, Done}
use Rattle.pref_sets.specs.FastDiag.{fd}
use Rattle.pref_sets.specs.QuickXplain.{qx}
use Rattle.req_keys.specs.Key.{PositionSet, empty_key, full_key}
use Rattle.req_keys.specs.Order.{key_eq}
use Rattle.req_keys.specs.Wanting.{key_over}
use Rattle.req_keys.specs.declared.verdict.Verdict.{Verdict}
use Rattle.req_keys.specs.declared.verdict.Verdict.TheVariants as verdict
use Rattle.hs_tree.specs.Tree.{tree, found_by, next_of}
use Rattle.script.specs.declared.job.JobPlan.{JobPlan}
use Rattle.script.specs.declared.job.Outcome.{Outcome}
use Rattle.script.specs.declared.job.Outcome.TheVariants as outcome
use Rattle.script.specs.declared.job.Part.{Part}
use Rattle.script.specs.declared.job.Part.TheVariants as part
use Rattle.script.specs.declared.job.Parts.{Parts}

-- the keys that were asked, each with its verdict, in the order in which they were told
abbrev pub Told : Type 0
Told = List (PositionSet × Verdict)

-- the verdict that was told of the key
abbrev pub verdict_in : Told → PositionSet → Option Verdict
verdict_in told key = lookup (key_eq key) told

-- one more answer before the others; a Limit says nothing of the set
abbrev pub with_verdict : List ℕ → Verdict → List Answer → List Answer
with_verdict set verdict.Sat answers = record { set = set; sat = true } ∷ answers
with_verdict set verdict.Unsat answers = record { set = set; sat = false } ∷ answers
with_verdict set verdict.Limit answers = answers

-- the table of answers over which the recursions run
abbrev pub answers_of : Told → List Answer
answers_of [] = []
answers_of (pair ∷ told) = with_verdict pair.0.members pair.1 (answers_of told)

-- the verdict of a key is wanted for a part, or the job has ended
pub data Wanted : Type 0 where
  asks : Part → PositionSet → Wanted
  ends : Outcome → Wanted

-- nothing is finished
abbrev pub no_parts : Parts
no_parts = record { kept = None; conflict = None; listing = None }

-- how a check goes on, with the parts that were finished before it: it is wanted where nothing was told, and Limit ends the
-- job
abbrev pub by_verdict : Part → PositionSet → Parts → Option Verdict → Wanted → Wanted → Wanted
by_verdict part key before None sat unsat = asks part key
by_verdict part key before (Some verdict.Sat) sat unsat = sat
by_verdict part key before (Some verdict.Unsat) sat unsat = unsat
by_verdict part key before (Some verdict.Limit) sat unsat = ends (outcome.LimitAt part key before)

-- a recursion asks a set: its key is wanted, unless its search spent the allowance
abbrev pub asks_or_limit : Part → PositionSet → Parts → Option Verdict → Wanted
asks_or_limit part key before verdict = by_verdict part key before verdict (asks part key) (asks part key)

-- how a recursion goes on, and what follows it when it is done
abbrev pub by_next : ℕ → Told → Part → Parts → Next → (List ℕ → Wanted) → Wanted
by_next n told part before (Ask set) follow = asks_or_limit part (key_over n set) before (verdict_in told (key_over n set))
by_next n told part before (Done found) follow = follow found

-- the listing, with the kept set and the conflict
abbrev pub listing_part : ℕ → Told → List ℕ → List ℕ → Option ℕ → Wanted
listing_part n told kept conflict None =
    ends (outcome.Explained (record { kept = Some (key_over n kept); conflict = Some (key_over n conflict); listing = None }))
listing_part n told kept conflict (Some most) =
    by_next n told part.Listing (record { kept = Some (key_over n kept); conflict = Some (key_over n conflict); listing = None })
    (next_of (tree n conflict most (answers_of told))) (λ none.
    ends (outcome.Explained (record {
      kept = Some (key_over n kept);
      conflict = Some (key_over n conflict);
      listing = Some (map (key_over n) (found_by (tree n conflict most (answers_of told))));
    })))

-- the conflict among all positions
abbrev pub conflict_part : ℕ → Told → List ℕ → Option ℕ → Wanted
conflict_part n told kept list =
    by_next n told part.Conflict (record { kept = Some (key_over n kept); conflict = None; listing = None })
    (qx (range_with_len 1 n) (answers_of told)) (λ conflict. listing_part n told kept conflict list)

-- the kept set of all positions
abbrev pub kept_part : ℕ → Told → Option ℕ → Wanted
kept_part n told list =
    by_next n told part.Kept no_parts (fd (range_with_len 1 n) (answers_of told)) (λ kept. conflict_part n told kept list)

-- whether no position can be met
abbrev pub background_part : ℕ → Told → Option ℕ → Wanted
background_part n told list =
    by_verdict part.Background (empty_key n) no_parts (verdict_in told (empty_key n)) (kept_part n told list) (ends outcome.Background)

-- what is wanted of a plan over the told pairs
abbrev pub want : JobPlan → Told → Wanted
want plan told =
    by_verdict part.All (full_key plan.requirements) no_parts (verdict_in told (full_key plan.requirements))
    (ends outcome.Consistent) (background_part plan.requirements told plan.list)
