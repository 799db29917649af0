-- Where a run stands, with more pairs told.
use Rattle.std.proofs.Common.{◌≡◌, ℕ, List, ◌++◌, refl, sym, ap, ◌∙◌}
use Rattle.std.specs.List.{range_with_len}
use Rattle.fast_diag.specs.Diagnosing.{Diagnosing}
use Rattle.hs_tree.specs.Hitting.{Hitting}
use Rattle.quick_xplain.specs.Explaining.{Explaining}
use Rattle.req_keys.specs.Key.{PositionSet, empty_key, full_key}
use Rattle.req_keys.specs.Wanting.{key_over}
use Rattle.req_keys.specs.declared.verdict.Verdict.TheVariants as verdict
use Rattle.script.specs.declared.job.JobPlan.{JobPlan}
use Rattle.script.specs.declared.job.Part.{Part}
use Rattle.script.specs.Job.{Told, Wanted, asks, ends, answers_of}
use Rattle.script.specs.Running.{IsAsking}
use Rattle.script.specs.inside.Going.{HasAll}
use Rattle.script.specs.inside.Stages.{HasConflict, HasKept, IsBeyond, IsExplaining, IsKeeping, IsListing}
use Rattle.script.proofs.Answering.{has-more, told-known}
use Rattle.script.proofs.TreeMore.{fd-finds_over, qx-finds_over}

pub asks-some : (wanted : Wanted) → IsAsking wanted → (part : Part) × (key : PositionSet) × (wanted ≡ asks part key)
asks-some (asks part key) h = (part, key, refl)
asks-some (ends outcome) h = absurd h

module _ (n : ℕ) (told more : Told) where
  grown : HasAll (answers_of told) (answers_of (told ++ more))
  grown = has-more (answers_of told) told more (λ set sat e. e)

  beyond-more : IsBeyond n told → IsBeyond n (told ++ more)
  beyond-more is = record {
    all = told-known told more (full_key n) verdict.Unsat is.all;
    background = told-known told more (empty_key n) verdict.Sat is.background;
  }

  kept-more : (kept : PositionSet) → HasKept n told kept → HasKept n (told ++ more) kept
  kept-more kept is = record {
    beyond = beyond-more is.beyond;
    size = is.size;
    found = fd-finds_over (answers_of told) (answers_of (told ++ more)) grown (range_with_len 1 n) kept.members is.found;
  }

  conflict-more : (kept conflict : PositionSet) → HasConflict n told kept conflict → HasConflict n (told ++ more) kept conflict
  conflict-more kept conflict is = record {
    behind = kept-more kept is.behind;
    size = is.size;
    found = qx-finds_over (answers_of told) (answers_of (told ++ more)) grown (range_with_len 1 n) conflict.members is.found;
  }

  pub keep-more : (state : Diagnosing) → IsKeeping n told state → IsKeeping n (told ++ more) state
  keep-more state is = record { beyond = beyond-more is.beyond; size = is.size; has = has-more state.told told more is.has }

  pub explain-more : (kept : PositionSet) (state : Explaining) → IsExplaining n told kept state → IsExplaining n (told ++ more) kept state
  explain-more kept state is = record { behind = kept-more kept is.behind; among = is.among; has = has-more state.told told more is.has }

pub list-more : (plan : JobPlan) (told more : Told) (kept conflict : PositionSet) (state : Hitting) → IsListing plan told kept conflict state → IsListing plan (told ++ more) kept conflict state
list-more plan told more kept conflict state is = record {
  behind = conflict-more plan.requirements told more kept conflict is.behind;
  first = is.first;
  most = is.most;
  has = has-more state.told told more is.has;
}

-- what is wanted is one key
pub same-key : (wanted : Wanted) (part other : Part) (key one : PositionSet) → wanted ≡ asks part key → wanted ≡ asks other one → key ≡ one
same-key wanted part other key one e f = let g : asks part key ≡ asks other one = sym e ∙ f in cc (g)

-- the key that a part asks, over the positions that the part is over
pub asked-over : (n k : ℕ) (key : PositionSet) (set : List ℕ) → k ≡ n → key ≡ key_over n set → key ≡ key_over k set
asked-over n k key set e h = h ∙ ap (λ (m : ℕ). key_over m set) (sym e)
