-- Worked examples of guessing and posting. Each computes.
use Rattle.std.specs.Prelude.{◌≡◌, ℕ, Bool, true, false, ◌&&◌, List, [], ◌∷◌, ◌==◌, map, Some, None, if◌then◌else◌, refl}
use Rattle.std.specs.List.{list_any}
use Rattle.req_keys.specs.Key.{PositionSet}
use Rattle.req_keys.specs.Wanting.{key_over}
use Rattle.req_keys.specs.declared.verdict.Verdict.{Verdict}
use Rattle.req_keys.specs.declared.verdict.Verdict.TheVariants.{Sat, Unsat, Limit}
use Rattle.script.specs.declared.job.JobPlan.{JobPlan}
use Rattle.look_ahead.specs.Ahead.{asked_after, each_once, keys_ahead, words_to}
use Rattle.look_ahead.specs.Posting.{PostingState, after_turn, nothing_posted, orders_of, settled_by, wasted_in}
use Rattle.look_ahead.specs.Postings.{posting, wants_of}

abbrev plan : ℕ → JobPlan
plan n = record { requirements = n; list = None }

abbrev key : List ℕ → PositionSet
key set = key_over 3 set

abbrev sets : List PositionSet → List (List ℕ)
sets keys = map (λ k. k.members) keys

-- ---- the words and the list

pub words-two : words_to 2 ≡ (Unsat ∷ []) ∷ (Sat ∷ []) ∷ (Unsat ∷ Unsat ∷ []) ∷ (Unsat ∷ Sat ∷ []) ∷ (Sat ∷ Unsat ∷ []) ∷ (Sat ∷ Sat ∷ []) ∷ []
words-two = refl

-- after a word that ends the job nothing is asked
pub asked-after_end : asked_after (wants_of (plan 3)) [] (Sat ∷ []) ≡ None
asked-after_end = refl

pub asked-after_two : asked_after (wants_of (plan 3)) [] (Unsat ∷ Sat ∷ []) ≡ Some (key (1 ∷ []))
asked-after_two = refl

pub once-at_first_place : each_once (key (2 ∷ []) ∷ key [] ∷ key (2 ∷ []) ∷ []) ≡ key (2 ∷ []) ∷ key [] ∷ []
once-at_first_place = refl

pub ahead-none : keys_ahead (wants_of (plan 3)) [] 0 ≡ []
ahead-none = refl

-- a job about no requirements asks once
pub ahead-of_no_requirements : keys_ahead (wants_of (plan 0)) [] 3 ≡ []
ahead-of_no_requirements = refl

-- all three are asked: the background comes, then the first half, then what is left without or with it
pub ahead-three : sets (keys_ahead (wants_of (plan 3)) [] 3) ≡ [] ∷ (1 ∷ []) ∷ (2 ∷ 3 ∷ []) ∷ (1 ∷ 2 ∷ []) ∷ []
ahead-three = refl

-- ---- turns, with lists made up

abbrev state : ℕ → List (List ℕ × ℕ) → ℕ → List (List ℕ) → ℕ → PostingState
state entries live taken posted settled = record {
  entries = entries;
  live = map (λ e. (key e.0, e.1)) live;
  taken = taken;
  posted = map key posted;
  settled = settled;
}

-- as many as the round has entries, in a first round too
pub turn-first : after_turn (key []) (key (1 ∷ []) ∷ key (2 ∷ []) ∷ key (3 ∷ []) ∷ []) (nothing_posted 2) ≡ state 2 ((1 ∷ [], 0) ∷ (2 ∷ [], 1) ∷ []) 2 ((1 ∷ []) ∷ (2 ∷ []) ∷ []) 0
turn-first = refl

-- what is live and still in the list isn't posted again, the asked key's entry stays, and the others are cancelled
pub turn-goes_on :
    after_turn (key (1 ∷ [])) (key (3 ∷ []) ∷ key (2 ∷ []) ∷ []) (state 4 (([], 0) ∷ (1 ∷ [], 1) ∷ (2 ∷ [], 2) ∷ []) 3 ([] ∷ (1 ∷ []) ∷ (2 ∷ []) ∷ []) 0)
    ≡ state 4 ((1 ∷ [], 1) ∷ (2 ∷ [], 2) ∷ (3 ∷ [], 3) ∷ []) 4 ([] ∷ (1 ∷ []) ∷ (2 ∷ []) ∷ (3 ∷ []) ∷ []) 0
turn-goes_on = refl

pub orders-goes_on :
    orders_of (key (1 ∷ [])) (key (3 ∷ []) ∷ key (2 ∷ []) ∷ []) (state 4 (([], 0) ∷ (1 ∷ [], 1) ∷ (2 ∷ [], 2) ∷ []) 3 ([] ∷ (1 ∷ []) ∷ (2 ∷ []) ∷ []) 0)
    ≡ record { new_round = false; cancel = 0 ∷ []; post = key (3 ∷ []) ∷ [] }
orders-goes_on = refl

-- one entry too few: a new round, with all of the list, and the asked key's entry is cancelled after the unwanted one
pub orders-new_round :
    orders_of (key (1 ∷ [])) (key (3 ∷ []) ∷ key (2 ∷ []) ∷ []) (state 3 (([], 0) ∷ (1 ∷ [], 1) ∷ (2 ∷ [], 2) ∷ []) 3 ([] ∷ (1 ∷ []) ∷ (2 ∷ []) ∷ []) 0)
    ≡ record { new_round = true; cancel = 0 ∷ 1 ∷ 2 ∷ []; post = key (3 ∷ []) ∷ key (2 ∷ []) ∷ [] }
orders-new_round = refl

pub turn-new_round :
    after_turn (key (1 ∷ [])) (key (3 ∷ []) ∷ key (2 ∷ []) ∷ []) (state 3 (([], 0) ∷ (1 ∷ [], 1) ∷ (2 ∷ [], 2) ∷ []) 3 ([] ∷ (1 ∷ []) ∷ (2 ∷ []) ∷ []) 0)
    ≡ state 3 ((3 ∷ [], 0) ∷ (2 ∷ [], 1) ∷ []) 2 ([] ∷ (1 ∷ []) ∷ (2 ∷ []) ∷ (3 ∷ []) ∷ (2 ∷ []) ∷ []) 0
turn-new_round = refl

-- as many entries left as are lacking: the round goes on
pub orders-just_enough :
    orders_of (key []) (key (2 ∷ []) ∷ []) (state 2 ((1 ∷ [], 0) ∷ []) 1 ((1 ∷ []) ∷ []) 0)
    ≡ record { new_round = false; cancel = 0 ∷ []; post = key (2 ∷ []) ∷ [] }
orders-just_enough = refl

-- a key that has no live entry changes nothing, and one that has is settled
pub settled-not_live : settled_by (key (3 ∷ [])) (state 2 ((1 ∷ [], 0) ∷ []) 1 ((1 ∷ []) ∷ []) 0) ≡ state 2 ((1 ∷ [], 0) ∷ []) 1 ((1 ∷ []) ∷ []) 0
settled-not_live = refl

pub settled-live : settled_by (key (1 ∷ [])) (state 2 ((1 ∷ [], 0) ∷ []) 1 ((1 ∷ []) ∷ []) 0) ≡ state 2 [] 1 ((1 ∷ []) ∷ []) 1
settled-live = refl

-- ---- whole jobs

-- 1 and 2 don't go together
abbrev has : ℕ → List ℕ → Bool
has item set = list_any (λ other. other == item) set

abbrev phone : PositionSet → Verdict
phone k = if has 1 k.members && has 2 k.members then Unsat else Sat

abbrev posted_by : (PositionSet → Verdict) → ℕ → ℕ → List (List ℕ)
posted_by verdict depth entries = sets (posting (plan 3) verdict depth entries).posted

-- two are wasted: {2,3} and {3}
pub phone-posted : posted_by phone 3 4096 ≡ [] ∷ (1 ∷ []) ∷ (2 ∷ 3 ∷ []) ∷ (1 ∷ 2 ∷ []) ∷ (2 ∷ []) ∷ (1 ∷ 3 ∷ []) ∷ (3 ∷ []) ∷ []
phone-posted = refl

pub phone-wasted : wasted_in (posting (plan 3) phone 3 4096) ≡ 2
phone-wasted = refl

-- with rounds of two entries
pub phone-rounds : posted_by phone 3 2 ≡ [] ∷ (1 ∷ []) ∷ (1 ∷ []) ∷ (2 ∷ 3 ∷ []) ∷ (2 ∷ 3 ∷ []) ∷ (1 ∷ 2 ∷ []) ∷ (1 ∷ 3 ∷ []) ∷ (2 ∷ []) ∷ []
phone-rounds = refl

pub phone-rounds_wasted : wasted_in (posting (plan 3) phone 3 2) ≡ 6
phone-rounds_wasted = refl

-- without a depth nothing is posted
pub phone-depth_0 : posting (plan 3) phone 0 4096 ≡ nothing_posted 4096
phone-depth_0 = refl

-- the first check spends its allowance: what was posted beside it is wasted
pub limit-first : (posted_by (λ k. Limit) 1 4096 ≡ [] ∷ []) × (wasted_in (posting (plan 3) (λ k. Limit) 1 4096) ≡ 1)
limit-first = (refl, refl)
