-- Keys that are posted ahead, in entries of rounds, and what a turn does to them. In each turn the job asks a key, and a list of
-- keys is guessed. Own to this project.
use Rattle.std.specs.Prelude.{ℕ, ◌+◌, ◌-◌, Bool, not, ◌&&◌, ◌||◌, List, [], ◌∷◌, ◌++◌, map, filter, length, take, nat_lt, if◌then◌else◌, Option, is_none, is_some}
use Rattle.std.specs.Map.{lookup, remove_entry}
use Rattle.req_keys.specs.Key.{PositionSet}
use Rattle.req_keys.specs.Order.{key_eq}
use Rattle.look_ahead.specs.Ahead.{has_key}
use Rattle.look_ahead.specs.declared.orders.Orders.{Orders}

-- what contracts see of a `Posting`
pub record PostingState : Type 0 where
  -- how many entries a round has
  pub entries : ℕ
  -- the live entries, each by its key and number, in order: posted in this round, neither cancelled nor settled
  pub live : List (PositionSet × ℕ)
  -- how many entries of this round are taken
  pub taken : ℕ
  -- the keys of all rounds' postings, in order
  pub posted : List PositionSet
  -- how many postings were settled
  pub settled : ℕ

-- nothing is posted yet
abbrev pub nothing_posted : ℕ → PostingState
nothing_posted entries = record { entries = entries; live = []; taken = 0; posted = []; settled = 0 }

-- the number of the key's live entry
abbrev pub live_entry : List (PositionSet × ℕ) → PositionSet → Option ℕ
live_entry live key = lookup (key_eq key) live

-- whether the entry's key is the asked one or in the list
abbrev pub is_wanted : PositionSet → List PositionSet → PositionSet × ℕ → Bool
is_wanted asked list entry = key_eq entry.0 asked || has_key list entry.0

-- the entries' numbers
abbrev pub numbers_of : List (PositionSet × ℕ) → List ℕ
numbers_of live = map (λ entry. entry.1) live

-- 1. what is live stays so where its key is wanted, and is cancelled otherwise
abbrev pub with_wanted : PositionSet → List PositionSet → PostingState → PostingState
with_wanted asked list state = record state { live = filter (is_wanted asked list) state.live }

abbrev pub unwanted : PositionSet → List PositionSet → PostingState → List ℕ
unwanted asked list state = numbers_of (filter (λ entry. not (is_wanted asked list entry)) state.live)

-- the members of the list without a live entry
abbrev pub lacking : List (PositionSet × ℕ) → List PositionSet → List PositionSet
lacking live list = filter (λ key. is_none (live_entry live key)) list

-- 2. a new round begins where this one has a posted entry and not as many left as are lacking. All that is live is cancelled
-- then, and the entries count from 0 again
abbrev pub is_full : List PositionSet → PostingState → Bool
is_full list state = nat_lt 0 state.taken && nat_lt (state.entries - state.taken) (length (lacking state.live list))

abbrev pub in_round : Bool → PostingState → PostingState
in_round new state = if new then record state { live = []; taken = 0 } else state

-- 3. what is lacking is posted in order, while the round has entries left
abbrev pub to_post : List PositionSet → PostingState → List PositionSet
to_post list state = take (state.entries - state.taken) (lacking state.live list)

-- the keys as entries, numbered in order from this number on
abbrev pub numbered : ℕ → List PositionSet → List (PositionSet × ℕ)
numbered first [] = []
numbered first (key ∷ keys) = (key, first) ∷ numbered (first + 1) keys

abbrev pub with_posts : List PositionSet → PostingState → PostingState
with_posts keys state = record state {
  live = state.live ++ numbered state.taken keys;
  taken = state.taken + length keys;
  posted = state.posted ++ keys;
}

-- the three steps of a turn
abbrev pub before_posts : PositionSet → List PositionSet → PostingState → PostingState
before_posts asked list state = let wanted = with_wanted asked list state in in_round (is_full list wanted) wanted

abbrev pub after_turn : PositionSet → List PositionSet → PostingState → PostingState
after_turn asked list state = let before = before_posts asked list state in with_posts (to_post list before) before

-- what a turn orders: the cancels of step 1 come before those of step 2
abbrev pub orders_of : PositionSet → List PositionSet → PostingState → Orders
orders_of asked list state = let wanted = with_wanted asked list state in record {
  new_round = is_full list wanted;
  cancel = unwanted asked list state ++ (if is_full list wanted then numbers_of wanted.live else []);
  post = to_post list (before_posts asked list state);
}

-- 4. the asked key is answered: its live entry, if it has one, is settled, and live no more
abbrev pub settled_by : PositionSet → PostingState → PostingState
settled_by key state =
    if is_some (live_entry state.live key)
    then record state { live = remove_entry (key_eq key) state.live; settled = state.settled + 1 }
    else state

-- how many postings were never settled
abbrev pub wasted_in : PostingState → ℕ
wasted_in state = length state.posted - state.settled
