-- What the tests owe.
use Rattle.std.proofs.Common.{◌≡◌, ◌∙◌, refl, sym, ap, subst, ℕ, ◌+◌, Bool, true, false, cond, List, [], length, Some, None, Ok, Err, Result, arith}
use Rattle.std.specs.Prelude.{All, OnOk, is_some}
use Rattle.std.specs.Map.{remove_entry}
use Rattle.std.proofs.lemmas.Option.{same_Some}
use Rattle.req_keys.specs.Key.{PositionSet, full_key}
use Rattle.req_keys.specs.Order.{key_eq}
use Rattle.clauses.specs.Problem.{ClauseProblem}
use Rattle.script.specs.Running.{Running, key_in, want_after}
use Rattle.look_ahead.specs.Ahead.{keys_ahead}
use Rattle.look_ahead.specs.Postings.{wants_of}
use Rattle.look_ahead.specs.Posting.{PostingState, after_turn, live_entry, nothing_posted, orders_of, settled_by}
use Rattle.look_ahead.specs.declared.orders.Orders.{Orders}
use Rattle.check_table.specs.declared.view.MainView.{MainView}
use Rattle.check_table.specs.Rule.{opened}
use Rattle.check_table.specs.Views.{after_look, answer_met}
use Rattle.check_table.proofs.Entries.{change_length}
use Rattle.serving.specs.Laws.{FirstRoundBegins, FirstTurnFollows, TurnsFollow}
use Rattle.serving.specs.Rounds.{AreReady, IsHeld}
use Rattle.serving.proofs.LiveEntries.{round-length}
use Rattle.serving.proofs.StandingEntries.{keys-length}

settled-taken : (key : PositionSet) (posting : PostingState) → (settled_by key posting).taken ≡ posting.taken
settled-taken key posting = by (is_some (live_entry posting.live key))
  where
    by : (b : Bool) → (cond b (record posting { live = remove_entry (key_eq key) posting.live; settled = posting.settled + 1 }) posting).taken ≡ posting.taken
    by true = refl
    by false = refl

abbrev pub first_run : Running
first_run = record { plan = record { requirements = 3; list = None }; told = [] }

-- what the first turn of the job asks, guesses and orders
module _ (run : Running) (asked : PositionSet) (list : List PositionSet) (is : run ≡ first_run) (asks : Some asked ≡ key_in (want_after run)) (guessed : list ≡ keys_ahead (wants_of run.plan) run.told 3) where
  pub asked-all : asked ≡ full_key 3
  asked-all = same_Some asked (full_key 3) (asks ∙ ap (λ (r : Running). key_in (want_after r)) is)

  pub asked-three : asked.n ≡ 3
  asked-three = ap (λ (k : PositionSet). k.n) asked-all

  guessed-first : list ≡ keys_ahead (wants_of first_run.plan) [] 3
  guessed-first = guessed ∙ ap (λ (r : Running). keys_ahead (wants_of r.plan) r.told 3) is

  module _ (before : PostingState) (orders : Orders) (new : before ≡ nothing_posted 2) (ordered : orders ≡ orders_of asked list before) where
    pub two-posts : length orders.post ≡ 2
    two-posts =
        ap (λ (o : Orders). length o.post) ordered
        ∙ ap (λ (k : PositionSet). length (orders_of k list before).post) asked-all
        ∙ ap (λ (l : List PositionSet). length (orders_of (full_key 3) l before).post) guessed-first
        ∙ ap (λ (s : PostingState). length (orders_of (full_key 3) (keys_ahead (wants_of first_run.plan) [] 3) s).post) new

-- the orders of the first turn are ready on a new table
pub first-ready : (problem : ClauseProblem) (main : MainView) (before after : PostingState) (orders : Orders) (asked : PositionSet) (list : List PositionSet)
    → TurnsFollow → FirstRoundBegins → FirstTurnFollows
    → main ≡ opened problem 2 → length problem.roots ≡ 3 → before ≡ nothing_posted 2 → All (λ key. key.n ≡ 3) list
    → after ≡ after_turn asked list before → orders ≡ orders_of asked list before → AreReady main after orders
first-ready problem main before after orders asked list next begins first opens roots new positions turned ordered =
    let held : IsHeld main before = subst (IsHeld main) (sym new) (begins main 2 (ap (λ (m : MainView). m.entries) opens) (ap (λ (m : MainView). m.size) opens)) in
    let count : length main.problem.roots ≡ 3 = ap (λ (m : MainView). length m.problem.roots) opens ∙ roots in
    let same : orders.new_round ≡ false = ap (λ (o : Orders). o.new_round) (ordered ∙ ap (orders_of asked list) new) ∙ first 2 asked list in
    next main before after orders asked list held
    (record {
      positions = subst (λ (n : ℕ). All (λ (key : PositionSet). key.n ≡ n) list) (sym count) positions;
      turned = turned;
      ordered = ordered;
    })
    same

-- after the first turn there are as many entries as keys were posted
module _ (asked : PositionSet) (list : List PositionSet) (entries : ℕ) (before posting : PostingState) (orders : Orders) (new : before ≡ nothing_posted entries) (turned : posting ≡ after_turn asked list before) (ordered : orders ≡ orders_of asked list before) where
  first-taken : posting.taken ≡ length orders.post
  first-taken =
      let none : 0 + length (orders_of asked list (nothing_posted entries)).post ≡ length (orders_of asked list (nothing_posted entries)).post = omega arith in
      ap (λ (s : PostingState). s.taken) (turned ∙ ap (after_turn asked list) new)
      ∙ none
      ∙ sym (ap (λ (o : Orders). length o.post) (ordered ∙ ap (orders_of asked list) new))

  first-entries : (main : MainView) (key : PositionSet) (now : PostingState) → now ≡ settled_by key posting → IsHeld main now → length main.entries ≡ length orders.post
  first-entries main key now settled held =
      sym (keys-length main.entries)
      ∙ ap length held.keys
      ∙ round-length now held.round
      ∙ ap (λ (s : PostingState). s.taken) settled
      ∙ settled-taken key posting
      ∙ first-taken

  pub first-posted : {T E : Type 0} (r : Result T E) (main : MainView) (key : PositionSet) (now : PostingState) (n : ℕ) → length orders.post ≡ n → OnOk r (now ≡ settled_by key posting) → OnOk r (IsHeld main now) → OnOk r (length main.entries ≡ n)
  first-posted (Ok x) main key now n many settled held = first-entries main key now settled held ∙ many
  first-posted (Err e) main key now n many settled held = tt

pub on-err : {T E : Type 0} (P : Type 0) (r : Result T E) (e : E) → r ≡ Err e → OnOk r P
on-err P (Ok x) e is = (cc)
on-err P (Err d) e is = tt

-- a look leaves as many entries
pub look-length : (old new : MainView) (t place word : ℕ) → new ≡ after_look t place word old → length new.entries ≡ length old.entries
look-length old new t place word view = ap (λ (m : MainView). length m.entries) view ∙ change_length (λ e. record e { seen = answer_met word e.seen }) old.entries t
