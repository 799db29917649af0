-- On which table the turn that has begun can be served.
use Rattle.std.proofs.Common.{◌≡◌, refl, ℕ, Bool, true, false, cond, inl, inr, [], ◌∷◌, ◌++◌, List, None, Some, sym, ap, subst, ◌∙◌, length}
use Rattle.std.specs.Prelude.{All, IsSome, Option, is_some}
use Rattle.std.proofs.lemmas.List.Elements.{All-weaker}
use Rattle.clauses.specs.Problem.{ClauseProblem}
use Rattle.req_keys.specs.Key.{PositionSet}
use Rattle.script.specs.declared.job.JobPlan.{JobPlan}
use Rattle.script.specs.Job.{Told}
use Rattle.script.specs.Running.{Running}
use Rattle.look_ahead.specs.Ahead.{keys_ahead}
use Rattle.look_ahead.specs.Posting.{PostingState, after_turn, is_full, live_entry, nothing_posted, orders_of, settled_by, with_wanted}
use Rattle.look_ahead.specs.Postings.{turn_at, turns_over, wants_of}
use Rattle.look_ahead.specs.declared.orders.Orders.{Orders}
use Rattle.check_table.specs.declared.view.MainView.{MainView}
use Rattle.serving.specs.Laws.{FirstRoundBegins, FirstTurnFollows, IsTurn, RoundsBegin, TurnsFollow}
use Rattle.serving.specs.Rounds.{AreReady, IsHeld}
use Rattle.diag_workers.specs.inside.Course.{BeginsRound, IsNext, IsOrdered, guessed, posted_so_far}
use Rattle.diag_workers.specs.inside.Ready.{IsReady}

-- what `guessed_keys_fit_a_turn` says of the keys' positions
abbrev pub FitPositions : Type 0
FitPositions = (plan : JobPlan) (told : Told) (depth : ℕ) → All (λ key. key.n ≡ plan.requirements) (keys_ahead (wants_of plan) told depth)

-- ---- a posting's entries in a round stay

cond-entries : (b : Bool) (x y : PostingState) → x.entries ≡ y.entries → (cond b x y).entries ≡ y.entries
cond-entries true x y e = e
cond-entries false x y e = refl

settled-entries : (key : PositionSet) (state : PostingState) → (settled_by key state).entries ≡ state.entries
settled-entries key state = cond-entries (is_some (live_entry state.live key)) _ state refl

turned-entries : (key : PositionSet) (list : List PositionSet) (state : PostingState) → (after_turn key list state).entries ≡ state.entries
turned-entries key list state = cond-entries (is_full list (with_wanted key list state)) _ (with_wanted key list state) refl

pub turns-entries : (plan : JobPlan) (depth : ℕ) (told more : Told) (state : PostingState) → (turns_over plan depth told more state).entries ≡ state.entries
turns-entries plan depth told [] state = refl
turns-entries plan depth told (pair ∷ more) state =
    turns-entries plan depth (told ++ pair ∷ []) more (turn_at plan depth told pair.0 state)
    ∙ settled-entries pair.0 (after_turn pair.0 (keys_ahead (wants_of plan) told depth) state)
    ∙ turned-entries pair.0 (keys_ahead (wants_of plan) told depth) state

-- ---- the orders can be carried out

guessed-over : (n depth : ℕ) (run : Running) → run.plan.requirements ≡ n → FitPositions → All (λ key. key.n ≡ n) (guessed depth run)
guessed-over n depth run same fit =
    All-weaker (λ (k : PositionSet). k.n ≡ run.plan.requirements) (λ k. k.n ≡ n) (λ k e. e ∙ same) (guessed depth run) (fit run.plan run.told depth)

module _ (problem : ClauseProblem) (depth entries : ℕ) (run : Running) (posting : PostingState) (orders : Orders) (main : MainView) (same : run.plan.requirements ≡ length main.problem.roots) (fit : FitPositions) (begun : IsOrdered problem depth entries run posting orders) where
  is_turn : IsTurn (length main.problem.roots) (posted_so_far depth entries run) posting orders begun.key (guessed depth run)
  is_turn = record { positions = guessed-over (length main.problem.roots) depth run same fit; turned = begun.turned; ordered = begun.ordered }

  -- in the same round, on the table that holds the turns so far
  pub ready-on : TurnsFollow → IsHeld main (posted_so_far depth entries run) → orders.new_round ≡ false → AreReady main posting orders
  ready-on follow held new = follow main (posted_so_far depth entries run) posting orders begun.key (guessed depth run) held is_turn new

  -- where a round begins, on a new table
  pub ready-new : TurnsFollow → RoundsBegin → FirstRoundBegins → FirstTurnFollows → main.entries ≡ [] → main.size ≡ entries → BeginsRound run (Some orders) → AreReady main posting orders
  ready-new follow rounds begins first none size (inl new) =
      rounds main (posted_so_far depth entries run) posting orders begun.key (guessed depth run) none
      (size ∙ sym (turns-entries run.plan depth [] run.told (nothing_posted entries))) is_turn new
  ready-new follow rounds begins first none size (inr told) =
      let nothing : posted_so_far depth entries run ≡ nothing_posted entries = ap (λ (t : Told). turns_over run.plan depth [] t (nothing_posted entries)) told in
      let held : IsHeld main (posted_so_far depth entries run) = subst (IsHeld main) (sym nothing) (begins main entries none size) in
      let old : orders.new_round ≡ false =
      ap (λ (o : Orders). o.new_round) (begun.ordered ∙ ap (orders_of begun.key (guessed depth run)) nothing) ∙ first entries begun.key (guessed depth run) in
      ready-on follow held old

-- the turn that begins a round is ready on a new table
pub ready-at : (problem : ClauseProblem) (depth entries : ℕ) (run : Running) (posting : PostingState) (next : Option Orders) (main : MainView)
    → run.plan.requirements ≡ length main.problem.roots → FitPositions → TurnsFollow → RoundsBegin → FirstRoundBegins → FirstTurnFollows
    → main.entries ≡ [] → main.size ≡ entries → IsNext problem depth entries run posting next → BeginsRound run next → IsSome next → IsReady main posting next
ready-at problem depth entries run posting None main same fit follow rounds begins first none size begun one there = absurd (cc)
ready-at problem depth entries run posting (Some orders) main same fit follow rounds begins first none size begun one there =
    ready-new problem depth entries run posting orders main same fit begun follow rounds begins first none size one
