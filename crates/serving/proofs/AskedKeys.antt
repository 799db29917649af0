-- The asked key's live entry, and the round once the key is settled.
use Rattle.std.proofs.Common.{◌≡◌, sym, subst, ℕ, List, Option, Some, None, Result, Ok, Err}
use Rattle.std.specs.Prelude.{All, IfSome, MatchOption, OnOk}
use Rattle.req_keys.specs.Key.{PositionSet}
use Rattle.look_ahead.specs.Posting.{PostingState, live_entry, settled_by}
use Rattle.check_table.specs.declared.view.KnownEntry.{KnownEntry}
use Rattle.check_table.specs.declared.view.MainView.{MainView}
use Rattle.serving.specs.Entries.{IsCancelled, StandsUnder}
use Rattle.serving.specs.Rounds.{IsHeld}
use Rattle.serving.specs.inside.Staying.{LeavesOthers}
use Rattle.serving.proofs.LiveEntries.{live-at}
use Rattle.serving.proofs.StandingEntries.{cancelled-apart, cancelled-there}

-- the key's live entry stands under it
pub live-stands : (es : List KnownEntry) (live : List (PositionSet × ℕ)) (key : PositionSet) (o : Option ℕ) → o ≡ live_entry live key → All (λ l. StandsUnder es l.1 l.0) live → IfSome o (λ n. StandsUnder es n key)
live-stands es live key None e all = tt
live-stands es live key (Some n) e all = live-at (λ (l : PositionSet × ℕ). StandsUnder es l.1 l.0) live key n (sym e) all

-- what was cancelled stays so
pub marks-kept : (es now : List KnownEntry) (key : PositionSet) (o : Option ℕ) → IfSome o (λ n. StandsUnder es n key) → MatchOption o (now ≡ es) (λ n. LeavesOthers n es now) → (u : ℕ) → IsCancelled es u → IsCancelled now u
marks-kept es now key None stands step u c = subst (λ (l : List KnownEntry). IsCancelled l u) (sym step) c
marks-kept es now key (Some n) stands step u c = cancelled-there es now u (step.others u (cancelled-apart es n u key stands c)) c

-- the table holds the round once the key is settled
pub held-told : {T E : Type 0} (r : Result T E) (main : MainView) (key : PositionSet) (old now : PostingState) → OnOk r (now ≡ settled_by key old) → IsHeld main (settled_by key old) → OnOk r (IsHeld main now)
held-told (Ok x) main key old now is held = subst (IsHeld main) (sym is) held
held-told (Err e) main key old now is held = tt
