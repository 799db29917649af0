-- The turns over a run, one after the other.
use Rattle.std.proofs.Common.{◌≡◌, ◌∙◌, refl, sym, ap, ℕ, zero, suc, ◌-◌, List, [], ◌∷◌, ◌++◌, take}
use Rattle.std.proofs.lemmas.List.{append_assoc, append-nil}
use Rattle.req_keys.specs.Key.{PositionSet}
use Rattle.req_keys.specs.declared.verdict.Verdict.{Verdict}
use Rattle.script.specs.Job.{Told}
use Rattle.script.specs.declared.job.JobPlan.{JobPlan}
use Rattle.look_ahead.specs.Posting.{PostingState, nothing_posted, settled_by, with_posts}
use Rattle.look_ahead.specs.Postings.{turn_at, turns_over}

module _ (plan : JobPlan) (depth : ℕ) where
  pub turns-push : (told more : Told) (key : PositionSet) (verdict : Verdict) (state : PostingState) → turns_over plan depth told (more ++ (key, verdict) ∷ []) state ≡ turn_at plan depth (told ++ more) key (turns_over plan depth told more state)
  turns-push told [] key verdict state = ap (λ (t : Told). turn_at plan depth t key state) (sym (append-nil told))
  turns-push told (pair ∷ more) key verdict state =
      turns-push (told ++ pair ∷ []) more key verdict (turn_at plan depth told pair.0 state)
      ∙ ap (λ (t : Told). turn_at plan depth t key (turns_over plan depth (told ++ pair ∷ []) more (turn_at plan depth told pair.0 state))) (append_assoc told (pair ∷ []) more)

take-none : (n : ℕ) (none : List PositionSet) → none ≡ [] → take n none ≡ []
take-none zero none e = refl
take-none (suc n) none e = ap (take (suc n)) e

-- a turn without guessed keys, where nothing was posted
module _ (plan : JobPlan) (entries : ℕ) where
  idle : (told : Told) (key : PositionSet) → turn_at plan 0 told key (nothing_posted entries) ≡ nothing_posted entries
  idle told key =
      let none = take-none (entries - 0) [] refl in
      ap (λ (posts : List PositionSet). settled_by key (with_posts posts (nothing_posted entries))) none

  pub idle-turns : (told more : Told) → turns_over plan 0 told more (nothing_posted entries) ≡ nothing_posted entries
  idle-turns told [] = refl
  idle-turns told (pair ∷ more) = ap (turns_over plan 0 (told ++ pair ∷ []) more) (idle told pair.0) ∙ idle-turns (told ++ pair ∷ []) more
