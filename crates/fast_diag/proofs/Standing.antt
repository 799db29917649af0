-- The told answers and what is left to do.
use Rattle.std.proofs.Common.{◌≡◌, ℕ, Bool, true, List, [], ◌∷◌, ◌++◌, sym, ◌∙◌, ap, subst}
use Rattle.std.specs.List.{range_with_len}
use Rattle.pref_sets.specs.Answers.{Answer, Ask, Done, IsAsking, told_in_turn}
use Rattle.pref_sets.specs.FastDiag.{fd}
use Rattle.pref_sets.specs.Plan.{Plan, asks, IsLeft, after_answer}
use Rattle.pref_sets.proofs.PlansLeft.{left-start, next-asks, next-done, next-told}
use Rattle.req_keys.specs.Key.{PositionSet}
use Rattle.req_keys.specs.Wanting.{key_over}
use Rattle.fast_diag.specs.inside.Remaining.{part_plan, remaining, left_of, IsPart}
use Rattle.fast_diag.specs.inside.Standing.{Stands}
use Rattle.fast_diag.specs.declared.parts.Asking.{Asking}
use Rattle.fast_diag.specs.declared.parts.Part.{Part}
use Rattle.fast_diag.specs.declared.parts.Part.TheVariants as part
use Rattle.fast_diag.proofs.AfterAnswer.{asks-key}
use Rattle.fast_diag.proofs.PartPlanAgrees.{fd-plan}
use Rattle.fast_diag.proofs.PartPlanOnce.{part-once}

-- the answers told to FastDiag over n positions
abbrev pub told_to : ℕ → List Bool → List Answer
told_to n sats = told_in_turn (fd (range_with_len 1 n)) [] sats

pub stands-start : (n : ℕ) (start : Part) → IsPart n start → remaining start ≡ part_plan [] 0 n true → Stands n [] start
stands-start n start parts e = record {
  parts = parts;
  left = subst (λ (p : Plan). IsLeft [] (part_plan [] 0 n true) p) (sym e) (left-start (part_plan [] 0 n true) (part-once n [] 0 n true tt));
}

module _ (n : ℕ) (sats : List Bool) (asking : Asking) (h : Stands n sats (part.Asks asking)) where
  left : IsLeft (told_to n sats) (part_plan [] 0 n true) (asks asking.asked.members (λ sat. after_answer sat (left_of asking)))
  left = subst (λ (p : Plan). IsLeft (told_to n sats) (part_plan [] 0 n true) p) (asks-key n asking h.parts) h.left

  pub stands-asks : fd (range_with_len 1 n) (told_to n sats) ≡ Ask asking.asked.members
  stands-asks = next-asks (fd (range_with_len 1 n)) (part_plan [] 0 n true) (fd-plan n) (told_to n sats) asking.asked.members (λ sat. after_answer sat (left_of asking)) left

  pub asked-key : asking.asked ≡ key_over n asking.asked.members
  asked-key =
      let set : PositionSet → List ℕ = λ key. key.members in
      h.parts.asked ∙ ap (key_over n) (sym (ap set h.parts.asked))

  -- the answer is told
  pub stands-told : (sat : Bool) (further : Part) → IsPart n further → remaining further ≡ after_answer sat (left_of asking) → Stands n (sats ++ sat ∷ []) further
  stands-told sat further parts e = record {
    parts = parts;
    left =
        subst (λ (p : Plan). IsLeft (told_to n (sats ++ sat ∷ [])) (part_plan [] 0 n true) p) (sym e)
        (next-told (fd (range_with_len 1 n)) (part_plan [] 0 n true) (fd-plan n) sats asking.asked.members (λ s. after_answer s (left_of asking)) sat left);
  }

module _ (n : ℕ) (sats : List Bool) (kept : PositionSet) (h : Stands n sats (part.Done kept)) where
  pub stands-done : fd (range_with_len 1 n) (told_to n sats) ≡ Done kept.members
  stands-done = next-done (fd (range_with_len 1 n)) (part_plan [] 0 n true) (fd-plan n) (told_to n sats) kept.members h.left

  pub kept-key : kept ≡ key_over n kept.members
  kept-key = let over_n : kept.n ≡ n = h.parts in ap (λ k. key_over k kept.members) over_n

  pub done-asks_none : IsAsking (fd (range_with_len 1 n) (told_to n sats)) → ⊥
  done-asks_none asking = subst IsAsking stands-done asking
