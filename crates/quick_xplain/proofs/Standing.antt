-- The told answers and what is left to do.
use Rattle.std.proofs.Common.{◌≡◌, ℕ, Bool, false, List, [], ◌∷◌, ◌++◌, sym, ◌∙◌, ap, subst}
use Rattle.pref_sets.specs.Answers.{Answer, Ask, Done, IsAsking, told_in_turn}
use Rattle.pref_sets.specs.QuickXplain.{qx}
use Rattle.pref_sets.specs.Plan.{Plan, asks, over, IsLeft, after_answer}
use Rattle.pref_sets.proofs.AscendingPositions.{Ascends}
use Rattle.pref_sets.proofs.PlansLeft.{left-start, next-asks, next-done, next-told}
use Rattle.pref_sets.proofs.RisingPositions.{Ascends-from_rises}
use Rattle.req_keys.specs.Key.{PositionSet, IsKey}
use Rattle.req_keys.specs.Wanting.{key_over}
use Rattle.quick_xplain.specs.inside.Remaining.{part_plan, remaining, left_of, IsPart}
use Rattle.quick_xplain.specs.inside.Standing.{Stands}
use Rattle.quick_xplain.specs.declared.parts.Asking.{Asking}
use Rattle.quick_xplain.specs.declared.parts.Part.{Part}
use Rattle.quick_xplain.specs.declared.parts.Part.TheVariants as part
use Rattle.quick_xplain.proofs.AfterAnswer.{asks-key}
use Rattle.quick_xplain.proofs.PartPlanAgrees.{qx-plan, part-once}

-- the answers told to QuickXplain over the members
abbrev pub told_to : List ℕ → List Bool → List Answer
told_to members sats = told_in_turn (qx members) [] sats

-- QuickXplain over the members, as a plan
abbrev pub plan_of : List ℕ → Plan
plan_of members = part_plan [] members [] false

pub ascends-key : (among : PositionSet) → IsKey among → Ascends among.members
ascends-key among key = Ascends-from_rises 0 among.n among.members key.1

pub stands-start : (among : PositionSet) (start : Part) → IsKey among → IsPart among start → remaining among.members start ≡ plan_of among.members → Stands among [] start
stands-start among start key parts e = record {
  key = key;
  parts = parts;
  left = subst (λ (p : Plan). IsLeft [] (plan_of among.members) p) (sym e) (left-start (plan_of among.members) (part-once among.members (ascends-key among key)));
}

module _ (among : PositionSet) (sats : List Bool) (asking : Asking) (h : Stands among sats (part.Asks asking)) where
  same : (table : List Answer) → qx among.members table ≡ over table (plan_of among.members)
  same table = qx-plan among.members (ascends-key among h.key) table

  left : IsLeft (told_to among.members sats) (plan_of among.members) (asks asking.asked.members (λ sat. after_answer sat (left_of among.members asking)))
  left = subst (λ (p : Plan). IsLeft (told_to among.members sats) (plan_of among.members) p) (asks-key among asking h.parts) h.left

  pub stands-asks : qx among.members (told_to among.members sats) ≡ Ask asking.asked.members
  stands-asks = next-asks (qx among.members) (plan_of among.members) same (told_to among.members sats) asking.asked.members (λ sat. after_answer sat (left_of among.members asking)) left

  pub asked-key : asking.asked ≡ key_over among.n asking.asked.members
  asked-key =
      let set : PositionSet → List ℕ = λ key. key.members in
      h.parts.asked ∙ ap (key_over among.n) (sym (ap set h.parts.asked))

  -- the answer is told
  pub stands-told : (sat : Bool) (further : Part) → IsPart among further → remaining among.members further ≡ after_answer sat (left_of among.members asking) → Stands among (sats ++ sat ∷ []) further
  stands-told sat further parts e = record {
    key = h.key;
    parts = parts;
    left =
        subst (λ (p : Plan). IsLeft (told_to among.members (sats ++ sat ∷ [])) (plan_of among.members) p) (sym e)
        (next-told (qx among.members) (plan_of among.members) same sats asking.asked.members (λ s. after_answer s (left_of among.members asking)) sat left);
  }

module _ (among : PositionSet) (sats : List Bool) (conflict : PositionSet) (h : Stands among sats (part.Done conflict)) where
  pub stands-done : qx among.members (told_to among.members sats) ≡ Done conflict.members
  stands-done = next-done (qx among.members) (plan_of among.members) (qx-plan among.members (ascends-key among h.key)) (told_to among.members sats) conflict.members h.left

  pub conflict-key : conflict ≡ key_over among.n conflict.members
  conflict-key = let over_n : conflict.n ≡ among.n = h.parts in ap (λ k. key_over k conflict.members) over_n

  pub done-asks_none : IsAsking (qx among.members (told_to among.members sats)) → ⊥
  done-asks_none asking = subst IsAsking stands-done asking
