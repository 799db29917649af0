-- Over right verdicts each part finds what it is to find.
use Rattle.std.proofs.Common.{◌≡◌, ℕ, Bool, true, false, cond, Option, Some, None, List, [], ◌∷◌, refl, sym, subst, ⊎_elim}
use Rattle.std.specs.Cmp.Lexicographic.{same_text}
use Rattle.std.specs.List.{range_with_len}
use Rattle.std.specs.List.Sorted.{IsStrictlyIncreasing}
use Rattle.std.proofs.lemmas.List.Elements.{All-head, All-tail}
use Rattle.pref_sets.specs.Answers.{Answer, AgreesWith, Next, Ask, Done, IsDone, answer_to, same_set}
use Rattle.pref_sets.specs.FastDiag.{fd}
use Rattle.pref_sets.specs.Kept.{IsKept}
use Rattle.pref_sets.specs.Preferred.{IsWithin}
use Rattle.pref_sets.specs.QuickXplain.{qx}
use Rattle.pref_sets.specs.Trimmed.{IsTrimmed}
use Rattle.pref_sets.proofs.AscendingPositions.{Ascends-from_increasing, IsStrictlyIncreasing-from_Ascends}
use Rattle.pref_sets.proofs.RisingPositions.{Ascends-from_rises, rises-from_Ascends}
use Rattle.req_keys.specs.Key.{PositionSet, empty_key, full_key}
use Rattle.req_keys.specs.KeyEq.{key_eq-same}
use Rattle.req_keys.specs.Order.{key_eq}
use Rattle.req_keys.specs.Positions.{RiseWithin}
use Rattle.req_keys.specs.Wanting.{key_over}
use Rattle.req_keys.specs.declared.verdict.Verdict.{Verdict}
use Rattle.req_keys.specs.declared.verdict.Verdict.TheVariants as verdict
use Rattle.req_keys.proofs.Rises.{members-within}
use Rattle.hs_tree.specs.Listing.{IsListing}
use Rattle.hs_tree.specs.Tree.{tree, found_by, next_of}
use Rattle.script.specs.declared.job.JobPlan.{JobPlan}
use Rattle.script.specs.declared.job.Outcome.{Outcome}
use Rattle.script.specs.declared.job.Outcome.TheVariants as outcome
use Rattle.script.specs.declared.job.Part.{Part}
use Rattle.script.specs.declared.job.Part.TheVariants as part
use Rattle.script.specs.declared.job.Parts.{Parts}
use Rattle.script.specs.Job.{Told, Wanted, asks, ends, answers_of, verdict_in, with_verdict, by_verdict, by_next, no_parts, want, background_part, kept_part, conflict_part, listing_part}
use Rattle.script.specs.Right.{AreTrue, ArePartsRight, IsRight, IsTrueVerdict}
use Rattle.script.proofs.Lookups.{cases-found}
use Rattle.script.proofs.TreeAsks.{range-rises}

module _ (P : List ℕ → Type 0) where
  -- what an answer says of the set
  abbrev Says : List ℕ → Bool → Type 0
  Says set true = P set
  Says set false = ¬ P set

  first-says : (one set : List ℕ) (sat other : Bool) (rest : Option Bool) → Says one sat → (rest ≡ Some other → Says set other) → cond (same_set one set) (Some sat) rest ≡ Some other → Says set other
  first-says one set sat other rest h k e =
      ⊎_elim
      (λ (both : (same_set one set ≡ true) × (sat ≡ other)).
      let same : one ≡ set = same_text one set (sym both.0) in
      subst (λ (b : Bool). Says set b) both.1 (subst (λ (s : List ℕ). Says s sat) same h))
      (λ (l : rest ≡ Some other). k l)
      (cases-found (same_set one set) sat other rest e)

  verdict-says : (one : List ℕ) (v : Verdict) (rest : List Answer) → IsTrueVerdict P one v → ((set : List ℕ) (sat : Bool) → answer_to rest set ≡ Some sat → Says set sat) → (set : List ℕ) (sat : Bool) → answer_to (with_verdict one v rest) set ≡ Some sat → Says set sat
  verdict-says one verdict.Sat rest h k set sat e = first-says one set true sat (answer_to rest set) h (k set sat) e
  verdict-says one verdict.Unsat rest h k set sat e = first-says one set false sat (answer_to rest set) h (k set sat) e
  verdict-says one verdict.Limit rest h k set sat e = k set sat e

  told-says : (told : Told) → AreTrue P told → (set : List ℕ) (sat : Bool) → answer_to (answers_of told) set ≡ Some sat → Says set sat
  told-says [] h set sat e = absurd (cc)
  told-says (pair ∷ told) h set sat e =
      verdict-says pair.0.members pair.1 (answers_of told)
      (All-head (λ one. IsTrueVerdict P one.0.members one.1) pair told h)
      (told-says told (All-tail (λ one. IsTrueVerdict P one.0.members one.1) pair told h))
      set sat e

  pub true-agrees : (told : Told) → AreTrue P told → AgreesWith P (answers_of told)
  true-agrees told h = record { sat = λ set e. told-says told h set true e; unsat = λ set e. told-says told h set false e }

  pub true-verdict : (told : Told) → AreTrue P told → (key : PositionSet) (v : Verdict) → verdict_in told key ≡ Some v → IsTrueVerdict P key.members v
  true-verdict [] h key v e = absurd (cc)
  true-verdict (pair ∷ told) h key v e =
      let rest = true-verdict told (All-tail (λ one. IsTrueVerdict P one.0.members one.1) pair told h) key v in
      let first : IsTrueVerdict P pair.0.members pair.1 = All-head (λ one. IsTrueVerdict P one.0.members one.1) pair told h in
      ⊎_elim
      (λ (both : (key_eq key pair.0 ≡ true) × (pair.1 ≡ v)).
      let same : key ≡ pair.0 = key_eq-same key pair.0 both.0 in
      subst (λ (k : PositionSet). IsTrueVerdict P k.members v) (sym same) (subst (λ (w : Verdict). IsTrueVerdict P pair.0.members w) both.1 first))
      (λ (l : verdict_in told key ≡ Some v). rest l)
      (cases-found (key_eq key pair.0) pair.1 v (verdict_in told key) e)

-- what a job comes to is right
abbrev pub IsRightWanted : (List ℕ → Type 0) → JobPlan → Wanted → Type 0
IsRightWanted P plan (asks part key) = Unit {0}
IsRightWanted P plan (ends outcome) = IsRight P plan outcome

module _ (P : List ℕ → Type 0) (plan : JobPlan) where
  by_verdict-right : (part : Part) (key : PositionSet) (before : Parts) (answer : Option Verdict) (sat unsat : Wanted) → ArePartsRight P plan before → (answer ≡ Some verdict.Sat → IsRightWanted P plan sat) → (answer ≡ Some verdict.Unsat → IsRightWanted P plan unsat) → IsRightWanted P plan (by_verdict part key before answer sat unsat)
  by_verdict-right part key before None sat unsat right h k = tt
  by_verdict-right part key before (Some verdict.Sat) sat unsat right h k = h refl
  by_verdict-right part key before (Some verdict.Unsat) sat unsat right h k = k refl
  by_verdict-right part key before (Some verdict.Limit) sat unsat right h k = right

  by_next-right : (told : Told) (part : Part) (before : Parts) (next : Next) (follow : List ℕ → Wanted) → ArePartsRight P plan before → ((found : List ℕ) → next ≡ Done found → IsRightWanted P plan (follow found)) → IsRightWanted P plan (by_next plan.requirements told part before next follow)
  by_next-right told part before (Ask set) follow right h =
      by_verdict-right part (key_over plan.requirements set) before (verdict_in told (key_over plan.requirements set)) (asks part (key_over plan.requirements set)) (asks part (key_over plan.requirements set)) right (λ e. tt) (λ e. tt)
  by_next-right told part before (Done found) follow right h = h found refl

module _ (P : List ℕ → Type 0) (n : ℕ) (told : Told)
    (kept_is : (kept : List ℕ) → ¬ P (range_with_len 1 n) → fd (range_with_len 1 n) (answers_of told) ≡ Done kept → IsKept P (range_with_len 1 n) kept)
    (conflict_is : (conflict : List ℕ) → P [] → qx (range_with_len 1 n) (answers_of told) ≡ Done conflict → IsTrimmed (λ set. ¬ P set) (range_with_len 1 n) conflict)
    (listing_is : (most : ℕ) (conflict : List ℕ) → ¬ P (range_with_len 1 n) → P [] → qx (range_with_len 1 n) (answers_of told) ≡ Done conflict → IsDone (next_of (tree n conflict most (answers_of told))) → IsListing P n most (found_by (tree n conflict most (answers_of told))))
    (verdict_is : (key : PositionSet) (v : Verdict) → verdict_in told key ≡ Some v → IsTrueVerdict P key.members v) where
  listing-right : (list : Option ℕ) (kept conflict : List ℕ) → ¬ P (range_with_len 1 n) → P [] → IsKept P (range_with_len 1 n) kept → qx (range_with_len 1 n) (answers_of told) ≡ Done conflict → IsRightWanted P (record { requirements = n; list = list }) (listing_part n told kept conflict list)
  listing-right None kept conflict fails empty is e =
      record {
        all = fails;
        background = empty;
        kept = refl;
        conflict = refl;
        listing = refl;
        right = record { kept = (refl, is); conflict = (refl, conflict_is conflict empty e); listing = λ most f. tt };
      }
  listing-right (Some most) kept conflict fails empty is e =
      by_next-right P (record { requirements = n; list = Some most }) told part.Listing _ (next_of (tree n conflict most (answers_of told))) _
      (record { kept = (refl, is); conflict = (refl, conflict_is conflict empty e); listing = λ other f. tt })
      (λ none done.
      record {
        all = fails;
        background = empty;
        kept = refl;
        conflict = refl;
        listing = refl;
        right = record {
          kept = (refl, is);
          conflict = (refl, conflict_is conflict empty e);
          listing = λ other f.
              let same : most ≡ other = cc in
              (found_by (tree n conflict most (answers_of told)), refl, subst (λ (m : ℕ). IsListing P n m (found_by (tree n conflict most (answers_of told)))) same (listing_is most conflict fails empty e (subst IsDone (sym done) tt)));
        };
      })

  conflict-right : (list : Option ℕ) (kept : List ℕ) → ¬ P (range_with_len 1 n) → P [] → IsKept P (range_with_len 1 n) kept → IsRightWanted P (record { requirements = n; list = list }) (conflict_part n told kept list)
  conflict-right list kept fails empty is =
      by_next-right P (record { requirements = n; list = list }) told part.Conflict _ (qx (range_with_len 1 n) (answers_of told)) _
      (record { kept = (refl, is); conflict = tt; listing = λ other f. tt })
      (λ conflict e. listing-right list kept conflict fails empty is e)

  kept-right : (list : Option ℕ) → ¬ P (range_with_len 1 n) → P [] → IsRightWanted P (record { requirements = n; list = list }) (kept_part n told list)
  kept-right list fails empty =
      by_next-right P (record { requirements = n; list = list }) told part.Kept no_parts (fd (range_with_len 1 n) (answers_of told)) _
      (record { kept = tt; conflict = tt; listing = λ other f. tt })
      (λ kept e. conflict-right list kept fails empty (kept_is kept fails e))

  want-right : (list : Option ℕ) → IsRightWanted P (record { requirements = n; list = list }) (want (record { requirements = n; list = list }) told)
  want-right list =
      by_verdict-right P (record { requirements = n; list = list }) part.All (full_key n) no_parts (verdict_in told (full_key n)) (ends outcome.Consistent) (background_part n told list)
      (record { kept = tt; conflict = tt; listing = λ other f. tt })
      (λ e. verdict_is (full_key n) verdict.Sat e)
      (λ e.
      by_verdict-right P (record { requirements = n; list = list }) part.Background (empty_key n) no_parts (verdict_in told (empty_key n)) (kept_part n told list) (ends outcome.Background)
      (record { kept = tt; conflict = tt; listing = λ other f. tt })
      (λ f. kept-right list (verdict_is (full_key n) verdict.Unsat e) (verdict_is (empty_key n) verdict.Sat f))
      (λ f. verdict_is (empty_key n) verdict.Unsat f))

  right-from : (list : Option ℕ) (w : Wanted) (out : Outcome) → w ≡ ends out → IsRightWanted P (record { requirements = n; list = list }) w → IsRight P (record { requirements = n; list = list }) out
  right-from list (asks part key) out e h = absurd (cc)
  right-from list (ends other) out e h = let same : other ≡ out = cc in subst (λ (o : Outcome). IsRight P (record { requirements = n; list = list }) o) same h

  pub outcome-right : (list : Option ℕ) (out : Outcome) → want (record { requirements = n; list = list }) told ≡ ends out → IsRight P (record { requirements = n; list = list }) out
  outcome-right list out e = right-from list (want (record { requirements = n; list = list }) told) out e (want-right list)

pub increasing-range : (n : ℕ) → IsStrictlyIncreasing (range_with_len 1 n)
increasing-range n = IsStrictlyIncreasing-from_Ascends (range_with_len 1 n) (Ascends-from_rises 0 n (range_with_len 1 n) (range-rises n))

pub rises-of_part : (n : ℕ) (set : List ℕ) → IsStrictlyIncreasing set → IsWithin set (range_with_len 1 n) → RiseWithin 0 n set
rises-of_part n set increasing within =
    rises-from_Ascends 0 n set (Ascends-from_increasing set increasing)
    (λ y m. members-within 0 n (range_with_len 1 n) (range-rises n) y (within y m))
