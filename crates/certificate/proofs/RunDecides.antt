-- The sequential run decides each set that the certificate of its outcome is about.
use Rattle.std.proofs.Common.{◌≡◌, ◌⊎◌, ◌∙◌, refl, sym, ap, subst, inl, inr, ⊎_elim, ℕ, ◌+◌, ◌<◌, ◌≤◌, Bool, true, false, not, ◌&&◌, ◌||◌, ◌==◌, Option, Some, None, List, [], get_or, map, arith, zero, suc, ◌∷◌}
use Rattle.std.specs.Prelude.{Contains, nat_lt}
use Rattle.std.specs.List.{All, range_with_len}
use Rattle.std.proofs.lemmas.Bool.{cases_eq}
use Rattle.std.proofs.lemmas.Bool.Decides.{nat_tests}
use Rattle.std.proofs.lemmas.List.Elements.{Contains-get_or}
use Rattle.std.proofs.lemmas.Option.{none-some, same_Some}
use Rattle.lists.proofs.Members.{none as contains_none}
use Rattle.clauses.specs.Problem.{ClauseProblem}
use Rattle.clauses.specs.Search.{verdict_on}
use Rattle.pref_sets.specs.Answers.{Answer, Next, Ask, Done, answer_to}
use Rattle.pref_sets.specs.FastDiag.{fd}
use Rattle.pref_sets.specs.QuickXplain.{qx}
use Rattle.pref_sets.proofs.AscendingPositions.{Ascends}
use Rattle.pref_sets.proofs.RisingPositions.{Ascends-from_rises, rises-from_Ascends}
use Rattle.hs_tree.specs.Tree.{tree, found_by, next_of}
use Rattle.req_keys.specs.Key.{PositionSet, empty_key, full_key}
use Rattle.req_keys.specs.Positions.{RiseWithin, has, positions_where}
use Rattle.req_keys.specs.Wanting.{key_over}
use Rattle.req_keys.specs.declared.verdict.Verdict.{Verdict}
use Rattle.req_keys.specs.declared.verdict.Verdict.TheVariants as verdict
use Rattle.req_keys.proofs.MemberLaws.{has-from_Contains, Contains-from_has}
use Rattle.req_keys.proofs.PositionsLaws.{has-first, has-other, RiseWithin-filter_range, RiseWithin-range}
use Rattle.req_keys.proofs.Rises.{members-within}
use Rattle.script.specs.declared.job.JobPlan.{JobPlan}
use Rattle.script.specs.declared.job.Outcome.{Outcome}
use Rattle.script.specs.declared.job.Outcome.TheVariants as outcome
use Rattle.script.specs.declared.job.Part.{Part}
use Rattle.script.specs.declared.job.Part.TheVariants as part
use Rattle.script.specs.declared.job.Parts.{Parts}
use Rattle.script.specs.Job.{Told, Wanted, asks, ends, answers_of, verdict_in, by_verdict, by_next, no_parts, want, background_part, kept_part, conflict_part, listing_part}
use Rattle.script.specs.Right.{AreTrue, IsTrueVerdict}
use Rattle.script.specs.Sequential.{needs, outcome_of, result_of, known_verdict, verdicts_of}
use Rattle.script.proofs.Lookups.{unanswered}
use Rattle.script.proofs.RightOutcomes.{true-agrees, true-verdict}
use Rattle.script.proofs.SequentialRuns.{needs-checks}
use Rattle.certificate.specs.declared.judgement.Shown.{Shown}
use Rattle.certificate.specs.declared.judgement.Shown.TheVariants as shown
use Rattle.certificate.specs.Accepted.{IsDecided, UnlessLimit}
use Rattle.certificate.specs.Sets.{given_up, refuted_with, met_without}
use Rattle.certificate.specs.Writing.{IsOver}
use Rattle.certificate.proofs.FastDiagTold.{Beside, IsToldBehind, fd-told}
use Rattle.certificate.proofs.GreedyShown.{where-from, where-to}
use Rattle.certificate.proofs.QuickXplainTold.{IsToldLeft, Without, qx-told}
use Rattle.certificate.proofs.ToldSets.{HasTold, told-list}

-- ---- tests

-- a range has the numbers from its first up to its last
has-inside : (a m i : ℕ) → a ≤ i → i < a + m → has (range_with_len a m) i ≡ true
has-inside a zero i l u = absurd (omega arith)
has-inside a (suc m) i l u =
    ⊎_elim
    (λ (same : a ≡ i). ap (has (a ∷ range_with_len (a + 1) m)) (sym same) ∙ has-first a (range_with_len (a + 1) m))
    (λ (other : a ≡ i → ⊥). has-other a (range_with_len (a + 1) m) i other ∙ has-inside (a + 1) m i (omega arith) (omega arith))
    (cases_eq a i)

join_left : (a b c : Bool) → a ≡ true → b ≡ true → ((a && b) || c) ≡ true
join_left true true c p q = refl
join_left true false c p q = absurd (cc)
join_left false b c p q = absurd (cc)

join_right : (a c : Bool) → c ≡ true → (a || c) ≡ true
join_right true c p = refl
join_right false c p = p

either_one : (a c : Bool) → (a || c) ≡ true → (a ≡ true) ⊎ (c ≡ true)
either_one true c p = inl refl
either_one false c p = inr p

both_of : (a b : Bool) → (a && b) ≡ true → (a ≡ true) × (b ≡ true)
both_of true b p = (refl, p)
both_of false b p = absurd (cc)

not_true : (b : Bool) → not b ≡ true → b ≡ true → ⊥
not_true true p q = cc
not_true false p q = cc

below-from : (i k : ℕ) → nat_lt i k ≡ true → i < k
below-from i k e = grind (arith, nat_tests)

below-to : (i k : ℕ) → i < k → nat_lt i k ≡ true
below-to i k e = grind (arith, nat_tests)

same-from : (i k : ℕ) → (i == k) ≡ true → i ≡ k
same-from i k e = grind (arith, nat_tests)

same-to : (i k : ℕ) → i ≡ k → (i == k) ≡ true
same-to i k e = grind (arith, nat_tests)

all-members : (P : ℕ → Type 0) (xs : List ℕ) → ((x : ℕ) → Contains xs x → P x) → All P xs
all-members P xs f = λ k d l. f (get_or xs k d) (Contains-get_or xs k d l)

-- ---- verdicts

module _ (n : ℕ) (verdict_of_key : PositionSet → Verdict) where
  abbrev verdict_at : List ℕ → Verdict
  verdict_at set = verdict_of_key (key_over n set)

  abbrev Met : List ℕ → Type 0
  Met set = verdict_at set ≡ verdict.Sat

  abbrev NotUnmet : List ℕ → Type 0
  NotUnmet set = verdict_at set ≡ verdict.Unsat → ⊥

  met-verdict : (set : List ℕ) (v : Verdict) → v ≡ verdict_at set → IsTrueVerdict Met set v
  met-verdict set verdict.Sat e = sym e
  met-verdict set verdict.Unsat e = λ p. cc
  met-verdict set verdict.Limit e = tt

  unmet-verdict : (set : List ℕ) (v : Verdict) → v ≡ verdict_at set → IsTrueVerdict NotUnmet set v
  unmet-verdict set verdict.Sat e = λ p. cc
  unmet-verdict set verdict.Unsat e = λ p. p (sym e)
  unmet-verdict set verdict.Limit e = tt

  decided : (v : Verdict) → ((v ≡ verdict.Unsat → ⊥) → ⊥) → v ≡ verdict.Unsat
  decided verdict.Sat h = absurd (h (λ e. cc))
  decided verdict.Unsat h = refl
  decided verdict.Limit h = absurd (h (λ e. cc))

  own-key : (key : PositionSet) → key.n ≡ n → verdict_of_key key ≡ verdict_at key.members
  own-key key e = let N : ℕ → PositionSet = λ k. record { n = k; members = key.members } in ap (λ k. verdict_of_key (N k)) e

  module _ (told : Told) (over : All (λ pair. (pair.0.n ≡ n) × RiseWithin 0 n pair.0.members) told) (answered : All (λ pair. pair.1 ≡ verdict_of_key pair.0) told) where
    table : List Answer
    table = answers_of told

    all-met : AreTrue Met told
    all-met = λ k d l. met-verdict (get_or told k d).0.members (get_or told k d).1 (answered k d l ∙ own-key (get_or told k d).0 (over k d l).0)

    all-unmet : AreTrue NotUnmet told
    all-unmet = λ k d l. unmet-verdict (get_or told k d).0.members (get_or told k d).1 (answered k d l ∙ own-key (get_or told k d).0 (over k d l).0)

    told-met : (set : List ℕ) → answer_to (answers_of told) set ≡ Some true → verdict_at set ≡ verdict.Sat
    told-met set e = (true-agrees Met told all-met).sat set e

    told-unmet : (set : List ℕ) → answer_to (answers_of told) set ≡ Some false → verdict_at set ≡ verdict.Unsat
    told-unmet set e = decided (verdict_at set) ((true-agrees NotUnmet told all-unmet).unsat set e)

    key-met : (set : List ℕ) → verdict_in told (key_over n set) ≡ Some verdict.Sat → verdict_at set ≡ verdict.Sat
    key-met set e = true-verdict Met told all-met (key_over n set) verdict.Sat e

    key-unmet : (set : List ℕ) → verdict_in told (key_over n set) ≡ Some verdict.Unsat → verdict_at set ≡ verdict.Unsat
    key-unmet set e = decided (verdict_at set) (true-verdict NotUnmet told all-unmet (key_over n set) verdict.Unsat e)

    table-met : (set : List ℕ) → verdict_in told (key_over n set) ≡ Some verdict.Sat → answer_to (answers_of told) set ≡ Some true
    table-met set e = case (answer_to (answers_of told) set) refl
      where
        case : (answer : Option Bool) → answer_to (answers_of told) set ≡ answer → answer ≡ Some true
        case None f =
            ⊎_elim (λ (g : verdict_in told (key_over n set) ≡ None). absurd (none-some verdict.Sat (sym g ∙ e))) (λ (g : verdict_in told (key_over n set) ≡ Some verdict.Limit). absurd (cc)) (unanswered told (key_over n set) f)
        case (Some true) f = refl
        case (Some false) f = let no = told-unmet set f in let yes = key-met set e in absurd (cc)

    table-unmet : (set : List ℕ) → verdict_in told (key_over n set) ≡ Some verdict.Unsat → answer_to (answers_of told) set ≡ Some false
    table-unmet set e = case (answer_to (answers_of told) set) refl
      where
        case : (answer : Option Bool) → answer_to (answers_of told) set ≡ answer → answer ≡ Some false
        case None f =
            ⊎_elim (λ (g : verdict_in told (key_over n set) ≡ None). absurd (none-some verdict.Unsat (sym g ∙ e))) (λ (g : verdict_in told (key_over n set) ≡ Some verdict.Limit). absurd (cc)) (unanswered told (key_over n set) f)
        case (Some true) f = let no = told-met set f in let yes = key-unmet set e in absurd (cc)
        case (Some false) f = refl

    -- ---- the sets

    everything : List ℕ
    everything = range_with_len 1 n

    bounds : (k : ℕ) → Contains (range_with_len 1 n) k → (0 < k) × (k ≤ n)
    bounds k m = members-within 0 n (range_with_len 1 n) (RiseWithin-range 1 n 0 n (omega arith) (omega arith)) k m

    in-range : (k : ℕ) → 1 ≤ k → k ≤ n → Contains (range_with_len 1 n) k
    in-range k low high = Contains-from_has (range_with_len 1 n) k (has-inside 1 n k low (omega arith))

    where-ascends : (test : ℕ → Bool) → Ascends (positions_where n test)
    where-ascends test = Ascends-from_rises 0 n (positions_where n test) (RiseWithin-filter_range test 1 n 0 n (omega arith) (omega arith))

    -- what is decided, by the verdicts themselves
    pub record AreVerdicts (kept conflict : List ℕ) : Type 0 where
      pub kept_met : verdict_at kept ≡ verdict.Sat
      pub refuted : All (λ position. verdict_at (refuted_with n kept position) ≡ verdict.Unsat) (given_up n kept)
      pub conflict_unmet : verdict_at conflict ≡ verdict.Unsat
      pub needed : All (λ member. verdict_at (met_without n conflict member) ≡ verdict.Sat) conflict
      pub kept_rises : RiseWithin 0 n kept
      pub conflict_rises : RiseWithin 0 n conflict

    module _ (kept : List ℕ) (found : IsToldBehind (answers_of told) [] (range_with_len 1 n) kept) where
      one-refuted : (i : ℕ) → Contains (given_up n kept) i → verdict_at (refuted_with n kept i) ≡ verdict.Unsat
      one-refuted i m =
          let place = where-from n (λ k. not (has kept k)) i m in
          let test : ℕ → Bool = λ k. (nat_lt k i && has kept k) || k == i in
          let absent : Contains kept i → ⊥ = λ c. not_true (has kept i) place.2 (has-from_Contains kept i c) in
          told-unmet (refuted_with n kept i)
          (told-list (answers_of told) false (Beside (answers_of told) [] kept i) (refuted_with n kept i) (where-ascends test)
          (λ k b.
          ⊎_elim (λ (c : Contains [] k). absurd (contains_none k c))
          (λ (r : (Contains kept k × (k < i)) ⊎ (k ≡ i)).
          ⊎_elim
          (λ (c : Contains kept k × (k < i)).
          let inside = bounds k (found.within k c.0) in
          where-to n test k inside.0 inside.1 (join_left (nat_lt k i) (has kept k) (k == i) (below-to k i c.1) (has-from_Contains kept k c.0)))
          (λ (e : k ≡ i).
          let low : 1 ≤ i = place.0 in
          let high : i ≤ n = place.1 in
          where-to n test k (omega arith) (omega arith) (join_right (nat_lt k i && has kept k) (k == i) (same-to k i e))) r)
          b)
          (λ k c.
          let inside = where-from n test k c in
          ⊎_elim
          (λ (a : (nat_lt k i && has kept k) ≡ true). let parts = both_of (nat_lt k i) (has kept k) a in inr (inl (Contains-from_has kept k parts.1, below-from k i parts.0)))
          (λ (e : (k == i) ≡ true). inr (inr (same-from k i e)))
          (either_one (nat_lt k i && has kept k) (k == i) inside.2))
          (found.given_up i (in-range i place.0 place.1) absent))

    module _ (conflict : List ℕ) (found : IsToldLeft (answers_of told) [] (range_with_len 1 n) conflict) where
      one-needed : (p : ℕ) → Contains conflict p → verdict_at (met_without n conflict p) ≡ verdict.Sat
      one-needed p m =
          let test : ℕ → Bool = λ k. nat_lt k p || (nat_lt p k && has conflict k) in
          let place = bounds p (found.within p m) in
          let high : p ≤ n = place.1 in
          told-met (met_without n conflict p)
          (told-list (answers_of told) true (Without (answers_of told) [] (range_with_len 1 n) conflict p) (met_without n conflict p) (where-ascends test)
          (λ k b.
          ⊎_elim (λ (c : Contains [] k). absurd (contains_none k c))
          (λ (r : (Contains (range_with_len 1 n) k × (k < p)) ⊎ (Contains conflict k × (p < k))).
          ⊎_elim
          (λ (c : Contains (range_with_len 1 n) k × (k < p)).
          let inside = bounds k c.0 in
          where-to n test k inside.0 inside.1 (or_first (nat_lt k p) (nat_lt p k && has conflict k) (below-to k p c.1)))
          (λ (c : Contains conflict k × (p < k)).
          let inside = bounds k (found.within k c.0) in
          where-to n test k inside.0 inside.1 (join_right (nat_lt k p) (nat_lt p k && has conflict k) (and_both (nat_lt p k) (has conflict k) (below-to p k c.1) (has-from_Contains conflict k c.0)))) r)
          b)
          (λ k c.
          let inside = where-from n test k c in
          ⊎_elim
          (λ (a : nat_lt k p ≡ true). inr (inl (in-range k inside.0 inside.1, below-from k p a)))
          (λ (a : (nat_lt p k && has conflict k) ≡ true). let parts = both_of (nat_lt p k) (has conflict k) a in inr (inr (Contains-from_has conflict k parts.1, below-from p k parts.0)))
          (either_one (nat_lt k p) (nat_lt p k && has conflict k) inside.2))
          (found.needed p m))
        where
          or_first : (a c : Bool) → a ≡ true → (a || c) ≡ true
          or_first true c e = refl
          or_first false c e = absurd (cc)

          and_both : (a b : Bool) → a ≡ true → b ≡ true → (a && b) ≡ true
          and_both true b p q = q
          and_both false b p q = absurd (cc)

    range-ascends : Ascends (range_with_len 1 n)
    range-ascends = Ascends-from_rises 0 n (range_with_len 1 n) (RiseWithin-range 1 n 0 n (omega arith) (omega arith))

    list-told : (sat : Bool) (set : List ℕ) → Ascends set → answer_to (answers_of told) set ≡ Some sat → HasTold (answers_of told) sat (Contains set)
    list-told sat set rises e = record { set = set; ascends = rises; there = λ k m. m; back = λ k m. m; told = e }

    pub sets-decided : (kept conflict : List ℕ) → verdict_in told (full_key n) ≡ Some verdict.Unsat → verdict_in told (empty_key n) ≡ Some verdict.Sat
        → fd (range_with_len 1 n) (answers_of told) ≡ Done kept → qx (range_with_len 1 n) (answers_of told) ≡ Done conflict → AreVerdicts kept conflict
    sets-decided kept conflict full empty e f =
        let all_unmet = list-told false (range_with_len 1 n) range-ascends (table-unmet (range_with_len 1 n) full) in
        let none_met = list-told true [] tt (table-met [] empty) in
        let k = fd-told (answers_of told) (range_with_len 1 n) kept range-ascends all_unmet e in
        let c = qx-told (answers_of told) (range_with_len 1 n) conflict range-ascends none_met all_unmet f in
        record {
          kept_met = told-met kept (told-list (answers_of told) true (Contains kept) kept k.ascends (λ i m. m) (λ i m. m) (k.met none_met));
          refuted = all-members (λ position. verdict_at (refuted_with n kept position) ≡ verdict.Unsat) (given_up n kept) (one-refuted kept k);
          conflict_unmet = told-unmet conflict (told-list (answers_of told) false (Contains conflict) conflict c.ascends (λ i m. m) (λ i m. m) c.unmet);
          needed = all-members (λ member. verdict_at (met_without n conflict member) ≡ verdict.Sat) conflict (one-needed conflict c);
          kept_rises = rises-from_Ascends 0 n kept k.ascends (λ y m. bounds y (k.within y m));
          conflict_rises = rises-from_Ascends 0 n conflict c.ascends (λ y m. bounds y (c.within y m));
        }

    -- ---- the job

    abbrev IsSettled : Shown → Type 0
    IsSettled shown.Consistent = verdict_at (range_with_len 1 n) ≡ verdict.Sat
    IsSettled shown.Background = verdict_at [] ≡ verdict.Unsat
    IsSettled (shown.Explained kept conflict) = AreVerdicts kept.members conflict.members

    abbrev Settles : Wanted → Type 0
    Settles (asks part key) = Unit {0}
    Settles (ends found) = IsOver n found × UnlessLimit found IsSettled

    by_verdict-settles : (part : Part) (key : PositionSet) (before : Parts) (answer : Option Verdict) (sat unsat : Wanted) → (answer ≡ Some verdict.Sat → Settles sat) → (answer ≡ Some verdict.Unsat → Settles unsat)
        → Settles (by_verdict part key before answer sat unsat)
    by_verdict-settles part key before None sat unsat h k = tt
    by_verdict-settles part key before (Some verdict.Sat) sat unsat h k = h refl
    by_verdict-settles part key before (Some verdict.Unsat) sat unsat h k = k refl
    by_verdict-settles part key before (Some verdict.Limit) sat unsat h k = (tt, tt)

    by_next-settles : (part : Part) (before : Parts) (next : Next) (follow : List ℕ → Wanted) → ((found : List ℕ) → next ≡ Done found → Settles (follow found)) → Settles (by_next n told part before next follow)
    by_next-settles part before (Ask set) follow h =
        by_verdict-settles part (key_over n set) before (verdict_in told (key_over n set)) (asks part (key_over n set)) (asks part (key_over n set)) (λ e. tt) (λ e. tt)
    by_next-settles part before (Done found) follow h = h found refl

    module _ (full : verdict_in told (full_key n) ≡ Some verdict.Unsat) (empty : verdict_in told (empty_key n) ≡ Some verdict.Sat) where
      explained-settles : (kept conflict : List ℕ) (listing : Option (List PositionSet)) → AreVerdicts kept conflict
          → Settles (ends (outcome.Explained (record { kept = Some (key_over n kept); conflict = Some (key_over n conflict); listing = listing })))
      explained-settles kept conflict listing is = ((refl, refl), (shown.Explained (key_over n kept) (key_over n conflict), refl, is))

      listing-settles : (list : Option ℕ) (kept conflict : List ℕ) → AreVerdicts kept conflict → Settles (listing_part n told kept conflict list)
      listing-settles None kept conflict is = explained-settles kept conflict None is
      listing-settles (Some most) kept conflict is =
          let listing : Option (List PositionSet) = Some (map (key_over n) (found_by (tree n conflict most (answers_of told)))) in
          by_next-settles part.Listing (record { kept = Some (key_over n kept); conflict = Some (key_over n conflict); listing = None }) (next_of (tree n conflict most (answers_of told)))
          (λ none. ends (outcome.Explained (record { kept = Some (key_over n kept); conflict = Some (key_over n conflict); listing = listing })))
          (λ none e. explained-settles kept conflict listing is)

      conflict-settles : (list : Option ℕ) (kept : List ℕ) → fd (range_with_len 1 n) (answers_of told) ≡ Done kept → Settles (conflict_part n told kept list)
      conflict-settles list kept e =
          by_next-settles part.Conflict (record { kept = Some (key_over n kept); conflict = None; listing = None }) (qx (range_with_len 1 n) (answers_of told)) (λ conflict. listing_part n told kept conflict list)
          (λ conflict f. listing-settles list kept conflict (sets-decided kept conflict full empty e f))

      kept-settles : (list : Option ℕ) → Settles (kept_part n told list)
      kept-settles list =
          by_next-settles part.Kept no_parts (fd (range_with_len 1 n) (answers_of told)) (λ kept. conflict_part n told kept list) (λ kept e. conflict-settles list kept e)

    pub want-settles : (list : Option ℕ) → Settles (want (record { requirements = n; list = list }) told)
    want-settles list =
        by_verdict-settles part.All (full_key n) no_parts (verdict_in told (full_key n)) (ends outcome.Consistent) (background_part n told list)
        (λ e. (tt, key-met (range_with_len 1 n) e))
        (λ full.
        by_verdict-settles part.Background (empty_key n) no_parts (verdict_in told (empty_key n)) (kept_part n told list) (ends outcome.Background)
        (λ empty. kept-settles full empty list) (λ e. (tt, key-unmet [] e)))

-- ---- on a problem

known-sat : (answer : Option Verdict) → known_verdict answer ≡ verdict.Sat → answer ≡ Some verdict.Sat
known-sat None e = absurd (cc)
known-sat (Some v) e = ap Some e

known-unsat : (answer : Option Verdict) → known_verdict answer ≡ verdict.Unsat → answer ≡ Some verdict.Unsat
known-unsat None e = absurd (cc)
known-unsat (Some v) e = ap Some e

pub limit-or : (found : Outcome) (P Q : Shown → Type 0) → ((shown : Shown) → P shown → Q shown) → UnlessLimit found P → UnlessLimit found Q
limit-or outcome.Consistent P Q f h = f shown.Consistent h
limit-or outcome.Background P Q f h = f shown.Background h
limit-or (outcome.Explained parts) P Q f h = (h.0, h.1, f h.0 h.2)
limit-or (outcome.LimitAt part key before) P Q f h = tt

module _ (problem : ClauseProblem) (plan : JobPlan) where
  -- in words of the search
  of-search : (found : Shown) → IsSettled plan.requirements (verdicts_of problem) (needs plan (verdicts_of problem)) (needs-checks plan (verdicts_of problem)).over (needs-checks plan (verdicts_of problem)).answered found
      → IsDecided problem plan.requirements found
  of-search shown.Consistent h = known-sat (verdict_on problem (key_over plan.requirements (range_with_len 1 plan.requirements))) h
  of-search shown.Background h = known-unsat (verdict_on problem (key_over plan.requirements [])) h
  of-search (shown.Explained kept conflict) h = record {
    kept_met = known-sat (verdict_on problem (key_over plan.requirements kept.members)) h.kept_met;
    refuted = λ k d l. known-unsat (verdict_on problem (key_over plan.requirements (refuted_with plan.requirements kept.members (get_or (given_up plan.requirements kept.members) k d)))) (h.refuted k d l);
    conflict_unmet = known-unsat (verdict_on problem (key_over plan.requirements conflict.members)) h.conflict_unmet;
    needed = λ k d l. known-sat (verdict_on problem (key_over plan.requirements (met_without plan.requirements conflict.members (get_or conflict.members k d)))) (h.needed k d l);
    kept_rises = h.kept_rises;
    conflict_rises = h.conflict_rises;
  }

  ended : (wanted : Wanted) (found : Outcome) → outcome_of wanted ≡ Some found → wanted ≡ ends found
  ended (asks part key) found e = absurd (none-some found e)
  ended (ends other) found e = ap ends (same_Some other found e)

  pub run-decided : (found : Outcome) → result_of plan (verdicts_of problem) ≡ Some found → IsOver plan.requirements found × UnlessLimit found (IsDecided problem plan.requirements)
  run-decided found e =
      let over = (needs-checks plan (verdicts_of problem)).over in
      let answered = (needs-checks plan (verdicts_of problem)).answered in
      let told : Told = needs plan (verdicts_of problem) in
      let settled = want-settles plan.requirements (verdicts_of problem) told over answered plan.list in
      let at_end = subst (Settles plan.requirements (verdicts_of problem) told over answered) (ended (want plan told) found e) settled in
      (at_end.0, limit-or found (IsSettled plan.requirements (verdicts_of problem) told over answered) (IsDecided problem plan.requirements) of-search at_end.1)
