-- A job ends with a limit exactly where a check that it needs has the verdict Limit.
use Rattle.std.proofs.Common.{◌≡◌, ℕ, zero, suc, Bool, true, false, cond, Option, Some, None, List, [], ◌∷◌, ◌++◌, inl, inr, ◌⊎◌, ⊎_elim, refl, sym, ap, subst, ◌∙◌, append-nil}
use Rattle.std.specs.Prelude.{Contains, unwrap_or}
use Rattle.std.specs.List.{range_with_len}
use Rattle.std.proofs.lemmas.List.Elements.{Contains-append_cases}
use Rattle.lists.proofs.Members.{first as contains_first, later as contains_later, none as contains_none, first_or_later}
use Rattle.pref_sets.specs.Answers.{Answer, Next, Ask, Done}
use Rattle.pref_sets.specs.FastDiag.{fd}
use Rattle.pref_sets.specs.QuickXplain.{qx}
use Rattle.req_keys.specs.Key.{PositionSet, empty_key, full_key}
use Rattle.req_keys.specs.KeyEq.{key_eq-same}
use Rattle.req_keys.specs.Order.{key_eq}
use Rattle.req_keys.specs.Wanting.{key_over}
use Rattle.req_keys.specs.declared.verdict.Verdict.{Verdict}
use Rattle.req_keys.specs.declared.verdict.Verdict.TheVariants as verdict
use Rattle.hs_tree.specs.Tree.{tree, next_of}
use Rattle.script.specs.declared.job.JobPlan.{JobPlan}
use Rattle.script.specs.declared.job.Outcome.{Outcome}
use Rattle.script.specs.declared.job.Outcome.TheVariants as outcome
use Rattle.script.specs.declared.job.Part.{Part}
use Rattle.script.specs.declared.job.Part.TheVariants as part
use Rattle.script.specs.declared.job.Parts.{Parts}
use Rattle.script.specs.Job.{Told, Wanted, asks, ends, answers_of, verdict_in, by_verdict, by_next, no_parts, want, background_part, kept_part, conflict_part, listing_part}
use Rattle.script.specs.Sequential.{by_want, check_count, needs, outcome_of, result_of, told_within}
use Rattle.script.proofs.Answering.{answers-append, told-known, told-unknown}
use Rattle.script.proofs.Lookups.{cases-found, key_eq-refl}
use Rattle.script.proofs.SequentialRuns.{want-key}

-- the job ends with a limit at this key
abbrev EndsAt : Part → PositionSet → Wanted → Type 0
EndsAt p k w = (before : Parts) × (w ≡ ends (outcome.LimitAt p k before))

-- ---- a told Limit ends the job where its key was asked

-- a check, before and after something more was told
step-verdict : (one : Part) (key : PositionSet) (before : Parts) (was now : Option Verdict) (sat sat' unsat unsat' : Wanted) (p : Part) (k : PositionSet)
    → ((v : Verdict) → was ≡ Some v → now ≡ Some v) → (was ≡ None → key ≡ k → now ≡ Some verdict.Limit)
    → (was ≡ Some verdict.Sat → sat ≡ asks p k → EndsAt p k sat') → (was ≡ Some verdict.Unsat → unsat ≡ asks p k → EndsAt p k unsat')
    → by_verdict one key before was sat unsat ≡ asks p k → EndsAt p k (by_verdict one key before now sat' unsat')
step-verdict one key before None now sat sat' unsat unsat' p k same new s u e =
    let parts : one ≡ p = cc in
    let keys : key ≡ k = cc in (
      before,
      ap (λ (o : Option Verdict). by_verdict one key before o sat' unsat') (new refl keys)
          ∙ ap (λ (q : Part). ends (outcome.LimitAt q key before)) parts
          ∙ ap (λ (q : PositionSet). ends (outcome.LimitAt p q before)) keys,
    )
step-verdict one key before (Some verdict.Sat) now sat sat' unsat unsat' p k same new s u e =
    let r = s refl e in (r.0, ap (λ (o : Option Verdict). by_verdict one key before o sat' unsat') (same verdict.Sat refl) ∙ r.1)
step-verdict one key before (Some verdict.Unsat) now sat sat' unsat unsat' p k same new s u e =
    let r = u refl e in (r.0, ap (λ (o : Option Verdict). by_verdict one key before o sat' unsat') (same verdict.Unsat refl) ∙ r.1)
step-verdict one key before (Some verdict.Limit) now sat sat' unsat unsat' p k same new s u e = absurd (cc)

ends-not-asks : (o : Outcome) (p : Part) (k : PositionSet) {X : Type 0} → ends o ≡ asks p k → X
ends-not-asks o p k e = absurd (cc)

module _ (plan : JobPlan) (told : Told) (p : Part) (k : PositionSet) (wants : want plan told ≡ asks p k) where
  n : ℕ
  n = plan.requirements

  limited : Told
  limited = told ++ (k, verdict.Limit) ∷ []

  not_told : verdict_in told k ≡ None
  not_told = (want-key plan told p k wants).new

  same-answers : answers_of (told ++ (k, verdict.Limit) ∷ []) ≡ answers_of told
  same-answers = answers-append told ((k, verdict.Limit) ∷ []) ∙ append-nil (answers_of told)

  known : (key : PositionSet) (v : Verdict) → verdict_in told key ≡ Some v → verdict_in (told ++ (k, verdict.Limit) ∷ []) key ≡ Some v
  known key v e = told-known told ((k, verdict.Limit) ∷ []) key v e

  met : (key : PositionSet) → verdict_in told key ≡ None → key ≡ k → verdict_in (told ++ (k, verdict.Limit) ∷ []) key ≡ Some verdict.Limit
  met key none is =
      told-unknown told ((k, verdict.Limit) ∷ []) key none
      ∙ ap (λ (b : Bool). cond b (Some verdict.Limit) None) (ap (λ (x : PositionSet). key_eq x k) is ∙ key_eq-refl k)

  step-next : (one : Part) (before : Parts) (next now : Next) (follow follow' : List ℕ → Wanted) → now ≡ next
      → ((found : List ℕ) → follow found ≡ asks p k → EndsAt p k (follow' found))
      → by_next plan.requirements told one before next follow ≡ asks p k → EndsAt p k (by_next plan.requirements (told ++ (k, verdict.Limit) ∷ []) one before now follow')
  step-next one before (Ask set) now follow follow' is go e =
      let key = key_over plan.requirements set in
      let told_already : (v : Verdict) → verdict_in told key ≡ Some v → asks one key ≡ asks p k → EndsAt p k (asks one key) =
      λ v was same. let keys : key ≡ k = cc in let none : verdict_in told key ≡ None = ap (verdict_in told) keys ∙ not_told in absurd (cc) in
      let r = step-verdict one key before (verdict_in told key) (verdict_in (told ++ (k, verdict.Limit) ∷ []) key) (asks one key) (asks one key) (asks one key) (asks one key) p k
      (known key) (met key) (told_already verdict.Sat) (told_already verdict.Unsat) e in
      (r.0, ap (λ (x : Next). by_next plan.requirements (told ++ (k, verdict.Limit) ∷ []) one before x follow') is ∙ r.1)
  step-next one before (Done found) now follow follow' is go e =
      let r = go found e in (r.0, ap (λ (x : Next). by_next plan.requirements (told ++ (k, verdict.Limit) ∷ []) one before x follow') is ∙ r.1)

  listing : (kept conflict : List ℕ) (list : Option ℕ) → listing_part plan.requirements told kept conflict list ≡ asks p k → EndsAt p k (listing_part plan.requirements (told ++ (k, verdict.Limit) ∷ []) kept conflict list)
  listing kept conflict None e = ends-not-asks _ p k e
  listing kept conflict (Some most) e =
      step-next part.Listing _ (next_of (tree plan.requirements conflict most (answers_of told))) (next_of (tree plan.requirements conflict most (answers_of (told ++ (k, verdict.Limit) ∷ [])))) _ _
      (ap (λ (a : List Answer). next_of (tree plan.requirements conflict most a)) same-answers) (λ found same. ends-not-asks _ p k same) e

  conflict : (kept : List ℕ) (list : Option ℕ) → conflict_part plan.requirements told kept list ≡ asks p k → EndsAt p k (conflict_part plan.requirements (told ++ (k, verdict.Limit) ∷ []) kept list)
  conflict kept list e =
      step-next part.Conflict _ (qx (range_with_len 1 plan.requirements) (answers_of told)) (qx (range_with_len 1 plan.requirements) (answers_of (told ++ (k, verdict.Limit) ∷ []))) _ _
      (ap (qx (range_with_len 1 plan.requirements)) same-answers) (λ found. listing kept found list) e

  kept : (list : Option ℕ) → kept_part plan.requirements told list ≡ asks p k → EndsAt p k (kept_part plan.requirements (told ++ (k, verdict.Limit) ∷ []) list)
  kept list e =
      step-next part.Kept no_parts (fd (range_with_len 1 plan.requirements) (answers_of told)) (fd (range_with_len 1 plan.requirements) (answers_of (told ++ (k, verdict.Limit) ∷ []))) _ _
      (ap (fd (range_with_len 1 plan.requirements)) same-answers) (λ found. conflict found list) e

  background : background_part plan.requirements told plan.list ≡ asks p k → EndsAt p k (background_part plan.requirements (told ++ (k, verdict.Limit) ∷ []) plan.list)
  background e =
      step-verdict part.Background (empty_key plan.requirements) no_parts (verdict_in told (empty_key plan.requirements)) (verdict_in (told ++ (k, verdict.Limit) ∷ []) (empty_key plan.requirements)) _ _ _ _ p k
      (known (empty_key plan.requirements)) (met (empty_key plan.requirements)) (λ was. kept plan.list) (λ was same. ends-not-asks outcome.Background p k same) e

  pub limit-ends : EndsAt p k (want plan (told ++ (k, verdict.Limit) ∷ []))
  limit-ends =
      step-verdict part.All (full_key plan.requirements) no_parts (verdict_in told (full_key plan.requirements)) (verdict_in (told ++ (k, verdict.Limit) ∷ []) (full_key plan.requirements)) _ _ _ _ p k
      (known (full_key plan.requirements)) (met (full_key plan.requirements)) (λ was same. ends-not-asks outcome.Consistent p k same) (λ was. background) wants

-- ---- over the sequential run

abbrev NoLimit : Told → Type 0
NoLimit told = (key : PositionSet) → ¬ Contains told (key, verdict.Limit)

module _ (plan : JobPlan) (verdicts : PositionSet → Verdict) where
  ended-within : (count : ℕ) (told : Told) (o : Outcome) → want plan told ≡ ends o → told_within count plan verdicts told ≡ told
  ended-within zero told o e = refl
  ended-within (suc count) told o e = ap (λ (w : Wanted). by_want w told (λ key. told_within count plan verdicts (told ++ (key, verdicts key) ∷ []))) e

  more-within : (count : ℕ) (told : Told) (p : Part) (k : PositionSet) → want plan told ≡ asks p k
      → told_within (suc count) plan verdicts told ≡ told_within count plan verdicts (told ++ (k, verdicts k) ∷ [])
  more-within count told p k e = ap (λ (w : Wanted). by_want w told (λ key. told_within count plan verdicts (told ++ (key, verdicts key) ∷ []))) e

  -- the pair is the last one, or stands before it
  last-or-before : (told : Told) (k key : PositionSet) (v : Verdict) → Contains (told ++ (k, v) ∷ []) (key, verdict.Limit)
      → Contains told (key, verdict.Limit) ⊎ ((k ≡ key) × (v ≡ verdict.Limit))
  last-or-before told k key v c =
      ⊎_elim
      (λ (there : Contains told (key, verdict.Limit)). inl there)
      (λ (last : Contains ((k, v) ∷ []) (key, verdict.Limit)).
      ⊎_elim
      (λ (e : ◌≡◌ {A = PositionSet × Verdict} (k, v) (key, verdict.Limit)). inr (ap (λ (pair : PositionSet × Verdict). pair.0) e, ap (λ (pair : PositionSet × Verdict). pair.1) e))
      (λ (l : Contains {X = PositionSet × Verdict} [] (key, verdict.Limit)). absurd (contains_none (key, verdict.Limit) l))
      (first_or_later (k, v) [] (key, verdict.Limit) last))
      (Contains-append_cases told ((k, v) ∷ []) (key, verdict.Limit) c)

  still-none : (told : Told) (k : PositionSet) → NoLimit told → ¬ verdicts k ≡ verdict.Limit → NoLimit (told ++ (k, verdicts k) ∷ [])
  still-none told k none other key c =
      ⊎_elim (λ (there : Contains told (key, verdict.Limit)). none key there) (λ (last : (k ≡ key) × (verdicts k ≡ verdict.Limit)). other last.1) (last-or-before told k key (verdicts k) c)

  -- where the told pairs have a Limit the job ended with it
  abbrev IsEndedAt : Told → PositionSet → Type 0
  IsEndedAt told key = (p : Part) × EndsAt p key (want plan told)

  ended-at : (count : ℕ) (told : Told) (p : Part) (k : PositionSet) (v : Verdict) → NoLimit told → want plan told ≡ asks p k → verdicts k ≡ v
      → (NoLimit (told ++ (k, verdicts k) ∷ []) → (key : PositionSet) → Contains (told_within count plan verdicts (told ++ (k, verdicts k) ∷ [])) (key, verdict.Limit)
      → IsEndedAt (told_within count plan verdicts (told ++ (k, verdicts k) ∷ [])) key)
      → (key : PositionSet) → Contains (told_within count plan verdicts (told ++ (k, verdicts k) ∷ [])) (key, verdict.Limit)
      → IsEndedAt (told_within count plan verdicts (told ++ (k, verdicts k) ∷ [])) key
  ended-at count told p k verdict.Sat none wants is later key c = later (still-none told k none (λ e. let z : verdict.Sat ≡ verdict.Limit = sym is ∙ e in cc)) key c
  ended-at count told p k verdict.Unsat none wants is later key c = later (still-none told k none (λ e. let z : verdict.Unsat ≡ verdict.Limit = sym is ∙ e in cc)) key c
  ended-at count told p k verdict.Limit none wants is later key c =
      let (before, e) = limit-ends plan told p k wants in
      let now : told ++ (k, verdicts k) ∷ [] ≡ told ++ (k, verdict.Limit) ∷ [] = ap (λ (v : Verdict). told ++ (k, v) ∷ []) is in
      let end : want plan (told ++ (k, verdicts k) ∷ []) ≡ ends (outcome.LimitAt p k before) = ap (want plan) now ∙ e in
      let whole = ended-within count (told ++ (k, verdicts k) ∷ []) (outcome.LimitAt p k before) end in
      let P : Told → Type 0 = λ t. Contains t (key, verdict.Limit) in
      ⊎_elim
      (λ (there : Contains told (key, verdict.Limit)). absurd (none key there))
      (λ (last : (k ≡ key) × (verdicts k ≡ verdict.Limit)). (p, (before, ap (want plan) whole ∙ end ∙ ap (λ (x : PositionSet). ends (outcome.LimitAt p x before)) last.0)))
      (last-or-before told k key (verdicts k) (subst P whole c))

  limits-by : (count : ℕ) (told : Told) (w : Wanted) → want plan told ≡ w → NoLimit told
      → ((told : Told) → NoLimit told → (key : PositionSet) → Contains (told_within count plan verdicts told) (key, verdict.Limit) → IsEndedAt (told_within count plan verdicts told) key)
      → (key : PositionSet) → Contains (told_within (suc count) plan verdicts told) (key, verdict.Limit) → IsEndedAt (told_within (suc count) plan verdicts told) key
  limits-by count told (ends o) e none later key c =
      let P : Told → Type 0 = λ t. Contains t (key, verdict.Limit) in absurd (none key (subst P (ended-within (suc count) told o e) c))
  limits-by count told (asks p k) e none later key c =
      let more = more-within count told p k e in
      let P : Told → Type 0 = λ t. Contains t (key, verdict.Limit) in
      let Q : Told → Type 0 = λ t. IsEndedAt t key in
      subst Q (sym more) (ended-at count told p k (verdicts k) none e refl (later (told ++ (k, verdicts k) ∷ [])) key (subst P more c))

  limits : (count : ℕ) (told : Told) → NoLimit told → (key : PositionSet) → Contains (told_within count plan verdicts told) (key, verdict.Limit) → IsEndedAt (told_within count plan verdicts told) key
  limits zero told none key c = absurd (none key c)
  limits (suc count) told none key c = limits-by count told (want plan told) refl none (limits count) key c

  pub needed-limit : (key : PositionSet) → Contains (needs plan verdicts) (key, verdict.Limit) → (p : Part) × (before : Parts) × (result_of plan verdicts ≡ Some (outcome.LimitAt p key before))
  needed-limit key c =
      let (p, (before, e)) = limits (check_count plan) [] (λ other none. contains_none (other, verdict.Limit) none) key c in
      (p, before, ap outcome_of e)

-- ---- the key that is named was told with Limit

module _ (told : Told) (p : Part) (k : PositionSet) (before : Parts) where
  named-verdict : (one : Part) (key : PositionSet) (parts : Parts) (sat unsat : Wanted)
      → (sat ≡ ends (outcome.LimitAt p k before) → verdict_in told k ≡ Some verdict.Limit) → (unsat ≡ ends (outcome.LimitAt p k before) → verdict_in told k ≡ Some verdict.Limit)
      → (was : Option Verdict) → verdict_in told key ≡ was → by_verdict one key parts was sat unsat ≡ ends (outcome.LimitAt p k before) → verdict_in told k ≡ Some verdict.Limit
  named-verdict one key parts sat unsat s u None is e = absurd (cc)
  named-verdict one key parts sat unsat s u (Some verdict.Sat) is e = s e
  named-verdict one key parts sat unsat s u (Some verdict.Unsat) is e = u e
  named-verdict one key parts sat unsat s u (Some verdict.Limit) is e = let keys : key ≡ k = cc in ap (verdict_in told) (sym keys) ∙ is

  named-next : (n : ℕ) (one : Part) (parts : Parts) (next : Next) (follow : List ℕ → Wanted)
      → ((found : List ℕ) → follow found ≡ ends (outcome.LimitAt p k before) → verdict_in told k ≡ Some verdict.Limit)
      → by_next n told one parts next follow ≡ ends (outcome.LimitAt p k before) → verdict_in told k ≡ Some verdict.Limit
  named-next n one parts (Ask set) follow go e =
      named-verdict one (key_over n set) parts (asks one (key_over n set)) (asks one (key_over n set)) (λ same. absurd (cc)) (λ same. absurd (cc)) (verdict_in told (key_over n set)) refl e
  named-next n one parts (Done found) follow go e = go found e

  other-end : (o : Outcome) → ¬ o ≡ outcome.LimitAt p k before → ends o ≡ ends (outcome.LimitAt p k before) → verdict_in told k ≡ Some verdict.Limit
  other-end o other e = let same : o ≡ outcome.LimitAt p k before = cc in absurd (other same)

  named-listing : (n : ℕ) (kept conflict : List ℕ) (list : Option ℕ) → listing_part n told kept conflict list ≡ ends (outcome.LimitAt p k before) → verdict_in told k ≡ Some verdict.Limit
  named-listing n kept conflict None e = other-end _ (λ same. cc) e
  named-listing n kept conflict (Some most) e =
      named-next n part.Listing _ (next_of (tree n conflict most (answers_of told))) _ (λ found same. other-end _ (λ z. cc) same) e

  pub named-told : (plan : JobPlan) → want plan told ≡ ends (outcome.LimitAt p k before) → verdict_in told k ≡ Some verdict.Limit
  named-told plan e =
      let n = plan.requirements in
      named-verdict part.All (full_key n) no_parts (ends outcome.Consistent) (background_part n told plan.list) (other-end outcome.Consistent (λ z. cc))
      (λ again. named-verdict part.Background (empty_key n) no_parts (kept_part n told plan.list) (ends outcome.Background)
      (λ kept. named-next n part.Kept no_parts (fd (range_with_len 1 n) (answers_of told)) _
      (λ found next. named-next n part.Conflict _ (qx (range_with_len 1 n) (answers_of told)) _ (λ conflict last. named-listing n found conflict plan.list last) next) kept)
      (other-end outcome.Background (λ z. cc)) (verdict_in told (empty_key n)) refl again)
      (verdict_in told (full_key n)) refl e

found-in : (told : Told) (key : PositionSet) (v : Verdict) → verdict_in told key ≡ Some v → Contains told (key, v)
found-in [] key v e = absurd (cc)
found-in (pair ∷ told) key v e =
    ⊎_elim
    (λ (here : (key_eq key pair.0 ≡ true) × (pair.1 ≡ v)).
    let same : ◌≡◌ {A = PositionSet × Verdict} pair (key, v) =
    ap (λ (k : PositionSet). (k, pair.1)) (sym (key_eq-same key pair.0 here.0)) ∙ ap (λ (x : Verdict). (key, x)) here.1 in
    subst (Contains (pair ∷ told)) same (contains_first pair told))
    (λ (later : verdict_in told key ≡ Some v). contains_later pair told (key, v) (found-in told key v later))
    (cases-found (key_eq key pair.0) pair.1 v (verdict_in told key) e)

was_end : (w : Wanted) (o : Outcome) → outcome_of w ≡ Some o → w ≡ ends o
was_end (asks p k) o e = absurd (cc)
was_end (ends other) o e = let same : other ≡ o = cc in ap ends same

pub named-limit : (plan : JobPlan) (verdicts : PositionSet → Verdict) (p : Part) (k : PositionSet) (before : Parts)
    → result_of plan verdicts ≡ Some (outcome.LimitAt p k before) → Contains (needs plan verdicts) (k, verdict.Limit)
named-limit plan verdicts p k before e =
    let told = needs plan verdicts in
    found-in told k verdict.Limit (named-told told p k before plan (was_end (want plan told) (outcome.LimitAt p k before) e))

-- ---- with an outcome in place of none

pub was-some : (found : Option Outcome) (p : Part) (k : PositionSet) (before : Parts) → unwrap_or found outcome.Background ≡ outcome.LimitAt p k before → found ≡ Some (outcome.LimitAt p k before)
was-some None p k before e = absurd (cc)
was-some (Some o) p k before e = ap Some e
