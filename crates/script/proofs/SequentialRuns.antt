-- The sequential run: what it has told differs in pairs, so it ends.
use Rattle.std.proofs.Common.{◌≡◌, ℕ, zero, suc, ◌+◌, ◌-◌, ◌^◌, ◌<◌, ◌≤◌, Bool, true, false, cond, Option, Some, None, List, [], ◌∷◌, ◌++◌, length, map, ◌⊎◌, inl, inr, refl, sym, ap, ◌∙◌, subst, ⊎_elim, arith, append_assoc, append-nil, length-append}
use Rattle.std.specs.Prelude.{All, Contains, not, ◌&&◌}
use Rattle.std.proofs.lemmas.Bool.{cases_Bool, false≢true}
use Rattle.std.proofs.lemmas.List.Elements.{All-nil, All-head, All-tail, All-push}
use Rattle.lists.proofs.Members.{first as contains_first, later as contains_later, none as contains_none, first_or_later}
use Rattle.pref_sets.specs.Preferred.{IsWithin}
use Rattle.pref_sets.proofs.AscendingPositions.{Ascends-same}
use Rattle.pref_sets.proofs.RisingPositions.{Ascends-from_rises}
use Rattle.req_keys.specs.Key.{PositionSet}
use Rattle.req_keys.specs.Order.{key_eq}
use Rattle.req_keys.specs.Positions.{RiseWithin, has}
use Rattle.req_keys.proofs.MemberLaws.{has-from_Contains, Contains-from_has}
use Rattle.req_keys.proofs.Rises.{members-within}
use Rattle.req_keys.specs.declared.verdict.Verdict.{Verdict}
use Rattle.clauses.proofs.Subsets.{agree, Differ, differ-most}
use Rattle.script.specs.declared.job.JobPlan.{JobPlan}
use Rattle.script.specs.declared.job.Outcome.{Outcome}
use Rattle.script.specs.declared.job.Part.{Part}
use Rattle.script.specs.Job.{Told, Wanted, asks, ends, verdict_in, want}
use Rattle.script.specs.Sequential.{by_want, told_within, needs, check_count, IsSoFar}
use Rattle.script.proofs.Lookups.{key_eq-refl}
use Rattle.script.proofs.JobAsks.{IsNewKey, AsksNewKey, want-new}

-- a key over n positions, and the test of its members
abbrev pub IsOver : ℕ → PositionSet → Type 0
IsOver n key = (key.n ≡ n) × RiseWithin 0 n key.members

abbrev test_of : PositionSet → ℕ → Bool
test_of key i = has key.members (i + 1)

split_agree : (a b rest : Bool) → (cond a b (not b) && rest) ≡ true → (a ≡ b) × (rest ≡ true)
split_agree true true rest e = (refl, e)
split_agree true false rest e = absurd (false≢true e)
split_agree false true rest e = absurd (false≢true e)
split_agree false false rest e = (refl, e)

same_below : (v : ℕ) (f g : ℕ → Bool) → agree v f g ≡ true → (i : ℕ) → i < v → f i ≡ g i
same_below zero f g e i l = absurd (omega arith)
same_below (suc v) f g e i l =
    let parts = split_agree (f v) (g v) (agree v f g) e in
    let last : i ≡ v → f i ≡ g i = λ same. rw same parts.0 in
    let below : i < v → f i ≡ g i = λ less. same_below v f g parts.1 i less in
    ⊎_elim below last (cases_less i v l)
  where
    cases_less : (i v : ℕ) → i < suc v → (i < v) ⊎ (i ≡ v)
    cases_less i v l = grind arith

within_same : (n : ℕ) (a b : PositionSet) → IsOver n a → ((i : ℕ) → i < n → test_of a i ≡ test_of b i) → IsWithin a.members b.members
within_same n a b over same x m =
    let both : (0 < x) × (x ≤ n) = members-within 0 n a.members over.1 x m in
    let low : 0 < x = both.0 in
    let high : x ≤ n = both.1 in
    let back : (x - 1) + 1 ≡ x = omega arith in
    let there : has a.members x ≡ true = has-from_Contains a.members x m in
    let equal : has a.members ((x - 1) + 1) ≡ has b.members ((x - 1) + 1) = same (x - 1) (omega arith) in
    Contains-from_has b.members x (subst (λ (y : ℕ). has b.members y ≡ true) back (sym equal ∙ subst (λ (y : ℕ). has a.members y ≡ true) (sym back) there))

key_of-parts : (a b : PositionSet) → a.n ≡ b.n → a.members ≡ b.members → a ≡ b
key_of-parts a b size members =
    let M : List ℕ → PositionSet = λ m. record { n = a.n; members = m } in
    let N : ℕ → PositionSet = λ k. record { n = k; members = b.members } in
    ap M members ∙ ap N size

-- keys that differ in no position are one
same_key : (n : ℕ) (a b : PositionSet) → IsOver n a → IsOver n b → agree n (test_of a) (test_of b) ≡ true → a ≡ b
same_key n a b over other e =
    let same = same_below n (test_of a) (test_of b) e in
    key_of-parts a b (over.0 ∙ sym other.0)
    (Ascends-same a.members b.members (Ascends-from_rises 0 n a.members over.1) (Ascends-from_rises 0 n b.members other.1)
    (within_same n a b over same) (within_same n b a other (λ i l. sym (same i l))))

some-none : (b : Bool) (v : Verdict) (rest : Option Verdict) → cond b (Some v) rest ≡ None → (b ≡ false) × (rest ≡ None)
some-none true v rest e = absurd (cc)
some-none false v rest e = (refl, e)

differs : (n : ℕ) (key other : PositionSet) → IsOver n key → IsOver n other → key_eq key other ≡ false → agree n (test_of other) (test_of key) ≡ false
differs n key other over also e =
    ⊎_elim
    (λ (t : agree n (test_of other) (test_of key) ≡ true).
    let one : other ≡ key = same_key n other key also over t in
    absurd (false≢true (sym e ∙ ap (key_eq key) one ∙ key_eq-refl key)))
    (λ (f : agree n (test_of other) (test_of key) ≡ false). f)
    (cases_Bool (agree n (test_of other) (test_of key)))

-- keys over n positions, each with its verdict, that differ in pairs
pub record AreChecks (n : ℕ) (verdict : PositionSet → Verdict) (told : Told) : Type 0 where
  pub over : All (λ pair. IsOver n pair.0) told
  pub differ : Differ n (map (λ pair. test_of pair.0) told)
  pub answered : All (λ pair. pair.1 ≡ verdict pair.0) told

Differ-push : (n : ℕ) (told : Told) (key : PositionSet) (v : Verdict) → All (λ pair. IsOver n pair.0) told → Differ n (map (λ pair. test_of pair.0) told) → IsOver n key → verdict_in told key ≡ None → Differ n (map (λ pair. test_of pair.0) (told ++ (key, v) ∷ []))
Differ-push n [] key v over differ also new = ((λ g m. absurd (contains_none g m)), tt)
Differ-push n (pair ∷ told) key v over differ also new =
    let first = some-none (key_eq key pair.0) pair.1 (verdict_in told key) new in (
      later told differ.0 (differs n key pair.0 also (All-head (λ one. IsOver n one.0) pair told over) first.0),
      Differ-push n told key v (All-tail (λ one. IsOver n one.0) pair told over) differ.1 also first.1,
    )
  where
    later : (rest : Told) → ((g : ℕ → Bool) → Contains (map (λ pair. test_of pair.0) rest) g → agree n (test_of pair.0) g ≡ false) → agree n (test_of pair.0) (test_of key) ≡ false
        → (g : ℕ → Bool) → Contains (map (λ pair. test_of pair.0) (rest ++ (key, v) ∷ [])) g → agree n (test_of pair.0) g ≡ false
    later [] h k g m = ⊎_elim (λ (e : test_of key ≡ g). subst (λ (f : ℕ → Bool). agree n (test_of pair.0) f ≡ false) e k) (λ (l : Contains [] g). absurd (contains_none g l)) (first_or_later (test_of key) [] g m)
    later (one ∷ rest) h k g m =
        ⊎_elim
        (λ (e : test_of one.0 ≡ g). h g (subst (Contains (test_of one.0 ∷ map (λ pair. test_of pair.0) rest)) e (contains_first (test_of one.0) (map (λ pair. test_of pair.0) rest))))
        (λ (l : Contains (map (λ pair. test_of pair.0) (rest ++ (key, v) ∷ [])) g). later rest (λ f n. h f (contains_later (test_of one.0) (map (λ pair. test_of pair.0) rest) f n)) k g l)
        (first_or_later (test_of one.0) (map (λ pair. test_of pair.0) (rest ++ (key, v) ∷ [])) g m)

asked_key : (n : ℕ) (told : Told) (w : Wanted) (part : Part) (key : PositionSet) → w ≡ asks part key → AsksNewKey n told w → IsNewKey n told key
asked_key n told (asks other one) part key e h = let same : one ≡ key = cc in subst (IsNewKey n told) same h
asked_key n told (ends outcome) part key e h = absurd (cc)

pub want-key : (plan : JobPlan) (told : Told) (part : Part) (key : PositionSet) → want plan told ≡ asks part key → IsNewKey plan.requirements told key
want-key plan told part key e = asked_key plan.requirements told (want plan told) part key e (want-new plan told)

pub cases-want : (w : Wanted) → ((part : Part) × (key : PositionSet) × (w ≡ asks part key)) ⊎ ((outcome : Outcome) × (w ≡ ends outcome))
cases-want (asks part key) = inl (part, key, refl)
cases-want (ends outcome) = inr (outcome, refl)

length-tests : (told : Told) → length (map (λ pair. test_of pair.0) told) ≡ length told
length-tests [] = refl
length-tests (pair ∷ told) = ap (λ k. suc k) (length-tests told)

pub few-checks : (n : ℕ) (verdict : PositionSet → Verdict) (told : Told) → AreChecks n verdict told → length told ≤ 2 ^ n
few-checks n verdict told are =
    let few = differ-most n (map (λ pair. test_of pair.0) told) are.differ in
    let size = length-tests told in
    omega arith

length-push : (told : Told) (pair : PositionSet × Verdict) → length (told ++ pair ∷ []) ≡ length told + 1
length-push told pair = length-append told (pair ∷ []) ∙ omega arith

module _ (plan : JobPlan) (verdict : PositionSet → Verdict) where
  pub checks-push : (told : Told) (part : Part) (key : PositionSet) → AreChecks plan.requirements verdict told → want plan told ≡ asks part key → AreChecks plan.requirements verdict (told ++ (key, verdict key) ∷ [])
  checks-push told part key are e =
      let key_is = want-key plan told part key e in
      let over : IsOver plan.requirements key = (key_is.size, key_is.rises) in
      record {
        over = All-push (λ pair. IsOver plan.requirements pair.0) told (key, verdict key) are.over over;
        differ = Differ-push plan.requirements told key (verdict key) are.over are.differ over key_is.new;
        answered = All-push (λ pair. pair.1 ≡ verdict pair.0) told (key, verdict key) are.answered refl;
      }

  goes : (count : ℕ) (told : Told) (part : Part) (key : PositionSet) → want plan told ≡ asks part key → told_within (suc count) plan verdict told ≡ told_within count plan verdict (told ++ (key, verdict key) ∷ [])
  goes count told part key e = ap (λ w. by_want w told (λ k. told_within count plan verdict (told ++ (k, verdict k) ∷ []))) e

  stops : (count : ℕ) (told : Told) (outcome : Outcome) → want plan told ≡ ends outcome → told_within count plan verdict told ≡ told
  stops zero told outcome e = refl
  stops (suc count) told outcome e = ap (λ w. by_want w told (λ k. told_within count plan verdict (told ++ (k, verdict k) ∷ []))) e

  pub within-checks : (count : ℕ) (told : Told) → AreChecks plan.requirements verdict told → AreChecks plan.requirements verdict (told_within count plan verdict told)
  within-checks zero told are = are
  within-checks (suc count) told are =
      let IsIt : Told → Type 0 = λ all. AreChecks plan.requirements verdict all in
      ⊎_elim
      (λ (a : (part : Part) × (key : PositionSet) × (want plan told ≡ asks part key)).
      subst IsIt (sym (goes count told a.0 a.1 a.2)) (within-checks count (told ++ (a.1, verdict a.1) ∷ []) (checks-push told a.0 a.1 are a.2)))
      (λ (o : (outcome : Outcome) × (want plan told ≡ ends outcome)). subst IsIt (sym (stops (suc count) told o.0 o.1)) are)
      (cases-want (want plan told))

  -- so many more, or the job has ended
  abbrev IsLong : ℕ → Told → Told → Type 0
  IsLong count told all = (length all ≡ length told + count) ⊎ ((outcome : Outcome) × (want plan all ≡ ends outcome))

  within-long : (count : ℕ) (told : Told) → IsLong count told (told_within count plan verdict told)
  within-long zero told = inl (omega arith)
  within-long (suc count) told =
      ⊎_elim
      (λ (a : (part : Part) × (key : PositionSet) × (want plan told ≡ asks part key)).
      subst (IsLong (suc count) told) (sym (goes count told a.0 a.1 a.2))
      (⊎_elim
      (λ (l : length (told_within count plan verdict (told ++ (a.1, verdict a.1) ∷ [])) ≡ length (told ++ (a.1, verdict a.1) ∷ []) + count).
      let more = length-push told (a.1, verdict a.1) in inl (omega arith))
      (λ (o : (outcome : Outcome) × (want plan (told_within count plan verdict (told ++ (a.1, verdict a.1) ∷ [])) ≡ ends outcome)). inr o)
      (within-long count (told ++ (a.1, verdict a.1) ∷ []))))
      (λ (o : (outcome : Outcome) × (want plan told ≡ ends outcome)). subst (IsLong (suc count) told) (sym (stops (suc count) told o.0 o.1)) (inr o))
      (cases-want (want plan told))

  no-checks : AreChecks plan.requirements verdict []
  no-checks = record { over = All-nil (λ pair. IsOver plan.requirements pair.0); differ = tt; answered = All-nil (λ pair. pair.1 ≡ verdict pair.0) }

  pub needs-checks : AreChecks plan.requirements verdict (needs plan verdict)
  needs-checks = within-checks (check_count plan) [] no-checks

  pub needs-end : (outcome : Outcome) × (want plan (needs plan verdict) ≡ ends outcome)
  needs-end =
      ⊎_elim
      (λ (l : length (needs plan verdict) ≡ 0 + check_count plan).
      ⊎_elim
      (λ (a : (part : Part) × (key : PositionSet) × (want plan (needs plan verdict) ≡ asks part key)).
      let few = few-checks plan.requirements verdict (needs plan verdict ++ (a.1, verdict a.1) ∷ []) (checks-push (needs plan verdict) a.0 a.1 needs-checks a.2) in
      let more = length-push (needs plan verdict) (a.1, verdict a.1) in
      absurd (omega arith))
      (λ (o : (outcome : Outcome) × (want plan (needs plan verdict) ≡ ends outcome)). o)
      (cases-want (want plan (needs plan verdict))))
      (λ (o : (outcome : Outcome) × (want plan (needs plan verdict) ≡ ends outcome)). o)
      (within-long (check_count plan) [])

  pub within-push : (count : ℕ) (told : Told) (part : Part) (key : PositionSet) → want plan (told_within count plan verdict told) ≡ asks part key → told_within (suc count) plan verdict told ≡ told_within count plan verdict told ++ (key, verdict key) ∷ []
  within-push zero told part key e = goes 0 told part key e
  within-push (suc count) told part key e =
      ⊎_elim
      (λ (a : (part : Part) × (key : PositionSet) × (want plan told ≡ asks part key)).
      let same = goes count told a.0 a.1 a.2 in
      goes (suc count) told a.0 a.1 a.2 ∙ within-push count (told ++ (a.1, verdict a.1) ∷ []) part key (ap (want plan) (sym same) ∙ e) ∙ ap (λ all. all ++ (key, verdict key) ∷ []) (sym same))
      (λ (o : (outcome : Outcome) × (want plan told ≡ ends outcome)).
      let same = stops (suc count) told o.0 o.1 in
      let asked : ends o.0 ≡ asks part key = sym o.1 ∙ ap (want plan) (sym same) ∙ e in
      absurd (cc))
      (cases-want (want plan told))

  within-sum : (a b : ℕ) (told : Told) → told_within (a + b) plan verdict told ≡ told_within b plan verdict (told_within a plan verdict told)
  within-sum zero b told = ap (λ k. told_within k plan verdict told) (omega arith)
  within-sum (suc a) b told =
      let count : suc a + b ≡ suc (a + b) = omega arith in
      ap (λ k. told_within k plan verdict told) count
      ∙ ⊎_elim
      (λ (w : (part : Part) × (key : PositionSet) × (want plan told ≡ asks part key)).
      goes (a + b) told w.0 w.1 w.2 ∙ within-sum a b (told ++ (w.1, verdict w.1) ∷ []) ∙ ap (told_within b plan verdict) (sym (goes a told w.0 w.1 w.2)))
      (λ (o : (outcome : Outcome) × (want plan told ≡ ends outcome)).
      stops (suc (a + b)) told o.0 o.1 ∙ sym (stops b told o.0 o.1) ∙ ap (told_within b plan verdict) (sym (stops (suc a) told o.0 o.1)))
      (cases-want (want plan told))

  pub within-starts : (count : ℕ) (told : Told) → (rest : Told) × (told_within count plan verdict told ≡ told ++ rest)
  within-starts zero told = ([], sym (append-nil told))
  within-starts (suc count) told =
      ⊎_elim
      (λ (a : (part : Part) × (key : PositionSet) × (want plan told ≡ asks part key)).
      let further = within-starts count (told ++ (a.1, verdict a.1) ∷ []) in
      ((a.1, verdict a.1) ∷ further.0, goes count told a.0 a.1 a.2 ∙ further.1 ∙ append_assoc told ((a.1, verdict a.1) ∷ []) further.0))
      (λ (o : (outcome : Outcome) × (want plan told ≡ ends outcome)). ([], stops (suc count) told o.0 o.1 ∙ sym (append-nil told)))
      (cases-want (want plan told))

  -- more turns change nothing
  pub needs-stay : (count : ℕ) → told_within (check_count plan + count) plan verdict [] ≡ needs plan verdict
  needs-stay count = within-sum (check_count plan) count [] ∙ stops count (needs plan verdict) needs-end.0 needs-end.1

  pub so_far-checks : (told : Told) → IsSoFar plan verdict told → AreChecks plan.requirements verdict told
  so_far-checks told far = subst (λ all. AreChecks plan.requirements verdict all) far.1 (within-checks far.0 [] no-checks)

  pub so_far-push : (told : Told) (part : Part) (key : PositionSet) → IsSoFar plan verdict told → want plan told ≡ asks part key → IsSoFar plan verdict (told ++ (key, verdict key) ∷ [])
  so_far-push told part key far e = (suc far.0, within-push far.0 [] part key (ap (want plan) far.1 ∙ e) ∙ ap (λ all. all ++ (key, verdict key) ∷ []) far.1)

  pub so_far-starts : (told : Told) → IsSoFar plan verdict told → (rest : Told) × (needs plan verdict ≡ told ++ rest)
  so_far-starts told far =
      let further = within-starts (check_count plan) told in
      let swap : far.0 + check_count plan ≡ check_count plan + far.0 = omega arith in (
        further.0,
        sym (needs-stay far.0) ∙ ap (λ k. told_within k plan verdict []) (sym swap) ∙ within-sum far.0 (check_count plan) [] ∙ ap (told_within (check_count plan) plan verdict) far.1 ∙ further.1,
      )

  pub so_far-all : (told : Told) (outcome : Outcome) → IsSoFar plan verdict told → want plan told ≡ ends outcome → told ≡ needs plan verdict
  so_far-all told outcome far e =
      let swap : far.0 + check_count plan ≡ check_count plan + far.0 = omega arith in
      sym (stops (check_count plan) told outcome e) ∙ ap (told_within (check_count plan) plan verdict) (sym far.1) ∙ sym (within-sum far.0 (check_count plan) []) ∙ ap (λ k. told_within k plan verdict []) swap ∙ needs-stay far.0
