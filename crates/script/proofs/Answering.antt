-- What was told, as a table of answers, with one more pair; and a recursion that is told an answer of it.
use Rattle.std.proofs.Common.{◌≡◌, ℕ, ◌<◌, ◌≤◌, Bool, true, false, cond, Option, Some, None, List, [], ◌∷◌, ◌++◌, ◌⊎◌, inl, inr, refl, sym, ap, ◌∙◌, ⊎_elim, arith}
use Rattle.std.specs.Cmp.Lexicographic.{same_text}
use Rattle.std.proofs.lemmas.Bool.{cases_Bool}
use Rattle.pref_sets.specs.Answers.{Answer, answer_to, same_set}
use Rattle.pref_sets.proofs.Plans.{answer_to-told, answer_to-beyond, answer_to-first, answer_to-past}
use Rattle.req_keys.specs.Key.{PositionSet}
use Rattle.req_keys.specs.KeyEq.{key_eq-same}
use Rattle.req_keys.specs.Order.{key_eq}
use Rattle.req_keys.specs.Wanting.{key_over}
use Rattle.req_keys.specs.declared.verdict.Verdict.{Verdict}
use Rattle.req_keys.specs.declared.verdict.Verdict.TheVariants as verdict
use Rattle.script.specs.Job.{Told, answers_of, verdict_in, with_verdict}
use Rattle.script.specs.inside.Going.{HasAll, IsTable, answer_in, lacking, one_if_none}
use Rattle.script.proofs.Pairs.{lookup-append, or_else}
use Rattle.script.proofs.Lookups.{cases-found, key_eq-refl}

-- a look-up among more pairs
pub told-known : (told more : Told) (key : PositionSet) (v : Verdict) → verdict_in told key ≡ Some v → verdict_in (told ++ more) key ≡ Some v
told-known told more key v e = lookup-append (key_eq key) told more ∙ ap (λ r. or_else r (verdict_in more key)) e

pub told-unknown : (told more : Told) (key : PositionSet) → verdict_in told key ≡ None → verdict_in (told ++ more) key ≡ verdict_in more key
told-unknown told more key e = lookup-append (key_eq key) told more ∙ ap (λ r. or_else r (verdict_in more key)) e

with_verdict-append : (set : List ℕ) (v : Verdict) (a b : List Answer) → with_verdict set v (a ++ b) ≡ with_verdict set v a ++ b
with_verdict-append set verdict.Sat a b = refl
with_verdict-append set verdict.Unsat a b = refl
with_verdict-append set verdict.Limit a b = refl

pub answers-append : (told more : Told) → answers_of (told ++ more) ≡ answers_of told ++ answers_of more
answers-append [] more = refl
answers-append (pair ∷ told) more =
    ap (with_verdict pair.0.members pair.1) (answers-append told more) ∙ with_verdict-append pair.0.members pair.1 (answers_of told) (answers_of more)

-- of one pair
one-same : (v : Verdict) (set : List ℕ) → answer_to (with_verdict set v []) set ≡ answer_in (Some v)
one-same verdict.Sat set = answer_to-first (record { set = set; sat = true }) []
one-same verdict.Unsat set = answer_to-first (record { set = set; sat = false }) []
one-same verdict.Limit set = refl

one-other : (v : Verdict) (one set : List ℕ) → ¬ set ≡ one → answer_to (with_verdict one v []) set ≡ None
one-other verdict.Sat one set other = answer_to-past (record { set = one; sat = true }) [] set other
one-other verdict.Unsat one set other = answer_to-past (record { set = one; sat = false }) [] set other
one-other verdict.Limit one set other = refl

key_of-members : (n : ℕ) (key : PositionSet) → key.n ≡ n → key ≡ key_over n key.members
key_of-members n key e = let N : ℕ → PositionSet = λ k. record { n = k; members = key.members } in ap N e

or_else-none : (r : Option Verdict) → or_else r None ≡ r
or_else-none None = refl
or_else-none (Some v) = refl

answer-cases : (r : Option Bool) → (r ≡ None) ⊎ ((sat : Bool) × (r ≡ Some sat))
answer-cases None = inl refl
answer-cases (Some sat) = inr (sat, refl)

answer-append_none : (a b : List Answer) (set : List ℕ) → answer_to b set ≡ None → answer_to (a ++ b) set ≡ answer_to a set
answer-append_none a b set e =
    ⊎_elim
    (λ (none : answer_to a set ≡ None). answer_to-beyond a b set none ∙ e ∙ sym none)
    (λ (some : (sat : Bool) × (answer_to a set ≡ Some sat)). answer_to-told a b set some.0 some.1 ∙ sym some.1)
    (answer-cases (answer_to a set))

-- one more pair, of a key that wasn't told
pub table-push : (n : ℕ) (told : Told) (key : PositionSet) (v : Verdict) → IsTable n told → key.n ≡ n → verdict_in told key ≡ None → IsTable n (told ++ (key, v) ∷ [])
table-push n told key v table size new set =
    let one : Told = (key, v) ∷ [] in
    ap (λ t. answer_to t set) (answers-append told one)
    ∙ ⊎_elim
    (λ (yes : key_eq (key_over n set) key ≡ true).
    let same : key_over n set ≡ key = key_eq-same (key_over n set) key yes in
    let members : set ≡ key.members = ap (λ (k : PositionSet). k.members) same in
    let none : verdict_in told (key_over n set) ≡ None = ap (verdict_in told) same ∙ new in
    let before : answer_to (answers_of told) set ≡ None = table set ∙ ap answer_in none in
    answer_to-beyond (answers_of told) (answers_of one) set before
    ∙ ap (λ (m : List ℕ). answer_to (with_verdict m v []) set) (sym members)
    ∙ one-same v set
    ∙ sym (ap answer_in (told-unknown told one (key_over n set) none ∙ ap (λ (b : Bool). cond b (Some v) None) yes)))
    (λ (no : key_eq (key_over n set) key ≡ false).
    let other : ¬ set ≡ key.members = λ (e : set ≡ key.members).
    let same : key_over n set ≡ key = ap (key_over n) e ∙ sym (key_of-members n key size) in
    let yes : key_eq (key_over n set) key ≡ true = ap (key_eq (key_over n set)) (sym same) ∙ key_eq-refl (key_over n set) in
    cc in
    answer-append_none (answers_of told) (answers_of one) set (one-other v key.members set other)
    ∙ table set
    ∙ ap answer_in
    (sym (or_else-none (verdict_in told (key_over n set)))
    ∙ sym (ap (λ (b : Bool). or_else (verdict_in told (key_over n set)) (cond b (Some v) None)) no)
    ∙ sym (lookup-append (key_eq (key_over n set)) told one)))
    (cases_Bool (key_eq (key_over n set) key))

pub table-none : (n : ℕ) → IsTable n []
table-none n set = refl

pub has-more : (answers : List Answer) (told more : Told) → HasAll answers (answers_of told) → HasAll answers (answers_of (told ++ more))
has-more answers told more has set sat e = ap (λ t. answer_to t set) (answers-append told more) ∙ answer_to-told (answers_of told) (answers_of more) set sat (has set sat e)

-- an answer that the table has
pub has-push : (answers table : List Answer) (set : List ℕ) (sat : Bool) → HasAll answers table → answer_to table set ≡ Some sat → HasAll (answers ++ record { set = set; sat = sat } ∷ []) table
has-push answers table set sat has there other b e =
    ⊎_elim
    (λ (none : answer_to answers other ≡ None).
    ⊎_elim
    (λ (both : (same_set set other ≡ true) × (sat ≡ b)).
    let same : set ≡ other = same_text set other (sym both.0) in
    ap (answer_to table) (sym same) ∙ there ∙ ap (λ (x : Bool). Some x) both.1)
    (λ (l : None ≡ Some b). absurd (cc))
    (cases-found (same_set set other) sat b None (sym (answer_to-beyond answers (record { set = set; sat = sat } ∷ []) other none) ∙ e)))
    (λ (some : (x : Bool) × (answer_to answers other ≡ Some x)).
    has other b (some.1 ∙ sym (answer_to-told answers (record { set = set; sat = sat } ∷ []) other some.0 some.1) ∙ e))
    (answer-cases (answer_to answers other))

weight : (x y : Option Bool) → ((sat : Bool) → x ≡ Some sat → y ≡ Some sat) → one_if_none y ≤ one_if_none x
weight None None h = omega arith
weight None (Some b) h = omega arith
weight (Some a) None h = let e : None ≡ Some a = h a refl in absurd (cc)
weight (Some a) (Some b) h = omega arith

lacking-fewer : (answers more : List Answer) (told : Told) → HasAll answers more → lacking more told ≤ lacking answers told
lacking-fewer answers more [] has = omega arith
lacking-fewer answers more (pair ∷ told) has =
    let one = weight (answer_to answers pair.0.members) (answer_to more pair.0.members) (has pair.0.members) in
    let rest = lacking-fewer answers more told has in
    omega arith

lacking-less : (answers more : List Answer) (told : Told) (key : PositionSet) (v : Verdict) (sat : Bool) → HasAll answers more → verdict_in told key ≡ Some v → answer_to answers key.members ≡ None → answer_to more key.members ≡ Some sat → lacking more told < lacking answers told
lacking-less answers more [] key v sat has known none some = absurd (cc)
lacking-less answers more (pair ∷ told) key v sat has known none some =
    ⊎_elim
    (λ (both : (key_eq key pair.0 ≡ true) × (pair.1 ≡ v)).
    let same : key ≡ pair.0 = key_eq-same key pair.0 both.0 in
    let before : one_if_none (answer_to answers pair.0.members) ≡ 1 = ap (λ (k : PositionSet). one_if_none (answer_to answers k.members)) (sym same) ∙ ap one_if_none none in
    let after : one_if_none (answer_to more pair.0.members) ≡ 0 = ap (λ (k : PositionSet). one_if_none (answer_to more k.members)) (sym same) ∙ ap one_if_none some in
    let rest = lacking-fewer answers more told has in
    omega arith)
    (λ (l : verdict_in told key ≡ Some v).
    let one = weight (answer_to answers pair.0.members) (answer_to more pair.0.members) (has pair.0.members) in
    let rest = lacking-less answers more told key v sat has l none some in
    omega arith)
    (cases-found (key_eq key pair.0) pair.1 v (verdict_in told key) known)

verdict-of_answer : (r : Option Verdict) (sat : Bool) → answer_in r ≡ Some sat → (v : Verdict) × (r ≡ Some v)
verdict-of_answer None sat e = absurd (cc)
verdict-of_answer (Some v) sat e = (v, refl)

-- a recursion is told an answer that the pairs have
pub one-answer : (n : ℕ) (told : Told) (answers : List Answer) (set : List ℕ) (sat : Bool) → IsTable n told → HasAll answers (answers_of told) → answer_in (verdict_in told (key_over n set)) ≡ Some sat → answer_to answers set ≡ None → HasAll (answers ++ record { set = set; sat = sat } ∷ []) (answers_of told) × (lacking (answers ++ record { set = set; sat = sat } ∷ []) told < lacking answers told)
one-answer n told answers set sat table has said none =
    let one : Answer = record { set = set; sat = sat } in
    let known = verdict-of_answer (verdict_in told (key_over n set)) sat said in (
      has-push answers (answers_of told) set sat has (table set ∙ said),
      lacking-less answers (answers ++ one ∷ []) told (key_over n set) known.0 sat (λ other b e. answer_to-told answers (one ∷ []) other b e) known.1 none
          (answer_to-beyond answers (one ∷ []) set none ∙ answer_to-first one []),
    )

-- a recursion is told the verdict of the key that it asks, which is told last
pub has-answer : (n : ℕ) (told : Told) (key : PositionSet) (v : Verdict) (sat : Bool) (answers : List Answer) (set : List ℕ) → answer_in (Some v) ≡ Some sat → key ≡ key_over n set → verdict_in told key ≡ None → IsTable n (told ++ (key, v) ∷ []) → HasAll answers (answers_of (told ++ (key, v) ∷ [])) → HasAll (answers ++ record { set = set; sat = sat } ∷ []) (answers_of (told ++ (key, v) ∷ []))
has-answer n told key v sat answers set says is new table has =
    let one : Told = (key, v) ∷ [] in
    let known : verdict_in (told ++ one) key ≡ Some v = told-unknown told one key new ∙ ap (λ (b : Bool). cond b (Some v) None) (key_eq-refl key) in
    has-push answers (answers_of (told ++ one)) set sat has
    (table set ∙ ap answer_in (ap (verdict_in (told ++ one)) (sym is) ∙ known) ∙ says)
