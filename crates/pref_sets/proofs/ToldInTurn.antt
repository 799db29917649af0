-- Answers that are told in turn to a plan: how many there are, and that the plan ends.
use Rattle.std.proofs.Common.{◌≡◌, eqb, ℕ, zero, suc, ◌+◌, ◌<◌, ◌≤◌, ◌-◌, Bool, true, false, Option, Some, None, List, [], ◌∷◌, ◌++◌, ◌⊎◌, length, refl, sym, ◌∙◌, ap, inl, inr, ⊎_elim, arith, append_assoc, length-append}
use Rattle.std.specs.Prelude.{All, MatchBool}
use Rattle.std.specs.Cmp.Lexicographic.{pointwise}
use Rattle.std.proofs.lemmas.List.{append-nil}
use Rattle.std.proofs.lemmas.List.Elements.{All-push}
use Rattle.std.proofs.lemmas.Bool.{cases_Bool}
use Rattle.std.proofs.lemmas.Slice.Eq.{bytes_eq-Decides}
use Rattle.pref_sets.specs.Answers.{Answer, AgreesWith, IsToldInTurn, Next, Ask, Done, answer_to, with_answer, told_in_turn}
use Rattle.pref_sets.specs.Plan.{Plan, found, asks, over}
use Rattle.pref_sets.proofs.Plans.{AsksAtMost, answer_to-told, answer_to-beyond, answer_to-first, over-known, IsAsked, GoesOn, over-cases, over-new}

-- the same, from the first answer on
abbrev pub AreTurns : (List Answer → Next) → List Answer → List Answer → Type 0
AreTurns next start [] = Unit {0}
AreTurns next start (answer ∷ told) = (next start ≡ Ask answer.set) × AreTurns next (start ++ answer ∷ []) told

pub AreTurns-from : (next : List Answer → Next) (told start : List Answer) → IsToldInTurn next start told → AreTurns next start told
AreTurns-from next [] start h = tt
AreTurns-from next (answer ∷ told) start h = (
  (let first : next (start ++ []) ≡ Ask answer.set = h [] answer told refl in rw append-nil at first),
  AreTurns-from next told (start ++ answer ∷ [])
      (λ before later after e.
      let there : next (start ++ answer ∷ before) ≡ Ask later.set = h (answer ∷ before) later after (ap (λ (t : List Answer). answer ∷ t) e) in
      rw append_assoc there),
)

pub AreTurns-push : (next : List Answer → Next) (told start : List Answer) (answer : Answer) → AreTurns next start told → next (start ++ told) ≡ Ask answer.set → AreTurns next start (told ++ answer ∷ [])
AreTurns-push next [] start answer h e = ((rw append-nil at e), tt)
AreTurns-push next (first ∷ told) start answer h e = (h.0, AreTurns-push next told (start ++ first ∷ []) answer h.1 (rw append_assoc e))

to-turns : (next : List Answer → Next) (before told start : List Answer) (answer : Answer) (after : List Answer) → told ≡ before ++ answer ∷ after → AreTurns next start told → next (start ++ before) ≡ Ask answer.set
to-turns next [] [] start answer after e h = absurd (cc)
to-turns next [] (first ∷ told) start answer after e h = let same : first ≡ answer = cc in rw (append-nil, ← same) h.0
to-turns next (b ∷ before) [] start answer after e h = absurd (cc)
to-turns next (b ∷ before) (first ∷ told) start answer after e h =
    let same : first ≡ b = cc in
    let rest : told ≡ before ++ answer ∷ after = cc in
    let there : next ((start ++ first ∷ []) ++ before) ≡ Ask answer.set = to-turns next before told (start ++ first ∷ []) answer after rest h.1 in
    rw (← same) (rw append_assoc at there)

pub IsToldInTurn-from : (next : List Answer → Next) (start told : List Answer) → AreTurns next start told → IsToldInTurn next start told
IsToldInTurn-from next start told h before answer after e = to-turns next before told start answer after e h

pub IsToldInTurn-push : (next : List Answer → Next) (start told : List Answer) (answer : Answer) → IsToldInTurn next start told → next (start ++ told) ≡ Ask answer.set → IsToldInTurn next start (told ++ answer ∷ [])
IsToldInTurn-push next start told answer h e = IsToldInTurn-from next start (told ++ answer ∷ []) (AreTurns-push next told start answer (AreTurns-from next told start h) e)

-- the same recursion asks the same
pub IsToldInTurn-same : (next other : List Answer → Next) → ((table : List Answer) → next table ≡ other table) → (start told : List Answer) → IsToldInTurn next start told → IsToldInTurn other start told
IsToldInTurn-same next other same start told h before answer after e = sym (same (start ++ before)) ∙ h before answer after e

pub IsToldInTurn-none : (next : List Answer → Next) (start : List Answer) → IsToldInTurn next start []
IsToldInTurn-none next start = IsToldInTurn-from next start [] tt

-- only what is asked over the start and more counts
AreTurns-same : (next other : List Answer → Next) (told start : List Answer) → ((more : List Answer) → next (start ++ more) ≡ other (start ++ more)) → AreTurns next start told → AreTurns other start told
AreTurns-same next other [] start same h = tt
AreTurns-same next other (answer ∷ told) start same h =
    let here : next (start ++ []) ≡ other (start ++ []) = same [] in
    let first : next start ≡ other start = rw append-nil at here in (
      sym first ∙ h.0,
      AreTurns-same next other told (start ++ answer ∷ [])
          (λ more. let there : next (start ++ answer ∷ more) ≡ other (start ++ answer ∷ more) = same (answer ∷ more) in rw append_assoc there)
          h.1,
    )

-- where the table at the start has an answer, the plan goes on by it over all that is told
turns-known : (set : List ℕ) (go : Bool → Plan) (told start : List Answer) (sat : Bool) → answer_to start set ≡ Some sat → AreTurns (λ table. over table (asks set go)) start told → AreTurns (λ table. over table (go sat)) start told
turns-known set go told start sat e h = AreTurns-same (λ table. over table (asks set go)) (λ table. over table (go sat)) told start (λ more. over-known (start ++ more) set go sat (answer_to-told start more set sat e)) h

-- no more answers are told in turn than a plan asks sets
turns-at_most : (plan : Plan) (n : ℕ) → AsksAtMost n plan → (told start : List Answer) → AreTurns (λ table. over table plan) start told → length told ≤ n
turns-at_most (found set) n m [] start h = omega arith
turns-at_most (found set) n m (answer ∷ told) start h = let e : Done set ≡ Ask answer.set = h.0 in absurd (cc)
turns-at_most (asks set go) n m [] start h = omega arith
turns-at_most (asks set go) n m (answer ∷ told) start h =
    let some : 0 < n = m.0 in
    ⊎_elim
    (λ (a : IsAsked start set (Ask answer.set)).
    let same : set ≡ answer.set = cc (a.asked) in
    let told_here : answer_to (start ++ answer ∷ []) set ≡ Some answer.sat = rw same (answer_to-beyond start (answer ∷ []) answer.set (rw (← same) a.none) ∙ answer_to-first answer []) in
    let rest : length told ≤ n - 1 = turns-at_most (go answer.sat) (n - 1) (m.1 answer.sat) told (start ++ answer ∷ []) (turns-known set go told (start ++ answer ∷ []) answer.sat told_here h.1) in
    omega arith)
    (λ (k : GoesOn start set go (Ask answer.set)).
    let all : length (answer ∷ told) ≤ n - 1 = turns-at_most (go k.sat) (n - 1) (m.1 k.sat) (answer ∷ told) start (turns-known set go (answer ∷ told) start k.sat k.known h) in
    omega arith)
    (over-cases start set go (Ask answer.set) h.0)

module _ (plan : Plan) (n : ℕ) (most : AsksAtMost n plan) where
  pub told-few : (start told : List Answer) → IsToldInTurn (λ table. over table plan) start told → length told ≤ n
  told-few start told h = turns-at_most plan n most told start (AreTurns-from (λ table. over table plan) told start h)

  -- after so many answers the plan is done
  pub told-done : (start told : List Answer) → IsToldInTurn (λ table. over table plan) start told → n ≤ length told → (set : List ℕ) × (over (start ++ told) plan ≡ Done set)
  told-done start told h l = ends (over (start ++ told) plan) refl
    where
      ends : (next : Next) → over (start ++ told) plan ≡ next → (set : List ℕ) × (over (start ++ told) plan ≡ Done set)
      ends (Done set) e = (set, e)
      ends (Ask set) e =
          let answer : Answer = record { set = set; sat = true } in
          let more : length (told ++ answer ∷ []) ≤ n = told-few start (told ++ answer ∷ []) (IsToldInTurn-push (λ table. over table plan) start told answer h e) in
          let longer : length (told ++ answer ∷ []) ≡ length told + 1 = length-append told (answer ∷ []) in
          absurd (omega arith)

  abbrev Ended : (List ℕ → Bool) → List Answer → Type 0
  Ended test start =
      (told : List Answer) × (set : List ℕ) × IsToldInTurn (λ table. over table plan) start told × All (λ answer. answer.sat ≡ test answer.set) told × (over (start ++ told) plan ≡ Done set)

  go-on : (test : List ℕ → Bool) (start : List Answer) (left : ℕ) (told : List Answer) → IsToldInTurn (λ table. over table plan) start told → All (λ answer. answer.sat ≡ test answer.set) told → n ≤ length told + left → Ended test start
  go-on test start zero told h all l = let done = told-done start told h (omega arith) in (told, done.0, h, all, done.1)
  go-on test start (suc left) told h all l = case (over (start ++ told) plan) refl (λ answer t a. go-on test start left (told ++ answer ∷ []) t a (let longer : length (told ++ answer ∷ []) ≡ length told + 1 = length-append told (answer ∷ []) in omega arith))
    where
      case : (next : Next) → over (start ++ told) plan ≡ next → ((answer : Answer) → IsToldInTurn (λ table. over table plan) start (told ++ answer ∷ []) → All (λ answer. answer.sat ≡ test answer.set) (told ++ answer ∷ []) → Ended test start) → Ended test start
      case (Done set) e more = (told, set, h, all, e)
      case (Ask set) e more =
          let answer : Answer = record { set = set; sat = test set } in
          more answer (IsToldInTurn-push (λ table. over table plan) start told answer h e) (All-push (λ answer. answer.sat ≡ test answer.set) told answer all refl)

  -- for each test that answers there are answers told in turn after which the plan is done
  pub told-answered : (test : List ℕ → Bool) (start : List Answer) → (told : List Answer) × (set : List ℕ) × IsToldInTurn (λ table. over table plan) start told × All (λ answer. answer.sat ≡ test answer.set) told × (over (start ++ told) plan ≡ Done set)
  told-answered test start = go-on test start n [] (IsToldInTurn-none (λ table. over table plan) start) (λ k d l. absurd (omega arith)) (omega arith)

-- no set is asked twice
pub told-once : (plan : Plan) (start told : List Answer) → IsToldInTurn (λ table. over table plan) start told → (before : List Answer) (answer : Answer) (after : List Answer) → told ≡ before ++ answer ∷ after → answer_to (start ++ before) answer.set ≡ None
told-once plan start told h before answer after e = over-new (start ++ before) plan answer.set (h before answer after e)

-- a table that agrees with a property, and one more right answer
pub AgreesWith-push : (P : List ℕ → Type 0) (table : List Answer) (answer : Answer) → AgreesWith P table → MatchBool answer.sat (P answer.set) (¬ P answer.set) → AgreesWith P (table ++ answer ∷ [])
AgreesWith-push P table answer h right = record { sat = λ set e. positive set e; unsat = λ set e. negative set e }
  where
    last : (set : List ℕ) (sat : Bool) → answer_to (answer ∷ []) set ≡ Some sat → (answer.set ≡ set) × (answer.sat ≡ sat)
    last set sat e =
        ⊎_elim
        (λ (same : pointwise eqb answer.set set ≡ true). let some : Some answer.sat ≡ Some sat = rw same at e in ((bytes_eq-Decides answer.set set).0 same, cc))
        (λ (other : pointwise eqb answer.set set ≡ false). let none : None ≡ Some sat = rw other at e in absurd (cc))
        (cases_Bool (pointwise eqb answer.set set))

    parts : (set : List ℕ) (sat : Bool) → answer_to (table ++ answer ∷ []) set ≡ Some sat → (answer_to table set ≡ Some sat) ⊎ ((answer.set ≡ set) × (answer.sat ≡ sat))
    parts set sat e = old_or_new (answer_to table set) refl
      where
        old_or_new : (old : Option Bool) → answer_to table set ≡ old → (answer_to table set ≡ Some sat) ⊎ ((answer.set ≡ set) × (answer.sat ≡ sat))
        old_or_new None none = inr (last set sat (sym (answer_to-beyond table (answer ∷ []) set none) ∙ e))
        old_or_new (Some other) known = inl (known ∙ sym (answer_to-told table (answer ∷ []) set other known) ∙ e)

    positive : (set : List ℕ) → answer_to (table ++ answer ∷ []) set ≡ Some true → P set
    positive set e =
        ⊎_elim
        (λ (old : answer_to table set ≡ Some true). h.sat set old)
        (λ (new : (answer.set ≡ set) × (answer.sat ≡ true)). rw (← new.0) (rw new.1 at right))
        (parts set true e)

    negative : (set : List ℕ) → answer_to (table ++ answer ∷ []) set ≡ Some false → ¬ P set
    negative set e =
        ⊎_elim
        (λ (old : answer_to table set ≡ Some false). h.unsat set old)
        (λ (new : (answer.set ≡ set) × (answer.sat ≡ false)). rw (← new.0) (rw new.1 at right))
        (parts set false e)

-- each answer is on the set that was asked then
told-one : (next : List Answer → Next) (told : List Answer) (sat : Bool) (here : Next) → next told ≡ here → IsToldInTurn next [] told → IsToldInTurn next [] (with_answer told sat here)
told-one next told sat (Ask set) e h = IsToldInTurn-push next [] told record { set = set; sat = sat } h e
told-one next told sat (Done set) e h = h

pub told-in_turn : (next : List Answer → Next) (told : List Answer) (sats : List Bool) → IsToldInTurn next [] told → IsToldInTurn next [] (told_in_turn next told sats)
told-in_turn next told [] h = h
told-in_turn next told (sat ∷ sats) h = told-in_turn next (with_answer told sat (next told)) sats (told-one next told sat (next told) refl h)

-- one more answer is told
pub told-push : (next : List Answer → Next) (told : List Answer) (sats : List Bool) (sat : Bool) → told_in_turn next told (sats ++ sat ∷ []) ≡ with_answer (told_in_turn next told sats) sat (next (told_in_turn next told sats))
told-push next told [] sat = refl
told-push next told (first ∷ sats) sat = told-push next (with_answer told first (next told)) sats sat

-- a table's answer on a set is one of its answers
answered-told : (table : List Answer) (set : List ℕ) (sat : Bool) → answer_to table set ≡ Some sat → (before after : List Answer) × (table ≡ before ++ record { set = set; sat = sat } ∷ after)
answered-told [] set sat e = absurd (cc)
answered-told (answer ∷ table) set sat e =
    ⊎_elim
    (λ (same : pointwise eqb answer.set set ≡ true).
    let some : Some answer.sat ≡ Some sat = rw same at e in
    let told : answer.sat ≡ sat = cc in
    let first : answer ≡ record { set = set; sat = sat } = rw (← (bytes_eq-Decides answer.set set).0 same, ← told) refl in
    ([], table, ap (λ (a : Answer). a ∷ table) first))
    (λ (other : pointwise eqb answer.set set ≡ false).
    let r = answered-told table set sat (rw other at e) in
    (answer ∷ r.0, r.1, ap (λ (t : List Answer). answer ∷ t) r.2))
    (cases_Bool (pointwise eqb answer.set set))

-- a set that has an answer was asked over what was told before that answer
pub told-asked : (next : List Answer → Next) (told : List Answer) (set : List ℕ) (sat : Bool) → IsToldInTurn next [] told → answer_to told set ≡ Some sat → (before after : List Answer) × (told ≡ before ++ record { set = set; sat = sat } ∷ after) × (next before ≡ Ask set)
told-asked next told set sat h e =
    let r = answered-told told set sat e in
    (r.0, r.1, r.2, h r.0 record { set = set; sat = sat } r.1 r.2)
