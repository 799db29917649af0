-- A finite table of answers: which sets of positions were told to be satisfiable; and what a recursion over such a
-- table gives. Own to this project.
use Rattle.std.specs.Prelude.{◌≡◌, ℕ, nat_eq, Bool, true, false, Option, Some, None, List, [], ◌∷◌, ◌++◌, if◌then◌else◌}
use Rattle.std.specs.Cmp.Lexicographic.{pointwise}
use Rattle.pref_sets.specs.Preferred.{IsWithin}

-- a set of positions, and whether it is satisfiable
pub record Answer : Type 0 where
  pub set : List ℕ
  pub sat : Bool

-- whether two sets are the same list
abbrev pub same_set : List ℕ → List ℕ → Bool
same_set = pointwise nat_eq

-- the table's answer on the set: the first one that it has
abbrev pub answer_to : List Answer → List ℕ → Option Bool
answer_to [] set = None
answer_to (answer ∷ table) set = if same_set answer.set set then Some answer.sat else answer_to table set

-- where the table has an answer, it is right: Sat means that the property holds, and Unsat that it doesn't
pub record AgreesWith (P : List ℕ → Type 0) (table : List Answer) : Type 0 where
  pub sat : (set : List ℕ) → answer_to table set ≡ Some true → P set
  pub unsat : (set : List ℕ) → answer_to table set ≡ Some false → ¬ P set

-- no Unsat set of the table is within a Sat one
abbrev pub IsClosed : List Answer → Type 0
IsClosed table = (a b : List ℕ) → answer_to table a ≡ Some false → answer_to table b ≡ Some true → ¬ IsWithin a b

-- the set is within one that the table has as Sat
abbrev pub IsWithinSat : List Answer → List ℕ → Type 0
IsWithinSat table set = (sat : List ℕ) × (answer_to table sat ≡ Some true) × IsWithin set sat

-- what a recursion over a table gives: the first set that it meets outside the table, or the set that it finds
pub data Next : Type 0 where
  Ask : List ℕ → Next
  Done : List ℕ → Next

-- a set is asked
abbrev pub IsAsking : Next → Type 0
IsAsking (Ask set) = Unit {0}
IsAsking (Done found) = ⊥

-- a set is found
abbrev pub IsDone : Next → Type 0
IsDone (Ask set) = ⊥
IsDone (Done found) = Unit {0}

-- what the answer on the set leads to; a set without an answer is asked
abbrev pub by_answer : List ℕ → Option Bool → Next → Next → Next
by_answer set None sat unsat = Ask set
by_answer set (Some true) sat unsat = sat
by_answer set (Some false) sat unsat = unsat

-- what follows a part that is done with a set; a part that asks is waited for
abbrev pub and_then : Next → (List ℕ → Next) → Next
and_then (Ask set) follow = Ask set
and_then (Done found) follow = follow found

-- the answers were told in turn, after those of the table at the start: each is on the set that was asked over what
-- had been told before it
abbrev pub IsToldInTurn : (List Answer → Next) → List Answer → List Answer → Type 0
IsToldInTurn next start told =
    (before : List Answer) (answer : Answer) (after : List Answer) → told ≡ before ++ answer ∷ after → next (start ++ before) ≡ Ask answer.set

-- the answers and one more, on the set that is asked over them
abbrev pub with_answer : List Answer → Bool → Next → List Answer
with_answer told sat (Ask set) = told ++ record { set = set; sat = sat } ∷ []
with_answer told sat (Done found) = told

-- the answers after each of these, told one after the other
abbrev pub told_in_turn : (List Answer → Next) → List Answer → List Bool → List Answer
told_in_turn next told [] = told
told_in_turn next told (sat ∷ further) = told_in_turn next (with_answer told sat (next told)) further
