-- A recursion over a table of answers as a plan: which set is asked, and how it goes on after Sat and after Unsat. A state
-- that is resumed keeps what is left of such a plan. Own to this project.
use Rattle.std.specs.Prelude.{◌≡◌, Bool, true, false, None, ℕ, List, ◌++◌}
use Rattle.pref_sets.specs.Answers.{Answer, Next, answer_to, by_answer}
use Rattle.pref_sets.specs.Answers.Next.{Done}

-- a set is found, or one is asked and the plan goes on by the answer
pub data Plan : Type 0 where
  found : List ℕ → Plan
  asks : List ℕ → (Bool → Plan) → Plan

-- what the plan gives over a table
abbrev pub over : List Answer → Plan → Next
over table (found set) = Done set
over table (asks set go) = by_answer set (answer_to table set) (over table (go true)) (over table (go false))

-- one plan after another
abbrev pub chain : Plan → (List ℕ → Plan) → Plan
chain (found set) follow = follow set
chain (asks set go) follow = asks set (λ sat. chain (go sat) follow)

-- what is left of a plan after the answer on the set that it asks
abbrev pub after_answer : Bool → Plan → Plan
after_answer sat (found set) = found set
after_answer sat (asks set go) = go sat

-- each set that the plan asks has the first property, and each that it finds the second
abbrev pub AsksOnly : (List ℕ → Type 0) → (List ℕ → Type 0) → Plan → Type 0
AsksOnly A R (found set) = R set
AsksOnly A R (asks set go) = A set × ((sat : Bool) → AsksOnly A R (go sat))

-- no set is asked twice, whatever the answers
abbrev pub AsksOnce : Plan → Type 0
AsksOnce (found set) = Unit {0}
AsksOnce (asks set go) =
    (sat : Bool) → AsksOnly (λ other. ¬ other ≡ set) (λ kept. Unit {0}) (go sat) × AsksOnce (go sat)

-- after the told answers `left` is left of the whole plan
pub record IsLeft (told : List Answer) (whole left : Plan) : Type 0 where
  pub same : (more : List Answer) → over (told ++ more) whole ≡ over (told ++ more) left
  pub new : AsksOnly (λ set. answer_to told set ≡ None) (λ kept. Unit {0}) left
  pub once : AsksOnce left
