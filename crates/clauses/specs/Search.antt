-- The search with learning, turn by turn. Own to this project. It gives variables a first value, the lowest first, and
-- learns from each clash which decisions can't stand together: the trimmed set of the decisions for 'clash'. A search
-- that spends its allowance is begun again, with ten times the allowance and the other first value.
use Rattle.std.specs.Prelude.{◌≡◌, ◌↔◌, Contains, ℕ, zero, suc, ◌+◌, ◌*◌, ◌%◌, ◌^◌, min, Bool, true, false, not, ◌&&◌, ◌==◌, List, [], ◌∷◌, ◌++◌, length, filter, map, reverse, if◌then◌else◌, Option, Some, None, option_map}
use Rattle.std.specs.List.{range_with_len}
use Rattle.req_keys.specs.Key.{PositionSet}
use Rattle.req_keys.specs.declared.verdict.Verdict.{Verdict}
use Rattle.req_keys.specs.declared.verdict.Verdict.TheVariants as verdict
use Rattle.pref_sets.specs.Trimmed.{trimmed_of}
use Rattle.clauses.specs.declared.literal.Lit.{Lit}
use Rattle.clauses.specs.Clause.{has, positive_of, negative_of, literal_with, unit_of}
use Rattle.clauses.specs.Closure.{closure, clash}
use Rattle.clauses.specs.Problem.{ClauseProblem, clauses_with}

-- how a search ends: with a value for each variable; with the learned clauses and then the empty one; or at a clash
-- when all that is allowed is learned
pub data SearchAnswer : Type 0 where
  Sat : List Bool → SearchAnswer
  Unsat : List (List Lit) → SearchAnswer
  Limit : SearchAnswer

-- what stands between two turns: the learned clauses, and the decisions, variables that are taken to have the first
-- value
pub record Standing : Type 0 where
  pub learned : List (List Lit)
  pub decisions : List ℕ

-- what a turn comes to
pub data Turn : Type 0 where
  GoesOn : Standing → Turn
  Ends : SearchAnswer → Turn

-- the variables with this value, each in a clause of its own
abbrev pub all_with : Bool → List ℕ → List (List Lit)
all_with value variables = map (λ variable. unit_of (literal_with value variable)) variables

-- at least one of the variables hasn't this value
abbrev pub some_without : Bool → List ℕ → List Lit
some_without value variables = map (λ variable. literal_with (not value) variable) variables

-- the variables of which the set has no literal, ascending
abbrev pub open_variables : ℕ → List Lit → List ℕ
open_variables variables set = filter (λ variable. not (has set (positive_of variable)) && not (has set (negative_of variable))) (range_with_len 0 variables)

-- the value of each variable in the set
abbrev pub values_of : ℕ → List Lit → List Bool
values_of variables set = map (λ variable. has set (positive_of variable)) (range_with_len 0 variables)

-- the items up to this one and with it
abbrev pub up_to : ℕ → List ℕ → List ℕ
up_to last [] = []
up_to last (item ∷ items) = item ∷ (if item == last then [] else up_to last items)

-- the decisions up to the last member but one of the trimmed set, which is given from its end; none where it has no
-- such member
abbrev pub cut_after : List ℕ → List ℕ → List ℕ
cut_after decisions (last ∷ before ∷ others) = up_to before decisions
cut_after decisions others = []

-- the decisions that a clash needs, for a first value
abbrev pub needed_decisions : Bool → List (List Lit) → List ℕ → List ℕ
needed_decisions first clauses decisions = trimmed_of (λ set. clash (clauses ++ all_with first set)) decisions

-- no clash: where each variable has a value they are the answer, and else the lowest without one is decided
abbrev pub turn_at_rest : ℕ → List Lit → Standing → Turn
turn_at_rest variables set now = elim (open_variables variables set) [
  | [] ↦ Ends (Sat (values_of variables set))
  | lowest ∷ others ↦ GoesOn (record now { decisions = now.decisions ++ lowest ∷ [] })
]

-- the learned clause says that not all of the trimmed decisions have the first value
abbrev pub turn_at_learning : Bool → Standing → List ℕ → Turn
turn_at_learning first now trimmed = GoesOn (record { learned = now.learned ++ some_without first trimmed ∷ []; decisions = cut_after now.decisions (reverse trimmed) })

abbrev pub turn_at_clash : Bool → List (List Lit) → ℕ → Standing → Turn
turn_at_clash first clauses allowance now = elim now.decisions [
  | [] ↦ Ends (Unsat (now.learned ++ [] ∷ []))
  | earliest ∷ others ↦ elim (length now.learned == allowance) [
    | true ↦ Ends Limit
    | false ↦ turn_at_learning first now (needed_decisions first (clauses ++ now.learned) now.decisions)
  ]
]

-- what a turn propagates: the clauses, what is learned, and the decisions
abbrev pub under : Bool → List (List Lit) → Standing → List (List Lit)
under first clauses now = (clauses ++ now.learned) ++ all_with first now.decisions

-- a turn, for the first value, the clauses, the number of variables and the allowance
abbrev pub turn : Bool → List (List Lit) → ℕ → ℕ → Standing → Turn
turn first clauses variables allowance now = elim (clash (under first clauses now)) [
  | true ↦ turn_at_clash first clauses allowance now
  | false ↦ turn_at_rest variables (closure (under first clauses now)) now
]

-- the answer after at most so many turns
abbrev pub answer_within : ℕ → Bool → List (List Lit) → ℕ → ℕ → Standing → Option SearchAnswer
answer_within zero first clauses variables allowance now = None
answer_within (suc count) first clauses variables allowance now = elim (turn first clauses variables allowance now) [
  | GoesOn next ↦ answer_within count first clauses variables allowance next
  | Ends answer ↦ Some answer
]

-- what stands after so many turns, if the search goes on for as many
abbrev pub standing_after : ℕ → Bool → List (List Lit) → ℕ → ℕ → Standing → Option Standing
standing_after zero first clauses variables allowance now = Some now
standing_after (suc count) first clauses variables allowance now = elim (turn first clauses variables allowance now) [
  | GoesOn next ↦ standing_after count first clauses variables allowance next
  | Ends answer ↦ None
]

-- before each learned clause, and after the last, at most each variable is decided once, and then there is a clash or
-- an answer
abbrev pub turn_count : ℕ → ℕ → ℕ
turn_count variables allowance = (allowance + 1) * (variables + 1)

abbrev pub start : Standing
start = record { learned = []; decisions = [] }

-- the search on the problem for the key, with an allowance and a first value
abbrev pub search_with : ClauseProblem → PositionSet → ℕ → Bool → Option SearchAnswer
search_with problem key allowance first = answer_within (turn_count problem.variables allowance) first (clauses_with problem key) problem.variables allowance start

-- how many clauses an attempt may learn: each ten times as many as the one before it, up to a limit
abbrev pub allowance_of : ClauseProblem → ℕ → ℕ
allowance_of problem number = min (problem.allowance * 10 ^ number) (2 ^ 40)

-- the first value of an attempt: false for the one with number 0, and then they take turns
abbrev pub first_of : ℕ → Bool
first_of number = number % 2 == 1

-- the attempt with this number
abbrev pub attempt_of : ClauseProblem → PositionSet → ℕ → Option SearchAnswer
attempt_of problem key number = search_with problem key (allowance_of problem number) (first_of number)

-- the answer of the first attempt from this one on that isn't Limit; so many more may follow it
abbrev pub answer_from : ℕ → ClauseProblem → PositionSet → ℕ → Option SearchAnswer
answer_from zero problem key number = attempt_of problem key number
answer_from (suc more) problem key number = elim (attempt_of problem key number) [
  | None ↦ None
  | Some answer ↦ elim answer [
    | Sat values ↦ Some (Sat values)
    | Unsat derivation ↦ Some (Unsat derivation)
    | Limit ↦ answer_from more problem key (number + 1)
  ]
]

-- the search on the problem for the key
abbrev pub search_of : ClauseProblem → PositionSet → Option SearchAnswer
search_of problem key = answer_from problem.rungs problem key 0

-- in the attempt with this number the search on the problem for the key comes to this standing
abbrev pub IsReached : ClauseProblem → PositionSet → ℕ → Standing → Type 0
IsReached problem key number now = (count : ℕ) × (standing_after count (first_of number) (clauses_with problem key) problem.variables (allowance_of problem number) start ≡ Some now)

-- the two clauses name the same variables
abbrev pub NameTheSame : List Lit → List Lit → Type 0
NameTheSame a b = (variable : ℕ) → Contains (map (λ literal. literal.var) a) variable ↔ Contains (map (λ literal. literal.var) b) variable

-- each of the lines names other variables than each of the earlier ones and of the lines before it
abbrev pub NameOthers : List (List Lit) → List (List Lit) → Type 0
NameOthers earlier [] = Unit {0}
NameOthers earlier (line ∷ lines) = ((other : List Lit) → Contains earlier other → ¬ NameTheSame other line) × NameOthers (earlier ++ line ∷ []) lines

abbrev pub verdict_of : SearchAnswer → Verdict
verdict_of (Sat values) = verdict.Sat
verdict_of (Unsat derivation) = verdict.Unsat
verdict_of Limit = verdict.Limit

-- the verdict on the key
abbrev pub verdict_on : ClauseProblem → PositionSet → Option Verdict
verdict_on problem key = option_map verdict_of (search_of problem key)
