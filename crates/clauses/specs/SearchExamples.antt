-- Worked examples of the search. Each computes.
use Rattle.std.specs.Prelude.{◌≡◌, ℕ, true, false, List, [], ◌∷◌, ◌++◌, Some, map, refl}
use Rattle.req_keys.specs.Key.{PositionSet}
use Rattle.req_keys.specs.declared.verdict.Verdict.TheVariants as verdict
use Rattle.clauses.specs.declared.literal.Lit.{Lit}
use Rattle.clauses.specs.Clause.{positive_of as yes, negative_of as no, negation}
use Rattle.clauses.specs.Problem.{ClauseProblem}
use Rattle.clauses.specs.Search.{Sat, Unsat, Limit, GoesOn, allowance_of, search_of, verdict_on, turn}

abbrev problem_of : ℕ → ℕ → List (List Lit) → List Lit → ℕ → ClauseProblem
problem_of variables features clauses roots allowance = record { variables = variables; features = features; clauses = clauses; roots = roots; allowance = allowance; rungs = 0 }

abbrev with_rungs : ℕ → ClauseProblem → ClauseProblem
with_rungs rungs problem = record problem { rungs = rungs }

abbrev key_of : ℕ → List ℕ → PositionSet
key_of n members = record { n = n; members = members }

abbrev no_requirements : PositionSet
no_requirements = key_of 0 []

-- ---- edges

-- a variable in no clause is decided false
pub free_variable : search_of (problem_of 2 2 ((yes 1 ∷ []) ∷ []) [] 0) no_requirements ≡ Some (Sat (false ∷ true ∷ []))
free_variable = refl

pub no_variables : search_of (problem_of 0 0 [] [] 0) no_requirements ≡ Some (Sat [])
no_variables = refl

-- the empty clause clashes before anything is decided or learned
pub empty_clause : search_of (problem_of 1 1 ([] ∷ []) [] 0) no_requirements ≡ Some (Unsat ([] ∷ []))
empty_clause = refl

-- a repeated literal counts once: 0 is forced, and no decision is made
pub repeated_literal : search_of (problem_of 1 1 ((yes 0 ∷ yes 0 ∷ []) ∷ []) [] 0) no_requirements ≡ Some (Sat (true ∷ []))
repeated_literal = refl

-- a literal beside its negation asks nothing
pub literal_and_negation : search_of (problem_of 1 1 ((yes 0 ∷ no 0 ∷ []) ∷ []) [] 0) no_requirements ≡ Some (Sat (false ∷ []))
literal_and_negation = refl

-- only the roots of the key's positions are asked
pub root_of_1 : search_of (problem_of 1 1 [] (yes 0 ∷ no 0 ∷ []) 0) (key_of 2 (1 ∷ [])) ≡ Some (Sat (true ∷ []))
root_of_1 = refl

pub root_of_2 : search_of (problem_of 1 1 [] (yes 0 ∷ no 0 ∷ []) 0) (key_of 2 (2 ∷ [])) ≡ Some (Sat (false ∷ []))
root_of_2 = refl

pub both_roots : search_of (problem_of 1 1 [] (yes 0 ∷ no 0 ∷ []) 0) (key_of 2 (1 ∷ 2 ∷ [])) ≡ Some (Unsat ([] ∷ []))
both_roots = refl

-- 1 or 3 must be true. Of the decisions 0, 1, 2 and 3 the clash needs 1 and 3. What was decided before 1 stays, and 1
-- with it; what came after it goes
abbrev one_or_three : List (List Lit)
one_or_three = (yes 1 ∷ yes 3 ∷ yes 4 ∷ []) ∷ (yes 1 ∷ yes 3 ∷ no 4 ∷ []) ∷ []

pub cut : turn false one_or_three 5 1 (record { learned = []; decisions = 0 ∷ 1 ∷ 2 ∷ 3 ∷ [] }) ≡ GoesOn (record { learned = (yes 1 ∷ yes 3 ∷ []) ∷ []; decisions = 0 ∷ 1 ∷ [] })
cut = refl

pub cut-answer : search_of (problem_of 5 5 one_or_three [] 1) no_requirements ≡ Some (Sat (false ∷ false ∷ false ∷ true ∷ false ∷ []))
cut-answer = refl

-- of the decisions 0 to 4 the clash needs 0, 2 and 4. With them cut after 2 there is a clash at once, which needs 0 and
-- 2, and then 2 alone is true
abbrev three_needed : List (List Lit)
three_needed =
    (yes 0 ∷ yes 2 ∷ yes 4 ∷ yes 5 ∷ []) ∷ (yes 0 ∷ yes 2 ∷ yes 4 ∷ no 5 ∷ [])
    ∷ (yes 0 ∷ no 4 ∷ yes 5 ∷ []) ∷ (yes 0 ∷ no 4 ∷ no 5 ∷ []) ∷ []

pub three-learned : turn false three_needed 6 2 (record { learned = []; decisions = 0 ∷ 1 ∷ 2 ∷ 3 ∷ 4 ∷ [] }) ≡ GoesOn (record { learned = (yes 0 ∷ yes 2 ∷ yes 4 ∷ []) ∷ []; decisions = 0 ∷ 1 ∷ 2 ∷ [] })
three-learned = refl

pub three-one_allowed : search_of (problem_of 6 6 three_needed [] 1) no_requirements ≡ Some Limit
three-one_allowed = refl

pub three-two_allowed : search_of (problem_of 6 6 three_needed [] 2) no_requirements ≡ Some (Sat (false ∷ false ∷ true ∷ false ∷ false ∷ false ∷ []))
three-two_allowed = refl

-- a clash before any decision is no Limit, though nothing may be learned
pub root_against_clause : search_of (problem_of 2 2 ((no 0 ∷ yes 1 ∷ []) ∷ (no 1 ∷ []) ∷ []) (yes 0 ∷ []) 0) (key_of 1 (1 ∷ [])) ≡ Some (Unsat ([] ∷ []))
root_against_clause = refl

-- ---- models in clauses

-- gate g is a disjunction of literals, and true
abbrev one_of : ℕ → List Lit → List (List Lit)
one_of g literals = map (λ literal. yes g ∷ negation literal ∷ []) literals ++ (no g ∷ literals) ∷ (yes g ∷ []) ∷ []

-- the root R is 0, and its optional children A and B are 1 and 2
abbrev two_features : List (List Lit)
two_features = (yes 0 ∷ []) ∷ (no 1 ∷ yes 0 ∷ []) ∷ (no 2 ∷ yes 0 ∷ []) ∷ []

-- A | B and A | !B
abbrev two_constraints : List (List Lit)
two_constraints = two_features ++ one_of 3 (yes 1 ∷ yes 2 ∷ []) ++ one_of 4 (yes 1 ∷ no 2 ∷ [])

-- A false clashes, and nothing may be learned
pub two-none_allowed : search_of (problem_of 5 3 two_constraints [] 0) no_requirements ≡ Some Limit
two-none_allowed = refl

-- A is learned; then B false is a product
pub two-one_allowed : search_of (problem_of 5 3 two_constraints [] 1) no_requirements ≡ Some (Sat (true ∷ true ∷ false ∷ true ∷ true ∷ []))
two-one_allowed = refl

-- as many as there are sets of variables that aren't empty
pub two-all_allowed : search_of (problem_of 5 3 two_constraints [] 31) no_requirements ≡ Some (Sat (true ∷ true ∷ false ∷ true ∷ true ∷ []))
two-all_allowed = refl

-- with !A | B and !A | !B there is no product
abbrev four_constraints : List (List Lit)
four_constraints = two_constraints ++ one_of 5 (no 1 ∷ yes 2 ∷ []) ++ one_of 6 (no 1 ∷ no 2 ∷ [])

pub four-none_allowed : search_of (problem_of 7 3 four_constraints [] 0) no_requirements ≡ Some Limit
four-none_allowed = refl

-- A is learned, and then the clauses clash with no decision
pub four-one_allowed : search_of (problem_of 7 3 four_constraints [] 1) no_requirements ≡ Some (Unsat ((yes 1 ∷ []) ∷ [] ∷ []))
four-one_allowed = refl

-- the cube: each of the eight choices of A, B and C, which are 1, 2 and 3, is forbidden
abbrev cube : List (List Lit)
cube = (yes 0 ∷ []) ∷ (no 1 ∷ yes 0 ∷ []) ∷ (no 2 ∷ yes 0 ∷ []) ∷ (no 3 ∷ yes 0 ∷ []) ∷ []
    ++ one_of 4 (yes 1 ∷ yes 2 ∷ yes 3 ∷ [])
    ++ one_of 5 (yes 1 ∷ yes 2 ∷ no 3 ∷ [])
    ++ one_of 6 (yes 1 ∷ no 2 ∷ yes 3 ∷ [])
    ++ one_of 7 (yes 1 ∷ no 2 ∷ no 3 ∷ [])
    ++ one_of 8 (no 1 ∷ yes 2 ∷ yes 3 ∷ [])
    ++ one_of 9 (no 1 ∷ yes 2 ∷ no 3 ∷ [])
    ++ one_of 10 (no 1 ∷ no 2 ∷ yes 3 ∷ [])
    ++ one_of 11 (no 1 ∷ no 2 ∷ no 3 ∷ [])

pub cube-none_allowed : search_of (problem_of 12 4 cube [] 0) no_requirements ≡ Some Limit
cube-none_allowed = refl

pub cube-one_allowed : search_of (problem_of 12 4 cube [] 1) no_requirements ≡ Some Limit
cube-one_allowed = refl

pub cube-two_allowed : search_of (problem_of 12 4 cube [] 2) no_requirements ≡ Some Limit
cube-two_allowed = refl

pub cube-three_allowed : search_of (problem_of 12 4 cube [] 3) no_requirements ≡ Some (Unsat ((yes 1 ∷ yes 2 ∷ []) ∷ (yes 1 ∷ []) ∷ (yes 2 ∷ []) ∷ [] ∷ []))
cube-three_allowed = refl

-- ---- attempts

-- the second attempt decides the first open variable true, and with it the product is there
pub two-second_attempt : search_of (with_rungs 1 (problem_of 5 3 two_constraints [] 0)) no_requirements ≡ Some (Sat (true ∷ true ∷ true ∷ true ∷ true ∷ []))
two-second_attempt = refl

-- with an allowance of 0 no attempt may learn anything
pub four-no_attempt : search_of (with_rungs 4 (problem_of 7 3 four_constraints [] 0)) no_requirements ≡ Some Limit
four-no_attempt = refl

-- an attempt that answers is the last
pub two-first_attempt : search_of (with_rungs 4 (problem_of 5 3 two_constraints [] 1)) no_requirements ≡ Some (Sat (true ∷ true ∷ false ∷ true ∷ true ∷ []))
two-first_attempt = refl

-- the cube: the second attempt may learn ten clauses, and learns what can't all be true
pub cube-one_second : search_of (with_rungs 1 (problem_of 12 4 cube [] 1)) no_requirements ≡ Some (Unsat ((no 1 ∷ no 2 ∷ []) ∷ (no 1 ∷ []) ∷ (no 2 ∷ []) ∷ [] ∷ []))
cube-one_second = refl

pub cube-none_second : search_of (with_rungs 1 (problem_of 12 4 cube [] 0)) no_requirements ≡ Some Limit
cube-none_second = refl

pub cube-two_second : search_of (with_rungs 1 (problem_of 12 4 cube [] 2)) no_requirements ≡ Some (Unsat ((no 1 ∷ no 2 ∷ []) ∷ (no 1 ∷ []) ∷ (no 2 ∷ []) ∷ [] ∷ []))
cube-two_second = refl

pub cube-three_second : search_of (with_rungs 1 (problem_of 12 4 cube [] 3)) no_requirements ≡ Some (Unsat ((yes 1 ∷ yes 2 ∷ []) ∷ (yes 1 ∷ []) ∷ (yes 2 ∷ []) ∷ [] ∷ []))
cube-three_second = refl

-- a turn with the other first value: of the decisions 0, 1 and 2, all true, the clash needs 0 and 2
pub turn-true : turn true ((no 0 ∷ no 2 ∷ []) ∷ []) 3 1 (record { learned = []; decisions = 0 ∷ 1 ∷ 2 ∷ [] }) ≡ GoesOn (record { learned = (no 0 ∷ no 2 ∷ []) ∷ []; decisions = 0 ∷ [] })
turn-true = refl

-- the allowance is capped
pub allowance-capped : allowance_of (problem_of 1 1 [] [] 1099511627776) 1 ≡ 1099511627776
allowance-capped = refl

pub allowance-second : allowance_of (problem_of 1 1 [] [] 7) 2 ≡ 700
allowance-second = refl

-- the phone: Phone 0 has a mandatory Screen 1, which is Basic 2 or Colour 3, and optional Camera 4 and GPS 5. 6 is
-- 'at least one of Basic', 7 and 8 'at least one' and 'at least two of Basic and Colour'. 9 is 'Camera => Colour'
abbrev phone_clauses : List (List Lit)
phone_clauses =
    (yes 0 ∷ []) ∷ (no 1 ∷ yes 0 ∷ []) ∷ (no 2 ∷ yes 1 ∷ []) ∷ (no 3 ∷ yes 1 ∷ []) ∷ (no 4 ∷ yes 0 ∷ []) ∷ (no 5 ∷ yes 0 ∷ [])
    ∷ (no 0 ∷ yes 1 ∷ [])
    ∷ (no 6 ∷ yes 2 ∷ []) ∷ (yes 6 ∷ no 2 ∷ [])
    ∷ (no 7 ∷ yes 6 ∷ yes 3 ∷ []) ∷ (yes 7 ∷ no 6 ∷ []) ∷ (yes 7 ∷ no 3 ∷ [])
    ∷ (no 8 ∷ yes 3 ∷ []) ∷ (no 8 ∷ yes 6 ∷ []) ∷ (yes 8 ∷ no 6 ∷ no 3 ∷ [])
    ∷ (no 1 ∷ yes 7 ∷ []) ∷ (no 1 ∷ no 8 ∷ [])
    ∷ one_of 9 (no 4 ∷ yes 3 ∷ [])

-- the requirements are Camera, Basic and GPS
abbrev phone : ClauseProblem
phone = problem_of 10 6 phone_clauses (yes 4 ∷ yes 2 ∷ yes 5 ∷ []) 10000

pub phone-all : verdict_on phone (key_of 3 (1 ∷ 2 ∷ 3 ∷ [])) ≡ Some verdict.Unsat
phone-all = refl

pub phone-none : verdict_on phone (key_of 3 []) ≡ Some verdict.Sat
phone-none = refl

pub phone-camera : verdict_on phone (key_of 3 (1 ∷ [])) ≡ Some verdict.Sat
phone-camera = refl

pub phone-camera_basic : verdict_on phone (key_of 3 (1 ∷ 2 ∷ [])) ≡ Some verdict.Unsat
phone-camera_basic = refl

pub phone-camera_gps : verdict_on phone (key_of 3 (1 ∷ 3 ∷ [])) ≡ Some verdict.Sat
phone-camera_gps = refl

pub phone-basic : verdict_on phone (key_of 3 (2 ∷ [])) ≡ Some verdict.Sat
phone-basic = refl
