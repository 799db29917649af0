-- Worked examples of what is propagated and of the values. Each computes.
use Rattle.std.specs.Prelude.{◌≡◌, true, false, List, [], ◌∷◌, Some, None, refl}
use Rattle.clauses.specs.declared.literal.Lit.{Lit}
use Rattle.clauses.specs.Clause.{positive_of as yes, negative_of as no}
use Rattle.clauses.specs.Closure.{clash}
use Rattle.propagation.specs.Propagation.{Propagation, as_searched, propagated, value_of}

-- a propagation over four variables
abbrev at : List (List Lit) → List (List Lit) → List Lit → Propagation
at clauses learned assumed = record { problem = record { variables = 4; features = 4; clauses = clauses; roots = []; allowance = 0; rungs = 0 }; assumed = assumed; learned = learned }

-- the problem's clauses come first, then the learned ones, then the assumed literals
pub order : propagated (at ((yes 0 ∷ no 1 ∷ []) ∷ []) ([] ∷ []) (yes 2 ∷ no 2 ∷ [])) ≡ (yes 0 ∷ no 1 ∷ []) ∷ [] ∷ (yes 2 ∷ []) ∷ (no 2 ∷ []) ∷ []
order = refl

-- only the roots of the key's positions are assumed, before the decisions
pub searched : propagated (as_searched (record { variables = 4; features = 4; clauses = []; roots = yes 0 ∷ no 1 ∷ []; allowance = 0; rungs = 0 }) (record { n = 2; members = 2 ∷ [] }) false (record { learned = (yes 2 ∷ []) ∷ []; decisions = 3 ∷ [] })) ≡ (yes 2 ∷ []) ∷ (no 1 ∷ []) ∷ (no 3 ∷ []) ∷ []
searched = refl

-- or the decisions are true
pub searched-true : (as_searched (record { variables = 4; features = 4; clauses = []; roots = []; allowance = 0; rungs = 0 }) (record { n = 0; members = [] }) true (record { learned = []; decisions = 3 ∷ [] })).assumed ≡ yes 3 ∷ []
searched-true = refl

-- ---- values

-- a variable in no clause has none
pub free : value_of [] 0 ≡ None
free = refl

pub unit-positive : value_of ((yes 0 ∷ []) ∷ []) 0 ≡ Some true
unit-positive = refl

pub unit-negative : value_of ((no 0 ∷ []) ∷ []) 0 ≡ Some false
unit-negative = refl

-- a repeated literal counts once, so its clause forces it
pub repeated : value_of ((no 0 ∷ no 0 ∷ []) ∷ []) 0 ≡ Some false
repeated = refl

-- and so does one beside a false literal
pub repeated-behind : value_of (propagated (at ((yes 1 ∷ no 0 ∷ no 0 ∷ []) ∷ []) [] (no 1 ∷ []))) 0 ≡ Some false
repeated-behind = refl

-- a literal beside its negation forces neither
pub tautology : value_of ((yes 0 ∷ no 0 ∷ []) ∷ []) 0 ≡ None
tautology = refl

-- nor a third one while one of them is open
pub tautology-third : value_of ((yes 0 ∷ no 0 ∷ yes 1 ∷ []) ∷ (no 0 ∷ []) ∷ []) 1 ≡ None
tautology-third = refl

-- a literal that the closure had already may be assumed: nothing changes
pub assumed-again : value_of (propagated (at ((yes 0 ∷ []) ∷ []) [] (yes 0 ∷ []))) 0 ≡ Some true
assumed-again = refl

pub assumed-again_no_clash : clash (propagated (at ((yes 0 ∷ []) ∷ []) [] (yes 0 ∷ []))) ≡ false
assumed-again_no_clash = refl

-- one whose negation it had is a clash
pub assumed-against : clash (propagated (at ((yes 0 ∷ []) ∷ []) [] (no 0 ∷ []))) ≡ true
assumed-against = refl

-- what is assumed goes through clauses of the problem and learned ones
pub chain : value_of (propagated (at ((no 0 ∷ yes 1 ∷ []) ∷ []) ((no 1 ∷ no 2 ∷ []) ∷ []) (yes 0 ∷ []))) 2 ≡ Some false
chain = refl

-- a learned clause may be refuted, with no clause of the problem refuted
pub learned-clash : clash (propagated (at [] ((yes 0 ∷ []) ∷ []) (no 0 ∷ []))) ≡ true
learned-clash = refl

-- the empty clause clashes with nothing assumed, and forces nothing
pub empty-clash : clash (propagated (at ([] ∷ []) [] [])) ≡ true
empty-clash = refl

pub empty-value : value_of ([] ∷ []) 0 ≡ None
empty-value = refl

-- nothing is forced while two literals are open, though only one value is left for 0
pub either : value_of ((yes 0 ∷ yes 1 ∷ []) ∷ (yes 0 ∷ no 1 ∷ []) ∷ []) 0 ≡ None
either = refl
