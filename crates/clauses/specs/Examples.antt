-- Worked examples on sets of clauses. Each computes.
use Rattle.std.specs.Prelude.{◌≡◌, true, false, [], ◌∷◌, refl}
use Rattle.clauses.specs.Clause.{positive_of as yes, negative_of as no, are_satisfied}
use Rattle.clauses.specs.Closure.{closure, clash, follows}
use Rattle.clauses.specs.Letters.{literal_of, clause_of}

-- 0 is true, so 1 is, so 2 isn't
pub chain-closure : closure ((yes 0 ∷ []) ∷ (no 0 ∷ yes 1 ∷ []) ∷ (no 1 ∷ no 2 ∷ []) ∷ []) ≡ yes 0 ∷ yes 1 ∷ no 2 ∷ []
chain-closure = refl

pub chain-no_clash : clash ((yes 0 ∷ []) ∷ (no 0 ∷ yes 1 ∷ []) ∷ (no 1 ∷ no 2 ∷ []) ∷ []) ≡ false
chain-no_clash = refl

-- the order of the clauses makes no other set, and what is forced at once is added at once
pub turned-closure : closure ((no 1 ∷ no 2 ∷ []) ∷ (no 0 ∷ yes 1 ∷ []) ∷ (yes 0 ∷ []) ∷ (yes 3 ∷ []) ∷ []) ≡ yes 0 ∷ yes 3 ∷ yes 1 ∷ no 2 ∷ []
turned-closure = refl

-- both literals of one variable may be forced, which is a clash
pub both-closure : closure ((yes 0 ∷ []) ∷ (no 0 ∷ []) ∷ []) ≡ yes 0 ∷ no 0 ∷ []
both-closure = refl

pub both-clash : clash ((yes 0 ∷ []) ∷ (no 0 ∷ []) ∷ []) ≡ true
both-clash = refl

-- a repeated literal counts once, so this clause forces it
pub repeated-closure : closure ((yes 0 ∷ yes 0 ∷ []) ∷ []) ≡ yes 0 ∷ []
repeated-closure = refl

pub repeated-clash : clash ((yes 0 ∷ yes 0 ∷ []) ∷ []) ≡ false
repeated-clash = refl

-- a literal beside its negation: neither is forced until one is there, and then there is nothing new
pub tautology-closure : closure ((yes 0 ∷ no 0 ∷ []) ∷ []) ≡ []
tautology-closure = refl

pub tautology-closure_with : closure ((yes 0 ∷ no 0 ∷ []) ∷ (no 0 ∷ []) ∷ []) ≡ no 0 ∷ []
tautology-closure_with = refl

pub tautology-clash : clash ((yes 0 ∷ no 0 ∷ []) ∷ (no 0 ∷ []) ∷ []) ≡ false
tautology-clash = refl

-- with both literals forced elsewhere it is refuted
pub tautology-third : closure ((yes 0 ∷ no 0 ∷ yes 1 ∷ []) ∷ (no 0 ∷ []) ∷ (yes 0 ∷ []) ∷ []) ≡ no 0 ∷ yes 0 ∷ yes 1 ∷ []
tautology-third = refl

-- the empty clause forces nothing, and clashes
pub empty-closure : closure ([] ∷ []) ≡ []
empty-closure = refl

pub empty-clash : clash ([] ∷ []) ≡ true
empty-clash = refl

pub none-closure : closure [] ≡ []
none-closure = refl

pub none-clash : clash [] ≡ false
none-clash = refl

-- nothing is forced while two literals of a clause are open, though it has no other answer
pub either-closure : closure ((yes 0 ∷ yes 1 ∷ []) ∷ (yes 0 ∷ no 1 ∷ []) ∷ []) ≡ []
either-closure = refl

-- and yet the literal follows
pub either-follows : follows ((yes 0 ∷ yes 1 ∷ []) ∷ (yes 0 ∷ no 1 ∷ []) ∷ []) (yes 0 ∷ []) ≡ true
either-follows = refl

pub either-not_follows : follows ((yes 0 ∷ yes 1 ∷ []) ∷ (yes 0 ∷ no 1 ∷ []) ∷ []) (no 0 ∷ []) ≡ false
either-not_follows = refl

-- each clause needs a true literal
pub satisfied : are_satisfied (true ∷ false ∷ []) ((yes 0 ∷ yes 1 ∷ []) ∷ (no 1 ∷ []) ∷ []) ≡ true
satisfied = refl

pub not_satisfied : are_satisfied (true ∷ true ∷ []) ((yes 0 ∷ yes 1 ∷ []) ∷ (no 1 ∷ []) ∷ []) ≡ false
not_satisfied = refl

pub empty-not_satisfied : are_satisfied (true ∷ []) ((yes 0 ∷ []) ∷ [] ∷ []) ≡ false
empty-not_satisfied = refl

pub none-satisfied : are_satisfied [] [] ≡ true
none-satisfied = refl

-- 'b, or not c', and the letter past the last of four variables
pub letters : clause_of 4 (98 ∷ 67 ∷ []) ≡ yes 1 ∷ no 2 ∷ []
letters = refl

pub letters-past : literal_of 4 101 ≡ yes 0
letters-past = refl
