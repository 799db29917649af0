-- Worked examples of checked lines. Each computes.
use Rattle.std.specs.Prelude.{◌≡◌, true, false, List, [], ◌∷◌, Some, None, refl}
use Rattle.clauses.specs.declared.literal.Lit.{Lit}
use Rattle.clauses.specs.Clause.{positive_of as yes, negative_of as no}
use Rattle.clauses.specs.Problem.{ClauseProblem, clauses_with}
use Rattle.derivation_check.specs.Checking.{first_wrong, ends_empty, check}
use Rattle.derivation_check.specs.declared.checked.Checked.TheVariants as checked

-- a root, two features under it, and every choice of the two is forbidden
abbrev forbidden : List (List Lit)
forbidden =
    (yes 0 ∷ []) ∷ (no 1 ∷ yes 0 ∷ []) ∷ (no 2 ∷ yes 0 ∷ [])
    ∷ (yes 1 ∷ yes 2 ∷ []) ∷ (yes 1 ∷ no 2 ∷ []) ∷ (no 1 ∷ yes 2 ∷ []) ∷ (no 1 ∷ no 2 ∷ []) ∷ []

-- ---- no lines, and empty lines

pub none : check forbidden [] ≡ checked.NoEnd
none = refl

-- not even where the clauses clash by themselves
pub none-clashing : check ([] ∷ []) [] ≡ checked.NoEnd
none-clashing = refl

pub no-clauses : check [] [] ≡ checked.NoEnd
no-clauses = refl

-- an empty line follows only from a clash
pub empty-at_once : check forbidden ([] ∷ []) ≡ checked.NoAt 0
empty-at_once = refl

pub empty-clashing : check ([] ∷ []) ([] ∷ []) ≡ checked.Yes
empty-clashing = refl

-- ---- the first feature is learned, and then nothing is left

pub derivation : check forbidden ((yes 1 ∷ []) ∷ [] ∷ []) ≡ checked.Yes
derivation = refl

pub no-end : check forbidden ((yes 1 ∷ []) ∷ []) ≡ checked.NoEnd
no-end = refl

-- the root is true, so that it isn't doesn't follow
pub first-wrong : check forbidden ((no 0 ∷ []) ∷ [] ∷ []) ≡ checked.NoAt 0
first-wrong = refl

-- lines are numbered from 0, and those behind the first wrong one aren't looked at
pub second-wrong : check forbidden ((yes 0 ∷ []) ∷ [] ∷ (yes 1 ∷ []) ∷ [] ∷ []) ≡ checked.NoAt 1
second-wrong = refl

-- a line doesn't follow from itself
pub itself : check [] ((yes 0 ∷ []) ∷ []) ≡ checked.NoAt 0
itself = refl

-- but from an earlier one that is the same
pub again : check forbidden ((yes 1 ∷ []) ∷ (yes 1 ∷ []) ∷ [] ∷ []) ≡ checked.Yes
again = refl

-- ---- behind an empty line everything follows

pub empty-twice : check forbidden ((yes 1 ∷ []) ∷ [] ∷ [] ∷ []) ≡ checked.Yes
empty-twice = refl

pub behind-empty : check forbidden ((yes 1 ∷ []) ∷ [] ∷ (no 0 ∷ []) ∷ []) ≡ checked.NoEnd
behind-empty = refl

pub behind-empty_ended : check forbidden ((yes 1 ∷ []) ∷ [] ∷ (no 0 ∷ []) ∷ [] ∷ []) ≡ checked.Yes
behind-empty_ended = refl

-- ---- literals in a line

-- the negations of a literal and of its negation clash
pub tautology : check [] ((yes 0 ∷ no 0 ∷ []) ∷ []) ≡ checked.NoEnd
tautology = refl

-- a repeated literal is one, and order is nothing
pub repeated : check forbidden ((yes 1 ∷ yes 1 ∷ []) ∷ [] ∷ []) ≡ checked.Yes
repeated = refl

-- each literal counts: the first two clauses don't have the third literal, and without it the line doesn't follow
pub each-literal : check ((yes 0 ∷ yes 1 ∷ yes 2 ∷ []) ∷ []) ((yes 2 ∷ yes 0 ∷ yes 1 ∷ []) ∷ (yes 0 ∷ yes 1 ∷ []) ∷ []) ≡ checked.NoAt 1
each-literal = refl

-- a line with a literal that is true already follows
pub true-literal : check ((yes 0 ∷ []) ∷ []) ((yes 1 ∷ yes 0 ∷ []) ∷ []) ≡ checked.NoEnd
true-literal = refl

-- no values make this line false, yet no unit propagation shows it
pub consequence : check ((yes 0 ∷ yes 1 ∷ []) ∷ (yes 0 ∷ no 1 ∷ []) ∷ (no 0 ∷ yes 2 ∷ yes 3 ∷ []) ∷ (no 0 ∷ yes 2 ∷ no 3 ∷ []) ∷ []) ((yes 2 ∷ []) ∷ []) ≡ checked.NoAt 0
consequence = refl

-- ---- the roots of a key

-- two requirements that exclude one another
abbrev excluded : ClauseProblem
excluded = record { variables = 2; features = 2; clauses = []; roots = yes 0 ∷ no 0 ∷ []; allowance = 0; rungs = 0 }

pub roots-clash : check (clauses_with excluded (record { n = 2; members = 1 ∷ 2 ∷ [] })) ([] ∷ []) ≡ checked.Yes
roots-clash = refl

pub roots-clash_none : check (clauses_with excluded (record { n = 2; members = 1 ∷ 2 ∷ [] })) [] ≡ checked.NoEnd
roots-clash_none = refl

pub one-root : check (clauses_with excluded (record { n = 2; members = 2 ∷ [] })) ((no 0 ∷ []) ∷ [] ∷ []) ≡ checked.NoAt 1
one-root = refl

pub no-root : check (clauses_with excluded (record { n = 2; members = [] })) ([] ∷ []) ≡ checked.NoAt 0
no-root = refl

-- ---- the parts

pub wrong-none : first_wrong forbidden ((yes 1 ∷ []) ∷ []) ≡ None
wrong-none = refl

pub wrong-first : first_wrong forbidden ((no 0 ∷ []) ∷ []) ≡ Some 0
wrong-first = refl

pub ends-none : ends_empty [] ≡ false
ends-none = refl

pub ends-before : ends_empty ([] ∷ (yes 0 ∷ []) ∷ []) ≡ false
ends-before = refl

pub ends-last : ends_empty ((yes 0 ∷ []) ∷ [] ∷ []) ≡ true
ends-last = refl
