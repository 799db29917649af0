-- Literals and sets of them.
use Rattle.std.proofs.Common.{◌≡◌, refl, sym, subst, eqb, ℕ, Bool, true, false, cond, not, List}
use Rattle.std.specs.Prelude.{Contains}
use Rattle.std.proofs.lemmas.Bool.{false≢true, and_parts, and_from, eqb-true, eq-eqb}
use Rattle.clauses.specs.declared.literal.Lit.{Lit}
use Rattle.clauses.specs.Clause.{is_same, has, literal_with, negation}
use Rattle.lists.proofs.Members.{any_from, any_at}

same_sign : (a b : Bool) → cond a b (not b) ≡ true → a ≡ b
same_sign true b e = sym e
same_sign false true e = absurd (false≢true e)
same_sign false false e = refl

sign_same : (a : Bool) → cond a a (not a) ≡ true
sign_same true = refl
sign_same false = refl

pub is_same-eq : (a b : Lit) → is_same a b ≡ true → a ≡ b
is_same-eq a b e =
    let both = and_parts (eqb a.var b.var) (cond a.positive b.positive (not b.positive)) e in
    let var : a.var ≡ b.var = eqb-true a.var b.var both.0 in
    let sign : a.positive ≡ b.positive = same_sign a.positive b.positive both.1 in
    λ i. record { var = var i; positive = sign i }

pub is_same-refl : (a : Lit) → is_same a a ≡ true
is_same-refl a = and_from (eqb a.var a.var) (cond a.positive a.positive (not a.positive)) (eq-eqb a.var a.var refl) (sign_same a.positive)

not-not : (b : Bool) → not (not b) ≡ b
not-not true = refl
not-not false = refl

pub negation-negation : (l : Lit) → negation (negation l) ≡ l
negation-negation l = λ i. record { var = l.var; positive = not-not l.positive i }

-- a literal with the other value, negated
pub negation-other : (sign : Bool) (x : ℕ) → negation (literal_with (not sign) x) ≡ literal_with sign x
negation-other sign x = λ i. record { var = x; positive = not-not sign i }

pub has-from : (set : List Lit) (l : Lit) → Contains set l → has set l ≡ true
has-from set l m = any_from (is_same l) set l m (is_same-refl l)

pub from_has : (set : List Lit) (l : Lit) → has set l ≡ true → Contains set l
from_has set l e = let a = any_at (is_same l) set e in subst (Contains set) (sym (is_same-eq l a.0 a.2)) a.1

-- a set within another has no more
pub has-more : (a b : List Lit) → ((l : Lit) → Contains a l → Contains b l) → (l : Lit) → has a l ≡ true → has b l ≡ true
has-more a b within l e = has-from b l (within l (from_has a l e))
