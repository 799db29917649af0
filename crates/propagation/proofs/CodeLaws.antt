-- Numbers of literals.
use Rattle.std.proofs.Common.{◌≡◌, ◌∙◌, refl, ap, ℕ, ◌+◌, ◌*◌, ◌<◌, ◌≤◌, List, length, get_or, Bool, true, false, cond, arith}
use Rattle.clauses.specs.declared.literal.Lit.{Lit}
use Rattle.std.proofs.lemmas.List.{get_or_default}
use Rattle.clauses.specs.Clause.{negative_of}
use Rattle.propagation.specs.inside.Trails.{code_of}

same_number : (v w : ℕ) (p q : Bool) → 2 * v + cond p 1 0 ≡ 2 * w + cond q 1 0 → (v ≡ w) × (p ≡ q)
same_number v w true true e = (omega arith, refl)
same_number v w true false e = absurd (omega arith)
same_number v w false true e = absurd (omega arith)
same_number v w false false e = (omega arith, refl)

pub code-same : (a b : Lit) → code_of a ≡ code_of b → a ≡ b
code-same a b e =
    let both = same_number a.var b.var a.positive b.positive e in
    ap (λ v. record { var = v; positive = a.positive }) both.0 ∙ ap (λ p. record { var = b.var; positive = p }) both.1

sign_small : (p : Bool) → cond p 1 0 ≤ 1
sign_small true = omega arith
sign_small false = omega arith

pub code-below : (n : ℕ) (l : Lit) → l.var < n → code_of l < 2 * n
code-below n l below = let small = sign_small l.positive in omega arith

-- an item that a loop takes, by the default that the lemmas use
pub item-there : (items : List Lit) (i : ℕ) (item : Lit) → item ≡ get_or items i item → i < length items → item ≡ get_or items i (negative_of 0)
item-there items i item is within = is ∙ get_or_default items i item (negative_of 0) within
