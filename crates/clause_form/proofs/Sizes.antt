-- Sizes of parts in order, and their capped sums.
use Rattle.std.proofs.Common.{◌≡◌, ◌∙◌, refl, ap, sym, ℕ, zero, suc, ◌+◌, ◌-◌, ◌^◌, ◌<◌, ◌≤◌, List, [], ◌∷◌, ◌++◌, length, get_or, drop, arith}
use Rattle.std.proofs.Math.Seq.{drop-cons}
use Rattle.clauses.specs.declared.literal.Lit.{Lit}
use Rattle.std.proofs.lemmas.List.{append_assoc}
use Rattle.clause_form.specs.Parts.{Part, size, clauses, size_of, clauses_from, capped}

-- the first item of what is left of a list, and the others
pub drop-one : {X : Type 0} (xs : List X) (i : ℕ) (x : X) → i < length xs → x ≡ get_or xs i x → drop i xs ≡ x ∷ drop (i + 1) xs
drop-one xs i x l is =
    let next : suc i ≡ i + 1 = omega arith in
    drop-cons xs i x l ∙ ap (λ y. y ∷ drop (suc i) xs) (sym is) ∙ ap (λ k. x ∷ drop k xs) next

-- one more summand
pub capped-more : (count here rest : ℕ) → capped (capped (count + capped here) + rest) ≡ capped (count + (here + rest))
capped-more count here rest = omega arith

pub capped-none : (count : ℕ) → capped (capped count + 0) ≡ capped count
capped-none count = omega arith

pub size_of-append : (a b : List Part) → size_of (a ++ b) ≡ size_of a + size_of b
size_of-append [] b = omega arith
size_of-append (part ∷ parts) b = let rest = size_of-append parts b in omega arith

pub drop-all : {X : Type 0} (xs : List X) (i : ℕ) → length xs ≤ i → drop i xs ≡ []
drop-all [] zero l = refl
drop-all [] (suc i) l = refl
drop-all (x ∷ xs) zero l = absurd (omega arith)
drop-all (x ∷ xs) (suc i) l = drop-all xs i (omega arith)

-- the count at the end of a list
pub counted-all : {X : Type 0} (parts : List X → List Part) (xs : List X) (i count total : ℕ) → count ≤ 2 ^ 64 - 1 → length xs ≤ i
    → parts [] ≡ [] → capped (count + size_of (parts (drop i xs))) ≡ total → count ≡ total
counted-all parts xs i count total fits end none is =
    let rest : size_of (parts (drop i xs)) ≡ 0 = ap (λ ys. size_of (parts ys)) (drop-all xs i end) ∙ ap size_of none in
    let here : capped (count + size_of (parts (drop i xs))) ≡ count = omega arith in
    sym here ∙ is

pub capped-five : (a b c d e : ℕ) → capped (capped (capped (capped (a + capped b) + capped c) + capped d) + capped e) ≡ capped (a + (b + (c + (d + e))))
capped-five a b c d e = omega arith

pub clauses_from-append : (first : ℕ) (a b : List Part) → clauses_from first (a ++ b) ≡ clauses_from first a ++ clauses_from (first + size_of a) b
clauses_from-append first [] b = let same : first ≡ first + 0 = omega arith in ap (λ k. clauses_from k b) same
clauses_from-append first (part ∷ parts) b =
    let place : (first + size part) + size_of parts ≡ first + (size part + size_of parts) = omega arith in
    ap (λ rest. clauses part first ++ rest) (clauses_from-append (first + size part) parts b ∙ ap (λ k. clauses_from (first + size part) parts ++ clauses_from k b) place)
    ∙ sym (append_assoc (clauses part first) (clauses_from (first + size part) parts) (clauses_from (first + (size part + size_of parts)) b))

-- clauses of the first parts of what is left, and then those of the rest
pub walk-clauses :
    (out new : List (List Lit)) (next after : ℕ) (left here rest : List Part) → left ≡ here ++ rest → after ≡ next + size_of here → new ≡ out ++ clauses_from next here
    → new ++ clauses_from after rest ≡ out ++ clauses_from next left
walk-clauses out new next after left here rest is place made =
    ap (λ these. these ++ clauses_from after rest) made
    ∙ append_assoc out (clauses_from next here) (clauses_from after rest)
    ∙ ap (λ k. out ++ (clauses_from next here ++ clauses_from k rest)) place
    ∙ ap (λ these. out ++ these) (sym (clauses_from-append next here rest))
    ∙ ap (λ parts. out ++ clauses_from next parts) (sym is)

pub walk-size : (left here rest : List Part) → left ≡ here ++ rest → size_of left ≡ size_of here + size_of rest
walk-size left here rest is = ap size_of is ∙ size_of-append here rest
