-- How many items of a list fail a test: fewer, where another test passes more.
use Rattle.std.proofs.Common.{◌≡◌, ◌∙◌, refl, ap, ⊎_elim, ℕ, ◌+◌, ◌<◌, ◌≤◌, Bool, true, false, cond, List, [], ◌∷◌, length, arith}
use Rattle.std.specs.Prelude.{Contains}
use Rattle.std.proofs.lemmas.Bool.{false≢true}
use Rattle.lists.proofs.Members.{none, first_or_later}

abbrev pub one_if_not : Bool → ℕ
one_if_not b = cond b 0 1

abbrev pub fails : {X : Type 0} → (X → Bool) → List X → ℕ
fails test [] = 0
fails test (x ∷ xs) = one_if_not (test x) + fails test xs

at_most_one : (b : Bool) → one_if_not b ≤ 1
at_most_one true = omega arith
at_most_one false = omega arith

weight : (b c : Bool) → (b ≡ true → c ≡ true) → one_if_not c ≤ one_if_not b
weight b true f = omega arith
weight true false f = absurd (false≢true (f refl))
weight false false f = omega arith

module _ {X : Type 0} where
  pub fails-most : (p : X → Bool) (xs : List X) → fails p xs ≤ length xs
  fails-most p [] = omega arith
  fails-most p (x ∷ xs) = let one = at_most_one (p x) in let rest = fails-most p xs in omega arith

  pub fails-fewer : (p q : X → Bool) → ((x : X) → p x ≡ true → q x ≡ true) → (xs : List X) → fails q xs ≤ fails p xs
  fails-fewer p q f [] = omega arith
  fails-fewer p q f (x ∷ xs) = let one = weight (p x) (q x) (f x) in let rest = fails-fewer p q f xs in omega arith

  pub fails-some : (p : X → Bool) (xs : List X) (x : X) → Contains xs x → p x ≡ false → 0 < fails p xs
  fails-some p [] x m e = absurd (none x m)
  fails-some p (y ∷ ys) x m e =
      ⊎_elim
      (λ (s : y ≡ x). let here : one_if_not (p y) ≡ 1 = ap one_if_not (ap p s ∙ e) in omega arith)
      (λ (r : Contains ys x). let rest = fails-some p ys x r e in omega arith)
      (first_or_later y ys x m)

  pub fails-less : (p q : X → Bool) → ((x : X) → p x ≡ true → q x ≡ true) → (xs : List X) (x : X) → Contains xs x → p x ≡ false → q x ≡ true → fails q xs < fails p xs
  fails-less p q f [] x m e t = absurd (none x m)
  fails-less p q f (y ∷ ys) x m e t =
      ⊎_elim
      (λ (s : y ≡ x).
      let before : one_if_not (p y) ≡ 1 = ap one_if_not (ap p s ∙ e) in
      let after : one_if_not (q y) ≡ 0 = ap one_if_not (ap q s ∙ t) in
      let rest = fails-fewer p q f ys in
      omega arith)
      (λ (r : Contains ys x). let one = weight (p y) (q y) (f y) in let rest = fails-less p q f ys x r e t in omega arith)
      (first_or_later y ys x m)
