-- The truth of clauses rests on the values of their variables.
use Rattle.std.proofs.Common.{◌≡◌, ◌∙◌, refl, ap, ℕ, zero, suc, ◌<◌, ◌&&◌, ◌||◌, Bool, true, false, not, List, [], ◌∷◌, ◌++◌, length, arith}
use Rattle.std.specs.Prelude.{All, Contains}
use Rattle.std.specs.List.{list_any, list_all}
use Rattle.std.proofs.lemmas.List.Elements.{All-contains}
use Rattle.clauses.specs.declared.literal.Lit.{Lit}
use Rattle.clauses.specs.Clause.{is_true_in, is_satisfied, are_satisfied}
use Rattle.clauses.specs.Met.{AgreeBelow}
use Rattle.clauses.specs.Problem.{IsBelow}
use Rattle.lists.proofs.Members.{first, later}

module _ {X : Type 0} (p q : X → Bool) where
  any-same : (xs : List X) → ((x : X) → Contains xs x → p x ≡ q x) → list_any p xs ≡ list_any q xs
  any-same [] f = refl
  any-same (x ∷ xs) f = ap (λ b. b || list_any p xs) (f x (first x xs)) ∙ ap (λ b. q x || b) (any-same xs (λ y m. f y (later x xs y m)))

  all-same : (xs : List X) → ((x : X) → Contains xs x → p x ≡ q x) → list_all p xs ≡ list_all q xs
  all-same [] f = refl
  all-same (x ∷ xs) f = ap (λ b. b && list_all p xs) (f x (first x xs)) ∙ ap (λ b. q x && b) (all-same xs (λ y m. f y (later x xs y m)))

module _ (bound : ℕ) (a b : List Bool) (agree : AgreeBelow bound a b) where
  literal-same : (var : ℕ) (sign : Bool) → var < bound → is_true_in a (record { var = var; positive = sign }) ≡ is_true_in b (record { var = var; positive = sign })
  literal-same var true l = agree var l
  literal-same var false l = ap not (agree var l)

  clause-same : (clause : List Lit) → All (IsBelow bound) clause → is_satisfied a clause ≡ is_satisfied b clause
  clause-same clause below = any-same (is_true_in a) (is_true_in b) clause (λ l m. literal-same l.var l.positive (All-contains (IsBelow bound) clause l below m))

  pub satisfied-same : (clauses : List (List Lit)) → All (All (IsBelow bound)) clauses → are_satisfied a clauses ≡ are_satisfied b clauses
  satisfied-same clauses below = all-same (is_satisfied a) (is_satisfied b) clauses (λ clause m. clause-same clause (All-contains (All (IsBelow bound)) clauses clause below m))

pub agree-longer : (values more : List Bool) → AgreeBelow (length values) values (values ++ more)
agree-longer [] more var l = absurd (omega arith)
agree-longer (x ∷ values) more zero l = refl
agree-longer (x ∷ values) more (suc var) l = agree-longer values more var (omega arith)
