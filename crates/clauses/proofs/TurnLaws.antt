-- The kinds of turns, and what every standing that a search comes to has.
use Rattle.std.proofs.Common.{◌≡◌, ◌∙◌, refl, ap, subst, ℕ, zero, suc, eqb, Bool, true, false, List, [], ◌∷◌, ◌++◌, length, Some, None}
use Rattle.clauses.specs.declared.literal.Lit.{Lit}
use Rattle.clauses.specs.Closure.{closure, clash}
use Rattle.clauses.specs.Search.{SearchAnswer, Sat, Unsat, Limit, Standing, Turn, GoesOn, Ends, under, open_variables, values_of, needed_decisions, turn, turn_at_clash, turn_at_rest, turn_at_learning, answer_within, standing_after}

pub data IsTurn (sign : Bool) (clauses : List (List Lit)) (v a : ℕ) (s : Standing) (t : Turn) : Type 0 where
  answers : clash (under sign clauses s) ≡ false → open_variables v (closure (under sign clauses s)) ≡ [] → t ≡ Ends (Sat (values_of v (closure (under sign clauses s)))) → IsTurn sign clauses v a s t
  decides : (x : ℕ) (xs : List ℕ) → clash (under sign clauses s) ≡ false → open_variables v (closure (under sign clauses s)) ≡ x ∷ xs → t ≡ GoesOn (record s { decisions = s.decisions ++ x ∷ [] }) → IsTurn sign clauses v a s t
  refutes : clash (under sign clauses s) ≡ true → s.decisions ≡ [] → t ≡ Ends (Unsat (s.learned ++ [] ∷ [])) → IsTurn sign clauses v a s t
  gives_up : clash (under sign clauses s) ≡ true → (x : ℕ) (xs : List ℕ) → s.decisions ≡ x ∷ xs → eqb (length s.learned) a ≡ true → t ≡ Ends Limit → IsTurn sign clauses v a s t
  adds_clause : clash (under sign clauses s) ≡ true → (x : ℕ) (xs : List ℕ) → s.decisions ≡ x ∷ xs → eqb (length s.learned) a ≡ false → t ≡ turn_at_learning sign s (needed_decisions sign (clauses ++ s.learned) s.decisions) → IsTurn sign clauses v a s t

module _ (sign : Bool) (clauses : List (List Lit)) (v a : ℕ) (s : Standing) where
  at_rest : clash (under sign clauses s) ≡ false → (vars : List ℕ) → open_variables v (closure (under sign clauses s)) ≡ vars
      → IsTurn sign clauses v a s (elim vars [ [] ↦ Ends (Sat (values_of v (closure (under sign clauses s)))) | lowest ∷ others ↦ GoesOn (record s { decisions = s.decisions ++ lowest ∷ [] }) ])
  at_rest e [] o = answers e o refl
  at_rest e (x ∷ xs) o = decides x xs e o refl

  at_clash : clash (under sign clauses s) ≡ true → (d : List ℕ) → s.decisions ≡ d → (b : Bool) → eqb (length s.learned) a ≡ b
      → IsTurn sign clauses v a s (elim d [ [] ↦ Ends (Unsat (s.learned ++ [] ∷ [])) | first ∷ others ↦ elim b [ true ↦ Ends Limit | false ↦ turn_at_learning sign s (needed_decisions sign (clauses ++ s.learned) s.decisions) ] ])
  at_clash e [] d b l = refutes e d refl
  at_clash e (x ∷ xs) d true l = gives_up e x xs d l refl
  at_clash e (x ∷ xs) d false l = adds_clause e x xs d l refl

  by_clash : (b : Bool) → clash (under sign clauses s) ≡ b → IsTurn sign clauses v a s (elim b [ true ↦ turn_at_clash sign clauses a s | false ↦ turn_at_rest v (closure (under sign clauses s)) s ])
  by_clash true e = at_clash e s.decisions refl (eqb (length s.learned) a) refl
  by_clash false e = at_rest e (open_variables v (closure (under sign clauses s))) refl

  pub turn_is : IsTurn sign clauses v a s (turn sign clauses v a s)
  turn_is = by_clash (clash (under sign clauses s)) refl

-- where every turn keeps a fact of the standing, it is true where the search ends
module _ (sign : Bool) (clauses : List (List Lit)) (v a : ℕ) (P : Standing → Type 0) (keeps : (s t : Standing) → P s → turn sign clauses v a s ≡ GoesOn t → P t) (answer : SearchAnswer) where
  after : (n : ℕ) (s : Standing) → P s → ((t : Standing) → P t → answer_within n sign clauses v a t ≡ Some answer → (u : Standing) × P u × (turn sign clauses v a u ≡ Ends answer))
      → (r : Turn) → turn sign clauses v a s ≡ r → elim r [ GoesOn next ↦ answer_within n sign clauses v a next | Ends x ↦ Some x ] ≡ Some answer
      → (u : Standing) × P u × (turn sign clauses v a u ≡ Ends answer)
  after n s p rest (GoesOn next) e f = rest next (keeps s next p e) f
  after n s p rest (Ends x) e f = let same : x ≡ answer = cc in (s, p, e ∙ ap Ends same)

  pub ended : (n : ℕ) (s : Standing) → P s → answer_within n sign clauses v a s ≡ Some answer → (u : Standing) × P u × (turn sign clauses v a u ≡ Ends answer)
  ended zero s p e = absurd (cc)
  ended (suc n) s p e = after n s p (ended n) (turn sign clauses v a s) refl e

-- and where it comes to
module _ (sign : Bool) (clauses : List (List Lit)) (v a : ℕ) (P : Standing → Type 0) (keeps : (s t : Standing) → P s → turn sign clauses v a s ≡ GoesOn t → P t) (last : Standing) where
  then : (n : ℕ) (s : Standing) → P s → ((t : Standing) → P t → standing_after n sign clauses v a t ≡ Some last → P last)
      → (r : Turn) → turn sign clauses v a s ≡ r → elim r [ GoesOn next ↦ standing_after n sign clauses v a next | Ends x ↦ None ] ≡ Some last → P last
  then n s p rest (GoesOn next) e f = rest next (keeps s next p e) f
  then n s p rest (Ends x) e f = absurd (cc)

  pub reached : (n : ℕ) (s : Standing) → P s → standing_after n sign clauses v a s ≡ Some last → P last
  reached zero s p e = let same : s ≡ last = cc in subst P same p
  reached (suc n) s p e = then n s p (reached n) (turn sign clauses v a s) refl e

-- a turn after so many is one more
module _ (sign : Bool) (clauses : List (List Lit)) (v a : ℕ) (t u : Standing) (goes_on : turn sign clauses v a t ≡ GoesOn u) where
  one_more : (n : ℕ) → ((s : Standing) → standing_after n sign clauses v a s ≡ Some t → standing_after (suc n) sign clauses v a s ≡ Some u)
      → (r : Turn) → elim r [ GoesOn next ↦ standing_after n sign clauses v a next | Ends x ↦ None ] ≡ Some t
      → elim r [ GoesOn next ↦ standing_after (suc n) sign clauses v a next | Ends x ↦ None ] ≡ Some u
  one_more n rest (GoesOn next) e = rest next e
  one_more n rest (Ends x) e = absurd (cc)

  pub after_one_more : (n : ℕ) (s : Standing) → standing_after n sign clauses v a s ≡ Some t → standing_after (suc n) sign clauses v a s ≡ Some u
  after_one_more zero s e =
      let same : t ≡ s = cc in
      let next : turn sign clauses v a s ≡ GoesOn u = subst (λ w. turn sign clauses v a w ≡ GoesOn u) same goes_on in
      ap (λ r. elim r [ GoesOn next ↦ Some next | Ends x ↦ None ]) next
  after_one_more (suc n) s e = one_more n (after_one_more n) (turn sign clauses v a s) e
