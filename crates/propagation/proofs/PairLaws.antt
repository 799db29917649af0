-- Rows of literals that a false literal forces.
use Rattle.std.proofs.Common.{◌≡◌, ◌∙◌, ◌⊎◌, refl, sym, ap, subst, ⊎_elim, ℕ, ◌+◌, ◌<◌, Bool, true, false, List, [], ◌∷◌, ◌++◌, get_or, length, take, drop, append_assoc}
use Rattle.std.specs.Prelude.{All, Any, Contains}
use Rattle.std.proofs.lemmas.Bool.{false≢true}
use Rattle.std.proofs.lemmas.List.{append-nil, take_more, take-append-drop}
use Rattle.std.proofs.lemmas.List.Elements.{All-contains, Contains-append_cases, Contains-append_left, Contains-push, Contains-push_cases}
use Rattle.lists.proofs.Members.{none}
use Rattle.clauses.specs.declared.literal.Lit.{Lit}
use Rattle.clauses.specs.Clause.{negation, negative_of}
use Rattle.clauses.specs.Closure.{closure}
use Rattle.clauses.specs.Problem.{IsBelow}
use Rattle.clauses.proofs.LeastLaws.{closure-closed}
use Rattle.propagation.specs.inside.Pairing.{ArePaired, IsBrought, Pairing, row_of}
use Rattle.propagation.specs.inside.Trails.{Trailing, code_of}
use Rattle.propagation.specs.inside.Watching.{IsGrowth, IsRefuted}
use Rattle.propagation.proofs.ValueLaws.{All-members, Any-member}

-- ---- the literals of a row, one by one

pub brought-none : (row : List Lit) (trail : Trailing) → IsBrought (take 0 row) trail trail true
brought-none row trail = record {
  same = refl;
  more = [];
  grows = sym (append-nil trail.literals);
  listed = λ l m. absurd (none l m);
  all = λ t l m. absurd (none l m);
  refuted = λ f. absurd (false≢true (sym f));
}

module _ (row : List Lit) (old now : Trailing) (i : ℕ) (inside : i < length row) (is : IsBrought (take i row) old now true) where
  abbrev here : Lit
  here = get_or row i (negative_of 0)

  first : List Lit
  first = take i row

  longer : take (i + 1) row ≡ take i row ++ here ∷ []
  longer = take_more row i (negative_of 0) inside

  there-row : (l : Lit) → Contains (take i row) l → Contains (take (i + 1) row) l
  there-row l m = subst (λ ls. Contains ls l) (sym longer) (Contains-append_left (take i row) (here ∷ []) l m)

  cases-row : (l : Lit) → Contains (take (i + 1) row) l → Contains (take i row) l ⊎ (here ≡ l)
  cases-row l m = Contains-push_cases (take i row) here l (subst (λ ls. Contains ls l) longer m)

  pub brought-there : Contains now.literals here → IsBrought (take (i + 1) row) old now true
  brought-there t = record {
    same = is.same;
    more = is.more;
    grows = is.grows;
    listed = λ l m. there-row l (is.listed l m);
    all = λ _ l m. ⊎_elim (λ (o : Contains (take i row) l). is.all refl l o) (λ (e : here ≡ l). subst (Contains now.literals) e t) (cases-row l m);
    refuted = λ f. absurd (false≢true (sym f));
  }

  pub brought-put : (next : Trailing) → next ≡ record now { literals = now.literals ++ here ∷ [] } → IsBrought (take (i + 1) row) old next true
  brought-put next e = record {
    same = ap (λ (t : Trailing). t.variables) e ∙ is.same;
    more = is.more ++ here ∷ [];
    grows = ap (λ (t : Trailing). t.literals) e ∙ ap (λ ls. ls ++ here ∷ []) is.grows ∙ append_assoc old.literals is.more (here ∷ []);
    listed = λ l m. ⊎_elim
        (λ (o : Contains is.more l). there-row l (is.listed l o))
        (λ (n : here ≡ l). subst (λ ls. Contains ls l) (sym longer) (subst (Contains (take i row ++ here ∷ [])) n (Contains-push (take i row) here)))
        (Contains-push_cases is.more here l m);
    all = λ _ l m. subst (λ (t : Trailing). Contains t.literals l) (sym e)
        (⊎_elim
        (λ (o : Contains (take i row) l). Contains-append_left now.literals (here ∷ []) l (is.all refl l o))
        (λ (n : here ≡ l). subst (Contains (now.literals ++ here ∷ [])) n (Contains-push now.literals here))
        (cases-row l m));
    refuted = λ f. absurd (false≢true (sym f));
  }

pub brought-up-to : (row : List Lit) (n : ℕ) (old now : Trailing) → IsBrought (take n row) old now true → (l : Lit) → Contains row l → Contains now.literals (negation l) → IsBrought row old now false
brought-up-to row n old now is l there falls = record {
  same = is.same;
  more = is.more;
  grows = is.grows;
  listed = λ x m. subst (λ ls. Contains ls x) (take-append-drop n row) (Contains-append_left (take n row) (drop n row) x (is.listed x m));
  all = λ t. absurd (false≢true t);
  refuted = λ _. (l, there, falls);
}

-- ---- what the clauses make of them

module _ (clauses : List (List Lit)) (pairs : Pairing) (paired : ArePaired clauses pairs) (literal : Lit) (old new : Trailing) (fits : Bool) (is_false : Contains old.literals (negation literal)) where
  abbrev row : List Lit
  row = row_of pairs (code_of literal)

  pub row-below : (variables : ℕ) → All (All (IsBelow variables)) clauses → All (IsBelow variables) row
  row-below variables below = All-members (IsBelow variables) row (λ l m. let two = paired literal l m in All-contains (IsBelow variables) two.0 l (All-contains (All (IsBelow variables)) clauses two.0 below two.1) two.2.other_in)

  module _ (is : IsBrought row old new fits) where
    up : (l : Lit) → Contains old.literals l → Contains new.literals l
    up l m = subst (λ ls. Contains ls l) (sym is.grows) (Contains-append_left old.literals is.more l m)

    pub brought-growth : IsGrowth clauses old new
    brought-growth = record {
      same = is.same;
      more = is.more;
      grows = is.grows;
      sound = λ all part s x m.
          ⊎_elim
          (λ (o : Contains old.literals x). s x o)
          (λ (n : Contains is.more x).
          let two = paired literal x (is.listed x n) in
          closure-closed all two.0 x (part two.0 two.1) two.2.other_in
          (λ y k ne.
          ⊎_elim
          (λ (a : y ≡ literal). subst (λ (z : Lit). Contains (closure all) (negation z)) (sym a) (s (negation literal) is_false))
          (λ (b : y ≡ x). absurd (ne b))
          (two.2.only y k)))
          (Contains-append_cases old.literals is.more x (subst (λ ls. Contains ls x) is.grows m));
    }

    pub brought-refuted : fits ≡ false → Any (IsRefuted new.literals) clauses
    brought-refuted f =
        let falls = is.refuted f in
        let two = paired literal falls.0 falls.1 in
        Any-member (IsRefuted new.literals) clauses two.0 two.1
        (All-members (λ l. Contains new.literals (negation l)) two.0
        (λ l m.
        ⊎_elim
        (λ (a : l ≡ literal). subst (λ (z : Lit). Contains new.literals (negation z)) (sym a) (up (negation literal) is_false))
        (λ (b : l ≡ falls.0). subst (λ (z : Lit). Contains new.literals (negation z)) (sym b) falls.2)
        (two.2.only l m)))
