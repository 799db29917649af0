-- What parts mean: which values of the features they allow, with exactly one list of values for their own variables.
use Rattle.std.proofs.Common.{◌≡◌, ◌∙◌, refl, ap, sym, subst, ℕ, ◌+◌, ◌≤◌, Bool, true, ◌&&◌, List, [], ◌∷◌, ◌++◌, map, length, All, arith}
use Rattle.std.specs.List.{list_all}
use Rattle.std.proofs.lemmas.Bool.{and_parts, and_from}
use Rattle.std.proofs.lemmas.List.{length-append}
use Rattle.std.proofs.lemmas.List.Elements.{All-head, All-tail, All-append}
use Rattle.clauses.specs.declared.literal.Lit.{Lit}
use Rattle.clauses.specs.Clause.{are_satisfied}
use Rattle.clauses.specs.Problem.{IsBelow}
use Rattle.clause_form.specs.Parts.{Part, Own, size, clauses, bare, size_of, clauses_from}
use Rattle.clause_form.proofs.Below.{AreBelow, are-below-more, IsWithin, bare-within, none-within, more-within}
use Rattle.clause_form.proofs.Extensions.{AreTrue, HasOne, true-parts, true-more, one-none, one-bare, one-then, one-same}
use Rattle.clause_form.proofs.Sizes.{clauses_from-append, size_of-append}

-- the parts as one
abbrev pub joined : List Part → Part
joined parts = Own (size_of parts) (λ first. clauses_from first parts)

module _ (n : ℕ) where
  -- a condition on the first n values
  abbrev pub Rests : (List Bool → Bool) → Type 0
  Rests P = (values more : List Bool) → n ≤ length values → P (values ++ more) ≡ P values

  -- the part allows what the condition allows: it holds wherever the clauses are true, and where it holds, exactly one list of
  -- values for the part's own variables makes them true
  pub record Means (part : Part) (P : List Bool → Bool) : Type 0 where
    pub within : IsWithin n part
    pub rests : Rests P
    pub says : (first : ℕ) → n ≤ first → (values : List Bool) → AreTrue values (clauses part first) → P values ≡ true
    pub one : (before : List Bool) → n ≤ length before → P before ≡ true → HasOne before (size part) (clauses part (length before))

  pub means-bare : (these : List (List Lit)) → AreBelow n these → Means (bare these) (λ values. are_satisfied values these)
  means-bare these below = record {
    within = bare-within n these below;
    rests = λ values more l. true-more values more these (are-below-more n (length values) these l below);
    says = λ first l values e. e;
    one = λ before l e. one-bare before these e;
  }

  pub means-same : (part : Part) (P Q : List Bool → Bool) → ((values : List Bool) → P values ≡ Q values) → Means part P → Means part Q
  means-same part P Q same means = record {
    within = means.within;
    rests = λ values more l. sym (same (values ++ more)) ∙ means.rests values more l ∙ same values;
    says = λ first l values e. sym (same values) ∙ means.says first l values e;
    one = λ before l e. means.one before l (same before ∙ e);
  }

  -- ---- one part after the other

  pub means-none : Means (joined []) (λ values. true)
  means-none = record { within = none-within n; rests = λ values more l. refl; says = λ first l values e. refl; one = λ before l e. one-none before }

  pub means-more : (part : Part) (parts : List Part) (P Q : List Bool → Bool) → Means part P → Means (joined parts) Q → Means (joined (part ∷ parts)) (λ values. P values && Q values)
  means-more part parts P Q here rest = record {
    within = more-within n part parts here.within rest.within;
    rests = λ values more l. ap (λ p. p && Q (values ++ more)) (here.rests values more l) ∙ ap (λ q. P values && q) (rest.rests values more l);
    says = λ first l values e.
        let both = true-parts values (clauses part first) (clauses_from (first + size part) parts) e in
        and_from (P values) (Q values) (here.says first l values both.0) (rest.says (first + size part) (omega arith) values both.1);
    one = λ before l e.
        let both = and_parts (P before) (Q before) e in
        let mine = here.one before l both.0 in
        let longer = length-append before mine.new in
        let is_size : length mine.new ≡ size part = mine.sized in
        let place : length (before ++ mine.new) ≡ length before + size part = omega arith in
        let enough : n ≤ length (before ++ mine.new) = omega arith in
        one-then before (size part) (size_of parts) (clauses part (length before)) (clauses_from (length before + size part) parts) (here.within (length before) l) mine
        (subst (λ k. HasOne (before ++ mine.new) (size_of parts) (clauses_from k parts)) place (rest.one (before ++ mine.new) enough (rest.rests before mine.new l ∙ both.1)));
  }

  -- a list of parts, each with its condition
  pub means-each : {X : Type 0} (part : X → Part) (P : X → List Bool → Bool) (xs : List X) → All (λ x. Means (part x) (P x)) xs
      → Means (joined (map part xs)) (λ values. list_all (λ x. P x values) xs)
  means-each part P [] each = means-none
  means-each part P (x ∷ xs) each =
      means-more (part x) (map part xs) (P x) (λ values. list_all (λ y. P y values) xs) (All-head (λ y. Means (part y) (P y)) x xs each) (means-each part P xs (All-tail (λ y. Means (part y) (P y)) x xs each))

  -- two lists
  pub means-append : (a b : List Part) (P Q : List Bool → Bool) → Means (joined a) P → Means (joined b) Q → Means (joined (a ++ b)) (λ values. P values && Q values)
  means-append a b P Q here rest =
      let size_is = size_of-append a b in record {
        within = λ first l.
            let bound = first + size_of (a ++ b) in
            subst (AreBelow bound) (sym (clauses_from-append first a b))
            (both_below bound (clauses_from first a) (clauses_from (first + size_of a) b)
            (are-below-more (first + size_of a) bound (clauses_from first a) (omega arith) (here.within first l))
            (are-below-more ((first + size_of a) + size_of b) bound (clauses_from (first + size_of a) b) (omega arith) (rest.within (first + size_of a) (omega arith))));
        rests = λ values more l. ap (λ p. p && Q (values ++ more)) (here.rests values more l) ∙ ap (λ q. P values && q) (rest.rests values more l);
        says = λ first l values e.
            let both = true-parts values (clauses_from first a) (clauses_from (first + size_of a) b) (ap (are_satisfied values) (sym (clauses_from-append first a b)) ∙ e) in
            and_from (P values) (Q values) (here.says first l values both.0) (rest.says (first + size_of a) (omega arith) values both.1);
        one = λ before l e.
            let both = and_parts (P before) (Q before) e in
            let mine = here.one before l both.0 in
            let longer = length-append before mine.new in
            let is_size : length mine.new ≡ size_of a = mine.sized in
            let place : length (before ++ mine.new) ≡ length before + size_of a = omega arith in
            let enough : n ≤ length (before ++ mine.new) = omega arith in
            one-same before (size_of a + size_of b) (size_of (a ++ b)) (clauses_from (length before) a ++ clauses_from (length before + size_of a) b) (clauses_from (length before) (a ++ b)) (sym size_is)
            (sym (clauses_from-append (length before) a b))
            (one-then before (size_of a) (size_of b) (clauses_from (length before) a) (clauses_from (length before + size_of a) b) (here.within (length before) l) mine
            (subst (λ k. HasOne (before ++ mine.new) (size_of b) (clauses_from k b)) place (rest.one (before ++ mine.new) enough (rest.rests before mine.new l ∙ both.1))));
      } where
        both_below : (bound : ℕ) (x y : List (List Lit)) → AreBelow bound x → AreBelow bound y → AreBelow bound (x ++ y)
        both_below bound x y p q = All-append (All (IsBelow bound)) x y p q
