-- The clauses of a part are about the features, the variables before it and its own.
use Rattle.std.proofs.Common.{sym, subst, ℕ, ◌+◌, ◌<◌, ◌≤◌, List, [], ◌∷◌, ◌++◌, map, All, arith}
use Rattle.std.proofs.lemmas.List.Elements.{All-nil, All-cons, All-head, All-tail, All-append, All-weaker, All-map}
use Rattle.clauses.specs.declared.literal.Lit.{Lit}
use Rattle.clauses.specs.Clause.{negation, positive_of}
use Rattle.clauses.specs.Problem.{IsBelow}
use Rattle.feature_tree.specs.declared.formula.Formula.{Formula}
use Rattle.feature_tree.specs.declared.formula.Formula.TheVariants.{rolls-Name, rolls-Not, rolls-All, rolls-Any, rolls-Implies, rolls-Same}
use Rattle.feature_tree.specs.declared.formula.Formula.TheOpen as node
use Rattle.feature_tree.specs.declared.formula.Formula.TheOpen.{Formula-F}
use Rattle.feature_tree.specs.declared.formula.Formula.TheViews.{roll-Formula}
use Rattle.feature_tree.specs.declared.formula.Formula.TheFolds.{ind-Formula, map-Formula}
use Rattle.feature_tree.specs.Names.{NamesBelow}
use Rattle.feature_tree.proofs.Formulas.{NamesBelow-Name, NamesBelow-Not, NamesBelow-All, NamesBelow-Any, NamesBelow-Implies, NamesBelow-Same}
use Rattle.clause_form.specs.Parts.{Part, size, clauses, bare, size_of, clauses_from}
use Rattle.clause_form.specs.Gates.{Gates, gates, literal, literals_from, wire, negated, gate_over, gate_over_two, all_clauses, any_clauses, implies_clauses, same_clauses, gates_of}
use Rattle.clause_form.proofs.GatesLaws.{gates_of-Name, gates_of-Not, gates_of-All, gates_of-Any, gates_of-Implies, gates_of-Same}

abbrev pub AreBelow : ℕ → List (List Lit) → Type 0
AreBelow bound these = All (All (IsBelow bound)) these

pub below-more : (a b : ℕ) (literals : List Lit) → a ≤ b → All (IsBelow a) literals → All (IsBelow b) literals
below-more a b literals l below = All-weaker (IsBelow a) (IsBelow b) (λ one less. omega arith) literals below

pub are-below-more : (a b : ℕ) (these : List (List Lit)) → a ≤ b → AreBelow a these → AreBelow b these
are-below-more a b these l below = All-weaker (All (IsBelow a)) (All (IsBelow b)) (λ clause each. below-more a b clause l each) these below

-- ---- clauses of one gate

module _ (bound : ℕ) where
  abbrev In : Lit → Type 0
  In = IsBelow bound

  pub one-in : (a : Lit) → IsBelow bound a → All (IsBelow bound) (a ∷ [])
  one-in a x = All-cons In a [] x (All-nil In)

  pub two-in : (a b : Lit) → IsBelow bound a → IsBelow bound b → All (IsBelow bound) (a ∷ b ∷ [])
  two-in a b x y = All-cons In a (b ∷ []) x (one-in b y)

  pub three-in : (a b c : Lit) → IsBelow bound a → IsBelow bound b → IsBelow bound c → All (IsBelow bound) (a ∷ b ∷ c ∷ [])
  three-in a b c x y z = All-cons In a (b ∷ c ∷ []) x (two-in b c y z)

  pub negations-in : (literals : List Lit) → All (IsBelow bound) literals → All (IsBelow bound) (map negation literals)
  negations-in literals each = All-map In negation literals (All-weaker In (λ one. IsBelow bound (negation one)) (λ one l. l) literals each)

  pub pairs-in : (a : Lit) (f : Lit → Lit) (literals : List Lit) → IsBelow bound a → ((one : Lit) → IsBelow bound one → IsBelow bound (f one)) → All (IsBelow bound) literals
      → AreBelow bound (map (λ one. a ∷ f one ∷ []) literals)
  pairs-in a f literals x keeps each =
      All-map (All In) (λ one. a ∷ f one ∷ []) literals (All-weaker In (λ one. All In (a ∷ f one ∷ [])) (λ one l. two-in a (f one) x (keeps one l)) literals each)

  pub last-in : (these : List (List Lit)) (clause : List Lit) → AreBelow bound these → All (IsBelow bound) clause → AreBelow bound (these ++ clause ∷ [])
  last-in these clause each last = All-append (All In) these (clause ∷ []) each (All-cons (All In) clause [] last (All-nil (All In)))

  pub all_clauses-in : (g : Lit) (literals : List Lit) → IsBelow bound g → All (IsBelow bound) literals → AreBelow bound (all_clauses g literals)
  all_clauses-in g literals x each =
      last-in (map (λ one. negation g ∷ one ∷ []) literals) (g ∷ map negation literals) (pairs-in (negation g) (λ one. one) literals x (λ one l. l) each) (All-cons In g (map negation literals) x (negations-in literals each))

  pub any_clauses-in : (g : Lit) (literals : List Lit) → IsBelow bound g → All (IsBelow bound) literals → AreBelow bound (any_clauses g literals)
  any_clauses-in g literals x each =
      last-in (map (λ one. g ∷ negation one ∷ []) literals) (negation g ∷ literals) (pairs-in g negation literals x (λ one l. l) each) (All-cons In (negation g) literals x each)

  pub implies_clauses-in : (g a b : Lit) → IsBelow bound g → IsBelow bound a → IsBelow bound b → AreBelow bound (implies_clauses g a b)
  implies_clauses-in g a b x y z = any_clauses-in g (negation a ∷ b ∷ []) x (two-in (negation a) b y z)

  pub same_clauses-in : (g a b : Lit) → IsBelow bound g → IsBelow bound a → IsBelow bound b → AreBelow bound (same_clauses g a b)
  same_clauses-in g a b x y z =
      let first : List Lit = negation g ∷ negation a ∷ b ∷ [] in
      let second : List Lit = negation g ∷ a ∷ negation b ∷ [] in
      let third : List Lit = g ∷ a ∷ b ∷ [] in
      let fourth : List Lit = g ∷ negation a ∷ negation b ∷ [] in
      All-cons (All In) first (second ∷ third ∷ fourth ∷ []) (three-in (negation g) (negation a) b x y z)
      (All-cons (All In) second (third ∷ fourth ∷ []) (three-in (negation g) a (negation b) x y z)
      (All-cons (All In) third (fourth ∷ []) (three-in g a b x y z)
      (All-cons (All In) fourth [] (three-in g (negation a) (negation b) x y z) (All-nil (All In)))))

-- ---- parts over so many features

module _ (n : ℕ) where
  abbrev pub IsWithin : Part → Type 0
  IsWithin part = (first : ℕ) → n ≤ first → AreBelow (first + size part) (clauses part first)

  pub bare-within : (these : List (List Lit)) → AreBelow n these → IsWithin (bare these)
  bare-within these below = λ first l. are-below-more n (first + 0) these (omega arith) below

  abbrev pub AreWithin : List Part → Type 0
  AreWithin parts = (first : ℕ) → n ≤ first → AreBelow (first + size_of parts) (clauses_from first parts)

  pub none-within : AreWithin []
  none-within = λ first l. All-nil (All (IsBelow (first + 0)))

  pub more-within : (part : Part) (parts : List Part) → IsWithin part → AreWithin parts → AreWithin (part ∷ parts)
  more-within part parts here rest =
      λ first l.
      All-append (All (IsBelow (first + (size part + size_of parts)))) (clauses part first) (clauses_from (first + size part) parts)
      (are-below-more (first + size part) (first + (size part + size_of parts)) (clauses part first) (omega arith) (here first l))
      (are-below-more ((first + size part) + size_of parts) (first + (size part + size_of parts)) (clauses_from (first + size part) parts) (omega arith) (rest (first + size part) (omega arith)))

  pub all-within : (parts : List Part) → All IsWithin parts → AreWithin parts
  all-within [] each = none-within
  all-within (part ∷ parts) each = more-within part parts (All-head IsWithin part parts each) (all-within parts (All-tail IsWithin part parts each))

  -- ---- gates

  pub record AreGates (one : Gates) : Type 0 where
    pub within : IsWithin (gates one)
    pub literal_below : (first : ℕ) → n ≤ first → IsBelow (first + size (gates one)) (literal one first)

  pub record AreMembers (members : List Gates) : Type 0 where
    pub within : AreWithin (map gates members)
    pub literals_below : (first : ℕ) → n ≤ first → All (IsBelow (first + size_of (map gates members))) (literals_from first members)

  pub no-members : AreMembers []
  no-members = record { within = none-within; literals_below = λ first l. All-nil (IsBelow (first + 0)) }

  pub more-members : (one : Gates) (members : List Gates) → AreGates one → AreMembers members → AreMembers (one ∷ members)
  more-members one members here rest = record {
    within = more-within (gates one) (map gates members) here.within rest.within;
    literals_below =
        λ first l.
        let bound = first + (size (gates one) + size_of (map gates members)) in
        let mine = here.literal_below first l in
        All-cons (IsBelow bound) (literal one first) (literals_from (first + size (gates one)) members) (omega arith)
        (below-more ((first + size (gates one)) + size_of (map gates members)) bound (literals_from (first + size (gates one)) members) (omega arith) (rest.literals_below (first + size (gates one)) (omega arith)));
  }

  pub wire-gates : (name : ℕ) → name < n → AreGates (wire (positive_of name))
  wire-gates name l = record { within = bare-within [] (All-nil (All (IsBelow n))); literal_below = λ first m. omega arith }

  pub negated-gates : (one : Gates) → AreGates one → AreGates (negated one)
  negated-gates one here = record { within = here.within; literal_below = here.literal_below }

  pub over-gates :
      (make : Lit → List Lit → List (List Lit)) (members : List Gates)
      → ((bound : ℕ) (g : Lit) (literals : List Lit) → IsBelow bound g → All (IsBelow bound) literals → AreBelow bound (make g literals))
      → AreMembers members → AreGates (gate_over make members)
  over-gates make members made each = record {
    within =
        λ first l.
        let before = size_of (map gates members) in
        let bound = first + (before + 1) in
        All-append (All (IsBelow bound)) (clauses_from first (map gates members)) (make (positive_of (first + before)) (literals_from first members))
        (are-below-more (first + before) bound (clauses_from first (map gates members)) (omega arith) (each.within first l))
        (made bound (positive_of (first + before)) (literals_from first members) (omega arith) (below-more (first + before) bound (literals_from first members) (omega arith) (each.literals_below first l)));
    literal_below = λ first l. omega arith;
  }

  pub over_two-gates :
      (make : Lit → Lit → Lit → List (List Lit)) (left right : Gates)
      → ((bound : ℕ) (g a b : Lit) → IsBelow bound g → IsBelow bound a → IsBelow bound b → AreBelow bound (make g a b))
      → AreGates left → AreGates right → AreGates (gate_over_two make left right)
  over_two-gates make left right made l r = record {
    within =
        λ first low.
        let before = size (gates left) + size (gates right) in
        let second = first + size (gates left) in
        let bound = first + (before + 1) in
        let a = l.literal_below first low in
        let b = r.literal_below second (omega arith) in
        All-append (All (IsBelow bound)) (clauses (gates left) first ++ clauses (gates right) second) (make (positive_of (first + before)) (literal left first) (literal right second))
        (All-append (All (IsBelow bound)) (clauses (gates left) first) (clauses (gates right) second)
        (are-below-more (first + size (gates left)) bound (clauses (gates left) first) (omega arith) (l.within first low))
        (are-below-more (second + size (gates right)) bound (clauses (gates right) second) (omega arith) (r.within second (omega arith))))
        (made bound (positive_of (first + before)) (literal left first) (literal right second) (omega arith) (omega arith) (omega arith));
    literal_below = λ first low. omega arith;
  }

  abbrev Fits : Formula → Type 0
  Fits formula = NamesBelow n formula → AreGates (gates_of formula)

  fit-members : (parts : List ((formula : Formula) × Fits formula)) → All (NamesBelow n) (map (λ part. part.0) parts) → AreMembers (map gates_of (map (λ part. part.0) parts))
  fit-members [] all = no-members
  fit-members (part ∷ parts) all =
      more-members (gates_of part.0) (map gates_of (map (λ p. p.0) parts))
      (part.1 (All-head (NamesBelow n) part.0 (map (λ p. p.0) parts) all))
      (fit-members parts (All-tail (NamesBelow n) part.0 (map (λ p. p.0) parts) all))

  fits_at_node : (y : Formula-F ((formula : Formula) × Fits formula)) → Fits (roll-Formula (map-Formula ((formula : Formula) × Fits formula) Formula (λ e. e.0) y))
  fits_at_node (node.Name name) = subst Fits (sym (rolls-Name name)) (λ named. subst AreGates (sym (gates_of-Name name)) (wire-gates name (NamesBelow-Name n name named)))
  fits_at_node (node.Not part) =
      subst Fits (sym (rolls-Not part.0)) (λ named. subst AreGates (sym (gates_of-Not part.0)) (negated-gates (gates_of part.0) (part.1 (NamesBelow-Not n part.0 named))))
  fits_at_node (node.All parts) =
      let formulas : List Formula = map (λ part. part.0) parts in
      subst Fits (sym (rolls-All formulas)) (λ named. subst AreGates (sym (gates_of-All formulas)) (over-gates all_clauses (map gates_of formulas) all_clauses-in (fit-members parts (NamesBelow-All n formulas named))))
  fits_at_node (node.Any parts) =
      let formulas : List Formula = map (λ part. part.0) parts in
      subst Fits (sym (rolls-Any formulas)) (λ named. subst AreGates (sym (gates_of-Any formulas)) (over-gates any_clauses (map gates_of formulas) any_clauses-in (fit-members parts (NamesBelow-Any n formulas named))))
  fits_at_node (node.Implies left right) =
      subst Fits (sym (rolls-Implies left.0 right.0))
      (λ named.
      let both = NamesBelow-Implies n left.0 right.0 named in
      subst AreGates (sym (gates_of-Implies left.0 right.0)) (over_two-gates implies_clauses (gates_of left.0) (gates_of right.0) implies_clauses-in (left.1 both.0) (right.1 both.1)))
  fits_at_node (node.Same left right) =
      subst Fits (sym (rolls-Same left.0 right.0))
      (λ named.
      let both = NamesBelow-Same n left.0 right.0 named in
      subst AreGates (sym (gates_of-Same left.0 right.0)) (over_two-gates same_clauses (gates_of left.0) (gates_of right.0) same_clauses-in (left.1 both.0) (right.1 both.1)))

  pub formula-gates : (formula : Formula) → NamesBelow n formula → AreGates (gates_of formula)
  formula-gates = ind-Formula Fits (λ x y is. subst (λ z. Fits (roll-Formula z)) is (fits_at_node y))

  pub formulas-gates : (formulas : List Formula) → All (NamesBelow n) formulas → AreMembers (map gates_of formulas)
  formulas-gates [] each = no-members
  formulas-gates (formula ∷ formulas) each =
      more-members (gates_of formula) (map gates_of formulas) (formula-gates formula (All-head (NamesBelow n) formula formulas each)) (formulas-gates formulas (All-tail (NamesBelow n) formula formulas each))
