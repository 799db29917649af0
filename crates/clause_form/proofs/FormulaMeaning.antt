-- What the gates of a formula mean: its literal is true exactly where the formula is, and the gates leave the features free.
use Rattle.std.proofs.Common.{◌≡◌, ◌∙◌, refl, ap, sym, subst, ℕ, ◌+◌, ◌<◌, ◌≤◌, Bool, true, false, cond, not, ◌&&◌, ◌||◌, List, [], ◌∷◌, ◌++◌, map, length, All, arith}
use Rattle.std.specs.List.{list_all, list_any}
use Rattle.std.proofs.lemmas.Option.{unwrap_or-slice_get}
use Rattle.std.proofs.lemmas.List.{length-append, get_or_append_left}
use Rattle.std.proofs.lemmas.List.Elements.{All-nil, All-head, All-tail, All-append, All-weaker}
use Rattle.std.proofs.lemmas.List.Folds.{list_all-map}
use Rattle.lists.proofs.Appends.{list_any-map}
use Rattle.clauses.specs.declared.literal.Lit.{Lit}
use Rattle.clauses.specs.Clause.{is_true_in, are_satisfied, positive_of, unit_of}
use Rattle.clauses.specs.Problem.{IsBelow}
use Rattle.feature_tree.specs.declared.formula.Formula.{Formula}
use Rattle.feature_tree.specs.declared.formula.Formula.TheVariants.{Name, Not, All as AllOf, Any as AnyOf, Implies, Same, rolls-Name, rolls-Not, rolls-All, rolls-Any, rolls-Implies, rolls-Same}
use Rattle.feature_tree.specs.declared.formula.Formula.TheOpen as node
use Rattle.feature_tree.specs.declared.formula.Formula.TheOpen.{Formula-F}
use Rattle.feature_tree.specs.declared.formula.Formula.TheViews.{roll-Formula}
use Rattle.feature_tree.specs.declared.formula.Formula.TheFolds.{ind-Formula, map-Formula}
use Rattle.feature_tree.specs.Names.{names, NamesBelow}
use Rattle.feature_tree.specs.Truth.{is_in, agree, truth}
use Rattle.feature_tree.proofs.Formulas.{truth-Name, truth-Not, truth-All, truth-Any, truth-Implies, truth-Same, truth_of_names, NamesBelow-Name, NamesBelow-Not, NamesBelow-All, NamesBelow-Any, NamesBelow-Implies, NamesBelow-Same}
use Rattle.clause_form.specs.Parts.{size, clauses, size_of, clauses_from}
use Rattle.clause_form.specs.Gates.{Gates, gates, literal, literals_from, wire, negated, gate_over, gate_over_two, all_clauses, any_clauses, implies_clauses, same_clauses, gates_of}
use Rattle.clause_form.specs.ClauseForm.{asserted}
use Rattle.clause_form.proofs.GatesLaws.{gates_of-Name, gates_of-Not, gates_of-All, gates_of-Any, gates_of-Implies, gates_of-Same}
use Rattle.clause_form.proofs.Below.{AreBelow, are-below-more, AreGates, AreMembers, no-members, more-members, wire-gates, negated-gates, over-gates, over_two-gates, all_clauses-in, any_clauses-in, implies_clauses-in, same_clauses-in}
use Rattle.clause_form.proofs.Extensions.{AreTrue, HasOne, true-parts, one-then, one-gate, one-also}
use Rattle.clause_form.proofs.Meaning.{joined, Means, Rests, means-bare, means-none, means-more}
use Rattle.clause_form.proofs.GatesMeaning.{negation-truth, literal-more, literals-more, next-value, all-truth, any-truth, implies-truth, same-truth, gate-fixed, gate-holds}
use Rattle.clause_form.proofs.ProblemLaws.{asserted-within}

-- a gate that is true where m is, where m doesn't ask for it
gate-one :
    (before : List Bool) (these : List (List Lit)) (m : List Bool → Bool)
    → ((values : List Bool) → are_satisfied values these ≡ cond (is_true_in values (positive_of (length before))) (m values) (not (m values)))
    → ((value : Bool) → m (before ++ value ∷ []) ≡ m before)
    → HasOne before 1 these
gate-one before these m says free =
    one-gate before these (m before)
    (says (before ++ m before ∷ [])
    ∙ ap (λ g. cond g (m (before ++ m before ∷ [])) (not (m (before ++ m before ∷ [])))) (next-value before (m before))
    ∙ ap (λ x. cond (m before) x (not x)) (free (m before))
    ∙ gate-holds [] (m before))
    (λ other e.
    sym (next-value before other)
    ∙ gate-fixed [] (is_true_in (before ++ other ∷ []) (positive_of (length before))) (m (before ++ other ∷ [])) (sym (says (before ++ other ∷ [])) ∙ e)
    ∙ free other)

pub unit-true : (values : List Bool) (one : Lit) → AreTrue values (unit_of one ∷ []) → is_true_in values one ≡ true
unit-true values one e = plain (is_true_in values one) e where
  plain : (b : Bool) → ((b || false) && true) ≡ true → b ≡ true
  plain true e = refl
  plain false e = e

pub true-unit : (values : List Bool) (one : Lit) → is_true_in values one ≡ true → AreTrue values (unit_of one ∷ [])
true-unit values one e = ap (λ b. (b || false) && true) e

module _ (n : ℕ) where
  pub record GatesMean (one : Gates) (t : List Bool → Bool) : Type 0 where
    pub are : AreGates n one
    pub part : Means n (gates one) (λ values. true)
    pub says : (first : ℕ) → n ≤ first → (values : List Bool) → AreTrue values (clauses (gates one) first) → is_true_in values (literal one first) ≡ t values

  pub record MembersMean (members : List Gates) (ts : List Bool → List Bool) : Type 0 where
    pub are : AreMembers n members
    pub parts : Means n (joined (map gates members)) (λ values. true)
    pub says : (first : ℕ) → n ≤ first → (values : List Bool) → AreTrue values (clauses_from first (map gates members)) → map (is_true_in values) (literals_from first members) ≡ ts values

  pub no-members-mean : MembersMean [] (λ values. [])
  no-members-mean = record { are = no-members n; parts = means-none n; says = λ first l values e. refl }

  pub more-members-mean : (one : Gates) (members : List Gates) (t : List Bool → Bool) (ts : List Bool → List Bool) → GatesMean one t → MembersMean members ts → MembersMean (one ∷ members) (λ values. t values ∷ ts values)
  more-members-mean one members t ts here rest = record {
    are = more-members n one members here.are rest.are;
    parts = means-more n (gates one) (map gates members) (λ values. true) (λ values. true) here.part rest.parts;
    says = λ first l values e.
        let both = true-parts values (clauses (gates one) first) (clauses_from (first + size (gates one)) (map gates members)) e in
        ap (λ b. b ∷ map (is_true_in values) (literals_from (first + size (gates one)) members)) (here.says first l values both.0)
        ∙ ap (λ bs. t values ∷ bs) (rest.says (first + size (gates one)) (omega arith) values both.1);
  }

  wire-mean : (name : ℕ) → name < n → GatesMean (wire (positive_of name)) (λ values. is_true_in values (positive_of name))
  wire-mean name l = record { are = wire-gates n name l; part = means-bare n [] (All-nil (All (IsBelow n))); says = λ first m values e. refl }

  negated-mean : (one : Gates) (t : List Bool → Bool) → GatesMean one t → GatesMean (negated one) (λ values. not (t values))
  negated-mean one t here = record {
    are = negated-gates n one here.are;
    part = here.part;
    says = λ first l values e. negation-truth values (literal one first) ∙ ap not (here.says first l values e);
  }

  over-mean :
      (make : Lit → List Lit → List (List Lit)) (h : List Bool → Bool) (members : List Gates) (ts : List Bool → List Bool)
      → ((bound : ℕ) (g : Lit) (literals : List Lit) → IsBelow bound g → All (IsBelow bound) literals → AreBelow bound (make g literals))
      → ((values : List Bool) (g : Lit) (literals : List Lit) → are_satisfied values (make g literals) ≡ cond (is_true_in values g) (h (map (is_true_in values) literals)) (not (h (map (is_true_in values) literals))))
      → MembersMean members ts → GatesMean (gate_over make members) (λ values. h (ts values))
  over-mean make h members ts made truths each =
      let are = over-gates n make members made each.are in record {
        are = are;
        part = record {
          within = are.within;
          rests = λ values more l. refl;
          says = λ first l values e. refl;
          one = λ before l e.
              let count = size_of (map gates members) in
              let mine = each.parts.one before l refl in
              let longer = before ++ mine.new in
              let whole = length-append before mine.new in
              let mine_size : length mine.new ≡ size_of (map gates members) = mine.sized in
              let place : length (before ++ mine.new) ≡ length before + size_of (map gates members) = omega arith in
              let literals = literals_from (length before) members in
              let below : All (IsBelow (length longer)) literals = subst (λ k. All (IsBelow k) literals) (sym place) (each.are.literals_below (length before) l) in
              one-then before count 1 (clauses_from (length before) (map gates members)) (make (positive_of (length before + count)) literals) (each.parts.within (length before) l) mine
              (subst (λ k. HasOne longer 1 (make (positive_of k) literals)) place
              (gate-one longer (make (positive_of (length longer)) literals) (λ values. h (map (is_true_in values) literals)) (λ values. truths values (positive_of (length longer)) literals)
              (λ value. ap h (literals-more longer (value ∷ []) literals below))));
        };
        says = λ first l values e.
            let count = size_of (map gates members) in
            let literals = literals_from first members in
            let both = true-parts values (clauses_from first (map gates members)) (make (positive_of (first + count)) literals) e in
            gate-fixed [] (is_true_in values (positive_of (first + count))) (h (map (is_true_in values) literals)) (sym (truths values (positive_of (first + count)) literals) ∙ both.1)
            ∙ ap h (each.says first l values both.0);
      }

  over_two-mean :
      (make : Lit → Lit → Lit → List (List Lit)) (h : Bool → Bool → Bool) (left right : Gates) (t u : List Bool → Bool)
      → ((bound : ℕ) (g a b : Lit) → IsBelow bound g → IsBelow bound a → IsBelow bound b → AreBelow bound (make g a b))
      → ((values : List Bool) (g a b : Lit) → are_satisfied values (make g a b) ≡ cond (is_true_in values g) (h (is_true_in values a) (is_true_in values b)) (not (h (is_true_in values a) (is_true_in values b))))
      → GatesMean left t → GatesMean right u → GatesMean (gate_over_two make left right) (λ values. h (t values) (u values))
  over_two-mean make h left right t u made truths l r =
      let are = over_two-gates n make left right made l.are r.are in record {
        are = are;
        part = record {
          within = are.within;
          rests = λ values more low. refl;
          says = λ first low values e. refl;
          one = λ before low e.
              let first = length before in
              let second = length before + size (gates left) in
              let third = length before + (size (gates left) + size (gates right)) in
              let a = literal left (length before) in
              let b = literal right (length before + size (gates left)) in
              let one = l.part.one before low refl in
              let one_whole = length-append before one.new in
              let one_size : length one.new ≡ size (gates left) = one.sized in
              let one_place : length (before ++ one.new) ≡ length before + size (gates left) = omega arith in
              let two = r.part.one (before ++ one.new) (omega arith) refl in
              let two_there : HasOne (before ++ one.new) (size (gates right)) (clauses (gates right) second) = subst (λ k. HasOne (before ++ one.new) (size (gates right)) (clauses (gates right) k)) one_place two in
              let mine = one-then before (size (gates left)) (size (gates right)) (clauses (gates left) first) (clauses (gates right) second) (l.part.within first low) one two_there in
              let longer = before ++ mine.new in
              let whole = length-append before mine.new in
              let mine_size : length mine.new ≡ size (gates left) + size (gates right) = mine.sized in
              let place : length (before ++ mine.new) ≡ length before + (size (gates left) + size (gates right)) = omega arith in
              let a_low = l.are.literal_below (length before) low in
              let b_low = r.are.literal_below (length before + size (gates left)) (omega arith) in
              let a_below : IsBelow (length (before ++ mine.new)) a = omega arith in
              let b_below : IsBelow (length (before ++ mine.new)) b = omega arith in
              let bound = length before + (size (gates left) + size (gates right)) in
              one-then before (size (gates left) + size (gates right)) 1 (clauses (gates left) first ++ clauses (gates right) second) (make (positive_of third) a b)
              (All-append (All (IsBelow bound)) (clauses (gates left) first) (clauses (gates right) second)
              (are-below-more (first + size (gates left)) bound (clauses (gates left) first) (omega arith) (l.part.within first low))
              (are-below-more (second + size (gates right)) bound (clauses (gates right) second) (omega arith) (r.part.within second (omega arith))))
              mine
              (subst (λ k. HasOne longer 1 (make (positive_of k) a b)) place
              (gate-one longer (make (positive_of (length longer)) a b) (λ values. h (is_true_in values a) (is_true_in values b)) (λ values. truths values (positive_of (length longer)) a b)
              (λ value. ap (λ x. h x (is_true_in (longer ++ value ∷ []) b)) (literal-more longer (value ∷ []) a a_below) ∙ ap (λ y. h (is_true_in longer a) y) (literal-more longer (value ∷ []) b b_below))));
        };
        says = λ first low values e.
            let second = first + size (gates left) in
            let third = first + (size (gates left) + size (gates right)) in
            let outer = true-parts values (clauses (gates left) first ++ clauses (gates right) second) (make (positive_of third) (literal left first) (literal right second)) e in
            let both = true-parts values (clauses (gates left) first) (clauses (gates right) second) outer.0 in
            gate-fixed [] (is_true_in values (positive_of third)) (h (is_true_in values (literal left first)) (is_true_in values (literal right second))) (sym (truths values (positive_of third) (literal left first) (literal right second)) ∙ outer.1)
            ∙ ap (λ x. h x (is_true_in values (literal right second))) (l.says first low values both.0)
            ∙ ap (λ y. h (t values) y) (r.says second (omega arith) values both.1);
      }

  mean-same : (one : Gates) (t u : List Bool → Bool) → ((values : List Bool) → t values ≡ u values) → GatesMean one t → GatesMean one u
  mean-same one t u same here = record { are = here.are; part = here.part; says = λ first l values e. here.says first l values e ∙ same values }

  -- ---- formulas

  pub truth-rests : (formula : Formula) → NamesBelow n formula → Rests n (λ values. truth values formula)
  truth-rests formula named = λ values more l.
      truth_of_names (values ++ more) values formula
      (All-weaker (λ name. name < n) (λ name. is_in (values ++ more) name ≡ is_in values name) (λ name less.
      unwrap_or-slice_get (values ++ more) name false ∙ get_or_append_left values more false name (omega arith) ∙ sym (unwrap_or-slice_get values name false)) (names formula) named)

  abbrev Fits : Formula → Type 0
  Fits formula = NamesBelow n formula → GatesMean (gates_of formula) (λ values. truth values formula)

  fit-members : (parts : List ((formula : Formula) × Fits formula)) → All (NamesBelow n) (map (λ part. part.0) parts)
      → MembersMean (map gates_of (map (λ part. part.0) parts)) (λ values. map (truth values) (map (λ part. part.0) parts))
  fit-members [] all = no-members-mean
  fit-members (part ∷ parts) all =
      more-members-mean (gates_of part.0) (map gates_of (map (λ p. p.0) parts)) (λ values. truth values part.0) (λ values. map (truth values) (map (λ p. p.0) parts))
      (part.1 (All-head (NamesBelow n) part.0 (map (λ p. p.0) parts) all))
      (fit-members parts (All-tail (NamesBelow n) part.0 (map (λ p. p.0) parts) all))

  -- the gates of a node, by the equation of its kind
  by-kind : (formula : Formula) (made : Gates) (t : List Bool → Bool) → gates_of formula ≡ made → ((values : List Bool) → t values ≡ truth values formula) → GatesMean made t
      → GatesMean (gates_of formula) (λ values. truth values formula)
  by-kind formula made t is same here = subst (λ g. GatesMean g (λ values. truth values formula)) (sym is) (mean-same made t (λ values. truth values formula) same here)

  fits_at_node : (y : Formula-F ((formula : Formula) × Fits formula)) → Fits (roll-Formula (map-Formula ((formula : Formula) × Fits formula) Formula (λ e. e.0) y))
  fits_at_node (node.Name name) =
      subst Fits (sym (rolls-Name name))
      (λ named. by-kind (Name name) (wire (positive_of name)) (λ values. is_true_in values (positive_of name)) (gates_of-Name name)
      (λ values. sym (unwrap_or-slice_get values name false) ∙ sym (truth-Name values name)) (wire-mean name (NamesBelow-Name n name named)))
  fits_at_node (node.Not part) =
      subst Fits (sym (rolls-Not part.0))
      (λ named. by-kind (Not part.0) (negated (gates_of part.0)) (λ values. not (truth values part.0)) (gates_of-Not part.0) (λ values. sym (truth-Not values part.0))
      (negated-mean (gates_of part.0) (λ values. truth values part.0) (part.1 (NamesBelow-Not n part.0 named))))
  fits_at_node (node.All parts) =
      let formulas : List Formula = map (λ part. part.0) parts in
      subst Fits (sym (rolls-All formulas))
      (λ named. by-kind (AllOf formulas) (gate_over all_clauses (map gates_of formulas)) (λ values. list_all (λ b. b) (map (truth values) formulas)) (gates_of-All formulas)
      (λ values. list_all-map (λ b. b) (truth values) formulas ∙ sym (truth-All values formulas))
      (over-mean all_clauses (λ bs. list_all (λ b. b) bs) (map gates_of formulas) (λ values. map (truth values) formulas) all_clauses-in
      (λ values g literals. all-truth values g literals ∙ ap (λ m. cond (is_true_in values g) m (not m)) (sym (list_all-map (λ b. b) (is_true_in values) literals)))
      (fit-members parts (NamesBelow-All n formulas named))))
  fits_at_node (node.Any parts) =
      let formulas : List Formula = map (λ part. part.0) parts in
      subst Fits (sym (rolls-Any formulas))
      (λ named. by-kind (AnyOf formulas) (gate_over any_clauses (map gates_of formulas)) (λ values. list_any (λ b. b) (map (truth values) formulas)) (gates_of-Any formulas)
      (λ values. list_any-map (truth values) (λ b. b) formulas ∙ sym (truth-Any values formulas))
      (over-mean any_clauses (λ bs. list_any (λ b. b) bs) (map gates_of formulas) (λ values. map (truth values) formulas) any_clauses-in
      (λ values g literals. any-truth values g literals ∙ ap (λ m. cond (is_true_in values g) m (not m)) (sym (list_any-map (is_true_in values) (λ b. b) literals)))
      (fit-members parts (NamesBelow-Any n formulas named))))
  fits_at_node (node.Implies left right) =
      subst Fits (sym (rolls-Implies left.0 right.0))
      (λ named.
      let both = NamesBelow-Implies n left.0 right.0 named in
      by-kind (Implies left.0 right.0) (gate_over_two implies_clauses (gates_of left.0) (gates_of right.0)) (λ values. not (truth values left.0) || truth values right.0) (gates_of-Implies left.0 right.0)
      (λ values. sym (truth-Implies values left.0 right.0))
      (over_two-mean implies_clauses (λ a b. not a || b) (gates_of left.0) (gates_of right.0) (λ values. truth values left.0) (λ values. truth values right.0) implies_clauses-in implies-truth (left.1 both.0) (right.1 both.1)))
  fits_at_node (node.Same left right) =
      subst Fits (sym (rolls-Same left.0 right.0))
      (λ named.
      let both = NamesBelow-Same n left.0 right.0 named in
      by-kind (Same left.0 right.0) (gate_over_two same_clauses (gates_of left.0) (gates_of right.0)) (λ values. agree (truth values left.0) (truth values right.0)) (gates_of-Same left.0 right.0)
      (λ values. sym (truth-Same values left.0 right.0))
      (over_two-mean same_clauses agree (gates_of left.0) (gates_of right.0) (λ values. truth values left.0) (λ values. truth values right.0) same_clauses-in same-truth (left.1 both.0) (right.1 both.1)))

  pub formula-means : (formula : Formula) → NamesBelow n formula → GatesMean (gates_of formula) (λ values. truth values formula)
  formula-means = ind-Formula Fits (λ x y is. subst (λ z. Fits (roll-Formula z)) is (fits_at_node y))

  -- an asserted formula allows the values that make it true
  pub asserted-means : (formula : Formula) → NamesBelow n formula → Means n (asserted formula) (λ values. truth values formula)
  asserted-means formula named =
      let made = formula-means formula named in record {
        within = asserted-within n formula named;
        rests = truth-rests formula named;
        says = λ first l values e.
            let both = true-parts values (clauses (gates (gates_of formula)) first) (unit_of (literal (gates_of formula) first) ∷ []) e in
            sym (made.says first l values both.0) ∙ unit-true values (literal (gates_of formula) first) both.1;
        one = λ before l e.
            let mine = made.part.one before l refl in
            one-also before (size (gates (gates_of formula))) (clauses (gates (gates_of formula)) (length before)) (unit_of (literal (gates_of formula) (length before)) ∷ []) mine
            (true-unit (before ++ mine.new) (literal (gates_of formula) (length before)) (made.says (length before) l (before ++ mine.new) mine.true_there ∙ truth-rests formula named before mine.new l ∙ e));
      }
