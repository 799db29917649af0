-- What a group's clauses mean: where its parent is there, it has as many children as the group asks.
use Rattle.std.proofs.Common.{◌≡◌, ◌∙◌, refl, ap, sym, ⊎_elim, ℕ, zero, suc, ◌+◌, ◌<◌, ◌≤◌, leb, Bool, true, false, cond, not, ◌&&◌, ◌||◌, List, [], ◌∷◌, ◌++◌, map, length, All, Option, Some, None, arith}
use Rattle.std.specs.Prelude.{count_by, nat_le, ◌==◌}
use Rattle.std.specs.List.{list_all, list_any}
use Rattle.std.specs.Option.{option_map_or}
use Rattle.std.proofs.lemmas.Bool.{cases_lt, le-leb, lt-leb, eq-eqb, eqb-true, false_from_ne_true}
use Rattle.std.proofs.Math.Dec.{eqb-suc-suc}
use Rattle.std.proofs.lemmas.Option.{unwrap_or-slice_get, slice_get_past}
use Rattle.std.proofs.lemmas.List.Elements.{All-nil, All-cons, All-head, All-tail, All-map}
use Rattle.std.proofs.lemmas.List.Folds.{list_all-append}
use Rattle.std.proofs.lemmas.List.Sums.{count_by-le-length, sum_by-append}
use Rattle.clauses.specs.declared.literal.Lit.{Lit}
use Rattle.clauses.specs.Clause.{is_true_in, is_satisfied, are_satisfied, negative_of, positive_of}
use Rattle.clauses.specs.Problem.{IsBelow}
use Rattle.count_gates.specs.Table.{Member, Always, Never, Is, opposite, or_never, at_least, row_literals, table_size, table_clauses, table_literals}
use Rattle.count_gates.proofs.Truths.{truth as member_truth, truth-clause}
use Rattle.count_gates.proofs.Counts.{right-none, right-all, count_by-first}
use Rattle.count_gates.proofs.Rows.{row-length}
use Rattle.count_gates.proofs.Extensions.{some-extension, only-extension}
use Rattle.feature_tree.specs.declared.group.Group.{Group}
use Rattle.feature_tree.specs.declared.group.GroupKind.{GroupKind}
use Rattle.feature_tree.specs.declared.group.GroupKind.TheVariants.{Mandatory, Optional, Or, Alternative, Range}
use Rattle.feature_tree.specs.Truth.{is_in}
use Rattle.feature_tree.specs.Product.{count_in, allows}
use Rattle.feature_tree.specs.Decided.{is_met}
use Rattle.clause_form.specs.Groups.{within, counted, under, bound_clauses, range_part, kind_part, group_part}
use Rattle.clause_form.proofs.Below.{below-more, pairs-in}
use Rattle.clause_form.proofs.Extensions.{AreTrue, HasOne, true-parts, one-also}
use Rattle.clause_form.proofs.GatesMeaning.{negation-truth, literal-more, pairs-truth}
use Rattle.clause_form.proofs.GroupsBelow.{range-within}
use Rattle.clause_form.proofs.Meaning.{Means, Rests, means-bare, means-same}

-- ---- counting

module _ (values : List Bool) where
  abbrev T : Lit → Bool
  T = is_true_in values

  member-opposite : (member : Member) → member_truth values (opposite member) ≡ not (member_truth values member)
  member-opposite Always = refl
  member-opposite Never = refl
  member-opposite (Is literal) = negation-truth values literal

  under-truth : (parent : ℕ) (member : Member) → are_satisfied values (under parent member) ≡ (not (is_true_in values (positive_of parent)) || member_truth values member)
  under-truth parent member = truth-clause values (Is (negative_of parent) ∷ member ∷ []) ∙ ap (λ b. not (T (positive_of parent)) || b) (or_false (member_truth values member)) where
    or_false : (x : Bool) → (x || false) ≡ x
    or_false true = refl
    or_false false = refl

  -- where a table's clauses are true, its members say that their counts are reached
  module _ (first upto : ℕ) (children : List Lit) (true_there : AreTrue values (table_clauses first upto children)) where
    reached : (j : ℕ) → j ≤ upto → member_truth values (at_least (table_literals first upto children) j) ≡ leb j (count_by (is_true_in values) children)
    reached j l =
        let plain : length children ≡ 0 + length children = omega arith in
        let same : 0 + count_by (is_true_in values) children ≡ count_by (is_true_in values) children = omega arith in
        ap (λ k. member_truth values (at_least (row_literals first upto k) j)) plain
        ∙ right-all values first upto 0 0 children (omega arith) (right-none values first upto) true_there j l
        ∙ ap (leb j) same

    -- also those that no number of children reaches
    pub says-count : (j : ℕ) → within (length children) j ≤ upto → member_truth values (at_least (table_literals first upto children) j) ≡ leb j (count_by (is_true_in values) children)
    says-count zero l = reached 0 (omega arith)
    says-count (suc j) l =
        ⊎_elim
        (λ (past : length children < suc j).
        let row = row-length first upto (length children) in
        let most = count_by-le-length (is_true_in values) children in
        let short : length (table_literals first upto children) ≤ j = omega arith in
        ap (λ o. member_truth values (or_never o)) (slice_get_past (table_literals first upto children) j short) ∙ sym (lt-leb (suc j) (count_by (is_true_in values) children) (omega arith)))
        (λ (fits : suc j ≤ length children).
        let is : within (length children) (suc j) ≡ suc j = ap (λ b. cond b (suc j) 0) (le-leb (suc j) (length children) fits) in
        reached (suc j) (omega arith))
        (cases_lt (length children) (suc j))

    high-truth : (parent : ℕ) (high : Option ℕ) → option_map_or (λ most. within (length children) (suc most)) high 0 ≤ upto
        → are_satisfied values (option_map_or (λ most. under parent (opposite (at_least (table_literals first upto children) (suc most)))) high [])
        ≡ (not (is_true_in values (positive_of parent)) || option_map_or (λ most. nat_le (count_by (is_true_in values) children) most) high true)
    high-truth parent None l = or_true (not (T (positive_of parent))) where
      or_true : (t : Bool) → true ≡ (t || true)
      or_true true = refl
      or_true false = refl
    high-truth parent (Some most) l =
        under-truth parent (opposite (at_least (table_literals first upto children) (suc most)))
        ∙ ap (λ b. not (T (positive_of parent)) || b) (member-opposite (at_least (table_literals first upto children) (suc most)) ∙ ap not (says-count (suc most) l) ∙ no-more most (count_by (is_true_in values) children)) where
          no-more : (most count : ℕ) → not (leb (suc most) count) ≡ leb count most
          no-more most count =
              ⊎_elim
              (λ (more : most < count). ap not (le-leb (suc most) count (omega arith)) ∙ sym (lt-leb count most more))
              (λ (few : count ≤ most). ap not (lt-leb (suc most) count (omega arith)) ∙ sym (le-leb count most few))
              (cases_lt most count)

    pub bounds-truth : (parent low : ℕ) (high : Option ℕ) → counted (length children) low high ≤ upto
        → are_satisfied values (bound_clauses parent (table_literals first upto children) low high)
        ≡ (not (is_true_in values (positive_of parent)) || (nat_le low (count_by (is_true_in values) children) && option_map_or (λ most. nat_le (count_by (is_true_in values) children) most) high true))
    bounds-truth parent low high l =
        let row = table_literals first upto children in
        let count = count_by (is_true_in values) children in
        list_all-append (is_satisfied values) (under parent (at_least row low)) (option_map_or (λ most. under parent (opposite (at_least row (suc most)))) high [])
        ∙ ap (λ b. b && are_satisfied values (option_map_or (λ most. under parent (opposite (at_least row (suc most)))) high [])) (under-truth parent (at_least row low) ∙ ap (λ b. not (T (positive_of parent)) || b) (says-count low (omega arith)))
        ∙ ap (λ b. (not (T (positive_of parent)) || leb low count) && b) (high-truth parent high (omega arith))
        ∙ both (not (T (positive_of parent))) (leb low count) (option_map_or (λ most. nat_le count most) high true) where
          both : (t a b : Bool) → ((t || a) && (t || b)) ≡ (t || (a && b))
          both true a b = refl
          both false a b = refl

-- ---- groups with bounds

module _ (n : ℕ) where
  abbrev InRange : ℕ → ℕ → Option ℕ → List Lit → List Bool → Bool
  InRange parent low high children values =
      not (is_true_in values (positive_of parent)) || (nat_le low (count_by (is_true_in values) children) && option_map_or (λ most. nat_le (count_by (is_true_in values) children) most) high true)

  count-more : (values more : List Bool) (children : List Lit) → All (IsBelow (length values)) children → count_by (is_true_in (values ++ more)) children ≡ count_by (is_true_in values) children
  count-more values more [] below = refl
  count-more values more (child ∷ children) below =
      count_by-first (is_true_in (values ++ more)) child children
      ∙ ap (λ b. cond b 1 0 + count_by (is_true_in (values ++ more)) children) (literal-more values more child (All-head (IsBelow (length values)) child children below))
      ∙ ap (λ k. cond (is_true_in values child) 1 0 + k) (count-more values more children (All-tail (IsBelow (length values)) child children below))
      ∙ sym (count_by-first (is_true_in values) child children)

  pub range-means : (parent low : ℕ) (high : Option ℕ) (children : List Lit) → parent < n → All (IsBelow n) children → Means n (range_part parent low high children) (InRange parent low high children)
  range-means parent low high children less below =
      let upto = counted (length children) low high in
      let rest : Rests n (InRange parent low high children) = λ values more l.
      ap (λ p. not p || (nat_le low (count_by (is_true_in (values ++ more)) children) && option_map_or (λ most. nat_le (count_by (is_true_in (values ++ more)) children) most) high true)) (literal-more values more (positive_of parent) (omega arith))
      ∙ ap (λ k. not (is_true_in values (positive_of parent)) || (nat_le low k && option_map_or (λ most. nat_le k most) high true)) (count-more values more children (below-more n (length values) children l below)) in record {
        within = range-within n parent low high children less below;
        rests = rest;
        says = λ first l values e.
            let both = true-parts values (table_clauses first upto children) (bound_clauses parent (table_literals first upto children) low high) e in
            sym (bounds-truth values first upto children both.0 parent low high (omega arith)) ∙ both.1;
        one = λ before l e.
            let first = length before in
            let there = below-more n (length before) children l below in
            let some = some-extension upto children before there in
            let mine : HasOne before (table_size (length children) upto) (table_clauses first upto children) = record {
              new = some.0;
              sized = some.1;
              true_there = some.2;
              only = λ other sized x. only-extension upto children before other some.0 there sized some.1 x some.2;
            } in
            one-also before (table_size (length children) upto) (table_clauses first upto children) (bound_clauses parent (table_literals first upto children) low high) mine
            (bounds-truth (before ++ some.0) first upto children some.2 parent low high (omega arith) ∙ rest before some.0 l ∙ e);
      }

-- ---- counts of members

count-first : {X : Type 0} (p : X → Bool) (x : X) (xs : List X) → count_by p (x ∷ xs) ≡ cond (p x) 1 0 + count_by p xs
count-first p x xs =
    let split = sum_by-append (λ y. cond (p y) 1 0) (x ∷ []) xs in
    let alone : 0 + cond (p x) 1 0 ≡ cond (p x) 1 0 = omega arith in
    split ∙ ap (λ k. k + count_by p xs) alone

-- all of them where as many as there are
all-counted : {X : Type 0} (p : X → Bool) (xs : List X) → list_all p xs ≡ (count_by p xs == length xs)
all-counted p [] = sym (eq-eqb 0 0 refl)
all-counted p (x ∷ xs) =
    ap (λ rest. p x && rest) (all-counted p xs)
    ∙ one-more (p x) (count_by p xs) (length xs) (count_by-le-length p xs)
    ∙ ap (λ k. k == suc (length xs)) (sym (count-first p x xs)) where
      one-more : (b : Bool) (count most : ℕ) → count ≤ most → (b && (count == most)) ≡ (cond b 1 0 + count == suc most)
      one-more true count most l =
          let plain : 1 + count ≡ suc count = omega arith in
          sym (eqb-suc-suc count most) ∙ ap (λ k. k == suc most) (sym plain)
      one-more false count most l = sym (false_from_ne_true (0 + count == suc most) (λ e. let same = eqb-true (0 + count) (suc most) e in absurd (omega arith)))

-- some of them where at least one
any-counted : {X : Type 0} (p : X → Bool) (xs : List X) → list_any p xs ≡ nat_le 1 (count_by p xs)
any-counted p [] = sym (lt-leb 1 0 (omega arith))
any-counted p (x ∷ xs) = ap (λ rest. p x || rest) (any-counted p xs) ∙ one-more (p x) (count_by p xs) ∙ ap (nat_le 1) (sym (count-first p x xs)) where
  one-more : (b : Bool) (count : ℕ) → (b || leb 1 count) ≡ leb 1 (cond b 1 0 + count)
  one-more true count = sym (le-leb 1 (1 + count) (omega arith))
  one-more false count = let plain : count ≡ 0 + count = omega arith in ap (leb 1) plain

one-exactly : (count : ℕ) → (nat_le 1 count && nat_le count 1) ≡ (count == 1)
one-exactly count =
    ⊎_elim
    (λ (none : count < 1). ap (λ b. b && leb count 1) (lt-leb 1 count none) ∙ sym (false_from_ne_true (count == 1) (λ e. let same = eqb-true count 1 e in absurd (omega arith))))
    (λ (some : 1 ≤ count).
    ap (λ b. b && leb count 1) (le-leb 1 count some)
    ∙ ⊎_elim
    (λ (more : 1 < count). lt-leb count 1 more ∙ sym (false_from_ne_true (count == 1) (λ e. let same = eqb-true count 1 e in absurd (omega arith))))
    (λ (few : count ≤ 1). le-leb count 1 few ∙ sym (eq-eqb count 1 (omega arith)))
    (cases_lt 1 count))
    (cases_lt count 1)

-- ---- groups

module _ (n : ℕ) (parent : ℕ) (less : parent < n) where
  abbrev There : List Bool → Bool
  There values = is_true_in values (positive_of parent)

  pub kind-means : (kind : GroupKind) (low : ℕ) (high : Option ℕ) (children : List Lit) → All (IsBelow n) children
      → Means n (kind_part parent kind low high children) (λ values. not (is_true_in values (positive_of parent)) || allows kind low high (length children) (count_by (is_true_in values) children))
  kind-means Mandatory low high children below =
      means-same n (kind_part parent Mandatory low high children) (λ values. are_satisfied values (map (λ child. negative_of parent ∷ child ∷ []) children))
      (λ values. not (There values) || (count_by (is_true_in values) children == length children))
      (λ values. pairs-truth values (negative_of parent) (λ child. child) children ∙ ap (λ b. not (There values) || b) (all-counted (is_true_in values) children))
      (means-bare n (map (λ child. negative_of parent ∷ child ∷ []) children) (pairs-in n (negative_of parent) (λ child. child) children less (λ one l. l) below))
  kind-means Optional low high children below =
      means-same n (kind_part parent Optional low high children) (λ values. true) (λ values. not (There values) || true) (λ values. or_true (not (There values))) (means-bare n [] (All-nil (All (IsBelow n)))) where
        or_true : (t : Bool) → true ≡ (t || true)
        or_true true = refl
        or_true false = refl
  kind-means Or low high children below =
      means-same n (kind_part parent Or low high children) (λ values. are_satisfied values ((negative_of parent ∷ children) ∷ [])) (λ values. not (There values) || nat_le 1 (count_by (is_true_in values) children))
      (λ values. and_true (not (There values) || list_any (is_true_in values) children) ∙ ap (λ b. not (There values) || b) (any-counted (is_true_in values) children))
      (means-bare n ((negative_of parent ∷ children) ∷ []) (All-cons (All (IsBelow n)) (negative_of parent ∷ children) [] (All-cons (IsBelow n) (negative_of parent) children less below) (All-nil (All (IsBelow n))))) where
        and_true : (t : Bool) → (t && true) ≡ t
        and_true true = refl
        and_true false = refl
  kind-means Alternative low high children below =
      means-same n (kind_part parent Alternative low high children) (InRange n parent 1 (Some 1) children) (λ values. not (There values) || (count_by (is_true_in values) children == 1))
      (λ values. ap (λ b. not (There values) || b) (one-exactly (count_by (is_true_in values) children)))
      (range-means n parent 1 (Some 1) children less below)
  kind-means Range low high children below = range-means n parent low high children less below

  length-positives : (numbers : List ℕ) → length (map positive_of numbers) ≡ length numbers
  length-positives [] = refl
  length-positives (one ∷ numbers) = ap suc (length-positives numbers)

  count-positives : (values : List Bool) (numbers : List ℕ) → count_by (is_true_in values) (map positive_of numbers) ≡ count_in values numbers
  count-positives values [] = refl
  count-positives values (one ∷ numbers) =
      count-first (is_true_in values) (positive_of one) (map positive_of numbers)
      ∙ ap (λ b. cond b 1 0 + count_by (is_true_in values) (map positive_of numbers)) (sym (unwrap_or-slice_get values one false))
      ∙ ap (λ k. cond (is_in values one) 1 0 + k) (count-positives values numbers)
      ∙ sym (count-first (is_in values) one numbers)

  pub group-means : (group : Group) → All (λ child. child < n) group.children → Means n (group_part parent group) (λ values. not (is_in values parent) || is_met values group)
  group-means group below =
      means-same n (group_part parent group)
      (λ values. not (There values) || allows group.kind group.low group.high (length (map positive_of group.children)) (count_by (is_true_in values) (map positive_of group.children)))
      (λ values. not (is_in values parent) || is_met values group)
      (λ values.
      ap (λ b. not b || allows group.kind group.low group.high (length (map positive_of group.children)) (count_by (is_true_in values) (map positive_of group.children))) (sym (unwrap_or-slice_get values parent false))
      ∙ ap (λ k. not (is_in values parent) || allows group.kind group.low group.high k (count_by (is_true_in values) (map positive_of group.children))) (length-positives group.children)
      ∙ ap (λ k. not (is_in values parent) || allows group.kind group.low group.high (length group.children) k) (count-positives values group.children))
      (kind-means group.kind group.low group.high (map positive_of group.children) (All-map (IsBelow n) positive_of group.children below))
