-- In an assignment that satisfies the clauses of a table, each literal says that its count is reached.
use Rattle.std.proofs.Common.{◌≡◌, ◌∙◌, refl, sym, ap, ⊎_elim, ℕ, zero, suc, ◌+◌, ◌-◌, ◌<◌, ◌≤◌, ◌↔◌, min, Some, Bool, true, false, cond, leb, ◌&&◌, ◌||◌, List, [], ◌∷◌, length, arith}
use Rattle.std.specs.Prelude.{count_by, slice_get}
use Rattle.std.proofs.lemmas.Bool.{and_parts, and_from, cases_lt, le-leb, lt-leb, leb-true}
use Rattle.std.proofs.lemmas.List.Folds.{list_all-append}
use Rattle.std.proofs.lemmas.List.Sums.{sum_by-append}
use Rattle.clauses.specs.declared.literal.Lit.{Lit}
use Rattle.clauses.specs.Clause.{positive_of, is_true_in, is_satisfied, are_satisfied}
use Rattle.count_gates.specs.Table.{Is, or_never, at_least, cell_clauses, row_clauses, row_literals, rows_from, table_size}
use Rattle.count_gates.proofs.Ranges.{made_past}
use Rattle.count_gates.proofs.Rows.{row-length}
use Rattle.count_gates.proofs.Truths.{truth, cell-fixed, cell-holds, pieces-parts, pieces-from}

-- one where it is true
abbrev pub one_if : Bool → ℕ
one_if b = cond b 1 0

pub one_if-most : (b : Bool) → one_if b ≤ 1
one_if-most true = omega arith
one_if-most false = omega arith

pub count_by-first : (test : Lit → Bool) (child : Lit) (children : List Lit) → count_by test (child ∷ children) ≡ one_if (test child) + count_by test children
count_by-first test child children =
    let split = sum_by-append (λ (x : Lit). one_if (test x)) (child ∷ []) children in
    let alone : 0 + one_if (test child) ≡ one_if (test child) = omega arith in
    split ∙ ap (λ n. n + count_by test children) alone

or_false : (x : Bool) → (x || false) ≡ x
or_false true = refl
or_false false = refl

and_false : (x : Bool) → (x && false) ≡ false
and_false true = refl
and_false false = refl

and_true : (x : Bool) → (x && true) ≡ x
and_true true = refl
and_true false = refl

-- more than j of n and one more: more than j of n, or one more than j with it
pub leb-more : (j count : ℕ) (b : Bool) → (leb (suc j) count || (leb j count && b)) ≡ leb (suc j) (count + one_if b)
leb-more j count false =
    let plain : count ≡ count + 0 = omega arith in
    ap (λ x. leb (suc j) count || x) (and_false (leb j count)) ∙ or_false (leb (suc j) count) ∙ ap (leb (suc j)) plain
leb-more j count true =
    ap (λ x. leb (suc j) count || x) (and_true (leb j count))
    ∙ ⊎_elim
    (λ (less : j < count + 1). ap (λ x. leb (suc j) count || x) (le-leb j count (omega arith)) ∙ always (leb (suc j) count) ∙ sym (le-leb (suc j) (count + 1) (omega arith)))
    (λ (more : count + 1 ≤ j). ap (λ x. x || leb j count) (lt-leb (suc j) count (omega arith)) ∙ lt-leb j count (omega arith) ∙ sym (lt-leb (suc j) (count + 1) (omega arith)))
    (cases_lt j (count + 1)) where
      always : (x : Bool) → (x || true) ≡ true
      always true = refl
      always false = refl

module _ (values : List Bool) (first upto : ℕ) where
  -- each literal of the row says that its count is reached
  abbrev pub IsRight : List Lit → ℕ → Type 0
  IsRight row count = (j : ℕ) → j ≤ upto → truth values (at_least row j) ≡ leb j count

  pub right-none : IsRight (row_literals first upto 0) 0
  right-none zero l = sym (le-leb 0 0 (omega arith))
  right-none (suc j) l = sym (lt-leb (suc j) 0 (omega arith))

  -- a row without a literal for j says that j isn't reached
  pub never-past : (i j : ℕ) → suc j ≤ upto → min (suc i) upto ≤ j → truth values (at_least (row_literals first upto (suc i)) (suc j)) ≡ false
  never-past i j l past = ap (λ o. truth values (or_never o)) (made_past positive_of (first + table_size i upto) (min (suc i) upto) j past)

  abbrev row_cell : ℕ → Lit → ℕ → List (List Lit)
  row_cell i child j = cell_clauses (at_least (row_literals first upto (suc i)) (suc j)) (at_least (row_literals first upto i) (suc j)) (at_least (row_literals first upto i) j) (Is child)

  pub right-more :
      (i count : ℕ) (child : Lit) → count ≤ i → IsRight (row_literals first upto i) count
      → are_satisfied values (row_clauses (row_literals first upto i) (row_literals first upto (suc i)) child) ≡ true
      → IsRight (row_literals first upto (suc i)) (count + one_if (is_true_in values child))
  right-more i count child few right e zero l = sym (le-leb 0 (count + one_if (is_true_in values child)) (omega arith))
  right-more i count child few right e (suc j) l =
      let row = row_literals first upto (suc i) in
      let before = row_literals first upto i in
      let size : length (row_literals first upto (suc i)) ≡ min (suc i) upto = row-length first upto (suc i) in
      let most = one_if-most (is_true_in values child) in
      ⊎_elim
      (λ (within : j < min (suc i) upto).
      let there : j < length (row_literals first upto (suc i)) = omega arith in
      let plain : j ≡ 0 + j = omega arith in
      let cell : are_satisfied values (row_cell i child j) ≡ true =
      ap (λ k. are_satisfied values (row_cell i child k)) plain ∙ pieces-parts values (row_cell i child) 0 (length (row_literals first upto (suc i))) e j there in
      cell-fixed values (at_least row (suc j)) (at_least before (suc j)) (at_least before j) (Is child) cell
      ∙ ap (λ b. b || (truth values (at_least before j) && is_true_in values child)) (right (suc j) l)
      ∙ ap (λ b. leb (suc j) count || (b && is_true_in values child)) (right j (omega arith))
      ∙ leb-more j count (is_true_in values child))
      (λ (past : min (suc i) upto ≤ j).
      never-past i j l past ∙ sym (lt-leb (suc j) (count + one_if (is_true_in values child)) (omega arith)))
      (cases_lt j (min (suc i) upto))

  -- and rows that say so satisfy the clauses between them
  pub right-holds :
      (i count : ℕ) (child : Lit) → IsRight (row_literals first upto i) count
      → IsRight (row_literals first upto (suc i)) (count + one_if (is_true_in values child))
      → are_satisfied values (row_clauses (row_literals first upto i) (row_literals first upto (suc i)) child) ≡ true
  right-holds i count child right after =
      let row = row_literals first upto (suc i) in
      let before = row_literals first upto i in
      let size : length (row_literals first upto (suc i)) ≡ min (suc i) upto = row-length first upto (suc i) in
      pieces-from values (row_cell i child) 0 (length (row_literals first upto (suc i)))
      (λ j there.
      let l : suc j ≤ upto = omega arith in
      let plain : 0 + j ≡ j = omega arith in
      ap (λ k. are_satisfied values (row_cell i child k)) plain
      ∙ cell-holds values (at_least row (suc j)) (at_least before (suc j)) (at_least before j) (Is child)
      (after (suc j) l
      ∙ sym (leb-more j count (is_true_in values child))
      ∙ ap (λ b. leb (suc j) count || (b && is_true_in values child)) (sym (right j (omega arith)))
      ∙ ap (λ b. b || (truth values (at_least before j) && is_true_in values child)) (sym (right (suc j) l))))

  pub rows-split : (i : ℕ) (child : Lit) (children : List Lit) → are_satisfied values (rows_from first upto i (child ∷ children)) ≡ true
      → (are_satisfied values (row_clauses (row_literals first upto i) (row_literals first upto (suc i)) child) ≡ true) × (are_satisfied values (rows_from first upto (suc i) children) ≡ true)
  rows-split i child children e =
      let row = row_clauses (row_literals first upto i) (row_literals first upto (suc i)) child in
      let rest = rows_from first upto (suc i) children in
      and_parts (are_satisfied values row) (are_satisfied values rest) (sym (list_all-append (is_satisfied values) row rest) ∙ e)

  pub rows-join : (i : ℕ) (child : Lit) (children : List Lit)
      → are_satisfied values (row_clauses (row_literals first upto i) (row_literals first upto (suc i)) child) ≡ true → are_satisfied values (rows_from first upto (suc i) children) ≡ true
      → are_satisfied values (rows_from first upto i (child ∷ children)) ≡ true
  rows-join i child children here later =
      let row = row_clauses (row_literals first upto i) (row_literals first upto (suc i)) child in
      let rest = rows_from first upto (suc i) children in
      list_all-append (is_satisfied values) row rest ∙ and_from (are_satisfied values row) (are_satisfied values rest) here later

  pub right-all :
      (i count : ℕ) (children : List Lit) → count ≤ i → IsRight (row_literals first upto i) count
      → are_satisfied values (rows_from first upto i children) ≡ true
      → IsRight (row_literals first upto (i + length children)) (count + count_by (is_true_in values) children)
  right-all i count [] few right e j l =
      let plain : i + 0 ≡ i = omega arith in
      let same : count ≡ count + 0 = omega arith in
      ap (λ k. truth values (at_least (row_literals first upto k) j)) plain ∙ right j l ∙ ap (leb j) same
  right-all i count (child ∷ children) few right e j l =
      let both = rows-split i child children e in
      let most = one_if-most (is_true_in values child) in
      let next : i + suc (length children) ≡ suc i + length children = omega arith in
      let total = count_by-first (is_true_in values) child children in
      let sums : (count + one_if (is_true_in values child)) + count_by (is_true_in values) children ≡ count + count_by (is_true_in values) (child ∷ children) = omega arith in
      ap (λ k. truth values (at_least (row_literals first upto k) j)) next
      ∙ right-all (suc i) (count + one_if (is_true_in values child)) children (omega arith) (right-more i count child few right both.0) both.1 j l
      ∙ ap (leb j) sums

  table-right : (children : List Lit) → are_satisfied values (rows_from first upto 0 children) ≡ true → IsRight (row_literals first upto (length children)) (count_by (is_true_in values) children)
  table-right children e j l =
      let plain : length children ≡ 0 + length children = omega arith in
      let same : 0 + count_by (is_true_in values) children ≡ count_by (is_true_in values) children = omega arith in
      ap (λ k. truth values (at_least (row_literals first upto k) j)) plain ∙ right-all 0 0 children (omega arith) right-none e j l ∙ ap (leb j) same

  found_within : (row : List Lit) (j : ℕ) (literal : Lit) → slice_get row j ≡ Some literal → j < length row
  found_within [] j literal e = cc
  found_within (x ∷ row) zero literal e = omega arith
  found_within (x ∷ row) (suc j) literal e = let rest = found_within row j literal e in omega arith

  literal_at : (children : List Lit) → are_satisfied values (rows_from first upto 0 children) ≡ true
      → (j : ℕ) (literal : Lit) → slice_get (row_literals first upto (length children)) j ≡ Some literal
      → is_true_in values literal ≡ leb (suc j) (count_by (is_true_in values) children)
  literal_at children e j literal at =
      let within = found_within (row_literals first upto (length children)) j literal at in
      let size = row-length first upto (length children) in
      ap (λ o. truth values (or_never o)) (sym at) ∙ table-right children e (suc j) (omega arith)

  pub literal-says : (children : List Lit) → are_satisfied values (rows_from first upto 0 children) ≡ true
      → (j : ℕ) → 1 ≤ j → (literal : Lit) → slice_get (row_literals first upto (length children)) (j - 1) ≡ Some literal
      → (is_true_in values literal ≡ true) ↔ (j ≤ count_by (is_true_in values) children)
  literal-says children e j some literal at =
      let one_more : suc (j - 1) ≡ j = omega arith in
      let says : is_true_in values literal ≡ leb j (count_by (is_true_in values) children) =
      literal_at children e (j - 1) literal at ∙ ap (λ k. leb k (count_by (is_true_in values) children)) one_more in (
        (λ t. leb-true j (count_by (is_true_in values) children) (sym says ∙ t)),
        (λ l. says ∙ le-leb j (count_by (is_true_in values) children) l),
      )
