-- The values of a table's own variables follow from the others, and there always are such values.
use Rattle.std.proofs.Common.{◌≡◌, ◌∙◌, refl, sym, ap, ⊎_elim, ℕ, zero, suc, ◌+◌, ◌-◌, ◌<◌, ◌≤◌, min, Bool, true, false, cond, not, leb, List, [], ◌∷◌, ◌++◌, map, length, get_or, take, drop, arith}
use Rattle.std.specs.Prelude.{All}
use Rattle.std.specs.List.{range_with_len}
use Rattle.std.proofs.lemmas.Bool.{cases_lt, le-leb, lt-leb}
use Rattle.std.proofs.lemmas.List.{append_assoc, length-append, length-take-le, length-drop, take-append-drop, get_or-take, get_or_append_left, get_or-append-add, nil_from_length, same_lists, get_or_default}
use Rattle.std.proofs.lemmas.List.FromFn.{length-map-range_with_len, get_or-map-range_with_len}
use Rattle.clauses.specs.declared.literal.Lit.{Lit}
use Rattle.clauses.specs.Clause.{positive_of, is_true_in, are_satisfied}
use Rattle.clauses.specs.Problem.{IsBelow}
use Rattle.count_gates.specs.Table.{or_never, at_least, row_literals, rows_from, table_size, table_clauses}
use Rattle.count_gates.proofs.Ranges.{made_at}
use Rattle.count_gates.proofs.Truths.{truth}
use Rattle.count_gates.proofs.Counts.{one_if, one_if-most, IsRight, right-none, never-past, right-more, right-holds, rows-split, rows-join}

-- the values of a row's variables, where count children are true
abbrev row_values : ℕ → ℕ → List Bool
row_values count width = map (λ j. leb (suc j) count) (range_with_len 0 width)

-- the values of the variables of the rows from i on, where count of the first i children are true
abbrev extension : ℕ → (Lit → Bool) → ℕ → ℕ → List Lit → List Bool
extension upto test i count [] = []
extension upto test i count (child ∷ children) =
    row_values (count + one_if (test child)) (min (suc i) upto) ++ extension upto test (suc i) (count + one_if (test child)) children

-- how many variables the rows from i on have
abbrev size_from : ℕ → ℕ → List Lit → ℕ
size_from upto i [] = 0
size_from upto i (child ∷ children) = min (suc i) upto + size_from upto (suc i) children

size_from-table : (upto i : ℕ) (children : List Lit) → table_size i upto + size_from upto i children ≡ table_size (i + length children) upto
size_from-table upto i [] =
    let plain : i ≡ i + 0 = omega arith in
    let same : table_size i upto + 0 ≡ table_size i upto = omega arith in
    same ∙ ap (λ k. table_size k upto) plain
size_from-table upto i (child ∷ children) =
    let rest = size_from-table upto (suc i) children in
    let next : suc i + length children ≡ i + suc (length children) = omega arith in
    let here : table_size i upto + (min (suc i) upto + size_from upto (suc i) children) ≡ table_size (suc i) upto + size_from upto (suc i) children = omega arith in
    here ∙ rest ∙ ap (λ k. table_size k upto) next

length-row_values : (count width : ℕ) → length (row_values count width) ≡ width
length-row_values count width = length-map-range_with_len (λ j. leb (suc j) count) 0 width

length-extension : (upto : ℕ) (test : Lit → Bool) (i count : ℕ) (children : List Lit) → length (extension upto test i count children) ≡ size_from upto i children
length-extension upto test i count [] = refl
length-extension upto test i count (child ∷ children) =
    let here = length-row_values (count + one_if (test child)) (min (suc i) upto) in
    let rest = length-extension upto test (suc i) (count + one_if (test child)) children in
    let whole = length-append (row_values (count + one_if (test child)) (min (suc i) upto)) (extension upto test (suc i) (count + one_if (test child)) children) in
    omega arith

module _ (values : List Bool) (first upto : ℕ) where
  -- the variable of a cell has the value that stands behind those of the variables before it
  cell-value :
      (i j : ℕ) (before rest : List Bool) → values ≡ before ++ rest → length before ≡ first + table_size i upto → j < min (suc i) upto
      → truth values (at_least (row_literals first upto (suc i)) (suc j)) ≡ get_or rest j false
  cell-value i j before rest is size l =
      let place : (first + table_size i upto) + j ≡ length before + j = omega arith in
      ap (λ o. truth values (or_never o)) (made_at positive_of (first + table_size i upto) (min (suc i) upto) j l)
      ∙ ap (λ k. get_or values k false) place
      ∙ ap (λ v. get_or v (length before + j) false) is
      ∙ get_or-append-add before rest j false

  right-row :
      (i count : ℕ) (before rest : List Bool) → values ≡ before ++ (row_values count (min (suc i) upto) ++ rest)
      → length before ≡ first + table_size i upto → count ≤ suc i
      → IsRight values first upto (row_literals first upto (suc i)) count
  right-row i count before rest is size few zero l = sym (le-leb 0 count (omega arith))
  right-row i count before rest is size few (suc j) l =
      let row = row_values count (min (suc i) upto) in
      let width : length (row_values count (min (suc i) upto)) ≡ min (suc i) upto = length-row_values count (min (suc i) upto) in
      ⊎_elim
      (λ (within : j < min (suc i) upto).
      let there : j < length (row_values count (min (suc i) upto)) = omega arith in
      let plain : 0 + j ≡ j = omega arith in
      cell-value i j before (row ++ rest) is size within
      ∙ get_or_append_left row rest false j there
      ∙ get_or-map-range_with_len (λ k. leb (suc k) count) 0 (min (suc i) upto) j j false within plain)
      (λ (past : min (suc i) upto ≤ j). never-past values first upto i j l past ∙ sym (lt-leb (suc j) count (omega arith)))
      (cases_lt j (min (suc i) upto))

  -- the children are as true as the test says
  abbrev Follows : (Lit → Bool) → List Lit → Type 0
  Follows test children = All (λ child. is_true_in values child ≡ test child) children

  follows-first : (test : Lit → Bool) (child : Lit) (children : List Lit) → Follows test (child ∷ children) → is_true_in values child ≡ test child
  follows-first test child children follows = follows 0 child (omega arith)

  follows-later : (test : Lit → Bool) (child : Lit) (children : List Lit) → Follows test (child ∷ children) → Follows test children
  follows-later test child children follows = λ k d l. follows (suc k) d (omega arith)

  pub extension-satisfies :
      (test : Lit → Bool) (i count : ℕ) (children : List Lit) (before : List Bool)
      → Follows test children → count ≤ i → IsRight values first upto (row_literals first upto i) count
      → values ≡ before ++ extension upto test i count children → length before ≡ first + table_size i upto
      → are_satisfied values (rows_from first upto i children) ≡ true
  extension-satisfies test i count [] before follows few right is size = refl
  extension-satisfies test i count (child ∷ children) before follows few right is size =
      let after = count + one_if (test child) in
      let most = one_if-most (test child) in
      let row = row_values after (min (suc i) upto) in
      let rest = extension upto test (suc i) after children in
      let width = length-row_values (count + one_if (test child)) (min (suc i) upto) in
      let whole = length-append before (row_values (count + one_if (test child)) (min (suc i) upto)) in
      let next : IsRight values first upto (row_literals first upto (suc i)) (count + one_if (test child)) =
      right-row i (count + one_if (test child)) before rest is size (omega arith) in
      let same : count + one_if (test child) ≡ count + one_if (is_true_in values child) = ap (λ b. count + one_if b) (sym (follows-first test child children follows)) in
      rows-join values first upto i child children
      (right-holds values first upto i count child right (λ j l. next j l ∙ ap (leb j) same))
      (extension-satisfies test (suc i) (count + one_if (test child)) children (before ++ row_values (count + one_if (test child)) (min (suc i) upto)) (follows-later test child children follows)
      (omega arith) next (is ∙ sym (append_assoc before row rest)) (omega arith))

  pub extension-only :
      (test : Lit → Bool) (i count : ℕ) (children : List Lit) (before new : List Bool)
      → Follows test children → count ≤ i → IsRight values first upto (row_literals first upto i) count
      → values ≡ before ++ new → length before ≡ first + table_size i upto → length new ≡ size_from upto i children
      → are_satisfied values (rows_from first upto i children) ≡ true
      → new ≡ extension upto test i count children
  extension-only test i count [] before new follows few right is size many e = nil_from_length new many
  extension-only test i count (child ∷ children) before new follows few right is size many e =
      let width = min (suc i) upto in
      let row = take width new in
      let rest = drop width new in
      let most = one_if-most (test child) in
      let both = rows-split values first upto i child children e in
      let same : count + one_if (is_true_in values child) ≡ count + one_if (test child) = ap (λ b. count + one_if b) (follows-first test child children follows) in
      let right_there = right-more values first upto i count child few right both.0 in
      let next : IsRight values first upto (row_literals first upto (suc i)) (count + one_if (test child)) = λ j l. right_there j l ∙ ap (leb j) same in
      let enough : min (suc i) upto ≤ length new = omega arith in
      let row_size : length (take (min (suc i) upto) new) ≡ min (suc i) upto = length-take-le (min (suc i) upto) new enough in
      let rest_size : length (drop (min (suc i) upto) new) ≡ length new - min (suc i) upto = length-drop (min (suc i) upto) new in
      let made_size = length-row_values (count + one_if (test child)) (min (suc i) upto) in
      let whole = length-append before (take (min (suc i) upto) new) in
      let joined : take (min (suc i) upto) new ++ drop (min (suc i) upto) new ≡ new = take-append-drop (min (suc i) upto) new in
      let is_row : take (min (suc i) upto) new ≡ row_values (count + one_if (test child)) (min (suc i) upto) =
      same_lists (take (min (suc i) upto) new) (row_values (count + one_if (test child)) (min (suc i) upto)) (omega arith) (λ k d l.
      let within : k < min (suc i) upto = omega arith in
      let inside : k < length new = omega arith in
      let plain : 0 + k ≡ k = omega arith in
      let low : suc k ≤ upto = omega arith in
      get_or-take (min (suc i) upto) new k d within
      ∙ get_or_default new k d false inside
      ∙ sym (cell-value i k before new is size within)
      ∙ next (suc k) low
      ∙ sym (get_or-map-range_with_len (λ m. leb (suc m) (count + one_if (test child))) 0 (min (suc i) upto) k k d within plain)) in
      let is_rest : drop (min (suc i) upto) new ≡ extension upto test (suc i) (count + one_if (test child)) children =
      extension-only test (suc i) (count + one_if (test child)) children (before ++ take (min (suc i) upto) new) (drop (min (suc i) upto) new) (follows-later test child children follows)
      (omega arith) next (is ∙ ap (λ n. before ++ n) (sym joined) ∙ sym (append_assoc before (take (min (suc i) upto) new) (drop (min (suc i) upto) new))) (omega arith) (omega arith) both.1 in
      sym joined
      ∙ ap (λ r. r ++ drop (min (suc i) upto) new) is_row
      ∙ ap (λ r. row_values (count + one_if (test child)) (min (suc i) upto) ++ r) is_rest

-- a literal of a variable that has a value is as true when more variables have
longer : (values new : List Bool) (literal : Lit) → IsBelow (length values) literal → is_true_in (values ++ new) literal ≡ is_true_in values literal
longer values new literal below = ap (λ value. cond literal.positive value (not value)) (get_or_append_left values new false literal.var below)

follows-table : (values new : List Bool) (children : List Lit) → All (IsBelow (length values)) children → All (λ child. is_true_in (values ++ new) child ≡ is_true_in values child) children
follows-table values new children below = λ k d l. longer values new (get_or children k d) (below k d l)

table-size : (upto : ℕ) (children : List Lit) → size_from upto 0 children ≡ table_size (length children) upto
table-size upto children =
    let whole = size_from-table upto 0 children in
    let plain : 0 + length children ≡ length children = omega arith in
    let start : size_from upto 0 children ≡ table_size 0 upto + size_from upto 0 children = omega arith in
    start ∙ whole ∙ ap (λ k. table_size k upto) plain

pub some-extension :
    (upto : ℕ) (children : List Lit) (values : List Bool) → All (IsBelow (length values)) children
    → (new : List Bool) × (length new ≡ table_size (length children) upto) × (are_satisfied (values ++ new) (table_clauses (length values) upto children) ≡ true)
some-extension upto children values below =
    let test = is_true_in values in
    let new = extension upto (is_true_in values) 0 0 children in (
      new,
      length-extension upto (is_true_in values) 0 0 children ∙ table-size upto children,
      extension-satisfies (values ++ new) (length values) upto (is_true_in values) 0 0 children values (follows-table values new children below) (omega arith)
          (right-none (values ++ new) (length values) upto) refl (omega arith),
    )

is-extension :
    (upto : ℕ) (children : List Lit) (values new : List Bool) → All (IsBelow (length values)) children
    → length new ≡ table_size (length children) upto → are_satisfied (values ++ new) (table_clauses (length values) upto children) ≡ true
    → new ≡ extension upto (is_true_in values) 0 0 children
is-extension upto children values new below size e =
    extension-only (values ++ new) (length values) upto (is_true_in values) 0 0 children values new (follows-table values new children below) (omega arith)
    (right-none (values ++ new) (length values) upto) refl (omega arith) (size ∙ sym (table-size upto children)) e

pub only-extension :
    (upto : ℕ) (children : List Lit) (values new other : List Bool) → All (IsBelow (length values)) children
    → length new ≡ table_size (length children) upto → length other ≡ table_size (length children) upto
    → are_satisfied (values ++ new) (table_clauses (length values) upto children) ≡ true
    → are_satisfied (values ++ other) (table_clauses (length values) upto children) ≡ true
    → new ≡ other
only-extension upto children values new other below new_size other_size new_holds other_holds =
    is-extension upto children values new below new_size new_holds ∙ sym (is-extension upto children values other below other_size other_holds)
