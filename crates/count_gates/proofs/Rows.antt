-- Rows of a counting table as they are made: a cell at a time, and each from the row before.
use Rattle.std.proofs.Common.{◌≡◌, ◌∙◌, refl, sym, ap, ℕ, zero, suc, ◌+◌, ◌<◌, ◌≤◌, min, List, [], ◌∷◌, ◌++◌, map, length, get_or, drop, Option, arith}
use Rattle.std.specs.Prelude.{flat_map, slice_get}
use Rattle.std.specs.List.{range_with_len}
use Rattle.std.proofs.lemmas.List.FromFn.{length-map-range_with_len, map-range_with_len_more}
use Rattle.std.proofs.lemmas.List.{append_assoc, drop_more}
use Rattle.clauses.specs.declared.literal.Lit.{Lit}
use Rattle.clauses.specs.Clause.{positive_of}
use Rattle.count_gates.specs.Table.{Is, or_never, or_always, at_least, cell_clauses, row_clauses, row_literals, rows_from, table_size}
use Rattle.count_gates.proofs.Ranges.{made_at, pieces-more, pieces-same}

-- the clauses of the j-th cell, counted from 0, of a row that begins at the variable first
abbrev pub cell_at : ℕ → List Lit → Lit → ℕ → List (List Lit)
cell_at first before child j = cell_clauses (Is (positive_of (first + j))) (at_least before (suc j)) (at_least before j) (Is child)

pub cells-row : (first n : ℕ) (before : List Lit) (child : Lit) → flat_map (cell_at first before child) (range_with_len 0 n) ≡ row_clauses before (map positive_of (range_with_len first n)) child
cells-row first n before child =
    let row = map positive_of (range_with_len first n) in
    let cell : ℕ → List (List Lit) = λ j. cell_clauses (at_least row (suc j)) (at_least before (suc j)) (at_least before j) (Is child) in
    let each : (j : ℕ) → j < n → cell_at first before child (0 + j) ≡ cell (0 + j) = λ j l.
    let e : 0 + j ≡ j = omega arith in
    ap (cell_at first before child) e
    ∙ ap (λ member. cell_clauses (or_never member) (at_least before (suc j)) (at_least before j) (Is child)) (sym (made_at positive_of first n j l))
    ∙ ap cell (sym e) in
    pieces-same (cell_at first before child) cell 0 n each
    ∙ ap (λ count. flat_map cell (range_with_len 0 count)) (sym (length-map-range_with_len positive_of first n))

-- one more cell
pub cells-more :
    (first : ℕ) (before : List Lit) (child : Lit) (j next : ℕ) (same fewer : Option Lit) (old sofar new : List (List Lit))
    → next ≡ first + j → same ≡ slice_get before j → or_always fewer ≡ at_least before j
    → sofar ≡ old ++ flat_map (cell_at first before child) (range_with_len 0 j)
    → new ≡ sofar ++ cell_clauses (Is (positive_of next)) (or_never same) (or_always fewer) (Is child)
    → new ≡ old ++ flat_map (cell_at first before child) (range_with_len 0 (j + 1))
cells-more first before child j next same fewer old sofar new at is_same is_fewer was added =
    let cell : List (List Lit) = cell_clauses (Is (positive_of next)) (or_never same) (or_always fewer) (Is child) in
    let cells = flat_map (cell_at first before child) (range_with_len 0 j) in
    let plain : 0 + j ≡ j = omega arith in
    let is_cell : cell ≡ cell_at first before child (0 + j) =
    ap (λ n. cell_clauses (Is (positive_of n)) (or_never same) (or_always fewer) (Is child)) at
    ∙ ap (λ m. cell_clauses (Is (positive_of (first + j))) (or_never m) (or_always fewer) (Is child)) is_same
    ∙ ap (λ m. cell_clauses (Is (positive_of (first + j))) (at_least before (suc j)) m (Is child)) is_fewer
    ∙ ap (cell_at first before child) (sym plain) in
    let one_more : j + 1 ≡ suc j = omega arith in
    added
    ∙ ap (λ front. front ++ cell) was
    ∙ append_assoc old cells cell
    ∙ ap (λ last. old ++ (cells ++ last)) is_cell
    ∙ ap (λ all. old ++ all) (sym (pieces-more (cell_at first before child) 0 j))
    ∙ ap (λ count. old ++ flat_map (cell_at first before child) (range_with_len 0 count)) (sym one_more)

pub literals-more :
    (first j next : ℕ) (cell : Lit) (row new : List Lit)
    → next ≡ first + j → cell ≡ positive_of next → row ≡ map positive_of (range_with_len first j) → new ≡ row ++ cell ∷ []
    → new ≡ map positive_of (range_with_len first (j + 1))
literals-more first j next cell row new at is was added =
    added
    ∙ ap (λ front. front ++ cell ∷ []) was
    ∙ ap (λ last. map positive_of (range_with_len first j) ++ last ∷ []) (is ∙ ap positive_of at)
    ∙ sym (map-range_with_len_more positive_of first j (first + j) refl)

-- the literal that stands at j is 'at least j + 1'
pub fewer-more : (before : List Lit) (j : ℕ) (same : Option Lit) → same ≡ slice_get before j → j + 1 ≤ length before → or_always same ≡ at_least before (j + 1)
fewer-more before j same is l =
    let one_more : suc j ≡ j + 1 = omega arith in
    ap or_always is ∙ standing before j (omega arith) ∙ ap (at_least before) one_more where
      standing : (row : List Lit) (j : ℕ) → j < length row → or_always (slice_get row j) ≡ or_never (slice_get row j)
      standing [] j l = absurd (omega arith)
      standing (literal ∷ row) zero l = refl
      standing (literal ∷ row) (suc j) l = standing row j (omega arith)

pub row-length : (first upto i : ℕ) → length (row_literals first upto i) ≡ min i upto
row-length first upto zero = omega arith
row-length first upto (suc i) = length-map-range_with_len positive_of (first + table_size i upto) (min (suc i) upto)

pub table_size-mono : (upto i k : ℕ) → i ≤ k → table_size i upto ≤ table_size k upto
table_size-mono upto zero k l = omega arith
table_size-mono upto (suc i) zero l = absurd (omega arith)
table_size-mono upto (suc i) (suc k) l =
    let rest = table_size-mono upto i k (omega arith) in
    let last : min (suc i) upto ≤ min (suc k) upto = omega arith in
    omega arith

-- a row has one more literal than the row before, but no more than upto
pub width-more : (first upto i : ℕ) (row : List Lit) → row ≡ row_literals first upto i → min (length row + 1) upto ≡ min (suc i) upto
width-more first upto i row is =
    let short : length row ≡ min i upto = ap length is ∙ row-length first upto i in
    omega arith

pub row-more :
    (first upto i next : ℕ) (row new : List Lit)
    → row ≡ row_literals first upto i → next ≡ first + table_size i upto
    → new ≡ map positive_of (range_with_len next (min (length row + 1) upto)) → new ≡ row_literals first upto (i + 1)
row-more first upto i next row new was at made =
    let one_more : suc i ≡ i + 1 = omega arith in
    made
    ∙ ap (λ n. map positive_of (range_with_len n (min (length row + 1) upto))) at
    ∙ ap (λ n. map positive_of (range_with_len (first + table_size i upto) n)) (width-more first upto i row was)
    ∙ ap (row_literals first upto) one_more

pub size-more : (first upto i next after : ℕ) (row : List Lit) → row ≡ row_literals first upto i → next ≡ first + table_size i upto → after ≡ next + min (length row + 1) upto → after ≡ first + table_size (i + 1) upto
size-more first upto i next after row was at moved =
    let wide = width-more first upto i row was in
    let one_more : suc i ≡ i + 1 = omega arith in
    let all : after ≡ first + table_size (suc i) upto = omega arith in
    all ∙ ap (λ k. first + table_size k upto) one_more

pub rows-more :
    (first upto i : ℕ) (children : List Lit) (missing : Lit) (row made : List Lit) (sofar new all : List (List Lit))
    → i < length children
    → row ≡ row_literals first upto i → made ≡ row_literals first upto (i + 1)
    → sofar ++ rows_from first upto i (drop i children) ≡ all → new ≡ sofar ++ row_clauses row made (get_or children i missing)
    → new ++ rows_from first upto (i + 1) (drop (i + 1) children) ≡ all
rows-more first upto i children missing row made sofar new all l was is whole added =
    let child = get_or children i missing in
    let rest = drop (i + 1) children in
    let one_more : suc i ≡ i + 1 = omega arith in
    let split : drop i children ≡ get_or children i missing ∷ drop (i + 1) children = drop_more children i missing l in
    let piece : row_clauses row made (get_or children i missing) ≡ row_clauses (row_literals first upto i) (row_literals first upto (suc i)) (get_or children i missing) =
    ap (λ r. row_clauses r made child) was ∙ ap (λ r. row_clauses (row_literals first upto i) r child) (is ∙ ap (row_literals first upto) (sym one_more)) in
    ap (λ front. front ++ rows_from first upto (i + 1) rest) (added ∙ ap (λ p. sofar ++ p) piece)
    ∙ ap (λ k. (sofar ++ row_clauses (row_literals first upto i) (row_literals first upto (suc i)) child) ++ rows_from first upto k rest) (sym one_more)
    ∙ append_assoc sofar (row_clauses (row_literals first upto i) (row_literals first upto (suc i)) child) (rows_from first upto (suc i) rest)
    ∙ ap (λ cs. sofar ++ rows_from first upto i cs) (sym split)
    ∙ whole
