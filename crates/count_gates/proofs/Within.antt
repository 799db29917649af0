-- A table is about the variables of its children and its own.
use Rattle.std.proofs.Common.{◌≡◌, ap, subst, ℕ, zero, suc, ◌+◌, ◌≤◌, min, List, [], ◌∷◌, ◌++◌, length, arith}
use Rattle.std.specs.Prelude.{All, flat_map, slice_get}
use Rattle.std.specs.List.{range_with_len}
use Rattle.std.proofs.lemmas.List.Elements.{All-append, All-cons, All-map, All-weaker}
use Rattle.std.proofs.lemmas.List.FromFn.{length-range_with_len, get_or-range_with_len}
use Rattle.clauses.specs.declared.literal.Lit.{Lit}
use Rattle.clauses.specs.Clause.{positive_of}
use Rattle.clauses.specs.Problem.{IsBelow}
use Rattle.count_gates.specs.Table.{Member, Always, Never, Is, opposite, clause_of, or_never, at_least, cell_clauses, row_clauses, row_literals, rows_from, table_clauses, table_size}
use Rattle.count_gates.proofs.Rows.{table_size-mono}

module _ (bound : ℕ) where
  -- the member is a literal below the bound, or none
  abbrev IsWithin : Member → Type 0
  IsWithin Always = Unit {0}
  IsWithin Never = Unit {0}
  IsWithin (Is literal) = IsBelow bound literal

  abbrev AreWithin : List (List Lit) → Type 0
  AreWithin clauses = All (All (IsBelow bound)) clauses

  opposite-within : (member : Member) → IsWithin member → IsWithin (opposite member)
  opposite-within Always within = tt
  opposite-within Never within = tt
  opposite-within (Is literal) within = within

  abbrev EachWithin : List Member → Type 0
  EachWithin [] = Unit {0}
  EachWithin (member ∷ members) = IsWithin member × EachWithin members

  clause-within : (members : List Member) → EachWithin members → AreWithin (clause_of members)
  clause-within [] within = All-cons (All (IsBelow bound)) [] [] (λ k d l. absurd (omega arith)) (λ k d l. absurd (omega arith))
  clause-within (Always ∷ members) within = λ k d l. absurd (omega arith)
  clause-within (Never ∷ members) within = clause-within members within.1
  clause-within (Is literal ∷ members) within =
      All-map (All (IsBelow bound)) (λ rest. literal ∷ rest) (clause_of members)
      (All-weaker (All (IsBelow bound)) (λ rest. All (IsBelow bound) (literal ∷ rest)) (λ rest others. All-cons (IsBelow bound) literal rest within.0 others) (clause_of members)
      (clause-within members within.1))

  cell-within : (s same fewer child : Member) → IsWithin s → IsWithin same → IsWithin fewer → IsWithin child → AreWithin (cell_clauses s same fewer child)
  cell-within s same fewer child in_s in_same in_fewer in_child =
      let first = clause_of (opposite s ∷ same ∷ child ∷ []) in
      let second = clause_of (opposite s ∷ same ∷ fewer ∷ []) in
      let third = clause_of (s ∷ opposite same ∷ []) in
      let fourth = clause_of (s ∷ opposite fewer ∷ opposite child ∷ []) in
      let not_s = opposite-within s in_s in
      let not_same = opposite-within same in_same in
      let not_fewer = opposite-within fewer in_fewer in
      let not_child = opposite-within child in_child in
      All-append (All (IsBelow bound)) (first ++ second ++ third) fourth
      (All-append (All (IsBelow bound)) (first ++ second) third
      (All-append (All (IsBelow bound)) first second
      (clause-within (opposite s ∷ same ∷ child ∷ []) (not_s, (in_same, (in_child, tt))))
      (clause-within (opposite s ∷ same ∷ fewer ∷ []) (not_s, (in_same, (in_fewer, tt)))))
      (clause-within (s ∷ opposite same ∷ []) (in_s, (not_same, tt))))
      (clause-within (s ∷ opposite fewer ∷ opposite child ∷ []) (in_s, (not_fewer, (not_child, tt))))

  or_never-within : (row : List Lit) (j : ℕ) → All (IsBelow bound) row → IsWithin (or_never (slice_get row j))
  or_never-within [] j within = tt
  or_never-within (literal ∷ row) zero within = within 0 literal (omega arith)
  or_never-within (literal ∷ row) (suc j) within = or_never-within row j (λ k d l. within (suc k) d (omega arith))

  at_least-within : (row : List Lit) (j : ℕ) → All (IsBelow bound) row → IsWithin (at_least row j)
  at_least-within row zero within = tt
  at_least-within row (suc j) within = or_never-within row j within

  pieces-within : (make : ℕ → List (List Lit)) (a n : ℕ) → ((j : ℕ) → AreWithin (make j)) → AreWithin (flat_map make (range_with_len a n))
  pieces-within make a zero each = λ k d l. absurd (omega arith)
  pieces-within make a (suc n) each = All-append (All (IsBelow bound)) (make a) (flat_map make (range_with_len (a + 1) n)) (each a) (pieces-within make (a + 1) n each)

  row-within : (before row : List Lit) (child : Lit) → All (IsBelow bound) before → All (IsBelow bound) row → IsBelow bound child → AreWithin (row_clauses before row child)
  row-within before row child in_before in_row in_child =
      pieces-within (λ j. cell_clauses (at_least row (suc j)) (at_least before (suc j)) (at_least before j) (Is child)) 0 (length row)
      (λ j. cell-within (at_least row (suc j)) (at_least before (suc j)) (at_least before j) (Is child)
      (at_least-within row (suc j) in_row) (at_least-within before (suc j) in_before) (at_least-within before j in_before) in_child)

  pub literals-within : (first upto i : ℕ) → first + table_size i upto ≤ bound → All (IsBelow bound) (row_literals first upto i)
  literals-within first upto zero room = λ k d l. absurd (omega arith)
  literals-within first upto (suc i) room =
      All-map (IsBelow bound) positive_of (range_with_len (first + table_size i upto) (min (suc i) upto))
      (λ k d l.
      let size = length-range_with_len (first + table_size i upto) (min (suc i) upto) in
      let value = get_or-range_with_len (first + table_size i upto) (min (suc i) upto) k d (omega arith) in
      omega arith)

  pub rows-within : (first upto i : ℕ) (children : List Lit) → first + table_size (i + length children) upto ≤ bound → All (IsBelow bound) children → AreWithin (rows_from first upto i children)
  rows-within first upto i [] room below = λ k d l. absurd (omega arith)
  rows-within first upto i (child ∷ children) room below =
      let next : i + suc (length children) ≡ suc i + length children = omega arith in
      let rest_room : first + table_size (suc i + length children) upto ≤ bound = subst (λ k. first + table_size k upto ≤ bound) next room in
      let here = table_size-mono upto (suc i) (suc i + length children) (omega arith) in
      let before = table_size-mono upto i (suc i) (omega arith) in
      All-append (All (IsBelow bound)) (row_clauses (row_literals first upto i) (row_literals first upto (suc i)) child) (rows_from first upto (suc i) children)
      (row-within (row_literals first upto i) (row_literals first upto (suc i)) child
      (literals-within first upto i (omega arith)) (literals-within first upto (suc i) (omega arith)) (below 0 child (omega arith)))
      (rows-within first upto (suc i) children rest_room (λ k d l. below (suc k) d (omega arith)))

pub table-within : (first upto : ℕ) (children : List Lit) → All (IsBelow first) children → All (All (IsBelow (first + table_size (length children) upto))) (table_clauses first upto children)
table-within first upto children below =
    let plain : length children ≡ 0 + length children = omega arith in
    let same = ap (λ k. first + table_size k upto) plain in
    rows-within (first + table_size (length children) upto) first upto 0 children (omega arith)
    (All-weaker (IsBelow first) (IsBelow (first + table_size (length children) upto)) (λ literal l. omega arith) children below)
