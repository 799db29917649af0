-- What the clauses of a cell and of a row say of an assignment.
use Rattle.std.proofs.Common.{◌≡◌, ◌∙◌, refl, sym, ap, ℕ, zero, suc, ◌+◌, ◌<◌, Bool, true, false, cond, not, ◌&&◌, ◌||◌, List, [], ◌∷◌, ◌++◌, map, arith}
use Rattle.std.specs.Prelude.{flat_map, slice_index_or}
use Rattle.std.specs.List.{list_any, range_with_len}
use Rattle.std.proofs.lemmas.Bool.{false≢true, and_parts, and_from}
use Rattle.std.proofs.lemmas.List.Folds.{list_all-append}
use Rattle.clauses.specs.declared.literal.Lit.{Lit}
use Rattle.clauses.specs.Clause.{is_true_in, is_satisfied, are_satisfied}
use Rattle.count_gates.specs.Table.{Member, Always, Never, Is, opposite, clause_of, cell_clauses}

module _ (values : List Bool) where
  -- whether the assignment makes a member true
  abbrev pub truth : Member → Bool
  truth Always = true
  truth Never = false
  truth (Is literal) = is_true_in values literal

  turned : (sign value : Bool) → cond (not sign) value (not value) ≡ not (cond sign value (not value))
  turned true value = refl
  turned false true = refl
  turned false false = refl

  truth-opposite : (member : Member) → truth (opposite member) ≡ not (truth member)
  truth-opposite Always = refl
  truth-opposite Never = refl
  truth-opposite (Is literal) = turned literal.positive (slice_index_or values literal.var false)

  spread : (t a b : Bool) → ((t || a) && (t || b)) ≡ (t || (a && b))
  spread true a b = refl
  spread false a b = refl

  or_true : (t : Bool) → true ≡ (t || true)
  or_true true = refl
  or_true false = refl

  with_literal : (literal : Lit) (clauses : List (List Lit)) → are_satisfied values (map (λ rest. literal ∷ rest) clauses) ≡ (is_true_in values literal || are_satisfied values clauses)
  with_literal literal [] = or_true (is_true_in values literal)
  with_literal literal (clause ∷ clauses) =
      ap (λ rest. (is_true_in values literal || is_satisfied values clause) && rest) (with_literal literal clauses)
      ∙ spread (is_true_in values literal) (is_satisfied values clause) (are_satisfied values clauses)

  -- the clause of some members is true where one of them is
  pub truth-clause : (members : List Member) → are_satisfied values (clause_of members) ≡ list_any truth members
  truth-clause [] = refl
  truth-clause (Always ∷ members) = refl
  truth-clause (Never ∷ members) = truth-clause members
  truth-clause (Is literal ∷ members) = with_literal literal (clause_of members) ∙ ap (λ rest. is_true_in values literal || rest) (truth-clause members)

  -- the four clauses of a cell, as facts on truths
  four :
      (s a b c : Bool)
      → (((not s || (a || (c || false))) && (not s || (a || (b || false)))) && (s || (not a || false)) && (s || (not b || (not c || false))))
      ≡ cond s (a || (b && c)) (not (a || (b && c)))
  four true true b c = refl
  four true false true true = refl
  four true false true false = refl
  four true false false true = refl
  four true false false false = refl
  four false true b c = refl
  four false false true true = refl
  four false false true false = refl
  four false false false c = refl

  truth-four : (a b c d : List (List Lit)) → are_satisfied values (a ++ b ++ c ++ d) ≡ (are_satisfied values a && are_satisfied values b && are_satisfied values c && are_satisfied values d)
  truth-four a b c d =
      let p = is_satisfied values in
      list_all-append p (a ++ b ++ c) d
      ∙ ap (λ t. t && are_satisfied values d) (list_all-append p (a ++ b) c ∙ ap (λ t. t && are_satisfied values c) (list_all-append p a b))

  pub truth-cell :
      (s same fewer child : Member)
      → are_satisfied values (cell_clauses s same fewer child)
      ≡ cond (truth s) (truth same || (truth fewer && truth child)) (not (truth same || (truth fewer && truth child)))
  truth-cell s same fewer child =
      let no_s = truth-opposite s in
      let first = truth-clause (opposite s ∷ same ∷ child ∷ []) ∙ ap (λ t. t || (truth same || (truth child || false))) no_s in
      let second = truth-clause (opposite s ∷ same ∷ fewer ∷ []) ∙ ap (λ t. t || (truth same || (truth fewer || false))) no_s in
      let third = truth-clause (s ∷ opposite same ∷ []) ∙ ap (λ t. truth s || (t || false)) (truth-opposite same) in
      let fourth =
      truth-clause (s ∷ opposite fewer ∷ opposite child ∷ [])
      ∙ (λ i. truth s || (truth-opposite fewer i || (truth-opposite child i || false))) in
      truth-four (clause_of (opposite s ∷ same ∷ child ∷ [])) (clause_of (opposite s ∷ same ∷ fewer ∷ [])) (clause_of (s ∷ opposite same ∷ [])) (clause_of (s ∷ opposite fewer ∷ opposite child ∷ []))
      ∙ (λ i. first i && second i && third i && fourth i)
      ∙ four (truth s) (truth same) (truth fewer) (truth child)

  agree-eq : (x y : Bool) → cond x y (not y) ≡ true → x ≡ y
  agree-eq true y e = sym e
  agree-eq false true e = absurd (false≢true e)
  agree-eq false false e = refl

  eq-agree : (x : Bool) → cond x x (not x) ≡ true
  eq-agree true = refl
  eq-agree false = refl

  pub cell-fixed : (s same fewer child : Member) → are_satisfied values (cell_clauses s same fewer child) ≡ true → truth s ≡ (truth same || (truth fewer && truth child))
  cell-fixed s same fewer child e = agree-eq (truth s) (truth same || (truth fewer && truth child)) (sym (truth-cell s same fewer child) ∙ e)

  pub cell-holds : (s same fewer child : Member) → truth s ≡ (truth same || (truth fewer && truth child)) → are_satisfied values (cell_clauses s same fewer child) ≡ true
  cell-holds s same fewer child e =
      truth-cell s same fewer child
      ∙ ap (λ b. cond (truth s) b (not b)) (sym e)
      ∙ eq-agree (truth s)

  -- clauses made of each number of a range
  pub pieces-parts : (make : ℕ → List (List Lit)) (a n : ℕ) → are_satisfied values (flat_map make (range_with_len a n)) ≡ true → (j : ℕ) → j < n → are_satisfied values (make (a + j)) ≡ true
  pieces-parts make a zero e j l = absurd (omega arith)
  pieces-parts make a (suc n) e zero l =
      let both = and_parts (are_satisfied values (make a)) (are_satisfied values (flat_map make (range_with_len (a + 1) n))) (sym (list_all-append (is_satisfied values) (make a) (flat_map make (range_with_len (a + 1) n))) ∙ e) in
      let plain : a + 0 ≡ a = omega arith in
      ap (λ k. are_satisfied values (make k)) plain ∙ both.0
  pieces-parts make a (suc n) e (suc j) l =
      let both = and_parts (are_satisfied values (make a)) (are_satisfied values (flat_map make (range_with_len (a + 1) n))) (sym (list_all-append (is_satisfied values) (make a) (flat_map make (range_with_len (a + 1) n))) ∙ e) in
      let next : a + suc j ≡ (a + 1) + j = omega arith in
      ap (λ k. are_satisfied values (make k)) next ∙ pieces-parts make (a + 1) n both.1 j (omega arith)

  pub pieces-from : (make : ℕ → List (List Lit)) (a n : ℕ) → ((j : ℕ) → j < n → are_satisfied values (make (a + j)) ≡ true) → are_satisfied values (flat_map make (range_with_len a n)) ≡ true
  pieces-from make a zero each = refl
  pieces-from make a (suc n) each =
      let plain : a ≡ a + 0 = omega arith in
      let later : (j : ℕ) → j < n → are_satisfied values (make ((a + 1) + j)) ≡ true = λ j l.
      let next : (a + 1) + j ≡ a + suc j = omega arith in
      ap (λ k. are_satisfied values (make k)) next ∙ each (suc j) (omega arith) in
      list_all-append (is_satisfied values) (make a) (flat_map make (range_with_len (a + 1) n))
      ∙ and_from (are_satisfied values (make a)) (are_satisfied values (flat_map make (range_with_len (a + 1) n)))
      (ap (λ k. are_satisfied values (make k)) plain ∙ each 0 (omega arith))
      (pieces-from make (a + 1) n later)
