-- What the parts of a certificate show of the two greedy sets, for a property that passes to fewer members.
use Rattle.std.proofs.Common.{◌≡◌, ◌∙◌, ◌⊎◌, refl, sym, ap, subst, inl, inr, ⊎_elim, ℕ, zero, suc, ◌+◌, ◌<◌, ◌≤◌, Bool, true, false, not, ◌&&◌, ◌||◌, ◌==◌, List, [], ◌∷◌, ◌++◌, append-nil, append_assoc, arith}
use Rattle.std.specs.Prelude.{Contains, nat_lt}
use Rattle.std.specs.List.{range_with_len}
use Rattle.std.proofs.lemmas.Bool.{cases_Bool}
use Rattle.std.proofs.lemmas.Bool.Decides.{nat_tests}
use Rattle.std.proofs.lemmas.List.Elements.{Contains-append_left, Contains-append_right, Contains-append_cases}
use Rattle.lists.proofs.Members.{first, later, none}
use Rattle.pref_sets.specs.Greedy.{IsGreedy}
use Rattle.pref_sets.specs.Kept.{IsKept, with_item}
use Rattle.pref_sets.specs.Preferred.{IsDistinct, IsWithin}
use Rattle.pref_sets.specs.Properties.{PassesToFewer}
use Rattle.pref_sets.specs.Trimmed.{IsTrimmed}
use Rattle.pref_sets.specs.inside.TrimmedBehind.{IsTrimmedBehind}
use Rattle.pref_sets.proofs.TrimmedBehind.{IsTrimmed-from_behind, only}
use Rattle.req_keys.specs.Positions.{RiseWithin, has, positions_where}
use Rattle.req_keys.proofs.MemberLaws.{has-from_Contains, Contains-from_has, not_has-from_none}
use Rattle.req_keys.proofs.PositionsLaws.{RiseWithin-filter_range, RiseWithin-range, has-filter_range}
use Rattle.req_keys.proofs.Rises.{members-within}
use Rattle.certificate.specs.Sets.{given_up, refuted_with, met_without}

-- ---- positions that pass a test

module _ (n : ℕ) (test : ℕ → Bool) where
  pub where-from : (i : ℕ) → Contains (positions_where n test) i → (1 ≤ i) × (i ≤ n) × (test i ≡ true)
  where-from i m =
      let bounds = members-within 0 n (positions_where n test) (RiseWithin-filter_range test 1 n 0 n (omega arith) (omega arith)) i m in
      let low = bounds.0 in
      let high = bounds.1 in
      (omega arith, high, sym (has-filter_range test 1 n i (omega arith) (omega arith)) ∙ has-from_Contains (positions_where n test) i m)

  pub where-to : (i : ℕ) → 1 ≤ i → i ≤ n → test i ≡ true → Contains (positions_where n test) i
  where-to i low high t = Contains-from_has (positions_where n test) i (has-filter_range test 1 n i low (omega arith) ∙ t)

-- ---- the kept set

both_hold : (a b c : Bool) → ((a && b) || c) ≡ true → ((a ≡ true) × (b ≡ true)) ⊎ (c ≡ true)
both_hold true true c e = inl (refl, refl)
both_hold true false c e = inr e
both_hold false b c e = inr e

either_holds : (a b c : Bool) → ((a ≡ true) ⊎ ((b ≡ true) × (c ≡ true))) → (a || (b && c)) ≡ true
either_holds true b c e = refl
either_holds false b c (inl e) = absurd (cc)
either_holds false true c (inr e) = e.1
either_holds false false c (inr e) = absurd (cc)

below-from : (i k : ℕ) → nat_lt i k ≡ true → i < k
below-from i k e = grind (arith, nat_tests)

below-to : (i k : ℕ) → i < k → nat_lt i k ≡ true
below-to i k e = grind (arith, nat_tests)

same-from : (i k : ℕ) → (i == k) ≡ true → i ≡ k
same-from i k e = grind (arith, nat_tests)

not-from : (b : Bool) → b ≡ false → not b ≡ true
not-from b e = ap not e

same_or_above : (x y : ℕ) → y ≤ x → (x ≡ y) ⊎ (y < x)
same_or_above x y h =
    ⊎_elim (λ (e : (y == x) ≡ true). inl (sym (same-from y x e))) (λ (f : (y == x) ≡ false). inr (grind (arith, nat_tests))) (cases_Bool (y == x))

-- ascending numbers are distinct
distinct : (low high : ℕ) (xs : List ℕ) → RiseWithin low high xs → IsDistinct xs
distinct low high [] r = tt
distinct low high (x ∷ xs) r = ((λ m. let no = (members-within x high xs r.2 x m).0 in absurd (omega arith)), distinct x high xs r.2)

module _ (P : List ℕ → Type 0) (fewer : PassesToFewer P) (n : ℕ) where
  module _ (kept : List ℕ) (rise : RiseWithin 0 n kept) (holds : P kept) (refuted : (i : ℕ) → Contains (given_up n kept) i → ¬ P (refuted_with n kept i)) where
    -- a position that isn't kept can't join what is kept before it
    skipped : (low : ℕ) (set rest : List ℕ) → kept ≡ set ++ rest → low + 1 ≤ n → ((i : ℕ) → Contains set i → i ≤ low) → RiseWithin (low + 1) n rest → ¬ P (set ++ (low + 1) ∷ [])
    skipped low set rest e inside before behind p =
        let absent : Contains kept (low + 1) → ⊥ =
        λ m. ⊎_elim
        (λ (l : Contains set (low + 1)). let no = before (low + 1) l in absurd (omega arith))
        (λ (r : Contains rest (low + 1)). let no = (members-within (low + 1) n rest behind (low + 1) r).0 in absurd (omega arith))
        (Contains-append_cases set rest (low + 1) (subst (λ l. Contains l (low + 1)) e m)) in
        refuted (low + 1) (where-to n (λ i. not (has kept i)) (low + 1) (omega arith) inside (not-from (has kept (low + 1)) (not_has-from_none kept (low + 1) absent)))
        (fewer (refuted_with n kept (low + 1)) (set ++ (low + 1) ∷ []) (λ i m.
        let t = where-from n (λ k. (nat_lt k (low + 1) && has kept k) || k == low + 1) i m in
        ⊎_elim
        (λ (b : (nat_lt i (low + 1) ≡ true) × (has kept i ≡ true)).
        let small = below-from i (low + 1) b.0 in
        ⊎_elim
        (λ (l : Contains set i). Contains-append_left set ((low + 1) ∷ []) i l)
        (λ (r : Contains rest i). let no = (members-within (low + 1) n rest behind i r).0 in absurd (omega arith))
        (Contains-append_cases set rest i (subst (λ l. Contains l i) e (Contains-from_has kept i b.1))))
        (λ (s : (i == low + 1) ≡ true). Contains-append_right set ((low + 1) ∷ []) i (subst (Contains ((low + 1) ∷ [])) (sym (same-from i (low + 1) s)) (first (low + 1) [])))
        (both_hold (nat_lt i (low + 1)) (has kept i) (i == low + 1) t.2)) p)

    nothing_left : (rest : List ℕ) → RiseWithin n n rest → rest ≡ []
    nothing_left [] r = refl
    nothing_left (x ∷ xs) r = let low = r.0 in let high = r.1 in absurd (omega arith)

    kept_from : (m low : ℕ) (set rest : List ℕ) → kept ≡ set ++ rest → low + m ≡ n → ((i : ℕ) → Contains set i → i ≤ low) → RiseWithin low n rest → IsGreedy P with_item set (range_with_len (low + 1) m) kept
    kept_from zero low set rest e whole before behind =
        let at : low ≡ n = omega arith in
        e ∙ ap (λ r. set ++ r) (nothing_left rest (subst (λ k. RiseWithin k n rest) at behind)) ∙ append-nil set
    kept_from (suc m) low set [] e whole before behind =
        inr (
          skipped low set [] e (omega arith) before tt,
          kept_from m (low + 1) set [] e (omega arith) (λ i c. let b = before i c in omega arith) tt,
        )
    kept_from (suc m) low set (x ∷ xs) e whole before behind =
        let above = behind.0 in
        ⊎_elim
        (λ (s : x ≡ low + 1).
        let pushed : kept ≡ (set ++ (low + 1) ∷ []) ++ xs = e ∙ ap (λ k. set ++ k ∷ xs) s ∙ sym (append_assoc set ((low + 1) ∷ []) xs) in
        inl (
          fewer (set ++ (low + 1) ∷ []) kept (λ i c. subst (λ l. Contains l i) (sym pushed) (Contains-append_left (set ++ (low + 1) ∷ []) xs i c)) holds,
          kept_from m (low + 1) (set ++ (low + 1) ∷ []) xs pushed (omega arith)
              (λ i c.
              ⊎_elim
              (λ (l : Contains set i). let b = before i l in omega arith)
              (λ (r : Contains ((low + 1) ∷ []) i). let o = only (low + 1) i r in omega arith)
              (Contains-append_cases set ((low + 1) ∷ []) i c))
              (subst (λ k. RiseWithin k n xs) s behind.2),
        ))
        (λ (d : low + 1 < x).
        let further : RiseWithin (low + 1) n (x ∷ xs) = (d, behind.1, behind.2) in
        inr (
          skipped low set (x ∷ xs) e (omega arith) before further,
          kept_from m (low + 1) set (x ∷ xs) e (omega arith) (λ i c. let b = before i c in omega arith) further,
        ))
        (same_or_above x (low + 1) (omega arith))

    pub kept-shown : IsKept P (range_with_len 1 n) kept
    kept-shown = kept_from n 0 [] kept refl (omega arith) (λ i c. absurd (none i c)) rise

  module _ (conflict : List ℕ) (rise : RiseWithin 0 n conflict) (fails : ¬ P conflict) (needed : (p : ℕ) → Contains conflict p → P (met_without n conflict p)) where
    no_more : (left : List ℕ) → RiseWithin n n left → left ≡ []
    no_more [] r = refl
    no_more (x ∷ xs) r = let low = r.0 in let high = r.1 in absurd (omega arith)

    -- with all of the conflict there nothing can be met
    unmet : (before left : List ℕ) → IsWithin conflict (before ++ left) → ¬ P (before ++ left)
    unmet before left within p = fails (fewer conflict (before ++ left) within p)

    wider : (before left : List ℕ) (x : ℕ) → IsWithin conflict (before ++ left) → IsWithin conflict ((before ++ x ∷ []) ++ left)
    wider before left x within i c =
        ⊎_elim
        (λ (l : Contains before i). Contains-append_left (before ++ x ∷ []) left i (Contains-append_left before (x ∷ []) i l))
        (λ (r : Contains left i). Contains-append_right (before ++ x ∷ []) left i r)
        (Contains-append_cases before left i (within i c))

    bounded : (before : List ℕ) (low : ℕ) → ((i : ℕ) → Contains before i → (1 ≤ i) × (i ≤ low)) → (i : ℕ) → Contains (before ++ (low + 1) ∷ []) i → (1 ≤ i) × (i ≤ low + 1)
    bounded before low bounds i c =
        ⊎_elim
        (λ (l : Contains before i). let b = bounds i l in let low_i = b.0 in let high_i = b.1 in (low_i, omega arith))
        (λ (r : Contains ((low + 1) ∷ []) i). let o = only (low + 1) i r in (omega arith, omega arith))
        (Contains-append_cases before ((low + 1) ∷ []) i c)

    -- without a member what stands before it and the members behind it can be met
    met_with : (before left : List ℕ) (x : ℕ) → Contains conflict x → IsWithin left conflict → ((i : ℕ) → Contains before i → (1 ≤ i) × (i < x)) → RiseWithin x n left → P (before ++ left)
    met_with before left x member inside bounds behind =
        let top = (members-within 0 n conflict rise x member).1 in
        fewer (before ++ left) (met_without n conflict x) (λ i c.
        ⊎_elim
        (λ (l : Contains before i).
        let b = bounds i l in
        let low = b.0 in
        let high = b.1 in
        where-to n (λ k. nat_lt k x || (nat_lt x k && has conflict k)) i low (omega arith)
        (either_holds (nat_lt i x) (nat_lt x i) (has conflict i) (inl (below-to i x high))))
        (λ (r : Contains left i).
        let b = members-within x n left behind i r in
        let low = b.0 in
        let high = b.1 in
        where-to n (λ k. nat_lt k x || (nat_lt x k && has conflict k)) i (omega arith) high
        (either_holds (nat_lt i x) (nat_lt x i) (has conflict i) (inr (below-to x i low, has-from_Contains conflict i (inside i r)))))
        (Contains-append_cases before left i c)) (needed x member)

    conflict_from : (m low : ℕ) (before left : List ℕ) → IsWithin conflict (before ++ left) → IsWithin left conflict → low + m ≡ n
        → ((i : ℕ) → Contains before i → (1 ≤ i) × (i ≤ low)) → RiseWithin low n left → IsTrimmedBehind (λ s. ¬ P s) before (range_with_len (low + 1) m) left
    conflict_from zero low before left within inside whole bounds behind =
        let at : low ≡ n = omega arith in
        no_more left (subst (λ k. RiseWithin k n left) at behind)
    conflict_from (suc m) low before [] within inside whole bounds behind = (
      [],
      conflict_from m (low + 1) (before ++ (low + 1) ∷ []) [] (wider before [] (low + 1) within) inside (omega arith) (bounded before low bounds) tt,
      inl (unmet before [] within, refl),
    )
    conflict_from (suc m) low before (x ∷ xs) within inside whole bounds behind =
        let above = behind.0 in
        ⊎_elim
        (λ (s : x ≡ low + 1).
        let moved : (i : ℕ) → Contains (before ++ x ∷ xs) i → Contains ((before ++ (low + 1) ∷ []) ++ xs) i =
        λ i c. subst (λ l. Contains l i) (ap (λ k. before ++ k ∷ xs) s ∙ sym (append_assoc before ((low + 1) ∷ []) xs)) c in (
          xs,
          conflict_from m (low + 1) (before ++ (low + 1) ∷ []) xs (λ i c. moved i (within i c)) (λ i c. inside i (later x xs i c)) (omega arith) (bounded before low bounds)
              (subst (λ k. RiseWithin k n xs) s behind.2),
          inr (
            (λ unmet. unmet (met_with before xs x (inside x (first x xs)) (λ i c. inside i (later x xs i c)) (λ i c. let b = bounds i c in let low_i = b.0 in let high_i = b.1 in (low_i, omega arith)) behind.2)),
            ap (λ k. k ∷ xs) s,
          ),
        ))
        (λ (d : low + 1 < x).
        let further : RiseWithin (low + 1) n (x ∷ xs) = (d, behind.1, behind.2) in (
          x ∷ xs,
          conflict_from m (low + 1) (before ++ (low + 1) ∷ []) (x ∷ xs) (wider before (x ∷ xs) (low + 1) within) inside (omega arith) (bounded before low bounds) further,
          inl (unmet before (x ∷ xs) within, refl),
        ))
        (same_or_above x (low + 1) (omega arith))

    pub conflict-shown : IsTrimmed (λ s. ¬ P s) (range_with_len 1 n) conflict
    conflict-shown =
        IsTrimmed-from_behind (λ s. ¬ P s) (range_with_len 1 n) conflict (distinct 0 n (range_with_len 1 n) (RiseWithin-range 1 n 0 n (omega arith) (omega arith)))
        (conflict_from n 0 [] conflict (λ i c. c) (λ i c. c) (omega arith) (λ i c. absurd (none i c)) rise)
