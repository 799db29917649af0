-- QuickXplain over a table: the conflict was told as Unsat, and without each of its members, with all before it, as Sat.
use Rattle.std.proofs.Common.{◌≡◌, ◌⊎◌, refl, sym, ◌∙◌, ap, inl, inr, ⊎_elim, ℕ, zero, suc, ◌+◌, ◌<◌, ◌≤◌, Bool, true, false, Some, List, [], ◌∷◌, ◌++◌, length, append_assoc, append-nil, arith}
use Rattle.std.specs.Prelude.{Contains}
use Rattle.std.proofs.lemmas.List.Elements.{Contains-append_left, Contains-append_right, Contains-append_cases}
use Rattle.lists.proofs.Members.{none as contains_none}
use Rattle.pref_sets.specs.Answers.{Answer, Done, answer_to}
use Rattle.pref_sets.specs.QuickXplain.{qx}
use Rattle.pref_sets.specs.Plan.{Plan, found, chain}
use Rattle.pref_sets.specs.Positions.{union, lower_half, upper_half}
use Rattle.pref_sets.specs.Preferred.{IsWithin}
use Rattle.pref_sets.proofs.TrimmedBehind.{IsWithin-swap, only}
use Rattle.pref_sets.proofs.AscendingPositions.{HaveSame, union-same, Ascends, Ascends-apart, AreBelow, union-ascends, union-append, halves-join, halves-length}
use Rattle.pref_sets.proofs.QuickXplainPlan.{unsat_plan, qx_plan, qx_part-plan}
use Rattle.certificate.proofs.ToldSets.{HasTold, told-same, Traces, Traces-chain, Traces-over}

module _ (table : List Answer) where
  -- the members of the list, the positions below one, and what is left above it
  abbrev pub Without : List ℕ → List ℕ → List ℕ → ℕ → ℕ → Type 0
  Without list positions left p k = Contains list k ⊎ ((Contains positions k × (k < p)) ⊎ (Contains left k × (p < k)))

  pub record IsToldLeft (list positions left : List ℕ) : Type 0 where
    pub unmet : HasTold table false (Contains (list ++ left))
    pub needed : (p : ℕ) → Contains left p → HasTold table true (Without list positions left p)
    pub within : IsWithin left positions
    pub ascends : Ascends left

  as_told : (sat : Bool) (set list : List ℕ) → Ascends set → HaveSame set list → answer_to table set ≡ Some sat → HasTold table sat (Contains list)
  as_told sat set list rises same e = record { set = set; ascends = rises; there = same.0; back = same.1; told = e }

  none-left : (list positions : List ℕ) → HasTold table false (Contains list) → IsToldLeft list positions []
  none-left list positions bad = record { unmet = rw append-nil bad; needed = λ p m. absurd (contains_none p m); within = λ i m. absurd (contains_none i m); ascends = tt }

  one-left : (x : ℕ) (list : List ℕ) → HasTold table true (Contains list) → HasTold table false (Contains (list ++ x ∷ [])) → IsToldLeft list (x ∷ []) (x ∷ [])
  one-left x list met bad = record {
    unmet = bad;
    needed = λ p m.
        let is : x ≡ p = only x p m in
        told-same table true (Contains list) (Without list (x ∷ []) (x ∷ []) p) (λ k c. inl c)
        (λ k b.
        ⊎_elim (λ (c : Contains list k). c)
        (λ (r : (Contains (x ∷ []) k × (k < p)) ⊎ (Contains (x ∷ []) k × (p < k))).
        ⊎_elim
        (λ (c : Contains (x ∷ []) k × (k < p)). let same : x ≡ k = only x k c.0 in let less : k < p = c.1 in absurd (omega arith))
        (λ (c : Contains (x ∷ []) k × (p < k)). let same : x ≡ k = only x k c.0 in let less : p < k = c.1 in absurd (omega arith)) r)
        b)
        met;
    within = λ i m. m;
    ascends = ((λ y m. absurd (contains_none y m)), tt);
  }

  unsat_plan-told : (set list added positions : List ℕ) (left : Plan) → Ascends set → HaveSame set list → (added ≡ [] → HasTold table true (Contains list))
      → (HasTold table true (Contains list) → Traces table (IsToldLeft list positions) left) → Traces table (IsToldLeft list positions) (unsat_plan set added left)
  unsat_plan-told set list [] positions left rises same start h = h (start refl)
  unsat_plan-told set list (x ∷ added) positions left rises same start h =
      ((λ e. h (as_told true set list rises same e)), (λ e. none-left list positions (as_told false set list rises same e)))

  module _ (first second list lower upper : List ℕ) (below : AreBelow first second) (one : IsToldLeft (list ++ upper) first lower) (two : IsToldLeft (list ++ first) second upper) where
    in_lower : (p : ℕ) → Contains lower p → HasTold table true (Without list (first ++ second) (lower ++ upper) p)
    in_lower p m =
        let there : Contains first p = one.within p m in
        told-same table true (Without (list ++ upper) first lower p) (Without list (first ++ second) (lower ++ upper) p)
        (λ k b.
        ⊎_elim
        (λ (c : Contains (list ++ upper) k).
        ⊎_elim (λ (d : Contains list k). inl d) (λ (d : Contains upper k). inr (inr (Contains-append_right lower upper k d, below p k there (two.within k d)))) (Contains-append_cases list upper k c))
        (λ (r : (Contains first k × (k < p)) ⊎ (Contains lower k × (p < k))).
        ⊎_elim
        (λ (c : Contains first k × (k < p)). inr (inl (Contains-append_left first second k c.0, c.1)))
        (λ (c : Contains lower k × (p < k)). inr (inr (Contains-append_left lower upper k c.0, c.1))) r)
        b)
        (λ k b.
        ⊎_elim
        (λ (c : Contains list k). inl (Contains-append_left list upper k c))
        (λ (r : (Contains (first ++ second) k × (k < p)) ⊎ (Contains (lower ++ upper) k × (p < k))).
        ⊎_elim
        (λ (c : Contains (first ++ second) k × (k < p)).
        let less : k < p = c.1 in
        ⊎_elim (λ (d : Contains first k). inr (inl (d, less))) (λ (d : Contains second k). let more : p < k = below p k there d in absurd (omega arith)) (Contains-append_cases first second k c.0))
        (λ (c : Contains (lower ++ upper) k × (p < k)).
        ⊎_elim (λ (d : Contains lower k). inr (inr (d, c.1))) (λ (d : Contains upper k). inl (Contains-append_right list upper k d)) (Contains-append_cases lower upper k c.0)) r)
        b)
        (one.needed p m)

    in_upper : (p : ℕ) → Contains upper p → HasTold table true (Without list (first ++ second) (lower ++ upper) p)
    in_upper p m =
        let there : Contains second p = two.within p m in
        told-same table true (Without (list ++ first) second upper p) (Without list (first ++ second) (lower ++ upper) p)
        (λ k b.
        ⊎_elim
        (λ (c : Contains (list ++ first) k).
        ⊎_elim (λ (d : Contains list k). inl d) (λ (d : Contains first k). inr (inl (Contains-append_left first second k d, below k p d there))) (Contains-append_cases list first k c))
        (λ (r : (Contains second k × (k < p)) ⊎ (Contains upper k × (p < k))).
        ⊎_elim
        (λ (c : Contains second k × (k < p)). inr (inl (Contains-append_right first second k c.0, c.1)))
        (λ (c : Contains upper k × (p < k)). inr (inr (Contains-append_right lower upper k c.0, c.1))) r)
        b)
        (λ k b.
        ⊎_elim
        (λ (c : Contains list k). inl (Contains-append_left list first k c))
        (λ (r : (Contains (first ++ second) k × (k < p)) ⊎ (Contains (lower ++ upper) k × (p < k))).
        ⊎_elim
        (λ (c : Contains (first ++ second) k × (k < p)).
        ⊎_elim (λ (d : Contains first k). inl (Contains-append_right list first k d)) (λ (d : Contains second k). inr (inl (d, c.1))) (Contains-append_cases first second k c.0))
        (λ (c : Contains (lower ++ upper) k × (p < k)).
        let less : p < k = c.1 in
        ⊎_elim (λ (d : Contains lower k). let more : k < p = below k p (one.within k d) there in absurd (omega arith)) (λ (d : Contains upper k). inr (inr (d, less))) (Contains-append_cases lower upper k c.0)) r)
        b)
        (two.needed p m)

    apart : AreBelow lower upper
    apart = λ x y m n. below x y (one.within x m) (two.within y n)

    unmet_both : HasTold table false (Contains (list ++ (lower ++ upper)))
    unmet_both =
        let swapped : HasTold table false (Contains ((list ++ lower) ++ upper)) =
        told-same table false (Contains ((list ++ upper) ++ lower)) (Contains ((list ++ lower) ++ upper)) (IsWithin-swap list upper lower) (IsWithin-swap list lower upper) one.unmet in
        rw append_assoc at swapped

    halves-told : IsToldLeft list (first ++ second) (union lower upper)
    halves-told = rw (union-append lower upper one.ascends apart) (record {
      unmet = unmet_both;
      needed = λ p m. ⊎_elim (λ (l : Contains lower p). in_lower p l) (λ (r : Contains upper p). in_upper p r) (Contains-append_cases lower upper p m);
      within = λ i m.
          ⊎_elim (λ (l : Contains lower i). Contains-append_left first second i (one.within i l)) (λ (r : Contains upper i). Contains-append_right first second i (two.within i r)) (Contains-append_cases lower upper i m);
      ascends = rw (← union-append lower upper one.ascends apart) (union-ascends lower upper two.ascends);
    })

  nothing_added : (list late : List ℕ) → HasTold table true (Contains list) → late ≡ [] → HasTold table true (Contains (list ++ late))
  nothing_added list late t e = rw (e, append-nil) t

  qx_plan-told : (count : ℕ) (set list added positions : List ℕ) → length positions ≤ count → Ascends positions → Ascends set → HaveSame set list → (added ≡ [] → HasTold table true (Contains list))
      → HasTold table false (Contains (list ++ positions)) → Traces table (IsToldLeft list positions) (qx_plan count set added positions)
  qx_plan-told zero set list added [] l rises ascends same start bad = none-left list [] (rw append-nil at bad)
  qx_plan-told zero set list added (x ∷ positions) l rises ascends same start bad = absurd (omega arith)
  qx_plan-told (suc count) set list added [] l rises ascends same start bad = none-left list [] (rw append-nil at bad)
  qx_plan-told (suc count) set list added (x ∷ []) l rises ascends same start bad =
      unsat_plan-told set list added (x ∷ []) (found (x ∷ [])) ascends same start (λ met. one-left x list met bad)
  qx_plan-told (suc count) set list added (x ∷ y ∷ rest) l rises ascends same start bad =
      let whole : List ℕ = x ∷ y ∷ rest in
      let first : List ℕ = lower_half whole in
      let second : List ℕ = upper_half whole in
      let sizes : (0 < length (lower_half whole)) × (0 < length (upper_half whole)) × (length (lower_half whole) + length (upper_half whole) ≡ length whole) = halves-length whole (omega arith) in
      let apart_all : Ascends first × Ascends second × AreBelow first second = Ascends-apart first second (rw halves-join rises) in
      unsat_plan-told set list added whole (chain (qx_plan count (union set first) first second) (λ upper. chain (qx_plan count (union set upper) upper first) (λ lower. found (union lower upper)))) ascends same start
      (λ met.
      Traces-chain table (IsToldLeft (list ++ first) second) (IsToldLeft list whole) (qx_plan count (union set first) first second) (λ upper. chain (qx_plan count (union set upper) upper first) (λ lower. found (union lower upper)))
      (qx_plan-told count (union set first) (list ++ first) first second (omega (arith, sizes)) apart_all.1 (union-ascends set first apart_all.0) (union-same set list first same)
      (λ e. absurd (omega (arith, sizes, ap (length {A = ℕ}) e)))
      (rw append_assoc (rw halves-join bad)))
      (λ upper two.
      Traces-chain table (IsToldLeft (list ++ upper) first) (IsToldLeft list whole) (qx_plan count (union set upper) upper first) (λ lower. found (union lower upper))
      (qx_plan-told count (union set upper) (list ++ upper) upper first (omega (arith, sizes)) apart_all.0 (union-ascends set upper two.ascends) (union-same set list upper same)
      (λ e. nothing_added list upper met e)
      (told-same table false (Contains ((list ++ first) ++ upper)) (Contains ((list ++ upper) ++ first)) (IsWithin-swap list first upper) (IsWithin-swap list upper first) two.unmet))
      (λ lower one. rw halves-join at (halves-told first second list lower upper apart_all.2 one two))))

  pub qx-told : (positions left : List ℕ) → Ascends positions → HasTold table true (Contains []) → HasTold table false (Contains positions) → qx positions table ≡ Done left → IsToldLeft [] positions left
  qx-told positions left rises met bad e =
      Traces-over table (IsToldLeft [] positions) (qx_plan (length positions) [] [] positions)
      (qx_plan-told (length positions) [] [] [] positions (omega arith) rises tt ((λ i m. m), (λ i m. m)) (λ _. met) bad) left
      (sym (qx_part-plan (length positions) table [] [] positions) ∙ e)
