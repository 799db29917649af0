-- FastDiag over a table: the kept set was told as Sat, and each position that isn't kept, with what is kept before it, as Unsat.
use Rattle.std.proofs.Common.{◌≡◌, ◌⊎◌, refl, sym, ◌∙◌, inl, inr, ⊎_elim, ℕ, zero, suc, ◌+◌, ◌<◌, ◌≤◌, Bool, true, false, Some, List, [], ◌∷◌, ◌++◌, length, append_assoc, append-nil, arith}
use Rattle.std.specs.Prelude.{Contains}
use Rattle.std.proofs.lemmas.List.Elements.{Contains-append_left, Contains-append_right, Contains-append_cases}
use Rattle.std.proofs.lemmas.Slice.Eq.{bytes_eq-Decides}
use Rattle.lists.proofs.Members.{first as contains_first, none as contains_none}
use Rattle.pref_sets.specs.Answers.{Answer, Done, answer_to, same_set}
use Rattle.pref_sets.specs.FastDiag.{fd}
use Rattle.pref_sets.specs.Plan.{Plan, found, chain}
use Rattle.pref_sets.specs.Positions.{union, lower_half, upper_half}
use Rattle.pref_sets.specs.Preferred.{IsWithin}
use Rattle.pref_sets.proofs.TrimmedBehind.{only}
use Rattle.pref_sets.proofs.AscendingPositions.{HaveSame, union-same, Ascends, Ascends-apart, AreBelow, union-ascends, union-append, halves-join, halves-length}
use Rattle.pref_sets.proofs.FastDiagPlan.{sat_plan, fd_plan, fd_part-plan}
use Rattle.certificate.proofs.ToldSets.{HasTold, told-same, Traces, Traces-chain, Traces-over}

module _ (table : List Answer) where
  -- the members of the list, those that are kept below the position, and the position
  abbrev pub Beside : List ℕ → List ℕ → ℕ → ℕ → Type 0
  Beside list kept i k = Contains list k ⊎ ((Contains kept k × (k < i)) ⊎ (k ≡ i))

  pub record IsToldBehind (list positions kept : List ℕ) : Type 0 where
    pub given_up : (i : ℕ) → Contains positions i → (Contains kept i → ⊥) → HasTold table false (Beside list kept i)
    pub met : HasTold table true (Contains list) → HasTold table true (Contains (list ++ kept))
    pub within : IsWithin kept positions
    pub ascends : Ascends kept

  as_told : (sat : Bool) (positions set list : List ℕ) → Ascends positions → HaveSame set list → answer_to table (union set positions) ≡ Some sat → HasTold table sat (Contains (list ++ positions))
  as_told sat positions set list rises same e =
      let both : HaveSame (union set positions) (list ++ positions) = union-same set list positions same in
      record { set = union set positions; ascends = union-ascends set positions rises; there = both.0; back = both.1; told = e }

  sat_plan-told : (positions set list : List ℕ) (known : Bool) (left : Plan) → Ascends positions → HaveSame set list → (known ≡ true → HasTold table false (Contains (list ++ positions)))
      → (HasTold table false (Contains (list ++ positions)) → Traces table (IsToldBehind list positions) left) → Traces table (IsToldBehind list positions) (sat_plan positions set known left)
  sat_plan-told positions set list true left rises same bad h = h (bad refl)
  sat_plan-told positions set list false left rises same bad h = (
    (λ e. record { given_up = λ i m n. absurd (n m); met = λ _. as_told true positions set list rises same e; within = λ i m. m; ascends = rises }),
    (λ e. h (as_told false positions set list rises same e)),
  )

  none-told : (list : List ℕ) → IsToldBehind list [] []
  none-told list = record { given_up = λ i m n. absurd (contains_none i m); met = λ t. rw append-nil t; within = λ i m. m; ascends = tt }

  one-told : (x : ℕ) (list : List ℕ) → HasTold table false (Contains (list ++ x ∷ [])) → IsToldBehind list (x ∷ []) []
  one-told x list bad = record {
    given_up = λ i m n.
        let is : x ≡ i = only x i m in
        told-same table false (Contains (list ++ x ∷ [])) (Beside list [] i)
        (λ k c. ⊎_elim (λ (l : Contains list k). inl l) (λ (r : Contains (x ∷ []) k). inr (inr (sym (only x k r) ∙ is))) (Contains-append_cases list (x ∷ []) k c))
        (λ k b.
        ⊎_elim
        (λ (l : Contains list k). Contains-append_left list (x ∷ []) k l)
        (λ (r : (Contains [] k × (k < i)) ⊎ (k ≡ i)).
        ⊎_elim (λ (c : Contains [] k × (k < i)). absurd (contains_none k c.0)) (λ (e : k ≡ i). Contains-append_right list (x ∷ []) k (rw (e, ← is) (contains_first x []))) r)
        b)
        bad;
    met = λ t. rw append-nil t;
    within = λ i m. absurd (contains_none i m);
    ascends = tt;
  }

  halves-told : (first second list lower upper : List ℕ) → AreBelow first second → IsToldBehind list first lower → IsToldBehind (list ++ lower) second upper → IsToldBehind list (first ++ second) (lower ++ upper)
  halves-told first second list lower upper below one two = record {
    given_up = λ i m n. ⊎_elim (λ (l : Contains first i). in_first i l n) (λ (r : Contains second i). in_second i r n) (Contains-append_cases first second i m);
    met = λ t. rw append_assoc at (two.met (one.met t));
    within = λ i m.
        ⊎_elim (λ (l : Contains lower i). Contains-append_left first second i (one.within i l)) (λ (r : Contains upper i). Contains-append_right first second i (two.within i r)) (Contains-append_cases lower upper i m);
    ascends = both-ascend lower upper one.ascends two.ascends (λ x y m n. below x y (one.within x m) (two.within y n));
  } where
    both-ascend : (a b : List ℕ) → Ascends a → Ascends b → AreBelow a b → Ascends (a ++ b)
    both-ascend a b h k less = rw (← union-append a b h less) (union-ascends a b k)

    in_first : (i : ℕ) → Contains first i → (Contains (lower ++ upper) i → ⊥) → HasTold table false (Beside list (lower ++ upper) i)
    in_first i l n =
        told-same table false (Beside list lower i) (Beside list (lower ++ upper) i)
        (λ k b.
        ⊎_elim (λ (c : Contains list k). inl c)
        (λ (r : (Contains lower k × (k < i)) ⊎ (k ≡ i)). ⊎_elim (λ (c : Contains lower k × (k < i)). inr (inl (Contains-append_left lower upper k c.0, c.1))) (λ (e : k ≡ i). inr (inr e)) r) b)
        (λ k b.
        ⊎_elim (λ (c : Contains list k). inl c)
        (λ (r : (Contains (lower ++ upper) k × (k < i)) ⊎ (k ≡ i)).
        ⊎_elim
        (λ (c : Contains (lower ++ upper) k × (k < i)).
        let less : k < i = c.1 in
        ⊎_elim (λ (d : Contains lower k). inr (inl (d, less))) (λ (d : Contains upper k). let more : i < k = below i k l (two.within k d) in absurd (omega arith)) (Contains-append_cases lower upper k c.0))
        (λ (e : k ≡ i). inr (inr e)) r) b)
        (one.given_up i l (λ c. n (Contains-append_left lower upper i c)))

    in_second : (i : ℕ) → Contains second i → (Contains (lower ++ upper) i → ⊥) → HasTold table false (Beside list (lower ++ upper) i)
    in_second i l n =
        told-same table false (Beside (list ++ lower) upper i) (Beside list (lower ++ upper) i)
        (λ k b.
        ⊎_elim
        (λ (c : Contains (list ++ lower) k). ⊎_elim (λ (d : Contains list k). inl d) (λ (d : Contains lower k). inr (inl (Contains-append_left lower upper k d, below k i (one.within k d) l))) (Contains-append_cases list lower k c))
        (λ (r : (Contains upper k × (k < i)) ⊎ (k ≡ i)). ⊎_elim (λ (c : Contains upper k × (k < i)). inr (inl (Contains-append_right lower upper k c.0, c.1))) (λ (e : k ≡ i). inr (inr e)) r) b)
        (λ k b.
        ⊎_elim (λ (c : Contains list k). inl (Contains-append_left list lower k c))
        (λ (r : (Contains (lower ++ upper) k × (k < i)) ⊎ (k ≡ i)).
        ⊎_elim
        (λ (c : Contains (lower ++ upper) k × (k < i)).
        ⊎_elim (λ (d : Contains lower k). inl (Contains-append_right list lower k d)) (λ (d : Contains upper k). inr (inl (d, c.1))) (Contains-append_cases lower upper k c.0))
        (λ (e : k ≡ i). inr (inr e)) r) b)
        (two.given_up i l (λ c. n (Contains-append_right lower upper i c)))

  union-told : (first second list lower upper : List ℕ) → AreBelow first second → IsToldBehind list first lower → IsToldBehind (list ++ lower) second upper → IsToldBehind list (first ++ second) (union lower upper)
  union-told first second list lower upper below one two =
      rw (union-append lower upper one.ascends (λ x y m n. below x y (one.within x m) (two.within y n))) (halves-told first second list lower upper below one two)

  fd_plan-told : (count : ℕ) (positions set list : List ℕ) (known : Bool) → length positions ≤ count → Ascends positions → HaveSame set list → (known ≡ true → HasTold table false (Contains (list ++ positions)))
      → Traces table (IsToldBehind list positions) (fd_plan count positions set known)
  fd_plan-told zero [] set list known l rises same bad = none-told list
  fd_plan-told zero (x ∷ positions) set list known l rises same bad = absurd (omega arith)
  fd_plan-told (suc count) [] set list known l rises same bad = none-told list
  fd_plan-told (suc count) (x ∷ []) set list known l rises same bad = sat_plan-told (x ∷ []) set list known (found []) rises same bad (λ n. one-told x list n)
  fd_plan-told (suc count) (x ∷ y ∷ rest) set list known l rises same bad =
      let whole : List ℕ = x ∷ y ∷ rest in
      let first : List ℕ = lower_half whole in
      let second : List ℕ = upper_half whole in
      let sizes : (0 < length (lower_half whole)) × (0 < length (upper_half whole)) × (length (lower_half whole) + length (upper_half whole) ≡ length whole) = halves-length whole (omega arith) in
      let apart : Ascends first × Ascends second × AreBelow first second = Ascends-apart first second (rw halves-join rises) in
      sat_plan-told whole set list known (chain (fd_plan count first set false) (λ lower. chain (fd_plan count second (union set lower) (same_set lower first)) (λ upper. found (union lower upper)))) rises same bad
      (λ n.
      Traces-chain table (IsToldBehind list first) (IsToldBehind list whole) (fd_plan count first set false) (λ lower. chain (fd_plan count second (union set lower) (same_set lower first)) (λ upper. found (union lower upper)))
      (fd_plan-told count first set list false (omega (arith, sizes)) apart.0 same (λ e. absurd (cc)))
      (λ lower one.
      Traces-chain table (IsToldBehind (list ++ lower) second) (IsToldBehind list whole) (fd_plan count second (union set lower) (same_set lower first)) (λ upper. found (union lower upper))
      (fd_plan-told count second (union set lower) (list ++ lower) (same_set lower first) (omega (arith, sizes)) apart.1 (union-same set list lower same)
      (λ e.
      let all : lower ≡ first = (bytes_eq-Decides lower first).0 e in
      rw all (rw append_assoc (rw halves-join n))))
      (λ upper two. rw halves-join at (union-told first second list lower upper apart.2 one two))))

  pub fd-told : (positions kept : List ℕ) → Ascends positions → HasTold table false (Contains positions) → fd positions table ≡ Done kept → IsToldBehind [] positions kept
  fd-told positions kept rises bad e =
      Traces-over table (IsToldBehind [] positions) (fd_plan (length positions) positions [] true)
      (fd_plan-told (length positions) positions [] [] true (omega arith) rises ((λ i m. m), (λ i m. m)) (λ _. bad)) kept
      (sym (fd_part-plan (length positions) table positions [] true) ∙ e)
