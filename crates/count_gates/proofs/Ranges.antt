-- What is made of each number of a range.
use Rattle.std.proofs.Common.{◌≡◌, ◌∙◌, refl, sym, ap, ℕ, zero, suc, ◌+◌, ◌<◌, ◌≤◌, List, ◌++◌, map, Some, None, arith}
use Rattle.std.specs.Prelude.{flat_map, slice_get}
use Rattle.std.specs.List.{range_with_len}
use Rattle.std.proofs.lemmas.List.{append-nil, append_assoc}

module _ {X : Type 0} (make : ℕ → X) where
  pub made_at : (a n j : ℕ) → j < n → slice_get (map make (range_with_len a n)) j ≡ Some (make (a + j))
  made_at a zero j l = absurd (omega arith)
  made_at a (suc n) zero l = let e : a ≡ a + 0 = omega arith in ap (λ k. Some (make k)) e
  made_at a (suc n) (suc j) l =
      let l' : j < n = omega arith in
      let e : (a + 1) + j ≡ a + suc j = omega arith in
      made_at (a + 1) n j l' ∙ ap (λ k. Some (make k)) e

  pub made_past : (a n j : ℕ) → n ≤ j → slice_get (map make (range_with_len a n)) j ≡ None
  made_past a zero j l = refl
  made_past a (suc n) zero l = absurd (omega arith)
  made_past a (suc n) (suc j) l = let l' : n ≤ j = omega arith in made_past (a + 1) n j l'

module _ {X : Type 0} where
  pub pieces-more : (make : ℕ → List X) (a n : ℕ) → flat_map make (range_with_len a (suc n)) ≡ flat_map make (range_with_len a n) ++ make (a + n)
  pieces-more make a zero = let e : a ≡ a + 0 = omega arith in append-nil (make a) ∙ ap make e
  pieces-more make a (suc n) =
      let e : (a + 1) + n ≡ a + suc n = omega arith in
      ap (λ rest. make a ++ rest) (pieces-more make (a + 1) n ∙ ap (λ k. flat_map make (range_with_len (a + 1) n) ++ make k) e)
      ∙ sym (append_assoc (make a) (flat_map make (range_with_len (a + 1) n)) (make (a + suc n)))

  pub pieces-same : (make other : ℕ → List X) (a n : ℕ) → ((j : ℕ) → j < n → make (a + j) ≡ other (a + j)) → flat_map make (range_with_len a n) ≡ flat_map other (range_with_len a n)
  pieces-same make other a zero each = refl
  pieces-same make other a (suc n) each =
      let e : a + 0 ≡ a = omega arith in
      let here : make a ≡ other a = ap make (sym e) ∙ each 0 (omega arith) ∙ ap other e in
      let later : (j : ℕ) → j < n → make ((a + 1) + j) ≡ other ((a + 1) + j) =
      λ j l. let s : (a + 1) + j ≡ a + suc j = omega arith in ap make s ∙ each (suc j) (omega arith) ∙ ap other (sym s) in
      ap (λ piece. piece ++ flat_map make (range_with_len (a + 1) n)) here
      ∙ ap (λ rest. other a ++ rest) (pieces-same make other (a + 1) n later)
