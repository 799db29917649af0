-- Chains that are ended one literal after the other.
use Rattle.std.proofs.Common.{◌≡◌, ◌∙◌, sym, ap, ⊎_elim, inl, inr, ℕ, ◌+◌, ◌<◌, List, length, get_or, set, take, arith}
use Rattle.std.proofs.lemmas.Bool.{cases_eq}
use Rattle.std.proofs.lemmas.List.{get_or-set_same, get_or-set_other, get_or-take, length-set, length-take}
use Rattle.clauses.specs.declared.literal.Lit.{Lit}
use Rattle.clauses.specs.Clause.{negative_of}
use Rattle.propagation.specs.inside.Trails.{code_of}
use Rattle.propagation.specs.inside.Watching.{IsReleased, nothing, watched_at}

module _ (old : List ℕ) (watched : List Lit) (heads : List ℕ) (i k : ℕ) (within : i < length watched) (is : k ≡ code_of (watched_at watched i)) (there : code_of (watched_at watched i) < length old) (released : IsReleased old (take i watched) heads) where
  inside : k < length heads
  inside = let size = released.0 in omega arith

  -- the literal of an entry among one more
  entry_of : (slot : ℕ) → ¬ slot ≡ k → ((entry : ℕ) → entry < length (take i watched) → ¬ code_of (watched_at (take i watched) entry) ≡ slot) →
      (entry : ℕ) → entry < length (take (i + 1) watched) → ¬ code_of (watched_at (take (i + 1) watched) entry) ≡ slot
  entry_of slot ne before entry low e =
      let size = length-take (i + 1) watched in
      let fewer = length-take i watched in
      let here : watched_at (take (i + 1) watched) entry ≡ watched_at watched entry = get_or-take (i + 1) watched entry (negative_of 0) (omega arith) in
      ⊎_elim
      (λ (same : entry ≡ i). absurd (ne (sym e ∙ ap code_of here ∙ ap (λ n. code_of (watched_at watched n)) same ∙ sym is)))
      (λ (other : ¬ entry ≡ i).
      let early : entry < i = omega arith in
      before entry (omega arith) (ap code_of (get_or-take i watched entry (negative_of 0) early) ∙ sym (ap code_of here) ∙ e))
      (cases_eq entry i)

  pub released-next : IsReleased old (take (i + 1) watched) (set heads k nothing)
  released-next = (
    length-set heads k nothing ∙ released.0,
    λ slot low.
        ⊎_elim
        (λ (same : slot ≡ k). inl (ap (λ n. get_or (set heads k nothing) n 0) same ∙ get_or-set_same heads k nothing 0 inside))
        (λ (ne : ¬ slot ≡ k).
        let kept = get_or-set_other heads k slot nothing 0 ne in
        ⊎_elim
        (λ (e : get_or heads slot 0 ≡ nothing). inl (kept ∙ e))
        (λ (both : (get_or heads slot 0 ≡ get_or old slot 0) × ((entry : ℕ) → entry < length (take i watched) → ¬ code_of (watched_at (take i watched) entry) ≡ slot)).
        inr (kept ∙ both.0, entry_of slot ne both.1))
        (released.1 slot low))
        (cases_eq slot k),
  )
