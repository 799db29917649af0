-- There is one list of the same sets in order.
use Rattle.std.proofs.Common.{◌≡◌, ℕ, List, [], ◌∷◌, sym, ◌∙◌, subst, refl, ⊎_elim}
use Rattle.std.specs.Prelude.{Contains}
use Rattle.std.specs.declared.cmp.Ordering.TheVariants.{Less}
use Rattle.lists.proofs.Members.{first as contains_first, later as contains_later, none as contains_none, first_or_later}
use Rattle.req_keys.specs.Order.{key_cmp}
use Rattle.req_keys.specs.Wanting.{key_over}
use Rattle.req_keys.proofs.OrderLaws.{greater-turned, one_is_equal}
use Rattle.hs_tree.specs.Listing.{AreInOrder, IsListing}

module _ (n : ℕ) where
  abbrev Before : List ℕ → List ℕ → Type 0
  Before a b = key_cmp (key_over n a) (key_over n b) ≡ Less

  not-both : (a b : List ℕ) → Before a b → Before b a → ⊥
  not-both a b h k = let turned = greater-turned (key_over n b) (key_over n a) h in absurd (cc (turned, k))

  not-itself : (a : List ℕ) → Before a a → ⊥
  not-itself a h = let same = one_is_equal (key_over n a) (key_over n a) refl in absurd (cc (same, h))

  -- the first of the one list is that of the other
  same-first : (x y : List ℕ) (a b : List (List ℕ)) → AreInOrder n (x ∷ a) → AreInOrder n (y ∷ b) → ((z : List ℕ) → Contains (x ∷ a) z → Contains (y ∷ b) z) → ((z : List ℕ) → Contains (y ∷ b) z → Contains (x ∷ a) z) → x ≡ y
  same-first x y a b h k there back =
      ⊎_elim
      (λ (e : y ≡ x). sym e)
      (λ (l : Contains b x).
      ⊎_elim
      (λ (e : x ≡ y). e)
      (λ (m : Contains a y). absurd (not-both x y (h.0 y m) (k.0 x l)))
      (first_or_later x a y (back y (contains_first y b))))
      (first_or_later y b x (there x (contains_first x a)))

  rest-there : (x y : List ℕ) (a b : List (List ℕ)) → AreInOrder n (x ∷ a) → x ≡ y → ((z : List ℕ) → Contains (x ∷ a) z → Contains (y ∷ b) z) → (z : List ℕ) → Contains a z → Contains b z
  rest-there x y a b h same there z m =
      ⊎_elim
      (λ (e : y ≡ z). absurd (not-itself x (subst (Before x) (sym (same ∙ e)) (h.0 z m))))
      (λ (l : Contains b z). l)
      (first_or_later y b z (there z (contains_later x a z m)))

  pub same-sets : (a b : List (List ℕ)) → AreInOrder n a → AreInOrder n b → ((z : List ℕ) → Contains a z → Contains b z) → ((z : List ℕ) → Contains b z → Contains a z) → a ≡ b
  same-sets [] [] h k there back = refl
  same-sets [] (y ∷ b) h k there back = absurd (contains_none y (back y (contains_first y b)))
  same-sets (x ∷ a) [] h k there back = absurd (contains_none x (there x (contains_first x a)))
  same-sets (x ∷ a) (y ∷ b) h k there back =
      let same : x ≡ y = same-first x y a b h k there back in
      let rest : a ≡ b = same-sets a b h.1 k.1 (rest-there x y a b h same there) (rest-there y x b a k (sym same) back) in
      cc

pub one-listing : (P : List ℕ → Type 0) (n most : ℕ) (a b : List (List ℕ)) → IsListing P n most a → IsListing P n most b → a ≡ b
one-listing P n most a b h k =
    same-sets n a b h.part.order k.part.order
    (λ z m. k.whole z (h.part.minimal z m) (h.part.small z m))
    (λ z m. h.whole z (k.part.minimal z m) (k.part.small z m))
