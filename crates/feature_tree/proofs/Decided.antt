-- The tests that compute agree with the definitions.
use Rattle.std.proofs.Common.{◌≡◌, ◌∙◌, refl, subst, ℕ, zero, suc, ◌+◌, Bool, true, false, not, ◌&&◌, ◌||◌, IsTrue, List, [], ◌∷◌, map, Contains, Some, length, arith}
use Rattle.std.specs.List.{list_all, list_any, enumerate_from, slice_get}
use Rattle.std.proofs.lemmas.Bool.Decides.{Decides-eqb}
use Rattle.std.proofs.lemmas.List.Elements.{All-contains, All-weaker}
use Rattle.std.proofs.lemmas.List.Folds.{list_any-append, Any-from_list_any}
use Rattle.std.proofs.lemmas.List.Sums.{AllPass-from_list_all, list_all-from_AllPass}
use Rattle.lists.proofs.Appends.{list_any-map}
use Rattle.feature_tree.specs.declared.feature.Feature.{Feature}
use Rattle.feature_tree.specs.Truth.{is_in, truth, Holds}
use Rattle.feature_tree.specs.Consistent.{ConsistentIsMonotone}
use Rattle.feature_tree.specs.Decided.{is_settled, is_product, sets, ProductIsDecided, ConsistentIsDecided}
use Rattle.feature_tree.proofs.Products.{both, of_both, product, settled_of_product, constraints_of_product}

pub consistent_monotone : ConsistentIsMonotone
consistent_monotone model part whole among consistent =
    (consistent.0, consistent.1, All-weaker (Contains whole) (Holds consistent.0) (λ formula in_whole. All-contains (Holds consistent.0) whole formula consistent.2 in_whole) part among)

-- ---- products

-- the test of a numbered feature: if it is in the set, it is settled
abbrev passes : List Bool → ℕ × Feature → Bool
passes set numbered = not (is_in set numbered.0) || is_settled set numbered.1

if_member : (member settled : Bool) → IsTrue (not member || settled) → IsTrue member → IsTrue settled
if_member true settled t m = t
if_member false settled t m = absurd (cc)

of_member : (member settled : Bool) → (IsTrue member → IsTrue settled) → IsTrue (not member || settled)
of_member true settled f = f refl
of_member false settled f = refl

members_of_test : (set : List Bool) (n : ℕ) (features : List Feature) → IsTrue (list_all (passes set) (enumerate_from n features))
    → (i : ℕ) (feature : Feature) → slice_get features i ≡ Some feature → IsTrue (is_in set (n + i)) → IsTrue (is_settled set feature)
members_of_test set n [] t i feature is member = absurd (cc)
members_of_test set n (x ∷ xs) t zero feature is member =
    let same : x ≡ feature = cc in
    let here : n + 0 ≡ n = omega arith in
    subst (λ f. IsTrue (is_settled set f)) same (if_member (is_in set n) (is_settled set x) (both (passes set (n, x)) (list_all (passes set) (enumerate_from (n + 1) xs)) t).0 (subst (λ k. IsTrue (is_in set k)) here member))
members_of_test set n (x ∷ xs) t (suc i) feature is member =
    let there : n + suc i ≡ (n + 1) + i = omega arith in
    members_of_test set (n + 1) xs (both (passes set (n, x)) (list_all (passes set) (enumerate_from (n + 1) xs)) t).1 i feature is (subst (λ k. IsTrue (is_in set k)) there member)

test_of_members : (set : List Bool) (n : ℕ) (features : List Feature)
    → ((i : ℕ) (feature : Feature) → slice_get features i ≡ Some feature → IsTrue (is_in set (n + i)) → IsTrue (is_settled set feature))
    → IsTrue (list_all (passes set) (enumerate_from n features))
test_of_members set n [] each = refl
test_of_members set n (x ∷ xs) each =
    let here : n ≡ n + 0 = omega arith in
    of_both (passes set (n, x)) (list_all (passes set) (enumerate_from (n + 1) xs))
    (of_member (is_in set n) (is_settled set x) (λ member. each 0 x refl (subst (λ k. IsTrue (is_in set k)) here member)))
    (test_of_members set (n + 1) xs (λ i feature is member.
    let there : (n + 1) + i ≡ n + suc i = omega arith in
    each (suc i) feature is (subst (λ k. IsTrue (is_in set k)) there member)))

pub product_decided : ProductIsDecided
product_decided model set = (
  (λ t.
      let p = both _ _ t in
      let q = both _ _ p.0 in
      let r = both _ _ q.0 in
      product model set ((Decides-eqb (length set) (length model.features)).0 r.0) r.1
      (λ i feature is member. members_of_test set 0 model.features q.1 i feature is (let here : i ≡ 0 + i = omega arith in subst (λ k. IsTrue (is_in set k)) here member))
      p.1),
  (λ is.
      of_both _ _
      (of_both _ _
      (of_both _ _ ((Decides-eqb (length set) (length model.features)).1 is.sized) is.root)
      (test_of_members set 0 model.features (λ i feature read member. settled_of_product model set is i feature read (let here : 0 + i ≡ i = omega arith in subst (λ k. IsTrue (is_in set k)) here member))))
      (constraints_of_product model set is)),
)

-- ---- consistency

or_left : (a b : Bool) → IsTrue a → IsTrue (a || b)
or_left true b t = refl
or_left false b t = absurd (cc)

or_right : (a b : Bool) → IsTrue b → IsTrue (a || b)
or_right true b t = refl
or_right false b t = t

-- a set that passes a test is among those that are tried
tried : (p : List Bool → Bool) (set : List Bool) → IsTrue (p set) → IsTrue (list_any p (sets (length set)))
tried p [] t = or_left (p []) false t
tried p (true ∷ set) t =
    list_any-append p (map (λ rest. true ∷ rest) (sets (length set))) (map (λ rest. false ∷ rest) (sets (length set)))
    ∙ or_left _ _ (list_any-map (λ rest. true ∷ rest) p (sets (length set)) ∙ tried (λ rest. p (true ∷ rest)) set t)
tried p (false ∷ set) t =
    list_any-append p (map (λ rest. true ∷ rest) (sets (length set))) (map (λ rest. false ∷ rest) (sets (length set)))
    ∙ or_right _ _ (list_any-map (λ rest. false ∷ rest) p (sets (length set)) ∙ tried (λ rest. p (false ∷ rest)) set t)

pub consistent_decided : ConsistentIsDecided
consistent_decided model formulas =
    let test : List Bool → Bool = λ set. is_product model set && list_all (truth set) formulas in (
      (λ t.
          let found = Any-from_list_any test (sets (length model.features)) t in
          let set : List Bool = found.1 in
          let passed = both (is_product model set) (list_all (truth set) formulas) found.4 in
          (set, (product_decided model set).0 passed.0, AllPass-from_list_all (truth set) formulas passed.1)),
      (λ consistent.
          let set : List Bool = consistent.0 in
          let passed : IsTrue (test set) = of_both (is_product model set) (list_all (truth set) formulas) ((product_decided model set).1 consistent.1) (list_all-from_AllPass (truth set) formulas consistent.2) in
          subst (λ n. IsTrue (list_any test (sets n))) consistent.1.sized (tried test set passed)),
    )
