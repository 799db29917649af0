-- Chains that begin, grow, change places and end.
use Rattle.std.proofs.Common.{◌≡◌, ◌∙◌, refl, sym, ap, subst, ⊎_elim, ℕ, ◌+◌, ◌<◌, cond, eqb, List, [], ◌∷◌, ◌++◌, length, get_or, set, arith}
use Rattle.std.specs.Prelude.{Contains, ◌≢◌}
use Rattle.std.proofs.lemmas.Bool.{cases_eq, eq-eqb, false_from_ne_true, eqb-true}
use Rattle.std.proofs.lemmas.List.{get_or-set_same, get_or-set_other, length-set, length_push, get_or_push}
use Rattle.std.proofs.lemmas.List.Elements.{All-contains}
use Rattle.lists.specs.Distinct.{IsDistinct}
use Rattle.lists.proofs.Members.{first, later, none, first_or_later}
use Rattle.propagation.specs.inside.Watching.{AreChains, IsChain, nothing}
use Rattle.propagation.proofs.ChainLaws.{chain-below, chain-longer, with_row, row-same, row-other, with_place, place-same, place-other}

-- all chains are at an end
pub ended-chains : (heads : List ℕ) (place : ℕ → ℕ) → ((slot : ℕ) → slot < length heads → get_or heads slot 0 ≡ nothing) → AreChains heads [] (λ _. []) place
ended-chains heads place f = record {
  chained = f;
  once = (λ slot inside. tt);
  placed = (λ slot e inside m. absurd (none e m));
  inside = (λ e l. absurd (omega arith));
  full = (λ e l. absurd (omega arith));
}

module _ (heads next : List ℕ) (rows : ℕ → List ℕ) (place : ℕ → ℕ) (are : AreChains heads next rows place) where
  -- ---- one entry more
  module _ (slot : ℕ) (inside : slot < length heads) where
    abbrev e : ℕ
    e = length next

    abbrev longer : List ℕ
    longer = next ++ get_or heads slot 0 ∷ []

    abbrev begun : List ℕ
    begun = set heads slot (length next)

    abbrev pub added : ℕ → List ℕ
    added = with_row rows slot (length next ∷ rows slot)

    abbrev pub added_place : ℕ → ℕ
    added_place = with_place place (length next) slot

    new-entry : (s : ℕ) → s < length heads → ¬ Contains (rows s) e
    new-entry s i m = let low : e < length next = All-contains (λ x. x < length next) (rows s) e (chain-below next (get_or heads s 0) (rows s) (are.chained s i)) m in omega arith

    one_more : length longer ≡ length next + 1
    one_more = length_push next (get_or heads slot 0)

    by_slot : (P : ℕ → ℕ → List ℕ → Type 0) → P slot e (e ∷ rows slot) → ((s : ℕ) → s < length heads → s ≢ slot → P s (get_or heads s 0) (rows s)) → (s : ℕ) → s < length begun → P s (get_or begun s 0) (added s)
    by_slot P here rest s i =
        ⊎_elim
        (λ (a : s ≡ slot).
        subst (λ x. P x (get_or begun x 0) (added x)) (sym a)
        (subst (λ h. P slot h (added slot)) (sym (get_or-set_same heads slot e 0 inside)) (subst (P slot e) (sym (row-same rows slot (e ∷ rows slot) slot refl)) here)))
        (λ (a : ¬ s ≡ slot).
        subst (λ h. P s h (added s)) (sym (get_or-set_other heads slot s e 0 a)) (subst (P s (get_or heads s 0)) (sym (row-other rows slot (e ∷ rows slot) s a)) (rest s (subst (λ n. s < n) (length-set heads slot e) i) a)))
        (cases_eq s slot)

    pub add-chains : AreChains begun longer added added_place
    add-chains = record {
      chained =
          by_slot (λ s h r. IsChain longer h r)
          (refl, (let more = one_more in omega arith), subst (λ h. IsChain longer h (rows slot)) (sym (get_or_push next (get_or heads slot 0) 0 e refl)) (chain-longer next (get_or heads slot 0) (get_or heads slot 0) (rows slot) (are.chained slot inside)))
          (λ s i a. chain-longer next (get_or heads slot 0) (get_or heads s 0) (rows s) (are.chained s i));
      once = by_slot (λ s h r. IsDistinct r) (new-entry slot inside, are.once slot inside) (λ s i a. are.once s i);
      placed = (λ s x i m.
          by_slot (λ t h r. Contains r x → added_place x ≡ t)
          (λ n.
          ⊎_elim
          (λ (here : e ≡ x). place-same place e slot x (sym here))
          (λ (old : Contains (rows slot) x). place-other place e slot x (λ t. new-entry slot inside (subst (Contains (rows slot)) t old)) ∙ are.placed slot x inside old)
          (first_or_later e (rows slot) x n))
          (λ t j a n. place-other place e slot x (λ q. new-entry t j (subst (Contains (rows t)) q n)) ∙ are.placed t x j n)
          s i m);
      inside = (λ x i.
          ⊎_elim
          (λ (here : x ≡ e). rw (place-same place e slot x here, length-set heads slot e) inside)
          (λ (other : ¬ x ≡ e). rw (place-other place e slot x other, length-set heads slot e) (are.inside x (let more = one_more in omega arith)))
          (cases_eq x e));
      full = (λ x i.
          ⊎_elim
          (λ (here : x ≡ e).
          subst (λ s. Contains (added s) x) (sym (place-same place e slot x here))
          (subst (λ r. Contains r x) (sym (row-same rows slot (e ∷ rows slot) slot refl)) (subst (λ z. Contains (e ∷ rows slot) z) (sym here) (first e (rows slot)))))
          (λ (other : ¬ x ≡ e).
          let old : x < length next = let more = one_more in omega arith in
          subst (λ s. Contains (added s) x) (sym (place-other place e slot x other)) (stays x old (are.full x old)))
          (cases_eq x e));
    }
      where
        stays : (x : ℕ) → x < length next → Contains (rows (place x)) x → Contains (added (place x)) x
        stays x old m =
            ⊎_elim
            (λ (a : place x ≡ slot). subst (λ r. Contains r x) (sym (row-same rows slot (e ∷ rows slot) (place x) a)) (later e (rows slot) x (subst (λ s. Contains (rows s) x) a m)))
            (λ (a : ¬ place x ≡ slot). subst (λ r. Contains r x) (sym (row-other rows slot (e ∷ rows slot) (place x) a)) m)
            (cases_eq (place x) slot)

  -- ---- the spare chain takes the place of an empty one
  module _ (from spare : ℕ) (from_in : from < length heads) (spare_in : spare < length heads) (apart : from ≢ spare) (empty : rows from ≡ []) where
    abbrev renamed : List ℕ
    renamed = set (set heads from (get_or heads spare 0)) spare nothing

    abbrev pub swapped : ℕ → List ℕ
    swapped = with_row (with_row rows from (rows spare)) spare []

    abbrev pub swapped_place : ℕ → ℕ
    swapped_place x = cond (eqb (place x) spare) from (place x)

    pub swapped-spare : (x : ℕ) → place x ≡ spare → swapped_place x ≡ from
    swapped-spare x e = ap (λ b. cond b from (place x)) (eq-eqb (place x) spare e)

    pub swapped-other : (x : ℕ) → place x ≢ spare → swapped_place x ≡ place x
    swapped-other x ne = ap (λ b. cond b from (place x)) (false_from_ne_true (eqb (place x) spare) (λ t. ne (eqb-true (place x) spare t)))

    pub swapped-empty : swapped spare ≡ []
    swapped-empty = row-same (with_row rows from (rows spare)) spare [] spare refl

    from-row : swapped from ≡ rows spare
    from-row = row-other (with_row rows from (rows spare)) spare [] from apart ∙ row-same rows from (rows spare) from refl

    other-row : (s : ℕ) → s ≢ from → s ≢ spare → swapped s ≡ rows s
    other-row s a b = row-other (with_row rows from (rows spare)) spare [] s b ∙ row-other rows from (rows spare) s a

    head-from : get_or renamed from 0 ≡ get_or heads spare 0
    head-from = get_or-set_other (set heads from (get_or heads spare 0)) spare from nothing 0 apart ∙ get_or-set_same heads from (get_or heads spare 0) 0 from_in

    head-spare : get_or renamed spare 0 ≡ nothing
    head-spare = get_or-set_same (set heads from (get_or heads spare 0)) spare nothing 0 (subst (λ n. spare < n) (sym (length-set heads from (get_or heads spare 0))) spare_in)

    pub renamed-size : length renamed ≡ length heads
    renamed-size = length-set (set heads from (get_or heads spare 0)) spare nothing ∙ length-set heads from (get_or heads spare 0)

    by_name : (P : ℕ → ℕ → List ℕ → Type 0) → P from (get_or heads spare 0) (rows spare) → P spare nothing [] → ((s : ℕ) → s < length heads → s ≢ from → s ≢ spare → P s (get_or heads s 0) (rows s)) → (s : ℕ) → s < length renamed → P s (get_or renamed s 0) (swapped s)
    by_name P f t rest s i =
        ⊎_elim
        (λ (a : s ≡ from). subst (λ x. P x (get_or renamed x 0) (swapped x)) (sym a) (subst (λ h. P from h (swapped from)) (sym head-from) (subst (P from (get_or heads spare 0)) (sym from-row) f)))
        (λ (a : ¬ s ≡ from).
        ⊎_elim
        (λ (b : s ≡ spare). subst (λ x. P x (get_or renamed x 0) (swapped x)) (sym b) (subst (λ h. P spare h (swapped spare)) (sym head-spare) (subst (P spare nothing) (sym swapped-empty) t)))
        (λ (b : ¬ s ≡ spare).
        subst (λ h. P s h (swapped s)) (sym (get_or-set_other (set heads from (get_or heads spare 0)) spare s nothing 0 b ∙ get_or-set_other heads from s (get_or heads spare 0) 0 a))
        (subst (P s (get_or heads s 0)) (sym (other-row s a b)) (rest s (subst (λ n. s < n) renamed-size i) a b)))
        (cases_eq s spare))
        (cases_eq s from)

    pub rename-chains : AreChains renamed next swapped swapped_place
    rename-chains = record {
      chained = by_name (λ s h r. IsChain next h r) (are.chained spare spare_in) refl (λ s i a b. are.chained s i);
      once = by_name (λ s h r. IsDistinct r) (are.once spare spare_in) tt (λ s i a b. are.once s i);
      placed = (λ s x i m.
          by_name (λ t h r. Contains r x → swapped_place x ≡ t)
          (λ n. swapped-spare x (are.placed spare x spare_in n))
          (λ n. absurd (none x n))
          (λ t j a b n. let at = are.placed t x j n in swapped-other x (λ q. b (sym at ∙ q)) ∙ at)
          s i m);
      inside = (λ x i.
          ⊎_elim
          (λ (a : place x ≡ spare). rw (swapped-spare x a, renamed-size) from_in)
          (λ (a : ¬ place x ≡ spare). rw (swapped-other x a, renamed-size) (are.inside x i))
          (cases_eq (place x) spare));
      full = (λ x i.
          ⊎_elim
          (λ (a : place x ≡ spare).
          subst (λ s. Contains (swapped s) x) (sym (swapped-spare x a)) (subst (λ r. Contains r x) (sym from-row) (subst (λ s. Contains (rows s) x) a (are.full x i))))
          (λ (a : ¬ place x ≡ spare).
          subst (λ s. Contains (swapped s) x) (sym (swapped-other x a))
          (⊎_elim
          (λ (b : place x ≡ from). absurd (none x (subst (λ r. Contains r x) empty (subst (λ s. Contains (rows s) x) b (are.full x i)))))
          (λ (b : ¬ place x ≡ from). subst (λ r. Contains r x) (sym (other-row (place x) b a)) (are.full x i))
          (cases_eq (place x) from)))
          (cases_eq (place x) spare));
    }
