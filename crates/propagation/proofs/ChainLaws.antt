-- Chains through entries.
use Rattle.std.proofs.Common.{◌≡◌, ◌∙◌, refl, sym, ap, subst, ⊎_elim, ℕ, zero, suc, ◌+◌, ◌<◌, ◌≤◌, false, cond, eqb, List, [], ◌∷◌, ◌++◌, length, get_or, set, arith}
use Rattle.std.specs.Prelude.{All, Contains, ◌≢◌}
use Rattle.std.proofs.Math.ListN.{get_or-append}
use Rattle.std.proofs.lemmas.Bool.{cases_eq, eq-eqb, false_from_ne_true, eqb-true}
use Rattle.std.proofs.lemmas.List.{get_or-set_same, get_or-set_other, length-set, length_push}
use Rattle.std.proofs.lemmas.List.Elements.{All-cons}
use Rattle.lists.specs.Distinct.{IsDistinct}
use Rattle.lists.proofs.Members.{first, later, first_or_later}
use Rattle.propagation.specs.inside.Watching.{AreChains, IsChain, nothing}
use Rattle.propagation.proofs.RoomLaws.{distinct-few}

abbrev pub chain_count : List ℕ → ℕ → ℕ → ℕ
chain_count next zero head = 0
chain_count next (suc fuel) head = cond (eqb head nothing) 0 (1 + chain_count next fuel (get_or next head 0))

-- ---- one chain

pub chain-other : (next : List ℕ) (e x head : ℕ) (row : List ℕ) → ¬ Contains row e → IsChain next head row → IsChain (set next e x) head row
chain-other next e x head [] out c = c
chain-other next e x head (y ∷ ys) out c =
    let other : y ≢ e = λ s. out (subst (λ z. Contains (y ∷ ys) z) s (first y ys)) in (
      c.0,
      subst (λ n. y < n) (sym (length-set next e x)) c.1,
      subst (λ h. IsChain (set next e x) h ys) (sym (get_or-set_other next e y x 0 other)) (chain-other next e x (get_or next y 0) ys (λ m. out (later y ys e m)) c.2),
    )

pub chain-push : (next : List ℕ) (e head : ℕ) (row : List ℕ) → e < length next → ¬ Contains row e → IsChain next head row → IsChain (set next e head) e (e ∷ row)
chain-push next e head row inside out c = (
  refl,
  subst (λ n. e < n) (sym (length-set next e head)) inside,
  subst (λ h. IsChain (set next e head) h row) (sym (get_or-set_same next e head 0 inside)) (chain-other next e head head row out c),
)

pub chain-longer : (next : List ℕ) (x head : ℕ) (row : List ℕ) → IsChain next head row → IsChain (next ++ x ∷ []) head row
chain-longer next x head [] c = c
chain-longer next x head (y ∷ ys) c =
    let longer = length_push next x in
    let inside = c.1 in (
      c.0,
      omega arith,
      subst (λ h. IsChain (next ++ x ∷ []) h ys) (sym (get_or-append next (x ∷ []) 0 y inside)) (chain-longer next x (get_or next y 0) ys c.2),
    )

pub chain-below : (next : List ℕ) (head : ℕ) (row : List ℕ) → IsChain next head row → All (λ e. e < length next) row
chain-below next head [] c = λ k d l. absurd (omega arith)
chain-below next head (y ∷ ys) c = All-cons (λ e. e < length next) y ys c.1 (chain-below next (get_or next y 0) ys c.2)

pub chain-counted : (next : List ℕ) (head fuel : ℕ) (row : List ℕ) → length next ≤ nothing → IsChain next head row → length row ≤ fuel → chain_count next fuel head ≡ length row
chain-counted next head zero [] few c l = refl
chain-counted next head (suc fuel) [] few c l = ap (λ b. cond b 0 (1 + chain_count next fuel (get_or next head 0))) (eq-eqb head nothing c)
chain-counted next head zero (y ∷ ys) few c l = absurd (omega arith)
chain-counted next head (suc fuel) (y ∷ ys) few c l =
    let inside = c.1 in
    let here = c.0 in
    let some : eqb head nothing ≡ false = false_from_ne_true (eqb head nothing) (λ t. let e = eqb-true head nothing t in absurd (omega arith)) in
    let rest = chain-counted next (get_or next y 0) fuel ys few c.2 (omega arith) in
    ap (λ b. cond b 0 (1 + chain_count next fuel (get_or next head 0))) some
    ∙ ap (λ h. 1 + chain_count next fuel (get_or next h 0)) here
    ∙ (let all : 1 + chain_count next fuel (get_or next y 0) ≡ length (y ∷ ys) = omega arith in all)

-- ---- a row in place of another

abbrev pub with_row : (ℕ → List ℕ) → ℕ → List ℕ → ℕ → List ℕ
with_row rows slot row other = cond (eqb other slot) row (rows other)

module _ (rows : ℕ → List ℕ) (slot : ℕ) (row : List ℕ) where
  pub row-same : (other : ℕ) → other ≡ slot → with_row rows slot row other ≡ row
  row-same other e = ap (λ b. cond b row (rows other)) (eq-eqb other slot e)

  pub row-other : (other : ℕ) → other ≢ slot → with_row rows slot row other ≡ rows other
  row-other other ne = ap (λ b. cond b row (rows other)) (false_from_ne_true (eqb other slot) (λ t. ne (eqb-true other slot t)))

abbrev pub with_place : (ℕ → ℕ) → ℕ → ℕ → ℕ → ℕ
with_place place entry slot other = cond (eqb other entry) slot (place other)

module _ (place : ℕ → ℕ) (entry slot : ℕ) where
  pub place-same : (other : ℕ) → other ≡ entry → with_place place entry slot other ≡ slot
  place-same other e = ap (λ b. cond b slot (place other)) (eq-eqb other entry e)

  pub place-other : (other : ℕ) → other ≢ entry → with_place place entry slot other ≡ place other
  place-other other ne = ap (λ b. cond b slot (place other)) (false_from_ne_true (eqb other entry) (λ t. ne (eqb-true other entry t)))

-- ---- the first entry of a chain goes to the front of another

module _ (heads next : List ℕ) (rows : ℕ → List ℕ) (place : ℕ → ℕ) (are : AreChains heads next rows place) where
  -- where a chain ends
  pub row-empty : (slot : ℕ) → slot < length heads → length next ≤ nothing → get_or heads slot 0 ≡ nothing → rows slot ≡ []
  row-empty slot inside few e = by_row (rows slot) (are.chained slot inside)
    where
      by_row : (row : List ℕ) → IsChain next (get_or heads slot 0) row → row ≡ []
      by_row [] c = refl
      by_row (y ∷ ys) c = let here = c.0 in let low = c.1 in absurd (omega arith)

  pub row-some : (slot : ℕ) → slot < length heads → get_or heads slot 0 ≢ nothing → (entries : List ℕ) × (rows slot ≡ get_or heads slot 0 ∷ entries)
  row-some slot inside ne = by_row (rows slot) (are.chained slot inside)
    where
      by_row : (row : List ℕ) → IsChain next (get_or heads slot 0) row → (entries : List ℕ) × (row ≡ get_or heads slot 0 ∷ entries)
      by_row [] c = absurd (ne c)
      by_row (y ∷ ys) c = (ys, ap (λ e. e ∷ ys) (sym c.0))

  pub head-inside : (slot : ℕ) → slot < length heads → get_or heads slot 0 ≢ nothing → get_or heads slot 0 < length next
  head-inside slot inside ne = by_row (rows slot) (are.chained slot inside)
    where
      by_row : (row : List ℕ) → IsChain next (get_or heads slot 0) row → get_or heads slot 0 < length next
      by_row [] c = absurd (ne c)
      by_row (y ∷ ys) c = let here = c.0 in let low = c.1 in omega arith

  pub counted : (slot : ℕ) → slot < length heads → length next ≤ nothing → chain_count next (length next) (get_or heads slot 0) ≡ length (rows slot)
  counted slot inside few =
      chain-counted next (get_or heads slot 0) (length next) (rows slot) few (are.chained slot inside)
      (distinct-few (length next) (rows slot) (are.once slot inside) (chain-below next (get_or heads slot 0) (rows slot) (are.chained slot inside)))

  module _ (from to : ℕ) (from_in : from < length heads) (to_in : to < length heads) (apart : from ≢ to) (e : ℕ) (es : List ℕ) (row : rows from ≡ e ∷ es) where
    abbrev heads' : List ℕ
    heads' = set (set heads from (get_or next e 0)) to e

    abbrev next' : List ℕ
    next' = set next e (get_or heads to 0)

    abbrev pub shifted : ℕ → List ℕ
    shifted = with_row (with_row rows to (e ∷ rows to)) from es

    abbrev pub shifted_place : ℕ → ℕ
    shifted_place = with_place place e to

    is-from : IsChain next (get_or heads from 0) (e ∷ es)
    is-from = subst (IsChain next (get_or heads from 0)) row (are.chained from from_in)

    pub entry-is : get_or heads from 0 ≡ e
    entry-is = is-from.0

    pub entry-in : e < length next
    entry-in = is-from.1

    e-there : Contains (rows from) e
    e-there = subst (λ r. Contains r e) (sym row) (first e es)

    pub e-place : place e ≡ from
    e-place = are.placed from e from_in e-there

    not-in : (slot : ℕ) → slot < length heads → slot ≢ from → ¬ Contains (rows slot) e
    not-in slot inside ne m = ne (sym (are.placed slot e inside m) ∙ e-place)

    once-from : IsDistinct (e ∷ es)
    once-from = subst IsDistinct row (are.once from from_in)

    pub size' : length heads' ≡ length heads
    size' = length-set (set heads from (get_or next e 0)) to e ∙ length-set heads from (get_or next e 0)

    head-from : get_or heads' from 0 ≡ get_or next e 0
    head-from = get_or-set_other (set heads from (get_or next e 0)) to from e 0 apart ∙ get_or-set_same heads from (get_or next e 0) 0 from_in

    head-to : get_or heads' to 0 ≡ e
    head-to = get_or-set_same (set heads from (get_or next e 0)) to e 0 (subst (λ n. to < n) (sym (length-set heads from (get_or next e 0))) to_in)

    head-rest : (slot : ℕ) → slot ≢ from → slot ≢ to → get_or heads' slot 0 ≡ get_or heads slot 0
    head-rest slot a b = get_or-set_other (set heads from (get_or next e 0)) to slot e 0 b ∙ get_or-set_other heads from slot (get_or next e 0) 0 a

    -- what each slot has
    by_slot : (P : ℕ → ℕ → List ℕ → Type 0) → P from (get_or next e 0) es → P to e (e ∷ rows to) → ((slot : ℕ) → slot < length heads → slot ≢ from → slot ≢ to → P slot (get_or heads slot 0) (rows slot))
        → (slot : ℕ) → slot < length heads → P slot (get_or heads' slot 0) (shifted slot)
    by_slot P f t r slot inside =
        ⊎_elim
        (λ (a : slot ≡ from).
        subst (λ s. P s (get_or heads' s 0) (shifted s)) (sym a)
        (subst (λ h. P from h (shifted from)) (sym head-from) (subst (P from (get_or next e 0)) (sym (row-same (with_row rows to (e ∷ rows to)) from es from refl)) f)))
        (λ (a : ¬ slot ≡ from).
        ⊎_elim
        (λ (b : slot ≡ to).
        subst (λ s. P s (get_or heads' s 0) (shifted s)) (sym b)
        (subst (λ h. P to h (shifted to)) (sym head-to)
        (subst (P to e) (sym (row-other (with_row rows to (e ∷ rows to)) from es to (λ s. apart (sym s)) ∙ row-same rows to (e ∷ rows to) to refl)) t)))
        (λ (b : ¬ slot ≡ to).
        subst (λ h. P slot h (shifted slot)) (sym (head-rest slot a b))
        (subst (P slot (get_or heads slot 0)) (sym (row-other (with_row rows to (e ∷ rows to)) from es slot a ∙ row-other rows to (e ∷ rows to) slot b)) (r slot inside a b)))
        (cases_eq slot to))
        (cases_eq slot from)

    pub shift-chains : AreChains heads' next' shifted shifted_place
    shift-chains = record {
      chained = (λ slot inside.
          by_slot (λ s h r. IsChain next' h r)
          (chain-other next e (get_or heads to 0) (get_or next e 0) es once-from.0 is-from.2)
          (chain-push next e (get_or heads to 0) (rows to) entry-in (not-in to to_in (λ s. apart (sym s))) (are.chained to to_in))
          (λ s i a b. chain-other next e (get_or heads to 0) (get_or heads s 0) (rows s) (not-in s i a) (are.chained s i))
          slot (subst (λ n. slot < n) size' inside));
      once = (λ slot inside.
          by_slot (λ s h r. IsDistinct r) once-from.1 (not-in to to_in (λ s. apart (sym s)), are.once to to_in) (λ s i a b. are.once s i)
          slot (subst (λ n. slot < n) size' inside));
      placed = (λ slot x inside m.
          by_slot (λ s h r. Contains r x → shifted_place x ≡ s)
          (λ n.
          place-other place e to x (λ s. once-from.0 (subst (Contains es) s n))
          ∙ are.placed from x from_in (subst (λ r. Contains r x) (sym row) (later e es x n)))
          (λ n.
          ⊎_elim
          (λ (here : e ≡ x). place-same place e to x (sym here))
          (λ (old : Contains (rows to) x). place-other place e to x (λ s. not-in to to_in (λ t. apart (sym t)) (subst (Contains (rows to)) s old)) ∙ are.placed to x to_in old)
          (first_or_later e (rows to) x n))
          (λ s i a b n. place-other place e to x (λ t. not-in s i a (subst (Contains (rows s)) t n)) ∙ are.placed s x i n)
          slot (subst (λ n. slot < n) size' inside) m);
      inside = (λ x inside.
          let old : x < length next = subst (λ n. x < n) (length-set next e (get_or heads to 0)) inside in
          ⊎_elim
          (λ (here : x ≡ e). rw (place-same place e to x here, size') to_in)
          (λ (other : ¬ x ≡ e). rw (place-other place e to x other, size') (are.inside x old))
          (cases_eq x e));
      full = (λ x inside.
          let old : x < length next = subst (λ n. x < n) (length-set next e (get_or heads to 0)) inside in
          ⊎_elim
          (λ (here : x ≡ e).
          subst (λ s. Contains (shifted s) x) (sym (place-same place e to x here))
          (subst (λ r. Contains r x) (sym (row-other (with_row rows to (e ∷ rows to)) from es to (λ s. apart (sym s)) ∙ row-same rows to (e ∷ rows to) to refl))
          (subst (λ z. Contains (e ∷ rows to) z) (sym here) (first e (rows to)))))
          (λ (other : ¬ x ≡ e).
          subst (λ s. Contains (shifted s) x) (sym (place-other place e to x other)) (stays x old other))
          (cases_eq x e));
    }
      where
        stays : (x : ℕ) → x < length next → x ≢ e → Contains (shifted (place x)) x
        stays x old other =
            ⊎_elim
            (λ (a : place x ≡ from).
            subst (λ r. Contains r x) (sym (row-same (with_row rows to (e ∷ rows to)) from es (place x) a))
            (⊎_elim (λ (s : e ≡ x). absurd (other (sym s))) (λ (m : Contains es x). m)
            (first_or_later e es x (subst (λ r. Contains r x) row (subst (λ s. Contains (rows s) x) a (are.full x old))))))
            (λ (a : ¬ place x ≡ from).
            ⊎_elim
            (λ (b : place x ≡ to).
            subst (λ r. Contains r x) (sym (row-other (with_row rows to (e ∷ rows to)) from es (place x) a ∙ row-same rows to (e ∷ rows to) (place x) b))
            (later e (rows to) x (subst (λ s. Contains (rows s) x) b (are.full x old))))
            (λ (b : ¬ place x ≡ to).
            subst (λ r. Contains r x) (sym (row-other (with_row rows to (e ∷ rows to)) from es (place x) a ∙ row-other rows to (e ∷ rows to) (place x) b)) (are.full x old))
            (cases_eq (place x) to))
            (cases_eq (place x) from)
