-- An entry goes out of the middle of a chain, to the front of another.
use Rattle.std.proofs.Common.{◌≡◌, ◌∙◌, ◌⊎◌, refl, sym, ap, subst, inl, inr, ⊎_elim, ℕ, ◌<◌, ◌≤◌, List, [], ◌∷◌, ◌++◌, length, get_or, set, append_assoc, arith}
use Rattle.std.specs.Prelude.{Contains, ◌≢◌}
use Rattle.std.proofs.lemmas.Bool.{cases_eq}
use Rattle.std.proofs.lemmas.List.{get_or-set_same, get_or-set_other, length-set}
use Rattle.std.proofs.lemmas.List.Elements.{All-contains, Contains-append_cases, Contains-append_left, Contains-append_right}
use Rattle.lists.specs.Distinct.{IsDistinct}
use Rattle.lists.proofs.Members.{first, later, first_or_later}
use Rattle.propagation.specs.inside.Watching.{AreChains, IsChain, IsRelinked, nothing}
use Rattle.propagation.proofs.ChainLaws.{chain-below, chain-other, chain-push, place-other, place-same, row-other, row-same, shift-chains, with_place, with_row}

-- the last of the entries, or nothing
abbrev pub IsLast : List ℕ → ℕ → Type 0
IsLast before last = ((before ≡ []) × (last ≡ nothing)) ⊎ ((front : List ℕ) × (before ≡ front ++ last ∷ []))

pub last-next : (before : List ℕ) (e : ℕ) → IsLast (before ++ e ∷ []) e
last-next before e = inr (before, refl)

-- ---- rows without one entry

middle-cases : (before after : List ℕ) (e x : ℕ) → Contains (before ++ e ∷ after) x → (e ≡ x) ⊎ Contains (before ++ after) x
middle-cases before after e x m =
    ⊎_elim
    (λ (b : Contains before x). inr (Contains-append_left before after x b))
    (λ (r : Contains (e ∷ after) x). ⊎_elim (λ (here : e ≡ x). inl here) (λ (a : Contains after x). inr (Contains-append_right before after x a)) (first_or_later e after x r))
    (Contains-append_cases before (e ∷ after) x m)

middle-more : (before after : List ℕ) (e x : ℕ) → Contains (before ++ after) x → Contains (before ++ e ∷ after) x
middle-more before after e x m =
    ⊎_elim
    (λ (b : Contains before x). Contains-append_left before (e ∷ after) x b)
    (λ (a : Contains after x). Contains-append_right before (e ∷ after) x (later e after x a))
    (Contains-append_cases before after x m)

middle-there : (before after : List ℕ) (e : ℕ) → Contains (before ++ e ∷ after) e
middle-there before after e = Contains-append_right before (e ∷ after) e (first e after)

middle-once : (before after : List ℕ) (e : ℕ) → IsDistinct (before ++ e ∷ after) → IsDistinct (before ++ after)
middle-once [] after e once = once.1
middle-once (b ∷ bs) after e once = ((λ m. once.0 (middle-more bs after e b m)), middle-once bs after e once.1)

pub middle-out : (before after : List ℕ) (e : ℕ) → IsDistinct (before ++ e ∷ after) → ¬ Contains (before ++ after) e
middle-out [] after e once m = once.0 m
middle-out (b ∷ bs) after e once m =
    ⊎_elim
    (λ (here : b ≡ e). once.0 (subst (Contains (bs ++ e ∷ after)) (sym here) (middle-there bs after e)))
    (λ (there : Contains (bs ++ after) e). middle-out bs after e once.1 there)
    (first_or_later b (bs ++ after) e m)

-- ---- a chain without one entry

module _ (next : List ℕ) (last e : ℕ) where
  abbrev skipped : List ℕ
  skipped = set next last (get_or next e 0)

  chain-skip : (head : ℕ) (front after : List ℕ) → IsDistinct (front ++ last ∷ e ∷ after) → IsChain next head (front ++ last ∷ e ∷ after) → IsChain skipped head (front ++ last ∷ after)
  chain-skip head [] after once c =
      let inside = c.1 in
      let e_is : get_or next last 0 ≡ e = c.2.0 in (
        c.0,
        subst (λ n. last < n) (sym (length-set next last (get_or next e 0))) inside,
        subst (λ h. IsChain skipped h after) (sym (get_or-set_same next last (get_or next e 0) 0 inside))
            (chain-other next last (get_or next e 0) (get_or next e 0) after (λ m. once.0 (later e after last m)) c.2.2),
      )
  chain-skip head (y ∷ ys) after once c =
      let other : y ≢ last = λ s. once.0 (subst (Contains (ys ++ last ∷ e ∷ after)) (sym s) (middle-there ys (e ∷ after) last)) in (
        c.0,
        subst (λ n. y < n) (sym (length-set next last (get_or next e 0))) c.1,
        subst (λ h. IsChain skipped h (ys ++ last ∷ after)) (sym (get_or-set_other next last y (get_or next e 0) 0 other)) (chain-skip (get_or next y 0) ys after once.1 c.2),
      )

-- what a chain is behind some entries
pub chain-behind : (next : List ℕ) (head : ℕ) (before : List ℕ) (e : ℕ) (after : List ℕ) → IsChain next head (before ++ e ∷ after) → IsChain next (get_or next e 0) after
chain-behind next head [] e after c = c.2
chain-behind next head (b ∷ bs) e after c = chain-behind next (get_or next b 0) bs e after c.2

-- ---- all chains

module _ (heads next : List ℕ) (rows : ℕ → List ℕ) (place : ℕ → ℕ) (are : AreChains heads next rows place) (from to : ℕ) (from_in : from < length heads) (to_in : to < length heads) (apart : from ≢ to) (before after : List ℕ) (e : ℕ) (row : rows from ≡ before ++ e ∷ after) where
  abbrev pub relinked : ℕ → List ℕ
  relinked = with_row (with_row rows to (e ∷ rows to)) from (before ++ after)

  abbrev pub relinked_place : ℕ → ℕ
  relinked_place = with_place place e to

  is-from : IsChain next (get_or heads from 0) (before ++ e ∷ after)
  is-from = subst (IsChain next (get_or heads from 0)) row (are.chained from from_in)

  e-there : Contains (rows from) e
  e-there = subst (λ r. Contains r e) (sym row) (middle-there before after e)

  e-place : place e ≡ from
  e-place = are.placed from e from_in e-there

  not-in : (slot : ℕ) → slot < length heads → slot ≢ from → ¬ Contains (rows slot) e
  not-in slot inside ne m = ne (sym (are.placed slot e inside m) ∙ e-place)

  once-from : IsDistinct (before ++ e ∷ after)
  once-from = subst IsDistinct row (are.once from from_in)

  relinked-from : relinked from ≡ before ++ after
  relinked-from = row-same (with_row rows to (e ∷ rows to)) from (before ++ after) from refl

  relinked-to : relinked to ≡ e ∷ rows to
  relinked-to = row-other (with_row rows to (e ∷ rows to)) from (before ++ after) to (λ s. apart (sym s)) ∙ row-same rows to (e ∷ rows to) to refl

  relinked-rest : (slot : ℕ) → slot ≢ from → slot ≢ to → relinked slot ≡ rows slot
  relinked-rest slot a b = row-other (with_row rows to (e ∷ rows to)) from (before ++ after) slot a ∙ row-other rows to (e ∷ rows to) slot b

  -- by the slot: the one, the other, or none of both
  by_slot : (P : ℕ → List ℕ → Type 0) → P from (before ++ after) → P to (e ∷ rows to) → ((slot : ℕ) → slot < length heads → slot ≢ from → slot ≢ to → P slot (rows slot)) → (slot : ℕ) → slot < length heads → P slot (relinked slot)
  by_slot P f t r slot inside =
      ⊎_elim
      (λ (a : slot ≡ from). subst (λ s. P s (relinked s)) (sym a) (subst (P from) (sym relinked-from) f))
      (λ (a : ¬ slot ≡ from).
      ⊎_elim
      (λ (b : slot ≡ to). subst (λ s. P s (relinked s)) (sym b) (subst (P to) (sym relinked-to) t))
      (λ (b : ¬ slot ≡ to). subst (P slot) (sym (relinked-rest slot a b)) (r slot inside a b))
      (cases_eq slot to))
      (cases_eq slot from)

  module _ (heads' next' : List ℕ) (heads_size : length heads' ≡ length heads) (next_size : length next' ≡ length next) (chained' : (slot : ℕ) → slot < length heads → IsChain next' (get_or heads' slot 0) (relinked slot)) where
    relinked-chains : AreChains heads' next' relinked relinked_place
    relinked-chains = record {
      chained = (λ slot inside. chained' slot (subst (λ n. slot < n) heads_size inside));
      once = (λ slot inside.
          by_slot (λ s r. IsDistinct r) (middle-once before after e once-from) (not-in to to_in (λ s. apart (sym s)), are.once to to_in) (λ s i a b. are.once s i)
          slot (subst (λ n. slot < n) heads_size inside));
      placed = (λ slot x inside m.
          by_slot (λ s r. Contains r x → relinked_place x ≡ s)
          (λ n.
          place-other place e to x (λ s. middle-out before after e once-from (subst (Contains (before ++ after)) s n))
          ∙ are.placed from x from_in (subst (λ r. Contains r x) (sym row) (middle-more before after e x n)))
          (λ n.
          ⊎_elim
          (λ (here : e ≡ x). place-same place e to x (sym here))
          (λ (old : Contains (rows to) x). place-other place e to x (λ s. not-in to to_in (λ t. apart (sym t)) (subst (Contains (rows to)) s old)) ∙ are.placed to x to_in old)
          (first_or_later e (rows to) x n))
          (λ s i a b n. place-other place e to x (λ t. not-in s i a (subst (Contains (rows s)) t n)) ∙ are.placed s x i n)
          slot (subst (λ n. slot < n) heads_size inside) m);
      inside = (λ x inside.
          let old : x < length next = subst (λ n. x < n) next_size inside in
          ⊎_elim
          (λ (here : x ≡ e). rw (place-same place e to x here, heads_size) to_in)
          (λ (other : ¬ x ≡ e). rw (place-other place e to x other, heads_size) (are.inside x old))
          (cases_eq x e));
      full = (λ x inside.
          let old : x < length next = subst (λ n. x < n) next_size inside in
          ⊎_elim
          (λ (here : x ≡ e).
          subst (λ s. Contains (relinked s) x) (sym (place-same place e to x here))
          (subst (λ r. Contains r x) (sym relinked-to) (subst (λ z. Contains (e ∷ rows to) z) (sym here) (first e (rows to)))))
          (λ (other : ¬ x ≡ e). subst (λ s. Contains (relinked s) x) (sym (place-other place e to x other)) (stays x old other))
          (cases_eq x e));
    }
      where
        stays : (x : ℕ) → x < length next → x ≢ e → Contains (relinked (place x)) x
        stays x old other =
            by_slot (λ s r. place x ≡ s → Contains r x)
            (λ at.
            ⊎_elim (λ (s : e ≡ x). absurd (other (sym s))) (λ (m : Contains (before ++ after) x). m)
            (middle-cases before after e x (subst (λ r. Contains r x) row (subst (λ s. Contains (rows s) x) at (are.full x old)))))
            (λ at. later e (rows to) x (subst (λ s. Contains (rows s) x) at (are.full x old)))
            (λ s i a b at. subst (λ t. Contains (rows t) x) at (are.full x old))
            (place x) (are.inside x old) refl

  -- it stands behind another
  module _ (last : ℕ) (front : List ℕ) (behind : before ≡ front ++ last ∷ []) where
    abbrev heads' : List ℕ
    heads' = set heads to e

    abbrev next' : List ℕ
    next' = set (set next last (get_or next e 0)) e (get_or heads to 0)

    whole : before ++ e ∷ after ≡ front ++ last ∷ e ∷ after
    whole = ap (λ ls. ls ++ e ∷ after) behind ∙ append_assoc front (last ∷ []) (e ∷ after)

    less : before ++ after ≡ front ++ last ∷ after
    less = ap (λ ls. ls ++ after) behind ∙ append_assoc front (last ∷ []) after

    last-there : Contains (rows from) last
    last-there = subst (λ r. Contains r last) (sym (row ∙ whole)) (middle-there front (e ∷ after) last)

    last-out : (slot : ℕ) → slot < length heads → slot ≢ from → ¬ Contains (rows slot) last
    last-out slot inside ne m = ne (sym (are.placed slot last inside m) ∙ are.placed from last from_in last-there)

    e-in : e < length next
    e-in = All-contains (λ x. x < length next) (rows from) e (chain-below next (get_or heads from 0) (rows from) (are.chained from from_in)) e-there

    skipped-size : length (set next last (get_or next e 0)) ≡ length next
    skipped-size = length-set next last (get_or next e 0)

    chained-behind : (slot : ℕ) → slot < length heads → IsChain next' (get_or heads' slot 0) (relinked slot)
    chained-behind =
        by_slot (λ s r. IsChain next' (get_or heads' s 0) r)
        (subst (λ h. IsChain next' h (before ++ after)) (sym (get_or-set_other heads to from e 0 apart))
        (chain-other (set next last (get_or next e 0)) e (get_or heads to 0) (get_or heads from 0) (before ++ after) (middle-out before after e once-from)
        (subst (IsChain (set next last (get_or next e 0)) (get_or heads from 0)) (sym less)
        (chain-skip next last e (get_or heads from 0) front after (subst IsDistinct whole once-from) (subst (IsChain next (get_or heads from 0)) whole is-from)))))
        (subst (λ h. IsChain next' h (e ∷ rows to)) (sym (get_or-set_same heads to e 0 to_in))
        (chain-push (set next last (get_or next e 0)) e (get_or heads to 0) (rows to) (subst (λ n. e < n) (sym skipped-size) e-in) (not-in to to_in (λ s. apart (sym s)))
        (chain-other next last (get_or next e 0) (get_or heads to 0) (rows to) (last-out to to_in (λ s. apart (sym s))) (are.chained to to_in))))
        (λ s i a b.
        subst (λ h. IsChain next' h (rows s)) (sym (get_or-set_other heads to s e 0 b))
        (chain-other (set next last (get_or next e 0)) e (get_or heads to 0) (get_or heads s 0) (rows s) (not-in s i a)
        (chain-other next last (get_or next e 0) (get_or heads s 0) (rows s) (last-out s i a) (are.chained s i))))

    behind-chains : AreChains heads' next' relinked relinked_place
    behind-chains = relinked-chains heads' next' (length-set heads to e) (length-set (set next last (get_or next e 0)) e (get_or heads to 0) ∙ skipped-size) chained-behind

  -- ---- either
  module _ (last : ℕ) (is_last : IsLast before last) (few : length next ≤ nothing) (heads_now next_now : List ℕ) (is : IsRelinked heads next from last e to heads_now next_now) where
    last-low : (front : List ℕ) → before ≡ front ++ last ∷ [] → last < length next
    last-low front b = All-contains (λ x. x < length next) (rows from) last (chain-below next (get_or heads from 0) (rows from) (are.chained from from_in)) (last-there last front b)

    pub relink-chains : AreChains heads_now next_now relinked relinked_place
    relink-chains =
        ⊎_elim
        (λ (a : (last ≡ nothing) × (heads_now ≡ set (set heads from (get_or next e 0)) to e) × (next_now ≡ set next e (get_or heads to 0))).
        ⊎_elim
        (λ (n : (before ≡ []) × (last ≡ nothing)).
        let one : rows from ≡ e ∷ after = row ∙ ap (λ ls. ls ++ e ∷ after) n.0 in
        let tail : before ++ after ≡ after = ap (λ ls. ls ++ after) n.0 in
        rw (a.1, a.2)
        (subst (λ t. AreChains (set (set heads from (get_or next e 0)) to e) (set next e (get_or heads to 0)) (with_row (with_row rows to (e ∷ rows to)) from t) relinked_place) (sym tail)
        (shift-chains heads next rows place are from to from_in to_in apart e after one)))
        (λ (b : (front : List ℕ) × (before ≡ front ++ last ∷ [])). let low = last-low b.0 b.1 in let none = a.0 in absurd (omega arith))
        is_last)
        (λ (a : (last ≢ nothing) × (heads_now ≡ set heads to e) × (next_now ≡ set (set next last (get_or next e 0)) e (get_or heads to 0))).
        ⊎_elim
        (λ (n : (before ≡ []) × (last ≡ nothing)). absurd (a.0 n.1))
        (λ (b : (front : List ℕ) × (before ≡ front ++ last ∷ [])). rw (a.1, a.2) (behind-chains last b.0 b.1))
        is_last)
        is

    -- what is behind the entry stays a chain
    pub relink-behind : IsChain next_now (get_or next e 0) after
    relink-behind =
        let old : IsChain next (get_or next e 0) after = chain-behind next (get_or heads from 0) before e after is-from in
        let out : ¬ Contains after e = λ m. middle-out before after e once-from (Contains-append_right before after e m) in
        ⊎_elim
        (λ (a : (last ≡ nothing) × (heads_now ≡ set (set heads from (get_or next e 0)) to e) × (next_now ≡ set next e (get_or heads to 0))).
        subst (λ ns. IsChain ns (get_or next e 0) after) (sym a.2) (chain-other next e (get_or heads to 0) (get_or next e 0) after out old))
        (λ (a : (last ≢ nothing) × (heads_now ≡ set heads to e) × (next_now ≡ set (set next last (get_or next e 0)) e (get_or heads to 0))).
        ⊎_elim
        (λ (n : (before ≡ []) × (last ≡ nothing)). absurd (a.0 n.1))
        (λ (b : (front : List ℕ) × (before ≡ front ++ last ∷ [])).
        let last_out : ¬ Contains after last = λ m. middle-out b.0 (e ∷ after) last (subst IsDistinct (whole last b.0 b.1) once-from) (Contains-append_right b.0 (e ∷ after) last (later e after last m)) in
        subst (λ ns. IsChain ns (get_or next e 0) after) (sym a.2)
        (chain-other (set next last (get_or next e 0)) e (get_or heads to 0) (get_or next e 0) after out (chain-other next last (get_or next e 0) (get_or next e 0) after last_out old)))
        is_last)
        is

    pub relink-sizes : (length heads_now ≡ length heads) × (length next_now ≡ length next)
    relink-sizes =
        ⊎_elim
        (λ (a : (last ≡ nothing) × (heads_now ≡ set (set heads from (get_or next e 0)) to e) × (next_now ≡ set next e (get_or heads to 0))).
        (ap length a.1 ∙ length-set (set heads from (get_or next e 0)) to e ∙ length-set heads from (get_or next e 0), ap length a.2 ∙ length-set next e (get_or heads to 0)))
        (λ (a : (last ≢ nothing) × (heads_now ≡ set heads to e) × (next_now ≡ set (set next last (get_or next e 0)) e (get_or heads to 0))).
        (ap length a.1 ∙ length-set heads to e, ap length a.2 ∙ length-set (set next last (get_or next e 0)) e (get_or heads to 0) ∙ length-set next last (get_or next e 0)))
        is
