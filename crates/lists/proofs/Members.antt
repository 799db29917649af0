-- Tests, filters and maps of lists, by what they say of the members.
use Rattle.std.proofs.Common.{◌≡◌, ◌∙◌, ◌⊎◌, refl, sym, ap, inl, inr, ⊎_elim, ℕ, zero, suc, ◌<◌, Bool, true, false, cond, List, [], ◌∷◌, map, length, get_or, arith}
use Rattle.std.specs.Prelude.{Contains, filter, flat_map}
use Rattle.std.specs.List.{list_any, list_all}
use Rattle.std.proofs.lemmas.Bool.{true≢false, false≢true, and_cases, false_from_ne_true}
use Rattle.std.proofs.lemmas.List.Elements.{All-contains, Contains-get_or, Contains-append_left, Contains-append_right, Contains-append_cases}
use Rattle.std.proofs.lemmas.List.Folds.{Any-from_list_any, list_any_at}
use Rattle.std.proofs.lemmas.List.Sums.{AllPass-from_list_all, list_all-from_AllPass}

module _ {X : Type 0} where
  pub first : (x : X) (xs : List X) → Contains (x ∷ xs) x
  first x xs = (0, omega arith, refl)

  pub later : (y : X) (xs : List X) (x : X) → Contains xs x → Contains (y ∷ xs) x
  later y xs x m = Contains-append_right (y ∷ []) xs x m

  pub none : (x : X) → Contains [] x → ⊥
  none x m = let l : m.0 < 0 = m.1 in omega arith

  at_place : (y : X) (ys : List X) (x : X) (k : ℕ) → k < length (y ∷ ys) → get_or (y ∷ ys) k x ≡ x → (y ≡ x) ⊎ Contains ys x
  at_place y ys x zero l e = inl e
  at_place y ys x (suc k) l e = inr (k, omega arith, e)

  pub first_or_later : (y : X) (ys : List X) (x : X) → Contains (y ∷ ys) x → (y ≡ x) ⊎ Contains ys x
  first_or_later y ys x m = at_place y ys x m.0 m.1 m.2

module _ {X : Type 0} (p : X → Bool) where
  pub any_from : (xs : List X) (x : X) → Contains xs x → p x ≡ true → list_any p xs ≡ true
  any_from xs x m e = list_any_at p xs m.0 x m.1 (ap p m.2 ∙ e)

  pub any_none : (xs : List X) (x : X) → list_any p xs ≡ false → Contains xs x → p x ≡ false
  any_none xs x e m = false_from_ne_true (p x) (λ t. false≢true (sym e ∙ any_from xs x m t))

  pub any_at : (xs : List X) → list_any p xs ≡ true → (x : X) × Contains xs x × (p x ≡ true)
  any_at xs e = let a = Any-from_list_any p xs e in (a.1, (a.0, a.2, a.3), a.4)

  pub none_from : (xs : List X) → ((x : X) → Contains xs x → p x ≡ true → ⊥) → list_any p xs ≡ false
  none_from xs f = false_from_ne_true (list_any p xs) (λ e. let a = any_at xs e in f a.0 a.1 a.2)

  pub all_at : (xs : List X) (x : X) → list_all p xs ≡ true → Contains xs x → p x ≡ true
  all_at xs x e m = All-contains (λ y. p y ≡ true) xs x (AllPass-from_list_all p xs e) m

  pub all_from : (xs : List X) → ((x : X) → Contains xs x → p x ≡ true) → list_all p xs ≡ true
  all_from xs f = list_all-from_AllPass p xs (λ k d l. f (get_or xs k d) (Contains-get_or xs k d l))

  pub all_false : (xs : List X) → list_all p xs ≡ false → (x : X) × Contains xs x × (p x ≡ false)
  all_false [] e = absurd (true≢false e)
  all_false (x ∷ xs) e =
      ⊎_elim
      (λ (h : p x ≡ false). (x, first x xs, h))
      (λ (r : list_all p xs ≡ false). let m = all_false xs r in (m.0, later x xs m.0 m.1, m.2))
      (and_cases (p x) (list_all p xs) e)

  filter_cases : (b : Bool) (y : X) (us : List X) (x : X) → Contains (cond b (y ∷ us) us) x → ((y ≡ x) × (b ≡ true)) ⊎ Contains us x
  filter_cases true y us x m = ⊎_elim (λ (e : y ≡ x). inl (e, refl)) (λ (r : Contains us x). inr r) (first_or_later y us x m)
  filter_cases false y us x m = inr m

  pub from_filter : (xs : List X) (x : X) → Contains (filter p xs) x → Contains xs x × (p x ≡ true)
  from_filter [] x m = absurd (none x m)
  from_filter (y ∷ ys) x m =
      ⊎_elim
      (λ (e : (y ≡ x) × (p y ≡ true)). ((0, omega arith, e.0), ap p (sym e.0) ∙ e.1))
      (λ (r : Contains (filter p ys) x). let s = from_filter ys x r in (later y ys x s.0, s.1))
      (filter_cases (p y) y (filter p ys) x m)

  keep : (b : Bool) (y : X) (us : List X) (x : X) → b ≡ true → y ≡ x → Contains (cond b (y ∷ us) us) x
  keep true y us x e s = (0, omega arith, s)
  keep false y us x e s = absurd (false≢true e)

  pass : (b : Bool) (y : X) (us : List X) (x : X) → Contains us x → Contains (cond b (y ∷ us) us) x
  pass true y us x m = later y us x m
  pass false y us x m = m

  pub to_filter : (xs : List X) (x : X) → Contains xs x → p x ≡ true → Contains (filter p xs) x
  to_filter [] x m e = absurd (none x m)
  to_filter (y ∷ ys) x m e =
      ⊎_elim
      (λ (s : y ≡ x). keep (p y) y (filter p ys) x (ap p s ∙ e) s)
      (λ (r : Contains ys x). pass (p y) y (filter p ys) x (to_filter ys x r e))
      (first_or_later y ys x m)

module _ {X Y : Type 0} where
  pub from_map : (f : X → Y) (xs : List X) (y : Y) → Contains (map f xs) y → (x : X) × Contains xs x × (f x ≡ y)
  from_map f [] y m = absurd (none y m)
  from_map f (x ∷ xs) y m =
      ⊎_elim
      (λ (e : f x ≡ y). (x, first x xs, e))
      (λ (r : Contains (map f xs) y). let s = from_map f xs y r in (s.0, later x xs s.0 s.1, s.2))
      (first_or_later (f x) (map f xs) y m)

  pub to_map : (f : X → Y) (xs : List X) (x : X) → Contains xs x → Contains (map f xs) (f x)
  to_map f [] x m = absurd (none x m)
  to_map f (z ∷ zs) x m =
      ⊎_elim
      (λ (e : z ≡ x). (0, omega arith, ap f e))
      (λ (r : Contains zs x). later (f z) (map f zs) (f x) (to_map f zs x r))
      (first_or_later z zs x m)

  pub from_flat_map : (f : X → List Y) (xs : List X) (y : Y) → Contains (flat_map f xs) y → (x : X) × Contains xs x × Contains (f x) y
  from_flat_map f [] y m = absurd (none y m)
  from_flat_map f (x ∷ xs) y m =
      ⊎_elim
      (λ (l : Contains (f x) y). (x, first x xs, l))
      (λ (r : Contains (flat_map f xs) y). let s = from_flat_map f xs y r in (s.0, later x xs s.0 s.1, s.2))
      (Contains-append_cases (f x) (flat_map f xs) y m)

  pub to_flat_map : (f : X → List Y) (xs : List X) (x : X) (y : Y) → Contains xs x → Contains (f x) y → Contains (flat_map f xs) y
  to_flat_map f [] x y m n = absurd (none x m)
  to_flat_map f (z ∷ zs) x y m n =
      ⊎_elim
      (λ (e : z ≡ x). Contains-append_left (f z) (flat_map f zs) y (rw e n))
      (λ (r : Contains zs x). Contains-append_right (f z) (flat_map f zs) y (to_flat_map f zs x y r n))
      (first_or_later z zs x m)
