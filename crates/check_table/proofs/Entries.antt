-- The main seat's list of entries.
use Rattle.std.proofs.Common.{◌≡◌, ◌≢◌, ◌⊎◌, inl, inr, ⊎_elim, ℕ, zero, suc, ◌<◌, ◌≤◌, false, List, [], ◌∷◌, ◌++◌, length, get_or, sym, refl, ap, arith}
use mathlib.Core.Option.{some, some-injective, some-ne-none}
use lib.ListN.{get_elem?}
pub use Rattle.atomic_table.proofs.Lists.{at_index, at_map}
use Rattle.check_table.specs.Views.{change_at}
use Rattle.check_table.specs.Rule.{marked}
use Rattle.check_table.specs.declared.view.KnownEntry.{KnownEntry}

module _ {A : Type 0} where
  pub at_less : (l : List A) (t : ℕ) (a : A) → get_elem? l t ≡ some a → t < length l
  at_less [] t a e = absurd (some-ne-none a (sym e))
  at_less (x ∷ xs) zero a e = omega arith
  at_less (x ∷ xs) (suc t) a e = let r = at_less xs t a e in omega arith

  pub less_at : (l : List A) (t : ℕ) → t < length l → (a : A) × (get_elem? l t ≡ some a)
  less_at [] t e = absurd (omega arith)
  less_at (x ∷ xs) zero e = (x, refl)
  less_at (x ∷ xs) (suc t) e = less_at xs t (omega arith)

  pub at_end : (l : List A) (a b : A) (t : ℕ) → get_elem? (l ++ a ∷ []) t ≡ some b → (get_elem? l t ≡ some b) ⊎ ((t ≡ length l) × (a ≡ b))
  at_end [] a b zero e = inr (refl, some-injective a b e)
  at_end [] a b (suc t) e = absurd (some-ne-none b (sym e))
  at_end (x ∷ xs) a b zero e = inl e
  at_end (x ∷ xs) a b (suc t) e = ⊎_elim inl (λ r. inr (ap suc r.0, r.1)) (at_end xs a b t e)

  pub before_end : (l : List A) (a d : A) (t : ℕ) → t < length l → get_or (l ++ a ∷ []) t d ≡ get_or l t d
  before_end [] a d t e = absurd (omega arith)
  before_end (x ∷ xs) a d zero e = refl
  before_end (x ∷ xs) a d (suc t) e = before_end xs a d t (omega arith)

  pub end_is : (l : List A) (a d : A) → get_or (l ++ a ∷ []) (length l) d ≡ a
  end_is [] a d = refl
  end_is (x ∷ xs) a d = end_is xs a d

pub marked_end : (l : List KnownEntry) (a : KnownEntry) (t : ℕ) → t ≢ length l → marked (l ++ a ∷ []) t ≡ marked l t
marked_end [] a zero ne = absurd (ne refl)
marked_end [] a (suc t) ne = refl
marked_end (x ∷ xs) a zero ne = refl
marked_end (x ∷ xs) a (suc t) ne = marked_end xs a t (λ e. ne (ap suc e))

pub marked_new : (l : List KnownEntry) (a : KnownEntry) → marked (l ++ a ∷ []) (length l) ≡ a.cancelled
marked_new [] a = refl
marked_new (x ∷ xs) a = marked_new xs a

module _ (f : KnownEntry → KnownEntry) where
  pub change_here : (l : List KnownEntry) (t : ℕ) (e : KnownEntry) → get_elem? l t ≡ some e → get_elem? (change_at f t l) t ≡ some (f e)
  change_here [] t e at = absurd (some-ne-none e (sym at))
  change_here (x ∷ xs) zero e at = ap (λ (y : KnownEntry). some (f y)) (some-injective x e at)
  change_here (x ∷ xs) (suc t) e at = change_here xs t e at

  pub change_else : (l : List KnownEntry) (t u : ℕ) → u ≢ t → get_elem? (change_at f t l) u ≡ get_elem? l u
  change_else [] t u ne = refl
  change_else (x ∷ xs) zero zero ne = absurd (ne refl)
  change_else (x ∷ xs) zero (suc u) ne = refl
  change_else (x ∷ xs) (suc t) zero ne = refl
  change_else (x ∷ xs) (suc t) (suc u) ne = change_else xs t u (λ e. ne (ap suc e))

  pub change_length : (l : List KnownEntry) (t : ℕ) → length (change_at f t l) ≡ length l
  change_length [] t = refl
  change_length (x ∷ xs) zero = refl
  change_length (x ∷ xs) (suc t) = ap suc (change_length xs t)

  pub change_marked : ((e : KnownEntry) → (f e).cancelled ≡ e.cancelled) → (l : List KnownEntry) (t u : ℕ) → marked (change_at f t l) u ≡ marked l u
  change_marked same [] t u = refl
  change_marked same (x ∷ xs) zero zero = same x
  change_marked same (x ∷ xs) zero (suc u) = refl
  change_marked same (x ∷ xs) (suc t) zero = refl
  change_marked same (x ∷ xs) (suc t) (suc u) = change_marked same xs t u

  -- what stands there afterwards was made of what stood there
  pub change_from : (l : List KnownEntry) (t u : ℕ) (e : KnownEntry) → get_elem? (change_at f t l) u ≡ some e → (d : KnownEntry) × (get_elem? l u ≡ some d) × (((u ≡ t) × (e ≡ f d)) ⊎ ((u ≢ t) × (e ≡ d)))
  change_from [] t u e at = absurd (some-ne-none e (sym at))
  change_from (x ∷ xs) zero zero e at = (x, refl, inl (refl, sym (some-injective (f x) e at)))
  change_from (x ∷ xs) zero (suc u) e at = (e, at, inr ((λ z. omega arith), refl))
  change_from (x ∷ xs) (suc t) zero e at = (x, refl, inr ((λ z. omega arith), sym (some-injective x e at)))
  change_from (x ∷ xs) (suc t) (suc u) e at = let r = change_from xs t u e at in
      (r.0, r.1, ⊎_elim (λ z. inl (ap suc z.0, z.1)) (λ z. let n = z.0 in inr ((λ q. n (omega arith)), z.1)) r.2)

pub marked_past : (l : List KnownEntry) (t : ℕ) → length l ≤ t → marked l t ≡ false
marked_past [] t past = refl
marked_past (x ∷ xs) zero past = absurd (omega arith)
marked_past (x ∷ xs) (suc t) past = marked_past xs t (omega arith)
