-- For the tests: the numbers from a on are distinct, and what a search of a list says.
use Rattle.std.proofs.Common.{◌≡◌, ℕ, zero, suc, ◌+◌, ◌<◌, true, false, eqb, List, length, get_or, refl, sym, ◌∙◌, subst, arith}
use Rattle.std.specs.Prelude.{Contains}
use Rattle.std.specs.List.{range_with_len, list_any}
use Rattle.std.proofs.lemmas.Bool.{eq-eqb, eqb-true, false≢true}
use Rattle.std.proofs.lemmas.List.FromFn.{get_or-range_with_len, length-range_with_len}
use Rattle.pref_sets.specs.Preferred.{IsDistinct}
use Rattle.lists.proofs.Members.{any_none, any_at}

pub IsDistinct-range : (a m : ℕ) → IsDistinct (range_with_len a m)
IsDistinct-range a zero = tt
IsDistinct-range a (suc m) = (
  (λ c.
      let within : c.0 < length (range_with_len (a + 1) m) = c.1 in
      let size : length (range_with_len (a + 1) m) ≡ m = length-range_with_len (a + 1) m in
      let value : get_or (range_with_len (a + 1) m) c.0 a ≡ (a + 1) + c.0 = get_or-range_with_len (a + 1) m c.0 a (omega arith) in
      let same : get_or (range_with_len (a + 1) m) c.0 a ≡ a = c.2 in
      omega arith),
  IsDistinct-range (a + 1) m,
)

pub none-from_any : (xs : List ℕ) (x : ℕ) → list_any (λ y. eqb y x) xs ≡ false → Contains xs x → ⊥
none-from_any xs x e m = false≢true (sym (any_none (λ y. eqb y x) xs x e m) ∙ eq-eqb x x refl)

pub contains-from_any : (xs : List ℕ) (x : ℕ) → list_any (λ y. eqb y x) xs ≡ true → Contains xs x
contains-from_any xs x e = let r = any_at (λ y. eqb y x) xs e in subst (λ y. Contains xs y) (eqb-true r.0 x r.2) r.1
