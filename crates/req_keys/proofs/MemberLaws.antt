-- Membership in a list of positions, as a test and as a fact.
use Rattle.std.proofs.Common.{◌≡◌, ℕ, zero, suc, ◌<◌, ◌↔◌, eqb, Bool, true, false, List, [], ◌∷◌, length, get_or, refl, sym, ◌∙◌, arith, ⊎_elim}
use Rattle.std.specs.Prelude.{All, Contains}
use Rattle.std.specs.List.{list_all}
use Rattle.std.proofs.lemmas.List.{get_or_default}
use Rattle.std.proofs.lemmas.List.Elements.{All-nil, All-cons, All-head, All-tail}
use Rattle.std.proofs.lemmas.Bool.{cases_eq, cases_Bool, eq-eqb, false≢true, and_parts, and_from}
use Rattle.std.proofs.Math.Bool.{or-true}
use Rattle.req_keys.specs.Positions.{has}
use Rattle.req_keys.proofs.PositionsLaws.{has-other}

pub has-get_or : (xs : List ℕ) (k x : ℕ) → k < length xs → get_or xs k 0 ≡ x → has xs x ≡ true
has-get_or [] k x l e = absurd (omega arith)
has-get_or (y ∷ ys) zero x l e = rw (eq-eqb y x e) refl
has-get_or (y ∷ ys) (suc k) x l e = rw (has-get_or ys k x (omega arith) e) (or-true (eqb y x))

pub has-from_Contains : (xs : List ℕ) (x : ℕ) → Contains xs x → has xs x ≡ true
has-from_Contains xs x h = has-get_or xs h.0 x h.1 (get_or_default xs h.0 0 x h.1 ∙ h.2)

pub Contains-from_has : (xs : List ℕ) (x : ℕ) → has xs x ≡ true → Contains xs x
Contains-from_has [] x e = absurd (false≢true e)
Contains-from_has (y ∷ ys) x e =
    ⊎_elim
    (λ (same : y ≡ x). (0, omega arith, same))
    (λ (other : y ≡ x → ⊥). let rest : Contains ys x = Contains-from_has ys x (sym (has-other y ys x other) ∙ e) in (suc rest.0, omega arith, rest.2))
    (cases_eq y x)

pub not_has-from_none : (xs : List ℕ) (x : ℕ) → ¬ Contains xs x → has xs x ≡ false
not_has-from_none xs x h = ⊎_elim (λ (t : has xs x ≡ true). absurd (h (Contains-from_has xs x t))) (λ (f : has xs x ≡ false). f) (cases_Bool (has xs x))

-- a test of all elements that decides a fact
pub list_all-iff : (t : ℕ → Bool) (P : ℕ → Type 0) → ((i : ℕ) → t i ≡ true → P i) → ((i : ℕ) → P i → t i ≡ true) → (xs : List ℕ) → (list_all t xs ≡ true) ↔ All P xs
list_all-iff t P to from [] = (λ _. All-nil P, λ _. refl)
list_all-iff t P to from (x ∷ xs) =
    let rest : (list_all t xs ≡ true) ↔ All P xs = list_all-iff t P to from xs in (
      λ e. let both = and_parts (t x) (list_all t xs) e in All-cons P x xs (to x both.0) (rest.0 both.1),
      λ all. and_from (t x) (list_all t xs) (from x (All-head P x xs all)) (rest.1 (All-tail P x xs all)),
    )
