-- Lists that are cut: up to a member, and after the last member but one of a trimmed set.
use Rattle.std.proofs.Common.{⊎_elim, ℕ, ◌≡◌, Bool, true, false, cond, eqb, subst, List, [], ◌∷◌}
use Rattle.std.specs.Prelude.{Contains}
use Rattle.pref_sets.specs.Preferred.{IsWithin}
use Rattle.lists.specs.Distinct.{IsDistinct}
use Rattle.lists.proofs.Members.{none, first, later, first_or_later}
use Rattle.clauses.specs.Search.{up_to, cut_after}

pub under_cond : (b : Bool) (us : List ℕ) → IsWithin (cond b [] us) us
under_cond true us x m = absurd (none x m)
under_cond false us x m = m

pub up_to-within : (last : ℕ) (xs : List ℕ) → IsWithin (up_to last xs) xs
up_to-within last [] x m = m
up_to-within last (y ∷ ys) x m =
    ⊎_elim
    (λ (e : y ≡ x). subst (Contains (y ∷ ys)) e (first y ys))
    (λ (r : Contains (cond (eqb y last) [] (up_to last ys)) x). later y ys x (up_to-within last ys x (under_cond (eqb y last) (up_to last ys) x r)))
    (first_or_later y (cond (eqb y last) [] (up_to last ys)) x m)

distinct_none : (b : Bool) (us : List ℕ) → IsDistinct us → IsDistinct (cond b [] us)
distinct_none true us d = tt
distinct_none false us d = d

pub up_to-distinct : (last : ℕ) (xs : List ℕ) → IsDistinct xs → IsDistinct (up_to last xs)
up_to-distinct last [] d = tt
up_to-distinct last (y ∷ ys) d = (
  (λ m. d.0 (up_to-within last ys y (under_cond (eqb y last) (up_to last ys) y m))),
  distinct_none (eqb y last) (up_to last ys) (up_to-distinct last ys d.1),
)

pub cut-within : (decisions order : List ℕ) → IsWithin (cut_after decisions order) decisions
cut-within decisions [] x m = absurd (none x m)
cut-within decisions (last ∷ []) x m = absurd (none x m)
cut-within decisions (last ∷ before ∷ others) x m = up_to-within before decisions x m

pub cut-distinct : (decisions order : List ℕ) → IsDistinct decisions → IsDistinct (cut_after decisions order)
cut-distinct decisions [] d = tt
cut-distinct decisions (last ∷ []) d = tt
cut-distinct decisions (last ∷ before ∷ others) d = up_to-distinct before decisions d
