-- Lists without a repeated item.
use Rattle.std.proofs.Common.{◌≡◌, sym, subst, ⊎_elim, List, [], ◌∷◌, ◌++◌}
use Rattle.std.specs.Prelude.{Contains}
use Rattle.std.proofs.lemmas.List.Elements.{Contains-push_cases}
use Rattle.lists.specs.Distinct.{IsDistinct}
use Rattle.lists.proofs.Members.{first, later, none}

pub distinct-push : {X : Type 0} (xs : List X) (x : X) → IsDistinct xs → ¬ Contains xs x → IsDistinct (xs ++ x ∷ [])
distinct-push [] x d f = (none x, tt)
distinct-push (y ∷ ys) x d f = (
  (λ m. ⊎_elim (λ (old : Contains ys y). d.0 old) (λ (e : x ≡ y). f (subst (Contains (y ∷ ys)) (sym e) (first y ys))) (Contains-push_cases ys x y m)),
  distinct-push ys x d.1 (λ m. f (later y ys x m)),
)
