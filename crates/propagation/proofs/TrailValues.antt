-- By its number: whether a literal stands on a trail.
use Rattle.std.proofs.Common.{◌≡◌, ◌∙◌, refl, sym, ap, subst, ⊎_elim, ℕ, ◌+◌, ◌<◌, Bool, true, false, cond, List, [], ◌∷◌, ◌++◌, length, get_or, set, take, drop, arith}
use Rattle.std.specs.Prelude.{All, Contains}
use Rattle.std.proofs.lemmas.Bool.{cases_eq, false≢true}
use Rattle.std.proofs.lemmas.List.{get_or-drop, get_or-set_same, get_or-set_other, get_or-take, length-drop, length-set, length-take, take-append-drop}
use Rattle.std.proofs.lemmas.List.Elements.{All-drop, All-take, Contains-append_left, Contains-append_right, Contains-append_cases, Contains-push_cases}
use Rattle.lists.proofs.Members.{first}
use Rattle.clauses.specs.declared.literal.Lit.{Lit}
use Rattle.clauses.specs.Clause.{has}
use Rattle.clauses.specs.Problem.{IsBelow}
use Rattle.clauses.proofs.Literals.{has-from, from_has}
use Rattle.propagation.specs.inside.Trails.{AreUnset, AreValues, IsTrail, code_of}
use Rattle.propagation.proofs.TrailLaws.{place-is, same_bool, since-at}
use Rattle.propagation.proofs.CodeLaws.{code-below, code-same}

has-push-same : (ls : List Lit) (l : Lit) → has (ls ++ l ∷ []) l ≡ true
has-push-same ls l = has-from (ls ++ l ∷ []) l (Contains-append_right ls (l ∷ []) l (first l []))

has-push-other : (ls : List Lit) (l x : Lit) → ¬ x ≡ l → has (ls ++ l ∷ []) x ≡ has ls x
has-push-other ls l x ne =
    same_bool (has (ls ++ l ∷ []) x) (has ls x)
    (λ t. ⊎_elim (λ (m : Contains ls x). has-from ls x m) (λ (e : l ≡ x). absurd (ne (sym e))) (Contains-push_cases ls l x (from_has (ls ++ l ∷ []) x t)))
    (λ t. has-from (ls ++ l ∷ []) x (Contains-append_left ls (l ∷ []) x (from_has ls x t)))

-- ---- one literal more

pub values-push : (n : ℕ) (ls : List Lit) (values : List Bool) → AreValues n ls values → (l : Lit) → l.var < n → AreValues n (ls ++ l ∷ []) (set values (code_of l) true)
values-push n ls values are l below = record {
  few = are.few;
  sized = length-set values (code_of l) true ∙ are.sized;
  valued = λ x x_below.
      let inside : code_of l < length values = let low = code-below n l below in let size = are.sized in omega arith in
      ⊎_elim
      (λ (e : code_of x ≡ code_of l).
      ap (λ k. get_or (set values (code_of l) true) k false) e
      ∙ get_or-set_same values (code_of l) true false inside
      ∙ sym (has-push-same ls l)
      ∙ ap (has (ls ++ l ∷ [])) (sym (code-same x l e)))
      (λ (ne : ¬ code_of x ≡ code_of l).
      get_or-set_other values (code_of l) (code_of x) true false ne
      ∙ are.valued x x_below
      ∙ sym (has-push-other ls l x (λ e. ne (ap code_of e))))
      (cases_eq (code_of x) (code_of l));
}

-- ---- the first so many stay

module _ (literals : List Lit) (places : List ℕ) (room : ℕ) (is : IsTrail literals places room) (count : ℕ) where
  pub trail-cut : IsTrail (take count literals) places room
  trail-cut = record {
    placed = λ i d lt.
        let size = length-take count literals in
        let early : i < count = omega arith in
        ap (λ (x : Lit). get_or places x.var 0) (get_or-take count literals i d early) ∙ is.placed i d (omega arith);
    below = All-take (IsBelow (length places)) count literals is.below;
    reserved = is.reserved;
  }

  module _ (values : List Bool) (are : AreValues (length places) literals values) where
    pub gone-inside : All (λ literal. code_of literal < length values) (drop count literals)
    gone-inside k d lt =
        let low = code-below (length places) (get_or (drop count literals) k d) (All-drop (IsBelow (length places)) count literals is.below k d lt) in
        let size = are.sized in
        omega arith

    later-gone : (x : Lit) → has (drop count literals) x ≡ true → has (take count literals) x ≡ false
    later-gone x t =
        let m = from_has (drop count literals) x t in
        let lt = m.1 in
        let size = length-drop count literals in
        let inside : count + m.0 < length literals = omega arith in
        let at : get_or literals (count + m.0) x ≡ x = sym (get_or-drop count literals m.0 x) ∙ m.2 in
        let place = place-is literals places room is x (count + m.0) inside at in
        since-at literals places room is x count (omega arith)

    still-there : (x : Lit) → has (drop count literals) x ≡ false → has literals x ≡ has (take count literals) x
    still-there x f =
        same_bool (has literals x) (has (take count literals) x)
        (λ t.
        ⊎_elim
        (λ (m : Contains (take count literals) x). has-from (take count literals) x m)
        (λ (m : Contains (drop count literals) x). absurd (false≢true (sym f ∙ has-from (drop count literals) x m)))
        (Contains-append_cases (take count literals) (drop count literals) x (subst (λ ls. Contains ls x) (sym (take-append-drop count literals)) (from_has literals x t))))
        (λ t.
        has-from literals x
        (subst (λ ls. Contains ls x) (take-append-drop count literals) (Contains-append_left (take count literals) (drop count literals) x (from_has (take count literals) x t))))

    pub values-cut : (new : List Bool) → AreUnset values (drop count literals) new → AreValues (length places) (take count literals) new
    values-cut new unset = record {
      few = are.few;
      sized = unset.0 ∙ are.sized;
      valued = λ x below.
          let low = code-below (length places) x below in
          let size = are.sized in
          unset.1 x (omega arith) ∙ by (has (drop count literals) x) x refl below;
    }
      where
        by : (b : Bool) (x : Lit) → has (drop count literals) x ≡ b → x.var < length places → cond (has (drop count literals) x) false (get_or values (code_of x) false) ≡ has (take count literals) x
        by true x e below = ap (λ b. cond b false (get_or values (code_of x) false)) e ∙ sym (later-gone x e)
        by false x e below = ap (λ b. cond b false (get_or values (code_of x) false)) e ∙ are.valued x below ∙ still-there x e
