-- What stands on a trail.
use Rattle.std.proofs.Common.{◌≡◌, ◌∙◌, ◌⊎◌, refl, sym, ap, subst, inl, inr, ⊎_elim, ℕ, suc, ◌+◌, ◌<◌, ◌≤◌, Bool, true, false, cond, not, ◌&&◌, eqb, List, [], ◌∷◌, ◌++◌, length, get_or, map, take, drop, set, arith}
use Rattle.std.specs.Prelude.{All, Contains}
use Rattle.std.proofs.Math.Bool.{beq}
use Rattle.std.proofs.Math.ListN.{get_or-append}
use Rattle.std.proofs.lemmas.Bool.{false≢true, cases_eq, false_from_ne_true}
use Rattle.std.proofs.lemmas.List.{length-map, length-take, get_or-map, get_or-take, get_or_default, get_or_push, get_or-set_same, get_or-set_other, length-set, length_push, take-append-drop}
use Rattle.std.proofs.lemmas.List.Elements.{All-cons, All-push, All-contains, Contains-append_left, Contains-get_or}
use Rattle.lists.specs.Distinct.{IsDistinct}
use Rattle.lists.proofs.Members.{from_map, to_map}
use Rattle.clauses.specs.declared.literal.Lit.{Lit}
use Rattle.clauses.specs.Clause.{has, is_same, negation}
use Rattle.clauses.specs.Problem.{IsBelow}
use Rattle.clauses.proofs.Literals.{has-from, from_has, is_same-eq, is_same-refl}
use Rattle.propagation.specs.inside.Trails.{IsTrail}
use Rattle.propagation.proofs.RoomLaws.{distinct-few}
use Rattle.propagation.proofs.ValueLaws.{All-members}

pub same_bool : (a b : Bool) → (a ≡ true → b ≡ true) → (b ≡ true → a ≡ true) → a ≡ b
same_bool true b f g = sym (f refl)
same_bool false true f g = g refl
same_bool false false f g = refl

-- ---- literals of a variable

sign-test : (a b : Bool) → (a ≡ b) ⊎ (a ≡ not b)
sign-test true true = inl refl
sign-test true false = inr refl
sign-test false true = inr refl
sign-test false false = inl refl

pub one-of-two : (x l : Lit) → x.var ≡ l.var → (x ≡ l) ⊎ (x ≡ negation l)
one-of-two x l e =
    ⊎_elim
    (λ (s : x.positive ≡ l.positive). inl (ap (λ v. record { var = v; positive = x.positive }) e ∙ ap (λ b. record { var = l.var; positive = b }) s))
    (λ (s : x.positive ≡ not l.positive). inr (ap (λ v. record { var = v; positive = x.positive }) e ∙ ap (λ b. record { var = l.var; positive = b }) s))
    (sign-test x.positive l.positive)

same-test : (n : Bool) (a b : Bool) → (n && beq a b) ≡ (n && cond a b (not b))
same-test n true true = refl
same-test n true false = refl
same-test n false true = refl
same-test n false false = refl

pub equal-test : (x l : Lit) → (eqb x.var l.var && beq x.positive l.positive) ≡ is_same x l
equal-test x l = same-test (eqb x.var l.var) x.positive l.positive

-- a list whose items say where they stand is distinct
distinct-places : (xs : List ℕ) → ((i j : ℕ) → i < length xs → j < length xs → get_or xs i 0 ≡ get_or xs j 0 → i ≡ j) → IsDistinct xs
distinct-places [] f = tt
distinct-places (x ∷ xs) f = (
  (λ m.
      let again : 0 ≡ suc m.0 = f 0 (suc m.0) (omega arith) (let l = m.1 in omega arith) (sym (get_or_default xs m.0 0 x m.1 ∙ m.2)) in
      absurd (omega arith)),
  distinct-places xs (λ i j a b e. let same : suc i ≡ suc j = f (suc i) (suc j) (omega arith) (omega arith) e in omega arith),
)

module _ (literals : List Lit) (places : List ℕ) (room : ℕ) (is : IsTrail literals places room) where
  -- the place that a variable keeps is that of its literal
  pub place-is : (l : Lit) (k : ℕ) → k < length literals → get_or literals k l ≡ l → get_or places l.var 0 ≡ k
  place-is l k lt e = ap (λ (x : Lit). get_or places x.var 0) (sym e) ∙ is.placed k l lt

  pub true-at : (l x : Lit) (p : ℕ) → p ≡ get_or places l.var 0 → p < length literals → x ≡ get_or literals p x → (b : Bool) → b ≡ (eqb x.var l.var && beq x.positive l.positive) → b ≡ has literals l
  true-at l x p e lt at b test =
      let is_one : b ≡ is_same x l = test ∙ equal-test x l in
      same_bool b (has literals l)
      (λ t. has-from literals l (p, lt, subst (λ (y : Lit). get_or literals p y ≡ y) (is_same-eq x l (sym is_one ∙ t)) (sym at)))
      (λ h.
      let m = from_has literals l h in
      let same : p ≡ m.0 = e ∙ place-is l m.0 m.1 m.2 in
      let here : x ≡ l = at ∙ get_or_default literals p x l lt ∙ ap (λ k. get_or literals k l) same ∙ m.2 in
      is_one ∙ subst (λ (y : Lit). is_same y l ≡ true) (sym here) (is_same-refl l))

  pub true-past : (l : Lit) (p : ℕ) → p ≡ get_or places l.var 0 → length literals ≤ p → has literals l ≡ false
  true-past l p e past =
      false_from_ne_true (has literals l) (λ h.
      let m = from_has literals l h in
      let same : p ≡ m.0 = e ∙ place-is l m.0 m.1 m.2 in
      let lt = m.1 in
      omega arith)

  -- a literal that came at a place or later isn't among those before it
  pub since-at : (l : Lit) (start : ℕ) → start ≤ get_or places l.var 0 → has (take start literals) l ≡ false
  since-at l start late =
      false_from_ne_true (has (take start literals) l) (λ h.
      let m = from_has (take start literals) l h in
      let lt = m.1 in
      let size = length-take start literals in
      let early : m.0 < start = omega arith in
      let inside : m.0 < length literals = omega arith in
      let here = place-is l m.0 inside (sym (get_or-take start literals m.0 l early) ∙ m.2) in
      omega arith)

  before-at : (l : Lit) (start : ℕ) → has literals l ≡ true → get_or places l.var 0 < start → has (take start literals) l ≡ true
  before-at l start inside early =
      let m = from_has literals l inside in
      let lt = m.1 in
      let here = place-is l m.0 m.1 m.2 in
      let size = length-take start literals in
      let before : m.0 < start = omega arith in
      has-from (take start literals) l (m.0, omega arith, get_or-take start literals m.0 l before ∙ m.2)

  pub was-at : (l : Lit) (count p : ℕ) → p ≡ get_or places l.var 0 → p < count → has literals l ≡ has (take count literals) l
  was-at l count p e early =
      same_bool (has literals l) (has (take count literals) l)
      (λ t. before-at l count t (subst (λ k. k < count) e early))
      (λ t.
      has-from literals l (subst (λ ls. Contains ls l) (take-append-drop count literals) (Contains-append_left (take count literals) (drop count literals) l (from_has (take count literals) l t))))

  pub was-past : (l : Lit) (count p : ℕ) → p ≡ get_or places l.var 0 → count ≤ p → has (take count literals) l ≡ false
  was-past l count p e late = since-at l count (subst (λ k. count ≤ k) e late)

  abbrev pub vars : List ℕ
  vars = map (λ (l : Lit). l.var) literals

  var-at : (i : ℕ) → i < length literals → get_or places (get_or vars i 0) 0 ≡ i
  var-at i lt = ap (λ v. get_or places v 0) (get_or-map (λ (l : Lit). l.var) literals i (record { var = 0; positive = false }) 0 lt) ∙ is.placed i (record { var = 0; positive = false }) lt

  vars-distinct : IsDistinct vars
  vars-distinct =
      distinct-places vars (λ i j a b e.
      let size = length-map literals (λ (l : Lit). l.var) in
      let one = var-at i (omega arith) in
      let two = var-at j (omega arith) in
      sym one ∙ ap (λ v. get_or places v 0) e ∙ two)

  vars-below : All (λ v. v < length places) vars
  vars-below =
      All-members (λ v. v < length places) vars (λ v m.
      let of = from_map (λ (l : Lit). l.var) literals v m in
      subst (λ x. x < length places) of.2 (All-contains (IsBelow (length places)) literals of.0 is.below of.1))

  pub vars-few : length literals ≤ length places
  vars-few = let few = distinct-few (length places) vars vars-distinct vars-below in let size = length-map literals (λ (l : Lit). l.var) in omega arith

  -- a literal of a variable that has none
  module _ (l : Lit) (below : l.var < length places) (not_true : has literals l ≡ false) (not_false : has literals (negation l) ≡ false) where
    fresh : ¬ Contains vars l.var
    fresh m =
        let of = from_map (λ (x : Lit). x.var) literals l.var m in
        ⊎_elim
        (λ (e : of.0 ≡ l). false≢true (sym not_true ∙ has-from literals l (subst (Contains literals) e of.1)))
        (λ (e : of.0 ≡ negation l). false≢true (sym not_false ∙ has-from literals (negation l) (subst (Contains literals) e of.1)))
        (one-of-two of.0 l of.2)

    pub room-for-one : length literals < room
    room-for-one =
        let few = distinct-few (length places) (l.var ∷ vars) (fresh, vars-distinct) (All-cons (λ v. v < length places) l.var vars below vars-below) in
        let size = length-map literals (λ (x : Lit). x.var) in
        let one : length (l.var ∷ vars) ≡ length vars + 1 = omega arith in
        let reserved = is.reserved in
        omega arith

    pub trail-push : IsTrail (literals ++ l ∷ []) (set places l.var (length literals)) room
    trail-push = record {
      placed = (λ i d lt.
          let longer = length_push literals l in
          ⊎_elim
          (λ (here : length literals ≡ i).
          ap (λ (x : Lit). get_or (set places l.var (length literals)) x.var 0) (get_or_push literals l d i here)
          ∙ get_or-set_same places l.var (length literals) 0 below ∙ here)
          (λ (other : ¬ length literals ≡ i).
          let old : i < length literals = omega arith in
          let other_var : ¬ (get_or literals i d).var ≡ l.var = λ e. fresh (subst (Contains vars) e (to_map (λ (x : Lit). x.var) literals (get_or literals i d) (Contains-get_or literals i d old))) in
          ap (λ (x : Lit). get_or (set places l.var (length literals)) x.var 0) (get_or-append literals (l ∷ []) d i old)
          ∙ get_or-set_other places l.var (get_or literals i d).var (length literals) 0 other_var
          ∙ is.placed i d old)
          (cases_eq (length literals) i));
      below =
          subst (λ n. All (IsBelow n) (literals ++ l ∷ [])) (sym (length-set places l.var (length literals)))
          (All-push (IsBelow (length places)) literals l is.below below);
      reserved = subst (λ n. n ≤ room) (sym (length-set places l.var (length literals))) is.reserved;
    }
