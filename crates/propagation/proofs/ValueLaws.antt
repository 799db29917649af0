-- What the closure says of a variable, and that the order of clauses makes no difference.
use Rattle.std.proofs.Common.{◌≡◌, ◌∙◌, ◌⊎◌, refl, sym, ap, subst, inl, inr, ⊎_elim, ℕ, Bool, true, false, cond, List, Option, Some, None}
use Rattle.std.specs.Prelude.{◌↔◌, ◌≢◌, All, Any, Contains}
use Rattle.std.proofs.lemmas.Bool.{false≢true, cases_Bool, false_from_ne_true}
use Rattle.std.proofs.lemmas.List.Elements.{Contains-get_or}
use Rattle.clauses.specs.declared.literal.Lit.{Lit}
use Rattle.clauses.specs.Clause.{has, is_same, negation, positive_of, negative_of}
use Rattle.clauses.specs.Closure.{closure, clash, AreAmong}
use Rattle.clauses.proofs.Literals.{is_same-eq, is_same-refl, has-from, from_has}
use Rattle.clauses.proofs.LeastLaws.{closure-closed, closure-least, closure-among, clash-among, clash-iff}
use Rattle.propagation.specs.Propagation.{value_of}

-- ---- members

pub All-members : {X : Type 0} (P : X → Type 0) (xs : List X) → ((x : X) → Contains xs x → P x) → All P xs
All-members P xs f = λ k d lt. f _ (Contains-get_or xs k d lt)

pub Any-member : {X : Type 0} (P : X → Type 0) (xs : List X) (x : X) → Contains xs x → P x → Any P xs
Any-member P xs x m p = (m.0, x, m.1, m.2, p)

pub member-Any : {X : Type 0} (P : X → Type 0) (xs : List X) → Any P xs → (x : X) × Contains xs x × P x
member-Any P xs some = (some.1, (some.0, some.2, some.3), some.4)

pub same_or_not : (a b : Lit) → (a ≡ b) ⊎ (a ≢ b)
same_or_not a b =
    ⊎_elim
    (λ (t : is_same a b ≡ true). inl (is_same-eq a b t))
    (λ (f : is_same a b ≡ false). inr (λ e. false≢true (sym f ∙ subst (λ k. is_same a k ≡ true) e (is_same-refl a))))
    (cases_Bool (is_same a b))

-- ---- one sign

-- some clause forces the literal there
pub record HasReason (clauses : List (List Lit)) (literal : Lit) : Type 0 where
  pub clause : List Lit
  pub is_one : Contains clauses clause
  pub inside : Contains clause literal
  pub others : (other : Lit) → Contains clause other → other ≢ literal → Contains (closure clauses) (negation other)

pub closure-reason : (clauses : List (List Lit)) (l : Lit) → Contains (closure clauses) l → HasReason clauses l
closure-reason clauses l m =
    (closure-least clauses (λ k. Contains (closure clauses) k × HasReason clauses k)
    (λ clause k one inside others. (
      closure-closed clauses clause k one inside (λ o n ne. (others o n ne).0),
      record { clause = clause; is_one = one; inside = inside; others = λ o n ne. (others o n ne).0 },
    ))
    l m).1

-- a literal and its negation in the closure are a clash
pub both-clash : (clauses : List (List Lit)) (l : Lit) → Contains (closure clauses) l → Contains (closure clauses) (negation l) → clash clauses ≡ true
both-clash clauses l m n =
    let reason = closure-reason clauses l m in
    (clash-iff clauses).1
    (Any-member (All (λ k. Contains (closure clauses) (negation k))) clauses reason.clause reason.is_one
    (All-members (λ k. Contains (closure clauses) (negation k)) reason.clause (λ o inside.
    ⊎_elim
    (λ (e : o ≡ l). subst (λ k. Contains (closure clauses) (negation k)) (sym e) n)
    (λ (ne : o ≢ l). reason.others o inside ne)
    (same_or_not o l))))

pub one_sign : (clauses : List (List Lit)) (l : Lit) → clash clauses ≡ false → Contains (closure clauses) l → ¬ Contains (closure clauses) (negation l)
one_sign clauses l no_clash m n = false≢true (sym no_clash ∙ both-clash clauses l m n)

-- ---- values

abbrev value_by : Bool → Bool → Option Bool
value_by p n = cond p (Some true) (cond n (Some false) None)

by-true : (p n : Bool) → value_by p n ≡ Some true → p ≡ true
by-true true n e = refl
by-true false true e = absurd (cc)
by-true false false e = absurd (cc)

by-false : (p n : Bool) → value_by p n ≡ Some false → n ≡ true
by-false true n e = absurd (cc)
by-false false true e = refl
by-false false false e = absurd (cc)

by-none : (p n : Bool) → value_by p n ≡ None → (p ≡ false) × (n ≡ false)
by-none true n e = absurd (cc)
by-none false true e = absurd (cc)
by-none false false e = (refl, refl)

module _ (clauses : List (List Lit)) (var : ℕ) where
  abbrev yes : Bool
  yes = has (closure clauses) (positive_of var)

  abbrev no : Bool
  no = has (closure clauses) (negative_of var)

  has_not : (l : Lit) → ¬ Contains (closure clauses) l → has (closure clauses) l ≡ false
  has_not l out = false_from_ne_true (has (closure clauses) l) (λ t. out (from_has (closure clauses) l t))

  out : (l : Lit) → has (closure clauses) l ≡ false → ¬ Contains (closure clauses) l
  out l e m = false≢true (sym e ∙ has-from (closure clauses) l m)

  pub value-true : (value_of clauses var ≡ Some true) ↔ Contains (closure clauses) (positive_of var)
  value-true = (
    (λ e. from_has (closure clauses) (positive_of var) (by-true yes no e)),
    (λ m. ap (λ b. value_by b no) (has-from (closure clauses) (positive_of var) m)),
  )

  pub false-from : ¬ Contains (closure clauses) (positive_of var) → Contains (closure clauses) (negative_of var) → value_of clauses var ≡ Some false
  false-from not_yes m =
      ap (λ b. value_by b no) (has_not (positive_of var) not_yes) ∙ ap (λ b. value_by false b) (has-from (closure clauses) (negative_of var) m)

  pub value-false : clash clauses ≡ false → (value_of clauses var ≡ Some false) ↔ Contains (closure clauses) (negative_of var)
  value-false no_clash = (
    (λ e. from_has (closure clauses) (negative_of var) (by-false yes no e)),
    (λ m. false-from (λ n. one_sign clauses (negative_of var) no_clash m n) m),
  )

  pub none-from : ¬ Contains (closure clauses) (positive_of var) → ¬ Contains (closure clauses) (negative_of var) → value_of clauses var ≡ None
  none-from not_yes not_no =
      ap (λ b. value_by b no) (has_not (positive_of var) not_yes) ∙ ap (λ b. value_by false b) (has_not (negative_of var) not_no)

  pub value-none : (value_of clauses var ≡ None) ↔ ((¬ Contains (closure clauses) (positive_of var)) × (¬ Contains (closure clauses) (negative_of var)))
  value-none = (
    (λ e. let both = by-none yes no e in (out (positive_of var) both.0, out (negative_of var) both.1)),
    (λ both. none-from both.0 both.1),
  )

pub in_closure : (clauses : List (List Lit)) (var : ℕ) (b : Bool) → clash clauses ≡ false → value_of clauses var ≡ Some b → Contains (closure clauses) (record { var = var; positive = b })
in_closure clauses var true no_clash e = (value-true clauses var).0 e
in_closure clauses var false no_clash e = (value-false clauses var no_clash).0 e

-- ---- any order

same_bool : (a b : Bool) → (a ≡ true → b ≡ true) → (b ≡ true → a ≡ true) → a ≡ b
same_bool true b f g = sym (f refl)
same_bool false true f g = g refl
same_bool false false f g = refl

module _ (a b : List (List Lit)) (within : AreAmong a b) (back : AreAmong b a) where
  pub clash-same : clash a ≡ clash b
  clash-same = same_bool (clash a) (clash b) (clash-among a b within) (clash-among b a back)

  has-same : (l : Lit) → has (closure a) l ≡ has (closure b) l
  has-same l =
      same_bool (has (closure a) l) (has (closure b) l)
      (λ e. has-from (closure b) l (closure-among a b within l (from_has (closure a) l e)))
      (λ e. has-from (closure a) l (closure-among b a back l (from_has (closure b) l e)))

  pub value-same : (var : ℕ) → value_of a var ≡ value_of b var
  value-same var = ap (λ y. value_by y (has (closure a) (negative_of var))) (has-same (positive_of var)) ∙ ap (value_by (has (closure b) (positive_of var))) (has-same (negative_of var))

-- clauses that are members are among them
pub part-among : (a b : List (List Lit)) → ((clause : List Lit) → Contains a clause → Contains b clause) → AreAmong a b
part-among a b within = λ clause m. (clause, within clause m, λ l. ((λ x. x), (λ x. x)))
