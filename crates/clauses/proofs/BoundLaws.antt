-- At most 2 ^ v - 1 clauses are learned over v variables, so an allowance of that many is never spent.
use Rattle.std.proofs.Common.{◌≡◌, ◌∙◌, refl, sym, ap, subst, ⊎_elim, ℕ, zero, suc, ◌+◌, ◌^◌, ◌<◌, ◌≤◌, Bool, true, false, cond, not, eqb, List, [], ◌∷◌, ◌++◌, map, length, reverse, Some, arith}
use Rattle.std.specs.Prelude.{Contains}
use Rattle.std.proofs.lemmas.Bool.{false≢true, and_parts, eqb-true, cases_eq, false_from_ne_true}
use Rattle.std.proofs.lemmas.List.{length_push}
use Rattle.std.proofs.lemmas.List.Elements.{Contains-append_left, Contains-push, Contains-push_cases}
use Rattle.clauses.specs.declared.literal.Lit.{Lit}
use Rattle.clauses.specs.Clause.{literal_with}
use Rattle.clauses.specs.Closure.{closure, clash}
use Rattle.clauses.specs.Search.{Limit, Standing, Turn, GoesOn, Ends, under, all_with, some_without, needed_decisions, cut_after, turn, start, standing_after, answer_within, NameTheSame, NameOthers}
use Rattle.lists.proofs.Members.{none, first, later, first_or_later, from_map, to_map}
use Rattle.lists.proofs.Ranges.{range-below}
use Rattle.clauses.proofs.TurnLaws.{IsTurn, answers, decides, refutes, gives_up, adds_clause, turn_is, reached, ended}
use Rattle.clauses.proofs.EnoughLaws.{among, among-from, from_among, open-parts}
use Rattle.clauses.proofs.TrimmedLaws.{trimmed-within}
use Rattle.clauses.proofs.Cuts.{cut-within}
use Rattle.clauses.proofs.StandingLaws.{IsGood, good_next, start-good}
use Rattle.clauses.proofs.Subsets.{agree, Differ, differ-most}

-- ---- the variables of a clause as a set

abbrev vars_of : List Lit → List ℕ
vars_of clause = map (λ l. l.var) clause

abbrev set_of : List Lit → ℕ → Bool
set_of clause = among (vars_of clause)

equal_from : (a b : Bool) → cond a b (not b) ≡ true → a ≡ b
equal_from true b e = sym e
equal_from false true e = absurd (false≢true e)
equal_from false false e = refl

agree-at : (v : ℕ) (f g : ℕ → Bool) (x : ℕ) → agree v f g ≡ true → x < v → f x ≡ g x
agree-at zero f g x e l = absurd (omega arith)
agree-at (suc v) f g x e l =
    let both = and_parts (cond (f v) (g v) (not (g v))) (agree v f g) e in
    ⊎_elim
    (λ (h : x ≡ v). ap f h ∙ equal_from (f v) (g v) both.0 ∙ ap g (sym h))
    (λ (n : x ≡ v → ⊥). agree-at v f g x both.1 (omega arith))
    (cases_eq x v)

abbrev Below : ℕ → List Lit → Type 0
Below v clause = (l : Lit) → Contains clause l → l.var < v

vars_below : (v : ℕ) (clause : List Lit) → Below v clause → (x : ℕ) → Contains (vars_of clause) x → x < v
vars_below v clause below x m = let of = from_map (λ l. l.var) clause x m in subst (λ y. y < v) of.2 (below of.0 of.1)

not_same : (v : ℕ) (a b : List Lit) → Below v a → Below v b → (NameTheSame a b → ⊥) → agree v (set_of a) (set_of b) ≡ false
not_same v a b low_a low_b other =
    false_from_ne_true (agree v (set_of a) (set_of b)) (λ e. other (λ x. (
      (λ m. from_among (vars_of b) x (sym (agree-at v (set_of a) (set_of b) x e (vars_below v a low_a x m)) ∙ among-from (vars_of a) x m)),
      (λ m. from_among (vars_of a) x (agree-at v (set_of a) (set_of b) x e (vars_below v b low_b x m) ∙ among-from (vars_of b) x m)),
    )))

names_apart : (earlier lines : List (List Lit)) → NameOthers earlier lines → (e : List Lit) → Contains earlier e → (l : List Lit) → Contains lines l → NameTheSame e l → ⊥
names_apart earlier [] h e m l n = absurd (none l n)
names_apart earlier (line ∷ lines) h e m l n =
    ⊎_elim
    (λ (s : line ≡ l). subst (λ k. NameTheSame e k → ⊥) s (h.0 e m))
    (λ (r : Contains lines l). names_apart (earlier ++ line ∷ []) lines h.1 e (Contains-append_left earlier (line ∷ []) e m) l r)
    (first_or_later line lines l n)

differ_all : (v : ℕ) (earlier lines : List (List Lit)) → NameOthers earlier lines → ((e : List Lit) → Contains lines e → Below v e) → Differ v (map set_of lines)
differ_all v earlier [] h below = tt
differ_all v earlier (line ∷ lines) h below = (
  (λ g m.
      let of = from_map set_of lines g m in
      subst (λ k. agree v (set_of line) k ≡ false) of.2
      (not_same v line of.0 (below line (first line lines)) (below of.0 (later line lines of.0 of.1))
      (names_apart (earlier ++ line ∷ []) lines h.1 line (Contains-push earlier line) of.0 of.1))),
  differ_all v (earlier ++ line ∷ []) lines h.1 (λ e m. below e (later line lines e m)),
)

length-map' : {X Y : Type 0} (f : X → Y) (xs : List X) → length (map f xs) ≡ length xs
length-map' f [] = refl
length-map' f (x ∷ xs) = ap suc (length-map' f xs)

-- ---- decisions and learned clauses are about the variables

pub record IsLow (v : ℕ) (s : Standing) : Type 0 where
  pub decided : (x : ℕ) → Contains s.decisions x → x < v
  pub learned : (e : List Lit) → Contains s.learned e → Below v e

module _ (sign : Bool) (clauses : List (List Lit)) (v a : ℕ) (s : Standing) (low : IsLow v s) where
  low_next : (t : Standing) (r : Turn) → r ≡ GoesOn t → IsTurn sign clauses v a s r → IsLow v t
  low_next t r e (answers c o q) = absurd (cc)
  low_next t r e (decides x xs c o q) =
      let same : (record s { decisions = s.decisions ++ x ∷ [] }) ≡ t = cc in
      subst (IsLow v) same (record {
        decided = λ y m. ⊎_elim
            (λ (old : Contains s.decisions y). low.decided y old)
            (λ (h : x ≡ y). subst (λ z. z < v) h (range-below v x (open-parts v (closure (under sign clauses s)) x xs o).0))
            (Contains-push_cases s.decisions x y m);
        learned = low.learned;
      })
  low_next t r e (refutes c o q) = absurd (cc)
  low_next t r e (gives_up c x xs d o q) = absurd (cc)
  low_next t r e (adds_clause c y ys o n q) =
      let fresh = needed_decisions sign (clauses ++ s.learned) s.decisions in
      let next : Standing = record { learned = s.learned ++ some_without sign fresh ∷ []; decisions = cut_after s.decisions (reverse fresh) } in
      let same : next ≡ t = cc in
      subst (IsLow v) same (record {
        decided = λ x m. low.decided x (cut-within s.decisions (reverse fresh) x m);
        learned = λ e2 m. ⊎_elim
            (λ (old : Contains s.learned e2). low.learned e2 old)
            (λ (h : some_without sign fresh ≡ e2). subst (Below v) h (λ l k.
            let w = from_map (literal_with (not sign)) fresh l k in
            subst (λ x. x < v) (ap (λ j. j.var) w.2) (low.decided w.0 (trimmed-within (λ set. clash ((clauses ++ s.learned) ++ all_with sign set)) s.decisions w.0 w.1))))
            (Contains-push_cases s.learned (some_without sign fresh) e2 m);
      })

start-low : (v : ℕ) → IsLow v start
start-low v = record { decided = λ x m. absurd (none x m); learned = λ e m. absurd (none e m) }

-- ---- the bound

learned-few : (sign : Bool) (clauses : List (List Lit)) (v : ℕ) (s : Standing) → IsGood sign clauses s → IsLow v s → length s.learned < 2 ^ v
learned-few sign clauses v s good low =
    let sets = map set_of ([] ∷ s.learned) in
    let some : (g : ℕ → Bool) → Contains (map set_of s.learned) g → agree v (set_of []) g ≡ false =
    λ g m. (let of = from_map set_of s.learned g m in
    subst (λ k. agree v (set_of []) k ≡ false) of.2
    (not_same v [] of.0 (λ l n. absurd (none l n)) (low.learned of.0 of.1) (λ same.
    good.apart of.0 of.1 (λ l n. absurd (none l.var ((same l.var).1 (to_map (λ j. j.var) of.0 l n))))))) in
    let most : length sets ≤ 2 ^ v = differ-most v sets (some, differ_all v [] s.learned good.others low.learned) in
    let size : length (map set_of s.learned) ≡ length s.learned = length-map' set_of s.learned in
    omega arith

abbrev Both : Bool → List (List Lit) → ℕ → Standing → Type 0
Both sign clauses v s = IsGood sign clauses s × IsLow v s

module _ (sign : Bool) (clauses : List (List Lit)) (v a : ℕ) where
  both_next : (s t : Standing) → Both sign clauses v s → turn sign clauses v a s ≡ GoesOn t → Both sign clauses v t
  both_next s t both e = (
    good_next sign clauses v a s both.0 t (turn sign clauses v a s) e (turn_is sign clauses v a s),
    low_next sign clauses v a s both.1 t (turn sign clauses v a s) e (turn_is sign clauses v a s),
  )

  both_start : Both sign clauses v start
  both_start = (start-good sign clauses, start-low v)

  pub reached-few : (n : ℕ) (last : Standing) → standing_after n sign clauses v a start ≡ Some last → length last.learned < 2 ^ v
  reached-few n last e = let both = reached sign clauses v a (Both sign clauses v) both_next last n start both_start e in learned-few sign clauses v last both.0 both.1

  pub reached-low : (n : ℕ) (last : Standing) → standing_after n sign clauses v a start ≡ Some last → IsLow v last
  reached-low n last e = (reached sign clauses v a (Both sign clauses v) both_next last n start both_start e).1

  -- where the allowance is spent, one more clause could be learned
  spent : (s : Standing) → Both sign clauses v s → (r : Turn) → r ≡ Ends Limit → IsTurn sign clauses v a s r → a + 1 < 2 ^ v
  spent s both r e (answers c o q) = absurd (cc)
  spent s both r e (decides x xs c o q) = absurd (cc)
  spent s both r e (refutes c o q) = absurd (cc)
  spent s both r e (gives_up c x xs d o q) =
      let fresh = needed_decisions sign (clauses ++ s.learned) s.decisions in
      let next : Standing = record { learned = s.learned ++ some_without sign fresh ∷ []; decisions = cut_after s.decisions (reverse fresh) } in
      let more = suc (length s.learned) in
      let other : eqb (length s.learned) more ≡ false = false_from_ne_true (eqb (length s.learned) more) (λ t. let same = eqb-true (length s.learned) more t in omega arith) in
      let would : IsTurn sign clauses v more s (GoesOn next) = adds_clause c x xs d other refl in
      let few = learned-few sign clauses v next (good_next sign clauses v more s both.0 next (GoesOn next) refl would) (low_next sign clauses v more s both.1 next (GoesOn next) refl would) in
      let longer : length (s.learned ++ some_without sign fresh ∷ []) ≡ length s.learned + 1 = length_push s.learned (some_without sign fresh) in
      let all : length s.learned ≡ a = eqb-true (length s.learned) a o in
      omega arith
  spent s both r e (adds_clause c x xs o n q) = absurd (cc)

  pub never-limit : (n : ℕ) → 2 ^ v ≤ a + 1 → answer_within n sign clauses v a start ≡ Some Limit → ⊥
  never-limit n enough e =
      let at = ended sign clauses v a (Both sign clauses v) both_next Limit n start both_start e in
      let less = spent at.0 at.1 (turn sign clauses v a at.0) at.2 (turn_is sign clauses v a at.0) in
      omega arith
