-- What a search learns follows by reverse unit propagation.
use Rattle.std.proofs.Common.{◌≡◌, ◌∙◌, refl, sym, ap, subst, ⊎_elim, Some, ℕ, zero, suc, Bool, true, false, cond, List, [], ◌∷◌, ◌++◌, map, reverse, fold, append_assoc}
use Rattle.std.specs.Prelude.{Contains}
use Rattle.std.proofs.lemmas.Bool.{false≢true}
use Rattle.std.proofs.lemmas.List.{append-nil}
use Rattle.std.proofs.lemmas.List.Elements.{Contains-append_cases, Contains-push}
use Rattle.pref_sets.specs.Greedy.{set_after}
use Rattle.pref_sets.specs.Trimmed.{trimmed_of, without_item}
use Rattle.clauses.specs.declared.literal.Lit.{Lit}
use Rattle.clauses.specs.Clause.{negation, literal_with, unit_of, is_satisfied, are_satisfied}
use Rattle.clauses.specs.Closure.{clash, follows, AreDerived, IsDerivation}
use Rattle.clauses.specs.Search.{Unsat, Standing, Turn, GoesOn, Ends, all_with, some_without, needed_decisions, cut_after, turn, answer_within, standing_after, start}
use Rattle.lists.proofs.Members.{all_at, all_from, first_or_later, none}
use Rattle.clauses.proofs.ClosureLaws.{follows-satisfied}
use Rattle.clauses.proofs.TurnLaws.{IsTurn, answers, decides, refutes, gives_up, adds_clause, turn_is, ended, reached, after_one_more}

step_holds : (test : List ℕ → Bool) (b : Bool) (next set : List ℕ) → test next ≡ b → test set ≡ true → test (cond b next set) ≡ true
step_holds test true next set e h = e
step_holds test false next set e h = h

fold_holds : (test : List ℕ → Bool) (items set : List ℕ) → test set ≡ true → test (fold (set_after test without_item) set items) ≡ true
fold_holds test [] set h = h
fold_holds test (x ∷ xs) set h = fold_holds test xs (set_after test without_item set x) (step_holds test (test (without_item set x)) (without_item set x) set refl h)

-- the trimmed set passes the test that all items pass
pub trimmed-holds : (test : List ℕ → Bool) (items : List ℕ) → test items ≡ true → test (trimmed_of test items) ≡ true
trimmed-holds test items h = fold_holds test (reverse items) items h

negations : (sign : Bool) (vars : List ℕ) → map (λ l. unit_of (negation l)) (some_without sign vars) ≡ all_with sign vars
negations true [] = refl
negations true (x ∷ xs) = ap (λ rest. unit_of (literal_with true x) ∷ rest) (negations true xs)
negations false [] = refl
negations false (x ∷ xs) = ap (λ rest. unit_of (literal_with false x) ∷ rest) (negations false xs)

pub learned-follows : (sign : Bool) (clauses : List (List Lit)) (vars : List ℕ) → clash (clauses ++ all_with sign vars) ≡ true → follows clauses (some_without sign vars) ≡ true
learned-follows sign clauses vars e = ap (λ units. clash (clauses ++ units)) (negations sign vars) ∙ e

pub derived-push : (clauses lines : List (List Lit)) (line : List Lit) → AreDerived clauses lines → follows (clauses ++ lines) line ≡ true → AreDerived clauses (lines ++ line ∷ [])
derived-push clauses [] line d f = (subst (λ c. follows c line ≡ true) (append-nil clauses) f, tt)
derived-push clauses (l ∷ lines) line d f = (d.0, derived-push (clauses ++ l ∷ []) lines line d.1 (subst (λ c. follows c line ≡ true) (sym (append_assoc clauses (l ∷ []) lines)) f))

module _ (sign : Bool) (clauses : List (List Lit)) (v a : ℕ) where
  kept : (s t : Standing) (r : Turn) → AreDerived clauses s.learned → r ≡ GoesOn t → IsTurn sign clauses v a s r → AreDerived clauses t.learned
  kept s t r d e (answers c o q) = absurd (cc)
  kept s t r d e (decides x xs c o q) = let same : (record s { decisions = s.decisions ++ x ∷ [] }) ≡ t = cc in subst (λ u. AreDerived clauses u.learned) same d
  kept s t r d e (refutes c o q) = absurd (cc)
  kept s t r d e (gives_up c x xs o n q) = absurd (cc)
  kept s t r d e (adds_clause c x xs o n q) =
      let trimmed = needed_decisions sign (clauses ++ s.learned) s.decisions in
      let next : Standing = record { learned = s.learned ++ some_without sign trimmed ∷ []; decisions = cut_after s.decisions (reverse trimmed) } in
      let same : next ≡ t = cc in
      subst (λ u. AreDerived clauses u.learned) same
      (derived-push clauses s.learned (some_without sign trimmed) d
      (learned-follows sign (clauses ++ s.learned) trimmed (trimmed-holds (λ set. clash ((clauses ++ s.learned) ++ all_with sign set)) s.decisions c)))

  turns_keep : (s t : Standing) → AreDerived clauses s.learned → turn sign clauses v a s ≡ GoesOn t → AreDerived clauses t.learned
  turns_keep s t d e = kept s t (turn sign clauses v a s) d e (turn_is sign clauses v a s)

  pub reached-derived : (n : ℕ) (last : Standing) → standing_after n sign clauses v a start ≡ Some last → AreDerived clauses last.learned
  reached-derived n last e = reached sign clauses v a (λ s. AreDerived clauses s.learned) turns_keep last n start tt e

  refuted : (s : Standing) (lines : List (List Lit)) (r : Turn) → AreDerived clauses s.learned → r ≡ Ends (Unsat lines) → IsTurn sign clauses v a s r → IsDerivation clauses lines
  refuted s lines r d e (answers c o q) = absurd (cc)
  refuted s lines r d e (decides x xs c o q) = absurd (cc)
  refuted s lines r d e (refutes c o q) =
      let same : s.learned ++ [] ∷ [] ≡ lines = cc in
      subst (IsDerivation clauses) same (derived-push clauses s.learned [] d (subst (λ vars. clash ((clauses ++ s.learned) ++ all_with sign vars) ≡ true) o c), (s.learned, refl))
  refuted s lines r d e (gives_up c x xs o n q) = absurd (cc)
  refuted s lines r d e (adds_clause c x xs o n q) = absurd (cc)

  pub unsat-derivation : (n : ℕ) (lines : List (List Lit)) → answer_within n sign clauses v a start ≡ Some (Unsat lines) → IsDerivation clauses lines
  unsat-derivation n lines e =
      let at = ended sign clauses v a (λ s. AreDerived clauses s.learned) turns_keep (Unsat lines) n start tt e in
      refuted at.0 lines (turn sign clauses v a at.0) at.1 at.2 (turn_is sign clauses v a at.0)

  -- the standing at which the search ends in Unsat: nothing is decided, and the lines are what is learned and the empty
  -- clause
  abbrev Comes : Standing → Type 0
  Comes s = (n : ℕ) × (standing_after n sign clauses v a start ≡ Some s)

  lines_at : (s : Standing) (lines : List (List Lit)) (r : Turn) → r ≡ Ends (Unsat lines) → IsTurn sign clauses v a s r → (s.decisions ≡ []) × (lines ≡ s.learned ++ [] ∷ [])
  lines_at s lines r e (answers c o q) = absurd (cc)
  lines_at s lines r e (decides x xs c o q) = absurd (cc)
  lines_at s lines r e (refutes c o q) = let same : lines ≡ s.learned ++ [] ∷ [] = cc in (o, same)
  lines_at s lines r e (gives_up c x xs o n q) = absurd (cc)
  lines_at s lines r e (adds_clause c x xs o n q) = absurd (cc)

  pub unsat-lines : (n : ℕ) (lines : List (List Lit)) → answer_within n sign clauses v a start ≡ Some (Unsat lines)
      → (s : Standing) × Comes s × (s.decisions ≡ []) × (lines ≡ s.learned ++ [] ∷ [])
  unsat-lines n lines e =
      let at = ended sign clauses v a Comes (λ s t c g. (suc c.0, after_one_more sign clauses v a s t g c.0 start c.1)) (Unsat lines) n start (zero, refl) e in
      let last = lines_at at.0 lines (turn sign clauses v a at.0) at.2 (turn_is sign clauses v a at.0) in
      (at.0, at.1, last.0, last.1)

-- an assignment of the clauses satisfies each line of a derivation, so there is none where one line is empty
pub derived-satisfied : (values : List Bool) (clauses lines : List (List Lit)) → are_satisfied values clauses ≡ true → AreDerived clauses lines → (line : List Lit) → Contains lines line → is_satisfied values line ≡ true
derived-satisfied values clauses [] h d line m = absurd (none line m)
derived-satisfied values clauses (l ∷ lines) h d line m =
    let here : is_satisfied values l ≡ true = follows-satisfied values clauses l h d.0 in
    ⊎_elim
    (λ (e : l ≡ line). subst (λ c. is_satisfied values c ≡ true) e here)
    (λ (r : Contains lines line).
    derived-satisfied values (clauses ++ l ∷ [])
    lines
    (all_from (is_satisfied values) (clauses ++ l ∷ []) (λ c n.
    ⊎_elim
    (λ (old : Contains clauses c). all_at (is_satisfied values) clauses c h old)
    (λ (new : Contains (l ∷ []) c). ⊎_elim (λ (e : l ≡ c). subst (λ k. is_satisfied values k ≡ true) e here) (λ (no : Contains [] c). absurd (none c no)) (first_or_later l [] c new))
    (Contains-append_cases clauses (l ∷ []) c n)))
    d.1 line r)
    (first_or_later l lines line m)

pub derivation-unsatisfiable : (values : List Bool) (clauses lines : List (List Lit)) → IsDerivation clauses lines → are_satisfied values clauses ≡ true → ⊥
derivation-unsatisfiable values clauses lines d h = false≢true (derived-satisfied values clauses lines h d.0 [] (subst (λ ls. Contains ls []) (sym d.1.1) (Contains-push d.1.0 [])))
