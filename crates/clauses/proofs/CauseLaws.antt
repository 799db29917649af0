-- What every learned clause is, and where the search is a Limit.
use Rattle.std.proofs.Common.{◌≡◌, ◌∙◌, refl, sym, ap, subst, ℕ, zero, suc, ◌+◌, ◌≤◌, Bool, true, List, [], ◌∷◌, ◌++◌, length, get_or, reverse, Some, None, arith}
use Rattle.std.specs.Prelude.{All, Contains}
use Rattle.std.proofs.lemmas.Bool.{false≢true, eqb-true, eq-eqb}
use Rattle.std.proofs.lemmas.List.{length_push}
use Rattle.std.proofs.lemmas.List.Elements.{Contains-get_or}
use Rattle.clauses.specs.declared.literal.Lit.{Lit}
use Rattle.clauses.specs.Closure.{clash}
use Rattle.clauses.specs.Problem.{IsBelow}
use Rattle.clauses.specs.Search.{SearchAnswer, Limit, Standing, Turn, GoesOn, Ends, under, some_without, needed_decisions, cut_after, turn, turn_count, answer_within, standing_after, start}
use Rattle.lists.proofs.Members.{none}
use Rattle.clauses.proofs.TurnLaws.{IsTurn, answers, decides, refutes, gives_up, adds_clause, turn_is, ended, reached, after_one_more}
use Rattle.clauses.proofs.StandingLaws.{reached-good}
use Rattle.clauses.proofs.EnoughLaws.{answers-in_count}
use Rattle.clauses.proofs.BoundLaws.{reached-low}

module _ (sign : Bool) (clauses : List (List Lit)) (v a : ℕ) where
  -- ---- learned clauses

  module _ (n : ℕ) (last : Standing) (e : standing_after n sign clauses v a start ≡ Some last) where
    some_member : (line : List Lit) → Contains last.learned line → line ≡ [] → ⊥
    some_member line m empty = (reached-good sign clauses v a n last e).apart line m (λ l inside. absurd (none l (subst (λ ls. Contains ls l) empty inside)))

    pub reached-members : All (λ line. line ≡ [] → ⊥) last.learned
    reached-members k d lt = some_member (get_or last.learned k d) (Contains-get_or last.learned k d lt)

    pub reached-below : All (All (IsBelow v)) last.learned
    reached-below k d lt j l inside =
        (reached-low sign clauses v a n last e).learned (get_or last.learned k d) (Contains-get_or last.learned k d lt) (get_or (get_or last.learned k d) j l) (Contains-get_or (get_or last.learned k d) j l inside)

  allowed_next : (s t : Standing) (r : Turn) → length s.learned ≤ a → r ≡ GoesOn t → IsTurn sign clauses v a s r → length t.learned ≤ a
  allowed_next s t r few e (answers c o q) = absurd (cc)
  allowed_next s t r few e (decides x xs c o q) =
      let same : (record s { decisions = s.decisions ++ x ∷ [] }) ≡ t = cc in
      subst (λ (u : Standing). length u.learned ≤ a) same few
  allowed_next s t r few e (refutes c o q) = absurd (cc)
  allowed_next s t r few e (gives_up c x xs d o q) = absurd (cc)
  allowed_next s t r few e (adds_clause c x xs o n q) =
      let trimmed = needed_decisions sign (clauses ++ s.learned) s.decisions in
      let next : Standing = record { learned = s.learned ++ some_without sign trimmed ∷ []; decisions = cut_after s.decisions (reverse trimmed) } in
      let same : next ≡ t = cc in
      let longer : length (s.learned ++ some_without sign trimmed ∷ []) ≡ length s.learned + 1 = length_push s.learned (some_without sign trimmed) in
      let other : length s.learned ≡ a → ⊥ = λ h. false≢true (sym n ∙ eq-eqb (length s.learned) a h) in
      subst (λ (u : Standing). length u.learned ≤ a) same (omega arith)

  pub reached-allowed : (n : ℕ) (last : Standing) → standing_after n sign clauses v a start ≡ Some last → length last.learned ≤ a
  reached-allowed n last e =
      reached sign clauses v a (λ s. length s.learned ≤ a) (λ s t few g. allowed_next s t (turn sign clauses v a s) few g (turn_is sign clauses v a s)) last n start (omega arith) e

  -- ---- the cause of Limit

  abbrev Comes : Standing → Type 0
  Comes s = (n : ℕ) × (standing_after n sign clauses v a start ≡ Some s)

  abbrev Spent : Type 0
  Spent = (s : Standing) × Comes s × (s.decisions ≡ [] → ⊥) × (clash (under sign clauses s) ≡ true) × (length s.learned ≡ a)

  not_none : (x : ℕ) (xs d : List ℕ) → d ≡ x ∷ xs → d ≡ [] → ⊥
  not_none x xs d e f = cc

  spends : (s : Standing) (r : Turn) → Comes s → r ≡ Ends Limit → IsTurn sign clauses v a s r → Spent
  spends s r comes e (answers c o q) = absurd (cc)
  spends s r comes e (decides x xs c o q) = absurd (cc)
  spends s r comes e (refutes c o q) = absurd (cc)
  spends s r comes e (gives_up c x xs o n q) = (s, comes, not_none x xs s.decisions o, c, eqb-true (length s.learned) a n)
  spends s r comes e (adds_clause c x xs o n q) = absurd (cc)

  pub limit-cause : answer_within (turn_count v a) sign clauses v a start ≡ Some Limit → Spent
  limit-cause e =
      let at = ended sign clauses v a Comes (λ s t c g. (suc c.0, after_one_more sign clauses v a s t g c.0 start c.1)) Limit (turn_count v a) start (zero, refl) e in
      spends at.0 (turn sign clauses v a at.0) at.1 at.2 (turn_is sign clauses v a at.0)

  -- ---- more turns change no answer

  more_turns : (answer : SearchAnswer) (k n : ℕ) → ((s : Standing) → answer_within n sign clauses v a s ≡ Some answer → answer_within (n + k) sign clauses v a s ≡ Some answer)
      → (r : Turn) → elim r [ GoesOn next ↦ answer_within n sign clauses v a next | Ends x ↦ Some x ] ≡ Some answer
      → elim r [ GoesOn next ↦ answer_within (n + k) sign clauses v a next | Ends x ↦ Some x ] ≡ Some answer
  more_turns answer k n rest (GoesOn next) e = rest next e
  more_turns answer k n rest (Ends x) e = e

  suc_plus : (n k : ℕ) → suc n + k ≡ suc (n + k)
  suc_plus n k = omega arith

  answer-more : (answer : SearchAnswer) (k n : ℕ) (s : Standing) → answer_within n sign clauses v a s ≡ Some answer → answer_within (n + k) sign clauses v a s ≡ Some answer
  answer-more answer k zero s e = absurd (cc)
  answer-more answer k (suc n) s e =
      ap (λ m. answer_within m sign clauses v a s) (suc_plus n k) ∙ more_turns answer k n (answer-more answer k n) (turn sign clauses v a s) e

  later_answer : (n k : ℕ) (last : Standing) → ((s : Standing) → standing_after n sign clauses v a s ≡ Some last → answer_within (n + k) sign clauses v a s ≡ answer_within k sign clauses v a last)
      → (r : Turn) → elim r [ GoesOn next ↦ standing_after n sign clauses v a next | Ends x ↦ None ] ≡ Some last
      → elim r [ GoesOn next ↦ answer_within (n + k) sign clauses v a next | Ends x ↦ Some x ] ≡ answer_within k sign clauses v a last
  later_answer n k last rest (GoesOn next) e = rest next e
  later_answer n k last rest (Ends x) e = absurd (cc)

  answer-after : (n k : ℕ) (last s : Standing) → standing_after n sign clauses v a s ≡ Some last → answer_within (n + k) sign clauses v a s ≡ answer_within k sign clauses v a last
  answer-after zero k last s e =
      let same : s ≡ last = cc in
      let none_more : zero + k ≡ k = omega arith in
      ap (λ m. answer_within m sign clauses v a s) none_more ∙ ap (answer_within k sign clauses v a) same
  answer-after (suc n) k last s e =
      ap (λ m. answer_within m sign clauses v a s) (suc_plus n k) ∙ later_answer n k last (λ t f. answer-after n k last t f) (turn sign clauses v a s) e

  limit_turn : (s : Standing) (r : Turn) → (s.decisions ≡ [] → ⊥) → clash (under sign clauses s) ≡ true → length s.learned ≡ a → IsTurn sign clauses v a s r → r ≡ Ends Limit
  limit_turn s r some c all (answers no_clash o q) = absurd (false≢true (sym no_clash ∙ c))
  limit_turn s r some c all (decides x xs no_clash o q) = absurd (false≢true (sym no_clash ∙ c))
  limit_turn s r some c all (refutes k o q) = absurd (some o)
  limit_turn s r some c all (gives_up k x xs o n q) = q
  limit_turn s r some c all (adds_clause k x xs o n q) = absurd (false≢true (sym n ∙ eq-eqb (length s.learned) a all))

  same_answer : (x y : SearchAnswer) → Some x ≡ Some y → x ≡ y
  same_answer x y e = cc

  -- what a turn ends with that the search comes to is the answer of the search
  pub ends-answer : (n : ℕ) (s : Standing) (answer : SearchAnswer) → standing_after n sign clauses v a start ≡ Some s → turn sign clauses v a s ≡ Ends answer → answer_within (turn_count v a) sign clauses v a start ≡ Some answer
  ends-answer n s answer comes ends =
      let last : answer_within 1 sign clauses v a s ≡ Some answer = ap (λ (r : Turn). elim r [ GoesOn next ↦ None | Ends x ↦ Some x ]) ends in
      let here : answer_within (n + 1) sign clauses v a start ≡ Some answer = answer-after n 1 s start comes ∙ last in
      let there = answers-in_count sign clauses v a in
      let long : answer_within ((n + 1) + turn_count v a) sign clauses v a start ≡ Some answer = answer-more answer (turn_count v a) (n + 1) start here in
      let other : answer_within (turn_count v a + (n + 1)) sign clauses v a start ≡ Some there.0 = answer-more there.0 (n + 1) (turn_count v a) start there.1 in
      let commute : turn_count v a + (n + 1) ≡ (n + 1) + turn_count v a = omega arith in
      there.1 ∙ ap Some (same_answer there.0 answer (sym other ∙ ap (λ m. answer_within m sign clauses v a start) commute ∙ long))

  pub cause-limit : Spent → answer_within (turn_count v a) sign clauses v a start ≡ Some Limit
  cause-limit spent =
      let s = spent.0 in
      ends-answer spent.1.0 s Limit spent.1.1 (limit_turn s (turn sign clauses v a s) spent.2 spent.3 spent.4 (turn_is sign clauses v a s))
