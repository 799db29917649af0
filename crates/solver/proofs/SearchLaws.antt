-- The turns of a search: what is tried stands for what is propagated, which variable is open, and what a clash leaves.
use Rattle.std.proofs.Common.{◌≡◌, ◌∙◌, ◌⊎◌, refl, sym, ap, subst, inl, inr, ⊎_elim, ℕ, zero, suc, ◌+◌, ◌-◌, ◌<◌, ◌≤◌, Bool, true, false, cond, not, ◌&&◌, eqb, ltb, List, [], ◌∷◌, ◌++◌, length, get_or, map, take, reverse, All, Option, Some, None, append_assoc, arith}
use Rattle.std.specs.Prelude.{◌↔◌, Contains, IsTrue, filter}
use Rattle.std.specs.List.{range_with_len, position_or_len}
use Rattle.std.specs.Option.{is_some, option_eq}
use Rattle.std.proofs.Math.Bool.{beq}
use Rattle.std.proofs.lemmas.Bool.{false≢true, true≢false, cases_eq, lt-ltb, ltb-false, eqb-true}
use Rattle.std.proofs.lemmas.List.{append-nil, map-append, map_push, get_or-reverse, length-reverse, length_push, take_all}
use Rattle.std.proofs.lemmas.List.Elements.{All-cons, All-push, All-contains, Contains-append_left, Contains-append_right, Contains-append_cases, Contains-get_or}
use Rattle.pref_sets.specs.Greedy.{IsGreedy}
use Rattle.pref_sets.specs.Trimmed.{IsTrimmed, trimmed_of, without_item}
use Rattle.pref_sets.specs.Preferred.{IsDistinct, IsWithin}
use Rattle.pref_sets.proofs.GreedyLaws.{IsGreedy-unique, IsGreedy-greedy_of}
use Rattle.clauses.specs.declared.literal.Lit.{Lit}
use Rattle.clauses.specs.Clause.{has, positive_of, negative_of, literal_with, unit_of}
use Rattle.clauses.specs.Closure.{closure, clash, AreAmong}
use Rattle.clauses.specs.Problem.{IsBelow}
use Rattle.clauses.specs.Search.{Turn, all_with, some_without, needed_decisions, cut_after, turn_at_learning, up_to}
use Rattle.lists.proofs.Members.{none, first, later, first_or_later, from_filter}
use Rattle.clauses.proofs.Cuts.{cut-distinct, cut-within}
use Rattle.clauses.proofs.TurnLaws.{IsTurn, answers, decides, refutes, gives_up, adds_clause, turn_is}
use Rattle.clauses.proofs.LeastLaws.{clash-among}
use Rattle.clauses.proofs.Literals.{has-more}
use Rattle.clauses.proofs.TrimmedLaws.{closure-more, trimmed-within}
use Rattle.propagation.specs.Propagation.{value_of}
use Rattle.propagation.proofs.ValueLaws.{clash-same, value-same, part-among}
use Rattle.propagation.proofs.GrowthLaws.{there, back}
use Rattle.solver.specs.inside.TestLaws.{more-clash}
use Rattle.solver.specs.inside.Trials.{Trying, with_tried, variables_in, Clashes}
use Rattle.solver.specs.inside.Searching.{AreSettled, AreShown, Searching, is_open, standing, clauses_of, all_under, turn_of, IsShown, IsSearch}
use Rattle.lists.proofs.Distinct.{distinct-push}

-- ---- what is tried, in the order of the definition of the search

units-with : (value : Bool) (variables : List ℕ) → map unit_of (map (literal_with value) variables) ≡ all_with value variables
units-with value [] = refl
units-with value (x ∷ xs) = ap (λ rest. unit_of (literal_with value x) ∷ rest) (units-with value xs)

module _ (t : Trying) (decisions : List ℕ) where
  abbrev tries : List (List Lit)
  tries = with_tried t decisions

  abbrev searches : List (List Lit)
  searches = (clauses_of t ++ t.learned) ++ all_with t.first decisions

  ordered : tries ≡ (t.problem.clauses ++ t.learned) ++ (map unit_of t.fixed ++ all_with t.first decisions)
  ordered = ap (λ units. (t.problem.clauses ++ t.learned) ++ units) (map-append unit_of t.fixed (map (literal_with t.first) decisions) ∙ ap (λ units. map unit_of t.fixed ++ units) (units-with t.first decisions))

  tries-there : AreAmong tries searches
  tries-there =
      subst (λ clauses. AreAmong clauses searches) (sym ordered)
      (part-among ((t.problem.clauses ++ t.learned) ++ (map unit_of t.fixed ++ all_with t.first decisions)) searches (there t.problem.clauses t.learned (map unit_of t.fixed) (all_with t.first decisions)))

  tries-back : AreAmong searches tries
  tries-back =
      subst (λ clauses. AreAmong searches clauses) (sym ordered)
      (part-among searches ((t.problem.clauses ++ t.learned) ++ (map unit_of t.fixed ++ all_with t.first decisions)) (back t.problem.clauses t.learned (map unit_of t.fixed) (all_with t.first decisions)))

  pub clash-searched : clash tries ≡ clash searches
  clash-searched = clash-same tries searches tries-there tries-back

  pub value-searched : (v : ℕ) → value_of tries v ≡ value_of searches v
  value-searched = value-same tries searches tries-there tries-back

-- ---- what is shown

module _ (at : Searching) where
  abbrev shown : List (List Lit)
  shown = with_tried at.trial at.trial.tried

  all_tried : (untried : List ℕ) → at.decisions ≡ at.trial.tried ++ untried → untried ≡ [] → at.trial.tried ≡ at.decisions
  all_tried untried e none = sym (e ∙ ap (λ rest. at.trial.tried ++ rest) none ∙ append-nil at.trial.tried)

  by_untried : (untried : List ℕ) → at.decisions ≡ at.trial.tried ++ untried → (untried ≡ []) ⊎ IsTrue (clash shown) → clash shown ≡ clash (all_under at)
  by_untried untried e (inl none) = ap (λ variables. clash (with_tried at.trial variables)) (all_tried untried e none) ∙ clash-searched at.trial at.decisions
  by_untried untried e (inr clashes) =
      let part : IsWithin at.trial.tried at.decisions = λ v m. subst (λ variables. Contains variables v) (sym e) (Contains-append_left at.trial.tried untried v m) in
      clashes ∙ sym (sym (clash-searched at.trial at.decisions) ∙ more-clash at.trial at.trial.tried at.decisions part clashes)

  pub shown-clash : IsShown at → clash shown ≡ clash (all_under at)
  shown-clash is = by_untried is.0 is.1 is.2

  module _ (is : IsShown at) (no_clash : clash (all_under at) ≡ false) where
    pub shown-no_clash : clash shown ≡ false
    shown-no_clash = shown-clash is ∙ no_clash

    pub shown-all : at.trial.tried ≡ at.decisions
    shown-all = ⊎_elim (λ (none : is.0 ≡ []). all_tried is.0 is.1 none) (λ (clashes : IsTrue (clash shown)). absurd (false≢true (sym shown-no_clash ∙ clashes))) is.2

    pub shown-value : (v : ℕ) → value_of shown v ≡ value_of (all_under at) v
    shown-value v = ap (λ variables. value_of (with_tried at.trial variables) v) shown-all ∙ value-searched at.trial at.decisions v

-- ---- open variables

some-closed : (y n b : Bool) → cond y (Some true) (cond n (Some false) None) ≡ Some b → (not y && not n) ≡ false
some-closed true n b e = refl
some-closed false true b e = refl
some-closed false false b e = absurd (cc)

none-open : (y n : Bool) → cond y (Some true) (cond n (Some false) None) ≡ None → (not y && not n) ≡ true
none-open true n e = absurd (cc)
none-open false true e = absurd (cc)
none-open false false e = refl

equals-true : (y n : Bool) → option_eq beq (cond y (Some true) (cond n (Some false) None)) (Some true) ≡ y
equals-true true n = refl
equals-true false true = refl
equals-true false false = refl

module _ (clauses : List (List Lit)) (v : ℕ) where
  abbrev yes : Bool
  yes = has (closure clauses) (positive_of v)

  abbrev no : Bool
  no = has (closure clauses) (negative_of v)

  pub value-closed : (value : Option Bool) → value ≡ value_of clauses v → is_some value ≡ true → is_open clauses v ≡ false
  value-closed None e h = absurd (false≢true h)
  value-closed (Some b) e h = some-closed yes no b (sym e)

  pub value-open : (value : Option Bool) → value ≡ value_of clauses v → is_some value ≡ false → is_open clauses v ≡ true
  value-open None e h = none-open yes no (sym e)
  value-open (Some b) e h = absurd (true≢false h)

  pub value-equals : (value : Option Bool) → value ≡ value_of clauses v → option_eq beq value (Some true) ≡ has (closure clauses) (positive_of v)
  value-equals value e = ap (λ o. option_eq beq o (Some true)) e ∙ equals-true yes no

module _ (p : ℕ → Bool) where
  pub none-pass : (a n : ℕ) → ((v : ℕ) → a ≤ v → v < a + n → p v ≡ false) → filter p (range_with_len a n) ≡ []
  none-pass a zero f = refl
  none-pass a (suc n) f =
      ap (λ b. cond b (a ∷ filter p (range_with_len (a + 1) n)) (filter p (range_with_len (a + 1) n))) (f a (omega arith) (omega arith))
      ∙ none-pass (a + 1) n (λ v low high. f v (omega arith) (omega arith))

  pub first-passes : (a n x : ℕ) → a ≤ x → x < a + n → ((v : ℕ) → a ≤ v → v < x → p v ≡ false) → p x ≡ true → (others : List ℕ) × (filter p (range_with_len a n) ≡ x ∷ others)
  first-passes a zero x low high f e = absurd (omega arith)
  first-passes a (suc n) x low high f e =
      ⊎_elim
      (λ (same : a ≡ x). (
        filter p (range_with_len (a + 1) n),
        ap (λ b. cond b (a ∷ filter p (range_with_len (a + 1) n)) (filter p (range_with_len (a + 1) n))) (ap p same ∙ e) ∙ ap (λ y. y ∷ filter p (range_with_len (a + 1) n)) same,
      ))
      (λ (other : a ≡ x → ⊥).
      let more : a < x = omega arith in
      let rest = first-passes (a + 1) n x (omega arith) (omega arith) (λ v above below. f v (omega arith) below) e in (
        rest.0,
        ap (λ b. cond b (a ∷ filter p (range_with_len (a + 1) n)) (filter p (range_with_len (a + 1) n))) (f a (omega arith) more) ∙ rest.1,
      ))
      (cases_eq a x)

-- ---- what a turn learns

module _ (at : Searching) where
  abbrev Comes : Turn → Type 0
  Comes r = IsTurn at.trial.first (clauses_of at.trial) at.trial.problem.variables at.allowance (standing at) r

  comes : Comes (turn_of at)
  comes = turn_is at.trial.first (clauses_of at.trial) at.trial.problem.variables at.allowance (standing at)

  learned : (r : Turn) → Comes r → clash (all_under at) ≡ true → ¬ at.decisions ≡ [] → ¬ length at.trial.learned ≡ at.allowance
      → r ≡ turn_at_learning at.trial.first (standing at) (needed_decisions at.trial.first (clauses_of at.trial ++ at.trial.learned) at.decisions)
  learned r (answers c o q) e d l = absurd (cc)
  learned r (decides x xs c o q) e d l = absurd (cc)
  learned r (refutes c o q) e d l = absurd (d o)
  learned r (gives_up c x xs o n q) e d l = absurd (l (eqb-true (length at.trial.learned) at.allowance n))
  learned r (adds_clause c x xs o n q) e d l = q

  pub turn-learns : clash (all_under at) ≡ true → ¬ at.decisions ≡ [] → ¬ length at.trial.learned ≡ at.allowance
      → turn_of at ≡ turn_at_learning at.trial.first (standing at) (needed_decisions at.trial.first (clauses_of at.trial ++ at.trial.learned) at.decisions)
  turn-learns = learned (turn_of at) comes

-- ---- what a clash needs

passing : (p : ℕ → Bool) (xs : List ℕ) → ((x : ℕ) → Contains xs x → p x ≡ true) → filter p xs ≡ xs
passing p [] f = refl
passing p (x ∷ xs) f = ap (λ b. cond b (x ∷ filter p xs) (filter p xs)) (f x (first x xs)) ∙ ap (λ rest. x ∷ rest) (passing p xs (λ y m. f y (later x xs y m)))

-- a greedy fold that only takes items away, for two properties that agree on the sets within these
agreeing : (P Q : List ℕ → Type 0) (all : List ℕ) → ((set : List ℕ) → IsWithin set all → P set ↔ Q set) → (items set last : List ℕ) → IsWithin set all → IsGreedy P without_item set items last → IsGreedy Q without_item set items last
agreeing P Q all same [] set last within g = g
agreeing P Q all same (x ∷ items) set last within (inl g) =
    let fewer : IsWithin (without_item set x) all = λ y m. within y (from_filter (λ other. not (eqb other x)) set y m).0 in
    inl ((same (without_item set x) fewer).0 g.0, agreeing P Q all same items (without_item set x) last fewer g.1)
agreeing P Q all same (x ∷ items) set last within (inr g) =
    let fewer : IsWithin (without_item set x) all = λ y m. within y (from_filter (λ other. not (eqb other x)) set y m).0 in
    inr ((λ q. g.0 ((same (without_item set x) fewer).1 q)), agreeing P Q all same items set last within g.1)

module _ (t : Trying) (decisions : List ℕ) (below : All (λ v. v < t.problem.variables) decisions) where
  abbrev test : List ℕ → Bool
  test set = clash ((clauses_of t ++ t.learned) ++ all_with t.first set)

  variables-all : (set : List ℕ) → IsWithin set decisions → variables_in t.problem set ≡ set
  variables-all set within = passing (λ v. ltb v t.problem.variables) set (λ v m. lt-ltb v t.problem.variables (All-contains (λ x. x < t.problem.variables) decisions v below (within v m)))

  same_clash : (set : List ℕ) → IsWithin set decisions → clash (with_tried t (variables_in t.problem set)) ≡ test set
  same_clash set within = ap (λ variables. clash (with_tried t variables)) (variables-all set within) ∙ clash-searched t set

  same_test : (set : List ℕ) → IsWithin set decisions → Clashes t set ↔ IsTrue (test set)
  same_test set within = ((λ e. sym (same_clash set within) ∙ e), (λ e. same_clash set within ∙ e))

  pub clashes-there : IsTrue (test decisions) → Clashes t decisions
  clashes-there = (same_test decisions (λ v m. m)).1

  pub trimmed-needed : (left : List ℕ) → IsTrimmed (Clashes t) decisions left → left ≡ needed_decisions t.first (clauses_of t ++ t.learned) decisions
  trimmed-needed left trimmed =
      IsGreedy-unique (λ set. IsTrue (test set)) without_item (reverse decisions) decisions left (trimmed_of test decisions)
      (agreeing (Clashes t) (λ set. IsTrue (test set)) decisions same_test (reverse decisions) decisions left (λ v m. m) trimmed)
      (IsGreedy-greedy_of test without_item (reverse decisions) decisions)

  pub trimmed-part : (left : List ℕ) → IsTrimmed (Clashes t) decisions left → IsWithin left decisions
  trimmed-part left trimmed v m = trimmed-within test decisions v (subst (λ set. Contains set v) (trimmed-needed left trimmed) m)

-- the clause of decisions is about the problem's variables
pub some_without-below : (value : Bool) (n : ℕ) (decisions set : List ℕ) → All (λ v. v < n) decisions → IsWithin set decisions → All (IsBelow n) (some_without value set)
some_without-below value n decisions [] below within = λ k d lt. absurd (omega arith)
some_without-below value n decisions (x ∷ xs) below within =
    All-cons (IsBelow n) (literal_with (not value) x) (some_without value xs) (All-contains (λ v. v < n) decisions x below (within x (first x xs))) (some_without-below value n decisions xs below (λ v m. within v (later x xs v m)))

-- ---- going back

pub within-below : (n : ℕ) (decisions set : List ℕ) → All (λ v. v < n) decisions → IsWithin set decisions → All (λ v. v < n) set
within-below n decisions set below within = λ k d lt. All-contains (λ v. v < n) decisions (get_or set k d) below (within (get_or set k d) (Contains-get_or set k d lt))

-- the place of the last decision that stays
rest-place : (b : Bool) (x n : ℕ) (rest items : List ℕ) → rest ≡ take (n + 1) items → x ∷ cond b [] rest ≡ take (cond (not b) (1 + n) 0 + 1) (x ∷ items)
rest-place true x n rest items e = refl
rest-place false x n rest items e = let more : (1 + n) + 1 ≡ suc (n + 1) = omega arith in ap (λ ys. x ∷ ys) e ∙ ap (λ k. take k (x ∷ items)) (sym more)

up_to-place : (last : ℕ) (items : List ℕ) → up_to last items ≡ take (position_or_len (λ x. eqb x last) items + 1) items
up_to-place last [] = refl
up_to-place last (x ∷ items) = rest-place (eqb x last) x (position_or_len (λ y. eqb y last) items) (up_to last items) items (up_to-place last items)

position-found : (b : Bool) (n place : ℕ) → cond b (Some n) None ≡ Some place → n ≡ place
position-found true n place e = cc
position-found false n place e = absurd (cc)

position-missing : (n size : ℕ) (b : Bool) → ltb n size ≡ b → cond b (Some n) None ≡ None → size ≤ n
position-missing n size true l e = absurd (cc)
position-missing n size false l e = ltb-false n size l

module _ (last : ℕ) (items : List ℕ) where
  abbrev place_of : ℕ
  place_of = position_or_len (λ x. eqb x last) items

  pub up_to-found : (place : ℕ) → cond (ltb place_of (length items)) (Some place_of) None ≡ Some place → up_to last items ≡ take (place + 1) items
  up_to-found place e = up_to-place last items ∙ ap (λ n. take (n + 1) items) (position-found (ltb place_of (length items)) place_of place e)

  pub up_to-missing : cond (ltb place_of (length items)) (Some place_of) None ≡ None → up_to last items ≡ items
  up_to-missing e = let past : length items ≤ place_of = position-missing place_of (length items) (ltb place_of (length items)) refl e in up_to-place last items ∙ take_all (place_of + 1) items (omega arith)

-- from the end
second : (decisions order : List ℕ) → 2 ≤ length order → cut_after decisions order ≡ up_to (get_or order 1 0) decisions
second decisions [] many = absurd (omega arith)
second decisions (x ∷ []) many = absurd (omega arith)
second decisions (x ∷ y ∷ order) many = refl

pub cut-many : (decisions trimmed : List ℕ) → 2 ≤ length trimmed → cut_after decisions (reverse trimmed) ≡ up_to (get_or trimmed (length trimmed - 2) 0) decisions
cut-many decisions trimmed many =
    let size : length (reverse trimmed) ≡ length trimmed = length-reverse trimmed in
    let place : length trimmed - 1 - 1 ≡ length trimmed - 2 = omega arith in
    second decisions (reverse trimmed) (omega arith)
    ∙ ap (λ last. up_to last decisions) (get_or-reverse trimmed 1 0 (omega arith) ∙ ap (λ k. get_or trimmed k 0) place)

-- ---- a decision more

-- more clauses leave fewer variables open
or_has : (y n : Bool) → (not y && not n) ≡ false → (y ≡ true) ⊎ (n ≡ true)
or_has true n e = inl refl
or_has false true e = inr refl
or_has false false e = absurd (true≢false e)

has_yes : (y n : Bool) → y ≡ true → (not y && not n) ≡ false
has_yes true n e = refl
has_yes false n e = absurd (false≢true e)

has_no : (y n : Bool) → n ≡ true → (not y && not n) ≡ false
has_no true n e = refl
has_no false true e = refl
has_no false false e = absurd (false≢true e)

module _ (a b : List (List Lit)) (within : (clause : List Lit) → Contains a clause → Contains b clause) (v : ℕ) where
  settled-more : is_open a v ≡ false → is_open b v ≡ false
  settled-more e =
      ⊎_elim
      (λ (y : has (closure a) (positive_of v) ≡ true). has_yes (has (closure b) (positive_of v)) (has (closure b) (negative_of v)) (has-more (closure a) (closure b) (closure-more a b within) (positive_of v) y))
      (λ (n : has (closure a) (negative_of v) ≡ true). has_no (has (closure b) (positive_of v)) (has (closure b) (negative_of v)) (has-more (closure a) (closure b) (closure-more a b within) (negative_of v) n))
      (or_has (has (closure a) (positive_of v)) (has (closure a) (negative_of v)) e)

-- a decision more
with-more : (value : Bool) (clauses : List (List Lit)) (decisions : List ℕ) (v : ℕ) → (clause : List Lit) → Contains (clauses ++ all_with value decisions) clause → Contains (clauses ++ all_with value (decisions ++ v ∷ [])) clause
with-more value clauses decisions v clause m =
    subst (λ units. Contains (clauses ++ units) clause) (sym (map_push (λ (x : ℕ). unit_of (literal_with value x)) decisions v))
    (subst (λ cs. Contains cs clause) (append_assoc clauses (all_with value decisions) (unit_of (literal_with value v) ∷ []))
    (Contains-append_left (clauses ++ all_with value decisions) (unit_of (literal_with value v) ∷ []) clause m))

pub search-decides : (t : Trying) (decisions : List ℕ) (allowance settled v : ℕ) → IsSearch t decisions allowance settled → v < t.problem.variables → ¬ Contains decisions v
    → AreSettled (record { trial = t; decisions = decisions; allowance = allowance }) v → (tried : List ℕ) → IsSearch (record t { tried = tried }) (decisions ++ v ∷ []) allowance v
search-decides t decisions allowance settled v is below new low tried = record {
  allowed = is.allowed;
  distinct = distinct-push decisions v is.distinct new;
  below = All-push (λ x. x < t.problem.variables) decisions v is.below below;
  settled_below = λ x l.
      settled-more ((clauses_of t ++ t.learned) ++ all_with t.first decisions) ((clauses_of t ++ t.learned) ++ all_with t.first (decisions ++ v ∷ []))
      (with-more t.first (clauses_of t ++ t.learned) decisions v) x (low x l);
}

-- the decisions cut
pub search-cut : (t : Trying) (decisions : List ℕ) (allowance settled : ℕ) → IsSearch t decisions allowance settled → (order tried : List ℕ) → IsSearch (record t { tried = tried }) (cut_after decisions order) allowance 0
search-cut t decisions allowance settled is order tried = record {
  allowed = is.allowed;
  distinct = cut-distinct decisions order is.distinct;
  below = within-below t.problem.variables decisions (cut_after decisions order) is.below (cut-within decisions order);
  settled_below = λ v l. absurd (omega arith);
}

-- a clause learned, and the decisions cut
pub search-learns : (t : Trying) (decisions : List ℕ) (allowance settled : ℕ) → IsSearch t decisions allowance settled → length t.learned < allowance → (clause : List Lit) (order tried : List ℕ)
    → IsSearch (record t { learned = t.learned ++ clause ∷ []; tried = tried }) (cut_after decisions order) allowance 0
search-learns t decisions allowance settled is allowed clause order tried = record {
  allowed = (let longer : length (t.learned ++ clause ∷ []) ≡ length t.learned + 1 = length_push t.learned clause in omega arith);
  distinct = cut-distinct decisions order is.distinct;
  below = within-below t.problem.variables decisions (cut_after decisions order) is.below (cut-within decisions order);
  settled_below = λ v l. absurd (omega arith);
}

-- what is shown stays so with a clause more
learned-more : (t : Trying) (clause : List Lit) (set : List ℕ) (c : List Lit) → Contains (with_tried t set) c → Contains (with_tried (record t { learned = t.learned ++ clause ∷ [] }) set) c
learned-more t clause set c m =
    let units : List (List Lit) = map unit_of (t.fixed ++ map (literal_with t.first) set) in
    let more : List (List Lit) = t.learned ++ clause ∷ [] in
    ⊎_elim
    (λ (old : Contains (t.problem.clauses ++ t.learned) c).
    Contains-append_left (t.problem.clauses ++ more) units c
    (⊎_elim
    (λ (own : Contains t.problem.clauses c). Contains-append_left t.problem.clauses more c own)
    (λ (learned : Contains t.learned c). Contains-append_right t.problem.clauses more c (Contains-append_left t.learned (clause ∷ []) c learned))
    (Contains-append_cases t.problem.clauses t.learned c old)))
    (λ (unit : Contains units c). Contains-append_right (t.problem.clauses ++ more) units c unit)
    (Contains-append_cases (t.problem.clauses ++ t.learned) units c m)

pub shown-learned : (t : Trying) (decisions : List ℕ) (clause : List Lit) → AreShown t decisions → AreShown (record t { learned = t.learned ++ clause ∷ [] }) decisions
shown-learned t decisions clause is =
    let now : Trying = record t { learned = t.learned ++ clause ∷ [] } in (
      is.0,
      is.1,
      ⊎_elim
          (λ (none : is.0 ≡ []). inl none)
          (λ (clashes : IsTrue (clash (with_tried t t.tried))).
          inr (clash-among (with_tried t t.tried) (with_tried now t.tried) (part-among (with_tried t t.tried) (with_tried now t.tried) (learned-more t clause t.tried)) clashes))
          is.2,
    )

-- an untried decision is a new one
pub distinct-next : (decisions : List ℕ) (i d : ℕ) → IsDistinct decisions → i < length decisions → ¬ Contains (take i decisions) (get_or decisions i d)
distinct-next [] i d distinct within m = absurd (omega arith)
distinct-next (x ∷ xs) zero d distinct within m = none x m
distinct-next (x ∷ xs) (suc i) d distinct within m =
    ⊎_elim
    (λ (same : x ≡ get_or xs i d). distinct.0 (subst (Contains xs) (sym same) (Contains-get_or xs i d (omega arith))))
    (λ (rest : Contains (take i xs) (get_or xs i d)). distinct-next xs i d distinct.1 (omega arith) rest)
    (first_or_later x (take i xs) (get_or xs i d) m)
