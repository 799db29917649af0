-- What every standing of a search has: distinct decisions, clauses that don't clash without them, and learned clauses
-- that each name other variables than the earlier ones, since never all variables of one are decided.
use Rattle.std.proofs.Common.{◌≡◌, ◌∙◌, ◌⊎◌, refl, sym, ap, subst, inl, inr, ⊎_elim, ℕ, Bool, true, false, cond, not, ◌||◌, eqb, List, [], ◌∷◌, ◌++◌, reverse, Some, append_assoc}
use Rattle.std.specs.Prelude.{Contains, filter}
use Rattle.std.specs.List.{list_all}
use Rattle.std.proofs.lemmas.Bool.{false≢true, cases_Bool, or_left, or_right, eq-eqb, cases_eq, false_from_ne_true}
use Rattle.std.proofs.lemmas.List.{append-nil, reverse-append, reverse-reverse}
use Rattle.std.proofs.lemmas.List.Elements.{Contains-append_left, Contains-append_right, Contains-push_cases}
use Rattle.pref_sets.specs.Preferred.{IsDistinct}
use Rattle.clauses.specs.declared.literal.Lit.{Lit}
use Rattle.clauses.specs.Clause.{has, is_same, negation, literal_with}
use Rattle.clauses.specs.Closure.{closure, clash, is_forcing}
use Rattle.clauses.specs.Search.{Standing, Turn, GoesOn, under, all_with, some_without, needed_decisions, cut_after, up_to, open_variables, turn, start, standing_after, NameTheSame, NameOthers}
use Rattle.lists.proofs.Distinct.{distinct-push}
use Rattle.lists.proofs.Members.{none, first, later, first_or_later, all_at, all_from, all_false as not_all, from_filter, from_map, to_map}
use Rattle.clauses.proofs.Cuts.{under_cond, cut-within, cut-distinct}
use Rattle.clauses.proofs.Literals.{is_same-refl, negation-other}
use Rattle.clauses.proofs.LeastLaws.{closure-has, closure-closed, closure-least}
use Rattle.clauses.proofs.TurnLaws.{IsTurn, answers, decides, refutes, gives_up, adds_clause, turn_is, reached}
use Rattle.clauses.proofs.DerivationLaws.{trimmed-holds}
use Rattle.clauses.proofs.EnoughLaws.{among, among-from, from_among, decided-closed, open-parts, open-either, open-new}
use Rattle.clauses.proofs.TrimmedLaws.{trimmed-part, trimmed-within, not_member, refuted-from_clash, clash-from_refuted}

-- ---- distinct lists

distinct_cond : (b : Bool) (x : ℕ) (us : List ℕ) → (Contains us x → ⊥) → IsDistinct us → IsDistinct (cond b (x ∷ us) us)
distinct_cond true x us f d = (f, d)
distinct_cond false x us f d = d

distinct-filter : (p : ℕ → Bool) (xs : List ℕ) → IsDistinct xs → IsDistinct (filter p xs)
distinct-filter p [] d = tt
distinct-filter p (x ∷ xs) d = distinct_cond (p x) x (filter p xs) (λ m. d.0 (from_filter p xs x m).0) (distinct-filter p xs d.1)

distinct-end : (xs ys : List ℕ) → IsDistinct (xs ++ ys) → IsDistinct ys
distinct-end [] ys d = d
distinct-end (x ∷ xs) ys d = distinct-end xs ys d.1

-- ---- of a part of a distinct list, its last member comes after the one before it

ends : (rest : List ℕ) (before last : ℕ) → Contains (rest ++ before ∷ last ∷ []) last
ends rest before last = Contains-append_right rest (before ∷ last ∷ []) last (later before (last ∷ []) last (first last []))

module _ (p : ℕ → Bool) (before last : ℕ) where
  -- the list begins with y, and the rest of it has the last member
  goes_on : (y : ℕ) (ys : List ℕ) → (Contains ys y → ⊥) → Contains (filter p ys) last → Contains (up_to before (y ∷ ys)) last → Contains (up_to before ys) last
  goes_on y ys apart there m =
      ⊎_elim
      (λ (e : y ≡ last). absurd (apart (subst (Contains ys) (sym e) (from_filter p ys last there).0)))
      (λ (r : Contains (cond (eqb y before) [] (up_to before ys)) last). under_cond (eqb y before) (up_to before ys) last r)
      (first_or_later y (cond (eqb y before) [] (up_to before ys)) last m)

  stops : (y : ℕ) (ys : List ℕ) → (Contains ys y → ⊥) → y ≡ before → Contains (filter p ys) last → Contains (up_to before (y ∷ ys)) last → ⊥
  stops y ys apart here there m =
      ⊎_elim
      (λ (e : y ≡ last). apart (subst (Contains ys) (sym e) (from_filter p ys last there).0))
      (λ (r : Contains (cond (eqb y before) [] (up_to before ys)) last). none last (subst (λ b. Contains (cond b [] (up_to before ys)) last) (eq-eqb y before here) r))
      (first_or_later y (cond (eqb y before) [] (up_to before ys)) last m)

  beyond : (ys : List ℕ) (y : ℕ) → (Contains ys y → ⊥) → ((rest : List ℕ) → filter p ys ≡ rest ++ before ∷ last ∷ [] → Contains (up_to before ys) last → ⊥)
      → (b : Bool) (rest : List ℕ) → cond b (y ∷ filter p ys) (filter p ys) ≡ rest ++ before ∷ last ∷ [] → Contains (up_to before (y ∷ ys)) last → ⊥
  beyond ys y apart ih true [] e m =
      let here : y ≡ before = cc in
      let others : filter p ys ≡ last ∷ [] = cc in
      stops y ys apart here (subst (λ zs. Contains zs last) (sym others) (first last [])) m
  beyond ys y apart ih true (r ∷ rest) e m =
      let others : filter p ys ≡ rest ++ before ∷ last ∷ [] = cc in
      ih rest others (goes_on y ys apart (subst (λ zs. Contains zs last) (sym others) (ends rest before last)) m)
  beyond ys y apart ih false rest e m = ih rest e (goes_on y ys apart (subst (λ zs. Contains zs last) (sym e) (ends rest before last)) m)

  pub last-beyond : (d rest : List ℕ) → IsDistinct d → filter p d ≡ rest ++ before ∷ last ∷ [] → Contains (up_to before d) last → ⊥
  last-beyond [] rest h e m = none last m
  last-beyond (y ∷ ys) rest h e m = beyond ys y h.0 (λ rest2 e2 m2. last-beyond ys rest2 h.1 e2 m2) (p y) rest e m

-- ---- the clauses with what is learned from two or more decisions don't clash by themselves

module _ (sign : Bool) (known : List (List Lit)) (decisions : List ℕ) (distinct : IsDistinct decisions) (clashes : clash (known ++ all_with sign decisions) ≡ true) where
  abbrev part : List ℕ
  part = needed_decisions sign known decisions

  not_false : (z : ℕ) → Contains part z → Contains (closure known) (literal_with sign z) → ⊥
  not_false z m n = not_member sign known decisions distinct clashes z n m

  undone : (z : ℕ) → Contains (closure known) (negation (literal_with (not sign) z)) → Contains (closure known) (literal_with sign z)
  undone z m = subst (Contains (closure known)) (negation-other sign z) m

  module _ (no_clash : clash known ≡ false) where
    has_member : part ≡ [] → ⊥
    has_member e =
        let holds : clash (known ++ all_with sign part) ≡ true = trimmed-holds (λ set. clash (known ++ all_with sign set)) decisions clashes in
        let alone : clash (known ++ []) ≡ true = subst (λ set. clash (known ++ all_with sign set) ≡ true) e holds in
        false≢true (sym no_clash ∙ subst (λ c. clash c ≡ true) (append-nil known) alone)

    module _ (y z : ℕ) (in_y : Contains part y) (in_z : Contains part z) (apart : y ≡ z → ⊥) where
      abbrev more : List (List Lit)
      more = known ++ some_without sign part ∷ []

      another : (w : ℕ) → (u : ℕ) × Contains part u × (u ≡ w → ⊥)
      another w = ⊎_elim (λ (e : w ≡ y). (z, in_z, λ (h : z ≡ w). apart (sym e ∙ sym h))) (λ (n : w ≡ y → ⊥). (y, in_y, λ (h : y ≡ w). n (sym h))) (cases_eq w y)

      no_more : (l : Lit) → Contains (closure more) l → Contains (closure known) l
      no_more =
          closure-least more (Contains (closure known)) (λ clause l m n others.
          ⊎_elim
          (λ (old : Contains known clause). closure-closed known clause l old n others)
          (λ (e : some_without sign part ≡ clause).
          let of = from_map (literal_with (not sign)) part l (subst (λ c. Contains c l) (sym e) n) in
          let other = another of.0 in
          absurd
          (not_false other.0 other.1
          (undone other.0
          (others (literal_with (not sign) other.0) (subst (λ c. Contains c (literal_with (not sign) other.0)) e (to_map (literal_with (not sign)) part other.0 other.1)) (λ (h : literal_with (not sign) other.0 ≡ l). other.2 (ap (λ k. k.var) (h ∙ sym of.2)))))))
          (Contains-push_cases known (some_without sign part) clause m))

      pub no_clash-more : clash more ≡ false
      no_clash-more =
          false_from_ne_true (clash more) (λ e.
          let g = refuted-from_clash more e in
          ⊎_elim
          (λ (old : Contains known g.0). false≢true (sym no_clash ∙ clash-from_refuted known g.0 old (λ l n. no_more (negation l) (g.2 l n))))
          (λ (same : some_without sign part ≡ g.0). not_false y in_y (undone y (no_more (negation (literal_with (not sign) y)) (g.2 (literal_with (not sign) y) (subst (λ c. Contains c (literal_with (not sign) y)) same (to_map (literal_with (not sign)) part y in_y))))))
          (Contains-push_cases known (some_without sign part) g.0 g.1))

-- ---- standings

pub names-push : (earlier lines : List (List Lit)) (line : List Lit) → NameOthers earlier lines → ((other : List Lit) → Contains (earlier ++ lines) other → NameTheSame other line → ⊥) → NameOthers earlier (lines ++ line ∷ [])
names-push earlier [] line h f = ((λ other m. f other (Contains-append_left earlier [] other m)), tt)
names-push earlier (l ∷ lines) line h f = (h.0, names-push (earlier ++ l ∷ []) lines line h.1 (λ other m. f other (subst (λ c. Contains c other) (append_assoc earlier (l ∷ []) lines) m)))

abbrev Within : List Lit → List ℕ → Type 0
Within clause vars = (l : Lit) → Contains clause l → Contains vars l.var

pub record IsGood (sign : Bool) (clauses : List (List Lit)) (s : Standing) : Type 0 where
  pub distinct : IsDistinct s.decisions
  pub no_clash : (s.decisions ≡ []) ⊎ (clash (clauses ++ s.learned) ≡ false)
  pub other_value : (e : List Lit) → Contains s.learned e → (l : Lit) → Contains e l → l.positive ≡ not sign
  pub apart : (e : List Lit) → Contains s.learned e → Within e s.decisions → ⊥
  pub others : NameOthers [] s.learned

is_literal : (sign : Bool) (l : Lit) (x : ℕ) → l.positive ≡ not sign → x ≡ l.var → literal_with (not sign) x ≡ l
is_literal sign l x s e = λ i. record { var = e i; positive = sym s i }

module _ (sign : Bool) (clauses : List (List Lit)) (v a : ℕ) (s : Standing) (good : IsGood sign clauses s) where
  -- a decision doesn't complete a learned clause, since the clause would have forced it to be true
  apart_decided : (x : ℕ) (xs : List ℕ) → open_variables v (closure (under sign clauses s)) ≡ x ∷ xs → (e : List Lit) → Contains s.learned e → Within e (s.decisions ++ x ∷ []) → ⊥
  apart_decided x xs o e m within =
      let set = closure (under sign clauses s) in
      let the_other : (l : Lit) → Contains e l → among s.decisions l.var ≡ false → literal_with (not sign) x ≡ l =
      λ l n f. ⊎_elim
      (λ (old : Contains s.decisions l.var). absurd (false≢true (sym f ∙ among-from s.decisions l.var old)))
      (λ (h : x ≡ l.var). is_literal sign l x (good.other_value e m l n) h)
      (Contains-push_cases s.decisions x l.var (within l n)) in
      ⊎_elim
      (λ (t : list_all (λ l. among s.decisions l.var) e ≡ true). good.apart e m (λ l n. from_among s.decisions l.var (all_at (λ k. among s.decisions k.var) e l t n)))
      (λ (f : list_all (λ l. among s.decisions l.var) e ≡ false).
      let l = not_all (λ k. among s.decisions k.var) e f in
      let there : Contains e (literal_with (not sign) x) = subst (Contains e) (sym (the_other l.0 l.1 l.2)) l.1 in
      let forces : is_forcing set e (literal_with (not sign) x) ≡ true =
      all_from (λ k. is_same (literal_with (not sign) x) k || has set (negation k)) e (λ k n.
      ⊎_elim
      (λ (old : among s.decisions k.var ≡ true).
      or_right (is_same (literal_with (not sign) x) k) (has set (negation k))
      (subst (λ j. has set (negation j) ≡ true) (is_literal sign k k.var (good.other_value e m k n) refl)
      (subst (λ j. has set j ≡ true) (sym (negation-other sign k.var)) (decided-closed sign clauses s k.var (from_among s.decisions k.var old)))))
      (λ (new : among s.decisions k.var ≡ false).
      or_left (is_same (literal_with (not sign) x) k) (has set (negation k)) (subst (λ j. is_same (literal_with (not sign) x) j ≡ true) (the_other k n new) (is_same-refl (literal_with (not sign) x))))
      (cases_Bool (among s.decisions k.var))) in
      false≢true
      (sym (open-either (not sign) set x (open-parts v set x xs o).1 (open-parts v set x xs o).2)
      ∙ closure-has (under sign clauses s) e (literal_with (not sign) x) (Contains-append_left (clauses ++ s.learned) (all_with sign s.decisions) e (Contains-append_right clauses s.learned e m)) there forces))
      (cases_Bool (list_all (λ l. among s.decisions l.var) e))

  no_clash_decided : clash (under sign clauses s) ≡ false → clash (clauses ++ s.learned) ≡ false
  no_clash_decided c =
      ⊎_elim
      (λ (e : s.decisions ≡ []). subst (λ k. clash k ≡ false) (append-nil (clauses ++ s.learned)) (subst (λ d. clash ((clauses ++ s.learned) ++ all_with sign d) ≡ false) e c))
      (λ (h : clash (clauses ++ s.learned) ≡ false). h)
      good.no_clash

  module _ (c : clash (under sign clauses s) ≡ true) (y : ℕ) (ys : List ℕ) (o : s.decisions ≡ y ∷ ys) where
    abbrev known : List (List Lit)
    known = clauses ++ s.learned

    abbrev learnt : List ℕ
    learnt = needed_decisions sign known s.decisions

    known_no_clash : clash known ≡ false
    known_no_clash = ⊎_elim (λ (e : s.decisions ≡ []). absurd (cc)) (λ (h : clash known ≡ false). h) good.no_clash

    pub learnt_some : learnt ≡ [] → ⊥
    learnt_some = has_member sign known s.decisions good.distinct c known_no_clash

    in_decisions : (x : ℕ) → Contains learnt x → Contains s.decisions x
    in_decisions = trimmed-within (λ set. clash (known ++ all_with sign set)) s.decisions

    turned : (r : List ℕ) → reverse learnt ≡ r → learnt ≡ reverse r
    turned r e = sym (reverse-reverse learnt) ∙ ap reverse e

    ended_by : (last before : ℕ) (rest : List ℕ) → reverse learnt ≡ last ∷ before ∷ rest → learnt ≡ reverse rest ++ before ∷ last ∷ []
    ended_by last before rest e = turned (last ∷ before ∷ rest) e ∙ reverse-append (last ∷ before ∷ []) rest

    no_clash_learnt : (r : List ℕ) → reverse learnt ≡ r → (cut_after s.decisions r ≡ []) ⊎ (clash (clauses ++ (s.learned ++ some_without sign learnt ∷ [])) ≡ false)
    no_clash_learnt [] e = inl refl
    no_clash_learnt (last ∷ []) e = inl refl
    no_clash_learnt (last ∷ before ∷ rest) e =
        let whole = ended_by last before rest e in
        let in_last : Contains learnt last = subst (λ t. Contains t last) (sym whole) (ends (reverse rest) before last) in
        let in_before : Contains learnt before = subst (λ t. Contains t before) (sym whole) (Contains-append_right (reverse rest) (before ∷ last ∷ []) before (first before (last ∷ []))) in
        let part = trimmed-part (λ set. clash (known ++ all_with sign set)) s.decisions in
        let distinct : IsDistinct learnt = subst IsDistinct (sym part.1) (distinct-filter part.0 s.decisions good.distinct) in
        let two : IsDistinct (before ∷ last ∷ []) = distinct-end (reverse rest) (before ∷ last ∷ []) (subst IsDistinct whole distinct) in
        let other : before ≡ last → ⊥ = λ h. two.0 (subst (Contains (last ∷ [])) (sym h) (first last [])) in
        inr (subst (λ k. clash k ≡ false) (append_assoc clauses s.learned (some_without sign learnt ∷ [])) (no_clash-more sign known s.decisions good.distinct c known_no_clash before last in_before in_last other))

    apart_new : (r : List ℕ) → reverse learnt ≡ r → Within (some_without sign learnt) (cut_after s.decisions r) → ⊥
    apart_new [] e within = learnt_some (turned [] e)
    apart_new (last ∷ []) e within =
        none last (within (literal_with (not sign) last) (to_map (literal_with (not sign)) learnt last (subst (λ t. Contains t last) (sym (turned (last ∷ []) e)) (first last []))))
    apart_new (last ∷ before ∷ rest) e within =
        let whole = ended_by last before rest e in
        let part = trimmed-part (λ set. clash (known ++ all_with sign set)) s.decisions in
        last-beyond part.0 before last s.decisions (reverse rest) good.distinct (sym part.1 ∙ whole)
        (within (literal_with (not sign) last) (to_map (literal_with (not sign)) learnt last (subst (λ t. Contains t last) (sym whole) (ends (reverse rest) before last))))

    -- an earlier clause with the same variables would have all of them decided
    names_others : (e : List Lit) → Contains s.learned e → NameTheSame e (some_without sign learnt) → ⊥
    names_others e m same =
        good.apart e m (λ l n.
        let k = from_map (λ j. j.var) (some_without sign learnt) l.var ((same l.var).0 (to_map (λ j. j.var) e l n)) in
        let w = from_map (literal_with (not sign)) learnt k.0 k.1 in
        subst (Contains s.decisions) (ap (λ j. j.var) w.2 ∙ k.2) (in_decisions w.0 w.1))

  pub good_next : (t : Standing) (r : Turn) → r ≡ GoesOn t → IsTurn sign clauses v a s r → IsGood sign clauses t
  good_next t r e (answers c o q) = absurd (cc)
  good_next t r e (decides x xs c o q) =
      let same : (record s { decisions = s.decisions ++ x ∷ [] }) ≡ t = cc in
      subst (IsGood sign clauses) same (record {
        distinct = distinct-push s.decisions x good.distinct (open-new sign clauses s v x xs o);
        no_clash = inr (no_clash_decided c);
        other_value = good.other_value;
        apart = apart_decided x xs o;
        others = good.others;
      })
  good_next t r e (refutes c o q) = absurd (cc)
  good_next t r e (gives_up c x xs d o q) = absurd (cc)
  good_next t r e (adds_clause c y ys o n q) =
      let new = needed_decisions sign (clauses ++ s.learned) s.decisions in
      let next : Standing = record { learned = s.learned ++ some_without sign new ∷ []; decisions = cut_after s.decisions (reverse new) } in
      let same : next ≡ t = cc in
      subst (IsGood sign clauses) same (record {
        distinct = cut-distinct s.decisions (reverse new) good.distinct;
        no_clash = no_clash_learnt c y ys o (reverse new) refl;
        other_value = λ e2 m l k. ⊎_elim
            (λ (old : Contains s.learned e2). good.other_value e2 old l k)
            (λ (h : some_without sign new ≡ e2). let w = from_map (literal_with (not sign)) new l (subst (λ d. Contains d l) (sym h) k) in ap (λ j. j.positive) (sym w.2))
            (Contains-push_cases s.learned (some_without sign new) e2 m);
        apart = λ e2 m within. ⊎_elim
            (λ (old : Contains s.learned e2). good.apart e2 old (λ l k. cut-within s.decisions (reverse new) l.var (within l k)))
            (λ (h : some_without sign new ≡ e2). apart_new c y ys o (reverse new) refl (subst (λ d. Within d (cut_after s.decisions (reverse new))) (sym h) within))
            (Contains-push_cases s.learned (some_without sign new) e2 m);
        others = names-push [] s.learned (some_without sign new) good.others (names_others c y ys o);
      })

pub start-good : (sign : Bool) (clauses : List (List Lit)) → IsGood sign clauses start
start-good sign clauses = record { distinct = tt; no_clash = inl refl; other_value = λ e m. absurd (none e m); apart = λ e m within. none e m; others = tt }

pub reached-good : (sign : Bool) (clauses : List (List Lit)) (v a n : ℕ) (last : Standing) → standing_after n sign clauses v a start ≡ Some last → IsGood sign clauses last
reached-good sign clauses v a n last e = reached sign clauses v a (IsGood sign clauses) (λ s t good f. good_next sign clauses v a s good t (turn sign clauses v a s) f (turn_is sign clauses v a s)) last n start (start-good sign clauses) e

some_decision : (d : List ℕ) → (d ≡ [] → ⊥) → (y : ℕ) × (ys : List ℕ) × (d ≡ y ∷ ys)
some_decision [] f = absurd (f refl)
some_decision (y ∷ ys) f = (y, ys, refl)

module _ (sign : Bool) (clauses : List (List Lit)) (v a n : ℕ) (last : Standing) (e : standing_after n sign clauses v a start ≡ Some last) (decided : last.decisions ≡ [] → ⊥) where
  pub reached-no_clash : clash (clauses ++ last.learned) ≡ false
  reached-no_clash = ⊎_elim (λ (d : last.decisions ≡ []). absurd (decided d)) (λ (h : clash (clauses ++ last.learned) ≡ false). h) (reached-good sign clauses v a n last e).no_clash

  pub reached-member : clash (under sign clauses last) ≡ true → needed_decisions sign (clauses ++ last.learned) last.decisions ≡ [] → ⊥
  reached-member c = let d = some_decision last.decisions decided in learnt_some sign clauses v a last (reached-good sign clauses v a n last e) c d.0 d.1 d.2
