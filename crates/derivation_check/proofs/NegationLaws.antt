-- Negations of a line's literals that are assumed one by one: what clashes with them, and that there is room.
use Rattle.std.proofs.Common.{◌≡◌, ◌∙◌, ◌⊎◌, refl, sym, ap, subst, inl, inr, ⊎_elim, ℕ, ◌+◌, ◌<◌, ◌≤◌, true, false, List, [], ◌∷◌, ◌++◌, length, map, take, drop, get_or, append-nil, append_assoc, arith}
use Rattle.std.specs.Prelude.{Contains, None}
use Rattle.std.proofs.lemmas.Bool.{false≢true, false_from_ne_true}
use Rattle.std.proofs.lemmas.List.{drop_all, map-append, take_more, take-append-drop}
use Rattle.std.proofs.lemmas.List.Elements.{Contains-append_left, Contains-append_right, Contains-append_cases, Contains-push, Contains-push_cases}
use Rattle.lists.specs.Distinct.{IsDistinct}
use Rattle.clauses.specs.declared.literal.Lit.{Lit}
use Rattle.clauses.specs.Clause.{negation, unit_of}
use Rattle.clauses.specs.Closure.{closure, clash, follows, IsClosed}
use Rattle.clauses.specs.Problem.{IsBelow}
use Rattle.lists.proofs.Members.{none, first, first_or_later, from_map, to_map}
use Rattle.clauses.proofs.TrimmedLaws.{closure-more, clash-more, clash-from_refuted, refuted-from_clash}
use Rattle.clauses.proofs.LeastLaws.{closure-closed, closure-least}
use Rattle.propagation.specs.Propagation.{Propagation, propagated, value_of}
use Rattle.propagation.specs.Room.{AreDistinctBehind, HasRoom, IsMadeTrue}
use Rattle.propagation.specs.inside.Values.{IsPart}
use Rattle.propagation.proofs.RoomLaws.{new-closed, propagated-push}
use Rattle.propagation.proofs.ValueLaws.{one_sign}
use Rattle.derivation_check.specs.inside.Negations.{IsBehind}

-- the negations of a line's literals, each as a clause of its own
abbrev pub negations : List Lit → List (List Lit)
negations line = map (λ literal. unit_of (negation literal)) line

-- ---- units that the closure has already

abbrev IsUnitIn : List (List Lit) → List Lit → Type 0
IsUnitIn a clause = (l : Lit) × (unit_of l ≡ clause) × Contains (closure a) l

-- clauses that don't clash, and units of their closure, don't clash
module _ (a b : List (List Lit)) (no_clash : clash a ≡ false) (each : (clause : List Lit) → Contains b clause → Contains a clause ⊎ IsUnitIn a clause) where
  closed : IsClosed b (Contains (closure a))
  closed clause l m inside others =
      ⊎_elim
      (λ (old : Contains a clause). closure-closed a clause l old inside others)
      (λ (unit : IsUnitIn a clause).
      let same : unit.0 ≡ l = ⊎_elim (λ (e : unit.0 ≡ l). e) (λ (no : Contains [] l). absurd (none l no)) (first_or_later unit.0 [] l (subst (λ c. Contains c l) (sym unit.1) inside)) in
      subst (Contains (closure a)) same unit.2)
      (each clause m)

  not_refuted : (clause : List Lit) → Contains b clause → ((l : Lit) → Contains clause l → Contains (closure a) (negation l)) → ⊥
  not_refuted clause m refuted =
      ⊎_elim
      (λ (old : Contains a clause). false≢true (sym no_clash ∙ clash-from_refuted a clause old refuted))
      (λ (unit : IsUnitIn a clause). one_sign a unit.0 no_clash unit.2 (refuted unit.0 (subst (λ c. Contains c unit.0) unit.1 (first unit.0 []))))
      (each clause m)

  pub units-no_clash : clash b ≡ false
  units-no_clash = false_from_ne_true (clash b) (λ e. let r = refuted-from_clash b e in not_refuted r.0 r.1 (λ l n. closure-least b (Contains (closure a)) closed (negation l) (r.2 l n)))

-- clauses that clash do so with any more
pub clash-append : (a more : List (List Lit)) → clash a ≡ true → clash (a ++ more) ≡ true
clash-append a more = clash-more a (a ++ more) (λ clause m. Contains-append_left a more clause m)

-- ---- the literals so far

-- the literals of a line so far are false, and nothing clashes: negations of some are assumed, of each variable one
pub record IsFalsified (start at : Propagation) (line : List Lit) : Type 0 where
  pub assumed : List Lit
  pub is : at ≡ record start { assumed = start.assumed ++ assumed }
  pub within : IsPart (propagated at) (propagated start ++ negations line)
  pub negative : (l : Lit) → Contains line l → Contains (closure (propagated at)) (negation l)
  pub no_clash : clash (propagated at) ≡ false
  pub distinct : AreDistinctBehind (length start.assumed) at

negations-part : (a b : List Lit) → ((l : Lit) → Contains a l → Contains b l) → IsPart (negations a) (negations b)
negations-part a b within clause m =
    let of = from_map (λ (l : Lit). unit_of (negation l)) a clause m in
    subst (Contains (negations b)) of.2 (to_map (λ (l : Lit). unit_of (negation l)) b of.0 (within of.0 of.1))

module _ (start : Propagation) where
  more-negations : (a b : List Lit) → ((l : Lit) → Contains a l → Contains b l) → IsPart (propagated start ++ negations a) (propagated start ++ negations b)
  more-negations a b within clause m =
      ⊎_elim
      (λ (old : Contains (propagated start) clause). Contains-append_left (propagated start) (negations b) clause old)
      (λ (unit : Contains (negations a) clause). Contains-append_right (propagated start) (negations b) clause (negations-part a b within clause unit))
      (Contains-append_cases (propagated start) (negations a) clause m)

  pub falsified-none : clash (propagated start) ≡ false → IsFalsified start start []
  falsified-none no_clash = record {
    assumed = [];
    is = ap (λ assumed. record start { assumed = assumed }) (sym (append-nil start.assumed));
    within = (λ clause m. Contains-append_left (propagated start) [] clause m);
    negative = (λ l m. absurd (none l m));
    no_clash = no_clash;
    distinct = subst (λ ls. IsDistinct (map (λ (l : Lit). l.var) ls)) (sym (drop_all (length start.assumed) start.assumed (omega arith))) tt;
  }

  module _ (old : Propagation) (line : List Lit) (before : IsFalsified start old line) (literal : Lit) where
    pub room : length start.assumed ≤ 4096 → HasRoom old
    room few = (length start.assumed, few, before.distinct)

    -- the negation is about the same problem
    pub variable : IsBelow start.problem.variables literal → IsBelow old.problem.variables (negation literal)
    variable below = subst (λ (p : Propagation). literal.var < p.problem.variables) (sym before.is) below

    longer : IsPart (propagated start ++ negations line) (propagated start ++ negations (line ++ literal ∷ []))
    longer = more-negations line (line ++ literal ∷ []) (λ l m. Contains-append_left line (literal ∷ []) l m)

    last_negation : Contains (propagated start ++ negations (line ++ literal ∷ [])) (unit_of (negation literal))
    last_negation = Contains-append_right (propagated start) (negations (line ++ literal ∷ [])) (unit_of (negation literal)) (to_map (λ (l : Lit). unit_of (negation l)) (line ++ literal ∷ []) literal (Contains-push line literal))

    next_within : IsPart (propagated old ++ unit_of (negation literal) ∷ []) (propagated start ++ negations (line ++ literal ∷ []))
    next_within clause m =
        ⊎_elim
        (λ (was : Contains (propagated old) clause). longer clause (before.within clause was))
        (λ (e : unit_of (negation literal) ≡ clause). subst (Contains (propagated start ++ negations (line ++ literal ∷ []))) e last_negation)
        (Contains-push_cases (propagated old) (unit_of (negation literal)) clause m)

    -- a clash with one literal more is one with the whole line
    pub next-clash : (whole : List Lit) → ((l : Lit) → Contains (line ++ literal ∷ []) l → Contains whole l) → clash (propagated old ++ unit_of (negation literal) ∷ []) ≡ true → follows (propagated start) whole ≡ true
    next-clash whole within =
        clash-more (propagated old ++ unit_of (negation literal) ∷ []) (propagated start ++ negations whole)
        (λ clause m. more-negations (line ++ literal ∷ []) whole within clause (next_within clause m))

    known_next : Contains (closure (propagated old)) (negation literal) → IsFalsified start old (line ++ literal ∷ [])
    known_next negative = record {
      assumed = before.assumed;
      is = before.is;
      within = (λ clause m. longer clause (before.within clause m));
      negative = (λ l m.
          ⊎_elim
          (λ (was : Contains line l). before.negative l was)
          (λ (e : literal ≡ l). subst (λ k. Contains (closure (propagated old)) (negation k)) e negative)
          (Contains-push_cases line literal l m));
      no_clash = before.no_clash;
      distinct = before.distinct;
    }

    abbrev pushed : Propagation
    pushed = record old { assumed = old.assumed ++ negation literal ∷ [] }

    pushed_is : pushed ≡ record start { assumed = start.assumed ++ (before.assumed ++ negation literal ∷ []) }
    pushed_is =
        ap (λ (p : Propagation). record p { assumed = p.assumed ++ negation literal ∷ [] }) before.is
        ∙ ap (λ assumed. record start { assumed = assumed }) (append_assoc start.assumed before.assumed (negation literal ∷ []))

    open_next : AreDistinctBehind (length start.assumed) pushed → clash (propagated pushed) ≡ false → IsFalsified start pushed (line ++ literal ∷ [])
    open_next distinct no_clash = record {
      assumed = before.assumed ++ negation literal ∷ [];
      is = pushed_is;
      within = (λ clause m. next_within clause (subst (λ cs. Contains cs clause) (propagated-push old (negation literal)) m));
      negative = (λ l m.
          ⊎_elim
          (λ (was : Contains line l).
          closure-more (propagated old) (propagated pushed)
          (λ clause n. subst (λ cs. Contains cs clause) (sym (propagated-push old (negation literal))) (Contains-append_left (propagated old) (unit_of (negation literal) ∷ []) clause n))
          (negation l) (before.negative l was))
          (λ (e : literal ≡ l). subst (λ k. Contains (closure (propagated pushed)) (negation k)) e (new-closed old pushed (negation literal) refl))
          (Contains-push_cases line literal l m));
      no_clash = no_clash;
      distinct = distinct;
    }

    pub falsified-next : (new : Propagation) → IsMadeTrue old (negation literal) new → ((count : ℕ) → AreDistinctBehind count old → AreDistinctBehind count new) → Contains (closure (propagated new)) (negation literal) → clash (propagated new) ≡ false
        → IsFalsified start new (line ++ literal ∷ [])
    falsified-next new made distinct negative no_clash =
        ⊎_elim
        (λ (e : new ≡ old). subst (λ at. IsFalsified start at (line ++ literal ∷ [])) (sym e) (known_next (subst (λ at. Contains (closure (propagated at)) (negation literal)) e negative)))
        (λ (o : (value_of (propagated old) literal.var ≡ None) × (new ≡ pushed)).
        subst (λ at. IsFalsified start at (line ++ literal ∷ [])) (sym o.1)
        (open_next (subst (AreDistinctBehind (length start.assumed)) o.1 (distinct (length start.assumed) before.distinct)) (subst (λ at. clash (propagated at) ≡ false) o.1 no_clash)))
        made

    pub behind-next : (new : Propagation) → IsMadeTrue old (negation literal) new → IsBehind start new
    behind-next new made =
        ⊎_elim
        (λ (e : new ≡ old). (before.assumed, e ∙ before.is))
        (λ (o : (value_of (propagated old) literal.var ≡ None) × (new ≡ pushed)). (before.assumed ++ negation literal ∷ [], o.1 ∙ pushed_is))
        made

  -- where none of the literals clashes the line doesn't follow
  pub falsified-all : (at : Propagation) (line : List Lit) → IsFalsified start at line → follows (propagated start) line ≡ false
  falsified-all at line is =
      units-no_clash (propagated at) (propagated start ++ negations line) is.no_clash (λ clause m.
      ⊎_elim
      (λ (was : Contains (propagated start) clause).
      inl
      (subst (λ (p : Propagation). Contains (propagated p) clause) (sym is.is)
      (⊎_elim
      (λ (front : Contains (start.problem.clauses ++ start.learned) clause). Contains-append_left (start.problem.clauses ++ start.learned) (map unit_of (start.assumed ++ is.assumed)) clause front)
      (λ (unit : Contains (map unit_of start.assumed) clause).
      Contains-append_right (start.problem.clauses ++ start.learned) (map unit_of (start.assumed ++ is.assumed)) clause
      (subst (λ cs. Contains cs clause) (sym (map-append unit_of start.assumed is.assumed)) (Contains-append_left (map unit_of start.assumed) (map unit_of is.assumed) clause unit)))
      (Contains-append_cases (start.problem.clauses ++ start.learned) (map unit_of start.assumed) clause was))))
      (λ (unit : Contains (negations line) clause).
      let of = from_map (λ (l : Lit). unit_of (negation l)) line clause unit in
      inr (negation of.0, of.2, is.negative of.0 of.1))
      (Contains-append_cases (propagated start) (negations line) clause m))

-- ---- the loop over the literals

module _ (line : List Lit) (i : ℕ) (inside : i < length line) (d : Lit) where
  pub first-within : (l : Lit) → Contains (take i line ++ get_or line i d ∷ []) l → Contains line l
  first-within l m =
      subst (λ xs. Contains xs l) (take-append-drop (i + 1) line)
      (Contains-append_left (take (i + 1) line) (drop (i + 1) line) l (subst (λ xs. Contains xs l) (sym (take_more line i d inside)) m))
