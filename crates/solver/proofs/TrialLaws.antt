-- Variables that are tried as false: what clashes with more of them, and with those that are false already.
use Rattle.std.proofs.Common.{◌≡◌, ◌∙◌, refl, sym, ap, subst, ⊎_elim, ℕ, ◌+◌, ◌<◌, ◌≤◌, Bool, true, false, cond, zero, suc, List, [], ◌∷◌, ◌++◌, length, map, take, drop, get_or, All, append_assoc, arith}
use Rattle.std.specs.Prelude.{Contains, nat_lt, None}
use Rattle.std.proofs.lemmas.Bool.{false≢true, lt-ltb, le-ltb}
use Rattle.std.proofs.lemmas.List.{take_more, take-append-drop, take-append-le, take-take, take-map, drop-append-le, drop-take, length_push, length-map, length-take, get_or-map, map_push}
use Rattle.std.proofs.lemmas.List.Elements.{filter-append, All-contains, All-push, All-take, Contains-append_left, Contains-append_right, Contains-append_cases}
use Rattle.lists.specs.Distinct.{IsDistinct}
use Rattle.lists.proofs.Distinct.{distinct-push}
use Rattle.lists.proofs.Members.{none, first, first_or_later, from_map, to_map, from_filter, to_filter}
use Rattle.pref_sets.specs.Preferred.{IsWithin}
use Rattle.clauses.specs.declared.literal.Lit.{Lit}
use Rattle.clauses.specs.Clause.{negation, literal_with, unit_of}
use Rattle.clauses.specs.Closure.{closure, clash, IsClosed}
use Rattle.clauses.specs.Problem.{ClauseProblem}
use Rattle.clauses.proofs.TrimmedLaws.{clash-from_refuted, refuted-from_clash}
use Rattle.clauses.proofs.LeastLaws.{closure-closed, closure-least, unit-closed}
use Rattle.propagation.specs.Propagation.{Propagation, all_of, propagated, value_of}
use Rattle.propagation.specs.Room.{HasRoom, IsMadeTrue}
use Rattle.propagation.proofs.RoomLaws.{distinct-few, new-variable, room-for}
use Rattle.propagation.proofs.ValueLaws.{one_sign}
use Rattle.solver.specs.inside.TestLaws.{more-closed, more-clash, same-transitive}
use Rattle.solver.specs.inside.Trials.{Trying, with_tried, variables_in, Clashes, SameButTried, IsTrial, tried_of}

module _ (at : Trying) where
  -- where all of a set is false already, and a part of it is tried and doesn't clash, the set doesn't
  module _ (tried set : List ℕ) (within : IsWithin tried set) (all_false : (v : ℕ) → Contains set v → Contains (closure (with_tried at tried)) (literal_with at.first v)) where
    closed_too : IsClosed (with_tried at set) (Contains (closure (with_tried at tried)))
    closed_too clause l m inside others =
        ⊎_elim
        (λ (old : Contains (at.problem.clauses ++ at.learned) clause).
        closure-closed (with_tried at tried) clause l (Contains-append_left (at.problem.clauses ++ at.learned) (map unit_of (at.fixed ++ map (literal_with at.first) tried)) clause old) inside others)
        (λ (unit : Contains (map unit_of (at.fixed ++ map (literal_with at.first) set)) clause).
        let of = from_map unit_of (at.fixed ++ map (literal_with at.first) set) clause unit in
        let same : of.0 ≡ l =
        ⊎_elim (λ (e : of.0 ≡ l). e) (λ (no : Contains [] l). absurd (none l no)) (first_or_later of.0 [] l (subst (λ c. Contains c l) (sym of.2) inside)) in
        subst (Contains (closure (with_tried at tried))) same
        (⊎_elim
        (λ (stays : Contains at.fixed of.0).
        unit-closed (with_tried at tried) of.0
        (Contains-append_right (at.problem.clauses ++ at.learned) (map unit_of (at.fixed ++ map (literal_with at.first) tried)) (unit_of of.0)
        (to_map unit_of (at.fixed ++ map (literal_with at.first) tried) of.0 (Contains-append_left at.fixed (map (literal_with at.first) tried) of.0 stays))))
        (λ (new : Contains (map (literal_with at.first) set) of.0).
        let var = from_map (literal_with at.first) set of.0 new in
        subst (Contains (closure (with_tried at tried))) var.2 (all_false var.0 var.1))
        (Contains-append_cases at.fixed (map (literal_with at.first) set) of.0 of.1)))
        (Contains-append_cases (at.problem.clauses ++ at.learned) (map unit_of (at.fixed ++ map (literal_with at.first) set)) clause m)

    pub same-closed : (l : Lit) → Contains (closure (with_tried at set)) l → Contains (closure (with_tried at tried)) l
    same-closed = closure-least (with_tried at set) (Contains (closure (with_tried at tried))) closed_too

-- ---- a variable more

module _ (problem : ClauseProblem) (first : Bool) (at : Propagation) (fixed : ℕ) (is : IsTrial problem first at fixed) where
  abbrev tried : List ℕ
  tried = tried_of at fixed

  pub has-room : HasRoom at
  has-room = (fixed, is.few, is.distinct)

  pub few-assumed : (v : ℕ) → v < problem.variables → ¬ Contains tried v → length at.assumed < at.problem.variables + 4096
  few-assumed v below new =
      let same : at.problem.variables ≡ problem.variables = ap (λ (p : ClauseProblem). p.variables) is.same_problem in
      room-for at fixed v is.few is.distinct (subst (λ n. All (λ x. x < n) tried) (sym same) is.below) (omega arith) new

  module _ (v : ℕ) (below : v < problem.variables) (new : ¬ Contains tried v) where
    abbrev next : Propagation
    next = record at { assumed = at.assumed ++ literal_with first v ∷ [] }

    drops-push : drop fixed (at.assumed ++ literal_with first v ∷ []) ≡ drop fixed at.assumed ++ literal_with first v ∷ []
    drops-push = drop-append-le fixed at.assumed (literal_with first v ∷ []) is.within

    pub tried-push : tried_of next fixed ≡ tried ++ v ∷ []
    tried-push = ap (map (λ (l : Lit). l.var)) drops-push ∙ map_push (λ (l : Lit). l.var) (drop fixed at.assumed) (literal_with first v)

    pub trial-push : IsTrial problem first next fixed
    trial-push = record {
      same_problem = is.same_problem;
      lawful = is.lawful;
      within = (let longer = length_push at.assumed (literal_with first v) in let w = is.within in omega arith);
      few = is.few;
      valued = drops-push ∙ ap (λ xs. xs ++ literal_with first v ∷ []) is.valued ∙ sym (map_push (literal_with first) tried v) ∙ ap (map (literal_with first)) (sym tried-push);
      distinct = subst IsDistinct (sym tried-push) (distinct-push tried v is.distinct new);
      below = subst (All (λ x. x < problem.variables)) (sym tried-push) (All-push (λ x. x < problem.variables) tried v is.below below);
    }

-- ---- a variable that is made to have the first value

-- what a `Trial` shows
abbrev pub shown_by : ClauseProblem → Bool → Propagation → ℕ → Trying
shown_by problem first at fixed = record { problem = problem; learned = at.learned; fixed = take fixed at.assumed; tried = tried_of at fixed; first = first }

-- its clauses are those that are propagated
pub shown-propagated : (problem : ClauseProblem) (first : Bool) (at : Propagation) (fixed : ℕ) → IsTrial problem first at fixed → propagated at ≡ with_tried (shown_by problem first at fixed) (tried_of at fixed)
shown-propagated problem first at fixed is =
    ap (λ (p : ClauseProblem). all_of p.clauses at.learned at.assumed) is.same_problem
    ∙ ap (all_of problem.clauses at.learned) (sym (take-append-drop fixed at.assumed) ∙ ap (λ rest. take fixed at.assumed ++ rest) is.valued)

-- one variable more
pub with_tried-push : (at : Trying) (set : List ℕ) (v : ℕ) → with_tried at (set ++ v ∷ []) ≡ with_tried at set ++ unit_of (literal_with at.first v) ∷ []
with_tried-push at set v =
    ap (λ ls. all_of at.problem.clauses at.learned (at.fixed ++ ls)) (map_push (literal_with at.first) set v)
    ∙ ap (all_of at.problem.clauses at.learned) (sym (append_assoc at.fixed (map (literal_with at.first) set) (literal_with at.first v ∷ [])))
    ∙ ap (λ units. (at.problem.clauses ++ at.learned) ++ units) (map_push unit_of (at.fixed ++ map (literal_with at.first) set) (literal_with at.first v))
    ∙ sym (append_assoc (at.problem.clauses ++ at.learned) (map unit_of (at.fixed ++ map (literal_with at.first) set)) (unit_of (literal_with at.first v) ∷ []))

module _ (problem : ClauseProblem) (first : Bool) (fixed : ℕ) (old new : Propagation) (is : IsTrial problem first old fixed) (v : ℕ) (below : v < problem.variables) (made : IsMadeTrue old (literal_with first v) new) where
  abbrev Pushed : Type 0
  Pushed = (value_of (propagated old) v ≡ None) × (new ≡ record old { assumed = old.assumed ++ literal_with first v ∷ [] })

  by_made : (P : Propagation → Type 0) → P old → (¬ Contains (tried_of old fixed) v → P (record old { assumed = old.assumed ++ literal_with first v ∷ [] })) → P new
  by_made P stays pushed =
      ⊎_elim
      (λ (e : new ≡ old). subst P (sym e) stays)
      (λ (o : Pushed). subst P (sym o.1) (pushed (new-variable old fixed v o.0)))
      made

  pub made-trial : IsTrial problem first new fixed
  made-trial = by_made (λ at. IsTrial problem first at fixed) is (λ fresh. trial-push problem first old fixed is v below fresh)

  pub made-same : SameButTried (shown_by problem first old fixed) (shown_by problem first new fixed)
  made-same =
      by_made (λ at. SameButTried (shown_by problem first old fixed) (shown_by problem first at fixed)) (refl, refl, refl, refl)
      (λ fresh. (refl, refl, take-append-le fixed old.assumed (literal_with first v ∷ []) is.within, refl))

  pub made-within : IsWithin (tried_of new fixed) (tried_of old fixed ++ v ∷ [])
  made-within =
      by_made (λ at. IsWithin (tried_of at fixed) (tried_of old fixed ++ v ∷ [])) (λ x m. Contains-append_left (tried_of old fixed) (v ∷ []) x m)
      (λ fresh x m. subst (λ xs. Contains xs x) (tried-push problem first old fixed is v below fresh) m)

  pub made-more : IsWithin (tried_of old fixed) (tried_of new fixed)
  made-more =
      by_made (λ at. IsWithin (tried_of old fixed) (tried_of at fixed)) (λ x m. m)
      (λ fresh x m. subst (λ xs. Contains xs x) (sym (tried-push problem first old fixed is v below fresh)) (Contains-append_left (tried_of old fixed) (v ∷ []) x m))

-- ---- which numbers are variables

module _ (problem : ClauseProblem) where
  abbrev is_variable : ℕ → Bool
  is_variable number = nat_lt number problem.variables

  one_by : (b : Bool) (x : ℕ) → is_variable x ≡ b → variables_in problem (x ∷ []) ≡ cond b (x ∷ []) []
  one_by b x e = ap (λ c. cond c (x ∷ []) []) e

  pub one-inside : (x : ℕ) → x < problem.variables → variables_in problem (x ∷ []) ≡ x ∷ []
  one-inside x below = one_by true x (lt-ltb x problem.variables below)

  pub one-outside : (x : ℕ) → problem.variables ≤ x → variables_in problem (x ∷ []) ≡ []
  one-outside x above = one_by false x (le-ltb x problem.variables above)

-- ---- the set that is tested, number by number

-- what two states have in common says that their clauses are the same
pub with_tried-same : (a b : Trying) → SameButTried a b → (set : List ℕ) → with_tried b set ≡ with_tried a set
with_tried-same a b same set =
    ap (λ (p : ClauseProblem). all_of p.clauses b.learned (b.fixed ++ map (literal_with b.first) set)) same.0
    ∙ ap (λ learned. all_of a.problem.clauses learned (b.fixed ++ map (literal_with b.first) set)) same.1
    ∙ ap (λ fixed. all_of a.problem.clauses a.learned (fixed ++ map (literal_with b.first) set)) same.2
    ∙ ap (λ (first : Bool). all_of a.problem.clauses a.learned (a.fixed ++ map (literal_with first) set)) same.3

pub clashes-same : (a b : Trying) → SameButTried a b → (set : List ℕ) → (Clashes b set → Clashes a set) × (Clashes a set → Clashes b set)
clashes-same a b same set =
    let equal : clash (with_tried b (variables_in b.problem set)) ≡ clash (with_tried a (variables_in a.problem set)) =
    ap (λ (p : ClauseProblem). clash (with_tried b (variables_in p set))) same.0 ∙ ap clash (with_tried-same a b same (variables_in a.problem set)) in
    ((λ c. sym equal ∙ c), (λ c. equal ∙ c))

-- the variables of a part of the set have the first value, and they don't clash: what is tried is within the whole set
pub record IsTried (start at : Trying) (whole set : List ℕ) : Type 0 where
  pub same : SameButTried start at
  pub within : IsWithin at.tried (variables_in start.problem whole)
  pub valued : (v : ℕ) → Contains (variables_in start.problem set) v → Contains (closure (with_tried at at.tried)) (literal_with at.first v)
  pub no_clash : clash (with_tried at at.tried) ≡ false

module _ (start : Trying) where
  abbrev variables : List ℕ → List ℕ
  variables set = variables_in start.problem set

  -- what is kept of what was tried begins
  pub tried-start : (at : Trying) (kept whole : List ℕ) → at ≡ record start { tried = kept } → IsWithin kept (variables_in start.problem whole) → clash (with_tried start kept) ≡ false → IsTried start at whole []
  tried-start at kept whole e within no_clash = record {
    same = (ap (λ (s : Trying). s.problem) e, ap (λ (s : Trying). s.learned) e, ap (λ (s : Trying). s.fixed) e, ap (λ (s : Trying). s.first) e);
    within = (λ v m. within v (subst (λ (s : Trying). Contains s.tried v) e m));
    valued = (λ v m. absurd (none v m));
    no_clash = ap (λ (s : Trying). clash (with_tried s s.tried)) e ∙ no_clash;
  }

  variables-push : (set : List ℕ) (x : ℕ) → variables (set ++ x ∷ []) ≡ variables set ++ variables (x ∷ [])
  variables-push set x = filter-append (λ number. nat_lt number start.problem.variables) set (x ∷ [])

  module _ (old new : Trying) (whole set : List ℕ) (x : ℕ) (inside : IsWithin (set ++ x ∷ []) whole) (before : IsTried start old whole set) where
    here : variables_in old.problem (x ∷ []) ≡ variables (x ∷ [])
    here = ap (λ (p : ClauseProblem). variables_in p (x ∷ [])) before.same.0

    -- what is tried, and one more of the set, are within it
    one-within : IsWithin (old.tried ++ variables_in old.problem (x ∷ [])) (variables whole)
    one-within v m =
        ⊎_elim
        (λ (o : Contains old.tried v). before.within v o)
        (λ (n : Contains (variables_in old.problem (x ∷ [])) v).
        let of = from_filter (λ number. nat_lt number start.problem.variables) (x ∷ []) v (subst (λ vs. Contains vs v) here n) in
        to_filter (λ number. nat_lt number start.problem.variables) whole v (inside v (Contains-append_right set (x ∷ []) v of.0)) of.1)
        (Contains-append_cases old.tried (variables_in old.problem (x ∷ [])) v m)

    pub tried-next : SameButTried old new → IsWithin new.tried (old.tried ++ variables_in old.problem (x ∷ [])) → IsWithin old.tried new.tried
        → ((v : ℕ) → Contains (variables_in old.problem (x ∷ [])) v → Contains (closure (with_tried new new.tried)) (literal_with old.first v))
        → clash (with_tried new new.tried) ≡ false → IsTried start new whole (set ++ x ∷ [])
    tried-next same within more valued no_clash = record {
      same = same-transitive start old new before.same same;
      within = (λ v m. one-within v (within v m));
      valued = (λ v m.
          ⊎_elim
          (λ (o : Contains (variables set) v).
          subst (λ (value : Bool). Contains (closure (with_tried new new.tried)) (literal_with value v)) (sym same.3)
          (subst (λ clauses. Contains (closure clauses) (literal_with old.first v)) (sym (with_tried-same old new same new.tried))
          (more-closed old old.tried new.tried more (literal_with old.first v) (before.valued v o))))
          (λ (n : Contains (variables (x ∷ [])) v).
          subst (λ (value : Bool). Contains (closure (with_tried new new.tried)) (literal_with value v)) (sym same.3) (valued v (subst (λ vs. Contains vs v) (sym here) n)))
          (Contains-append_cases (variables set) (variables (x ∷ [])) v (subst (λ vs. Contains vs v) (variables-push set x) m)));
      no_clash = no_clash;
    }

    -- where one more clashes, the whole set does
    pub tried-clash : clash (with_tried old (old.tried ++ variables_in old.problem (x ∷ []))) ≡ true → Clashes start whole
    tried-clash e =
        (clashes-same start old before.same whole).0
        (more-clash old (old.tried ++ variables_in old.problem (x ∷ [])) (variables_in old.problem whole)
        (λ v m. subst (λ (p : ClauseProblem). Contains (variables_in p whole) v) (sym before.same.0) (one-within v m))
        e)

  -- and where none does, the whole set doesn't
  pub tried-no_clash : (at : Trying) (set : List ℕ) → IsTried start at set set → Clashes start set → ⊥
  tried-no_clash at set is c =
      let clauses = with_tried at (variables set) in
      let clashing : clash clauses ≡ true = ap clash (with_tried-same start at is.same (variables set)) ∙ c in
      let refuted = refuted-from_clash clauses clashing in
      no_clash_refuted refuted.0 refuted.1 (λ l m. same-closed at at.tried (variables set) is.within is.valued (negation l) (refuted.2 l m))
    where
      no_clash_refuted : (clause : List Lit) → Contains (with_tried at (variables set)) clause → ((l : Lit) → Contains clause l → Contains (closure (with_tried at at.tried)) (negation l)) → ⊥
      no_clash_refuted clause m refuted =
          ⊎_elim
          (λ (old : Contains (at.problem.clauses ++ at.learned) clause).
          false≢true (sym is.no_clash ∙ clash-from_refuted (with_tried at at.tried) clause (Contains-append_left (at.problem.clauses ++ at.learned) (map unit_of (at.fixed ++ map (literal_with at.first) at.tried)) clause old) refuted))
          (λ (unit : Contains (map unit_of (at.fixed ++ map (literal_with at.first) (variables set))) clause).
          let of = from_map unit_of (at.fixed ++ map (literal_with at.first) (variables set)) clause unit in
          let negated = refuted of.0 (subst (λ c. Contains c of.0) of.2 (first of.0 [])) in
          one_sign (with_tried at at.tried) of.0 is.no_clash
          (⊎_elim
          (λ (stays : Contains at.fixed of.0).
          unit-closed (with_tried at at.tried) of.0
          (Contains-append_right (at.problem.clauses ++ at.learned) (map unit_of (at.fixed ++ map (literal_with at.first) at.tried)) (unit_of of.0)
          (to_map unit_of (at.fixed ++ map (literal_with at.first) at.tried) of.0 (Contains-append_left at.fixed (map (literal_with at.first) at.tried) of.0 stays))))
          (λ (new : Contains (map (literal_with at.first) (variables set)) of.0).
          let var = from_map (literal_with at.first) (variables set) of.0 new in
          subst (Contains (closure (with_tried at at.tried))) var.2 (is.valued var.0 var.1))
          (Contains-append_cases at.fixed (map (literal_with at.first) (variables set)) of.0 of.1))
          negated)
          (Contains-append_cases (at.problem.clauses ++ at.learned) (map unit_of (at.fixed ++ map (literal_with at.first) (variables set))) clause m)

-- ---- the loop over the set

-- where what is kept of it clashes, the set does
pub clash-start : (start : Trying) (kept set : List ℕ) → IsWithin kept (variables_in start.problem set) → clash (with_tried start kept) ≡ true → Clashes start set
clash-start start kept set within = more-clash start kept (variables_in start.problem set) within

-- and where the whole of it is kept, the set clashes only if that does
pub clash-whole : (start : Trying) (kept set : List ℕ) → set ≡ kept → clash (with_tried start kept) ≡ false → Clashes start set → ⊥
clash-whole start kept set e no_clash clashes =
    false≢true
    (sym no_clash
    ∙ more-clash start (variables_in start.problem set) kept
    (λ v m. subst (λ xs. Contains xs v) e (from_filter (λ number. nat_lt number start.problem.variables) set v m).0)
    clashes)

module _ (set : List ℕ) (i : ℕ) (inside : i < length set) where
  abbrev item : ℕ
  item = get_or set i 0

  pub first-within : IsWithin (take i set ++ item ∷ []) set
  first-within v m =
      subst (λ xs. Contains xs v) (take-append-drop (i + 1) set)
      (Contains-append_left (take (i + 1) set) (drop (i + 1) set) v (subst (λ xs. Contains xs v) (sym (take_more set i 0 inside)) m))

  pub tried-push-set : (start at : Trying) → IsTried start at set (take i set ++ item ∷ []) → IsTried start at set (take (i + 1) set)
  tried-push-set start at = subst (IsTried start at set) (sym (take_more set i 0 inside))

-- ---- what is kept of what was tried

-- a number more of the set
pub common-stays : (kept numbers : List ℕ) (i : ℕ) → i < length numbers → IsWithin kept (take i numbers) → IsWithin kept (take (i + 1) numbers)
common-stays kept numbers i inside within v m =
    subst (λ xs. Contains xs v) (sym (take_more numbers i 0 inside)) (Contains-append_left (take i numbers) (get_or numbers i 0 ∷ []) v (within v m))

-- and it is that of the next literal
pub common-next : (literals : List Lit) (d : Lit) (numbers : List ℕ) (kept i : ℕ) → kept < length literals → i < length numbers → (get_or literals kept d).var ≡ get_or numbers i 0
    → IsWithin (take kept (map (λ (l : Lit). l.var) literals)) (take i numbers) → IsWithin (take (kept + 1) (map (λ (l : Lit). l.var) literals)) (take (i + 1) numbers)
common-next literals d numbers kept i few inside same within v m =
    let vars : List ℕ = map (λ (l : Lit). l.var) literals in
    let size : length vars ≡ length literals = length-map literals (λ (l : Lit). l.var) in
    let item : get_or vars kept 0 ≡ get_or numbers i 0 = get_or-map (λ (l : Lit). l.var) literals kept d 0 few ∙ same in
    subst (λ xs. Contains xs v) (sym (take_more numbers i 0 inside))
    (⊎_elim
    (λ (old : Contains (take kept vars) v). Contains-append_left (take i numbers) (get_or numbers i 0 ∷ []) v (within v old))
    (λ (new : Contains (get_or vars kept 0 ∷ []) v). Contains-append_right (take i numbers) (get_or numbers i 0 ∷ []) v (subst (λ x. Contains (x ∷ []) v) item new))
    (Contains-append_cases (take kept vars) (get_or vars kept 0 ∷ []) v (subst (λ xs. Contains xs v) (take_more vars kept 0 (omega arith)) m)))

-- all of the numbers so far, and one more
pub common-all : (literals : List Lit) (d : Lit) (numbers : List ℕ) (kept i : ℕ) → kept < length literals → i < length numbers → (get_or literals kept d).var ≡ get_or numbers i 0
    → take i numbers ≡ take kept (map (λ (l : Lit). l.var) literals) → take (i + 1) numbers ≡ take (kept + 1) (map (λ (l : Lit). l.var) literals)
common-all literals d numbers kept i few inside same all =
    let vars : List ℕ = map (λ (l : Lit). l.var) literals in
    let size : length vars ≡ length literals = length-map literals (λ (l : Lit). l.var) in
    let item : get_or vars kept 0 ≡ get_or numbers i 0 = get_or-map (λ (l : Lit). l.var) literals kept d 0 few ∙ same in
    take_more numbers i 0 inside ∙ ap (λ xs. xs ++ get_or numbers i 0 ∷ []) all ∙ ap (λ x. take kept vars ++ x ∷ []) (sym item) ∙ sym (take_more vars kept 0 (omega arith))

keep-distinct : (n : ℕ) (xs : List ℕ) → IsDistinct xs → IsDistinct (take n xs)
keep-distinct zero xs d = tt
keep-distinct (suc n) [] d = tt
keep-distinct (suc n) (x ∷ xs) d = ((λ m. d.0 (in_take n xs x m)), keep-distinct n xs d.1)
  where
    in_take : (k : ℕ) (ys : List ℕ) (y : ℕ) → Contains (take k ys) y → Contains ys y
    in_take k ys y m = subst (λ zs. Contains zs y) (take-append-drop k ys) (Contains-append_left (take k ys) (drop k ys) y m)

module _ (problem : ClauseProblem) (first : Bool) (at : Propagation) (fixed count : ℕ) (is : IsTrial problem first at fixed) where
  abbrev shorter : Propagation
  shorter = record at { assumed = take (fixed + count) at.assumed }

  -- no more are tried than there are variables
  pub few-tried : fixed + length (tried_of at fixed) ≤ 1004096
  few-tried =
      let few = distinct-few problem.variables (tried_of at fixed) is.distinct is.below in
      let most = is.lawful.few_variables in
      let fixed_few = is.few in
      omega arith

  pub tried-shorter : tried_of shorter fixed ≡ take count (tried_of at fixed)
  tried-shorter = ap (map (λ (l : Lit). l.var)) (drop-take fixed count at.assumed) ∙ sym (take-map (λ (l : Lit). l.var) count (drop fixed at.assumed))

  pub fixed-shorter : take fixed (take (fixed + count) at.assumed) ≡ take fixed at.assumed
  fixed-shorter = take-take fixed (fixed + count) at.assumed (omega arith)

  pub trial-shorter : IsTrial problem first shorter fixed
  trial-shorter = record {
    same_problem = is.same_problem;
    lawful = is.lawful;
    within = (let size = length-take (fixed + count) at.assumed in let w = is.within in omega arith);
    few = is.few;
    valued = drop-take fixed count at.assumed ∙ ap (take count) is.valued ∙ take-map (literal_with first) count (tried_of at fixed) ∙ ap (map (literal_with first)) (sym tried-shorter);
    distinct = subst IsDistinct (sym tried-shorter) (keep-distinct count (tried_of at fixed) is.distinct);
    below = subst (All (λ x. x < problem.variables)) (sym tried-shorter) (All-take (λ x. x < problem.variables) count (tried_of at fixed) is.below);
  }

  pub shown-shorter : shown_by problem first shorter fixed ≡ record (shown_by problem first at fixed) { tried = take count (tried_of at fixed) }
  shown-shorter =
      ap (λ stays. record { problem = problem; learned = at.learned; fixed = stays; tried = tried_of shorter fixed; first = first }) fixed-shorter
      ∙ ap (λ (tried : List ℕ). record { problem = problem; learned = at.learned; fixed = take fixed at.assumed; tried = tried; first = first }) tried-shorter

  -- its clauses are those with what is kept
  pub kept-propagated : clash (propagated shorter) ≡ clash (with_tried (shown_by problem first at fixed) (take count (tried_of at fixed)))
  kept-propagated =
      ap clash (shown-propagated problem first shorter fixed trial-shorter)
      ∙ ap (λ stays. clash (all_of problem.clauses at.learned (stays ++ map (literal_with first) (tried_of shorter fixed)))) fixed-shorter
      ∙ ap (λ tried. clash (all_of problem.clauses at.learned (take fixed at.assumed ++ map (literal_with first) tried))) tried-shorter

  -- a part of them that is within a set is within the set's variables
  pub kept-within : (set : List ℕ) → IsWithin (take count (tried_of at fixed)) set → IsWithin (take count (tried_of at fixed)) (variables_in problem set)
  kept-within set within v m =
      to_filter (λ number. nat_lt number problem.variables) set v (within v m)
      (lt-ltb v problem.variables (All-contains (λ x. x < problem.variables) (take count (tried_of at fixed)) v (All-take (λ x. x < problem.variables) count (tried_of at fixed) is.below) m))
