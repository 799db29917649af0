-- Levels that begin, grow and are cut.
use Rattle.std.proofs.Common.{◌≡◌, ◌∙◌, refl, sym, ap, subst, ⊎_elim, ℕ, ◌+◌, ◌<◌, ◌≤◌, Bool, true, false, List, [], ◌∷◌, ◌++◌, length, get_or, map, take, arith}
use Rattle.std.specs.Prelude.{Contains}
use Rattle.std.proofs.Math.ListN.{get_or-append}
use Rattle.std.proofs.lemmas.Bool.{cases_eq}
use Rattle.std.proofs.lemmas.List.{take-append-le, take_more, take_all, length-append, length_push, get_or_push, append-nil}
use Rattle.std.proofs.lemmas.List.Elements.{Contains-append_left, Contains-append_right, Contains-push, Contains-push_cases}
use Rattle.lists.proofs.Members.{to_map}
use Rattle.clauses.specs.declared.literal.Lit.{Lit}
use Rattle.clauses.specs.Clause.{has, negation, negative_of, unit_of}
use Rattle.clauses.specs.Closure.{clash, closure}
use Rattle.clauses.specs.Problem.{ClauseProblem}
use Rattle.clauses.proofs.LeastLaws.{closure-among, unit-closed}
use Rattle.clauses.proofs.Literals.{from_has}
use Rattle.propagation.specs.Propagation.{all_of}
use Rattle.propagation.specs.inside.Trails.{IsOneSigned, IsTakenIn, Trailing}
use Rattle.propagation.specs.inside.Values.{IsPart}
use Rattle.propagation.specs.inside.Levels.{AreParts, HasPropagated, IsLevel, IsStanding, IsTop, IsClashing, IsTopOrClashing}
use Rattle.propagation.specs.inside.Watching.{AreCovered, AreKept, IsSound, IsSubset, Watching}
use Rattle.propagation.proofs.GrowthLaws.{more_assumed}
use Rattle.propagation.proofs.ValueLaws.{both-clash}
use Rattle.propagation.proofs.WalkLaws.{growth-within}
use Rattle.propagation.proofs.CoverLaws.{covered-more, refuted-clashes}
use Rattle.propagation.proofs.PropagateLaws.{take-subset}

-- ---- what is in more is sound there

pub sound-among : (clauses learned : List (List Lit)) (assumed more set : List Lit) → IsSound (all_of clauses learned assumed) set → IsSound (all_of clauses learned (assumed ++ more)) set
sound-among clauses learned assumed more set s l m = closure-among (all_of clauses learned assumed) (all_of clauses learned (assumed ++ more)) (more_assumed clauses learned assumed more) l (s l m)

-- one assumed literal more
module _ (assumed : List Lit) (k : ℕ) (inside : k < length assumed) where
  abbrev pub next-one : Lit
  next-one = get_or assumed k (negative_of 0)

  pub taken-more : take (k + 1) assumed ≡ take k assumed ++ next-one ∷ []
  taken-more = take_more assumed k (negative_of 0) inside

-- ---- a trail that grows leaves its levels

module _ (problem : ClauseProblem) (learned : List (List Lit)) (assumed : List Lit) (trail now : Trailing) (own own' more more' : Watching) (marks : List ℕ) (base : ℕ) (is : IsStanding problem learned assumed trail own more marks base) where
  module _ (more_literals : List Lit) (grows : now.literals ≡ trail.literals ++ more_literals) where
    pub prefix-same : (n : ℕ) → n ≤ length trail.literals → take n now.literals ≡ take n trail.literals
    prefix-same n l = ap (take n) grows ∙ take-append-le n trail.literals more_literals l

    longer : length trail.literals ≤ length now.literals
    longer = let e = ap length grows in let s = length-append trail.literals more_literals in omega arith

    module _ (parts : AreParts problem learned now own' more') (one_signed : IsOneSigned now.literals) (own_kept : AreKept trail.literals own.watched own'.watched) (more_kept : AreKept trail.literals more.watched more'.watched) where
      level-kept : (clauses_learned : List (List Lit)) (w w' some set : List Lit) → IsSubset set trail.literals → AreKept trail.literals w w' → IsLevel problem.clauses clauses_learned own.watched w some set → IsLevel problem.clauses clauses_learned own'.watched w' some set
      level-kept cl w w' some set sub kept l = record {
        sound = l.sound;
        own_covered = own_kept set set (λ x m. m) sub l.own_covered;
        more_covered = kept set set (λ x m. m) sub l.more_covered;
        taken = l.taken;
      }

      pub standing-grown : IsStanding problem learned assumed now own' more' marks base
      standing-grown = record {
        parts = parts;
        one_signed = one_signed;
        few = is.few;
        level = λ k i.
            subst (λ set. IsLevel problem.clauses learned own'.watched more'.watched (take k assumed) set) (sym (prefix-same (get_or marks k 0) (is.within k i)))
            (level-kept learned more.watched more'.watched (take k assumed) (take (get_or marks k 0) trail.literals) (take-subset (get_or marks k 0) trail.literals) more_kept (is.level k i));
        rising = is.rising;
        within = λ k i. let w = is.within k i in let l = longer in omega arith;
        above = is.above;
        base_within = (let w = is.base_within in let l = longer in omega arith);
        base_level =
            subst (λ set. IsLevel problem.clauses [] own'.watched [] [] set) (sym (prefix-same base is.base_within))
            (level-kept [] [] [] [] (take base trail.literals) (take-subset base trail.literals) (λ d s a b c. c) is.base_level);
      }

-- ---- the top becomes a level
module _ (problem : ClauseProblem) (learned : List (List Lit)) (assumed : List Lit) (trail : Trailing) (own more : Watching) (marks : List ℕ) (base : ℕ) (is : IsStanding problem learned assumed trail own more marks base) (top : IsTop problem learned assumed trail own more marks) (next : length marks < length assumed) where
  abbrev marks' : List ℕ
  marks' = marks ++ length trail.literals ∷ []

  one_more : length marks' ≡ length marks + 1
  one_more = length_push marks (length trail.literals)

  by_mark : (P : ℕ → ℕ → Type 0) → P (length marks) (length trail.literals) → ((k : ℕ) → k < length marks → P k (get_or marks k 0)) → (k : ℕ) → k < length marks' → P k (get_or marks' k 0)
  by_mark P here rest k i =
      ⊎_elim
      (λ (e : k ≡ length marks). subst (λ j. P j (get_or marks' j 0)) (sym e) (subst (P (length marks)) (sym (get_or_push marks (length trail.literals) 0 (length marks) refl)) here))
      (λ (ne : ¬ k ≡ length marks).
      let old : k < length marks = let m = one_more in omega arith in
      subst (P k) (sym (get_or-append marks (length trail.literals ∷ []) 0 k old)) (rest k old))
      (cases_eq k (length marks))

  pub standing-marked : IsStanding problem learned assumed trail own more marks' base
  standing-marked = record {
    parts = is.parts;
    one_signed = is.one_signed;
    few = (let m = one_more in omega arith);
    level =
        by_mark (λ k n. IsLevel problem.clauses learned own.watched more.watched (take k assumed) (take n trail.literals))
        (subst (λ set. IsLevel problem.clauses learned own.watched more.watched (take (length marks) assumed) set) (sym (take_all (length trail.literals) trail.literals (omega arith))) top)
        is.level;
    rising = λ j k le i.
        by_mark (λ k n. (j : ℕ) → j ≤ k → get_or marks' j 0 ≤ n)
        (λ j l.
        ⊎_elim
        (λ (e : j ≡ length marks). let here = ap (λ x. get_or marks' x 0) e ∙ get_or_push marks (length trail.literals) 0 (length marks) refl in omega arith)
        (λ (ne : ¬ j ≡ length marks).
        let old : j < length marks = omega arith in
        let at = get_or-append marks (length trail.literals ∷ []) 0 j old in
        let w = is.within j old in
        omega arith)
        (cases_eq j (length marks)))
        (λ k old j l.
        let at = get_or-append marks (length trail.literals ∷ []) 0 j (omega arith) in
        let r = is.rising j k l old in
        omega arith)
        k i j le;
    within = by_mark (λ k n. n ≤ length trail.literals) (omega arith) is.within;
    above = by_mark (λ k n. base ≤ n) is.base_within is.above;
    base_within = is.base_within;
    base_level = is.base_level;
  }

  abbrev literal : Lit
  literal = get_or assumed (length marks) (negative_of 0)

  assumed-so-far : take (length marks') assumed ≡ take (length marks) assumed ++ literal ∷ []
  assumed-so-far = ap (λ n. take n assumed) one_more ∙ take_more assumed (length marks) (negative_of 0) next

  abbrev all : List (List Lit)
  all = all_of problem.clauses learned (take (length marks) assumed ++ literal ∷ [])

  literal-closed : Contains (closure all) literal
  literal-closed =
      unit-closed all literal
      (Contains-append_right (problem.clauses ++ learned) (map unit_of (take (length marks) assumed ++ literal ∷ [])) (unit_of literal)
      (to_map unit_of (take (length marks) assumed ++ literal ∷ []) literal (Contains-push (take (length marks) assumed) literal)))

  -- where it is false already
  pub false-clashes : has trail.literals (negation literal) ≡ true → IsClashing problem learned assumed marks'
  false-clashes f =
      subst (λ some. clash (all_of problem.clauses learned some) ≡ true) (sym assumed-so-far)
      (both-clash all literal literal-closed
      (sound-among problem.clauses learned (take (length marks) assumed) (literal ∷ []) trail.literals top.sound (negation literal) (from_has trail.literals (negation literal) f)))

  -- and where it is taken in
  module _ (taken : Trailing) (is_taken : IsTakenIn trail literal taken) where
    pub taken-grows : (more_literals : List Lit) × (taken.literals ≡ trail.literals ++ more_literals)
    taken-grows =
        ⊎_elim
        (λ (e : (taken ≡ trail) × Contains trail.literals literal). ([], ap (λ (t : Trailing). t.literals) e.0 ∙ sym (append-nil trail.literals)))
        (λ (e : taken ≡ record trail { literals = trail.literals ++ literal ∷ [] }). (literal ∷ [], ap (λ (t : Trailing). t.literals) e))
        is_taken

    pub taken-variables : taken.variables ≡ trail.variables
    taken-variables =
        ⊎_elim
        (λ (e : (taken ≡ trail) × Contains trail.literals literal). ap (λ (t : Trailing). t.variables) e.0)
        (λ (e : taken ≡ record trail { literals = trail.literals ++ literal ∷ [] }). ap (λ (t : Trailing). t.variables) e)
        is_taken

    pub taken-within : IsSubset trail.literals taken.literals
    taken-within l m = subst (λ ls. Contains ls l) (sym taken-grows.1) (Contains-append_left trail.literals taken-grows.0 l m)

    taken-there : Contains taken.literals literal
    taken-there =
        ⊎_elim
        (λ (e : (taken ≡ trail) × Contains trail.literals literal). subst (λ (t : Trailing). Contains t.literals literal) (sym e.0) e.1)
        (λ (e : taken ≡ record trail { literals = trail.literals ++ literal ∷ [] }). subst (λ (t : Trailing). Contains t.literals literal) (sym e) (Contains-push trail.literals literal))
        is_taken

    taken-sound : IsSound all taken.literals
    taken-sound =
        ⊎_elim
        (λ (e : (taken ≡ trail) × Contains trail.literals literal) (l : Lit) (m : Contains taken.literals l).
        sound-among problem.clauses learned (take (length marks) assumed) (literal ∷ []) trail.literals top.sound l (subst (λ (t : Trailing). Contains t.literals l) e.0 m))
        (λ (e : taken ≡ record trail { literals = trail.literals ++ literal ∷ [] }) (l : Lit) (m : Contains taken.literals l).
        ⊎_elim
        (λ (o : Contains trail.literals l). sound-among problem.clauses learned (take (length marks) assumed) (literal ∷ []) trail.literals top.sound l o)
        (λ (n : literal ≡ l). subst (Contains (closure all)) n literal-closed)
        (Contains-push_cases trail.literals literal l (subst (λ (t : Trailing). Contains t.literals l) e m)))
        is_taken

    pub covered-taken : (w : List Lit) → AreCovered trail.literals trail.literals w → AreCovered (take (length trail.literals) taken.literals) taken.literals w
    covered-taken w c =
        subst (λ done. AreCovered done taken.literals w) (sym (ap (take (length trail.literals)) taken-grows.1 ∙ take-append-le (length trail.literals) trail.literals taken-grows.0 (omega arith) ∙ take_all (length trail.literals) trail.literals (omega arith)))
        (covered-more trail.literals trail.literals taken.literals w taken-within c)

    -- what stands when it has been propagated
    module _ (now : Trailing) (own' more' : Watching) (fits : Bool) (done : HasPropagated (problem.clauses ++ learned) taken now own own' more more' fits) where
      part : IsPart (problem.clauses ++ learned) all
      part c m = Contains-append_left (problem.clauses ++ learned) (map unit_of (take (length marks) assumed ++ literal ∷ [])) c m

      pub next-top : fits ≡ true → IsTop problem learned assumed now own' more' marks'
      next-top t =
          subst (λ some. IsLevel problem.clauses learned own'.watched more'.watched some now.literals) (sym assumed-so-far)
          (record {
            sound = done.growth.sound all part taken-sound;
            own_covered = done.own_covered t;
            more_covered = done.more_covered t;
            taken = (λ l m.
                growth-within (problem.clauses ++ learned) taken now done.growth l
                (⊎_elim
                (λ (o : Contains (take (length marks) assumed) l). taken-within l (top.taken l o))
                (λ (n : literal ≡ l). subst (Contains taken.literals) n taken-there)
                (Contains-push_cases (take (length marks) assumed) literal l m)));
          })

      pub next-clashes : fits ≡ false → IsClashing problem learned assumed marks'
      next-clashes f =
          subst (λ some. clash (all_of problem.clauses learned some) ≡ true) (sym assumed-so-far)
          (refuted-clashes all now.literals (done.growth.sound all part taken-sound) (problem.clauses ++ learned) part (done.refuted f))

      pub next-either : IsTopOrClashing problem learned assumed now own' more' marks' fits
      next-either = by_fits fits refl
        where
          by_fits : (b : Bool) → fits ≡ b → IsTopOrClashing problem learned assumed now own' more' marks' b
          by_fits true e = next-top e
          by_fits false e = next-clashes e

      pub kept-from : (w w' : List Lit) → AreKept taken.literals w w' → AreKept trail.literals w w'
      kept-from w w' kept d s a b c = kept d s a (λ l m. taken-within l (b l m)) c
