-- Going back to a level.
use Rattle.std.proofs.Common.{◌≡◌, ◌∙◌, refl, sym, ap, subst, ⊎_elim, ℕ, ◌-◌, ◌<◌, ◌≤◌, true, cond, eqb, List, [], ◌∷◌, ◌++◌, length, get_or, take, arith}
use Rattle.std.specs.Prelude.{◌≢◌, Some, None}
use Rattle.std.proofs.lemmas.Bool.{cases_eq, eq-eqb, eqb-true, false_from_ne_true, lt-ltb, le-ltb}
use Rattle.std.proofs.lemmas.List.{length-take-le, get_or-take, take_all, take-take}
use Rattle.clauses.specs.declared.literal.Lit.{Lit}
use Rattle.clauses.specs.Closure.{clash}
use Rattle.clauses.specs.Problem.{ClauseProblem}
use Rattle.clauses.proofs.LeastLaws.{clash-among}
use Rattle.propagation.specs.Propagation.{all_of}
use Rattle.propagation.specs.declared.state.State.{State}
use Rattle.propagation.specs.declared.state.State.TheVariants as state
use Rattle.propagation.specs.inside.Trails.{Trailing}
use Rattle.propagation.specs.inside.Levels.{HasEntered, HasState, IsBased, IsHighest, IsLevel, IsStanding, IsTop}
use Rattle.propagation.specs.declared.placing.Place.{Place}
use Rattle.propagation.specs.inside.Places.{HasPlace, end_at, start_at}
use Rattle.propagation.specs.inside.Watching.{Watching}
use Rattle.propagation.proofs.GrowthLaws.{more_learned}
use Rattle.propagation.proofs.CoverLaws.{one_signed-within}
use Rattle.propagation.proofs.PropagateLaws.{take-subset}

end-below : (marks : List ℕ) (n k : ℕ) → k < length marks → end_at marks n k ≡ get_or marks k 0
end-below marks n k i = ap (λ b. cond b (get_or marks k 0) n) (lt-ltb k (length marks) i)

end-top : (marks : List ℕ) (n k : ℕ) → k ≡ length marks → end_at marks n k ≡ n
end-top marks n k e = ap (λ b. cond b (get_or marks k 0) n) (le-ltb k (length marks) (omega arith))

shorter : {X : Type 0} (j n : ℕ) (xs : List X) → j ≤ n → take j (take n xs) ≡ take j xs
shorter j n xs le = take-take j n xs le

-- other assumed literals that begin alike
pub standing-alike : (problem : ClauseProblem) (learned : List (List Lit)) (assumed other : List Lit) (trail : Trailing) (own more : Watching) (marks : List ℕ) (base : ℕ) → length marks ≤ length other → ((k : ℕ) → k ≤ length marks → take k other ≡ take k assumed)
    → IsStanding problem learned assumed trail own more marks base → IsStanding problem learned other trail own more marks base
standing-alike problem learned assumed other trail own more marks base few same is = record {
  parts = is.parts;
  one_signed = is.one_signed;
  few = few;
  level = λ k i. subst (λ some. IsLevel problem.clauses learned own.watched more.watched some (take (get_or marks k 0) trail.literals)) (sym (same k (omega arith))) (is.level k i);
  rising = is.rising;
  within = is.within;
  above = is.above;
  base_within = is.base_within;
  base_level = is.base_level;
}

module _ (problem : ClauseProblem) (learned : List (List Lit)) (assumed : List Lit) (trail : Trailing) (own more : Watching) (marks : List ℕ) (base : ℕ) (is : IsStanding problem learned assumed trail own more marks base) where
  pub standing-based : IsBased problem trail own more base
  standing-based = record {
    trail_of = is.parts.trail_of;
    own_of = is.parts.own_of;
    more_of = is.parts.more_of;
    own_inside = is.parts.own_inside;
    own_paired = is.parts.own_paired;
    one_signed = is.one_signed;
    base_within = is.base_within;
    base_level = is.base_level;
  }

  module _ (k : ℕ) (inside : k < length marks) where
    abbrev end : ℕ
    end = get_or marks k 0

    abbrev back : Trailing
    back = record trail { literals = take end trail.literals }

    size : length (take k marks) ≡ k
    size = length-take-le k marks (omega arith)

    at : (j : ℕ) → j < k → get_or (take k marks) j 0 ≡ get_or marks j 0
    at j l = get_or-take k marks j 0 l

    low : (j : ℕ) → j < k → get_or marks j 0 ≤ end
    low j l = is.rising j k (omega arith) inside

    prefix : (j : ℕ) → j < k → take (get_or (take k marks) j 0) back.literals ≡ take (get_or marks j 0) trail.literals
    prefix j l = ap (λ n. take n back.literals) (at j l) ∙ shorter (get_or marks j 0) end trail.literals (low j l)

    cut-standing : IsStanding problem learned assumed back own more (take k marks) base
    cut-standing = record {
      parts = record {
        trail_of = is.parts.trail_of;
        own_of = is.parts.own_of;
        more_of = is.parts.more_of;
        clauses_below = is.parts.clauses_below;
        learned_below = is.parts.learned_below;
        own_inside = is.parts.own_inside;
        more_inside = is.parts.more_inside;
        own_paired = is.parts.own_paired;
        more_plain = is.parts.more_plain;
      };
      one_signed = one_signed-within (take end trail.literals) trail.literals (take-subset end trail.literals) is.one_signed;
      few = (let s = size in let f = is.few in omega arith);
      level = λ j i.
          let l : j < k = let s = size in omega arith in
          subst (λ set. IsLevel problem.clauses learned own.watched more.watched (take j assumed) set) (sym (prefix j l)) (is.level j (omega arith));
      rising = λ i j le l.
          let s = size in
          let b : j < k = omega arith in
          let x = at i (omega arith) in
          let y = at j b in
          let r = is.rising i j le (omega arith) in
          omega arith;
      within = λ j l.
          let s = size in
          let b : j < k = omega arith in
          let x = at j b in
          let y = low j b in
          let z = length-take-le end trail.literals (is.within k inside) in
          omega arith;
      above = λ j l. let s = size in let b : j < k = omega arith in let x = at j b in let y = is.above j (omega arith) in omega arith;
      base_within = (let z = length-take-le end trail.literals (is.within k inside) in let y = is.above k inside in omega arith);
      base_level = subst (λ set. IsLevel problem.clauses [] own.watched [] [] set) (sym (shorter base end trail.literals (is.above k inside))) is.base_level;
    }

    cut-top : IsTop problem learned assumed back own more (take k marks)
    cut-top = subst (λ n. IsLevel problem.clauses learned own.watched more.watched (take n assumed) back.literals) (sym size) (is.level k inside)

    pub cut-below : IsStanding problem learned assumed back own more (take k marks) base × IsTop problem learned assumed back own more (take k marks)
    cut-below = (cut-standing, cut-top)

  -- the end of a level, up to the top
  pub cut-at : (k : ℕ) → k ≤ length marks → (k ≡ length marks → IsTop problem learned assumed trail own more marks) → (now : Trailing) → now ≡ record trail { literals = take (end_at marks (length trail.literals) k) trail.literals }
      → IsStanding problem learned assumed now own more (take k marks) base × IsTop problem learned assumed now own more (take k marks)
  cut-at k le top now e =
      ⊎_elim
      (λ (t : k ≡ length marks).
      let same : now ≡ trail = e ∙ ap (λ n. record trail { literals = take n trail.literals }) (end-top marks (length trail.literals) k t) ∙ ap (λ ls. record trail { literals = ls }) (take_all (length trail.literals) trail.literals (omega arith)) in
      let all : take k marks ≡ marks = take_all k marks (omega arith) in
      subst (λ (x : Trailing). IsStanding problem learned assumed x own more (take k marks) base × IsTop problem learned assumed x own more (take k marks)) (sym same)
      (subst (λ ms. IsStanding problem learned assumed trail own more ms base × IsTop problem learned assumed trail own more ms) (sym all) (is, top t)))
      (λ (ne : ¬ k ≡ length marks).
      let inside : k < length marks = omega arith in
      subst (λ (x : Trailing). IsStanding problem learned assumed x own more (take k marks) base × IsTop problem learned assumed x own more (take k marks))
      (sym (e ∙ ap (λ n. record trail { literals = take n trail.literals }) (end-below marks (length trail.literals) k inside))) (cut-below k inside))
      (cases_eq k (length marks))

  -- a clause's place before and after
  start-same : (k : ℕ) → k ≤ length marks → start_at (take k marks) (length (take k marks)) ≡ start_at marks k
  start-same k le =
      let size : length (take k marks) ≡ k = length-take-le k marks le in
      ap (start_at (take k marks)) size
      ∙ ⊎_elim
      (λ (z : k ≡ 0). start-zero (take k marks) k z ∙ sym (start-zero marks k z))
      (λ (nz : ¬ k ≡ 0). start-some (take k marks) k nz ∙ get_or-take k marks (k - 1) 0 (omega arith) ∙ sym (start-some marks k nz))
      (cases_eq k 0)
    where
      start-zero : (ms : List ℕ) (k : ℕ) → k ≡ 0 → start_at ms k ≡ 0
      start-zero ms k z = ap (λ b. cond b 0 (get_or ms (k - 1) 0)) (eq-eqb k 0 z)

      start-some : (ms : List ℕ) (k : ℕ) → (¬ k ≡ 0) → start_at ms k ≡ get_or ms (k - 1) 0
      start-some ms k nz = ap (λ b. cond b 0 (get_or ms (k - 1) 0)) (false_from_ne_true (eqb k 0) (λ t. nz (eqb-true k 0 t)))

  start-before : (k : ℕ) → k ≤ length marks → start_at marks k ≤ end_at marks (length trail.literals) k
  start-before k le =
      ⊎_elim
      (λ (z : k ≡ 0). let s : start_at marks k ≡ 0 = ap (λ b. cond b 0 (get_or marks (k - 1) 0)) (eq-eqb k 0 z) in omega arith)
      (λ (nz : ¬ k ≡ 0).
      let s : start_at marks k ≡ get_or marks (k - 1) 0 = ap (λ b. cond b 0 (get_or marks (k - 1) 0)) (false_from_ne_true (eqb k 0) (λ t. nz (eqb-true k 0 t))) in
      ⊎_elim
      (λ (t : k ≡ length marks). let e = end-top marks (length trail.literals) k t in let w = is.within (k - 1) (omega arith) in omega arith)
      (λ (nt : ¬ k ≡ length marks). let e = end-below marks (length trail.literals) k (omega arith) in let r = is.rising (k - 1) k (omega arith) (omega arith) in omega arith)
      (cases_eq k (length marks)))
      (cases_eq k 0)

  pub place-cut : (k : ℕ) → k ≤ length marks → (clause : List Lit) (place : Place) → HasPlace (take (end_at marks (length trail.literals) k) trail.literals) (take (start_at marks k) trail.literals) clause place
      → HasPlace (take (end_at marks (length trail.literals) k) trail.literals) (take (start_at (take k marks) (length (take k marks))) (take (end_at marks (length trail.literals) k) trail.literals)) clause place
  place-cut k le clause place =
      subst (λ before. HasPlace (take (end_at marks (length trail.literals) k) trail.literals) before clause place)
      (sym (ap (λ n. take n (take (end_at marks (length trail.literals) k) trail.literals)) (start-same k le) ∙ shorter (start_at marks k) (end_at marks (length trail.literals) k) trail.literals (start-before k le)))

-- ---- more that is learned where all is lost already

pub lost-learned : (problem : ClauseProblem) (before learned : List (List Lit)) (clause : List Lit) → learned ≡ before ++ clause ∷ [] → (assumed : List Lit) (trail : Trailing) (own more : Watching) (marks : List ℕ) (base : ℕ) (s : State) → IsHighest s marks None
    → HasState problem before assumed trail own more marks base s → HasState problem learned assumed trail own more marks base s
lost-learned problem before learned clause e assumed trail own more marks base state.Rests h is = absurd (cc)
lost-learned problem before learned clause e assumed trail own more marks base state.Clashes h is = absurd (cc)
lost-learned problem before learned clause e assumed trail own more marks base state.Lost h is = (
  is.0,
  subst (λ cs. clash (all_of problem.clauses cs []) ≡ true) (sym e) (clash-among (all_of problem.clauses before []) (all_of problem.clauses (before ++ clause ∷ []) []) (more_learned problem.clauses before [] (clause ∷ [])) is.1),
  is.2,
)
lost-learned problem before learned clause e assumed trail own more marks base state.Dead h is = is

-- the level from which on a clause may be watched
pub highest-stands : (problem : ClauseProblem) (before : List (List Lit)) (assumed : List Lit) (trail : Trailing) (own more : Watching) (marks : List ℕ) (base : ℕ) (s : State) (most : ℕ) → IsHighest s marks (Some most) → HasState problem before assumed trail own more marks base s
    → IsStanding problem before assumed trail own more marks base × (most ≤ length marks) × (most ≡ length marks → IsTop problem before assumed trail own more marks)
highest-stands problem before assumed trail own more marks base state.Rests most h is = let e : most ≡ length marks = cc in (is.0, omega arith, (λ _. is.1))
highest-stands problem before assumed trail own more marks base state.Clashes most h is = let e : most ≡ length marks - 1 = cc in let some = is.2 in (is.0, omega arith, (λ t. absurd (omega arith)))
highest-stands problem before assumed trail own more marks base state.Lost most h is = absurd (cc)
highest-stands problem before assumed trail own more marks base state.Dead most h is = absurd (cc)

-- what has entered and doesn't rest
pub entered-state : (problem : ClauseProblem) (learned : List (List Lit)) (assumed : List Lit) (trail : Trailing) (own more : Watching) (marks : List ℕ) (base : ℕ) (s : State) → s ≢ state.Rests → HasEntered problem learned assumed trail own more marks base s → HasState problem learned assumed trail own more marks base s
entered-state problem learned assumed trail own more marks base state.Rests ne is = absurd (ne refl)
entered-state problem learned assumed trail own more marks base state.Clashes ne is = is
entered-state problem learned assumed trail own more marks base state.Lost ne is = is
entered-state problem learned assumed trail own more marks base state.Dead ne is = absurd is
