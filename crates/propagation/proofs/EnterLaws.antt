-- How a learned clause leaves a propagator.
use Rattle.std.proofs.Common.{◌≡◌, ◌∙◌, refl, sym, ap, subst, ⊎_elim, ℕ, ◌-◌, ◌<◌, ◌≤◌, Bool, true, false, cond, eqb, List, [], ◌∷◌, ◌++◌, length, get_or, take, arith}
use Rattle.std.specs.Prelude.{All, Contains, ◌≢◌}
use Rattle.std.proofs.lemmas.Bool.{cases_eq, cases_Bool, false≢true, false_from_ne_true, eqb-true}
use Rattle.std.proofs.lemmas.List.{length-take, get_or-take}
use Rattle.clauses.specs.declared.literal.Lit.{Lit}
use Rattle.clauses.specs.Clause.{has, negation}
use Rattle.clauses.specs.Closure.{clash}
use Rattle.clauses.specs.Problem.{ClauseProblem, IsBelow}
use Rattle.clauses.proofs.Literals.{has-from}
use Rattle.propagation.specs.Propagation.{all_of}
use Rattle.propagation.specs.declared.state.State.{State}
use Rattle.propagation.specs.declared.state.State.TheVariants as state
use Rattle.propagation.specs.inside.Trails.{IsOneSigned, Trailing}
use Rattle.propagation.specs.inside.Levels.{AreParts, HasEntered, HasForced, IsClashing, IsStanding, IsTop}
use Rattle.propagation.specs.inside.Places.{IsUnit, start_at}
use Rattle.propagation.specs.inside.Watching.{IsRefuted, IsSubset, Watching}
use Rattle.propagation.proofs.PropagateLaws.{take-subset}
use Rattle.propagation.proofs.LearnLaws.{forced-based, forced-clashes, forced-standing, forced-top, refuted-lost, standing-learned, top-learned}

take-smaller : (j n : ℕ) (xs : List Lit) → j ≤ n → IsSubset (take j xs) (take n xs)
take-smaller j n xs le l m =
    let a = length-take j xs in
    let b = length-take n xs in
    let i = m.1 in
    let early : m.0 < j = omega arith in
    let less : m.0 < n = omega arith in
    (m.0, omega arith, get_or-take n xs m.0 l less ∙ sym (get_or-take j xs m.0 l early) ∙ m.2)

pub no-items : {X : Type 0} (xs : List X) → length xs ≡ 0 → xs ≡ []
no-items [] e = refl
no-items (x ∷ xs) e = absurd (omega arith)

start-is : (marks : List ℕ) → 0 < length marks → start_at marks (length marks) ≡ get_or marks (length marks - 1) 0
start-is marks some = ap (λ b. cond b 0 (get_or marks (length marks - 1) 0)) (false_from_ne_true (eqb (length marks) 0) (λ t. let e = eqb-true (length marks) 0 t in omega arith))

module _ (problem : ClauseProblem) (before : List (List Lit)) (clause : List Lit) (assumed : List Lit) (trail : Trailing) (own more : Watching) (marks : List ℕ) (base : ℕ) (is : IsStanding problem before assumed trail own more marks base) where
  -- the levels below don't make the watched literals false
  abbrev pub AreOpenBelow : Lit → Lit → Type 0
  AreOpenBelow one other = (k : ℕ) → k < length marks → (one ≢ other) × (¬ Contains (take (get_or marks k 0) trail.literals) (negation one)) × (¬ Contains (take (get_or marks k 0) trail.literals) (negation other))

  pub open-below : (one other : Lit) → one ≢ other → has trail.literals (negation one) ≡ false → has trail.literals (negation other) ≡ false → AreOpenBelow one other
  open-below one other ne a b k i = (
    ne,
    (λ m. false≢true (sym a ∙ has-from trail.literals (negation one) (take-subset (get_or marks k 0) trail.literals (negation one) m))),
    (λ m. false≢true (sym b ∙ has-from trail.literals (negation other) (take-subset (get_or marks k 0) trail.literals (negation other) m))),
  )

  pub late-below : (one other : Lit) → has trail.literals (negation one) ≡ false → Contains trail.literals (negation other) → has (take (start_at marks (length marks)) trail.literals) (negation other) ≡ false → AreOpenBelow one other
  late-below one other a there late k i =
      let below : get_or marks k 0 ≤ start_at marks (length marks) = subst (λ n. get_or marks k 0 ≤ n) (sym (start-is marks (omega arith))) (is.rising k (length marks - 1) (omega arith) (omega arith)) in (
        (λ e. false≢true (sym a ∙ has-from trail.literals (negation one) (subst (λ (l : Lit). Contains trail.literals (negation l)) (sym e) there))),
        (λ m. false≢true (sym a ∙ has-from trail.literals (negation one) (take-subset (get_or marks k 0) trail.literals (negation one) m))),
        (λ m.
            false≢true
            (sym late
            ∙ has-from (take (start_at marks (length marks)) trail.literals) (negation other) (take-smaller (get_or marks k 0) (start_at marks (length marks)) trail.literals below (negation other) m))),
      )

  pub none-below : (one other : Lit) → length marks ≡ 0 → AreOpenBelow one other
  none-below one other e k i = absurd (omega arith)

  module _ (top : IsTop problem before assumed trail own more marks) (below : All (IsBelow problem.variables) clause) (learned : List (List Lit)) (learned_is : learned ≡ before ++ clause ∷ []) where
    -- two are open
    pub enter-open : (one other : Lit) (more' : Watching) → more' ≡ record more { watched = more.watched ++ one ∷ other ∷ [] } → one ≢ other → Contains clause one → Contains clause other → has trail.literals (negation one) ≡ false → has trail.literals (negation other) ≡ false
        → IsStanding problem learned assumed trail own more' marks base × IsTop problem learned assumed trail own more' marks
    enter-open one other more' attached ne one_in other_in a b =
        subst (λ cs. IsStanding problem cs assumed trail own more' marks base × IsTop problem cs assumed trail own more' marks) (sym learned_is) (
          standing-learned problem before clause one other one_in other_in below more more' attached assumed trail own marks base is (open-below one other ne a b),
          top-learned problem before clause one other one_in other_in below more more' attached assumed trail own marks base is ne
              (λ m. false≢true (sym a ∙ has-from trail.literals (negation one) m))
              (λ m. false≢true (sym b ∙ has-from trail.literals (negation other) m))
              top,
        )

    -- all are false
    pub enter-refuted : length marks ≡ 0 → IsRefuted trail.literals clause → HasEntered problem learned assumed trail own more marks base state.Lost
    enter-refuted e refuted =
        let none = no-items marks e in (
          record {
            trail_of = is.parts.trail_of;
            own_of = is.parts.own_of;
            more_of = is.parts.more_of;
            own_inside = is.parts.own_inside;
            own_paired = is.parts.own_paired;
            one_signed = is.one_signed;
            base_within = is.base_within;
            base_level = is.base_level;
          },
          subst (λ cs. clash (all_of problem.clauses cs []) ≡ true) (sym learned_is)
              (refuted-lost problem before clause assumed trail own more (subst (λ ms. IsTop problem before assumed trail own more ms) none top) refuted),
          none,
        )

    -- one is forced
    module _ (one other : Lit) (unit : IsUnit trail.literals clause one) (other_in : Contains clause other) (now : Trailing) (own' after : Watching) (fits : Bool) (forced : HasForced problem learned trail now own own' more after one other fits)
        (parts : AreParts problem learned now own' after) (one_signed : IsOneSigned now.literals) (open_below : AreOpenBelow one other) where
      abbrev attached : Watching
      attached = record more { watched = more.watched ++ one ∷ other ∷ [] }

      abbrev with_clause : List (List Lit)
      with_clause = before ++ clause ∷ []

      forced' : HasForced problem with_clause trail now own own' more after one other fits
      forced' = subst (λ cs. HasForced problem cs trail now own own' more after one other fits) learned_is forced

      parts' : AreParts problem with_clause now own' after
      parts' = subst (λ cs. AreParts problem cs now own' after) learned_is parts

      stands : IsStanding problem with_clause assumed now own' after marks base
      stands = forced-standing problem before clause one other unit.inside other_in below more attached refl trail forced'.taken forced'.is_taken unit assumed own own' marks base is top now after fits forced'.done parts' one_signed open_below

      clashes : fits ≡ false → IsClashing problem with_clause assumed marks
      clashes f = forced-clashes problem before clause one other unit.inside other_in below more attached refl trail forced'.taken forced'.is_taken unit assumed own own' marks base is top now after fits forced'.done parts' one_signed f

      pub enter-forced : (result : State) → (fits ≡ true → result ≡ state.Rests) → (fits ≡ false → length marks ≡ 0 → result ≡ state.Lost) → (fits ≡ false → 0 < length marks → result ≡ state.Clashes) → HasEntered problem learned assumed now own' after marks base result
      enter-forced result rests lost clashing =
          subst (λ cs. HasEntered problem cs assumed now own' after marks base result) (sym learned_is)
          (⊎_elim
          (λ (t : fits ≡ true).
          subst (HasEntered problem with_clause assumed now own' after marks base) (sym (rests t))
          (stands, forced-top problem before clause one other unit.inside other_in below more attached refl trail forced'.taken forced'.is_taken unit assumed own own' marks base is top now after fits forced'.done parts' one_signed t))
          (λ (f : fits ≡ false).
          ⊎_elim
          (λ (z : length marks ≡ 0).
          subst (HasEntered problem with_clause assumed now own' after marks base) (sym (lost f z)) (
            forced-based problem before clause one other unit.inside other_in below more attached refl trail forced'.taken forced'.is_taken unit assumed own own' marks base is top now after fits forced'.done parts' one_signed,
            subst (λ n. clash (all_of problem.clauses with_clause (take n assumed)) ≡ true) z (clashes f),
            no-items marks z,
          ))
          (λ (nz : ¬ length marks ≡ 0).
          let some : 0 < length marks = omega arith in
          subst (HasEntered problem with_clause assumed now own' after marks base) (sym (clashing f some)) (stands, clashes f, some))
          (cases_eq (length marks) 0))
          (cases_Bool fits))
