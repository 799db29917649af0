-- Watches of a problem's clauses while they are made.
use Rattle.std.proofs.Common.{◌≡◌, ◌∙◌, ◌⊎◌, refl, sym, ap, subst, inl, inr, ⊎_elim, Bool, true, false, List, [], ◌∷◌, ◌++◌, length, arith}
use Rattle.std.specs.Prelude.{Contains, ◌≢◌}
use Rattle.std.proofs.lemmas.List.{append-nil, take_all}
use Rattle.std.proofs.lemmas.List.Elements.{All-contains, Contains-append_left, Contains-push, Contains-push_cases}
use Rattle.lists.proofs.Members.{none}
use Rattle.clauses.specs.declared.literal.Lit.{Lit}
use Rattle.clauses.specs.Clause.{negation}
use Rattle.clauses.specs.Closure.{clash, closure}
use Rattle.clauses.specs.Problem.{ClauseProblem}
use Rattle.clauses.proofs.LeastLaws.{closure-closed}
use Rattle.clauses.proofs.TrimmedLaws.{clash-from_refuted}
use Rattle.propagation.specs.Propagation.{all_of}
use Rattle.propagation.specs.declared.state.State.TheVariants as state
use Rattle.propagation.specs.inside.Trails.{IsOneSigned, IsTakenIn, Trailing}
use Rattle.propagation.specs.inside.Pairing.{Pairing}
use Rattle.propagation.specs.inside.Building.{AreWatched, HasPair}
use Rattle.propagation.specs.inside.Levels.{AreParts, HasPropagated, HasState, IsLevel}
use Rattle.propagation.specs.inside.Places.{IsUnit}
use Rattle.propagation.specs.inside.Watching.{AreCovered, AreInside, IsRefuted, IsSound, IsSubset, Watching}
use Rattle.propagation.proofs.ValueLaws.{All-members, same_or_not}
use Rattle.propagation.proofs.CoverLaws.{covered-attach, covered-more, inside-attach, refuted-clashes}

-- a clause of one literal
pub only-one : (clause : List Lit) (one : Lit) → IsUnit [] clause one → (l : Lit) → Contains clause l → l ≡ one
only-one clause one unit l m = ⊎_elim (λ (e : l ≡ one). e) (λ (ne : l ≢ one). absurd (none (negation l) (unit.others l m ne))) (same_or_not l one)

pub only-refuted : (set clause : List Lit) (one : Lit) → IsUnit [] clause one → Contains set (negation one) → IsRefuted set clause
only-refuted set clause one unit f = All-members (λ l. Contains set (negation l)) clause (λ l m. subst (λ (x : Lit). Contains set (negation x)) (sym (only-one clause one unit l m)) f)

pub refuted-more : (set clause : List Lit) → IsRefuted [] clause → IsRefuted set clause
refuted-more set clause r = All-members (λ l. Contains set (negation l)) clause (λ l m. absurd (none (negation l) (All-contains (λ x. Contains [] (negation x)) clause l r m)))

pub watched-none : (problem : ClauseProblem) (own : Watching) (trail : Trailing) → own.variables ≡ problem.variables → trail.variables ≡ problem.variables → own.watched ≡ [] → own.pairs.others ≡ [] → trail.literals ≡ [] → AreWatched problem [] own trail
watched-none problem own trail a b c plain d = record {
  plain = plain;
  own_of = a;
  trail_of = b;
  inside = (ap length c, (λ e i. let size = ap length c in absurd (omega arith)));
  covered = (λ e i. let size = ap length c in absurd (omega arith));
  sound = (λ l m. absurd (none l (subst (λ ls. Contains ls l) d m)));
}

module _ (problem : ClauseProblem) (front : List (List Lit)) (own : Watching) (trail : Trailing) (are : AreWatched problem front own trail) (clause : List Lit) (there : Contains problem.clauses clause) where
  pub watched-refuted : IsRefuted trail.literals clause → clash problem.clauses ≡ true
  watched-refuted r = clash-from_refuted problem.clauses clause there (λ l m. are.sound (negation l) (All-contains (λ x. Contains trail.literals (negation x)) clause l r m))

  pub watched-next : (next : Watching) (now : Trailing) → HasPair clause own next trail now → AreWatched problem (front ++ clause ∷ []) next now
  watched-next next now pair = record {
    own_of = pair.variables ∙ are.own_of;
    plain = ap (λ (p : Pairing). p.others) pair.pairs ∙ are.plain;
    trail_of = variables ∙ are.trail_of;
    inside = subst (AreInside (front ++ clause ∷ [])) (sym pair.attached) (inside-attach front own.watched are.inside pair.one pair.other clause pair.one_in pair.other_in);
    covered =
        subst (AreCovered [] now.literals) (sym pair.attached)
        (covered-attach front own.watched are.inside pair.one pair.other [] now.literals (covered-more [] trail.literals now.literals own.watched up are.covered)
        (record { answered = (λ m. absurd (none (negation pair.one) m)); apart = apart })
        (record { answered = (λ m. absurd (none (negation pair.other) m)); apart = apart_too }));
    sound = sound;
  }
    where
      variables : now.variables ≡ trail.variables
      variables =
          ⊎_elim
          (λ (e : (pair.one ≢ pair.other) × (now ≡ trail)). ap (λ (t : Trailing). t.variables) e.1)
          (λ (e : ((l : Lit) → Contains clause l → l ≡ pair.one) × IsTakenIn trail pair.one now).
          ⊎_elim
          (λ (s : (now ≡ trail) × Contains trail.literals pair.one). ap (λ (t : Trailing). t.variables) s.0)
          (λ (s : now ≡ record trail { literals = trail.literals ++ pair.one ∷ [] }). ap (λ (t : Trailing). t.variables) s)
          e.1)
          pair.either

      up : IsSubset trail.literals now.literals
      up l m =
          ⊎_elim
          (λ (e : (pair.one ≢ pair.other) × (now ≡ trail)). subst (λ (t : Trailing). Contains t.literals l) (sym e.1) m)
          (λ (e : ((x : Lit) → Contains clause x → x ≡ pair.one) × IsTakenIn trail pair.one now).
          ⊎_elim
          (λ (s : (now ≡ trail) × Contains trail.literals pair.one). subst (λ (t : Trailing). Contains t.literals l) (sym s.0) m)
          (λ (s : now ≡ record trail { literals = trail.literals ++ pair.one ∷ [] }). subst (λ (t : Trailing). Contains t.literals l) (sym s) (Contains-append_left trail.literals (pair.one ∷ []) l m))
          e.1)
          pair.either

      one_there : IsTakenIn trail pair.one now → Contains now.literals pair.one
      one_there taken =
          ⊎_elim
          (λ (s : (now ≡ trail) × Contains trail.literals pair.one). subst (λ (t : Trailing). Contains t.literals pair.one) (sym s.0) s.1)
          (λ (s : now ≡ record trail { literals = trail.literals ++ pair.one ∷ [] }). subst (λ (t : Trailing). Contains t.literals pair.one) (sym s) (Contains-push trail.literals pair.one))
          taken

      apart : (pair.one ≢ pair.other) ⊎ Contains now.literals pair.one
      apart =
          ⊎_elim
          (λ (e : (pair.one ≢ pair.other) × (now ≡ trail)). inl e.0)
          (λ (e : ((x : Lit) → Contains clause x → x ≡ pair.one) × IsTakenIn trail pair.one now). inr (one_there e.1))
          pair.either

      apart_too : (pair.other ≢ pair.one) ⊎ Contains now.literals pair.other
      apart_too =
          ⊎_elim
          (λ (e : (pair.one ≢ pair.other) × (now ≡ trail)). inl (λ s. e.0 (sym s)))
          (λ (e : ((x : Lit) → Contains clause x → x ≡ pair.one) × IsTakenIn trail pair.one now). inr (subst (Contains now.literals) (sym (e.0 pair.other pair.other_in)) (one_there e.1)))
          pair.either

      sound : IsSound problem.clauses now.literals
      sound l m =
          ⊎_elim
          (λ (e : (pair.one ≢ pair.other) × (now ≡ trail)). are.sound l (subst (λ (t : Trailing). Contains t.literals l) e.1 m))
          (λ (e : ((x : Lit) → Contains clause x → x ≡ pair.one) × IsTakenIn trail pair.one now).
          ⊎_elim
          (λ (s : (now ≡ trail) × Contains trail.literals pair.one). are.sound l (subst (λ (t : Trailing). Contains t.literals l) s.0 m))
          (λ (s : now ≡ record trail { literals = trail.literals ++ pair.one ∷ [] }).
          ⊎_elim
          (λ (o : Contains trail.literals l). are.sound l o)
          (λ (n : pair.one ≡ l). subst (Contains (closure problem.clauses)) n (closure-closed problem.clauses clause pair.one there pair.one_in (λ x k ne. absurd (ne (e.0 x k)))))
          (Contains-push_cases trail.literals pair.one l (subst (λ (t : Trailing). Contains t.literals l) s m)))
          e.1)
          pair.either

-- ---- the beginning

bare : (clauses : List (List Lit)) → all_of clauses [] [] ≡ clauses
bare clauses = append-nil (clauses ++ []) ∙ append-nil clauses

pub dead-from : (clauses : List (List Lit)) → clash clauses ≡ true → clash (all_of clauses [] []) ≡ true
dead-from clauses c = ap clash (bare clauses) ∙ c

module _ (problem : ClauseProblem) (own own' more more' : Watching) (trail now : Trailing) (fits : Bool) (sounds : IsSound problem.clauses trail.literals) (more_empty : more'.watched ≡ []) (done : HasPropagated (problem.clauses ++ []) trail now own own' more more' fits) where
  sound : IsSound (all_of problem.clauses [] []) now.literals
  sound =
      done.growth.sound (all_of problem.clauses [] []) (λ c m. Contains-append_left (problem.clauses ++ []) [] c m)
      (λ l m. subst (λ cs. Contains (closure cs) l) (sym (bare problem.clauses)) (sounds l m))

  pub begun-dead : fits ≡ false → clash (all_of problem.clauses [] []) ≡ true
  begun-dead f = refuted-clashes (all_of problem.clauses [] []) now.literals sound (problem.clauses ++ []) (λ c m. Contains-append_left (problem.clauses ++ []) [] c m) (done.refuted f)

  pub begun-rests : fits ≡ true → AreParts problem [] now own' more' → IsOneSigned now.literals → HasState problem [] [] now own' more' [] (length now.literals) state.Rests
  begun-rests t parts one_signed =
      let base : IsLevel problem.clauses [] own'.watched [] [] now.literals =
      record {
        sound = sound;
        own_covered = done.own_covered t;
        more_covered = (λ e i. absurd (omega arith));
        taken = (λ l m. absurd (none l m));
      } in (
        record {
          parts = parts;
          one_signed = one_signed;
          few = omega arith;
          level = (λ k i. absurd (omega arith));
          rising = (λ j k le i. absurd (omega arith));
          within = (λ k i. absurd (omega arith));
          above = (λ k i. absurd (omega arith));
          base_within = omega arith;
          base_level = subst (λ set. IsLevel problem.clauses [] own'.watched [] [] set) (sym (take_all (length now.literals) now.literals (omega arith))) base;
        },
        subst (λ w. IsLevel problem.clauses [] own'.watched w [] now.literals) (sym more_empty) base,
        refl,
      )
