-- A clause more: its watches at each level, and what it forces.
use Rattle.std.proofs.Common.{◌≡◌, ◌∙◌, refl, sym, ap, subst, inl, inr, ⊎_elim, ℕ, ◌<◌, ◌≤◌, Bool, true, false, List, [], ◌∷◌, ◌++◌, length, get_or, map, take, append_assoc, arith}
use Rattle.std.specs.Prelude.{All, Contains, ◌≢◌}
use Rattle.std.proofs.lemmas.Bool.{false≢true}
use Rattle.std.proofs.lemmas.List.{take-append-le, take_all, length-append, append-nil}
use Rattle.std.proofs.lemmas.List.Elements.{All-contains, All-push, Contains-append_left, Contains-append_right, Contains-push, Contains-push_cases}
use Rattle.clauses.specs.declared.literal.Lit.{Lit}
use Rattle.clauses.specs.Clause.{negation, unit_of}
use Rattle.clauses.specs.Closure.{clash, closure}
use Rattle.clauses.specs.Problem.{ClauseProblem, IsBelow}
use Rattle.clauses.proofs.LeastLaws.{closure-among, closure-closed}
use Rattle.clauses.proofs.Literals.{has-from}
use Rattle.clauses.proofs.TrimmedLaws.{clash-from_refuted}
use Rattle.propagation.specs.Propagation.{all_of}
use Rattle.propagation.specs.inside.Trails.{IsOneSigned, IsTakenIn, Trailing}
use Rattle.propagation.specs.inside.Values.{IsPart}
use Rattle.propagation.specs.inside.Levels.{AreParts, HasPropagated, IsBased, IsClashing, IsLevel, IsStanding, IsTop}
use Rattle.propagation.specs.inside.Places.{IsUnit}
use Rattle.propagation.specs.inside.Watching.{AreCovered, AreInside, AreKept, IsRefuted, IsSound, IsSubset, Watching}
use Rattle.propagation.proofs.GrowthLaws.{more_learned}
use Rattle.propagation.proofs.ValueLaws.{same_or_not}
use Rattle.propagation.proofs.WalkLaws.{growth-within}
use Rattle.propagation.proofs.CoverLaws.{covered-attach, covered-more, inside-attach, refuted-clashes}
use Rattle.propagation.proofs.PropagateLaws.{take-subset}
use Rattle.propagation.proofs.LevelLaws.{standing-grown}

module _ (problem : ClauseProblem) (before : List (List Lit)) (clause : List Lit) where
  abbrev learned : List (List Lit)
  learned = before ++ clause ∷ []

  pub learned-sound : (assumed set : List Lit) → IsSound (all_of problem.clauses before assumed) set → IsSound (all_of problem.clauses learned assumed) set
  learned-sound assumed set s l m =
      closure-among (all_of problem.clauses before assumed) (all_of problem.clauses learned assumed) (more_learned problem.clauses before assumed (clause ∷ [])) l (s l m)

  pub clause-there : (assumed : List Lit) → Contains (all_of problem.clauses learned assumed) clause
  clause-there assumed =
      Contains-append_left (problem.clauses ++ learned) (map unit_of assumed) clause
      (Contains-append_right problem.clauses learned clause (Contains-push before clause))

  -- ---- the parts
  module _ (one other : Lit) (one_in : Contains clause one) (other_in : Contains clause other) (below : All (IsBelow problem.variables) clause) (more more' : Watching) (attached : more' ≡ record more { watched = more.watched ++ one ∷ other ∷ [] }) where
    watched-is : more'.watched ≡ more.watched ++ one ∷ other ∷ []
    watched-is = ap (λ (w : Watching). w.watched) attached

    pub learned-parts : (trail now : Trailing) (own : Watching) → now.variables ≡ trail.variables → AreParts problem before trail own more → AreParts problem learned now own more'
    learned-parts trail now own same p = record {
      trail_of = same ∙ p.trail_of;
      own_of = p.own_of;
      more_of = ap (λ (w : Watching). w.variables) attached ∙ p.more_of;
      clauses_below = p.clauses_below;
      learned_below = All-push (All (IsBelow problem.variables)) before clause p.learned_below below;
      own_inside = p.own_inside;
      own_paired = p.own_paired;
      more_plain = ap (λ (w : Watching). w.pairs.others) attached ∙ p.more_plain;
      more_inside = subst (AreInside learned) (sym watched-is) (inside-attach before more.watched p.more_inside one other clause one_in other_in);
    }

    -- a set in which neither is false
    level-open : (own assumed set : List Lit) → AreInside before more.watched → one ≢ other → ¬ Contains set (negation one) → ¬ Contains set (negation other) → IsLevel problem.clauses before own more.watched assumed set → IsLevel problem.clauses learned own more'.watched assumed set
    level-open own assumed set inside apart a b l = record {
      sound = learned-sound assumed set l.sound;
      own_covered = l.own_covered;
      more_covered =
          subst (AreCovered set set) (sym watched-is)
          (covered-attach before more.watched inside one other set set l.more_covered
          (record { answered = (λ m. absurd (a m)); apart = inl apart })
          (record { answered = (λ m. absurd (b m)); apart = inl (λ s. apart (sym s)) }));
      taken = l.taken;
    }

    module _ (assumed : List Lit) (trail : Trailing) (own : Watching) (marks : List ℕ) (base : ℕ) (is : IsStanding problem before assumed trail own more marks base) where
      -- at no level below either is false
      pub standing-learned : ((k : ℕ) → k < length marks → (one ≢ other) × (¬ Contains (take (get_or marks k 0) trail.literals) (negation one)) × (¬ Contains (take (get_or marks k 0) trail.literals) (negation other))) → IsStanding problem learned assumed trail own more' marks base
      standing-learned f = record {
        parts = learned-parts trail trail own refl is.parts;
        one_signed = is.one_signed;
        few = is.few;
        level = λ k i. let open_so = f k i in level-open own.watched (take k assumed) (take (get_or marks k 0) trail.literals) is.parts.more_inside open_so.0 open_so.1 open_so.2 (is.level k i);
        rising = is.rising;
        within = is.within;
        above = is.above;
        base_within = is.base_within;
        base_level = is.base_level;
      }

      pub top-learned : one ≢ other → ¬ Contains trail.literals (negation one) → ¬ Contains trail.literals (negation other) → IsTop problem before assumed trail own more marks → IsTop problem learned assumed trail own more' marks
      top-learned apart a b t = level-open own.watched (take (length marks) assumed) trail.literals is.parts.more_inside apart a b t

    -- ---- the first is made true
    module _ (trail taken : Trailing) (is_taken : IsTakenIn trail one taken) (unit : IsUnit trail.literals clause one) where
      taken-grows : (more_literals : List Lit) × (taken.literals ≡ trail.literals ++ more_literals)
      taken-grows =
          ⊎_elim
          (λ (e : (taken ≡ trail) × Contains trail.literals one). ([], ap (λ (t : Trailing). t.literals) e.0 ∙ sym (append-nil trail.literals)))
          (λ (e : taken ≡ record trail { literals = trail.literals ++ one ∷ [] }). (one ∷ [], ap (λ (t : Trailing). t.literals) e))
          is_taken

      pub taken-variables : taken.variables ≡ trail.variables
      taken-variables =
          ⊎_elim
          (λ (e : (taken ≡ trail) × Contains trail.literals one). ap (λ (t : Trailing). t.variables) e.0)
          (λ (e : taken ≡ record trail { literals = trail.literals ++ one ∷ [] }). ap (λ (t : Trailing). t.variables) e)
          is_taken

      pub taken-longer : length trail.literals ≤ length taken.literals
      taken-longer = let e = ap length taken-grows.1 in let s = length-append trail.literals taken-grows.0 in omega arith

      pub taken-within : IsSubset trail.literals taken.literals
      taken-within l m = subst (λ ls. Contains ls l) (sym taken-grows.1) (Contains-append_left trail.literals taken-grows.0 l m)

      taken-there : Contains taken.literals one
      taken-there =
          ⊎_elim
          (λ (e : (taken ≡ trail) × Contains trail.literals one). subst (λ (t : Trailing). Contains t.literals one) (sym e.0) e.1)
          (λ (e : taken ≡ record trail { literals = trail.literals ++ one ∷ [] }). subst (λ (t : Trailing). Contains t.literals one) (sym e) (Contains-push trail.literals one))
          is_taken

      prefix-whole : take (length trail.literals) taken.literals ≡ trail.literals
      prefix-whole = ap (take (length trail.literals)) taken-grows.1 ∙ take-append-le (length trail.literals) trail.literals taken-grows.0 (omega arith) ∙ take_all (length trail.literals) trail.literals (omega arith)

      pub own-ready : (w : List Lit) → AreCovered trail.literals trail.literals w → AreCovered (take (length trail.literals) taken.literals) taken.literals w
      own-ready w c = subst (λ done. AreCovered done taken.literals w) (sym prefix-whole) (covered-more trail.literals trail.literals taken.literals w taken-within c)

      pub more-ready : AreInside before more.watched → AreCovered trail.literals trail.literals more.watched → AreCovered (take (length trail.literals) taken.literals) taken.literals more'.watched
      more-ready inside c =
          subst (λ done. AreCovered done taken.literals more'.watched) (sym prefix-whole)
          (subst (AreCovered trail.literals taken.literals) (sym watched-is)
          (covered-attach before more.watched inside one other trail.literals taken.literals (covered-more trail.literals trail.literals taken.literals more.watched taken-within c)
          (record { answered = (λ m. absurd (false≢true (sym unit.not_false ∙ has-from trail.literals (negation one) m))); apart = inr taken-there })
          (record {
            answered = (λ m. taken-there);
            apart = ⊎_elim (λ (e : other ≡ one). inr (subst (Contains taken.literals) (sym e) taken-there)) (λ (ne : other ≢ one). inl ne) (same_or_not other one);
          })))

      pub taken-sound : (assumed : List Lit) → IsSound (all_of problem.clauses before assumed) trail.literals → IsSound (all_of problem.clauses learned assumed) taken.literals
      taken-sound assumed s l m =
          ⊎_elim
          (λ (e : (taken ≡ trail) × Contains trail.literals one). learned-sound assumed trail.literals s l (subst (λ (t : Trailing). Contains t.literals l) e.0 m))
          (λ (e : taken ≡ record trail { literals = trail.literals ++ one ∷ [] }).
          ⊎_elim
          (λ (o : Contains trail.literals l). learned-sound assumed trail.literals s l o)
          (λ (n : one ≡ l).
          subst (Contains (closure (all_of problem.clauses learned assumed))) n
          (closure-closed (all_of problem.clauses learned assumed) clause one (clause-there assumed) one_in (λ x k ne. learned-sound assumed trail.literals s (negation x) (unit.others x k ne))))
          (Contains-push_cases trail.literals one l (subst (λ (t : Trailing). Contains t.literals l) e m)))
          is_taken

      -- and has been propagated
      module _ (assumed : List Lit) (own own' : Watching) (marks : List ℕ) (base : ℕ) (is : IsStanding problem before assumed trail own more marks base) (top : IsTop problem before assumed trail own more marks) (now : Trailing) (after : Watching) (fits : Bool)
          (done : HasPropagated (problem.clauses ++ learned) taken now own own' more' after fits) (parts : AreParts problem learned now own' after) (one_signed : IsOneSigned now.literals) where
        abbrev some : List Lit
        some = take (length marks) assumed

        part : IsPart (problem.clauses ++ learned) (all_of problem.clauses learned some)
        part c m = Contains-append_left (problem.clauses ++ learned) (map unit_of some) c m

        grown : now.literals ≡ trail.literals ++ (taken-grows.0 ++ done.growth.more)
        grown = done.growth.grows ∙ ap (λ ls. ls ++ done.growth.more) taken-grows.1 ∙ append_assoc trail.literals taken-grows.0 done.growth.more

        kept-from : (w w' : List Lit) → AreKept taken.literals w w' → AreKept trail.literals w w'
        kept-from w w' kept d s a b c = kept d s a (λ l m. taken-within l (b l m)) c

        pub forced-standing : ((k : ℕ) → k < length marks → (one ≢ other) × (¬ Contains (take (get_or marks k 0) trail.literals) (negation one)) × (¬ Contains (take (get_or marks k 0) trail.literals) (negation other))) → IsStanding problem learned assumed now own' after marks base
        forced-standing f =
            standing-grown problem learned assumed trail now own own' more' after marks base (standing-learned assumed trail own marks base is f)
            (taken-grows.0 ++ done.growth.more) grown parts one_signed (kept-from own.watched own'.watched done.own_kept) (kept-from more'.watched after.watched done.more_kept)

        pub forced-top : fits ≡ true → IsTop problem learned assumed now own' after marks
        forced-top t = record {
          sound = done.growth.sound (all_of problem.clauses learned some) part (taken-sound some top.sound);
          own_covered = done.own_covered t;
          more_covered = done.more_covered t;
          taken = (λ l m. growth-within (problem.clauses ++ learned) taken now done.growth l (taken-within l (top.taken l m)));
        }

        pub forced-clashes : fits ≡ false → IsClashing problem learned assumed marks
        forced-clashes f = refuted-clashes (all_of problem.clauses learned some) now.literals (done.growth.sound (all_of problem.clauses learned some) part (taken-sound some top.sound)) (problem.clauses ++ learned) part (done.refuted f)

        pub forced-based : IsBased problem now own' after base
        forced-based = record {
          trail_of = parts.trail_of;
          own_of = parts.own_of;
          more_of = parts.more_of;
          own_inside = parts.own_inside;
          own_paired = parts.own_paired;
          one_signed = one_signed;
          base_within = (let w = is.base_within in let e = ap length grown in let s = length-append trail.literals (taken-grows.0 ++ done.growth.more) in omega arith);
          base_level =
              subst (λ set. IsLevel problem.clauses [] own'.watched [] [] set) (sym (ap (take base) grown ∙ take-append-le base trail.literals (taken-grows.0 ++ done.growth.more) is.base_within))
              (record {
                sound = is.base_level.sound;
                own_covered = kept-from own.watched own'.watched done.own_kept (take base trail.literals) (take base trail.literals) (λ l m. m) (take-subset base trail.literals) is.base_level.own_covered;
                more_covered = is.base_level.more_covered;
                taken = is.base_level.taken;
              });
        }

  -- ---- all its literals are false
  pub refuted-lost : (assumed : List Lit) (trail : Trailing) (own more : Watching) → IsTop problem before assumed trail own more [] → IsRefuted trail.literals clause → clash (all_of problem.clauses learned []) ≡ true
  refuted-lost assumed trail own more top refuted =
      clash-from_refuted (all_of problem.clauses learned []) clause (clause-there []) (λ l m.
      learned-sound [] trail.literals top.sound (negation l) (All-contains (λ x. Contains trail.literals (negation x)) clause l refuted m))
