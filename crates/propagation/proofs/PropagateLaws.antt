-- What stands while forced literals are brought in.
use Rattle.std.proofs.Common.{◌≡◌, ◌∙◌, sym, ap, subst, ℕ, ◌+◌, ◌<◌, Bool, true, false, List, [], ◌∷◌, ◌++◌, length, get_or, take, drop, arith}
use Rattle.std.specs.Prelude.{Any, Contains, slice_get, Some}
use Rattle.std.proofs.lemmas.List.{take-append-le, take_more, take-append-drop}
use Rattle.std.proofs.lemmas.List.Elements.{Contains-append_left, Contains-append_right}
use Rattle.std.proofs.lemmas.Option.{get_or_from_slice_get, slice_get_within}
use Rattle.clauses.specs.declared.literal.Lit.{Lit}
use Rattle.clauses.specs.Clause.{negation, negative_of}
use Rattle.clauses.specs.Problem.{ClauseProblem}
use Rattle.clauses.proofs.Literals.{negation-negation}
use Rattle.propagation.specs.inside.Trails.{Trailing}
use Rattle.propagation.specs.inside.Values.{IsPart}
use Rattle.propagation.specs.inside.Pairing.{ArePaired, Pairing}
use Rattle.propagation.specs.inside.Levels.{AreParts, HasPropagated}
use Rattle.propagation.specs.inside.Watching.{AreCovered, AreInside, AreKept, IsGrowth, IsRefuted, IsSubset, Watching, partner, watched_at}
use Rattle.propagation.proofs.ValueLaws.{Any-member, member-Any}
use Rattle.propagation.proofs.WalkLaws.{growth-none, growth-then, growth-within}
use Rattle.propagation.proofs.CoverLaws.{covered-more, covered-seen, kept-then}

pub growth-part : (a b : List (List Lit)) → IsPart a b → (old new : Trailing) → IsGrowth a old new → IsGrowth b old new
growth-part a b part old new g = record { same = g.same; more = g.more; grows = g.grows; sound = λ all within s. g.sound all (λ c m. within c (part c m)) s }

pub refuted-part : (a b : List (List Lit)) (set : List Lit) → IsPart a b → Any (IsRefuted set) a → Any (IsRefuted set) b
refuted-part a b set part some = let m = member-Any (IsRefuted set) a some in Any-member (IsRefuted set) b m.0 (part m.0 m.1) m.2

-- the literal at the head
pub head-literal : (trail : List Lit) (h : ℕ) (p : Lit) → slice_get trail h ≡ Some p → get_or trail h (negative_of 0) ≡ negation (negation p)
head-literal trail h p e = get_or_from_slice_get trail h p (negative_of 0) e ∙ sym (negation-negation p)

pub take-next : (trail more : List Lit) (h : ℕ) (p : Lit) → slice_get trail h ≡ Some p → take (h + 1) (trail ++ more) ≡ take h trail ++ negation (negation p) ∷ []
take-next trail more h p e =
    let inside : h < length trail = slice_get_within trail h p e in
    take-append-le (h + 1) trail more (omega arith) ∙ take_more trail h (negative_of 0) inside ∙ ap (λ (x : Lit). take h trail ++ x ∷ []) (head-literal trail h p e)

module _ (problem : ClauseProblem) (learned : List (List Lit)) (trail0 : Trailing) (own0 more0 : Watching) where
  abbrev all : List (List Lit)
  all = problem.clauses ++ learned

  pub record IsGoing (trail : Trailing) (own more : Watching) : Type 0 where
    pub parts : AreParts problem learned trail own more
    pub growth : IsGrowth all trail0 trail
    pub own_kept : AreKept trail0.literals own0.watched own.watched
    pub more_kept : AreKept trail0.literals more0.watched more.watched

  pub going-start : AreParts problem learned trail0 own0 more0 → IsGoing trail0 own0 more0
  going-start parts = record { parts = parts; growth = growth-none all trail0; own_kept = λ d s a b c. c; more_kept = λ d s a b c. c }

  module _ (trail : Trailing) (own more : Watching) (is : IsGoing trail own more) (now : Trailing) where
    up : IsSubset trail0.literals trail.literals
    up = growth-within all trail0 trail is.growth

    own-part : IsPart problem.clauses all
    own-part c m = Contains-append_left problem.clauses learned c m

    more-part : IsPart learned all
    more-part c m = Contains-append_right problem.clauses learned c m

    pub own-spread : (next : Watching) → next.variables ≡ own.variables → next.pairs ≡ own.pairs → AreInside problem.clauses next.watched → IsGrowth problem.clauses trail now → AreKept trail.literals own.watched next.watched → IsGoing now next more
    own-spread next same pairs inside growth kept = record {
      parts = record {
        trail_of = growth.same ∙ is.parts.trail_of;
        own_of = same ∙ is.parts.own_of;
        more_of = is.parts.more_of;
        clauses_below = is.parts.clauses_below;
        learned_below = is.parts.learned_below;
        own_inside = inside;
        more_inside = is.parts.more_inside;
        own_paired = subst (ArePaired problem.clauses) (sym pairs) is.parts.own_paired;
        more_plain = is.parts.more_plain;
      };
      growth = growth-then all trail0 trail now is.growth (growth-part problem.clauses all own-part trail now growth);
      own_kept = kept-then trail0.literals trail.literals own0.watched own.watched next.watched up is.own_kept kept;
      more_kept = is.more_kept;
    }

    pub more-spread : (next : Watching) → next.variables ≡ more.variables → next.pairs ≡ more.pairs → AreInside learned next.watched → IsGrowth learned trail now → AreKept trail.literals more.watched next.watched → IsGoing now own next
    more-spread next same pairs inside growth kept = record {
      parts = record {
        trail_of = growth.same ∙ is.parts.trail_of;
        own_of = is.parts.own_of;
        more_of = same ∙ is.parts.more_of;
        clauses_below = is.parts.clauses_below;
        learned_below = is.parts.learned_below;
        own_inside = is.parts.own_inside;
        more_inside = inside;
        own_paired = is.parts.own_paired;
        more_plain = ap (λ (p : Pairing). p.others) pairs ∙ is.parts.more_plain;
      };
      growth = growth-then all trail0 trail now is.growth (growth-part learned all more-part trail now growth);
      own_kept = is.own_kept;
      more_kept = kept-then trail0.literals trail.literals more0.watched more.watched next.watched up is.more_kept kept;
    }

  pub going-refuted : (trail : Trailing) (own more : Watching) → IsGoing trail own more → Any (IsRefuted trail.literals) all → (fits : Bool) → fits ≡ false → HasPropagated all trail0 trail own0 own more0 more fits
  going-refuted trail own more is some fits f = record {
    growth = is.growth;
    own_kept = is.own_kept;
    more_kept = is.more_kept;
    own_covered = λ t. absurd (let e : false ≡ true = sym f ∙ t in (cc));
    more_covered = λ t. absurd (let e : false ≡ true = sym f ∙ t in (cc));
    refuted = λ _. some;
  }

  pub going-done : (trail : Trailing) (own more : Watching) → IsGoing trail own more → AreCovered trail.literals trail.literals own.watched → AreCovered trail.literals trail.literals more.watched → HasPropagated all trail0 trail own0 own more0 more true
  going-done trail own more is a b = record {
    growth = is.growth;
    own_kept = is.own_kept;
    more_kept = is.more_kept;
    own_covered = λ t. a;
    more_covered = λ t. b;
    refuted = λ f. absurd (cc);
  }

-- the watches of one list of clauses after a walk
pub next-covered : (clauses : List (List Lit)) (done : List Lit) (trail now : Trailing) (w next : List Lit) (literal : Lit) → IsSubset done trail.literals → IsGrowth clauses trail now → AreKept trail.literals w next
    → ((e : ℕ) → e < length next → watched_at next e ≡ literal → Contains now.literals (watched_at next (partner e)))
    → AreCovered done trail.literals w → AreCovered (done ++ negation literal ∷ []) now.literals next
next-covered clauses done trail now w next literal sub growth kept seen covered =
    covered-seen done now.literals next literal
    (covered-more done trail.literals now.literals next (growth-within clauses trail now growth) (kept done trail.literals sub (λ l m. m) covered))
    seen

pub take-subset : (n : ℕ) (xs : List Lit) → IsSubset (take n xs) xs
take-subset n xs l m = subst (λ ys. Contains ys l) (take-append-drop n xs) (Contains-append_left (take n xs) (drop n xs) l m)
