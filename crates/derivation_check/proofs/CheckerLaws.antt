-- What a kept propagator says of a derivation so far.
use Rattle.std.proofs.Common.{◌≡◌, ◌∙◌, sym, ap, subst, ⊎_elim, ℕ, ◌+◌, ◌<◌, ◌≤◌, true, false, List, [], ◌∷◌, ◌++◌, length, map, take, append_assoc, arith}
use Rattle.std.specs.Prelude.{◌-◌, Contains, Some, filter, slice_get}
use Rattle.std.specs.List.{range_with_len}
use Rattle.std.proofs.lemmas.Bool.{cases_Bool, false≢true}
use Rattle.std.proofs.lemmas.List.{length_push}
use Rattle.std.proofs.lemmas.List.Elements.{Contains-append_left, Contains-append_right, Contains-append_cases}
use Rattle.std.proofs.Math.Seq.{take-append_seam}
use Rattle.req_keys.specs.Key.{PositionSet, IsKey}
use Rattle.req_keys.specs.Positions.{has}
use Rattle.clauses.specs.declared.literal.Lit.{Lit}
use Rattle.clauses.specs.Clause.{unit_of}
use Rattle.clauses.specs.Closure.{clash, follows}
use Rattle.clauses.specs.Problem.{ClauseProblem, clauses_with, roots_at}
use Rattle.clauses.proofs.TrimmedLaws.{clash-more}
use Rattle.propagation.specs.Propagation.{Propagation, all_of, propagated}
use Rattle.propagation.specs.inside.Values.{IsPart}
use Rattle.propagation.specs.inside.RootTrials.{members_to}
use Rattle.propagation.proofs.RootSteps.{members-all, members-few, members-later, members-next}
use Rattle.propagation.proofs.RootLaws.{AreAssumed, assumed-next, new-clash, next-clash, root_at, roots_for}
use Rattle.propagation.proofs.ValueLaws.{clash-same, part-among}
use Rattle.derivation_check.specs.inside.Checked.{IsChecked}
use Rattle.derivation_check.specs.inside.Negations.{IsBehind}
use Rattle.derivation_check.specs.inside.Assumed.{AreAssumedFor}
use Rattle.derivation_check.proofs.LineLaws.{swap, follows-swapped}
use Rattle.derivation_check.proofs.NegationLaws.{negations, clash-append}

module _ (problem : ClauseProblem) (key : PositionSet) where
  abbrev roots : List (List Lit)
  roots = map unit_of (roots_at problem key)

  -- learned clauses may stand before the roots or behind them
  clash-swapped : (learned : List (List Lit)) → clash ((problem.clauses ++ learned) ++ roots) ≡ clash (clauses_with problem key ++ learned)
  clash-swapped learned =
      clash-same ((problem.clauses ++ learned) ++ roots) (clauses_with problem key ++ learned)
      (part-among ((problem.clauses ++ learned) ++ roots) (clauses_with problem key ++ learned) (swap problem.clauses learned roots))
      (part-among (clauses_with problem key ++ learned) ((problem.clauses ++ learned) ++ roots) (swap problem.clauses roots learned))

  all-clash : (at : Propagation) → at.problem ≡ problem → at.assumed ≡ roots_at problem key → clash (propagated at) ≡ clash (clauses_with problem key ++ at.learned)
  all-clash at about all =
      ap (λ (p : ClauseProblem). clash (all_of p.clauses at.learned at.assumed)) about
      ∙ ap (λ assumed. clash (all_of problem.clauses at.learned assumed)) all
      ∙ clash-swapped at.learned

  all-follows : (at : Propagation) (line : List Lit) → at.problem ≡ problem → at.assumed ≡ roots_at problem key → follows (propagated at) line ≡ follows (clauses_with problem key ++ at.learned) line
  all-follows at line about all =
      ap (λ (p : ClauseProblem). follows (all_of p.clauses at.learned at.assumed) line) about
      ∙ ap (λ assumed. follows (all_of problem.clauses at.learned assumed) line) all
      ∙ follows-swapped problem.clauses at.learned roots line

  module _ (count : ℕ) (at : Propagation) (is : IsChecked problem key count at) where
    pub checked-clash : clash (propagated at) ≡ clash (clauses_with problem key ++ at.learned)
    checked-clash =
        ⊎_elim
        (λ (t : clash (propagated at) ≡ true). t ∙ sym (is.some t))
        (λ (f : clash (propagated at) ≡ false). all-clash at is.about (is.all f))
        (cases_Bool (clash (propagated at)))

    pub checked-follows : (line : List Lit) → follows (propagated at) line ≡ follows (clauses_with problem key ++ at.learned) line
    checked-follows line =
        ⊎_elim
        (λ (t : clash (propagated at) ≡ true). clash-append (propagated at) (negations line) t ∙ sym (clash-append (clauses_with problem key ++ at.learned) (negations line) (is.some t)))
        (λ (f : clash (propagated at) ≡ false). all-follows at line is.about (is.all f))
        (cases_Bool (clash (propagated at)))

    -- what was assumed for a line is taken back
    pub restored : (mid : Propagation) → IsBehind at mid → (new : Propagation) → new ≡ record mid { assumed = take count mid.assumed } → new ≡ at
    restored mid behind new e =
        e
        ∙ ap (λ (p : Propagation). record p { assumed = take count p.assumed }) behind.1
        ∙ ap (λ assumed. record at { assumed = assumed }) (ap (λ n. take n (at.assumed ++ behind.0)) (sym is.counted) ∙ take-append_seam at.assumed behind.0)

    module _ (line : List Lit) where
      abbrev longer : Propagation
      longer = record at { learned = at.learned ++ line ∷ [] }

      longer-part : IsPart (propagated at) (propagated longer)
      longer-part clause m =
          ⊎_elim
          (λ (front : Contains (at.problem.clauses ++ at.learned) clause).
          Contains-append_left (at.problem.clauses ++ (at.learned ++ line ∷ [])) (map unit_of at.assumed) clause
          (subst (λ cs. Contains cs clause) (append_assoc at.problem.clauses at.learned (line ∷ [])) (Contains-append_left (at.problem.clauses ++ at.learned) (line ∷ []) clause front)))
          (λ (unit : Contains (map unit_of at.assumed) clause). Contains-append_right (at.problem.clauses ++ (at.learned ++ line ∷ [])) (map unit_of at.assumed) clause unit)
          (Contains-append_cases (at.problem.clauses ++ at.learned) (map unit_of at.assumed) clause m)

      still : clash (propagated longer) ≡ false → clash (propagated at) ≡ false
      still f =
          ⊎_elim
          (λ (t : clash (propagated at) ≡ true). absurd (false≢true (sym f ∙ clash-more (propagated at) (propagated longer) longer-part t)))
          (λ (g : clash (propagated at) ≡ false). g)
          (cases_Bool (clash (propagated at)))

      longer-some : clash (propagated longer) ≡ true → clash (clauses_with problem key ++ longer.learned) ≡ true
      longer-some c =
          ⊎_elim
          (λ (t : clash (propagated at) ≡ true).
          ap clash (sym (append_assoc (clauses_with problem key) at.learned (line ∷ []))) ∙ clash-append (clauses_with problem key ++ at.learned) (line ∷ []) (is.some t))
          (λ (f : clash (propagated at) ≡ false). sym (all-clash longer is.about (is.all f)) ∙ c)
          (cases_Bool (clash (propagated at)))

      pub checked-longer : IsChecked problem key count longer
      checked-longer = record {
        about = is.about;
        sized = is.sized;
        counted = is.counted;
        few = is.few;
        all = (λ f. is.all (still f));
        some = longer-some;
      }

-- ---- the roots, one by one

module _ (problem : ClauseProblem) (key : PositionSet) (is_key : IsKey key) (sized : key.n ≡ length problem.roots) where
  pub fresh-checked : (at : Propagation) → at.problem ≡ problem → at.assumed ≡ [] → at.learned ≡ [] → clash (propagated at) ≡ true → AreAssumedFor problem key 0 at
  fresh-checked at about assumed learned t = record {
    checked = record {
      about = about;
      sized = sized;
      counted = ap length assumed;
      few = omega arith;
      all = (λ f. absurd (false≢true (sym f ∙ t)));
      some = (λ _. clash-append (clauses_with problem key) at.learned (new-clash problem key at about assumed learned t));
    };
    learned = learned;
  }

  pub rooted-checked : (count : ℕ) (at : Propagation) → AreAssumed problem at (members_to key key.n) → count ≡ length at.assumed → AreAssumedFor problem key count at
  rooted-checked count at are counted = record {
    checked = record {
      about = ap (λ (p : Propagation). p.problem) are.is;
      sized = sized;
      counted = sym counted;
      few = (let few = members-few key is_key key.n (omega arith) in let size = are.counted in omega arith);
      all = (λ _. ap (λ (p : Propagation). p.assumed) are.is ∙ ap (roots_for problem) (members-all key is_key));
      some = (λ t. absurd (false≢true (sym are.no_clash ∙ t)));
    };
    learned = ap (λ (p : Propagation). p.learned) are.is;
  }

  module _ (old : Propagation) (place : ℕ) (inside : place < key.n) (are : AreAssumed problem old (members_to key place)) where
    pub assumed-few : length old.assumed ≤ 4096
    assumed-few = let few = members-few key is_key place (omega arith) in let size = are.counted in omega arith

    module _ (member : has key.members (place + 1) ≡ true) (root : Lit) (at_place : slice_get problem.roots place ≡ Some root) (new : Propagation) (grown : new ≡ record old { assumed = old.assumed ++ root ∷ [] }) where
      root_is : root_at problem (place + 1) ≡ Some root
      root_is = let back : (place + 1) - 1 ≡ place = omega arith in ap (slice_get problem.roots) back ∙ at_place

      pub assumed-more : clash (propagated new) ≡ false → AreAssumed problem new (members_to key (place + 1))
      assumed-more no_clash =
          subst (AreAssumed problem new) (sym (members-next key place member))
          (assumed-next problem old new (members_to key place) (place + 1) root are root_is grown no_clash)

      pub counted-more : length new.assumed ≡ length old.assumed + 1
      counted-more = ap (λ (p : Propagation). length p.assumed) grown ∙ length_push old.assumed root

      pub clashed-checked : clash (propagated new) ≡ true → AreAssumedFor problem key (length old.assumed + 1) new
      clashed-checked t = record {
        checked = record {
          about = ap (λ (p : Propagation). p.problem) grown ∙ ap (λ (p : Propagation). p.problem) are.is;
          sized = sized;
          counted = counted-more;
          few =
              (let few = members-few key is_key (place + 1) (omega arith) in
              let size = ap length (members-next key place member) in
              let pushed = length_push (members_to key place) (place + 1) in
              let counted = are.counted in
              omega arith);
          all = (λ f. absurd (false≢true (sym f ∙ t)));
          some = (λ _.
              clash-append (clauses_with problem key) new.learned
              (next-clash problem key old new (members_to key place) (place + 1) (filter (has key.members) (range_with_len (1 + (place + 1)) (key.n - (place + 1)))) root are root_is grown t
              (members-later key is_key (place + 1) (omega arith) ∙ ap (λ front. front ++ filter (has key.members) (range_with_len (1 + (place + 1)) (key.n - (place + 1)))) (members-next key place member))));
        };
        learned = ap (λ (p : Propagation). p.learned) grown ∙ ap (λ (p : Propagation). p.learned) are.is;
      }
