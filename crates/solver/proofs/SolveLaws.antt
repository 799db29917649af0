-- The loop of an attempt: what stands, and that it ends; and the attempts.
use Rattle.std.proofs.Common.{◌≡◌, ◌∙◌, refl, sym, ap, subst, inl, ℕ, suc, ◌+◌, ◌<◌, ◌≤◌, Bool, true, false, List, [], ◌∷◌, ◌++◌, map, Some, None, arith}
use Rattle.std.specs.Prelude.{◌-◌, ◌^◌}
use Rattle.std.proofs.lemmas.List.{append-nil}
use Rattle.req_keys.specs.Key.{PositionSet}
use Rattle.clauses.specs.declared.literal.Lit.{Lit}
use Rattle.clauses.specs.Clause.{unit_of}
use Rattle.clauses.specs.Closure.{closure, clash}
use Rattle.clauses.specs.Problem.{ClauseProblem, IsProblem, clauses_with, roots_at}
use Rattle.clauses.specs.Search.{SearchAnswer, Sat, Unsat, Limit, GoesOn, Ends, IsReached, allowance_of, attempt_of, first_of, start, turn, turn_at_clash, turn_at_rest, turn_count, search_of, under}
use Rattle.clauses.proofs.AttemptLaws.{answer-limit, attempt-most, first-answer, search-from, search-of}
use Rattle.clauses.proofs.BoundLaws.{reached-few, never-limit}
use Rattle.clauses.proofs.CauseLaws.{ends-answer, reached-members, reached-below, reached-allowed}
use Rattle.clauses.proofs.DerivationLaws.{unsat-derivation, unsat-lines, derivation-unsatisfiable}
use Rattle.clauses.proofs.EnoughLaws.{fewer-left, turns_left}
use Rattle.clauses.proofs.KeyRoots.{clauses_with-below}
use Rattle.clauses.proofs.SatLaws.{sat-satisfies}
use Rattle.clauses.proofs.StandingLaws.{reached-good}
use Rattle.clauses.proofs.TurnLaws.{after_one_more}
use Rattle.solver.specs.declared.answer.Answer.{Answer}
use Rattle.solver.specs.declared.answer.Answer.TheVariants as answer
use Rattle.solver.specs.Answers.{meaning, EndsWithLearned, IsRight}
use Rattle.solver.specs.declared.search.Ending.{Ending}
use Rattle.solver.specs.declared.search.Ending.TheVariants as ending
use Rattle.solver.specs.inside.Searching.{Searching, all_under, standing, turn_of, IsAtEnd, IsShown, IsTurn, ended, HasBegun}
use Rattle.solver.specs.Stopping.{Rises}

-- what stands in an attempt: the search comes to it
pub record IsGoing (problem : ClauseProblem) (key : PositionSet) (number : ℕ) (at : Searching) : Type 0 where
  pub problem_is : at.trial.problem ≡ problem
  pub fixed_is : at.trial.fixed ≡ roots_at problem key
  pub first_is : at.trial.first ≡ first_of number
  pub allowance_is : at.allowance ≡ allowance_of problem number
  pub shown : IsShown at
  pub reached : IsReached problem key number (standing at)

-- how many turns are left at most
abbrev pub left : Searching → ℕ
left at = turns_left true [] at.trial.problem.variables at.allowance (standing at)

module _ (problem : ClauseProblem) (key : PositionSet) (number : ℕ) where
  abbrev clauses : List (List Lit)
  clauses = clauses_with problem key

  abbrev allowance : ℕ
  allowance = allowance_of problem number

  pub going-start : (at : Searching) → HasBegun problem key (first_of number) allowance at true → IsGoing problem key number at
  going-start at e = record {
    problem_is = ap (λ (s : Searching). s.trial.problem) e;
    fixed_is = ap (λ (s : Searching). s.trial.fixed) e;
    first_is = ap (λ (s : Searching). s.trial.first) e;
    allowance_is = ap (λ (s : Searching). s.allowance) e;
    shown = subst IsShown (sym e) ([], refl, inl refl);
    reached = (0, ap (λ (s : Searching). Some (standing s)) (sym e));
  }

  module _ (at : Searching) (is : IsGoing problem key number at) where
    due : turn_of at ≡ turn (first_of number) clauses problem.variables allowance (standing at)
    due =
        ap (λ (p : ClauseProblem). turn at.trial.first (p.clauses ++ map unit_of at.trial.fixed) p.variables at.allowance (standing at)) is.problem_is
        ∙ ap (λ (fixed : List Lit). turn at.trial.first (problem.clauses ++ map unit_of fixed) problem.variables at.allowance (standing at)) is.fixed_is
        ∙ ap (λ (first : Bool). turn first clauses problem.variables at.allowance (standing at)) is.first_is
        ∙ ap (λ (a : ℕ). turn (first_of number) clauses problem.variables a (standing at)) is.allowance_is

    module _ (now : Searching) (t : IsTurn at now None) where
      goes : turn (first_of number) clauses problem.variables allowance (standing at) ≡ GoesOn (standing now)
      goes = sym due ∙ t.0

      pub going-on : IsGoing problem key number now
      going-on = record {
        problem_is = t.1 ∙ is.problem_is;
        fixed_is = t.2 ∙ is.fixed_is;
        first_is = t.3 ∙ is.first_is;
        allowance_is = t.4 ∙ is.allowance_is;
        shown = t.5;
        reached = (suc is.reached.0, after_one_more (first_of number) clauses problem.variables allowance (standing at) (standing now) goes is.reached.0 start is.reached.1);
      }

      left_of : (s : Searching) → s.trial.problem ≡ problem → s.allowance ≡ allowance → turns_left true [] problem.variables allowance (standing s) ≡ left s
      left_of s p a =
          ap (λ (q : ClauseProblem). turns_left true [] q.variables allowance (standing s)) (sym p)
          ∙ ap (λ (n : ℕ). turns_left true [] s.trial.problem.variables n (standing s)) (sym a)

      pub going-fewer : left now < left at
      going-fewer =
          let few = reached-allowed (first_of number) clauses problem.variables allowance is.reached.0 (standing at) is.reached.1 in
          subst (λ (n : ℕ). n < left at) (left_of now (t.1 ∙ is.problem_is) (t.4 ∙ is.allowance_is))
          (subst (λ (n : ℕ). turns_left true [] problem.variables allowance (standing now) < n) (left_of at is.problem_is is.allowance_is)
          (fewer-left (first_of number) clauses problem.variables allowance (standing at) (standing now) few goes))

    pub going-ends : (now : Searching) (end : Ending) → IsTurn at now (Some end) → attempt_of problem key number ≡ Some (ended now end)
    going-ends now end t =
        ends-answer (first_of number) clauses problem.variables allowance is.reached.0 (standing at) (ended at end) is.reached.1 (sym due ∙ t.0)
        ∙ ap (λ (s : Searching). Some (ended s end)) (sym t.1)

    pub going-at_end : (now : Searching) (end : Ending) → IsTurn at now (Some end) → IsAtEnd now end
    going-at_end now end t = (subst IsShown (sym t.1) is.shown, λ sat. ap (λ (s : Searching). clash (all_under s)) t.1 ∙ t.2 sat)

  -- the roots of the key clash with the clauses
  pub refuted-at_start : clash clauses ≡ true → attempt_of problem key number ≡ Some (Unsat ([] ∷ []))
  refuted-at_start c = ends-answer (first_of number) clauses problem.variables allowance 0 start (Unsat ([] ∷ [])) refl first_turn
    where
      all : under (first_of number) clauses start ≡ clauses
      all = append-nil (clauses ++ []) ∙ append-nil clauses

      first_turn : turn (first_of number) clauses problem.variables allowance start ≡ Ends (Unsat ([] ∷ []))
      first_turn =
          ap (λ b. elim b [
            | true ↦ turn_at_clash (first_of number) clauses allowance start
            | false ↦ turn_at_rest problem.variables (closure (under (first_of number) clauses start)) start
          ]) (ap clash all ∙ c)

  -- what stands then ends in Unsat
  module _ (at : Searching) (begun : HasBegun problem key (first_of number) allowance at false) (end : Ending) (unsat : end ≡ ending.Unsat) where
    pub refuted-ends : attempt_of problem key number ≡ Some (ended at end)
    refuted-ends =
        refuted-at_start begun.0
        ∙ ap (λ (lines : List (List Lit)). Some (Unsat (lines ++ [] ∷ []))) (sym begun.1)
        ∙ ap (λ (e : Ending). Some (ended at e)) (sym unsat)

    pub refuted-at_end : IsAtEnd at end
    refuted-at_end = (
      ([], begun.3 ∙ ap (λ (tried : List ℕ). tried ++ []) (sym begun.2), inl refl),
      λ sat. let other : ending.Sat ≡ ending.Unsat = sym sat ∙ unsat in absurd (cc),
    )

-- a count that rises later has risen
pub rises-later : (a b c : ℕ) → a ≤ b → Rises b c → Rises a c
rises-later a b c le rises = omega arith

-- ---- what the answer says

limit_case : (a m : ℕ) → (m ≤ a → ⊥) → a < m
limit_case a m f = omega arith

-- what was learned when the search ends in Unsat
lines-learned : (problem : ClauseProblem) (key : PositionSet) (lines : List (List Lit)) → search_of problem key ≡ Some (Unsat lines) → EndsWithLearned problem lines
lines-learned problem key lines e =
    let of = search-of problem key (Unsat lines) e in
    let clauses = clauses_with problem key in
    let sign = first_of of.attempt in
    let allowance = allowance_of problem of.attempt in
    let at = unsat-lines sign clauses problem.variables allowance (turn_count problem.variables allowance) lines of.is in (
      at.0.learned,
      at.3,
      record {
        members = reached-members sign clauses problem.variables allowance at.1.0 at.0 at.1.1;
        below = reached-below sign clauses problem.variables allowance at.1.0 at.0 at.1.1;
        others = (reached-good sign clauses problem.variables allowance at.1.0 at.0 at.1.1).others;
        within = (of.attempt, attempt-most problem key (Unsat lines) of, reached-allowed sign clauses problem.variables allowance at.1.0 at.0 at.1.1);
        most = (let few = reached-few sign clauses problem.variables allowance at.1.0 at.0 at.1.1 in omega arith);
      },
    )

-- the answer of the search is right
pub right-answer : (problem : ClauseProblem) (key : PositionSet) → IsProblem problem → (given : Answer) → search_of problem key ≡ Some (meaning given) → IsRight problem key given
right-answer problem key lawful (answer.Sat values) e =
    let of = search-of problem key (Sat values) e in
    let allowance = allowance_of problem of.attempt in
    sat-satisfies (first_of of.attempt) (clauses_with problem key) problem.variables allowance (clauses_with-below problem key lawful) (turn_count problem.variables allowance) values of.is
right-answer problem key lawful (answer.Unsat lines) e =
    let of = search-of problem key (Unsat lines) e in
    let allowance = allowance_of problem of.attempt in
    let derived = unsat-derivation (first_of of.attempt) (clauses_with problem key) problem.variables allowance (turn_count problem.variables allowance) lines of.is in
    (derived, (λ values. derivation-unsatisfiable values (clauses_with problem key) lines derived), lines-learned problem key lines e)
right-answer problem key lawful answer.Limit e = λ attempt inside.
    let allowance = allowance_of problem attempt in
    limit_case allowance (2 ^ problem.variables - 1) (λ enough.
    never-limit (first_of attempt) (clauses_with problem key) problem.variables allowance (turn_count problem.variables allowance) (omega arith)
    (answer-limit problem key problem.rungs 0 e attempt (omega arith) (omega arith)))

-- ---- the attempts

-- an answer that isn't Limit is that of the search, where the attempts before were Limit
pub answer-found : (problem : ClauseProblem) (key : PositionSet) (number : ℕ) (given : SearchAnswer) → number < problem.rungs → ((earlier : ℕ) → earlier < number → attempt_of problem key earlier ≡ Some Limit)
    → attempt_of problem key number ≡ Some given → (¬ given ≡ Limit) → search_of problem key ≡ Some given
answer-found problem key number given inside before e other =
    let count : number + (problem.rungs - number) ≡ problem.rungs = omega arith in
    search-from problem key number (problem.rungs - number) count before ∙ first-answer problem key (problem.rungs - number) number given e other

-- and that of the last attempt is
pub answer-last : (problem : ClauseProblem) (key : PositionSet) (given : SearchAnswer) → ((earlier : ℕ) → earlier < problem.rungs → attempt_of problem key earlier ≡ Some Limit)
    → attempt_of problem key problem.rungs ≡ Some given → search_of problem key ≡ Some given
answer-last problem key given before e = let count : problem.rungs + 0 ≡ problem.rungs = omega arith in search-from problem key problem.rungs 0 count before ∙ e
