-- The trail level by level: a level has one assumed literal more than the one before it.
use Rattle.std.specs.Prelude.{◌≡◌, ◌-◌, ◌<◌, ◌≤◌, ◌++◌, ◌∷◌, [], ℕ, Bool, true, false, IsFalse, IsTrue, All, Any, Contains, List, length, slice_index_or, take, Option, Some, None}
use Rattle.clauses.specs.declared.literal.Lit.{Lit}
use Rattle.clauses.specs.Closure.{clash}
use Rattle.clauses.specs.Problem.{ClauseProblem, IsBelow}
use Rattle.propagation.specs.Propagation.{all_of}
use Rattle.propagation.specs.declared.state.State.{State}
use Rattle.propagation.specs.declared.state.State.TheVariants as state
use Rattle.propagation.specs.inside.Pairing.{ArePaired}
use Rattle.propagation.specs.inside.Trails.{IsOneSigned, IsTakenIn, Trailing}
use Rattle.propagation.specs.inside.Watching.{AreCovered, AreInside, AreKept, IsGrowth, IsRefuted, IsSound, Watching}

-- the parts are about the problem's variables, and the watches about its clauses and the learned ones; none of these is apart
pub record AreParts (problem : ClauseProblem) (learned : List (List Lit)) (trail : Trailing) (own more : Watching) : Type 0 where
  pub trail_of : trail.variables ≡ problem.variables
  pub own_of : own.variables ≡ problem.variables
  pub more_of : more.variables ≡ problem.variables
  pub clauses_below : All (All (IsBelow problem.variables)) problem.clauses
  pub learned_below : All (All (IsBelow problem.variables)) learned
  pub own_inside : AreInside problem.clauses own.watched
  pub more_inside : AreInside learned more.watched
  pub own_paired : ArePaired problem.clauses own.pairs
  pub more_plain : more.pairs.others ≡ []

-- what is forced has been brought in, and where no clause is refuted all is covered
pub record HasPropagated (clauses : List (List Lit)) (before now : Trailing) (own_before own_now more_before more_now : Watching) (fits : Bool) : Type 0 where
  pub growth : IsGrowth clauses before now
  pub own_kept : AreKept before.literals own_before.watched own_now.watched
  pub more_kept : AreKept before.literals more_before.watched more_now.watched
  pub own_covered : IsTrue fits → AreCovered now.literals now.literals own_now.watched
  pub more_covered : IsTrue fits → AreCovered now.literals now.literals more_now.watched
  pub refuted : IsFalse fits → Any (IsRefuted now.literals) clauses

-- the set has all that the clauses and the assumed literals force
pub record IsLevel (clauses learned : List (List Lit)) (own more assumed set : List Lit) : Type 0 where
  pub sound : IsSound (all_of clauses learned assumed) set
  pub own_covered : AreCovered set set own
  pub more_covered : AreCovered set set more
  pub taken : (literal : Lit) → Contains assumed literal → Contains set literal

-- below the top, each level is complete, and so is what the problem's clauses force alone
pub record IsStanding (problem : ClauseProblem) (learned : List (List Lit)) (assumed : List Lit) (trail : Trailing) (own more : Watching) (marks : List ℕ) (base : ℕ) : Type 0 where
  pub parts : AreParts problem learned trail own more
  pub one_signed : IsOneSigned trail.literals
  pub few : length marks ≤ length assumed
  pub level : (k : ℕ) → k < length marks → IsLevel problem.clauses learned own.watched more.watched (take k assumed) (take (slice_index_or marks k 0) trail.literals)
  pub rising : (j k : ℕ) → j ≤ k → k < length marks → slice_index_or marks j 0 ≤ slice_index_or marks k 0
  pub within : (k : ℕ) → k < length marks → slice_index_or marks k 0 ≤ length trail.literals
  pub above : (k : ℕ) → k < length marks → base ≤ slice_index_or marks k 0
  pub base_within : base ≤ length trail.literals
  pub base_level : IsLevel problem.clauses [] own.watched [] [] (take base trail.literals)

-- and so is the top
abbrev pub IsTop : ClauseProblem → List (List Lit) → List Lit → Trailing → Watching → Watching → List ℕ → Type 0
IsTop problem learned assumed trail own more marks = IsLevel problem.clauses learned own.watched more.watched (take (length marks) assumed) trail.literals

-- or the literals assumed so far clash
abbrev pub IsClashing : ClauseProblem → List (List Lit) → List Lit → List ℕ → Type 0
IsClashing problem learned assumed marks = IsTrue (clash (all_of problem.clauses learned (take (length marks) assumed)))

abbrev pub IsTopOrClashing : ClauseProblem → List (List Lit) → List Lit → Trailing → Watching → Watching → List ℕ → Bool → Type 0
IsTopOrClashing problem learned assumed trail own more marks true = IsTop problem learned assumed trail own more marks
IsTopOrClashing problem learned assumed trail own more marks false = IsClashing problem learned assumed marks

-- the clause that was learned last, and those before it
abbrev pub front : List (List Lit) → List (List Lit)
front learned = take (length learned - 1) learned

abbrev pub last : List (List Lit) → List Lit
last learned = slice_index_or learned (length learned - 1) []

-- a learned clause is watched at two literals, and the first of them was made true and propagated
pub record HasForced (problem : ClauseProblem) (learned : List (List Lit)) (before now : Trailing) (own_before own_now more_before more_now : Watching) (one other : Lit) (fits : Bool) : Type 0 where
  pub taken : Trailing
  pub is_taken : IsTakenIn before one taken
  pub done : HasPropagated (problem.clauses ++ learned) taken now own_before own_now (record more_before { watched = more_before.watched ++ one ∷ other ∷ [] }) more_now fits

-- what the problem's clauses force alone stands at the base
pub record IsBased (problem : ClauseProblem) (trail : Trailing) (own more : Watching) (base : ℕ) : Type 0 where
  pub trail_of : trail.variables ≡ problem.variables
  pub own_of : own.variables ≡ problem.variables
  pub more_of : more.variables ≡ problem.variables
  pub own_inside : AreInside problem.clauses own.watched
  pub own_paired : ArePaired problem.clauses own.pairs
  pub one_signed : IsOneSigned trail.literals
  pub base_within : base ≤ length trail.literals
  pub base_level : IsLevel problem.clauses [] own.watched [] [] (take base trail.literals)

-- how a propagator stands
abbrev pub HasState : ClauseProblem → List (List Lit) → List Lit → Trailing → Watching → Watching → List ℕ → ℕ → State → Type 0
HasState problem learned assumed trail own more marks base state.Rests =
    IsStanding problem learned assumed trail own more marks base × IsTop problem learned assumed trail own more marks × (length marks ≡ length assumed)
HasState problem learned assumed trail own more marks base state.Clashes =
    IsStanding problem learned assumed trail own more marks base × IsClashing problem learned assumed marks × (0 < length marks)
HasState problem learned assumed trail own more marks base state.Lost =
    IsBased problem trail own more base × IsTrue (clash (all_of problem.clauses learned [])) × (marks ≡ [])
HasState problem learned assumed trail own more marks base state.Dead =
    IsTrue (clash (all_of problem.clauses [] [])) × (marks ≡ [])

-- how it stands when a learned clause is watched and what it forces has been brought in, up to the last mark
abbrev pub HasEntered : ClauseProblem → List (List Lit) → List Lit → Trailing → Watching → Watching → List ℕ → ℕ → State → Type 0
HasEntered problem learned assumed trail own more marks base state.Rests =
    IsStanding problem learned assumed trail own more marks base × IsTop problem learned assumed trail own more marks
HasEntered problem learned assumed trail own more marks base state.Clashes = HasState problem learned assumed trail own more marks base state.Clashes
HasEntered problem learned assumed trail own more marks base state.Lost = HasState problem learned assumed trail own more marks base state.Lost
HasEntered problem learned assumed trail own more marks base state.Dead = ⊥

-- the level from which on a learned clause may be watched
abbrev pub IsHighest : State → List ℕ → Option ℕ → Type 0
IsHighest state.Rests marks highest = highest ≡ Some (length marks)
IsHighest state.Clashes marks highest = highest ≡ Some (length marks - 1)
IsHighest state.Lost marks highest = highest ≡ None
IsHighest state.Dead marks highest = highest ≡ None
