-- Watches of a problem's clauses while they are made.
use Rattle.std.specs.Prelude.{◌≡◌, ◌≢◌, ◌⊎◌, ◌++◌, ◌∷◌, [], Bool, false, true, IsTrue, Contains, List}
use Rattle.clauses.specs.declared.literal.Lit.{Lit}
use Rattle.clauses.specs.Closure.{clash}
use Rattle.clauses.specs.Problem.{ClauseProblem}
use Rattle.propagation.specs.inside.Trails.{IsTakenIn, Trailing}
use Rattle.propagation.specs.inside.Watching.{AreCovered, AreInside, IsRefuted, IsSound, Watching}

-- two literals of the clause are watched, or it has only one, which is true now
pub record HasPair (clause : List Lit) (old new : Watching) (before now : Trailing) : Type 0 where
  pub one : Lit
  pub other : Lit
  pub one_in : Contains clause one
  pub other_in : Contains clause other
  pub attached : new.watched ≡ old.watched ++ one ∷ other ∷ []
  pub variables : new.variables ≡ old.variables
  pub pairs : new.pairs ≡ old.pairs
  pub either : ((one ≢ other) × (now ≡ before)) ⊎ (((literal : Lit) → Contains clause literal → literal ≡ one) × IsTakenIn before one now)

-- so it is, or all its literals are false
abbrev pub IsWatched : List Lit → Watching → Watching → Trailing → Trailing → Bool → Type 0
IsWatched clause old new before now true = HasPair clause old new before now
IsWatched clause old new before now false = IsRefuted before.literals clause

-- these clauses are watched, and none is apart
pub record AreWatched (problem : ClauseProblem) (clauses : List (List Lit)) (own : Watching) (trail : Trailing) : Type 0 where
  pub own_of : own.variables ≡ problem.variables
  pub trail_of : trail.variables ≡ problem.variables
  pub inside : AreInside clauses own.watched
  pub plain : own.pairs.others ≡ []
  pub covered : AreCovered [] trail.literals own.watched
  pub sound : IsSound problem.clauses trail.literals

-- all are, unless they clash
abbrev pub AreAllWatched : ClauseProblem → Watching → Trailing → Bool → Type 0
AreAllWatched problem own trail true = AreWatched problem problem.clauses own trail
AreAllWatched problem own trail false = IsTrue (clash problem.clauses)
