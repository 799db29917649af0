-- What an outcome says, for a property of sets of positions, as 'can be met together'.
use Rattle.std.specs.Prelude.{◌≡◌, ℕ, List, [], map, Some, IfSome, IsSome, is_some, All}
use Rattle.std.specs.List.{range_with_len}
use Rattle.pref_sets.specs.Kept.{IsKept}
use Rattle.pref_sets.specs.Trimmed.{IsTrimmed}
use Rattle.req_keys.specs.Key.{PositionSet}
use Rattle.req_keys.specs.Wanting.{key_over}
use Rattle.req_keys.specs.declared.verdict.Verdict.{Verdict}
use Rattle.req_keys.specs.declared.verdict.Verdict.TheVariants as verdict
use Rattle.hs_tree.specs.Listing.{IsListing}
use Rattle.script.specs.declared.job.JobPlan.{JobPlan}
use Rattle.script.specs.declared.job.Outcome.{Outcome}
use Rattle.script.specs.declared.job.Outcome.TheVariants as outcome
use Rattle.script.specs.declared.job.Parts.{Parts}
use Rattle.script.specs.Job.{Told}

-- the verdict is right: Sat means that the set has the property, and Unsat that it hasn't. Limit says nothing
abbrev pub IsTrueVerdict : (List ℕ → Type 0) → List ℕ → Verdict → Type 0
IsTrueVerdict P set verdict.Sat = P set
IsTrueVerdict P set verdict.Unsat = ¬ P set
IsTrueVerdict P set verdict.Limit = Unit {0}

-- each told verdict is right
abbrev pub AreTrue : (List ℕ → Type 0) → Told → Type 0
AreTrue P told = All (λ pair. IsTrueVerdict P pair.0.members pair.1) told

-- the key is the kept set of all positions
abbrev pub IsKeptKey : (List ℕ → Type 0) → ℕ → PositionSet → Type 0
IsKeptKey P n key = (key.n ≡ n) × IsKept P (range_with_len 1 n) key.members

-- the key is the preferred conflict of all positions
abbrev pub IsConflictKey : (List ℕ → Type 0) → ℕ → PositionSet → Type 0
IsConflictKey P n key = (key.n ≡ n) × IsTrimmed (λ set. ¬ P set) (range_with_len 1 n) key.members

-- the keys are the listing of the minimal diagnoses up to the size
abbrev pub AreListed : (List ℕ → Type 0) → ℕ → ℕ → List PositionSet → Type 0
AreListed P n most keys = (sets : List (List ℕ)) × (keys ≡ map (key_over n) sets) × IsListing P n most sets

-- what the parts found is what they are to find
pub record ArePartsRight (P : List ℕ → Type 0) (plan : JobPlan) (parts : Parts) : Type 0 where
  pub kept : IfSome parts.kept (IsKeptKey P plan.requirements)
  pub conflict : IfSome parts.conflict (IsConflictKey P plan.requirements)
  pub listing : (most : ℕ) → plan.list ≡ Some most → IfSome parts.listing (AreListed P plan.requirements most)

-- all positions together lack the property, the empty set has it, and each part found what it is to find
pub record IsExplained (P : List ℕ → Type 0) (plan : JobPlan) (parts : Parts) : Type 0 where
  pub all : ¬ P (range_with_len 1 plan.requirements)
  pub background : P []
  pub kept : IsSome parts.kept
  pub conflict : IsSome parts.conflict
  pub listing : is_some parts.listing ≡ is_some plan.list
  pub right : ArePartsRight P plan parts

-- the outcome says what holds
abbrev pub IsRight : (List ℕ → Type 0) → JobPlan → Outcome → Type 0
IsRight P plan outcome.Consistent = P (range_with_len 1 plan.requirements)
IsRight P plan outcome.Background = ¬ P []
IsRight P plan (outcome.Explained parts) = IsExplained P plan parts
IsRight P plan (outcome.LimitAt part key before) = ArePartsRight P plan before
