-- What is left to do, as a plan: which set is asked, and how it goes on after each answer. It finds all that is kept.
use Rattle.std.specs.Prelude.{◌≡◌, ℕ, zero, suc, ◌+◌, ◌-◌, ◌/◌, ◌<◌, ◌≤◌, ◌==◌, Bool, true, false, if◌then◌else◌, List, [], ◌∷◌, ◌++◌, length, reverse}
use Rattle.pref_sets.specs.Plan.{Plan, found, asks, chain}
use Rattle.pref_sets.specs.Positions.{range}
use Rattle.req_keys.specs.Key.{PositionSet}
use Rattle.req_keys.specs.Positions.{RiseWithin}
use Rattle.req_keys.specs.Wanting.{key_over}
use Rattle.fast_diag.specs.declared.parts.Asking.{Asking}
use Rattle.fast_diag.specs.declared.parts.Half.{Half}
use Rattle.fast_diag.specs.declared.parts.Part.{Part}
use Rattle.fast_diag.specs.declared.parts.Part.TheVariants as part

-- all of the range joins if it is Sat, and else what is left is done; where it is known to be Unsat it isn't asked
abbrev pub unless_all : List ℕ → Bool → Plan → Plan
unless_all all true left = left
unless_all all false left = asks all (λ sat. if sat then found all else left)

-- what is kept once the range behind `kept` is done. The upper half is known to be Unsat where all of the lower half
-- is kept, which the number of kept positions tells. `count` bounds how deep this goes
abbrev pub part_within : ℕ → List ℕ → ℕ → ℕ → Bool → Plan
part_within zero kept before size known = found kept
part_within (suc count) kept before zero known = found kept
part_within (suc count) kept before (suc zero) known = unless_all (kept ++ range before 1) known (found kept)
part_within (suc count) kept before (suc (suc more)) known =
    unless_all (kept ++ range before (suc (suc more))) known
    (chain (part_within count kept before (suc (suc more) / 2) false) (λ lower.
    part_within count lower (before + suc (suc more) / 2) (suc (suc more) - suc (suc more) / 2) (length lower == length kept + suc (suc more) / 2)))

-- the same, deep enough
abbrev pub part_plan : List ℕ → ℕ → ℕ → Bool → Plan
part_plan kept before size known = part_within size kept before size known

-- the halves that wait are done one after the other, the first of the list first
abbrev pub waiting : List Half → List ℕ → Plan
waiting [] kept = found kept
waiting (half ∷ halves) kept =
    chain (part_plan kept half.before half.length (length kept == half.whole)) (λ further. waiting halves further)

-- a range and the halves that wait behind it
abbrev pub with_waiting : List ℕ → ℕ → ℕ → Bool → List Half → Plan
with_waiting kept before size known halves =
    chain (part_plan kept before size known) (λ further. waiting (reverse halves) further)

-- what is left where a range is asked
abbrev pub left_of : Asking → Plan
left_of asking = with_waiting asking.kept.members asking.before asking.length false asking.halves

-- what is left in either case
abbrev pub remaining : Part → Plan
remaining (part.Asks asking) = left_of asking
remaining (part.Done kept) = found kept.members

-- each half that waits is above the one before it, and within the n positions
abbrev pub WaitAbove : ℕ → ℕ → List Half → Type 0
WaitAbove n at [] = Unit {0}
WaitAbove n at (half ∷ halves) =
    (at ≤ half.before) × (0 < half.length) × (half.before + half.length ≤ n) × WaitAbove n (half.before + half.length) halves

-- what is kept stands below a place, and what waits above it
pub record StandsAt (n at : ℕ) (kept : PositionSet) (halves : List Half) : Type 0 where
  pub most : n ≤ 4096
  pub over : kept.n ≡ n
  pub below : RiseWithin 0 at kept.members
  pub within : at ≤ n
  pub above : WaitAbove n at (reverse halves)

-- a range of the n positions is asked behind what is kept, and halves wait
pub record AsksRange (n : ℕ) (asking : Asking) : Type 0 where
  pub most : n ≤ 4096
  pub over : asking.kept.n ≡ n
  pub below : RiseWithin 0 asking.before asking.kept.members
  pub some : 0 < asking.length
  pub within : asking.before + asking.length ≤ n
  pub above : WaitAbove n (asking.before + asking.length) (reverse asking.halves)
  pub asked : asking.asked ≡ key_over n (asking.kept.members ++ range asking.before asking.length)

-- the part is one of a state over n positions
abbrev pub IsPart : ℕ → Part → Type 0
IsPart n (part.Asks asking) = AsksRange n asking
IsPart n (part.Done kept) = kept.n ≡ n
