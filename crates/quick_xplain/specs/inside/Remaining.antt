-- What is left to do, as a plan: which set is asked, and how it goes on after each answer. It finds the whole conflict.
use Rattle.std.specs.Prelude.{◌≡◌, ℕ, zero, suc, ◌+◌, ◌<◌, ◌≤◌, ◌==◌, Bool, true, false, not, if◌then◌else◌, List, [], ◌∷◌, ◌++◌, length, take, drop, reverse}
use Rattle.pref_sets.specs.Plan.{Plan, found, asks, chain}
use Rattle.pref_sets.specs.Positions.{lower_half, upper_half}
use Rattle.req_keys.specs.Key.{PositionSet, IsKey}
use Rattle.req_keys.specs.Positions.{RiseWithin}
use Rattle.req_keys.specs.Wanting.{key_over}
use Rattle.quick_xplain.specs.declared.parts.Asking.{Asking}
use Rattle.quick_xplain.specs.declared.parts.Half.{Half}
use Rattle.quick_xplain.specs.declared.parts.Part.{Part}
use Rattle.quick_xplain.specs.declared.parts.Part.TheVariants as part

-- what is left is done, unless the background is Unsat by itself; that is asked only where something was added to it
abbrev pub unless_alone : List ℕ → List ℕ → Bool → Plan → Plan
unless_alone background conflict false left = left
unless_alone background conflict true left = asks background (λ sat. if sat then left else found conflict)

-- the conflict, and what of the positions belongs to it. The background is the positions below, and the conflict, whose
-- positions are above. Something was added for the lower half where something of the upper half was found, which the
-- number of positions in the conflict tells. `count` bounds how deep this goes
abbrev pub part_within : ℕ → List ℕ → List ℕ → List ℕ → Bool → Plan
part_within zero below positions conflict added = found conflict
part_within (suc count) below [] conflict added = found conflict
part_within (suc count) below (position ∷ []) conflict added =
    unless_alone (below ++ conflict) conflict added (found (position ∷ conflict))
part_within (suc count) below positions conflict added =
    unless_alone (below ++ conflict) conflict added
    (chain (part_within count (below ++ lower_half positions) (upper_half positions) conflict true) (λ further.
    part_within count below (lower_half positions) further (not (length further == length conflict))))

abbrev pub part_plan : List ℕ → List ℕ → List ℕ → Bool → Plan
part_plan below positions conflict added = part_within (length positions) below positions conflict added

-- the members at so many places after the first `before`
abbrev pub at_range : List ℕ → ℕ → ℕ → List ℕ
at_range members before size = take size (drop before members)

-- the plan of a range of places
abbrev pub range_plan : List ℕ → ℕ → ℕ → List ℕ → Bool → Plan
range_plan members before size conflict added = part_plan (take before members) (at_range members before size) conflict added

-- the halves that wait are done one after the other, the first of the list first
abbrev pub waiting : List ℕ → List Half → List ℕ → Plan
waiting members [] conflict = found conflict
waiting members (half ∷ halves) conflict =
    chain (range_plan members half.before half.length conflict (not (length conflict == half.found))) (λ further. waiting members halves further)

-- a range and the halves that wait behind it
abbrev pub with_waiting : List ℕ → ℕ → ℕ → List ℕ → Bool → List Half → Plan
with_waiting members before size conflict added halves =
    chain (range_plan members before size conflict added) (λ further. waiting members (reverse halves) further)

-- what is left where a background is asked
abbrev pub left_of : List ℕ → Asking → Plan
left_of members asking = with_waiting members asking.before asking.length asking.conflict.members true asking.halves

abbrev pub remaining : List ℕ → Part → Plan
remaining members (part.Asks asking) = left_of members asking
remaining members (part.Done conflict) = found conflict.members

-- the place where the first of the halves ends
abbrev pub end_of : List Half → ℕ
end_of [] = 0
end_of (half ∷ halves) = half.before + half.length

-- each half that waits is above those behind it. When it began to wait, at most so many positions were found
abbrev pub AreStacked : ℕ → List Half → Type 0
AreStacked most [] = Unit {0}
AreStacked most (half ∷ halves) =
    (0 < half.length) × (end_of halves ≤ half.before) × (half.found ≤ most) × AreStacked half.found halves

-- the conflict stands above the places below `high`, and what waits is below `low`
pub record StandsBetween (low high : ℕ) (among conflict : PositionSet) (most : ℕ) (halves : List Half) : Type 0 where
  pub key : IsKey among
  pub over : conflict.n ≡ among.n
  pub end : end_of (reverse halves) ≤ low
  pub order : low ≤ high
  pub within : high ≤ length among.members
  pub above : RiseWithin 0 among.n (take high among.members ++ conflict.members)
  pub stacked : AreStacked most (reverse halves)

-- a range is done
abbrev pub StandsAt : PositionSet → PositionSet → ℕ → List Half → Type 0
StandsAt among conflict most halves = StandsBetween (end_of (reverse halves)) (end_of (reverse halves)) among conflict most halves

-- a range of places may be asked or divided, and halves wait
pub record IsRange (among conflict : PositionSet) (before size : ℕ) (halves : List Half) : Type 0 where
  pub some : 0 < size
  pub place : StandsBetween before (before + size) among conflict (length conflict.members) halves

-- the background of the range is asked
pub record AsksRange (among : PositionSet) (asking : Asking) : Type 0 where
  pub range : IsRange among asking.conflict asking.before asking.length asking.halves
  pub asked : asking.asked ≡ key_over among.n (take asking.before among.members ++ asking.conflict.members)

-- the part is one of a state over the start set
abbrev pub IsPart : PositionSet → Part → Type 0
IsPart among (part.Asks asking) = AsksRange among asking
IsPart among (part.Done conflict) = conflict.n ≡ among.n
