-- Minimal diagnoses and their listing (Reiter 1987), for any property of sets of the positions 1, 2, .., n, as 'consistent'.
-- The order of the listing is own to this project.
use Rattle.std.specs.Prelude.{◌≡◌, ℕ, ◌≤◌, List, [], ◌∷◌, length, Contains}
use Rattle.std.specs.declared.cmp.Ordering.TheVariants.{Less}
use Rattle.pref_sets.specs.Preferred.{IsWithin}
use Rattle.req_keys.specs.Order.{key_cmp}
use Rattle.req_keys.specs.Positions.{RiseWithin}
use Rattle.req_keys.specs.Wanting.{key_over}
use Rattle.hs_tree.specs.Tree.{without}

-- the set is a diagnosis: the positions that aren't in it have the property
abbrev pub IsDiagnosis : (List ℕ → Type 0) → ℕ → List ℕ → Type 0
IsDiagnosis P n set = P (without n set)

-- the set of positions is a diagnosis, and no other part of it than all is one
pub record IsMinimalDiagnosis (P : List ℕ → Type 0) (n : ℕ) (set : List ℕ) : Type 0 where
  pub positions : RiseWithin 0 n set
  pub diagnosis : IsDiagnosis P n set
  pub minimal : (other : List ℕ) → IsWithin other set → IsDiagnosis P n other → IsWithin set other

-- each set comes before all that stand behind it, in the order of diagnoses; so none stands twice
abbrev pub AreInOrder : ℕ → List (List ℕ) → Type 0
AreInOrder n [] = Unit {0}
AreInOrder n (set ∷ sets) =
    ((other : List ℕ) → Contains sets other → key_cmp (key_over n set) (key_over n other) ≡ Less) × AreInOrder n sets

-- minimal diagnoses of at most so many positions, in order, each once
pub record AreMinimalDiagnoses (P : List ℕ → Type 0) (n most : ℕ) (sets : List (List ℕ)) : Type 0 where
  pub order : AreInOrder n sets
  pub minimal : (set : List ℕ) → Contains sets set → IsMinimalDiagnosis P n set
  pub small : (set : List ℕ) → Contains sets set → length set ≤ most

-- the listing: all of them
pub record IsListing (P : List ℕ → Type 0) (n most : ℕ) (sets : List (List ℕ)) : Type 0 where
  pub part : AreMinimalDiagnoses P n most sets
  pub whole : (set : List ℕ) → IsMinimalDiagnosis P n set → length set ≤ most → Contains sets set
