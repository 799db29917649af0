-- What the work on one set of a level comes to, over each table that answers what was told.
use Rattle.std.specs.Prelude.{◌≡◌, ℕ, ◌<◌, Bool, Option, Some, None, List, [], ◌∷◌, ◌++◌, length, take, Contains}
use Rattle.pref_sets.specs.Answers.{Answer, Ask, answer_to}
use Rattle.pref_sets.specs.QuickXplain.{qx}
use Rattle.req_keys.specs.Key.{PositionSet}
use Rattle.quick_xplain.specs.Explaining.{Explaining, next_of}
use Rattle.hs_tree.specs.declared.found.Found.{Found}
use Rattle.hs_tree.specs.declared.sets.Asking.{Asking}
use Rattle.hs_tree.specs.declared.sets.Asking.TheVariants as asking
use Rattle.hs_tree.specs.Tree.{Outcome, ends, Standing, with_children, by_label, by_rest, one_set}
use Rattle.hs_tree.specs.inside.Places.{at_place, sets_of}
use Rattle.hs_tree.specs.inside.Told.{IsOver, AreOver, HasAll}

-- what was found is over n positions, and each label is the place of a conflict
pub record IsFound (n : ℕ) (found : Found) : Type 0 where
  pub diagnoses : AreOver n found.diagnoses
  pub conflicts : AreOver n found.conflicts
  pub labels : (place : ℕ) → Contains found.labels (Some place) → place < length found.conflicts

-- nothing that was found is gone
pub record Grows (old new : Found) : Type 0 where
  pub diagnoses : take (length old.diagnoses) new.diagnoses ≡ old.diagnoses
  pub conflicts : take (length old.conflicts) new.conflicts ≡ old.conflicts
  pub labels : take (length old.labels) new.labels ≡ old.labels

-- where the definition stands, with these sets of the next level
abbrev pub standing : Found → List (List ℕ) → Standing
standing found next = record { found = sets_of found.diagnoses; known = sets_of found.conflicts; next = next }

-- a conflict more, which is the label of the set that is done
abbrev pub with_made : Found → PositionSet → Found
with_made found conflict = record {
  diagnoses = found.diagnoses;
  conflicts = found.conflicts ++ conflict ∷ [];
  labels = found.labels ++ Some (length found.conflicts) ∷ [];
}

-- a set that is done without a new conflict
abbrev pub with_done : Found → Option ℕ → Found
with_done found label = record { diagnoses = found.diagnoses; conflicts = found.conflicts; labels = found.labels ++ label ∷ [] }

-- a set that is a diagnosis
abbrev pub with_diagnosis : Found → PositionSet → Found
with_diagnosis found set = record { diagnoses = found.diagnoses ++ set ∷ []; conflicts = found.conflicts; labels = found.labels ++ None ∷ [] }

-- the next level after a set with this label
abbrev pub with_label : List (List ℕ) → List ℕ → Option ℕ → List (List ℕ) → List (List ℕ)
with_label known set None next = next
with_label known set (Some place) next = with_children set (at_place known place) next

-- the definition for one set from the start, from where its rest is asked, and from where its label is made
abbrev pub from_start : ℕ → Bool → List ℕ → List Answer → Standing → Outcome
from_start n last set = λ table s. one_set n table last s set

abbrev pub from_rest : Bool → List ℕ → List ℕ → List Answer → Standing → Outcome
from_rest last set rest = λ table s. by_rest table last s set rest (answer_to table rest)

abbrev pub from_label : List ℕ → List ℕ → List Answer → Standing → Outcome
from_label set rest = λ table s. by_label s set (qx rest table)

-- how the definition goes on for a set that asks
abbrev pub waiting : List Answer → Bool → Standing → List ℕ → Asking → Outcome
waiting table last s set (asking.Rest rest) = from_rest last set rest.members table s
waiting table last s set (asking.Label label) = from_label set label.among.members table s

abbrev pub from_waiting : Bool → List ℕ → Asking → List Answer → Standing → Outcome
from_waiting last set asking = λ table s. waiting table last s set asking

-- QuickXplain over n positions was told nothing but what was told to the tree
pub record IsLabelOf (n : ℕ) (told : List Answer) (label : Explaining) : Type 0 where
  pub number : label.among.n ≡ n
  pub known : HasAll label.told told

-- the key that is asked has no answer
abbrev pub IsAsked : ℕ → List Answer → Asking → Type 0
IsAsked n told (asking.Rest rest) = IsOver n rest × (answer_to told rest.members ≡ None)
IsAsked n told (asking.Label label) =
    IsLabelOf n told label × ((set : List ℕ) × (next_of label ≡ Ask set) × (answer_to told set ≡ None))

-- the set is done: with these findings the definition goes on behind it
pub record IsSetDone (told : List Answer) (old new : Found) (set : List ℕ) (outcome : List Answer → Standing → Outcome) : Type 0 where
  pub label : Option ℕ
  pub labels : new.labels ≡ old.labels ++ label ∷ []
  pub goes : (table : List Answer) → HasAll told table → (next : List (List ℕ)) →
      outcome table (standing old next) ≡ ends (standing new (with_label (sets_of new.conflicts) set label next))

-- the set waits for an answer
pub record IsSetWaiting (n : ℕ) (told : List Answer) (last : Bool) (old new : Found) (set : List ℕ) (outcome : List Answer → Standing → Outcome) (asking : Asking) : Type 0 where
  pub same : new ≡ old
  pub asked : IsAsked n told asking
  pub goes : (table : List Answer) → HasAll told table → (next : List (List ℕ)) →
      outcome table (standing old next) ≡ waiting table last (standing old next) set asking
