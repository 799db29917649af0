-- The told answers as a table, and what another table has beside them.
use Rattle.std.specs.Prelude.{◌≡◌, ℕ, Bool, Some, List, map, Contains}
use Rattle.pref_sets.specs.Answers.{Answer, answer_to}
use Rattle.req_keys.specs.Key.{PositionSet, IsKey}
use Rattle.hs_tree.specs.declared.told.ToldAnswer.{ToldAnswer}

abbrev pub answer_of : ToldAnswer → Answer
answer_of told = record { set = told.key.members; sat = told.sat }

abbrev pub answers_of : List ToldAnswer → List Answer
answers_of told = map answer_of told

-- the key is over n positions
pub record IsOver (n : ℕ) (set : PositionSet) : Type 0 where
  pub number : set.n ≡ n
  pub key : IsKey set

-- each key is over n positions
abbrev pub AreOver : ℕ → List PositionSet → Type 0
AreOver n keys = (key : PositionSet) → Contains keys key → IsOver n key

abbrev pub AreToldOver : ℕ → List ToldAnswer → Type 0
AreToldOver n told = (answer : ToldAnswer) → Contains told answer → answer.key.n ≡ n

-- the table answers what was told
abbrev pub HasAll : List Answer → List Answer → Type 0
HasAll told table = (set : List ℕ) (sat : Bool) → answer_to told set ≡ Some sat → answer_to table set ≡ Some sat
