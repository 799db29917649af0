-- Two watched literals of each clause. The entries 2 i and 2 i + 1 are those of the clause with number i; a chain leads
-- through the entries that watch a literal, but for those of clauses of two literals that are apart: there the other
-- literal stands in the row of the first.
use Rattle.std.specs.Prelude.{◌≡◌, ◌≢◌, ◌⊎◌, ◌+◌, ◌-◌, ◌*◌, ◌/◌, ◌%◌, ◌<◌, ◌++◌, ◌∷◌, [], ℕ, All, Contains, List, length, slice_index_or, slice_set}
use Rattle.lists.specs.Distinct.{IsDistinct}
use Rattle.clauses.specs.declared.literal.Lit.{Lit}
use Rattle.clauses.specs.Clause.{negation, negative_of}
use Rattle.clauses.specs.Closure.{closure}
use Rattle.clauses.specs.Problem.{IsBelow}
use Rattle.propagation.specs.inside.Pairing.{Pairing, row_of}
use Rattle.propagation.specs.inside.Trails.{Trailing, code_of}
use Rattle.propagation.specs.inside.Values.{IsPart}

-- the watched literal of each entry, for how many there is room, and the rows of the clauses that are apart
pub record Watching : Type 0 where
  pub variables : ℕ
  pub watched : List Lit
  pub room : ℕ
  pub pairs : Pairing

-- the other entry of the same clause
abbrev pub partner : ℕ → ℕ
partner entry = (entry + 1) - 2 * (entry % 2)

-- what stands in place of an entry where a chain ends
abbrev pub nothing : ℕ
nothing = 18446744073709551615

abbrev pub watched_at : List Lit → ℕ → Lit
watched_at watched entry = slice_index_or watched entry (negative_of 0)

-- from the head on each entry leads to the next
abbrev pub IsChain : List ℕ → ℕ → List ℕ → Type 0
IsChain next head [] = head ≡ nothing
IsChain next head (entry ∷ entries) = (head ≡ entry) × (entry < length next) × IsChain next (slice_index_or next entry 0) entries

-- the entries of each slot in a chain, and each entry in one of them
pub record AreChains (heads next : List ℕ) (rows : ℕ → List ℕ) (place : ℕ → ℕ) : Type 0 where
  pub chained : (slot : ℕ) → slot < length heads → IsChain next (slice_index_or heads slot 0) (rows slot)
  pub once : (slot : ℕ) → slot < length heads → IsDistinct (rows slot)
  pub placed : (slot entry : ℕ) → slot < length heads → Contains (rows slot) entry → place entry ≡ slot
  pub inside : (entry : ℕ) → entry < length next → place entry < length heads
  pub full : (entry : ℕ) → entry < length next → Contains (rows (place entry)) entry

-- an entry and its partner are apart, in the last chain, and the partner's literal stands in the row
pub record IsApart (variables : ℕ) (pairs : Pairing) (watched : List Lit) (place : ℕ → ℕ) (entry : ℕ) : Type 0 where
  pub here : place entry ≡ 2 * variables + 1
  pub there : place (partner entry) ≡ 2 * variables + 1
  pub within : partner entry < length watched
  pub listed : Contains (row_of pairs (code_of (watched_at watched entry))) (watched_at watched (partner entry))

-- each entry is in the chain of the literal that it watches, or it is apart; the last slot but one is spare
pub record AreWatches (variables : ℕ) (pairs : Pairing) (watched : List Lit) (heads next : List ℕ) : Type 0 where
  pub rows : ℕ → List ℕ
  pub place : ℕ → ℕ
  pub chains : AreChains heads next rows place
  pub sized : length next ≡ length watched
  pub slots : length heads ≡ 2 * variables + 2
  pub below : All (IsBelow variables) watched
  pub watching : (entry : ℕ) → entry < length watched → (place entry ≡ code_of (watched_at watched entry)) ⊎ IsApart variables pairs watched place entry

-- the literals are all of clauses that they watch
abbrev pub AreInside : List (List Lit) → List Lit → Type 0
AreInside clauses watched = (length watched ≡ 2 * length clauses) × ((entry : ℕ) → entry < length watched → Contains (slice_index_or clauses (entry / 2) []) (watched_at watched entry))

-- where the negation of a watched literal is done with, the other one is in the set; they are two, or one that is in it
pub record IsCovered (done set : List Lit) (one other : Lit) : Type 0 where
  pub answered : Contains done (negation one) → Contains set other
  pub apart : (one ≢ other) ⊎ Contains set one

abbrev pub AreCovered : List Lit → List Lit → List Lit → Type 0
AreCovered done set watched = (entry : ℕ) → entry < length watched → IsCovered done set (watched_at watched entry) (watched_at watched (partner entry))

abbrev pub IsSubset : List Lit → List Lit → Type 0
IsSubset a b = (literal : Lit) → Contains a literal → Contains b literal

-- each literal of the set is in the closure of the clauses
abbrev pub IsSound : List (List Lit) → List Lit → Type 0
IsSound clauses set = (literal : Lit) → Contains set literal → Contains (closure clauses) literal

-- all literals of the clause are false
abbrev pub IsRefuted : List Lit → List Lit → Type 0
IsRefuted set clause = All (λ literal. Contains set (negation literal)) clause

-- the trail grows by literals that the clauses force
pub record IsGrowth (clauses : List (List Lit)) (old new : Trailing) : Type 0 where
  pub same : new.variables ≡ old.variables
  pub more : List Lit
  pub grows : new.literals ≡ old.literals ++ more
  pub sound : (all : List (List Lit)) → IsPart clauses all → IsSound all old.literals → IsSound all new.literals

-- what the watches cover stays covered
abbrev pub AreKept : List Lit → List Lit → List Lit → Type 0
AreKept set old new = (done within : List Lit) → IsSubset done within → IsSubset within set → AreCovered done within old → AreCovered done within new

-- the chains of these literals are at an end, and the others are as they were
abbrev pub IsReleased : List ℕ → List Lit → List ℕ → Type 0
IsReleased old watched new =
    (length new ≡ length old)
    × ((slot : ℕ) → slot < length old → (slice_index_or new slot 0 ≡ nothing) ⊎ ((slice_index_or new slot 0 ≡ slice_index_or old slot 0) × ((entry : ℕ) → entry < length watched → code_of (watched_at watched entry) ≢ slot)))

-- an entry goes from behind the last one that stays, or from the front where there is none, to the front of another chain
abbrev pub IsRelinked : List ℕ → List ℕ → ℕ → ℕ → ℕ → ℕ → List ℕ → List ℕ → Type 0
IsRelinked heads next from last entry to heads_now next_now =
    ((last ≡ nothing) × (heads_now ≡ slice_set (slice_set heads from (slice_index_or next entry 0)) to entry) × (next_now ≡ slice_set next entry (slice_index_or heads to 0)))
    ⊎ ((last ≢ nothing) × (heads_now ≡ slice_set heads to entry) × (next_now ≡ slice_set (slice_set next last (slice_index_or next entry 0)) entry (slice_index_or heads to 0)))
