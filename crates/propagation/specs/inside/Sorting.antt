-- Setting the clauses of two literals apart, chain by chain.
use Rattle.std.specs.Prelude.{◌≡◌, ◌≢◌, ◌⊎◌, ◌+◌, ◌*◌, ◌/◌, ◌<◌, ◌≤◌, ◌++◌, ◌∷◌, [], ℕ, Contains, List, length, slice_index_or}
use Rattle.clauses.specs.declared.literal.Lit.{Lit}
use Rattle.propagation.specs.inside.Pairing.{AreRows, Pairing, row_of, start_in}
use Rattle.propagation.specs.inside.Trails.{code_of}
use Rattle.propagation.specs.inside.Watching.{AreChains, partner, watched_at}

-- the clause of the entry has two literals, and both are watched
abbrev pub IsPair : List (List Lit) → List Lit → ℕ → Type 0
IsPair clauses watched entry = (length (slice_index_or clauses (entry / 2) []) ≡ 2) × (watched_at watched entry ≢ watched_at watched (partner entry))

-- where an entry is when the slots below this one are done
abbrev pub IsSortedAt : List (List Lit) → ℕ → List Lit → ℕ → (ℕ → ℕ) → ℕ → Type 0
IsSortedAt clauses variables watched slot place entry =
    ((place entry ≡ code_of (watched_at watched entry)) × (IsPair clauses watched entry → slot ≤ code_of (watched_at watched entry)))
    ⊎ ((place entry ≡ 2 * variables + 1) × IsPair clauses watched entry × (code_of (watched_at watched entry) < slot))

-- the chains when the slots below this one are done, and how many entries are apart
pub record IsSorted (clauses : List (List Lit)) (variables : ℕ) (watched : List Lit) (slot count : ℕ) (heads next : List ℕ) : Type 0 where
  pub rows : ℕ → List ℕ
  pub place : ℕ → ℕ
  pub chains : AreChains heads next rows place
  pub sized : length next ≡ length watched
  pub slots : length heads ≡ 2 * variables + 2
  pub aside : length (rows (2 * variables + 1)) ≡ count
  pub at : (entry : ℕ) → entry < length watched → IsSortedAt clauses variables watched slot place entry

-- an entry of the slot whose partner watches the literal, in a clause of two
pub record IsListed (clauses : List (List Lit)) (watched : List Lit) (slot : ℕ) (other : Lit) : Type 0 where
  pub entry : ℕ
  pub within : entry < length watched
  pub watches : code_of (watched_at watched entry) ≡ slot
  pub other_is : watched_at watched (partner entry) ≡ other
  pub is_pair : IsPair clauses watched entry

-- the row has the partners of the slot's entries whose clauses have two literals, and nothing else
pub record IsRow (clauses : List (List Lit)) (watched : List Lit) (slot : ℕ) (row : List Lit) : Type 0 where
  pub sound : (other : Lit) → Contains row other → IsListed clauses watched slot other
  pub whole : (entry : ℕ) → entry < length watched → code_of (watched_at watched entry) ≡ slot → IsPair clauses watched entry → Contains row (watched_at watched (partner entry))

-- the row of the slot is appended
pub record HasRow (clauses : List (List Lit)) (watched : List Lit) (slot : ℕ) (old new : List Lit) : Type 0 where
  pub row : List Lit
  pub grows : new ≡ old ++ row
  pub is_row : IsRow clauses watched slot row

-- the rows of the slots below this one
pub record AreListed (clauses : List (List Lit)) (watched : List Lit) (slot : ℕ) (pairs : Pairing) : Type 0 where
  pub sized : length pairs.starts ≡ slot + 1
  pub ends : start_in pairs slot ≡ length pairs.others
  pub rows : AreRows pairs
  pub listed : (below : ℕ) → below < slot → IsRow clauses watched below (row_of pairs below)

-- an entry goes to the last chain, and the literal of its partner to the row, or it goes to the spare one
abbrev pub IsSent : List (List Lit) → List Lit → ℕ → ℕ → List Lit → List Lit → ℕ → Type 0
IsSent clauses watched entry spare old new to =
    ((to ≡ spare) × (new ≡ old) × ¬ IsPair clauses watched entry)
    ⊎ ((to ≡ spare + 1) × (new ≡ old ++ watched_at watched (partner entry) ∷ []) × IsPair clauses watched entry)
