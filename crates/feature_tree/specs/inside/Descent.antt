-- What the private steps of the reader answer. These definitions follow its code, and only the clauses of those steps
-- cite them; the grammar knows nothing of them. In `proofs/` they are shown to agree with it.
use Rattle.std.specs.Prelude.{◌≡◌, ℕ, zero, suc, ◌+◌, ◌<◌, ◌≤◌, Bool, true, false, if◌then◌else◌, nat_le, List, [], ◌∷◌, length, slice_get, Option, Some, None, Result, Ok, Err}
use Rattle.feature_tree.specs.declared.formula.Formula.{Formula}
use Rattle.feature_tree.specs.declared.formula.Formula.TheVariants as formula
use Rattle.feature_tree.specs.declared.reader.descent.Found.{Found}
use Rattle.feature_tree.specs.declared.reader.error.FormulaError.{FormulaError}
use Rattle.feature_tree.specs.declared.reader.error.FormulaError.TheVariants.{Unsupported, BadFormula, TooDeep, Memory}
use Rattle.feature_tree.specs.declared.reader.parsed.Parsed.{Parsed}
use Rattle.feature_tree.specs.declared.reader.role.Level.{Level}
use Rattle.feature_tree.specs.declared.reader.role.Level.TheVariants.{Same, Implies, Any, All}
use Rattle.feature_tree.specs.declared.reader.role.Role.{Role}
use Rattle.feature_tree.specs.declared.reader.role.Role.TheVariants.{Name, Not, Opens, Closes}
use Rattle.feature_tree.specs.Grammar.{Phrase, chain, unary, named, negated, enclosed, from_the_left, joined}
use Rattle.feature_tree.specs.Roles.{joins}

-- what is asked for, or a refusal
abbrev pub OrRefusal : Type 0 → Type 0
OrRefusal A = Result A FormulaError

abbrev pub and_then : {A B : Type 0} → OrRefusal A → (A → OrRefusal B) → OrRefusal B
and_then (Ok a) next = next a
and_then (Err reason) next = Err reason

-- the call answers this, unless memory runs out
abbrev pub Answers : {A : Type 0} → OrRefusal A → OrRefusal A → Type 0
Answers (Ok a) outcome = outcome ≡ Ok a
Answers (Err Unsupported) outcome = outcome ≡ Err Unsupported
Answers (Err BadFormula) outcome = outcome ≡ Err BadFormula
Answers (Err TooDeep) outcome = outcome ≡ Err TooDeep
Answers (Err Memory) outcome = Unit {0}

-- ---- joining

-- the node of a chain that groups from the left
abbrev pub pair_of : Level → Formula → Formula → Formula
pair_of Same = formula.Same
pair_of Implies = formula.Implies
pair_of Any = formula.Implies
pair_of All = formula.Implies

-- the node of a chain that is one node
abbrev pub node_of : Level → List Formula → Formula
node_of Same = formula.All
node_of Implies = formula.All
node_of Any = formula.Any
node_of All = formula.All

abbrev pub is_one_node : Level → Bool
is_one_node Same = false
is_one_node Implies = false
is_one_node Any = true
is_one_node All = true

abbrev pub IsLow : ℕ → Parsed → Type 0
IsLow room parsed = parsed.height ≤ room

-- what was parsed, if it is not higher than the room for it
abbrev pub within : ℕ → Parsed → OrRefusal Parsed
within room parsed = if nat_le parsed.height room then Ok parsed else Err TooDeep

abbrev pub joined_within : ℕ → Level → Parsed → List Parsed → OrRefusal Parsed
joined_within room level first others = within room (joined level first others)

abbrev pub joined_from_the_left : ℕ → Level → Parsed → List Parsed → OrRefusal Parsed
joined_from_the_left room level first others = within room (from_the_left (pair_of level) first others)

-- the node over these parts, of which the highest has this height
abbrev pub node_within : ℕ → Level → List Formula → ℕ → OrRefusal Parsed
node_within room level parts highest = within room (record { formula = node_of level parts; height = highest + 1 })

-- ---- descending

-- the phrase ends after its beginning and before the end of the tokens, and is not higher than the room for it
pub record IsPast (room at count : ℕ) (found : Found) : Type 0 where
  pub some : at < found.after
  pub inside : found.after ≤ count
  pub low : found.parsed.height ≤ room

abbrev pub role_joins : Level → Option Role → Bool
role_joins level None = false
role_joins level (Some role) = joins level role

abbrev pub negated_found : Found → Found
negated_found part = record { parsed = negated part.parsed; after = part.after }

abbrev pub enclosed_found : Found → Found
enclosed_found part = record { parsed = enclosed part.parsed; after = part.after + 1 }

abbrev pub closed_by : Option Role → Found → OrRefusal Found
closed_by (Some Closes) part = Ok (enclosed_found part)
closed_by _ part = Err BadFormula

-- what the first role of a `not` makes of what is read after it
abbrev pub by_role : Option Role → ℕ → OrRefusal Found → OrRefusal Found → OrRefusal Found
by_role (Some Name) at after_not after_open = Ok (record { parsed = named at; after = at + 1 })
by_role (Some Not) at after_not after_open = and_then after_not (λ part. Ok (negated_found part))
by_role (Some Opens) at after_not after_open = after_open
by_role _ at after_not after_open = Err BadFormula

module _ (tokens : List Role) where
  unfoldable pub joins_at : Level → ℕ → Bool
  joins_at level at = role_joins level (slice_get tokens at)

  unfoldable pub closed : Found → OrRefusal Found
  closed part = closed_by (slice_get tokens part.after) part

  -- the members from here on, each after a token that joins it, with the number of the token after them
  unfoldable pub others_at : (ℕ → OrRefusal Found) → Level → ℕ → ℕ → OrRefusal (List Parsed × ℕ)
  others_at member level zero at = Ok ([], at)
  others_at member level (suc fuel) at =
      if joins_at level at
      then and_then (member (at + 1)) (λ next. and_then (others_at member level fuel next.after) (λ rest. Ok (next.parsed ∷ rest.0, rest.1)))
      else Ok ([], at)

  unfoldable pub chain_at : (ℕ → OrRefusal Found) → Level → ℕ → ℕ → OrRefusal Found
  chain_at member level room at =
      and_then (member at) (λ first.
      and_then (others_at member level (length tokens) first.after) (λ rest.
      and_then (joined_within room level first.parsed rest.0) (λ whole.
      Ok (record { parsed = whole; after = rest.1 }))))

  -- the reader of a phrase, from that of a `not`
  abbrev pub from_unary : (ℕ → OrRefusal Found) → ℕ → Phrase → ℕ → OrRefusal Found
  from_unary not room unary = not
  from_unary not room (chain All) = chain_at not All room
  from_unary not room (chain Any) = chain_at (chain_at not All room) Any room
  from_unary not room (chain Implies) = chain_at (chain_at (chain_at not All room) Any room) Implies room
  from_unary not room (chain Same) = chain_at (chain_at (chain_at (chain_at not All room) Any room) Implies room) Same room

  unfoldable pub read_unary : ℕ → ℕ → OrRefusal Found
  read_unary zero at = Err TooDeep
  read_unary (suc room) at =
      by_role (slice_get tokens at) at
      (read_unary room (at + 1))
      (and_then (from_unary (read_unary room) room (chain Same) (at + 1)) closed)

  -- a phrase of a height of at most `room`, read from the token `at` on
  unfoldable pub read : Phrase → ℕ → ℕ → OrRefusal Found
  read part room at = from_unary (read_unary room) room part at
