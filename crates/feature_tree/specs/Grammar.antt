-- The grammar of formulas, as a relation between whole lists of tokens and what is read of them. Own to this project.
--
--   same    = implies { "<=>" implies }         from the left
--   implies = any { "=>" any }                  from the left
--   any     = all { "|" all }                   two or more members: one Any node
--   all     = not { "&" not }                   two or more members: one All node
--   not     = "!" not | "(" same ")" | name
--
-- The height of a name is 1. `!F` and `(F)` are one higher than F, an All or Any node is one higher than its highest
-- member, and each `=>` and `<=>` one higher than the higher of its two sides. A chain of one member is that member.
use Rattle.std.specs.Prelude.{ℕ, ◌+◌, max, List, [], ◌∷◌, ◌++◌, length, map}
use Rattle.feature_tree.specs.declared.formula.Formula.{Formula}
use Rattle.feature_tree.specs.declared.formula.Formula.TheVariants as formula
use Rattle.feature_tree.specs.declared.reader.parsed.Parsed.{Parsed}
use Rattle.feature_tree.specs.declared.reader.role.Level.{Level}
use Rattle.feature_tree.specs.declared.reader.role.Level.TheVariants.{Same, Implies, Any, All}
use Rattle.feature_tree.specs.declared.reader.role.Role.{Role}
use Rattle.feature_tree.specs.declared.reader.role.Role.TheVariants.{Name, Not, Joins, Opens, Closes}

-- What is parsed is a formula with its height. In the formula each name is the number of its token.

-- WHAT IS READ OF THE PHRASES

-- a name that is the token of this number
abbrev pub named : ℕ → Parsed
named token = record { formula = formula.Name token; height = 1 }

abbrev pub negated : Parsed → Parsed
negated part = record { formula = formula.Not part.formula; height = part.height + 1 }

-- parentheses leave the formula as it is
abbrev pub enclosed : Parsed → Parsed
enclosed part = record { formula = part.formula; height = part.height + 1 }

abbrev pub paired : (Formula → Formula → Formula) → Parsed → Parsed → Parsed
paired pair left right = record { formula = pair left.formula right.formula; height = max left.height right.height + 1 }

-- each member is paired with all before it
abbrev pub from_the_left : (Formula → Formula → Formula) → Parsed → List Parsed → Parsed
from_the_left pair first [] = first
from_the_left pair first (second ∷ others) = from_the_left pair (paired pair first second) others

-- the height of the highest
abbrev pub highest : List Parsed → ℕ
highest [] = 0
highest (part ∷ parts) = max part.height (highest parts)

-- one node over two or more members
abbrev pub in_one_node : (List Formula → Formula) → Parsed → List Parsed → Parsed
in_one_node node first [] = first
in_one_node node first (second ∷ others) =
    record { formula = node (map (λ part. part.formula) (first ∷ second ∷ others)); height = highest (first ∷ second ∷ others) + 1 }

-- what is read of a chain: of its first member and the others
abbrev pub joined : Level → Parsed → List Parsed → Parsed
joined Same first others = from_the_left formula.Same first others
joined Implies first others = from_the_left formula.Implies first others
joined Any first others = in_one_node formula.Any first others
joined All first others = in_one_node formula.All first others

-- THE GRAMMAR

-- a phrase of the grammar: a chain of some level, or a `not`
pub data Phrase : Type 0 where
  chain : Level → Phrase
  unary : Phrase

-- what the members of a chain are
abbrev pub member_of : Level → Phrase
member_of Same = chain Implies
member_of Implies = chain Any
member_of Any = chain All
member_of All = unary

mutual
  -- The tokens, of which the first has the number `from`, are such a phrase, and this is what is read of them.
  pub data Reads : Phrase → ℕ → List Role → Parsed → Type 0 where
    members : {level : Level} {from : ℕ} {tokens : List Role} {first : Parsed} {others : List Parsed}
        → AreMembers level from tokens first others
        → Reads (chain level) from tokens (joined level first others)
    negation : {from : ℕ} {tokens : List Role} {part : Parsed}
        → Reads unary (from + 1) tokens part
        → Reads unary from (Not ∷ tokens) (negated part)
    parentheses : {from : ℕ} {tokens : List Role} {part : Parsed}
        → Reads (chain Same) (from + 1) tokens part
        → Reads unary from (Opens ∷ (tokens ++ Closes ∷ [])) (enclosed part)
    name : {from : ℕ}
        → Reads unary from (Name ∷ []) (named from)

  -- The tokens are the members of a chain: a first one, and others, before each of which a token joins it.
  pub data AreMembers : Level → ℕ → List Role → Parsed → List Parsed → Type 0 where
    last : {level : Level} {from : ℕ} {tokens : List Role} {first : Parsed}
        → Reads (member_of level) from tokens first
        → AreMembers level from tokens first []
    and : {level : Level} {from : ℕ} {tokens after : List Role} {first second : Parsed} {others : List Parsed}
        → Reads (member_of level) from tokens first
        → AreMembers level (from + length tokens + 1) after second others
        → AreMembers level from (tokens ++ Joins level ∷ after) first (second ∷ others)

-- the tokens are a `same`, and this is what is read of them
abbrev pub IsFormula : List Role → Parsed → Type 0
IsFormula tokens parsed = Reads (chain Same) 0 tokens parsed

abbrev pub HasFormula : List Role → Type 0
HasFormula tokens = (parsed : Parsed) × IsFormula tokens parsed
