-- Worked examples: the answers to whole lists of tokens, each computed. The values were worked out by hand.
use Rattle.std.specs.Prelude.{◌≡◌, ℕ, zero, suc, ◌+◌, ◌*◌, List, [], ◌∷◌, ◌++◌, map, Result, Ok, Err, refl}
use Rattle.uvl_lex.specs.declared.token.Keyword.TheVariants.{Or, True}
use Rattle.uvl_lex.specs.declared.token.Mark.TheVariants.{Amp, AtMost, Bang, Bar, CloseRound, CloseSquare, Iff, OpenRound, OpenSquare, Then}
use Rattle.uvl_lex.specs.declared.token.Token.{Token}
use Rattle.uvl_lex.specs.declared.token.TokenKind.{TokenKind}
use Rattle.uvl_lex.specs.declared.token.TokenKind.TheVariants.{Name as NameToken, Quoted, Text, Number, Keyword, Mark}
use Rattle.feature_tree.specs.declared.formula.Formula.{Formula}
use Rattle.feature_tree.specs.declared.formula.Formula.TheVariants.{Name, Not, All, Any, Implies, Same}
use Rattle.feature_tree.specs.declared.reader.error.FormulaError.{FormulaError}
use Rattle.feature_tree.specs.declared.reader.error.FormulaError.TheVariants.{Unsupported, BadFormula, TooDeep}
use Rattle.feature_tree.specs.FormulaAnswer.{answer_to, cut, formula_answer, parse, unary_by}

-- `unfolding computing` lets `refl` compute an answer
unfoldable pub computing : Unit {0}
unfolding formula_answer answer_to parse unary_by cut
computing = tt

-- tokens of these kinds, wherever they stand
abbrev tokens : List TokenKind → List Token
tokens kinds = map (λ kind. record { kind = kind; start = 0; end = 0; line = 0 }) kinds

abbrev formula : Formula → Result Formula FormulaError
formula whole = Ok whole

abbrev a : TokenKind
a = NameToken

abbrev and : TokenKind
and = Mark Amp

abbrev or : TokenKind
or = Mark Bar

abbrev implies : TokenKind
implies = Mark Then

abbrev same : TokenKind
same = Mark Iff

abbrev no : TokenKind
no = Mark Bang

abbrev open_round : TokenKind
open_round = Mark OpenRound

abbrev close_round : TokenKind
close_round = Mark CloseRound

-- so many of this kind
abbrev many : ℕ → TokenKind → List TokenKind
many zero kind = []
many (suc count) kind = kind ∷ many count kind

-- `a => a => ..` with so many joints
abbrev arrows : ℕ → List TokenKind
arrows zero = a ∷ []
arrows (suc count) = a ∷ implies ∷ arrows count

-- what it stands for
abbrev leftwards : ℕ → Formula
leftwards zero = Name 0
leftwards (suc count) = Implies (leftwards count) (Name (2 * (count + 1)))

-- so many negations
abbrev nots : ℕ → Formula → Formula
nots zero part = part
nots (suc count) part = Not (nots count part)

-- ---- formulas

-- `a`
pub one_name : formula_answer (tokens (a ∷ [])) ≡ formula (Name 0)
unfolding computing
one_name = refl

-- `a & b | c => d <=> e`: each joint binds more tightly than those after it
pub tightest_first : formula_answer (tokens (a ∷ and ∷ a ∷ or ∷ a ∷ implies ∷ a ∷ same ∷ a ∷ []))
    ≡ formula (Same (Implies (Any (All (Name 0 ∷ Name 2 ∷ []) ∷ Name 4 ∷ [])) (Name 6)) (Name 8))
unfolding computing
tightest_first = refl

-- `a <=> b => c | d & e`
pub tightest_last : formula_answer (tokens (a ∷ same ∷ a ∷ implies ∷ a ∷ or ∷ a ∷ and ∷ a ∷ []))
    ≡ formula (Same (Name 0) (Implies (Name 2) (Any (Name 4 ∷ All (Name 6 ∷ Name 8 ∷ []) ∷ []))))
unfolding computing
tightest_last = refl

-- `a => b => c => d`, from the left
pub implications_from_the_left : formula_answer (tokens (a ∷ implies ∷ a ∷ implies ∷ a ∷ implies ∷ a ∷ []))
    ≡ formula (Implies (Implies (Implies (Name 0) (Name 2)) (Name 4)) (Name 6))
unfolding computing
implications_from_the_left = refl

-- `a <=> b <=> c`, from the left
pub equivalences_from_the_left : formula_answer (tokens (a ∷ same ∷ a ∷ same ∷ a ∷ [])) ≡ formula (Same (Same (Name 0) (Name 2)) (Name 4))
unfolding computing
equivalences_from_the_left = refl

-- `a & b & c` is one node
pub one_node_of_three : formula_answer (tokens (a ∷ and ∷ a ∷ and ∷ a ∷ [])) ≡ formula (All (Name 0 ∷ Name 2 ∷ Name 4 ∷ []))
unfolding computing
one_node_of_three = refl

-- `(a | b) & (c | d)`: parentheses keep their joints to themselves
pub parentheses_group : formula_answer (tokens (open_round ∷ a ∷ or ∷ a ∷ close_round ∷ and ∷ open_round ∷ a ∷ or ∷ a ∷ close_round ∷ []))
    ≡ formula (All (Any (Name 1 ∷ Name 3 ∷ []) ∷ Any (Name 7 ∷ Name 9 ∷ []) ∷ []))
unfolding computing
parentheses_group = refl

-- `a & (b & c)` is a node in a node
pub nodes_stay_apart : formula_answer (tokens (a ∷ and ∷ open_round ∷ a ∷ and ∷ a ∷ close_round ∷ []))
    ≡ formula (All (Name 0 ∷ All (Name 3 ∷ Name 5 ∷ []) ∷ []))
unfolding computing
nodes_stay_apart = refl

-- `!a & !(b => c)`
pub a_negation_binds_one : formula_answer (tokens (no ∷ a ∷ and ∷ no ∷ open_round ∷ a ∷ implies ∷ a ∷ close_round ∷ []))
    ≡ formula (All (Not (Name 1) ∷ Not (Implies (Name 5) (Name 7)) ∷ []))
unfolding computing
a_negation_binds_one = refl

-- ---- no formula

pub nothing : formula_answer (tokens []) ≡ Err BadFormula
unfolding computing
nothing = refl

-- `a &`
pub no_member : formula_answer (tokens (a ∷ and ∷ [])) ≡ Err BadFormula
unfolding computing
no_member = refl

-- `(a`, `a)` and `()`
pub left_open : formula_answer (tokens (open_round ∷ a ∷ [])) ≡ Err BadFormula
unfolding computing
left_open = refl

pub closed_twice : formula_answer (tokens (a ∷ close_round ∷ [])) ≡ Err BadFormula
unfolding computing
closed_twice = refl

pub nothing_inside : formula_answer (tokens (open_round ∷ close_round ∷ [])) ≡ Err BadFormula
unfolding computing
nothing_inside = refl

-- `a b`, `(a) b`, `a !` and `[a]`
pub two_names : formula_answer (tokens (a ∷ a ∷ [])) ≡ Err BadFormula
unfolding computing
two_names = refl

pub a_name_behind : formula_answer (tokens (open_round ∷ a ∷ close_round ∷ a ∷ [])) ≡ Err BadFormula
unfolding computing
a_name_behind = refl

pub a_negation_behind : formula_answer (tokens (a ∷ no ∷ [])) ≡ Err BadFormula
unfolding computing
a_negation_behind = refl

pub in_square_brackets : formula_answer (tokens (Mark OpenSquare ∷ a ∷ Mark CloseSquare ∷ [])) ≡ Err BadFormula
unfolding computing
in_square_brackets = refl

-- a reserved word
pub a_keyword : formula_answer (tokens (Keyword Or ∷ [])) ≡ Err BadFormula
unfolding computing
a_keyword = refl

-- ---- heights: 199 negations of a name have the height 200

pub as_high_as_may_be : formula_answer (tokens (many 199 no ++ a ∷ [])) ≡ formula (nots 199 (Name 199))
unfolding computing
as_high_as_may_be = refl

pub one_too_high : formula_answer (tokens (many 200 no ++ a ∷ [])) ≡ Err TooDeep
unfolding computing
one_too_high = refl

-- and so has a chain of 199 joints that groups from the left
pub a_chain_as_high : formula_answer (tokens (arrows 199)) ≡ formula (leftwards 199)
unfolding computing
a_chain_as_high = refl

pub a_chain_too_high : formula_answer (tokens (arrows 200)) ≡ Err TooDeep
unfolding computing
a_chain_too_high = refl

-- ---- the first refusal that holds

-- `a & 1 )`: a number comes before all else
pub unsupported_before_bad : formula_answer (tokens (a ∷ and ∷ Number ∷ close_round ∷ [])) ≡ Err Unsupported
unfolding computing
unsupported_before_bad = refl

-- `a (b)` is a call
pub a_call : formula_answer (tokens (a ∷ open_round ∷ a ∷ close_round ∷ [])) ≡ Err Unsupported
unfolding computing
a_call = refl

-- `"f" (a)` is one too
pub a_quoted_call : formula_answer (tokens (Quoted ∷ open_round ∷ a ∷ close_round ∷ [])) ≡ Err Unsupported
unfolding computing
a_quoted_call = refl

-- `a <= b`
pub a_comparison : formula_answer (tokens (a ∷ Mark AtMost ∷ a ∷ [])) ≡ Err Unsupported
unfolding computing
a_comparison = refl

-- a text
pub a_text : formula_answer (tokens (Text ∷ [])) ≡ Err Unsupported
unfolding computing
a_text = refl

-- `true`
pub a_truth_value : formula_answer (tokens (Keyword True ∷ [])) ≡ Err Unsupported
unfolding computing
a_truth_value = refl

-- too many negations of a number, and of two names
pub unsupported_before_too_deep : formula_answer (tokens (many 200 no ++ Number ∷ [])) ≡ Err Unsupported
unfolding computing
unsupported_before_too_deep = refl

pub bad_before_too_deep : formula_answer (tokens (many 200 no ++ a ∷ a ∷ [])) ≡ Err BadFormula
unfolding computing
bad_before_too_deep = refl
