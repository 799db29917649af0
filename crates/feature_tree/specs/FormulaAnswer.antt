-- The one answer to a list of tokens, as a function that computes. It goes by the grammar, from the outside in: a chain is
-- cut where its joints stand outside parentheses, and the tokens between two joints are a member.
use Rattle.std.specs.Prelude.{◌≡◌, ◌↔◌, ℕ, zero, suc, ◌+◌, Bool, true, false, if◌then◌else◌, nat_le, List, [], ◌∷◌, length, Option, Some, None, Result, Ok, Err}
use Rattle.std.specs.Option.{option_and_then, option_map}
use Rattle.uvl_lex.specs.declared.token.Token.{Token}
use Rattle.feature_tree.specs.declared.formula.Formula.{Formula}
use Rattle.feature_tree.specs.declared.reader.error.FormulaError.{FormulaError}
use Rattle.feature_tree.specs.declared.reader.error.FormulaError.TheVariants.{Unsupported, BadFormula, TooDeep, Memory}
use Rattle.feature_tree.specs.declared.reader.parsed.Parsed.{Parsed}
use Rattle.feature_tree.specs.declared.reader.role.Level.{Level}
use Rattle.feature_tree.specs.declared.reader.role.Level.TheVariants.{Same, Implies, Any, All}
use Rattle.feature_tree.specs.declared.reader.role.Role.{Role}
use Rattle.feature_tree.specs.declared.reader.role.Role.TheVariants.{Name, Not, Opens, Closes}
use Rattle.feature_tree.specs.Grammar.{Phrase, chain, unary, named, negated, enclosed, joined, Reads}
use Rattle.feature_tree.specs.Refusals.{most, IsAnswer, IsMemory}
use Rattle.feature_tree.specs.Roles.{roles_of, joins, has_unsupported}

-- THE MEMBERS OF A CHAIN

-- how many parentheses are open after a token
abbrev pub depth_after : Role → ℕ → ℕ
depth_after Opens depth = suc depth
depth_after Closes (suc depth) = depth
depth_after _ depth = depth

-- whether the token joins members of a chain of this level, which it does outside parentheses alone
abbrev pub is_joint : Level → ℕ → Role → Bool
is_joint level zero role = joins level role
is_joint level (suc depth) role = false

-- the tokens of the first member, and those of each other one
abbrev pub Members : Type 0
Members = List Role × List (List Role)

-- one token before these: a joint, with an empty member before it, or a token of the first member
abbrev pub with_token : Bool → Role → Members → Members
with_token true role parts = ([], parts.0 ∷ parts.1)
with_token false role parts = (role ∷ parts.0, parts.1)

-- the members of a chain of this level, where so many parentheses are open before the tokens
unfoldable pub cut : Level → ℕ → List Role → Members
cut level depth [] = ([], [])
cut level depth (role ∷ after) = with_token (is_joint level depth role) role (cut level (depth_after role depth) after)

abbrev pub all_of : Members → List (List Role)
all_of parts = parts.0 ∷ parts.1

-- THE PHRASES

-- what a phrase is of these tokens, of which the first has this number, if they are such a phrase
abbrev pub Parser : Type 0
Parser = ℕ → List Role → Option Parsed

-- each of these lists, with a joint between neighbours
abbrev pub each_by : Parser → ℕ → List (List Role) → Option (List Parsed)
each_by member from [] = Some []
each_by member from (tokens ∷ more) =
    option_and_then (λ first. option_map (λ others. first ∷ others) (each_by member (from + length tokens + 1) more)) (member from tokens)

abbrev pub whole : Level → List Parsed → Option Parsed
whole level [] = None
whole level (first ∷ others) = Some (joined level first others)

-- a chain: each member, and then all of them joined
abbrev pub chain_by : Level → Parser → Parser
chain_by level member from tokens = option_and_then (whole level) (each_by member from (all_of (cut level 0 tokens)))

-- the formula of a phrase, given the answers for `not` phrases
abbrev pub phrase_by : Parser → Phrase → Parser
phrase_by not unary = not
phrase_by not (chain All) = chain_by All not
phrase_by not (chain Any) = chain_by Any (chain_by All not)
phrase_by not (chain Implies) = chain_by Implies (chain_by Any (chain_by All not))
phrase_by not (chain Same) = chain_by Same (chain_by Implies (chain_by Any (chain_by All not)))

abbrev pub if_closes : Role → Option (List Role)
if_closes Closes = Some []
if_closes _ = None

-- the tokens before the last one, if that is a parenthesis that closes
abbrev pub before_close : List Role → Option (List Role)
before_close [] = None
before_close (role ∷ []) = if_closes role
before_close (role ∷ next ∷ after) = option_map (λ tokens. role ∷ tokens) (before_close (next ∷ after))

-- the formula of a `not` phrase by its first token, given the answers for shorter ones
abbrev pub not_by : Parser → Parser
not_by shorter from (Name ∷ []) = Some (named from)
not_by shorter from (Not ∷ tokens) = option_map negated (shorter (from + 1) tokens)
not_by shorter from (Opens ∷ tokens) = option_map enclosed (option_and_then (phrase_by shorter (chain Same) (from + 1)) (before_close tokens))
not_by shorter from _ = None

-- a `not` of at most so many tokens
unfoldable pub unary_by : ℕ → Parser
unary_by zero from tokens = None
unary_by (suc less) from tokens = not_by (unary_by less) from tokens

unfoldable pub parse : Phrase → Parser
parse phrase from tokens = phrase_by (unary_by (length tokens)) phrase from tokens

-- THE ANSWER

abbrev pub if_low : Parsed → Result Formula FormulaError
if_low parsed = if nat_le parsed.height most then Ok parsed.formula else Err TooDeep

abbrev pub if_parsed : Option Parsed → Result Formula FormulaError
if_parsed None = Err BadFormula
if_parsed (Some parsed) = if_low parsed

unfoldable pub answer_to : List Role → Result Formula FormulaError
answer_to roles = if has_unsupported roles then Err Unsupported else if_parsed (parse (chain Same) 0 roles)

unfoldable pub formula_answer : List Token → Result Formula FormulaError
formula_answer tokens = answer_to (roles_of tokens)

-- the reason is the refusal that is answered, unless it is want of memory
abbrev pub IsRefusal : FormulaError → Result Formula FormulaError → Type 0
IsRefusal Unsupported answer = answer ≡ Err Unsupported
IsRefusal BadFormula answer = answer ≡ Err BadFormula
IsRefusal TooDeep answer = answer ≡ Err TooDeep
IsRefusal Memory answer = Unit {0}

-- LAWS

-- The tokens are parsed as the grammar reads them.
abbrev pub ParsesTheGrammar : Type 0
ParsesTheGrammar =
    (phrase : Phrase) (from : ℕ) (tokens : List Role) (parsed : Parsed) → (parse phrase from tokens ≡ Some parsed) ↔ Reads phrase from tokens parsed

-- It is the one answer that isn't want of memory.
abbrev pub FormulaAnswerIsTheAnswer : Type 0
FormulaAnswerIsTheAnswer =
    (tokens : List Token) (answer : Result Formula FormulaError) → (IsAnswer (roles_of tokens) answer × ¬ IsMemory answer) ↔ (answer ≡ formula_answer tokens)
