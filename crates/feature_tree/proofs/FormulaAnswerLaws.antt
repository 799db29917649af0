-- The function that computes the answer to tokens gives what the grammar says.
use Rattle.std.proofs.Common.{◌≡◌, ◌∙◌, refl, ap, sym, subst, append_assoc, ℕ, zero, suc, ◌+◌, ◌<◌, ◌≤◌, Bool, true, false, cond, nat_le, inl, inr, List, [], ◌∷◌, ◌++◌, length, length-append, Option, Some, None, Result, Ok, Err, IsFalse, arith}
use Rattle.std.specs.Option.{option_and_then, option_map}
use Rattle.std.proofs.lemmas.Bool.{cases_lt}
use Rattle.std.proofs.lemmas.Bool.Decides.{nat_tests}
use Rattle.std.proofs.lemmas.List.{append-nil}
use Rattle.uvl_lex.specs.declared.token.Token.{Token}
use Rattle.feature_tree.specs.declared.formula.Formula.{Formula}
use Rattle.feature_tree.specs.declared.reader.error.FormulaError.{FormulaError}
use Rattle.feature_tree.specs.declared.reader.error.FormulaError.TheVariants.{Unsupported, BadFormula, TooDeep, Memory}
use Rattle.feature_tree.specs.declared.reader.parsed.Parsed.{Parsed}
use Rattle.feature_tree.specs.declared.reader.role.Level.{Level}
use Rattle.feature_tree.specs.declared.reader.role.Level.TheVariants.{Same, Implies, Any, All}
use Rattle.feature_tree.specs.declared.reader.role.Role.{Role}
use Rattle.feature_tree.specs.declared.reader.role.Role.TheVariants.{Name, Not, Joins, Opens, Closes}
use Rattle.feature_tree.specs.FormulaAnswer.{depth_after, is_joint, Members, with_token, cut, all_of, Parser, each_by, whole, chain_by, phrase_by, if_closes, before_close, not_by, unary_by, parse, if_low, if_parsed, answer_to, formula_answer, IsRefusal, ParsesTheGrammar, FormulaAnswerIsTheAnswer}
use Rattle.feature_tree.specs.Grammar.{Phrase, chain, unary, member_of, named, negated, enclosed, joined, Reads, AreMembers, members, negation, parentheses, name, last, and}
use Rattle.feature_tree.specs.Refusals.{most, IsAnswer, IsMemory, IsRefused, StandsFor}
use Rattle.feature_tree.specs.Roles.{roles_of, has_unsupported}
use Rattle.feature_tree.proofs.Completeness.{is_looser, looser-member, looser-joint, joins-own, other_role}
use Rattle.feature_tree.proofs.FormulaLaws.{answers_same}

-- ---- options

bind_some : {A B : Type 0} (f : A → Option B) (o : Option A) (y : B) → option_and_then f o ≡ Some y → (x : A) × (o ≡ Some x) × (f x ≡ Some y)
bind_some f None y is = absurd (cc)
bind_some f (Some x) y is = (x, refl, is)

map_some : {A B : Type 0} (f : A → B) (o : Option A) (y : B) → option_map f o ≡ Some y → (x : A) × (o ≡ Some x) × (f x ≡ y)
map_some f None y is = absurd (cc)
map_some f (Some x) y is = let same : f x ≡ y = cc in (x, refl, same)

-- ---- what is parsed is read

abbrev Sound : Phrase → Parser → Type 0
Sound phrase parser = (from : ℕ) (tokens : List Role) (parsed : Parsed) → parser from tokens ≡ Some parsed → Reads phrase from tokens parsed

-- the tokens of which these are the members
rejoined : Level → List Role → List (List Role) → List Role
rejoined level first [] = first
rejoined level first (second ∷ more) = first ++ Joins level ∷ rejoined level second more

rejoined-more : (level : Level) (role : Role) (first : List Role) (others : List (List Role))
    → rejoined level (role ∷ first) others ≡ role ∷ rejoined level first others
unfolding rejoined
rejoined-more level role first [] = refl
rejoined-more level role first (second ∷ more) = refl

joint_role : (level : Level) (depth : ℕ) (role : Role) → is_joint level depth role ≡ true → role ≡ Joins level
joint_role Same zero (Joins Same) is = refl
joint_role Implies zero (Joins Implies) is = refl
joint_role Any zero (Joins Any) is = refl
joint_role All zero (Joins All) is = refl
joint_role level depth role is = absurd (cc)

whole_with_token : (level : Level) (depth : ℕ) (role : Role) (joint : Bool) → is_joint level depth role ≡ joint → (parts : Members) (after : List Role)
    → rejoined level parts.0 parts.1 ≡ after → rejoined level (with_token joint role parts).0 (with_token joint role parts).1 ≡ role ∷ after
unfolding rejoined
whole_with_token level depth role true is parts after same =
    ap (λ tokens. Joins level ∷ tokens) same ∙ ap (λ first. first ∷ after) (sym (joint_role level depth role is))
whole_with_token level depth role false is parts after same = rejoined-more level role parts.0 parts.1 ∙ ap (λ tokens. role ∷ tokens) same

rejoined-cut : (level : Level) (depth : ℕ) (tokens : List Role) → rejoined level (cut level depth tokens).0 (cut level depth tokens).1 ≡ tokens
unfolding cut rejoined
rejoined-cut level depth [] = refl
rejoined-cut level depth (role ∷ after) =
    whole_with_token level depth role (is_joint level depth role) refl (cut level (depth_after role depth) after) after
    (rejoined-cut level (depth_after role depth) after)

abbrev AreRead : Level → ℕ → List Role → List Parsed → Type 0
AreRead level from tokens [] = ⊥
AreRead level from tokens (first ∷ others) = AreMembers level from tokens first others

one_more_read : (level : Level) (from : ℕ) (tokens after : List Role) (first : Parsed) (others : List Parsed) → Reads (member_of level) from tokens first
    → AreRead level (from + length tokens + 1) after others → AreRead level from (tokens ++ Joins level ∷ after) (first ∷ others)
one_more_read level from tokens after first [] reads more = absurd more
one_more_read level from tokens after first (second ∷ others) reads more = and reads more

each_sound : (level : Level) (member : Parser) → Sound (member_of level) member → (from : ℕ) (first : List Role) (others : List (List Role)) (parts : List Parsed)
    → each_by member from (first ∷ others) ≡ Some parts → AreRead level from (rejoined level first others) parts
unfolding rejoined
each_sound level member sound from first [] parts is =
    let one = bind_some (λ p. option_map (λ more. p ∷ more) (each_by member (from + length first + 1) [])) (member from first) parts is in
    let same : one.0 ∷ [] ≡ parts = cc in
    subst (AreRead level from first) same (last (sound from first one.0 one.1))
each_sound level member sound from first (second ∷ more) parts is =
    let one = bind_some (λ p. option_map (λ rest. p ∷ rest) (each_by member (from + length first + 1) (second ∷ more))) (member from first) parts is in
    let rest = map_some (λ others. one.0 ∷ others) (each_by member (from + length first + 1) (second ∷ more)) parts one.2 in
    subst (AreRead level from (first ++ Joins level ∷ rejoined level second more)) rest.2
    (one_more_read level from first (rejoined level second more) one.0 rest.0 (sound from first one.0 one.1)
    (each_sound level member sound (from + length first + 1) second more rest.0 rest.1))

whole_sound : (level : Level) (from : ℕ) (tokens : List Role) (parts : List Parsed) (parsed : Parsed) → whole level parts ≡ Some parsed
    → AreRead level from tokens parts → Reads (chain level) from tokens parsed
whole_sound level from tokens [] parsed is read = absurd read
whole_sound level from tokens (first ∷ others) parsed is read =
    let same : joined level first others ≡ parsed = cc in subst (λ p. Reads (chain level) from tokens p) same (members read)

chain_sound : (level : Level) (member : Parser) → Sound (member_of level) member → Sound (chain level) (chain_by level member)
chain_sound level member sound from tokens parsed is =
    let parts = bind_some (whole level) (each_by member from (all_of (cut level 0 tokens))) parsed is in
    whole_sound level from tokens parts.0 parsed parts.2
    (subst (λ all. AreRead level from all parts.0) (rejoined-cut level 0 tokens)
    (each_sound level member sound from (cut level 0 tokens).0 (cut level 0 tokens).1 parts.0 parts.1))

phrase_sound : (not : Parser) → Sound unary not → (phrase : Phrase) → Sound phrase (phrase_by not phrase)
phrase_sound not sound unary = sound
phrase_sound not sound (chain All) = chain_sound All not sound
phrase_sound not sound (chain Any) = chain_sound Any (chain_by All not) (chain_sound All not sound)
phrase_sound not sound (chain Implies) =
    chain_sound Implies (chain_by Any (chain_by All not)) (chain_sound Any (chain_by All not) (chain_sound All not sound))
phrase_sound not sound (chain Same) =
    chain_sound Same (chain_by Implies (chain_by Any (chain_by All not)))
    (chain_sound Implies (chain_by Any (chain_by All not)) (chain_sound Any (chain_by All not) (chain_sound All not sound)))

if_closes-some : (role : Role) (inner : List Role) → if_closes role ≡ Some inner → role ∷ [] ≡ inner ++ Closes ∷ []
if_closes-some Closes inner is = let none : [] ≡ inner = cc in ap (λ front. front ++ Closes ∷ []) none
if_closes-some role inner is = absurd (cc)

before_close-some : (tokens inner : List Role) → before_close tokens ≡ Some inner → tokens ≡ inner ++ Closes ∷ []
before_close-some [] inner is = absurd (cc)
before_close-some (role ∷ []) inner is = if_closes-some role inner is
before_close-some (role ∷ next ∷ after) inner is =
    let rest = map_some (λ tokens. role ∷ tokens) (before_close (next ∷ after)) inner is in
    ap (λ tokens. role ∷ tokens) (before_close-some (next ∷ after) rest.0 rest.1) ∙ ap (λ front. front ++ Closes ∷ []) rest.2

not_sound : (shorter : Parser) → Sound unary shorter → Sound unary (not_by shorter)
not_sound shorter sound from (Name ∷ []) parsed is = let same : named from ≡ parsed = cc in subst (λ p. Reads unary from (Name ∷ []) p) same name
not_sound shorter sound from (Not ∷ tokens) parsed is =
    let inner = map_some negated (shorter (from + 1) tokens) parsed is in
    subst (λ p. Reads unary from (Not ∷ tokens) p) inner.2 (negation (sound (from + 1) tokens inner.0 inner.1))
not_sound shorter sound from (Opens ∷ tokens) parsed is =
    let whole = map_some enclosed (option_and_then (phrase_by shorter (chain Same) (from + 1)) (before_close tokens)) parsed is in
    let inside = bind_some (phrase_by shorter (chain Same) (from + 1)) (before_close tokens) whole.0 whole.1 in
    subst (λ after. Reads unary from (Opens ∷ after) parsed) (sym (before_close-some tokens inside.0 inside.1))
    (subst (λ p. Reads unary from (Opens ∷ (inside.0 ++ Closes ∷ [])) p) whole.2
    (parentheses (phrase_sound shorter sound (chain Same) (from + 1) inside.0 whole.0 inside.2)))
not_sound shorter sound from tokens parsed is = absurd (cc)

unary_sound : (count : ℕ) → Sound unary (unary_by count)
unfolding unary_by
unary_sound zero from tokens parsed is = absurd (cc)
unary_sound (suc less) from tokens parsed is = not_sound (unary_by less) (unary_sound less) from tokens parsed is

parse_sound : (phrase : Phrase) (from : ℕ) (tokens : List Role) (parsed : Parsed) → parse phrase from tokens ≡ Some parsed → Reads phrase from tokens parsed
unfolding parse
parse_sound phrase from tokens parsed is = phrase_sound (unary_by (length tokens)) (unary_sound (length tokens)) phrase from tokens parsed is

-- ---- a cut leaves phrases whole

-- no joint of the level stands in the phrase outside parentheses, where so many are open before it
abbrev IsWhole : ℕ → Phrase → Level → Type 0
IsWhole zero phrase level = is_looser phrase level ≡ true
IsWhole (suc depth) phrase level = Unit {0}

IsWhole-member : (depth : ℕ) (outer level : Level) → IsWhole depth (chain outer) level → IsWhole depth (member_of outer) level
IsWhole-member zero outer level is = looser-member outer level is
IsWhole-member (suc depth) outer level is = tt

no_joint_inside : (depth : ℕ) (outer level : Level) → IsWhole depth (chain outer) level → is_joint level depth (Joins outer) ≡ false
no_joint_inside zero Same Same is = absurd (cc)
no_joint_inside zero Implies Implies is = absurd (cc)
no_joint_inside zero Any Any is = absurd (cc)
no_joint_inside zero All All is = absurd (cc)
no_joint_inside zero Same Implies is = refl
no_joint_inside zero Same Any is = refl
no_joint_inside zero Same All is = refl
no_joint_inside zero Implies Same is = refl
no_joint_inside zero Implies Any is = refl
no_joint_inside zero Implies All is = refl
no_joint_inside zero Any Same is = refl
no_joint_inside zero Any Implies is = refl
no_joint_inside zero Any All is = refl
no_joint_inside zero All Same is = refl
no_joint_inside zero All Implies is = refl
no_joint_inside zero All Any is = refl
no_joint_inside (suc depth) outer level is = refl

plain-Name : (level : Level) (depth : ℕ) → is_joint level depth Name ≡ false
plain-Name level zero = (other_role level).0
plain-Name level (suc depth) = refl

plain-Not : (level : Level) (depth : ℕ) → is_joint level depth Not ≡ false
plain-Not level zero = (other_role level).1
plain-Not level (suc depth) = refl

plain-Opens : (level : Level) (depth : ℕ) → is_joint level depth Opens ≡ false
plain-Opens level zero = (other_role level).2
plain-Opens level (suc depth) = refl

-- some tokens before the first member
abbrev front : List Role → Members → Members
front tokens parts = (tokens ++ parts.0, parts.1)

cut-role : (level : Level) (depth : ℕ) (role : Role) (after : List Role) → is_joint level depth role ≡ false
    → cut level depth (role ∷ after) ≡ front (role ∷ []) (cut level (depth_after role depth) after)
unfolding cut
cut-role level depth role after is = ap (λ joint. with_token joint role (cut level (depth_after role depth) after)) is

cut-joint : (level : Level) (after : List Role) → cut level 0 (Joins level ∷ after) ≡ ([], all_of (cut level 0 after))
unfolding cut
cut-joint level after = ap (λ joint. with_token joint (Joins level) (cut level 0 after)) (joins-own level)

front-front : (one other : List Role) (parts : Members) → front one (front other parts) ≡ front (one ++ other) parts
front-front one other parts = ap {B = Members} (λ first. (first, parts.1)) (sym (append_assoc one other parts.0))

mutual
  cut_reads : {phrase : Phrase} {from : ℕ} {tokens : List Role} {parsed : Parsed} → Reads phrase from tokens parsed
      → (level : Level) (depth : ℕ) (rest : List Role) → IsWhole depth phrase level → cut level depth (tokens ++ rest) ≡ front tokens (cut level depth rest)
  cut_reads (members parts) level depth rest is = cut_members parts level depth rest is
  cut_reads (negation {tokens = tokens} part) level depth rest is =
      cut-role level depth Not (tokens ++ rest) (plain-Not level depth) ∙ ap (front (Not ∷ [])) (cut_reads part level depth rest is)
  cut_reads (parentheses {tokens = tokens} part) level depth rest is =
      cut-role level depth Opens ((tokens ++ Closes ∷ []) ++ rest) (plain-Opens level depth)
      ∙ ap (front (Opens ∷ []))
      (ap (cut level (suc depth)) (append_assoc tokens (Closes ∷ []) rest)
      ∙ cut_reads part level (suc depth) (Closes ∷ rest) tt
      ∙ ap (front tokens) (cut-role level (suc depth) Closes rest refl)
      ∙ front-front tokens (Closes ∷ []) (cut level depth rest))
  cut_reads name level depth rest is = cut-role level depth Name rest (plain-Name level depth)

  cut_members : {outer : Level} {from : ℕ} {tokens : List Role} {first : Parsed} {others : List Parsed} → AreMembers outer from tokens first others
      → (level : Level) (depth : ℕ) (rest : List Role) → IsWhole depth (chain outer) level → cut level depth (tokens ++ rest) ≡ front tokens (cut level depth rest)
  cut_members (last {level = outer} part) level depth rest is = cut_reads part level depth rest (IsWhole-member depth outer level is)
  cut_members (and {level = outer} {tokens = tokens} {after = after} part parts) level depth rest is =
      ap (cut level depth) (append_assoc tokens (Joins outer ∷ after) rest)
      ∙ cut_reads part level depth (Joins outer ∷ (after ++ rest)) (IsWhole-member depth outer level is)
      ∙ ap (front tokens)
      (cut-role level depth (Joins outer) (after ++ rest) (no_joint_inside depth outer level is)
      ∙ ap (front (Joins outer ∷ [])) (cut_members parts level depth rest is))
      ∙ front-front tokens (Joins outer ∷ after) (cut level depth rest)

-- ---- what is read is parsed

unary-suc : (less from : ℕ) (tokens : List Role) → unary_by (suc less) from tokens ≡ not_by (unary_by less) from tokens
unfolding unary_by
unary-suc less from tokens = refl

phrase-chain : (not : Parser) (level : Level) (from : ℕ) (tokens : List Role)
    → phrase_by not (chain level) from tokens ≡ chain_by level (phrase_by not (member_of level)) from tokens
phrase-chain not Same from tokens = refl
phrase-chain not Implies from tokens = refl
phrase-chain not Any from tokens = refl
phrase-chain not All from tokens = refl

before_close-push : (tokens : List Role) → before_close (tokens ++ Closes ∷ []) ≡ Some tokens
before_close-push [] = refl
before_close-push (role ∷ []) = refl
before_close-push (role ∷ next ∷ after) = ap (option_map (λ tokens. role ∷ tokens)) (before_close-push (next ∷ after))

no_rest : (level : Level) (tokens : List Role) → front tokens (cut level 0 []) ≡ (tokens, [])
unfolding cut
no_rest level tokens = ap {B = Members} (λ first. (first, [])) (append-nil tokens)

mutual
  reads_found : {phrase : Phrase} {from : ℕ} {tokens : List Role} {parsed : Parsed} → Reads phrase from tokens parsed
      → (count : ℕ) → length tokens ≤ count → phrase_by (unary_by count) phrase from tokens ≡ Some parsed
  reads_found (members {level = level} {from = from} {tokens = tokens} parts) count enough =
      phrase-chain (unary_by count) level from tokens ∙ ap (option_and_then (whole level)) (members_found parts count enough)
  reads_found (negation part) zero enough = absurd (omega arith)
  reads_found (negation {from = from} {tokens = tokens} part) (suc less) enough =
      unary-suc less from (Not ∷ tokens) ∙ ap (option_map negated) (reads_found part less (omega arith))
  reads_found (parentheses part) zero enough = absurd (omega arith)
  reads_found (parentheses {from = from} {tokens = tokens} part) (suc less) enough =
      let size = length-append tokens (Closes ∷ []) in
      unary-suc less from (Opens ∷ (tokens ++ Closes ∷ []))
      ∙ ap (λ inside. option_map enclosed (option_and_then (phrase_by (unary_by less) (chain Same) (from + 1)) inside)) (before_close-push tokens)
      ∙ ap (option_map enclosed) (reads_found part less (omega arith))
  reads_found name zero enough = absurd (omega arith)
  reads_found (name {from = from}) (suc less) enough = unary-suc less from (Name ∷ [])

  members_found : {level : Level} {from : ℕ} {tokens : List Role} {first : Parsed} {others : List Parsed} → AreMembers level from tokens first others
      → (count : ℕ) → length tokens ≤ count
      → each_by (phrase_by (unary_by count) (member_of level)) from (all_of (cut level 0 tokens)) ≡ Some (first ∷ others)
  members_found (last {level = level} {from = from} {tokens = tokens} part) count enough =
      let alone : cut level 0 tokens ≡ (tokens, []) =
      ap (cut level 0) (sym (append-nil tokens)) ∙ cut_reads part level 0 [] (looser-joint level) ∙ no_rest level tokens in
      ap (λ parts. each_by (phrase_by (unary_by count) (member_of level)) from (all_of parts)) alone
      ∙ ap (option_and_then (λ first. Some (first ∷ []))) (reads_found part count enough)
  members_found (and {level = level} {from = from} {tokens = tokens} {after = after} {first = first} part parts) count enough =
      let size = length-append tokens (Joins level ∷ after) in
      let member : Parser = phrase_by (unary_by count) (member_of level) in
      let split : cut level 0 (tokens ++ Joins level ∷ after) ≡ (tokens, all_of (cut level 0 after)) =
      cut_reads part level 0 (Joins level ∷ after) (looser-joint level)
      ∙ ap (front tokens) (cut-joint level after)
      ∙ ap {B = Members} (λ first. (first, all_of (cut level 0 after))) (append-nil tokens) in
      ap (λ parts. each_by member from (all_of parts)) split
      ∙ ap (option_and_then (λ first. option_map (λ others. first ∷ others) (each_by member (from + length tokens + 1) (all_of (cut level 0 after))))) (reads_found part count (omega arith))
      ∙ ap (option_map (λ others. first ∷ others)) (members_found parts count (omega arith))

parse_found : (phrase : Phrase) (from : ℕ) (tokens : List Role) (parsed : Parsed) → Reads phrase from tokens parsed → parse phrase from tokens ≡ Some parsed
unfolding parse
parse_found phrase from tokens parsed reads = reads_found reads (length tokens) (omega arith)

pub parses_the_grammar : ParsesTheGrammar
parses_the_grammar phrase from tokens parsed = (parse_sound phrase from tokens parsed, parse_found phrase from tokens parsed)

-- ---- the answer

if_low-low : (parsed : Parsed) → parsed.height ≤ most → if_low parsed ≡ Ok parsed.formula
if_low-low parsed low = let fits : nat_le parsed.height most ≡ true = grind (arith, nat_tests) in rw fits refl

if_low-high : (parsed : Parsed) → most < parsed.height → if_low parsed ≡ Err TooDeep
if_low-high parsed high = let fits : nat_le parsed.height most ≡ false = grind (arith, nat_tests) in rw fits refl

-- the answer, and that it isn't want of memory
abbrev Answered : List Role → Result Formula FormulaError → Type 0
Answered tokens answer = IsAnswer tokens answer × ¬ IsMemory answer

answered_if_parsed : (tokens : List Role) (parsed : Option Parsed) → parse (chain Same) 0 tokens ≡ parsed → IsFalse (has_unsupported tokens) → Answered tokens (if_parsed parsed)
answered_if_parsed tokens None is supported = (
  record { supported = supported; none = λ parsed reads. let found = parse_found (chain Same) 0 tokens parsed reads in absurd (cc) },
  λ e. cc,
)
answered_if_parsed tokens (Some parsed) is supported =
    let reads = parse_sound (chain Same) 0 tokens parsed is in
    elim (cases_lt most parsed.height) [
      | inl high ↦ subst (Answered tokens) (sym (if_low-high parsed high)) (record { supported = supported; parsed = parsed; reads = reads; high = high }, λ e. cc)
      | inr low ↦ subst (Answered tokens) (sym (if_low-low parsed low)) (record { supported = supported; height = parsed.height; reads = reads; low = low }, λ e. cc)
    ]

answered : (tokens : List Role) → Answered tokens (answer_to tokens)
unfolding answer_to
answered tokens = by_support (has_unsupported tokens) refl
  where
    by_support : (unsupported : Bool) → has_unsupported tokens ≡ unsupported
        → Answered tokens (cond unsupported (Err Unsupported) (if_parsed (parse (chain Same) 0 tokens)))
    by_support true is = (is, λ e. cc)
    by_support false is = answered_if_parsed tokens (parse (chain Same) 0 tokens) refl is

-- what `formula_of` ensures of its result, by the function
pub formula_is_answered : (tokens : List Token) (formula : Formula) → StandsFor (roles_of tokens) formula → formula_answer tokens ≡ Ok formula
unfolding formula_answer
formula_is_answered tokens formula stands =
    let own = answered (roles_of tokens) in
    answers_same (roles_of tokens) (answer_to (roles_of tokens)) (Ok formula) own.0 stands own.1 (λ e. cc)

pub refusal_is_answered : (tokens : List Token) (reason : FormulaError) → IsRefused (roles_of tokens) reason → IsRefusal reason (formula_answer tokens)
unfolding formula_answer
refusal_is_answered tokens Memory refused = tt
refusal_is_answered tokens Unsupported refused =
    let own = answered (roles_of tokens) in
    answers_same (roles_of tokens) (answer_to (roles_of tokens)) (Err Unsupported) own.0 refused own.1 (λ e. cc)
refusal_is_answered tokens BadFormula refused =
    let own = answered (roles_of tokens) in
    answers_same (roles_of tokens) (answer_to (roles_of tokens)) (Err BadFormula) own.0 refused own.1 (λ e. cc)
refusal_is_answered tokens TooDeep refused =
    let own = answered (roles_of tokens) in
    answers_same (roles_of tokens) (answer_to (roles_of tokens)) (Err TooDeep) own.0 refused own.1 (λ e. cc)

pub formula_answer_is_the_answer : FormulaAnswerIsTheAnswer
unfolding formula_answer
formula_answer_is_the_answer tokens answer =
    let own = answered (roles_of tokens) in (
      λ is. answers_same (roles_of tokens) answer (answer_to (roles_of tokens)) is.0 own.0 is.1 own.1,
      λ is. subst (Answered (roles_of tokens)) (sym is) own,
    )
