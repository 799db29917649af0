-- One look over the tokens says whether they have a formula.
use Rattle.std.proofs.Common.{◌≡◌, ◌∙◌, refl, ap, sym, subst, ℕ, zero, suc, ◌+◌, ◌<◌, Bool, true, false, ◌||◌, List, [], ◌∷◌, ◌++◌, length, append_assoc, Option, Some, None, arith}
use Rattle.std.proofs.lemmas.List.{append-nil}
use Rattle.feature_tree.specs.declared.reader.parsed.Parsed.{Parsed}
use Rattle.feature_tree.specs.declared.reader.role.Level.{Level}
use Rattle.feature_tree.specs.declared.reader.role.Level.TheVariants.{Same, Implies, Any, All}
use Rattle.feature_tree.specs.declared.reader.role.Role.{Role}
use Rattle.feature_tree.specs.declared.reader.role.Role.TheVariants.{Name, Not, Joins, Opens, Closes, Unsupported, Other}
use Rattle.feature_tree.specs.Grammar.{Phrase, chain, unary, member_of, Reads, AreMembers, members, negation, parentheses, name, last, and, HasFormula}
use Rattle.feature_tree.specs.Roles.{has_unsupported}
use Rattle.feature_tree.specs.inside.Scan.{is_name, is_unsupported, next_stage}
use Rattle.feature_tree.specs.declared.reader.scan.Stage.{Stage}

-- Whether the tokens may go on so and end, where an operand is wanted next or one stands before, and so many
-- parentheses are open.
abbrev pub scan : Bool → ℕ → List Role → Bool
scan true depth [] = false
scan true depth (Name ∷ after) = scan false depth after
scan true depth (Not ∷ after) = scan true depth after
scan true depth (Opens ∷ after) = scan true (suc depth) after
scan true depth (role ∷ after) = false
scan false zero [] = true
scan false (suc depth) [] = false
scan false depth (Joins level ∷ after) = scan true depth after
scan false (suc depth) (Closes ∷ after) = scan false depth after
scan false depth (role ∷ after) = false

-- ---- what has a formula passes

mutual
  pub scan_reads : {part : Phrase} {from : ℕ} {tokens : List Role} {parsed : Parsed} → Reads part from tokens parsed
      → (depth : ℕ) (rest : List Role) → scan true depth (tokens ++ rest) ≡ scan false depth rest
  scan_reads (members parts) depth rest = scan_members parts depth rest
  scan_reads (negation part) depth rest = scan_reads part depth rest
  scan_reads (parentheses {tokens = tokens} part) depth rest =
      ap (λ all. scan true (suc depth) all) (append_assoc tokens (Closes ∷ []) rest) ∙ scan_reads part (suc depth) (Closes ∷ rest)
  scan_reads name depth rest = refl

  pub scan_members : {level : Level} {from : ℕ} {tokens : List Role} {first : Parsed} {others : List Parsed} → AreMembers level from tokens first others
      → (depth : ℕ) (rest : List Role) → scan true depth (tokens ++ rest) ≡ scan false depth rest
  scan_members (last part) depth rest = scan_reads part depth rest
  scan_members (and {level = level} {tokens = tokens} {after = after} part parts) depth rest =
      ap (λ all. scan true depth all) (append_assoc tokens (Joins level ∷ after) rest)
      ∙ scan_reads part depth (Joins level ∷ (after ++ rest))
      ∙ scan_members parts depth rest

pub scan_formula : (tokens : List Role) → HasFormula tokens → scan true 0 tokens ≡ true
scan_formula tokens (parsed, reads) = ap (λ all. scan true 0 all) (sym (append-nil tokens)) ∙ scan_reads reads 0 []

-- ---- the grammar without what is read

mutual
  data IsShape : Phrase → List Role → Type 0 where
    shapes : {level : Level} {tokens : List Role} → AreShapes level tokens → IsShape (chain level) tokens
    not_shape : {tokens : List Role} → IsShape unary tokens → IsShape unary (Not ∷ tokens)
    closed_shape : {tokens : List Role} → IsShape (chain Same) tokens → IsShape unary (Opens ∷ (tokens ++ Closes ∷ []))
    name_shape : IsShape unary (Name ∷ [])

  data AreShapes : Level → List Role → Type 0 where
    last_shape : {level : Level} {tokens : List Role} → IsShape (member_of level) tokens → AreShapes level tokens
    and_shape : {level : Level} {tokens after : List Role}
        → IsShape (member_of level) tokens → AreShapes level after → AreShapes level (tokens ++ Joins level ∷ after)

-- each shape is read from each token
mutual
  reads_of : {part : Phrase} {tokens : List Role} → IsShape part tokens → (from : ℕ) → (parsed : Parsed) × Reads part from tokens parsed
  reads_of (shapes parts) from = let all = members_of parts from in (_, members all.2)
  reads_of (not_shape part) from = let inner = reads_of part (from + 1) in (_, negation inner.1)
  reads_of (closed_shape part) from = let inner = reads_of part (from + 1) in (_, parentheses inner.1)
  reads_of name_shape from = (_, name)

  members_of : {level : Level} {tokens : List Role} → AreShapes level tokens
      → (from : ℕ) → (first : Parsed) × (others : List Parsed) × AreMembers level from tokens first others
  members_of (last_shape part) from = let one = reads_of part from in (one.0, [], last one.1)
  members_of (and_shape {tokens = tokens} part parts) from =
      let one = reads_of part from in
      let more = members_of parts (from + length tokens + 1) in
      (one.0, more.0 ∷ more.1, and one.1 more.2)

-- ---- an operand before a chain

as_all : {tokens : List Role} → IsShape unary tokens → IsShape (chain All) tokens
as_all part = shapes {level = All} (last_shape part)

as_any : {tokens : List Role} → IsShape unary tokens → IsShape (chain Any) tokens
as_any part = shapes {level = Any} (last_shape (as_all part))

as_implies : {tokens : List Role} → IsShape unary tokens → IsShape (chain Implies) tokens
as_implies part = shapes {level = Implies} (last_shape (as_any part))

as_same : {tokens : List Role} → IsShape unary tokens → IsShape (chain Same) tokens
as_same part = shapes {level = Same} (last_shape (as_implies part))

-- the operand and the token that joins it to what follows
abbrev front : List Role → Level → List Role
front operand level = operand ++ Joins level ∷ []

-- it is one more member of the chain,
new_first : {level : Level} (operand : List Role) {tokens : List Role} → IsShape (member_of level) operand → AreShapes level tokens
    → AreShapes level (front operand level ++ tokens)
new_first {level = level} operand {tokens = tokens} part parts =
    subst (AreShapes level) (sym (append_assoc operand (Joins level ∷ []) tokens)) (and_shape part parts)

-- or belongs to the first member
in_first : {level : Level} (before : List Role) {tokens : List Role}
    → ((member : List Role) → IsShape (member_of level) member → IsShape (member_of level) (before ++ member))
    → AreShapes level tokens → AreShapes level (before ++ tokens)
in_first before within (last_shape part) = last_shape (within _ part)
in_first before within (and_shape {level = level} {tokens = tokens} {after = after} part parts) =
    subst (AreShapes level) (append_assoc before tokens (Joins level ∷ after)) (and_shape (within tokens part) parts)

module _ (operand : List Role) (shape : IsShape unary operand) where
  all_all : (tokens : List Role) → IsShape (chain All) tokens → IsShape (chain All) (front operand All ++ tokens)
  all_all tokens (shapes parts) = shapes (new_first operand shape parts)

  any_any : (tokens : List Role) → IsShape (chain Any) tokens → IsShape (chain Any) (front operand Any ++ tokens)
  any_any tokens (shapes parts) = shapes (new_first operand (as_all shape) parts)

  any_all : (tokens : List Role) → IsShape (chain Any) tokens → IsShape (chain Any) (front operand All ++ tokens)
  any_all tokens (shapes parts) = shapes (in_first (front operand All) all_all parts)

  implies_implies : (tokens : List Role) → IsShape (chain Implies) tokens → IsShape (chain Implies) (front operand Implies ++ tokens)
  implies_implies tokens (shapes parts) = shapes (new_first operand (as_any shape) parts)

  implies_any : (tokens : List Role) → IsShape (chain Implies) tokens → IsShape (chain Implies) (front operand Any ++ tokens)
  implies_any tokens (shapes parts) = shapes (in_first (front operand Any) any_any parts)

  implies_all : (tokens : List Role) → IsShape (chain Implies) tokens → IsShape (chain Implies) (front operand All ++ tokens)
  implies_all tokens (shapes parts) = shapes (in_first (front operand All) any_all parts)

  before_same : (level : Level) (tokens : List Role) → IsShape (chain Same) tokens → IsShape (chain Same) (front operand level ++ tokens)
  before_same Same tokens (shapes parts) = shapes (new_first operand (as_implies shape) parts)
  before_same Implies tokens (shapes parts) = shapes (in_first (front operand Implies) implies_implies parts)
  before_same Any tokens (shapes parts) = shapes (in_first (front operand Any) implies_any parts)
  before_same All tokens (shapes parts) = shapes (in_first (front operand All) implies_all parts)

-- ---- what passes has a formula

-- what may follow an operand up to the end of a formula
abbrev IsTail : List Role → Type 0
IsTail [] = Unit {0}
IsTail (Joins level ∷ tokens) = IsShape (chain Same) tokens
IsTail (role ∷ tokens) = ⊥

with_tail : (operand tail : List Role) → IsShape unary operand → IsTail tail → IsShape (chain Same) (operand ++ tail)
with_tail operand [] shape is = subst (IsShape (chain Same)) (sym (append-nil operand)) (as_same shape)
with_tail operand (Joins level ∷ tokens) shape is =
    subst (IsShape (chain Same)) (append_assoc operand (Joins level ∷ []) tokens) (before_same operand shape level tokens is)
with_tail operand (Name ∷ tokens) shape is = absurd is
with_tail operand (Not ∷ tokens) shape is = absurd is
with_tail operand (Opens ∷ tokens) shape is = absurd is
with_tail operand (Closes ∷ tokens) shape is = absurd is
with_tail operand (Unsupported ∷ tokens) shape is = absurd is
with_tail operand (Other ∷ tokens) shape is = absurd is

-- what may follow an operand where so many parentheses are open
abbrev GoesOn : ℕ → List Role → Type 0
GoesOn zero tokens = IsTail tokens
GoesOn (suc depth) tokens =
    (inner : List Role) × (outer : List Role) × (tokens ≡ inner ++ Closes ∷ outer) × IsTail inner × GoesOn depth outer

-- an operand, and what may follow it
abbrev Begins : ℕ → List Role → Type 0
Begins depth tokens = (operand : List Role) × (rest : List Role) × (tokens ≡ operand ++ rest) × IsShape unary operand × GoesOn depth rest

close : (tokens : List Role) (depth : ℕ) → Begins (suc depth) tokens → Begins depth (Opens ∷ tokens)
close tokens depth (operand, rest, is, shape, (inner, outer, rest_is, tail, more)) = (
  Opens ∷ ((operand ++ inner) ++ Closes ∷ []),
  outer,
  ap (λ all. Opens ∷ all)
      (is ∙ ap (λ after. operand ++ after) rest_is
      ∙ sym (append_assoc operand inner (Closes ∷ outer))
      ∙ sym (append_assoc (operand ++ inner) (Closes ∷ []) outer)),
  closed_shape (with_tail operand inner shape tail),
  more,
)

join_on : (level : Level) (tokens : List Role) (depth : ℕ) → Begins depth tokens → GoesOn depth (Joins level ∷ tokens)
join_on level tokens zero (operand, rest, is, shape, more) = subst (IsShape (chain Same)) (sym is) (with_tail operand rest shape more)
join_on level tokens (suc depth) (operand, rest, is, shape, (inner, outer, rest_is, tail, more)) = (
  Joins level ∷ (operand ++ inner),
  outer,
  ap (λ all. Joins level ∷ all) (is ∙ ap (λ after. operand ++ after) rest_is ∙ sym (append_assoc operand inner (Closes ∷ outer))),
  with_tail operand inner shape tail,
  more,
)

mutual
  begins : (tokens : List Role) (depth : ℕ) → scan true depth tokens ≡ true → Begins depth tokens
  begins [] depth passes = absurd (cc)
  begins (Name ∷ after) depth passes = (Name ∷ [], after, refl, name_shape, goes_on after depth passes)
  begins (Not ∷ after) depth passes =
      let rest = begins after depth passes in
      (Not ∷ rest.0, rest.1, ap (λ all. Not ∷ all) rest.2, not_shape rest.3, rest.4)
  begins (Opens ∷ after) depth passes = close after depth (begins after (suc depth) passes)
  begins (Joins level ∷ after) depth passes = absurd (cc)
  begins (Closes ∷ after) depth passes = absurd (cc)
  begins (Unsupported ∷ after) depth passes = absurd (cc)
  begins (Other ∷ after) depth passes = absurd (cc)

  goes_on : (tokens : List Role) (depth : ℕ) → scan false depth tokens ≡ true → GoesOn depth tokens
  goes_on [] zero passes = tt
  goes_on [] (suc depth) passes = absurd (cc)
  goes_on (Joins level ∷ after) zero passes = join_on level after zero (begins after zero passes)
  goes_on (Joins level ∷ after) (suc depth) passes = join_on level after (suc depth) (begins after (suc depth) passes)
  goes_on (Closes ∷ after) zero passes = absurd (cc)
  goes_on (Closes ∷ after) (suc depth) passes = ([], after, refl, tt, goes_on after depth passes)
  goes_on (Name ∷ after) zero passes = absurd (cc)
  goes_on (Name ∷ after) (suc depth) passes = absurd (cc)
  goes_on (Not ∷ after) zero passes = absurd (cc)
  goes_on (Not ∷ after) (suc depth) passes = absurd (cc)
  goes_on (Opens ∷ after) zero passes = absurd (cc)
  goes_on (Opens ∷ after) (suc depth) passes = absurd (cc)
  goes_on (Unsupported ∷ after) zero passes = absurd (cc)
  goes_on (Unsupported ∷ after) (suc depth) passes = absurd (cc)
  goes_on (Other ∷ after) zero passes = absurd (cc)
  goes_on (Other ∷ after) (suc depth) passes = absurd (cc)

pub formula_of_scan : (tokens : List Role) → scan true 0 tokens ≡ true → HasFormula tokens
formula_of_scan tokens passes =
    let parts = begins tokens 0 passes in
    let shape : IsShape (chain Same) tokens = subst (IsShape (chain Same)) (sym parts.2) (with_tail parts.0 parts.1 parts.3 parts.4) in
    reads_of shape 0

-- ---- step by step

abbrev pub scan_stage : Option Stage → List Role → Bool
scan_stage None rest = false
scan_stage (Some stage) rest = scan stage.wants_operand stage.depth rest

pub scan-next : (wants_operand : Bool) (depth : ℕ) (role : Role) (rest : List Role)
    → scan wants_operand depth (role ∷ rest) ≡ scan_stage (next_stage wants_operand depth role) rest
scan-next true depth Name rest = refl
scan-next true depth Not rest = refl
scan-next true depth (Joins level) rest = refl
scan-next true depth Opens rest = refl
scan-next true depth Closes rest = refl
scan-next true depth Unsupported rest = refl
scan-next true depth Other rest = refl
scan-next false zero Name rest = refl
scan-next false zero Not rest = refl
scan-next false zero (Joins level) rest = refl
scan-next false zero Opens rest = refl
scan-next false zero Closes rest = refl
scan-next false zero Unsupported rest = refl
scan-next false zero Other rest = refl
scan-next false (suc depth) Name rest = refl
scan-next false (suc depth) Not rest = refl
scan-next false (suc depth) (Joins level) rest = refl
scan-next false (suc depth) Opens rest = refl
scan-next false (suc depth) Closes rest = refl
scan-next false (suc depth) Unsupported rest = refl
scan-next false (suc depth) Other rest = refl

-- whether some token is unsupported, where a name stands before these or not
abbrev pub unsupported_after : Bool → List Role → Bool
unsupported_after follows_name [] = false
unsupported_after follows_name (role ∷ rest) = is_unsupported follows_name role || unsupported_after (is_name role) rest

unsupported_after-cases : (rest : List Role)
    → (unsupported_after false rest ≡ has_unsupported rest) × (unsupported_after true rest ≡ has_unsupported (Name ∷ rest))
unsupported_after-cases [] = (refl, refl)
unsupported_after-cases (Name ∷ rest) = let more = unsupported_after-cases rest in (more.1, more.1)
unsupported_after-cases (Not ∷ rest) = let more = unsupported_after-cases rest in (more.0, more.0)
unsupported_after-cases (Joins level ∷ rest) = let more = unsupported_after-cases rest in (more.0, more.0)
unsupported_after-cases (Opens ∷ rest) = let more = unsupported_after-cases rest in (more.0, refl)
unsupported_after-cases (Closes ∷ rest) = let more = unsupported_after-cases rest in (more.0, more.0)
unsupported_after-cases (Unsupported ∷ rest) = (refl, refl)
unsupported_after-cases (Other ∷ rest) = let more = unsupported_after-cases rest in (more.0, more.0)

pub unsupported_after-start : (tokens : List Role) → unsupported_after false tokens ≡ has_unsupported tokens
unsupported_after-start tokens = (unsupported_after-cases tokens).0

-- ---- at the end

pub no_formula : (tokens : List Role) → scan true 0 tokens ≡ false → HasFormula tokens → ⊥
no_formula tokens fails has = let passes = scan_formula tokens has in absurd (cc)

-- what the look over the tokens says at their end
pub at_end-yes : (tokens rest : List Role) (wants_operand : Bool) (depth : ℕ) → scan wants_operand depth rest ≡ scan true 0 tokens → rest ≡ []
    → wants_operand ≡ false → depth ≡ 0 → HasFormula tokens
at_end-yes tokens [] false zero same ends before none = formula_of_scan tokens (sym same)
at_end-yes tokens [] false (suc depth) same ends before none = absurd (cc)
at_end-yes tokens [] true depth same ends before none = absurd (cc)
at_end-yes tokens (role ∷ rest) wants_operand depth same ends before none = absurd (cc)

pub at_end-wants : (tokens rest : List Role) (wants_operand : Bool) (depth : ℕ) → scan wants_operand depth rest ≡ scan true 0 tokens → rest ≡ []
    → wants_operand ≡ true → scan true 0 tokens ≡ false
at_end-wants tokens [] true depth same ends wants = sym same
at_end-wants tokens [] false depth same ends wants = absurd (cc)
at_end-wants tokens (role ∷ rest) wants_operand depth same ends wants = absurd (cc)

pub at_end-open : (tokens rest : List Role) (wants_operand : Bool) (depth : ℕ) → scan wants_operand depth rest ≡ scan true 0 tokens → rest ≡ []
    → 0 < depth → scan true 0 tokens ≡ false
at_end-open tokens [] true depth same ends some = sym same
at_end-open tokens [] false zero same ends some = absurd (omega arith)
at_end-open tokens [] false (suc depth) same ends some = sym same
at_end-open tokens (role ∷ rest) wants_operand depth same ends some = absurd (cc)
