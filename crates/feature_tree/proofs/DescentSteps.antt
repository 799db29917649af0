-- The steps of the reader, one by one: what the clauses of its functions need.
use Rattle.std.proofs.Common.{◌≡◌, ◌∙◌, refl, ap, sym, subst, append_assoc, ℕ, zero, suc, ◌+◌, ◌-◌, ◌<◌, ◌≤◌, true, false, List, [], ◌∷◌, ◌++◌, length, Option, Some, None, Ok, Err, All, ◌≢◌, IsErrAnd, length-append, arith}
use Rattle.std.specs.List.{slice_get}
use Rattle.std.proofs.lemmas.List.{append-nil}
use Rattle.std.proofs.lemmas.Result.{err_from_is_err_and}
use Rattle.feature_tree.proofs.Heights.{highest-push, highest_of_low, low_of_highest}
use Rattle.feature_tree.specs.declared.reader.descent.Found.{Found}
use Rattle.feature_tree.specs.declared.reader.error.FormulaError.{FormulaError}
use Rattle.feature_tree.specs.declared.reader.error.FormulaError.TheVariants.{Unsupported, BadFormula, TooDeep, Memory}
use Rattle.feature_tree.specs.declared.reader.parsed.Parsed.{Parsed}
use Rattle.feature_tree.specs.declared.reader.role.Level.{Level}
use Rattle.feature_tree.specs.declared.reader.role.Level.TheVariants.{Same, Implies, Any, All as AllLevel}
use Rattle.feature_tree.specs.declared.reader.role.Role.{Role}
use Rattle.feature_tree.specs.declared.reader.role.Role.TheVariants.{Name, Not, Joins, Opens, Closes, Unsupported as UnsupportedRole, Other}
use Rattle.feature_tree.specs.Grammar.{chain, unary, member_of, named, negated}
use Rattle.uvl_lex.specs.declared.token.Token.{Token}
use Rattle.feature_tree.specs.Roles.{roles_of}
use Rattle.feature_tree.specs.inside.Descent.{OrRefusal, and_then, Answers, joined_within, negated_found, by_role, joins_at, closed, others_at, chain_at, read_unary, read, IsLow}

-- ---- answers

pub Answers-ok : {A : Type 0} (a : A) (outcome : OrRefusal A) → outcome ≡ Ok a → Answers (Ok a) outcome
Answers-ok a outcome is = is

-- an error of the first step is the whole's
pub Answers-and_then : {A B : Type 0} (reason : FormulaError) (first : OrRefusal A) (next : A → OrRefusal B) → Answers {A = A} (Err reason) first
    → Answers {A = B} (Err reason) (and_then first next)
Answers-and_then Unsupported first next is = ap (λ o. and_then o next) is
Answers-and_then BadFormula first next is = ap (λ o. and_then o next) is
Answers-and_then TooDeep first next is = ap (λ o. and_then o next) is
Answers-and_then Memory first next is = tt

pub Answers-same : {A : Type 0} (answer one other : OrRefusal A) → one ≡ other → Answers answer one → Answers answer other
Answers-same answer one other same is = subst (λ o. Answers answer o) same is

module _ (tokens : List Role) where
  -- ---- a `not`

  pub read-unary-zero : (at : ℕ) → read tokens unary 0 at ≡ Err TooDeep
  unfolding read read_unary
  read-unary-zero at = refl

  pub read-unary-suc : (room at : ℕ) → read tokens unary (suc room) at
      ≡ by_role (slice_get tokens at) at (read tokens unary room (at + 1)) (and_then (read tokens (chain Same) room (at + 1)) (closed tokens))
  unfolding read read_unary
  read-unary-suc room at = refl

  -- ---- a chain

  -- the reader of the members of a chain
  abbrev pub member_reader : Level → ℕ → ℕ → OrRefusal Found
  member_reader level room = read tokens (member_of level) room

  pub read-chain : (level : Level) (room at : ℕ) → read tokens (chain level) room at ≡ chain_at tokens (member_reader level room) level room at
  unfolding read
  read-chain Same room at = refl
  read-chain Implies room at = refl
  read-chain Any room at = refl
  read-chain AllLevel room at = refl

  -- the chain's end, where all its members are read
  abbrev pub finish : Level → ℕ → Parsed → List Parsed → ℕ → OrRefusal Found
  finish level room first others after =
      and_then (joined_within room level first others) (λ whole. Ok (record { parsed = whole; after = after }))

  -- what becomes of a chain of which these members are read
  abbrev pub go_on : Level → ℕ → Parsed → ℕ → List Parsed → ℕ → OrRefusal Found
  go_on level room first fuel others after =
      and_then (others_at tokens (member_reader level room) level fuel after) (λ rest. finish level room first (others ++ rest.0) rest.1)

  go_on-none : (level : Level) (room at : ℕ) (first : Found) → read tokens (member_of level) room at ≡ Ok first
      → go_on level room first.parsed (length tokens) [] first.after ≡ read tokens (chain level) room at
  unfolding chain_at
  go_on-none level room at first is = rw (read-chain level room at, is) refl

  pub go_on-start : (level : Level) (room at : ℕ) (first : Found) (others : List Parsed) → others ≡ [] → read tokens (member_of level) room at ≡ Ok first
      → go_on level room first.parsed (length tokens - length others) others first.after ≡ read tokens (chain level) room at
  go_on-start level room at first others none is =
      let whole : length tokens - length others ≡ length tokens = let size : length others ≡ 0 = ap length none in omega arith in
      ap (λ f. go_on level room first.parsed f others first.after) whole
      ∙ ap (λ o. go_on level room first.parsed (length tokens) o first.after) none
      ∙ go_on-none level room at first is

  pub chain-first-err : (level : Level) (room at : ℕ) (reason : FormulaError) → Answers {A = Found} (Err reason) (read tokens (member_of level) room at)
      → Answers {A = Found} (Err reason) (read tokens (chain level) room at)
  unfolding chain_at
  chain-first-err level room at reason is =
      subst (λ o. Answers {A = Found} (Err reason) o) (sym (read-chain level room at)) (Answers-and_then reason (read tokens (member_of level) room at) _ is)

  pub others-joins : (member : ℕ → OrRefusal Found) (level : Level) (fuel at : ℕ) → joins_at tokens level at ≡ true
      → others_at tokens member level (suc fuel) at
      ≡ and_then (member (at + 1)) (λ next. and_then (others_at tokens member level fuel next.after) (λ rest. Ok (next.parsed ∷ rest.0, rest.1)))
  unfolding others_at
  others-joins member level fuel at joins = rw joins refl

  pub others-end : (member : ℕ → OrRefusal Found) (level : Level) (fuel at : ℕ) → joins_at tokens level at ≡ false
      → others_at tokens member level fuel at ≡ Ok ([], at)
  unfolding others_at
  others-end member level zero at joins = refl
  others-end member level (suc fuel) at joins = rw joins refl

  shift : (level : Level) (room : ℕ) (first : Parsed) (others : List Parsed) (next : Parsed) (rest : OrRefusal (List Parsed × ℕ))
      → and_then {A = List Parsed × ℕ} (and_then {A = List Parsed × ℕ} rest (λ more. Ok (next ∷ more.0, more.1))) (λ more. finish level room first (others ++ more.0) more.1)
      ≡ and_then rest (λ more. finish level room first ((others ++ next ∷ []) ++ more.0) more.1)
  shift level room first others next (Ok more) = ap (λ l. finish level room first l more.1) (sym (append_assoc others (next ∷ []) more.0))
  shift level room first others next (Err reason) = refl

  pub go_on-next : (level : Level) (room : ℕ) (first : Parsed) (fuel : ℕ) (others : List Parsed) (after : ℕ) (next : Found)
      → joins_at tokens level after ≡ true → read tokens (member_of level) room (after + 1) ≡ Ok next
      → go_on level room first (suc fuel) others after ≡ go_on level room first fuel (others ++ next.parsed ∷ []) next.after
  go_on-next level room first fuel others after next joins is =
      rw (others-joins (member_reader level room) level fuel after joins, is)
      (shift level room first others next.parsed (others_at tokens (member_reader level room) level fuel next.after))

  pub go_on-next-err : (level : Level) (room : ℕ) (first : Parsed) (fuel : ℕ) (others : List Parsed) (after : ℕ) (reason : FormulaError)
      → joins_at tokens level after ≡ true → Answers {A = Found} (Err reason) (read tokens (member_of level) room (after + 1))
      → Answers {A = Found} (Err reason) (go_on level room first (suc fuel) others after)
  go_on-next-err level room first fuel others after reason joins is =
      subst (λ o. Answers {A = Found} (Err reason) (and_then o (λ rest. finish level room first (others ++ rest.0) rest.1)))
      (sym (others-joins (member_reader level room) level fuel after joins))
      (Answers-and_then reason (and_then (read tokens (member_of level) room (after + 1)) _) _
      (Answers-and_then reason (read tokens (member_of level) room (after + 1)) _ is))

  pub go_on-end : (level : Level) (room : ℕ) (first : Parsed) (fuel : ℕ) (others : List Parsed) (after : ℕ)
      → joins_at tokens level after ≡ false → go_on level room first fuel others after ≡ finish level room first others after
  go_on-end level room first fuel others after joins =
      rw (others-end (member_reader level room) level fuel after joins) (ap (λ l. finish level room first l after) (append-nil others))

-- how many levels of chains a member may still go down
abbrev pub rank : Level → ℕ
rank Same = 3
rank Implies = 2
rank Any = 1
rank AllLevel = 0

-- ---- what the functions need

-- the exit of a `?`
pub exit_answers : {A : Type 0} (result : OrRefusal A) (reason : FormulaError) (outcome : OrRefusal A) → IsErrAnd result (λ e. e ≡ reason)
    → Answers {A = A} (Err reason) outcome → Answers result outcome
exit_answers {A = A} result reason outcome is answers =
    let p = err_from_is_err_and {Q = λ e. e ≡ reason} result is in
    subst (λ r. Answers {A = A} r outcome) (sym (p.1 ∙ ap (λ e. Err e) p.2)) answers

module _ (tokens : List Role) where
  pub go_on-step : (level : Level) (room : ℕ) (first : Parsed) (count : ℕ) (others : List Parsed) (after : ℕ) (next : Found) (longer : List Parsed)
      → length others < count → joins_at tokens level after ≡ true → read tokens (member_of level) room (after + 1) ≡ Ok next
      → longer ≡ others ++ next.parsed ∷ []
      → go_on tokens level room first (count - length longer) longer next.after ≡ go_on tokens level room first (count - length others) others after
  go_on-step level room first count others after next longer below joins is push =
      let size : length longer ≡ length others + 1 = ap length push ∙ (length-append others (next.parsed ∷ []) ∙ refl) in
      let fuel : count - length others ≡ suc (count - length longer) = omega arith in
      ap (λ l. go_on tokens level room first (count - length longer) l next.after) push
      ∙ sym (go_on-next tokens level room first (count - length longer) others after next joins is)
      ∙ ap (λ f. go_on tokens level room first f others after) (sym fuel)

  pub go_on-step-err : (level : Level) (room : ℕ) (first : Parsed) (count : ℕ) (others : List Parsed) (after : ℕ) (reason : FormulaError)
      → length others < count → joins_at tokens level after ≡ true → Answers {A = Found} (Err reason) (read tokens (member_of level) room (after + 1))
      → Answers {A = Found} (Err reason) (go_on tokens level room first (count - length others) others after)
  go_on-step-err level room first count others after reason below joins is =
      let fuel : count - length others ≡ suc (count - length others - 1) = omega arith in
      subst (λ f. Answers {A = Found} (Err reason) (go_on tokens level room first f others after)) (sym fuel)
      (go_on-next-err tokens level room first (count - length others - 1) others after reason joins is)

  pub read-unary-at : (room at : ℕ) → room ≢ 0 → read tokens unary room at
      ≡ by_role (slice_get tokens at) at (read tokens unary (room - 1) (at + 1)) (and_then (read tokens (chain Same) (room - 1) (at + 1)) (closed tokens))
  read-unary-at zero at some = absurd (some refl)
  read-unary-at (suc room) at some =
      let one : suc room - 1 ≡ room = omega arith in
      rw one (read-unary-suc tokens room at)

  module _ (room at : ℕ) (some : room ≢ 0) where
    pub read-unary-name : slice_get tokens at ≡ Some Name → read tokens unary room at ≡ Ok (record { parsed = named at; after = at + 1 })
    read-unary-name is = read-unary-at room at some ∙ ap (λ r. by_role r at (read tokens unary (room - 1) (at + 1)) (and_then (read tokens (chain Same) (room - 1) (at + 1)) (closed tokens))) is

    pub read-unary-not : slice_get tokens at ≡ Some Not → read tokens unary room at ≡ and_then (read tokens unary (room - 1) (at + 1)) (λ part. Ok (negated_found part))
    read-unary-not is = read-unary-at room at some ∙ ap (λ r. by_role r at (read tokens unary (room - 1) (at + 1)) (and_then (read tokens (chain Same) (room - 1) (at + 1)) (closed tokens))) is

    pub read-unary-opens : slice_get tokens at ≡ Some Opens → read tokens unary room at ≡ and_then (read tokens (chain Same) (room - 1) (at + 1)) (closed tokens)
    read-unary-opens is = read-unary-at room at some ∙ ap (λ r. by_role r at (read tokens unary (room - 1) (at + 1)) (and_then (read tokens (chain Same) (room - 1) (at + 1)) (closed tokens))) is

pub low-push : (room : ℕ) (others : List Parsed) (next : Parsed) (longer : List Parsed) → All (IsLow room) others → next.height ≤ room
    → longer ≡ others ++ next ∷ [] → All (IsLow room) longer
low-push room others next longer low here push =
    let high = highest_of_low room others low in
    let more = highest-push others next in
    subst (All (IsLow room)) (sym push) (low_of_highest room (others ++ next ∷ []) (omega arith))

pub by_role-other : (role : Option Role) (at : ℕ) (after_not after_open : OrRefusal Found) → (role ≡ Some Name → ⊥) → (role ≡ Some Not → ⊥) → (role ≡ Some Opens → ⊥)
    → by_role role at after_not after_open ≡ Err BadFormula
by_role-other None at after_not after_open name negation opens = refl
by_role-other (Some Name) at after_not after_open name negation opens = absurd (name refl)
by_role-other (Some Not) at after_not after_open name negation opens = absurd (negation refl)
by_role-other (Some Opens) at after_not after_open name negation opens = absurd (opens refl)
by_role-other (Some (Joins level)) at after_not after_open name negation opens = refl
by_role-other (Some Closes) at after_not after_open name negation opens = refl
by_role-other (Some UnsupportedRole) at after_not after_open name negation opens = refl
by_role-other (Some Other) at after_not after_open name negation opens = refl

module _ (tokens : List Role) (room : ℕ) where
  pub read-unary-other : (at : ℕ) → room ≢ 0 → (role : Option Role) → role ≡ slice_get tokens at → (role ≡ Some Name → ⊥) → (role ≡ Some Not → ⊥) → (role ≡ Some Opens → ⊥)
      → read tokens unary room at ≡ Err BadFormula
  read-unary-other at some role is name negation opens =
      read-unary-at tokens room at some
      ∙ sym (ap (λ r. by_role r at (read tokens unary (room - 1) (at + 1)) (and_then (read tokens (chain Same) (room - 1) (at + 1)) (closed tokens))) is)
      ∙ by_role-other role at (read tokens unary (room - 1) (at + 1)) (and_then (read tokens (chain Same) (room - 1) (at + 1)) (closed tokens)) name negation opens

  pub finish-err : (level : Level) (first : Parsed) (fuel : ℕ) (others : List Parsed) (after : ℕ) (reason : FormulaError)
      → joins_at tokens level after ≡ false → Answers {A = Parsed} (Err reason) (joined_within room level first others)
      → Answers {A = Found} (Err reason) (go_on tokens level room first fuel others after)
  finish-err level first fuel others after reason joins is =
      subst (λ o. Answers {A = Found} (Err reason) o) (sym (go_on-end tokens level room first fuel others after joins))
      (Answers-and_then reason (joined_within room level first others) _ is)

  pub finish-ok : (level : Level) (first : Parsed) (fuel : ℕ) (others : List Parsed) (after : ℕ) (whole : Parsed)
      → joins_at tokens level after ≡ false → joined_within room level first others ≡ Ok whole
      → go_on tokens level room first fuel others after ≡ Ok (record { parsed = whole; after = after })
  finish-ok level first fuel others after whole joins is =
      go_on-end tokens level room first fuel others after joins
      ∙ ap (λ o. and_then o (λ w. Ok (record { parsed = w; after = after }))) is

pub none_low : (room : ℕ) (others : List Parsed) → others ≡ [] → All (IsLow room) others
none_low room others none = subst (All (IsLow room)) (sym none) (low_of_highest room [] (omega arith))

pub length-roles : (tokens : List Token) → length (roles_of tokens) ≡ length tokens
length-roles [] = refl
length-roles (token ∷ tokens) = ap suc (length-roles tokens)

module _ (tokens : List Role) (room at : ℕ) where
  pub not-err : (reason : FormulaError) → room ≢ 0 → slice_get tokens at ≡ Some Not
      → Answers {A = Found} (Err reason) (read tokens unary (room - 1) (at + 1)) → Answers {A = Found} (Err reason) (read tokens unary room at)
  not-err reason some is answers =
      subst (λ o. Answers {A = Found} (Err reason) o) (sym (read-unary-not tokens room at some is))
      (Answers-and_then reason (read tokens unary (room - 1) (at + 1)) (λ part. Ok (negated_found part)) answers)

  pub not-ok : (part : Found) (whole : Parsed) → room ≢ 0 → slice_get tokens at ≡ Some Not
      → read tokens unary (room - 1) (at + 1) ≡ Ok part → whole ≡ negated part.parsed
      → read tokens unary room at ≡ Ok (record { parsed = whole; after = part.after })
  not-ok part whole some is inner step =
      read-unary-not tokens room at some is
      ∙ ap (λ o. and_then o (λ p. Ok (negated_found p))) inner
      ∙ ap (λ w. Ok (record { parsed = w; after = part.after })) (sym step)

  pub opens-err : (reason : FormulaError) → room ≢ 0 → slice_get tokens at ≡ Some Opens
      → Answers {A = Found} (Err reason) (read tokens (chain Same) (room - 1) (at + 1)) → Answers {A = Found} (Err reason) (read tokens unary room at)
  opens-err reason some is answers =
      subst (λ o. Answers {A = Found} (Err reason) o) (sym (read-unary-opens tokens room at some is))
      (Answers-and_then reason (read tokens (chain Same) (room - 1) (at + 1)) (closed tokens) answers)

  pub opens-ok : (part : Found) (result : OrRefusal Found) → room ≢ 0 → slice_get tokens at ≡ Some Opens
      → read tokens (chain Same) (room - 1) (at + 1) ≡ Ok part → Answers result (closed tokens part) → Answers result (read tokens unary room at)
  opens-ok part result some is inner answers =
      subst (λ o. Answers {A = Found} result o)
      (sym (read-unary-opens tokens room at some is ∙ ap (λ o. and_then o (closed tokens)) inner)) answers

pub pushed : (others : List Parsed) (next : Parsed) (longer : List Parsed) → longer ≡ others ++ next ∷ [] → length longer ≡ length others + 1
pushed others next longer push = ap length push ∙ length-append others (next ∷ [])
