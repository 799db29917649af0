-- The reader finds what the grammar says: where tokens begin with a phrase that goes no further, it reads that phrase, or
-- finds that it is too high.
use Rattle.std.proofs.Common.{◌≡◌, ◌∙◌, refl, ap, sym, subst, append_assoc, ℕ, zero, suc, ◌+◌, ◌<◌, ◌≤◌, inl, inr, Bool, true, false, List, [], ◌∷◌, ◌++◌, drop, length, length-append, length-drop, Some, Ok, Err, arith}
use Rattle.std.specs.List.{slice_get}
use Rattle.std.proofs.lemmas.List.{append-nil, drop-drop, drop_at}
use Rattle.std.proofs.lemmas.Bool.{cases_lt}
use Rattle.feature_tree.specs.declared.reader.descent.Found.{Found}
use Rattle.feature_tree.specs.declared.reader.error.FormulaError.TheVariants.{TooDeep}
use Rattle.feature_tree.specs.declared.reader.parsed.Parsed.{Parsed}
use Rattle.feature_tree.specs.declared.reader.role.Level.{Level}
use Rattle.feature_tree.specs.declared.reader.role.Level.TheVariants.{Same, Implies, Any, All}
use Rattle.feature_tree.specs.declared.reader.role.Role.{Role}
use Rattle.feature_tree.specs.declared.reader.role.Role.TheVariants.{Name, Not, Joins, Opens, Closes, Unsupported, Other}
use Rattle.feature_tree.specs.Grammar.{Phrase, chain, unary, member_of, named, negated, enclosed, joined, highest, Reads, AreMembers, members, negation, parentheses, name, last, and, IsFormula}
use Rattle.feature_tree.specs.inside.Descent.{OrRefusal, and_then, joined_within, role_joins, by_role, closed_by, negated_found, enclosed_found, joins_at, closed, others_at, chain_at, read}
use Rattle.feature_tree.proofs.Heights.{highest_in_joined, within-low, within-high}
use Rattle.feature_tree.proofs.DescentSteps.{member_reader, read-chain, others-joins, others-end, read-unary-zero, read-unary-suc, read-unary-name}

-- ---- where a phrase ends

-- a chain of this level stands outside the phrase
abbrev pub is_looser : Phrase → Level → Bool
is_looser unary level = true
is_looser (chain All) All = false
is_looser (chain All) level = true
is_looser (chain Any) All = false
is_looser (chain Any) Any = false
is_looser (chain Any) level = true
is_looser (chain Implies) Same = true
is_looser (chain Implies) level = false
is_looser (chain Same) level = false

-- the phrase does not go on with these tokens
abbrev pub Stops : Phrase → List Role → Type 0
Stops part [] = Unit {0}
Stops part (Joins level ∷ rest) = is_looser part level ≡ true
Stops part (role ∷ rest) = Unit {0}

pub looser-member : (outer inner : Level) → is_looser (chain outer) inner ≡ true → is_looser (member_of outer) inner ≡ true
looser-member Same Same is = refl
looser-member Same Implies is = absurd (cc)
looser-member Same Any is = absurd (cc)
looser-member Same All is = absurd (cc)
looser-member Implies Same is = refl
looser-member Implies Implies is = refl
looser-member Implies Any is = absurd (cc)
looser-member Implies All is = absurd (cc)
looser-member Any Same is = refl
looser-member Any Implies is = refl
looser-member Any Any is = refl
looser-member Any All is = absurd (cc)
looser-member All Same is = refl
looser-member All Implies is = refl
looser-member All Any is = refl
looser-member All All is = refl

Stops-member : (level : Level) (rest : List Role) → Stops (chain level) rest → Stops (member_of level) rest
Stops-member level [] stops = tt
Stops-member level (Name ∷ rest) stops = tt
Stops-member level (Not ∷ rest) stops = tt
Stops-member level (Joins inner ∷ rest) stops = looser-member level inner stops
Stops-member level (Opens ∷ rest) stops = tt
Stops-member level (Closes ∷ rest) stops = tt
Stops-member level (Unsupported ∷ rest) stops = tt
Stops-member level (Other ∷ rest) stops = tt

-- a chain stands outside its members
pub looser-joint : (level : Level) → is_looser (member_of level) level ≡ true
looser-joint Same = refl
looser-joint Implies = refl
looser-joint Any = refl
looser-joint All = refl

-- a member ends where the next is joined
Stops-at_joint : (level : Level) (rest : List Role) → Stops (member_of level) (Joins level ∷ rest)
Stops-at_joint level rest = looser-joint level

pub joins-own : (level : Level) → role_joins level (Some (Joins level)) ≡ true
joins-own Same = refl
joins-own Implies = refl
joins-own Any = refl
joins-own All = refl

no_joint : (outer inner : Level) → is_looser (chain outer) inner ≡ true → role_joins outer (Some (Joins inner)) ≡ false
no_joint Same Same is = absurd (cc)
no_joint Same Implies is = refl
no_joint Same Any is = refl
no_joint Same All is = refl
no_joint Implies Same is = refl
no_joint Implies Implies is = absurd (cc)
no_joint Implies Any is = refl
no_joint Implies All is = refl
no_joint Any Same is = refl
no_joint Any Implies is = refl
no_joint Any Any is = absurd (cc)
no_joint Any All is = refl
no_joint All Same is = refl
no_joint All Implies is = refl
no_joint All Any is = refl
no_joint All All is = absurd (cc)

pub other_role : (level : Level) → (role_joins level (Some Name) ≡ false) × (role_joins level (Some Not) ≡ false) × (role_joins level (Some Opens) ≡ false)
    × (role_joins level (Some Closes) ≡ false) × (role_joins level (Some Unsupported) ≡ false) × (role_joins level (Some Other) ≡ false)
other_role Same = (refl, refl, refl, refl, refl, refl)
other_role Implies = (refl, refl, refl, refl, refl, refl)
other_role Any = (refl, refl, refl, refl, refl, refl)
other_role All = (refl, refl, refl, refl, refl, refl)

Stops-joins : (level : Level) (rest : List Role) → Stops (chain level) rest → role_joins level (slice_get rest 0) ≡ false
Stops-joins level [] stops = refl
Stops-joins level (Name ∷ rest) stops = (other_role level).0
Stops-joins level (Not ∷ rest) stops = (other_role level).1
Stops-joins level (Joins inner ∷ rest) stops = no_joint level inner stops
Stops-joins level (Opens ∷ rest) stops = (other_role level).2
Stops-joins level (Closes ∷ rest) stops = (other_role level).3
Stops-joins level (Unsupported ∷ rest) stops = (other_role level).4
Stops-joins level (Other ∷ rest) stops = (other_role level).5

-- ---- places in the tokens

pub slice_get-drop : (n : ℕ) (tokens rest : List Role) → drop n tokens ≡ rest → slice_get tokens n ≡ slice_get rest 0
slice_get-drop zero tokens rest is = ap (λ l. slice_get l 0) is
slice_get-drop (suc n) [] rest is = ap (λ l. slice_get l 0) is
slice_get-drop (suc n) (role ∷ tokens) rest is = slice_get-drop n tokens rest is

pub drop-front : (n : ℕ) (tokens front rest : List Role) → drop n tokens ≡ front ++ rest → drop (n + length front) tokens ≡ rest
drop-front n tokens front rest is = sym (drop-drop (length front) n tokens) ∙ ap (drop (length front)) is ∙ drop_at front rest (length front) refl

pub drop-one : (n : ℕ) (tokens : List Role) (role : Role) (rest : List Role) → drop n tokens ≡ role ∷ rest → drop (n + 1) tokens ≡ rest
drop-one n tokens role rest is = drop-front n tokens (role ∷ []) rest is

-- ---- what is found

-- what is found of a phrase with so much room
pub record Agrees (room : ℕ) (parsed : Parsed) (after : ℕ) (outcome : OrRefusal Found) : Type 0 where
  pub low : parsed.height ≤ room → outcome ≡ Ok (record { parsed = parsed; after = after })
  pub high : room < parsed.height → outcome ≡ Err TooDeep

-- the members of a chain, with the number of the token after them
abbrev Gathered : Type 0
Gathered = List Parsed × ℕ

gathered : List Role → Level → ℕ → ℕ → ℕ → OrRefusal Gathered
gathered tokens level room fuel at =
    and_then (member_reader tokens level room at) (λ next.
    and_then {A = Gathered} (others_at tokens (member_reader tokens level room) level fuel next.after) (λ rest. Ok (next.parsed ∷ rest.0, rest.1)))

record Gathers (room : ℕ) (first : Parsed) (others : List Parsed) (after : ℕ) (outcome : OrRefusal Gathered) : Type 0 where
  low : highest (first ∷ others) ≤ room → outcome ≡ Ok (first ∷ others, after)
  high : room < highest (first ∷ others) → outcome ≡ Err TooDeep

Agrees-after : {room : ℕ} {parsed : Parsed} {one other : ℕ} {outcome : OrRefusal Found} → one ≡ other → Agrees room parsed one outcome → Agrees room parsed other outcome
Agrees-after {room = room} {parsed = parsed} {outcome = outcome} same agrees = subst (λ n. Agrees room parsed n outcome) same agrees

Gathers-after : {room : ℕ} {first : Parsed} {others : List Parsed} {one other : ℕ} {outcome : OrRefusal Gathered} → one ≡ other
    → Gathers room first others one outcome → Gathers room first others other outcome
Gathers-after {room = room} {first = first} {others = others} {outcome = outcome} same gathers = subst (λ n. Gathers room first others n outcome) same gathers

module _ (tokens : List Role) where
  -- ---- a `not`

  name_agrees : (room at : ℕ) → slice_get tokens at ≡ Some Name → Agrees room (named at) (at + 1) (read tokens unary room at)
  name_agrees zero at is = record { low = λ l. absurd (omega arith); high = λ h. read-unary-zero tokens at }
  name_agrees (suc room) at is = record { low = λ l. read-unary-name tokens (suc room) at (omega arith) is; high = λ h. absurd (omega arith) }

  after_not : (room at : ℕ) → slice_get tokens at ≡ Some Not → read tokens unary (suc room) at ≡ and_then (read tokens unary room (at + 1)) (λ part. Ok (negated_found part))
  after_not room at is = read-unary-suc tokens room at ∙ ap (λ r. by_role r at (read tokens unary room (at + 1)) (and_then (read tokens (chain Same) room (at + 1)) (closed tokens))) is

  not_agrees : (room at end : ℕ) (part : Parsed) → slice_get tokens at ≡ Some Not
      → ((less : ℕ) → Agrees less part end (read tokens unary less (at + 1))) → Agrees room (negated part) end (read tokens unary room at)
  not_agrees zero at end part is inner = record { low = λ l. absurd (omega arith); high = λ h. read-unary-zero tokens at }
  not_agrees (suc room) at end part is inner = record {
    low = λ l. after_not room at is ∙ ap (λ o. and_then o (λ p. Ok (negated_found p))) ((inner room).low (omega arith));
    high = λ h. after_not room at is ∙ ap (λ o. and_then o (λ p. Ok (negated_found p))) ((inner room).high (omega arith));
  }

  after_open : (room at : ℕ) → slice_get tokens at ≡ Some Opens → read tokens unary (suc room) at ≡ and_then (read tokens (chain Same) room (at + 1)) (closed tokens)
  after_open room at is = read-unary-suc tokens room at ∙ ap (λ r. by_role r at (read tokens unary room (at + 1)) (and_then (read tokens (chain Same) room (at + 1)) (closed tokens))) is

  closed_at : (part : Found) → slice_get tokens part.after ≡ Some Closes → closed tokens part ≡ Ok (enclosed_found part)
  unfolding closed
  closed_at part is = ap (λ r. closed_by r part) is

  open_agrees : (room at end : ℕ) (part : Parsed) → slice_get tokens at ≡ Some Opens → slice_get tokens end ≡ Some Closes
      → ((less : ℕ) → Agrees less part end (read tokens (chain Same) less (at + 1))) → Agrees room (enclosed part) (end + 1) (read tokens unary room at)
  open_agrees zero at end part is closes inner = record { low = λ l. absurd (omega arith); high = λ h. read-unary-zero tokens at }
  open_agrees (suc room) at end part is closes inner = record {
    low = λ l. after_open room at is ∙ ap (λ o. and_then o (closed tokens)) ((inner room).low (omega arith))
        ∙ closed_at (record { parsed = part; after = end }) closes;
    high = λ h. after_open room at is ∙ ap (λ o. and_then o (closed tokens)) ((inner room).high (omega arith));
  }

  -- ---- a chain

  module _ (level : Level) (room : ℕ) where
    gather_last : (at after fuel : ℕ) (first : Parsed) → Agrees room first after (member_reader tokens level room at) → joins_at tokens level after ≡ false
        → Gathers room first [] after (gathered tokens level room fuel at)
    unfolding gathered
    gather_last at after fuel first agrees ends = record {
      low = λ l. rw (agrees.low (omega arith), others-end tokens (member_reader tokens level room) level fuel after ends) refl;
      high = λ h. rw (agrees.high (omega arith)) refl;
    }

    others-gathered : (fuel after : ℕ) → joins_at tokens level after ≡ true
        → others_at tokens (member_reader tokens level room) level (suc fuel) after ≡ gathered tokens level room fuel (after + 1)
    unfolding gathered
    others-gathered fuel after joins = others-joins tokens (member_reader tokens level room) level fuel after joins

    gather_more : (at after fuel end : ℕ) (first second : Parsed) (others : List Parsed) → Agrees room first after (member_reader tokens level room at)
        → joins_at tokens level after ≡ true → Gathers room second others end (gathered tokens level room fuel (after + 1))
        → Gathers room first (second ∷ others) end (gathered tokens level room (suc fuel) at)
    unfolding gathered
    gather_more at after fuel end first second others agrees joins rest = record {
      low = λ l. rw (agrees.low (omega arith), others-gathered fuel after joins) (rw (rest.low (omega arith)) refl);
      high = λ h. elim (cases_lt room first.height) [
        | inl above ↦ rw (agrees.high above) refl
        | inr below ↦ rw (agrees.low below, others-gathered fuel after joins) (rw (rest.high (omega arith)) refl)
      ];
    }

    -- a chain, made of what was gathered
    finish_gathered : Gathered → OrRefusal Found
    finish_gathered ([], end) = Err TooDeep
    finish_gathered (first ∷ others, end) = and_then (joined_within room level first others) (λ whole. Ok (record { parsed = whole; after = end }))

    regroup : (member : OrRefusal Found) (others : ℕ → OrRefusal Gathered)
        → and_then member (λ first. and_then (others first.after) (λ rest. and_then (joined_within room level first.parsed rest.0) (λ whole. Ok (record { parsed = whole; after = rest.1 }))))
        ≡ and_then (and_then member (λ next. and_then {A = Gathered} (others next.after) (λ rest. Ok (next.parsed ∷ rest.0, rest.1)))) finish_gathered
    unfolding finish_gathered
    regroup (Err reason) others = refl
    regroup (Ok member) others = regroup_others member (others member.after)
      where
        regroup_others : (member : Found) (rest : OrRefusal Gathered)
            → and_then rest (λ rest. and_then (joined_within room level member.parsed rest.0) (λ whole. Ok (record { parsed = whole; after = rest.1 })))
            ≡ and_then (and_then {A = Gathered} rest (λ rest. Ok (member.parsed ∷ rest.0, rest.1))) finish_gathered
        regroup_others member (Ok rest) = refl
        regroup_others member (Err reason) = refl

    chain-gathered : (at : ℕ) → read tokens (chain level) room at ≡ and_then (gathered tokens level room (length tokens) at) finish_gathered
    unfolding chain_at gathered
    chain-gathered at = read-chain tokens level room at ∙ regroup (member_reader tokens level room at) (others_at tokens (member_reader tokens level room) level (length tokens))

    chain_agrees : (at end : ℕ) (first : Parsed) (others : List Parsed) → Gathers room first others end (gathered tokens level room (length tokens) at)
        → Agrees room (joined level first others) end (read tokens (chain level) room at)
    unfolding finish_gathered
    chain_agrees at end first others gathers =
        let under = highest_in_joined level first others in
        record {
          low = λ l. chain-gathered at ∙ ap (λ o. and_then o finish_gathered) (gathers.low (omega arith))
              ∙ ap (λ o. and_then o (λ whole. Ok (record { parsed = whole; after = end }))) (within-low room (joined level first others) l);
          high = λ h. elim (cases_lt room (highest (first ∷ others))) [
            | inl above ↦ chain-gathered at ∙ ap (λ o. and_then o finish_gathered) (gathers.high above)
            | inr below ↦ chain-gathered at ∙ ap (λ o. and_then o finish_gathered) (gathers.low below)
                ∙ ap (λ o. and_then o (λ whole. Ok (record { parsed = whole; after = end }))) (within-high room (joined level first others) h)
          ];
        }

length-members : {level : Level} {from : ℕ} {tokens : List Role} {first : Parsed} {others : List Parsed} → AreMembers level from tokens first others
    → length others ≤ length tokens
length-members (last part) = omega arith
length-members (and {level = level} {tokens = tokens} {after = after} part parts) =
    let more = length-members parts in let size = length-append tokens (Joins level ∷ after) in omega arith

joins-at : (tokens : List Role) (level : Level) (at : ℕ) (rest : List Role) → drop at tokens ≡ rest → joins_at tokens level at ≡ role_joins level (slice_get rest 0)
unfolding joins_at
joins-at tokens level at rest is = ap (role_joins level) (slice_get-drop at tokens rest is)

fits-in : (from : ℕ) (all front rest : List Role) → drop from all ≡ front ++ rest → length front ≤ length all
fits-in from all front rest is =
    let one = ap length is in let two = length-drop from all in let three = length-append front rest in omega arith

mutual
  pub reads_agree : {part : Phrase} {from : ℕ} {tokens : List Role} {parsed : Parsed} → Reads part from tokens parsed
      → (all rest : List Role) (room : ℕ) → drop from all ≡ tokens ++ rest → Stops part rest
      → Agrees room parsed (from + length tokens) (read all part room from)
  reads_agree (members {level = level} {from = from} {tokens = tokens} {first = first} {others = others} parts) all rest room is stops =
      chain_agrees all level room from (from + length tokens) first others
      (members_gather parts all rest room (length all) is stops (let a = length-members parts in let b = fits-in from all tokens rest is in omega arith))
  reads_agree (negation {from = from} {tokens = tokens} {part = inner} part) all rest room is stops =
      Agrees-after (let one : from + 1 + length tokens ≡ from + suc (length tokens) = omega arith in one)
      (not_agrees all room from (from + 1 + length tokens) inner (slice_get-drop from all (Not ∷ (tokens ++ rest)) is)
      (λ less. reads_agree part all rest less (drop-one from all Not (tokens ++ rest) is) stops))
  reads_agree (parentheses {from = from} {tokens = tokens} {part = inner} part) all rest room is stops =
      let inside : drop (from + 1) all ≡ tokens ++ Closes ∷ rest =
      drop-one from all Opens ((tokens ++ Closes ∷ []) ++ rest) is ∙ append_assoc tokens (Closes ∷ []) rest in
      let size = length-append tokens (Closes ∷ []) in
      Agrees-after (let one : from + 1 + length tokens + 1 ≡ from + suc (length (tokens ++ Closes ∷ [])) = omega arith in one)
      (open_agrees all room from (from + 1 + length tokens) inner (slice_get-drop from all (Opens ∷ ((tokens ++ Closes ∷ []) ++ rest)) is)
      (slice_get-drop (from + 1 + length tokens) all (Closes ∷ rest) (drop-front (from + 1) all tokens (Closes ∷ rest) inside))
      (λ less. reads_agree part all (Closes ∷ rest) less inside tt))
  reads_agree (name {from = from}) all rest room is stops = name_agrees all room from (slice_get-drop from all (Name ∷ rest) is)

  members_gather : {level : Level} {from : ℕ} {tokens : List Role} {first : Parsed} {others : List Parsed} → AreMembers level from tokens first others
      → (all rest : List Role) (room fuel : ℕ) → drop from all ≡ tokens ++ rest → Stops (chain level) rest → length others ≤ fuel
      → Gathers room first others (from + length tokens) (gathered all level room fuel from)
  members_gather (last {level = level} {from = from} {tokens = tokens} {first = first} part) all rest room fuel is stops enough =
      gather_last all level room from (from + length tokens) fuel first (reads_agree part all rest room is (Stops-member level rest stops))
      (joins-at all level (from + length tokens) rest (drop-front from all tokens rest is) ∙ Stops-joins level rest stops)
  members_gather (and part parts) all rest room zero is stops enough = absurd (omega arith)
  members_gather (and {level = level} {from = from} {tokens = tokens} {after = after} {first = first} {second = second} {others = others} part parts) all rest room (suc fuel) is stops enough =
      let split : drop from all ≡ tokens ++ Joins level ∷ (after ++ rest) = is ∙ append_assoc tokens (Joins level ∷ after) rest in
      let joint : drop (from + length tokens) all ≡ Joins level ∷ (after ++ rest) = drop-front from all tokens (Joins level ∷ (after ++ rest)) split in
      let size = length-append tokens (Joins level ∷ after) in
      Gathers-after (let one : from + length tokens + 1 + length after ≡ from + length (tokens ++ Joins level ∷ after) = omega arith in one)
      (gather_more all level room from (from + length tokens) fuel (from + length tokens + 1 + length after) first second others
      (reads_agree part all (Joins level ∷ (after ++ rest)) room split (Stops-at_joint level (after ++ rest)))
      (joins-at all level (from + length tokens) (Joins level ∷ (after ++ rest)) joint ∙ joins-own level)
      (members_gather parts all rest room fuel (drop-one (from + length tokens) all (Joins level) (after ++ rest) joint) stops (omega arith)))

-- ---- a whole formula

pub reads_whole : (tokens : List Role) (parsed : Parsed) (room : ℕ) → IsFormula tokens parsed
    → Agrees room parsed (length tokens) (read tokens (chain Same) room 0)
reads_whole tokens parsed room reads =
    Agrees-after (let one : 0 + length tokens ≡ length tokens = omega arith in one) (reads_agree reads tokens [] room (sym (append-nil tokens)) tt)
