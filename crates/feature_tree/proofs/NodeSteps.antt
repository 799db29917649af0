-- A chain that is one node: what the formulas and the greatest height of its members say of the chain.
use Rattle.std.proofs.Common.{◌≡◌, ◌≢◌, ◌∙◌, refl, ap, sym, subst, ℕ, ◌+◌, ◌-◌, ◌<◌, ◌≤◌, max, true, false, IsTrue, IsFalse, List, [], ◌∷◌, ◌++◌, map, length, Ok, Err, arith}
use Rattle.std.proofs.lemmas.List.{map-append}
use Rattle.feature_tree.specs.declared.formula.Formula.{Formula}
use Rattle.feature_tree.specs.declared.reader.descent.Found.{Found}
use Rattle.feature_tree.specs.declared.reader.error.FormulaError.{FormulaError}
use Rattle.feature_tree.specs.declared.reader.parsed.Parsed.{Parsed}
use Rattle.feature_tree.specs.declared.reader.role.Level.{Level}
use Rattle.feature_tree.specs.declared.reader.role.Level.TheVariants.{Same, Implies, Any, All as AllLevel}
use Rattle.feature_tree.specs.declared.reader.role.Role.{Role}
use Rattle.feature_tree.specs.Grammar.{chain, member_of, highest, joined}
use Rattle.feature_tree.specs.inside.Descent.{Answers, is_one_node, node_within, within, joined_within, joined_from_the_left, joins_at, read}
use Rattle.feature_tree.proofs.DescentSteps.{go_on, go_on-start, go_on-step, go_on-step-err, finish-err, finish-ok, pushed}
use Rattle.feature_tree.proofs.Heights.{highest-push, within-low}

-- ---- what chains are

pub pairs_within : (room : ℕ) (level : Level) (first : Parsed) (others : List Parsed) → IsFalse (is_one_node level)
    → joined_within room level first others ≡ joined_from_the_left room level first others
pairs_within room Same first others pairs = refl
pairs_within room Implies first others pairs = refl
pairs_within room Any first others pairs = absurd (cc)
pairs_within room AllLevel first others pairs = absurd (cc)

joined_alone : (level : Level) (first : Parsed) → joined level first [] ≡ first
joined_alone Same first = refl
joined_alone Implies first = refl
joined_alone Any first = refl
joined_alone AllLevel first = refl

abbrev formulas : List Parsed → List Formula
formulas parts = map (λ part. part.formula) parts

node_joined : (room : ℕ) (level : Level) (first second : Parsed) (others : List Parsed) → IsTrue (is_one_node level)
    → joined_within room level first (second ∷ others) ≡ node_within room level (formulas (first ∷ second ∷ others)) (highest (first ∷ second ∷ others))
node_joined room Same first second others node = absurd (cc)
node_joined room Implies first second others node = absurd (cc)
node_joined room Any first second others node = refl
node_joined room AllLevel first second others node = refl

nodes_joined : (room : ℕ) (level : Level) (first : Parsed) (others : List Parsed) → others ≢ [] → IsTrue (is_one_node level)
    → joined_within room level first others ≡ node_within room level (formulas (first ∷ others)) (highest (first ∷ others))
nodes_joined room level first [] some node = absurd (some refl)
nodes_joined room level first (second ∷ others) some node = node_joined room level first second others node

-- ---- members, one after the other

module _ (tokens : List Role) (level : Level) (room at : ℕ) where
  -- these are the formulas and the greatest height of the members that were read up to here
  pub record AreGathered (parts : List Formula) (height after : ℕ) : Type 0 where
    pub first : Parsed
    pub others : List Parsed
    pub parts_are : parts ≡ map (λ part. part.formula) (first ∷ others)
    pub height_is : height ≡ highest (first ∷ others)
    pub behind : length others < after
    -- where there is one member alone, another follows
    pub more : others ≡ [] → joins_at tokens level after ≡ true
    pub whole : go_on tokens level room first (length tokens - length others) others after ≡ read tokens (chain level) room at

  pub alone : (first : Found) → read tokens (member_of level) room at ≡ Ok first → joins_at tokens level first.after ≡ false → first.parsed.height ≤ room
      → read tokens (chain level) room at ≡ Ok (record { parsed = first.parsed; after = first.after })
  alone first is ends low =
      let fits : joined_within room level first.parsed [] ≡ Ok first.parsed = ap (within room) (joined_alone level first.parsed) ∙ within-low room first.parsed low in
      sym (go_on-start tokens level room at first [] refl is)
      ∙ finish-ok tokens room level first.parsed (length tokens - 0) [] first.after first.parsed ends fits

  pub gathered-start : (first : Found) (parts : List Formula) → read tokens (member_of level) room at ≡ Ok first → joins_at tokens level first.after ≡ true → 0 < first.after
      → parts ≡ first.parsed.formula ∷ [] → AreGathered parts first.parsed.height first.after
  gathered-start first parts is joins past made = record {
    first = first.parsed;
    others = [];
    parts_are = made;
    height_is = omega arith;
    behind = omega arith;
    more = λ none. joins;
    whole = go_on-start tokens level room at first [] refl is;
  }

  module _ (parts : List Formula) (height after : ℕ) (gathered : AreGathered parts height after) where
    pub gathered-next : (next : Found) (longer : List Formula) (higher : ℕ) → after ≤ length tokens → joins_at tokens level after ≡ true
        → read tokens (member_of level) room (after + 1) ≡ Ok next → after + 1 < next.after → longer ≡ parts ++ next.parsed.formula ∷ [] → higher ≡ max height next.parsed.height
        → AreGathered longer higher next.after
    gathered-next next longer higher inside joins is past made high =
        let size = pushed gathered.others next.parsed (gathered.others ++ next.parsed ∷ []) refl in
        let behind = gathered.behind in
        let tallest = highest-push (gathered.first ∷ gathered.others) next.parsed in
        let height_is = gathered.height_is in
        record {
          first = gathered.first;
          others = gathered.others ++ next.parsed ∷ [];
          parts_are = made ∙ ap (λ front. front ++ next.parsed.formula ∷ []) gathered.parts_are ∙ sym (map-append (λ part. part.formula) (gathered.first ∷ gathered.others) (next.parsed ∷ []));
          height_is = omega arith;
          behind = omega arith;
          more = λ none. let zero : length (gathered.others ++ next.parsed ∷ []) ≡ 0 = ap length none in absurd (omega arith);
          whole = go_on-step tokens level room gathered.first (length tokens) gathered.others after next (gathered.others ++ next.parsed ∷ []) (omega arith) joins is refl ∙ gathered.whole;
        }

    pub gathered-err : (reason : FormulaError) → after ≤ length tokens → joins_at tokens level after ≡ true
        → Answers {A = Found} (Err reason) (read tokens (member_of level) room (after + 1)) → Answers {A = Found} (Err reason) (read tokens (chain level) room at)
    gathered-err reason inside joins is =
        let behind = gathered.behind in
        subst (λ o. Answers {A = Found} (Err reason) o) gathered.whole
        (go_on-step-err tokens level room gathered.first (length tokens) gathered.others after reason (omega arith) joins is)

    some : joins_at tokens level after ≡ false → gathered.others ≢ []
    some ends none = let joins = gathered.more none in absurd (cc)

    node_is : joins_at tokens level after ≡ false → IsTrue (is_one_node level) → joined_within room level gathered.first gathered.others ≡ node_within room level parts height
    node_is ends node =
        nodes_joined room level gathered.first gathered.others (some ends) node
        ∙ ap (λ all. node_within room level all (highest (gathered.first ∷ gathered.others))) (sym gathered.parts_are)
        ∙ ap (λ high. node_within room level parts high) (sym gathered.height_is)

    pub gathered-end-err : (reason : FormulaError) → joins_at tokens level after ≡ false → IsTrue (is_one_node level) → Answers {A = Parsed} (Err reason) (node_within room level parts height)
        → Answers {A = Found} (Err reason) (read tokens (chain level) room at)
    gathered-end-err reason ends node is =
        subst (λ o. Answers {A = Found} (Err reason) o) gathered.whole
        (finish-err tokens room level gathered.first (length tokens - length gathered.others) gathered.others after reason ends
        (subst (λ o. Answers {A = Parsed} (Err reason) o) (sym (node_is ends node)) is))

    pub gathered-end : (whole : Parsed) → joins_at tokens level after ≡ false → IsTrue (is_one_node level) → node_within room level parts height ≡ Ok whole
        → read tokens (chain level) room at ≡ Ok (record { parsed = whole; after = after })
    gathered-end whole ends node is =
        sym gathered.whole
        ∙ finish-ok tokens room level gathered.first (length tokens - length gathered.others) gathered.others after whole ends (node_is ends node ∙ is)
