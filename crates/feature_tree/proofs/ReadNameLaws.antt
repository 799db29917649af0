-- Each name of a formula that was read is the number of a token that is a name.
use Rattle.std.proofs.Common.{◌≡◌, ◌∙◌, sym, subst, append_assoc, ℕ, ◌+◌, ◌<◌, List, [], ◌∷◌, ◌++◌, All, drop, length, map, Some}
use Rattle.std.specs.List.{slice_get, flat_map}
use Rattle.std.proofs.lemmas.List.{append-nil}
use Rattle.std.proofs.lemmas.List.Elements.{All-nil, All-cons, All-append, All-weaker}
use Rattle.std.proofs.lemmas.Option.{slice_get_within}
use Rattle.uvl_lex.specs.declared.token.Token.{Token}
use Rattle.feature_tree.specs.declared.formula.Formula.{Formula}
use Rattle.feature_tree.specs.declared.formula.Formula.TheVariants as formula
use Rattle.feature_tree.specs.declared.reader.parsed.Parsed.{Parsed}
use Rattle.feature_tree.specs.declared.reader.role.Level.{Level}
use Rattle.feature_tree.specs.declared.reader.role.Level.TheVariants.{Same, Implies, Any, All as AllLevel}
use Rattle.feature_tree.specs.declared.reader.role.Role.{Role}
use Rattle.feature_tree.specs.declared.reader.role.Role.TheVariants.{Name, Not, Joins, Opens, Closes}
use Rattle.feature_tree.specs.Folds.{fold-Name, fold-Not, fold-All, fold-Any, fold-Implies, fold-Same}
use Rattle.feature_tree.specs.Grammar.{Phrase, paired, from_the_left, joined, Reads, AreMembers, members, negation, parentheses, name, last, and}
use Rattle.feature_tree.specs.Names.{names_of_node, names, NamesBelow}
use Rattle.feature_tree.specs.ReadFormulas.{ReadNamesAreNames}
use Rattle.feature_tree.specs.Refusals.{StandsFor}
use Rattle.feature_tree.specs.Roles.{roles_of}
use Rattle.feature_tree.proofs.Completeness.{slice_get-drop, drop-front, drop-one}
use Rattle.feature_tree.proofs.DescentSteps.{length-roles}

-- ---- what holds of each name of the parts holds of each name of the whole

module _ (P : ℕ → Type 0) where
  abbrev AllNames : Formula → Type 0
  AllNames formula = All P (names formula)

  abbrev AllNamesOf : List Parsed → Type 0
  AllNamesOf [] = Unit {0}
  AllNamesOf (part ∷ parts) = AllNames part.formula × AllNamesOf parts

  names-Implies : (left right : Formula) → AllNames left → AllNames right → AllNames (formula.Implies left right)
  names-Implies left right one other = subst (All P) (sym (fold-Implies (List ℕ) names_of_node left right)) (All-append P (names left) (names right) one other)

  names-Same : (left right : Formula) → AllNames left → AllNames right → AllNames (formula.Same left right)
  names-Same left right one other = subst (All P) (sym (fold-Same (List ℕ) names_of_node left right)) (All-append P (names left) (names right) one other)

  names-from_the_left : (pair : Formula → Formula → Formula) → ((left right : Formula) → AllNames left → AllNames right → AllNames (pair left right))
      → (first : Parsed) (others : List Parsed) → AllNames first.formula → AllNamesOf others → AllNames (from_the_left pair first others).formula
  names-from_the_left pair keeps first [] here more = here
  names-from_the_left pair keeps first (second ∷ others) here (next, more) =
      names-from_the_left pair keeps (paired pair first second) others (keeps first.formula second.formula here next) more

  names-parts : (parts : List Parsed) → AllNamesOf parts → All P (flat_map (λ part. part) (map names (map (λ part. part.formula) parts)))
  names-parts [] all = All-nil P
  names-parts (part ∷ parts) (here, more) = All-append P (names part.formula) (flat_map (λ part. part) (map names (map (λ part. part.formula) parts))) here (names-parts parts more)

  names-joined : (level : Level) (first : Parsed) (others : List Parsed) → AllNamesOf (first ∷ others) → AllNames (joined level first others).formula
  names-joined Same first others (here, more) = names-from_the_left formula.Same names-Same first others here more
  names-joined Implies first others (here, more) = names-from_the_left formula.Implies names-Implies first others here more
  names-joined Any first [] (here, more) = here
  names-joined Any first (second ∷ others) all =
      subst (All P) (sym (fold-Any (List ℕ) names_of_node (map (λ part. part.formula) (first ∷ second ∷ others)))) (names-parts (first ∷ second ∷ others) all)
  names-joined AllLevel first [] (here, more) = here
  names-joined AllLevel first (second ∷ others) all =
      subst (All P) (sym (fold-All (List ℕ) names_of_node (map (λ part. part.formula) (first ∷ second ∷ others)))) (names-parts (first ∷ second ∷ others) all)

-- ---- along the grammar

abbrev IsNameOf : List Role → ℕ → Type 0
IsNameOf all token = slice_get all token ≡ Some Name

mutual
  reads_names : {part : Phrase} {from : ℕ} {tokens : List Role} {parsed : Parsed} → Reads part from tokens parsed
      → (all rest : List Role) → drop from all ≡ tokens ++ rest → AllNames (IsNameOf all) parsed.formula
  reads_names (members {level = level} {first = first} {others = others} parts) all rest is =
      names-joined (IsNameOf all) level first others (members_names parts all rest is)
  reads_names (negation {from = from} {tokens = tokens} {part = inner} part) all rest is =
      subst (All (IsNameOf all)) (sym (fold-Not (List ℕ) names_of_node inner.formula)) (reads_names part all rest (drop-one from all Not (tokens ++ rest) is))
  reads_names (parentheses {from = from} {tokens = tokens} part) all rest is =
      reads_names part all (Closes ∷ rest) (drop-one from all Opens ((tokens ++ Closes ∷ []) ++ rest) is ∙ append_assoc tokens (Closes ∷ []) rest)
  reads_names (name {from = from}) all rest is =
      subst (All (IsNameOf all)) (sym (fold-Name (List ℕ) names_of_node from))
      (All-cons (IsNameOf all) from [] (slice_get-drop from all (Name ∷ rest) is) (All-nil (IsNameOf all)))

  members_names : {level : Level} {from : ℕ} {tokens : List Role} {first : Parsed} {others : List Parsed} → AreMembers level from tokens first others
      → (all rest : List Role) → drop from all ≡ tokens ++ rest → AllNamesOf (IsNameOf all) (first ∷ others)
  members_names (last part) all rest is = (reads_names part all rest is, tt)
  members_names (and {level = level} {from = from} {tokens = tokens} {after = after} part parts) all rest is =
      let split : drop from all ≡ tokens ++ Joins level ∷ (after ++ rest) = is ∙ append_assoc tokens (Joins level ∷ after) rest in
      let joint : drop (from + length tokens) all ≡ Joins level ∷ (after ++ rest) = drop-front from all tokens (Joins level ∷ (after ++ rest)) split in (
        reads_names part all (Joins level ∷ (after ++ rest)) split,
        members_names parts all rest (drop-one (from + length tokens) all (Joins level) (after ++ rest) joint),
      )

pub read_names_are_names : ReadNamesAreNames
read_names_are_names tokens parsed reads = reads_names reads tokens [] (sym (append-nil tokens))

-- the names of a formula that stands for tokens are below their count
pub stands_below : (tokens : List Token) (formula : Formula) → StandsFor (roles_of tokens) formula → NamesBelow (length tokens) formula
stands_below tokens formula stands =
    All-weaker (IsNameOf (roles_of tokens)) (λ name. name < length tokens)
    (λ name is. subst (λ count. name < count) (length-roles tokens) (slice_get_within (roles_of tokens) name Name is))
    (names formula) (read_names_are_names (roles_of tokens) (record { formula = formula; height = stands.height }) stands.reads)
