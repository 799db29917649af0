-- Each All and each Any of a formula that was read has two or more parts.
use Rattle.std.proofs.Common.{◌≡◌, ◌∙◌, refl, ℕ, ◌≤◌, Bool, true, false, ◌&&◌, nat_le, List, [], ◌∷◌, length, map, arith}
use Rattle.std.specs.List.{list_all}
use Rattle.std.proofs.lemmas.Bool.Decides.{nat_tests}
use Rattle.feature_tree.specs.declared.formula.Formula.{Formula}
use Rattle.feature_tree.specs.declared.formula.Formula.TheVariants as formula
use Rattle.feature_tree.specs.declared.reader.parsed.Parsed.{Parsed}
use Rattle.feature_tree.specs.declared.reader.role.Level.{Level}
use Rattle.feature_tree.specs.declared.reader.role.Level.TheVariants.{Same, Implies, Any, All}
use Rattle.feature_tree.specs.declared.reader.role.Role.{Role}
use Rattle.feature_tree.specs.declared.formula.Formula.TheFolds.{fold-Formula}
use Rattle.feature_tree.specs.Folds.{fold-Name, fold-Not, fold-All, fold-Any, fold-Implies, fold-Same}
use Rattle.feature_tree.specs.Grammar.{Phrase, paired, from_the_left, joined, Reads, AreMembers, members, negation, parentheses, name, last, and}
use Rattle.feature_tree.specs.ReadFormulas.{full_node, IsFull, ReadFormulasAreFull}

abbrev AreFull : List Parsed → Type 0
AreFull [] = Unit {0}
AreFull (part ∷ parts) = IsFull part.formula × AreFull parts

and_true : {a b : Bool} → a ≡ true → b ≡ true → (a && b) ≡ true
and_true {a = true} {b = b} is too = too
and_true {a = false} {b = b} is too = is

Implies-full : (left right : Formula) → IsFull left → IsFull right → IsFull (formula.Implies left right)
Implies-full left right is too = fold-Implies Bool full_node left right ∙ and_true is too

Same-full : (left right : Formula) → IsFull left → IsFull right → IsFull (formula.Same left right)
Same-full left right is too = fold-Same Bool full_node left right ∙ and_true is too

from_the_left-full : (pair : Formula → Formula → Formula) → ((left right : Formula) → IsFull left → IsFull right → IsFull (pair left right))
    → (first : Parsed) (others : List Parsed) → IsFull first.formula → AreFull others → IsFull (from_the_left pair first others).formula
from_the_left-full pair full first [] is are = is
from_the_left-full pair full first (second ∷ others) is (here, more) =
    from_the_left-full pair full (paired pair first second) others (full first.formula second.formula is here) more

abbrev is_full : Formula → Bool
is_full = fold-Formula Bool full_node

-- whether each part of a list is full
abbrev each_full : List Formula → Bool
each_full parts = list_all (λ part. part) (map (fold-Formula Bool full_node) parts)

parts_full : (parts : List Parsed) → AreFull parts → each_full (map (λ part. part.formula) parts) ≡ true
parts_full [] are = refl
parts_full (part ∷ parts) (here, more) = and_true here (parts_full parts more)

two : {A : Type 0} (first second : A) (others : List A) → nat_le 2 (length (first ∷ second ∷ others)) ≡ true
two first second others = let enough : 2 ≤ length (first ∷ second ∷ others) = omega arith in grind (arith, nat_tests)

All-full : (first second : Parsed) (others : List Parsed) → AreFull (first ∷ second ∷ others)
    → IsFull (formula.All (map (λ part. part.formula) (first ∷ second ∷ others)))
All-full first second others are =
    fold-All Bool full_node (map (λ part. part.formula) (first ∷ second ∷ others))
    ∙ and_true (two (is_full first.formula) (is_full second.formula) (map is_full (map (λ part. part.formula) others))) (parts_full (first ∷ second ∷ others) are)

Any-full : (first second : Parsed) (others : List Parsed) → AreFull (first ∷ second ∷ others)
    → IsFull (formula.Any (map (λ part. part.formula) (first ∷ second ∷ others)))
Any-full first second others are =
    fold-Any Bool full_node (map (λ part. part.formula) (first ∷ second ∷ others))
    ∙ and_true (two (is_full first.formula) (is_full second.formula) (map is_full (map (λ part. part.formula) others))) (parts_full (first ∷ second ∷ others) are)

joined-full : (level : Level) (first : Parsed) (others : List Parsed) → AreFull (first ∷ others) → IsFull (joined level first others).formula
joined-full Same first others (here, more) = from_the_left-full formula.Same Same-full first others here more
joined-full Implies first others (here, more) = from_the_left-full formula.Implies Implies-full first others here more
joined-full Any first [] (here, more) = here
joined-full Any first (second ∷ others) are = Any-full first second others are
joined-full All first [] (here, more) = here
joined-full All first (second ∷ others) are = All-full first second others are

mutual
  reads_full : {part : Phrase} {from : ℕ} {tokens : List Role} {parsed : Parsed} → Reads part from tokens parsed → IsFull parsed.formula
  reads_full (members {level = level} {first = first} {others = others} parts) = joined-full level first others (members_full parts)
  reads_full (negation {part = inner} part) = fold-Not Bool full_node inner.formula ∙ reads_full part
  reads_full (parentheses part) = reads_full part
  reads_full (name {from = from}) = fold-Name Bool full_node from

  members_full : {level : Level} {from : ℕ} {tokens : List Role} {first : Parsed} {others : List Parsed} → AreMembers level from tokens first others
      → AreFull (first ∷ others)
  members_full (last part) = (reads_full part, tt)
  members_full (and part parts) = (reads_full part, members_full parts)

pub read_formulas_are_full : ReadFormulasAreFull
read_formulas_are_full tokens parsed reads = reads_full reads
