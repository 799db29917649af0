-- A formula as a literal: gates in the manner of Tseitin, On the complexity of derivation in propositional calculus, 1968,
-- with clauses in both directions. The order of the variables is own to this project.
use Rattle.std.specs.Prelude.{ℕ, ◌+◌, List, [], ◌∷◌, ◌++◌, map}
use Rattle.clauses.specs.declared.literal.Lit.{Lit}
use Rattle.clauses.specs.Clause.{negation, positive_of}
use Rattle.feature_tree.specs.declared.formula.Formula.{Formula}
use Rattle.feature_tree.specs.declared.formula.Formula.TheOpen as node
use Rattle.feature_tree.specs.declared.formula.Formula.TheOpen.{Formula-F}
use Rattle.feature_tree.specs.declared.formula.Formula.TheFolds.{fold-Formula}
use Rattle.clause_form.specs.Parts.{Part, Own, size, clauses, bare, size_of, clauses_from}

-- the gates of a formula, and the literal that is true where the formula is, where the gates' first variable has the given
-- number
pub data Gates : Type 0 where
  Made : Part → (ℕ → Lit) → Gates

abbrev pub gates : Gates → Part
gates (Made part make) = part

abbrev pub literal : Gates → ℕ → Lit
literal (Made part make) first = make first

-- ---- the clauses of one gate g

-- g where all of the literals are true
abbrev pub all_clauses : Lit → List Lit → List (List Lit)
all_clauses g literals = map (λ literal. negation g ∷ literal ∷ []) literals ++ (g ∷ map negation literals) ∷ []

-- g where some of them is
abbrev pub any_clauses : Lit → List Lit → List (List Lit)
any_clauses g literals = map (λ literal. g ∷ negation literal ∷ []) literals ++ (negation g ∷ literals) ∷ []

-- g where a isn't true or b is
abbrev pub implies_clauses : Lit → Lit → Lit → List (List Lit)
implies_clauses g a b = any_clauses g (negation a ∷ b ∷ [])

-- g where both are true or neither is
abbrev pub same_clauses : Lit → Lit → Lit → List (List Lit)
same_clauses g a b =
    (negation g ∷ negation a ∷ b ∷ [])
    ∷ (negation g ∷ a ∷ negation b ∷ [])
    ∷ (g ∷ a ∷ b ∷ [])
    ∷ (g ∷ negation a ∷ negation b ∷ [])
    ∷ []

-- ---- the gates of a formula

-- the literals of formulas whose gates follow each other
abbrev pub literals_from : ℕ → List Gates → List Lit
literals_from first [] = []
literals_from first (one ∷ others) = literal one first ∷ literals_from (first + size (gates one)) others

-- no gates: a literal that stands there already
abbrev pub wire : Lit → Gates
wire literal = Made (bare []) (λ first. literal)

-- the negated literal, without a gate
abbrev pub negated : Gates → Gates
negated one = Made (gates one) (λ first. negation (literal one first))

-- the gates of the members, and behind them one that is made from their literals
abbrev pub gate_over : (Lit → List Lit → List (List Lit)) → List Gates → Gates
gate_over make members =
    let before = size_of (map gates members) in
    Made
    (Own (before + 1) (λ first. clauses_from first (map gates members) ++ make (positive_of (first + before)) (literals_from first members)))
    (λ first. positive_of (first + before))

-- the same over two sides
abbrev pub gate_over_two : (Lit → Lit → Lit → List (List Lit)) → Gates → Gates → Gates
gate_over_two make left right =
    let before = size (gates left) + size (gates right) in
    Made
    (Own (before + 1) (λ first.
    clauses (gates left) first ++ clauses (gates right) (first + size (gates left))
    ++ make (positive_of (first + before)) (literal left first) (literal right (first + size (gates left)))))
    (λ first. positive_of (first + before))

-- the gates of one node, whose members are given by their gates
abbrev pub gates_of_node : Formula-F Gates → Gates
gates_of_node (node.Name feature) = wire (positive_of feature)
gates_of_node (node.Not part) = negated part
gates_of_node (node.All parts) = gate_over all_clauses parts
gates_of_node (node.Any parts) = gate_over any_clauses parts
gates_of_node (node.Implies left right) = gate_over_two implies_clauses left right
gates_of_node (node.Same left right) = gate_over_two same_clauses left right

-- the gates of a formula; equal formulas aren't shared
abbrev pub gates_of : Formula → Gates
gates_of = fold-Formula Gates gates_of_node
