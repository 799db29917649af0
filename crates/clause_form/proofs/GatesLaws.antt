-- The gates of each kind of formula.
use Rattle.std.proofs.Common.{◌≡◌, ◌∙◌, refl, ap, ℕ, ◌+◌, List, [], ◌∷◌, ◌++◌, map, arith}
use Rattle.std.proofs.lemmas.List.{append_assoc}
use Rattle.clauses.specs.Clause.{negation, positive_of}
use Rattle.clauses.specs.declared.literal.Lit.{Lit}
use Rattle.feature_tree.specs.declared.formula.Formula.{Formula}
use Rattle.feature_tree.specs.declared.formula.Formula.TheVariants.{Name, Not, All as AllOf, Any as AnyOf, Implies, Same}
use Rattle.feature_tree.specs.Folds.{fold-Name, fold-Not, fold-All, fold-Any, fold-Implies, fold-Same}
use Rattle.clause_form.specs.Parts.{size, clauses}
use Rattle.clause_form.specs.Gates.{Gates, gates, literal, wire, negated, gate_over, gate_over_two, all_clauses, any_clauses, implies_clauses, same_clauses, gates_of_node, gates_of}

pub gates_of-Name : (name : ℕ) → gates_of (Name name) ≡ wire (positive_of name)
gates_of-Name name = fold-Name Gates gates_of_node name

pub gates_of-Not : (part : Formula) → gates_of (Not part) ≡ negated (gates_of part)
gates_of-Not part = fold-Not Gates gates_of_node part

pub gates_of-All : (parts : List Formula) → gates_of (AllOf parts) ≡ gate_over all_clauses (map gates_of parts)
gates_of-All parts = fold-All Gates gates_of_node parts

pub gates_of-Any : (parts : List Formula) → gates_of (AnyOf parts) ≡ gate_over any_clauses (map gates_of parts)
gates_of-Any parts = fold-Any Gates gates_of_node parts

pub gates_of-Implies : (left right : Formula) → gates_of (Implies left right) ≡ gate_over_two implies_clauses (gates_of left) (gates_of right)
gates_of-Implies left right = fold-Implies Gates gates_of_node left right

pub gates_of-Same : (left right : Formula) → gates_of (Same left right) ≡ gate_over_two same_clauses (gates_of left) (gates_of right)
gates_of-Same left right = fold-Same Gates gates_of_node left right

-- ---- the clauses of a gate, as they are added

pub pairs-negated : (g : Lit) (literals : List Lit) → map (λ other. g ∷ other ∷ []) (map negation literals) ≡ map (λ one. g ∷ negation one ∷ []) literals
pairs-negated g [] = refl
pairs-negated g (one ∷ literals) = ap (λ pairs. (g ∷ negation one ∷ []) ∷ pairs) (pairs-negated g literals)

pub any-added : (g : Lit) (literals : List Lit) (a b c : List (List Lit)) → b ≡ a ++ map (λ other. g ∷ other ∷ []) (map negation literals) → c ≡ b ++ (negation g ∷ literals) ∷ []
    → c ≡ a ++ any_clauses g literals
any-added g literals a b c first last =
    last
    ∙ ap (λ x. x ++ (negation g ∷ literals) ∷ []) (first ∙ ap (λ pairs. a ++ pairs) (pairs-negated g literals))
    ∙ append_assoc a (map (λ one. g ∷ negation one ∷ []) literals) ((negation g ∷ literals) ∷ [])

-- two sides and a gate over them
pub two-added :
    (make : Lit → Lit → Lit → List (List Lit)) (left right : Gates) (first second third : ℕ) (a b c d : List (List Lit))
    → second ≡ first + size (gates left) → third ≡ second + size (gates right)
    → b ≡ a ++ clauses (gates left) first → c ≡ b ++ clauses (gates right) second
    → d ≡ c ++ make (positive_of third) (literal left first) (literal right second)
    → d ≡ a ++ clauses (gates (gate_over_two make left right)) first
two-added make left right first second third a b c d is_second is_third one two last =
    let place : third ≡ first + (size (gates left) + size (gates right)) = omega arith in
    let here = clauses (gates left) first in
    let there = clauses (gates right) (first + size (gates left)) in
    let gate = make (positive_of (first + (size (gates left) + size (gates right)))) (literal left first) (literal right (first + size (gates left))) in
    let before : c ≡ a ++ (here ++ there) = two ∙ ap (λ x. x ++ clauses (gates right) second) one ∙ append_assoc a here (clauses (gates right) second) ∙ ap (λ k. a ++ (here ++ clauses (gates right) k)) is_second in
    last
    ∙ ap (λ k. c ++ make (positive_of third) (literal left first) (literal right k)) is_second
    ∙ ap (λ k. c ++ make (positive_of k) (literal left first) (literal right (first + size (gates left)))) place
    ∙ ap (λ x. x ++ gate) before
    ∙ append_assoc a (here ++ there) gate
