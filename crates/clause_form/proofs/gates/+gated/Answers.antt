use Rattle.std.proofs.Common.{rules, ◌∙◌, ap, sym, ◌∷◌, [], ◌++◌}
use Rattle.std.proofs.lemmas.Result.{on_ok_weaker}
use Rattle.clauses.specs.Clause.{negation, positive_of}
use Rattle.clause_form.specs.Gates.{gates, literal, gates_of, any_clauses, implies_clauses, same_clauses}
use Rattle.clause_form.specs.Parts.{clauses}
use Rattle.clause_form.proofs.GatesLaws.{two-added, gates_of-Implies, gates_of-Same}
use Rattle.clause_form.proofs.gates.+gated.Goals as goal

pub add_formula-returns-in_ok-right-in-Implies-clause-clauses : goal.add_formula-returns-in_ok-right-in-Implies-clause-clauses
add_formula-returns-in_ok-right-in-Implies-clause-clauses t c =
    let left = c.in-Implies.left in
    let right = c.in-Implies.right in
    let first = c.args.out.now.next_variable in
    let second = c.add_formula-in-Implies.new.out.next_variable in
    let third = c.add_formula-in-Implies-2.new.out.next_variable in
    let old = c.args.out.now.clauses in
    let last_before = c.add_formula-in-Implies-2.new.out.clauses in
    on_ok_weaker c.add_any-in-Implies.result
    (λ last.
    two-added implies_clauses (gates_of left) (gates_of right) first second third old c.add_formula-in-Implies.new.out.clauses last_before c.add_any-in-Implies.new.out.clauses
    (search rules) (search rules) (search rules) (search rules)
    (last ∙ ap (λ one. last_before ++ any_clauses (positive_of third) (one ∷ c.in_ok-right-in-Implies.right ∷ [])) (search rules) ∙ ap (λ two. last_before ++ any_clauses (positive_of third) (negation (literal (gates_of left) first) ∷ two ∷ [])) (search rules))
    ∙ ap (λ made. old ++ clauses (gates made) first) (sym (gates_of-Implies left right) ∙ ap gates_of (sym c.in-Implies.is)))
    c.add_any-in-Implies.ensures.clauses

pub add_formula-returns-in_ok-right-in-Same-clause-clauses : goal.add_formula-returns-in_ok-right-in-Same-clause-clauses
add_formula-returns-in_ok-right-in-Same-clause-clauses t c =
    let left = c.in-Same.left in
    let right = c.in-Same.right in
    let first = c.args.out.now.next_variable in
    let second = c.add_formula-in-Same.new.out.next_variable in
    let third = c.add_formula-in-Same-2.new.out.next_variable in
    let old = c.args.out.now.clauses in
    let last_before = c.add_formula-in-Same-2.new.out.clauses in
    on_ok_weaker c.add_same.result
    (λ last.
    two-added same_clauses (gates_of left) (gates_of right) first second third old c.add_formula-in-Same.new.out.clauses last_before c.add_same.new.out.clauses
    (search rules) (search rules) (search rules) (search rules)
    (last ∙ ap (λ one. last_before ++ same_clauses (positive_of third) one c.in_ok-right-in-Same.right) (search rules) ∙ ap (λ two. last_before ++ same_clauses (positive_of third) (literal (gates_of left) first) two) (search rules))
    ∙ ap (λ made. old ++ clauses (gates made) first) (sym (gates_of-Same left right) ∙ ap gates_of (sym c.in-Same.is)))
    c.add_same.ensures.clauses
