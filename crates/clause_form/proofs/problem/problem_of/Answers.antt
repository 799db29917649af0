use Rattle.std.proofs.Common.{◌≡◌, ◌↔◌, ◌∙◌, ap, sym, subst, ◌+◌, ◌≤◌, [], ◌++◌, map, length, arith}
use Rattle.std.proofs.lemmas.List.{append-nil}
use Rattle.clauses.specs.Met.{AreMet}
use Rattle.clauses.specs.Problem.{ClauseProblem, IsProblem}
use Rattle.req_keys.specs.Wanting.{key_over}
use Rattle.feature_tree.specs.WellFormed.{IsWellFormed}
use Rattle.config_reader.specs.Configuration.{Configuration}
use Rattle.config_reader.specs.Consistent.{AreConsistent, formulas_of}
use Rattle.feature_tree.specs.FeatureModel.{FeatureModel}
use Rattle.clause_form.specs.ClauseForm.{asserted, asserted_parts, group_parts, parts_of, problem_of, tree_clauses}
use Rattle.clause_form.specs.Gates.{gates, gates_of, literals_from}
use Rattle.clause_form.specs.Parts.{clauses_from, size_of}
use Rattle.clause_form.proofs.AssignmentLaws.{consistent-met}
use Rattle.clause_form.proofs.ClauseFormLaws.{few_variables, variables_of-sections, asserted-size}
use Rattle.clause_form.proofs.ProblemLaws.{IsMade, made-more, is-problem, problem-is}
use Rattle.clause_form.specs.Laws.{IsStatedOf}
use Rattle.clause_form.proofs.problem.problem_of.Goals as goal

pub add_features-requires-clause-room : goal.add_features-requires-clause-room
add_features-requires-clause-room c =
    let model = c.args.model.now in
    let config = c.args.config.now in
    let tree = c.in_ok-add_tree.ensures.variable in
    let fits = few_variables model config c.needed-needed.result c.needed-needed.ensures (omega arith) in
    let total = variables_of-sections model config in
    let features = ap (λ (m : FeatureModel). m.features) c.model.view_is in
    let count : c.len-features.result ≡ length model.features = c.len-features.ensures ∙ ap length features in
    let groups : size_of (group_parts c.as_slice-2.result.now) ≡ size_of (group_parts model.features) = ap (λ fs. size_of (group_parts fs)) (c.as_slice-2.ensures ∙ features) in
    omega arith

pub add_constraints-requires : goal.add_constraints-requires
add_constraints-requires c =
    let model = c.args.model.now in
    let config = c.args.config.now in
    let one = c.in_ok-add_features.ensures.variable in
    let tree = c.in_ok-add_tree.ensures.variable in
    let fits = few_variables model config c.needed-needed.result c.needed-needed.ensures (omega arith) in
    let total = variables_of-sections model config in
    let features = ap (λ (m : FeatureModel). m.features) c.model.view_is in
    let count : c.len-features.result ≡ length model.features = c.len-features.ensures ∙ ap length features in
    let groups : size_of (group_parts c.as_slice-2.result.now) ≡ size_of (group_parts model.features) = ap (λ fs. size_of (group_parts fs)) (c.as_slice-2.ensures ∙ features) in
    let constraints : size_of (map asserted c.as_slice-3.result.now) ≡ size_of (map gates (map gates_of model.constraints)) =
    ap (λ fs. size_of (map asserted fs)) (c.as_slice-3.ensures ∙ ap (λ (m : FeatureModel). m.constraints) c.model.view_is) ∙ asserted-size model.constraints in
    omega arith

pub add_musts-requires : goal.add_musts-requires
add_musts-requires c =
    let model = c.args.model.now in
    let config = c.args.config.now in
    let one = c.in_ok-add_features.ensures.variable in
    let two = c.in_ok-add_constraints.ensures.variable in
    let tree = c.in_ok-add_tree.ensures.variable in
    let fits = few_variables model config c.needed-needed.result c.needed-needed.ensures (omega arith) in
    let total = variables_of-sections model config in
    let features = ap (λ (m : FeatureModel). m.features) c.model.view_is in
    let count : c.len-features.result ≡ length model.features = c.len-features.ensures ∙ ap length features in
    let groups : size_of (group_parts c.as_slice-2.result.now) ≡ size_of (group_parts model.features) = ap (λ fs. size_of (group_parts fs)) (c.as_slice-2.ensures ∙ features) in
    let constraints : size_of (map asserted c.as_slice-3.result.now) ≡ size_of (map gates (map gates_of model.constraints)) =
    ap (λ fs. size_of (map asserted fs)) (c.as_slice-3.ensures ∙ ap (λ (m : FeatureModel). m.constraints) c.model.view_is) ∙ asserted-size model.constraints in
    let musts : size_of (map asserted (formulas_of c.as_slice-4.result.now)) ≡ size_of (map gates (map gates_of (formulas_of config.musts))) =
    ap (λ fs. size_of (map asserted (formulas_of fs))) (c.as_slice-4.ensures ∙ ap (λ (m : Configuration). m.musts) c.config.view_is) ∙ asserted-size (formulas_of config.musts) in
    omega arith

pub add_requirements-requires : goal.add_requirements-requires
add_requirements-requires c =
    let model = c.args.model.now in
    let config = c.args.config.now in
    let one = c.in_ok-add_features.ensures.variable in
    let two = c.in_ok-add_constraints.ensures.variable in
    let three = c.in_ok-add_musts.ensures.variable in
    let tree = c.in_ok-add_tree.ensures.variable in
    let fits = few_variables model config c.needed-needed.result c.needed-needed.ensures (omega arith) in
    let total = variables_of-sections model config in
    let features = ap (λ (m : FeatureModel). m.features) c.model.view_is in
    let count : c.len-features.result ≡ length model.features = c.len-features.ensures ∙ ap length features in
    let groups : size_of (group_parts c.as_slice-2.result.now) ≡ size_of (group_parts model.features) = ap (λ fs. size_of (group_parts fs)) (c.as_slice-2.ensures ∙ features) in
    let constraints : size_of (map asserted c.as_slice-3.result.now) ≡ size_of (map gates (map gates_of model.constraints)) =
    ap (λ fs. size_of (map asserted fs)) (c.as_slice-3.ensures ∙ ap (λ (m : FeatureModel). m.constraints) c.model.view_is) ∙ asserted-size model.constraints in
    let musts : size_of (map asserted (formulas_of c.as_slice-4.result.now)) ≡ size_of (map gates (map gates_of (formulas_of config.musts))) =
    ap (λ fs. size_of (map asserted (formulas_of fs))) (c.as_slice-4.ensures ∙ ap (λ (m : Configuration). m.musts) c.config.view_is) ∙ asserted-size (formulas_of config.musts) in
    let requirements : size_of (map gates (map gates_of (formulas_of c.as_slice-5.result.now))) ≡ size_of (map gates (map gates_of (formulas_of config.requirements))) =
    ap (λ fs. size_of (map gates (map gates_of (formulas_of fs)))) (c.as_slice-5.ensures ∙ ap (λ (m : Configuration). m.requirements) c.config.view_is) in
    omega arith

pub returns-clause-problem : goal.returns-clause-problem
returns-clause-problem c =
    let model = c.args.model.now in
    let config = c.args.config.now in
    let base = tree_clauses c.args.model.now.features in
    let first = length c.args.model.now.features in
    let features = ap (λ (m : FeatureModel). m.features) c.model.view_is in
    let constraints = ap (λ (m : FeatureModel). m.constraints) c.model.view_is in
    let musts = ap (λ (m : Configuration). m.musts) c.config.view_is in
    let requirements = ap (λ (m : Configuration). m.requirements) c.config.view_is in
    let count : c.len-features.result ≡ length model.features = c.len-features.ensures ∙ ap length features in
    let zero_more : length model.features ≡ length model.features + 0 = omega arith in
    let groups = group_parts c.args.model.now.features in
    let tree : IsMade base first [] c.add_tree.new.out.next_variable c.add_tree.new.out.clauses = record {
      clauses = c.in_ok-add_tree.ensures.clauses ∙ ap (λ these. these ++ tree_clauses c.as_slice.result.now) c.new-out.ensures.clauses ∙ ap tree_clauses (c.as_slice.ensures ∙ features) ∙ sym (append-nil base);
      after = c.in_ok-add_tree.ensures.variable ∙ c.new-out.ensures.variable ∙ count ∙ zero_more;
    } in
    let one : IsMade base first (group_parts model.features) c.add_features.new.out.next_variable c.add_features.new.out.clauses =
    made-more base first [] (group_parts model.features) c.add_tree.new.out.next_variable c.add_features.new.out.next_variable c.add_tree.new.out.clauses c.add_features.new.out.clauses tree
    (c.in_ok-add_features.ensures.variable ∙ ap (λ fs. c.add_tree.new.out.next_variable + size_of (group_parts fs)) (c.as_slice-2.ensures ∙ features))
    (c.in_ok-add_features.ensures.clauses ∙ ap (λ fs. c.add_tree.new.out.clauses ++ clauses_from c.add_tree.new.out.next_variable (group_parts fs)) (c.as_slice-2.ensures ∙ features)) in
    let two : IsMade base first (group_parts model.features ++ map asserted model.constraints) c.add_constraints.new.out.next_variable c.add_constraints.new.out.clauses =
    made-more base first (group_parts model.features) (map asserted model.constraints) c.add_features.new.out.next_variable c.add_constraints.new.out.next_variable c.add_features.new.out.clauses c.add_constraints.new.out.clauses one
    (c.in_ok-add_constraints.ensures.variable ∙ ap (λ fs. c.add_features.new.out.next_variable + size_of (map asserted fs)) (c.as_slice-3.ensures ∙ constraints))
    (c.in_ok-add_constraints.ensures.clauses ∙ ap (λ fs. c.add_features.new.out.clauses ++ clauses_from c.add_features.new.out.next_variable (map asserted fs)) (c.as_slice-3.ensures ∙ constraints)) in
    let three : IsMade base first (asserted_parts model config) c.add_musts.new.out.next_variable c.add_musts.new.out.clauses =
    made-more base first (group_parts model.features ++ map asserted model.constraints) (map asserted (formulas_of config.musts)) c.add_constraints.new.out.next_variable c.add_musts.new.out.next_variable c.add_constraints.new.out.clauses c.add_musts.new.out.clauses two
    (c.in_ok-add_musts.ensures.variable ∙ ap (λ fs. c.add_constraints.new.out.next_variable + size_of (map asserted (formulas_of fs))) (c.as_slice-4.ensures ∙ musts))
    (c.in_ok-add_musts.ensures.clauses ∙ ap (λ fs. c.add_constraints.new.out.clauses ++ clauses_from c.add_constraints.new.out.next_variable (map asserted (formulas_of fs))) (c.as_slice-4.ensures ∙ musts)) in
    let four : IsMade base first (parts_of model config) c.add_requirements.new.out.next_variable c.add_requirements.new.out.clauses =
    made-more base first (asserted_parts model config) (map gates (map gates_of (formulas_of config.requirements))) c.add_musts.new.out.next_variable c.add_requirements.new.out.next_variable c.add_musts.new.out.clauses c.add_requirements.new.out.clauses three
    (c.in_ok-roots.ensures.variable ∙ ap (λ fs. c.add_musts.new.out.next_variable + size_of (map gates (map gates_of (formulas_of fs)))) (c.as_slice-5.ensures ∙ requirements))
    (c.in_ok-roots.ensures.clauses ∙ ap (λ fs. c.add_musts.new.out.clauses ++ clauses_from c.add_musts.new.out.next_variable (map gates (map gates_of (formulas_of fs)))) (c.as_slice-5.ensures ∙ requirements)) in
    problem-is model config c.args.allowance c.args.rungs c.next_variable.result c.len-features.result c.into_clauses.result c.in_ok-roots.roots
    (c.next_variable.ensures ∙ four.after)
    count
    (c.into_clauses.ensures ∙ four.clauses)
    (c.in_ok-roots.ensures.roots
    ∙ ap (λ fs. literals_from c.add_musts.new.out.next_variable (map gates_of (formulas_of fs))) (c.as_slice-5.ensures ∙ requirements)
    ∙ ap (λ k. literals_from k (map gates_of (formulas_of config.requirements))) three.after)

stated-of : (c : goal.After-into_clauses) → IsStatedOf c.args.model.now c.args.config.now
stated-of c = record {
  formed = subst (λ (m : FeatureModel). IsWellFormed m.features m.constraints) c.model.view_is c.model.invariant;
  requirements = c.requires.requirements;
  musts = c.requires.musts;
}

pub returns-clause-meets : goal.returns-clause-meets
returns-clause-meets c =
    λ positions.
    let model = c.args.model.now in
    let config = c.args.config.now in
    let problem = problem_of c.args.model.now c.args.config.now c.args.allowance c.args.rungs in
    subst (λ (made : ClauseProblem). AreConsistent model config positions ↔ AreMet made positions) (sym (returns-clause-problem c))
    (consistent-met model config c.args.allowance c.args.rungs (key_over (length problem.roots) positions) (stated-of c))

pub invariant_of-result : goal.invariant_of-result
invariant_of-result c =
    let model = c.args.model.now in
    let config = c.args.config.now in
    let fits = few_variables model config c.needed-needed.result c.needed-needed.ensures (omega arith) in
    let requirements = subst (λ (m : Configuration). length m.requirements ≤ 4096) c.config.view_is c.config.invariant.requirements_few in
    subst IsProblem (sym (returns-clause-problem c)) (is-problem model config c.args.allowance c.args.rungs (stated-of c) requirements fits c.requires.allowance c.requires.rungs)
