use Rattle.clause_form.proofs.AssignmentLaws.{assignments-products, products-assignments}
use Rattle.clause_form.proofs.laws.assignments_are_products.Goals as goal

pub returns-clause-products : goal.returns-clause-products
returns-clause-products c = assignments-products

pub returns-clause-assignments : goal.returns-clause-assignments
returns-clause-assignments c = products-assignments
