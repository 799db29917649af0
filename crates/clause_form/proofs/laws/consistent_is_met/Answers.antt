use Rattle.std.proofs.Common.{length}
use Rattle.req_keys.specs.Wanting.{key_over}
use Rattle.clause_form.specs.ClauseForm.{problem_of}
use Rattle.clause_form.proofs.AssignmentLaws.{consistent-met}
use Rattle.clause_form.proofs.laws.consistent_is_met.Goals as goal

pub returns-clause-key : goal.returns-clause-key
returns-clause-key c = consistent-met

pub returns-clause-positions : goal.returns-clause-positions
returns-clause-positions c =
    λ model config allowance rungs positions stated. consistent-met model config allowance rungs (key_over (length (problem_of model config allowance rungs).roots) positions) stated
