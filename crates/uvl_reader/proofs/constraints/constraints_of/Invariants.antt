use Rattle.std.proofs.Common.{◌≡◌, ◌++◌, All}
use Rattle.uvl_reader.specs.inside.Good.{IsStated}
use Rattle.uvl_reader.specs.inside.Standing.{constraints_of, on_ok}
use Rattle.uvl_reader.proofs.constraints.constraints_of.Given as goal

abbrev pub invariant-loop-one : goal.invariant-loop-one
invariant-loop-one l = record {
  rest : constraints_of l.names l.bytes l.fn.stated.items ≡ on_ok (λ more. l.constraints ++ more) (constraints_of l.names l.bytes l.one-iterator.rest.items);
  stated : All (IsStated l.bytes) l.one-iterator.rest.items;
}
