use Rattle.std.proofs.Common.{◌≡◌, ◌≤◌, length, map, take}
use Rattle.pref_sets.specs.Preferred.{IsWithin}
use Rattle.clauses.specs.declared.literal.Lit.{Lit}
use Rattle.solver.proofs.trial.common.Given as goal

abbrev pub invariant-loop-number : goal.invariant-loop-number
invariant-loop-number l = record {
  most : l.kept ≤ length l.tried;
  few : l.kept ≤ l.number-index;
  whole : l.kept ≡ l.number-index → take l.number-index l.numbers ≡ take l.kept (map (λ (literal : Lit). literal.var) l.tried);
  within : IsWithin (take l.kept (map (λ (literal : Lit). literal.var) l.tried)) (take l.number-index l.numbers);
}
