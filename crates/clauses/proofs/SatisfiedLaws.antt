-- What the tests of an assignment say.
use Rattle.std.proofs.Common.{◌↔◌, Bool, IsTrue, List}
use Rattle.std.specs.Prelude.{All, Any}
use Rattle.std.proofs.lemmas.List.Elements.{All-weaker}
use Rattle.std.proofs.lemmas.List.Folds.{Any-from_list_any, list_any-from_Any}
use Rattle.std.proofs.lemmas.List.Sums.{AllPass-from_list_all, list_all-from_AllPass}
use Rattle.clauses.specs.declared.literal.Lit.{Lit}
use Rattle.clauses.specs.Clause.{is_true_in, is_satisfied, are_satisfied}

-- a true literal in the clause
abbrev pub HasTrue : List Bool → List Lit → Type 0
HasTrue values clause = Any (λ literal. IsTrue (is_true_in values literal)) clause

pub are_satisfied-iff : (values : List Bool) (clauses : List (List Lit)) → IsTrue (are_satisfied values clauses) ↔ All (HasTrue values) clauses
are_satisfied-iff values clauses = (
  (λ t. All-weaker (λ clause. IsTrue (is_satisfied values clause)) (HasTrue values) (λ clause. Any-from_list_any (is_true_in values) clause) clauses
      (AllPass-from_list_all (is_satisfied values) clauses t)),
  (λ all. list_all-from_AllPass (is_satisfied values) clauses
      (All-weaker (HasTrue values) (λ clause. IsTrue (is_satisfied values clause)) (λ clause. list_any-from_Any (is_true_in values) clause) clauses all)),
)
