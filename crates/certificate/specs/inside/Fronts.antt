-- The parts of a certificate that explains.
use Rattle.std.specs.Prelude.{ℕ, List, ◌∷◌, ◌++◌}
use Rattle.std.specs.List.{flat_map}
use Rattle.certificate.specs.Judging.{Awaited, Product, Subject, conflict_parts, count_of, refuted_parts}
use Rattle.certificate.specs.Sets.{given_up}

-- all parts but the end
abbrev pub front_parts : Subject → List ℕ → List ℕ → List Awaited
front_parts about kept conflict = Product kept ∷ (flat_map (refuted_parts about kept) (given_up (count_of about) kept) ++ conflict_parts about conflict)
