-- What is assumed while a line is checked.
use Rattle.std.specs.Prelude.{◌≡◌, List, ◌++◌}
use Rattle.clauses.specs.declared.literal.Lit.{Lit}
use Rattle.propagation.specs.Propagation.{Propagation}

-- nothing but assumed literals may have come behind those that were there
abbrev pub IsBehind : Propagation → Propagation → Type 0
IsBehind before now = (more : List Lit) × (now ≡ record before { assumed = before.assumed ++ more })
