-- What the code keeps of a line of a derivation.
use Rattle.std.specs.Prelude.{List}
use Rattle.clauses.specs.declared.literal.Lit.{Lit}
use Rattle.certificate.specs.declared.saying.Said.{Said}
use Rattle.certificate.specs.declared.saying.Said.TheVariants as said
use Rattle.certificate.specs.Words.{Saying, Learns, Clashes, Malformed, Foreign}

-- what it says, with the clause that was read
abbrev pub meaning : Said → List Lit → Saying
meaning said.Learns clause = Learns clause
meaning said.Clashes clause = Clashes
meaning said.Malformed clause = Malformed
meaning said.Foreign clause = Foreign
