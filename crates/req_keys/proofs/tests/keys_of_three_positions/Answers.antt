use Rattle.std.proofs.Common.{arith}
use Rattle.req_keys.proofs.WordLaws.{IsRowOver-one}
use Rattle.req_keys.proofs.tests.keys_of_three_positions.Goals as goal

pub from_words-requires-clause-row : goal.from_words-requires-clause-row
from_words-requires-clause-row g c = IsRowOver-one 3 5 (omega arith) (omega arith) (omega arith)
