use Rattle.std.proofs.Common.{arith}
use Rattle.req_keys.proofs.WordLaws.{IsRowOver-one}
use Rattle.req_keys.proofs.tests.keys_compared.Goals as goal

pub from_words-requires-clause-row : goal.from_words-requires-clause-row
from_words-requires-clause-row g c = IsRowOver-one 3 5 (omega arith) (omega arith) (omega arith)

pub from_words-requires-2-clause-row : goal.from_words-requires-2-clause-row
from_words-requires-2-clause-row g c = IsRowOver-one 3 1 (omega arith) (omega arith) (omega arith)

pub from_words-requires-3-clause-row : goal.from_words-requires-3-clause-row
from_words-requires-3-clause-row g c = IsRowOver-one 3 2 (omega arith) (omega arith) (omega arith)
