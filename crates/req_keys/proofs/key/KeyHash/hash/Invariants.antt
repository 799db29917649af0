use Rattle.std.proofs.Common.{◌≡◌}
use Rattle.std.specs.Prelude.{fold}
use Rattle.req_keys.specs.Words.{word_count}
use Rattle.req_keys.proofs.HashLaws.{fed_below}
use Rattle.req_keys.proofs.key.KeyHash.hash.Given as goal

abbrev pub invariant-loop-j : goal.invariant-loop-j
invariant-loop-j g l = (l.state ≡ fold g.H.Hasher.write l.fn.state (fed_below l.self l.j)) × (l.j-end ≡ word_count l.self.n)
