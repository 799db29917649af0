-- Keys that compare as equal are one.
use Rattle.std.specs.Prelude.{◌≡◌, IsTrue}
use Rattle.std.proofs.Common.{rules}
use Rattle.req_keys.specs.Key.{PositionSet}
use Rattle.req_keys.specs.Order.{key_eq}

pub key_eq-same : (a b : PositionSet) → IsTrue (key_eq a b) → a ≡ b
key_eq-same a b e = search rules
