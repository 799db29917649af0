use Rattle.std.proofs.Common.{◌∙◌, ap}
use Rattle.std.specs.Prelude.{fold}
use Rattle.std.specs.Hash as fed
use Rattle.req_keys.proofs.HashLaws.{fold-fed_below_push}
use Rattle.req_keys.proofs.key.KeyHash.hash.Goals as goal

pub loop-j-preserved : goal.loop-j-preserved
loop-j-preserved g c = (
  fold-fed_below_push g.H.Hasher.write c.args.state.now c.loop-j.state c.write_u64.new.self c.args.self.now c.loop-j.j c.loop-j.invariant.0
      (c.write_u64.ensures ∙ ap (λ w. fold g.H.Hasher.write c.loop-j.state (fed.u64 w)) c.word.ensures.value),
  c.loop-j.invariant.1,
)
