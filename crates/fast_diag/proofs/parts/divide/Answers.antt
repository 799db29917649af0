use Rattle.std.proofs.Common.{◌≤◌, ◌+◌, ◌-◌, length, refl, arith}
use Rattle.req_keys.proofs.PositionsLaws.{length-RiseWithin}
use Rattle.fast_diag.proofs.WaitingHalves.{divided}
use Rattle.fast_diag.proofs.parts.divide.Goals as goal

pub overflow_add-len : goal.overflow_add-len
overflow_add-len c =
    let few : length c.args.kept.members ≤ c.args.before - 0 = length-RiseWithin 0 c.args.before c.args.kept.members c.requires.below in
    let within : c.args.before + c.args.length ≤ c.args.kept.n = c.requires.place.within in
    let most : c.args.kept.n ≤ 4096 = c.requires.place.most in
    omega arith

pub returns-clause-plan : goal.returns-clause-plan
returns-clause-plan c =
    divided c.args.kept.members c.args.before c.args.length c.args.halves c.push.new.self _ c.requires.some c.in_ok-push.ensures.ok refl refl (omega arith)
