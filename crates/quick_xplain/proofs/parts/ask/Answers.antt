use Rattle.std.proofs.Common.{◌+◌, ◌++◌, take, ◌∙◌, ap, arith}
use Rattle.req_keys.specs.Key.{PositionSet, union_of}
use Rattle.req_keys.specs.Positions.{RiseWithin}
use Rattle.req_keys.specs.Wanting.{key_over}
use Rattle.req_keys.proofs.Rises.{union-behind}
use Rattle.quick_xplain.proofs.Rising.{RiseWithin-below}
use Rattle.quick_xplain.proofs.parts.ask.Goals as goal

pub returns-clause-parts : goal.returns-clause-parts
returns-clause-parts c =
    let rises : RiseWithin 0 c.args.among.now.n (take c.args.before c.args.among.now.members ++ c.args.conflict.members) =
    RiseWithin-below c.args.among.now.n c.args.before (c.args.before + c.args.length) c.args.among.now.members c.args.conflict.members (omega arith) c.requires.place.above in
    record {
      range = c.requires;
      asked =
          c.in_ok-asked.ensures
          ∙ ap (λ (below : PositionSet). union_of below c.args.conflict) c.in_ok-below.ensures
          ∙ ap (key_over c.args.among.now.n) (union-behind c.args.among.now.n (take c.args.before c.args.among.now.members) c.args.conflict.members rises);
    }
