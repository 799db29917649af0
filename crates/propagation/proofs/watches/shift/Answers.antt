use Rattle.std.proofs.Common.{sym, ap, get_or, set}
use Rattle.std.proofs.lemmas.List.{get_or-set_other}
use Rattle.propagation.proofs.watches.shift.Goals as goal

pub returns-clause-next : goal.returns-clause-next
returns-clause-next c =
    let heads = c.args.heads.now in
    let next = c.args.next.now in
    let entry = get_or heads c.args.from 0 in
    ap (set next entry) (get_or-set_other heads c.args.from c.args.to (get_or next entry 0) 0 (λ e. c.requires.apart (sym e)))
