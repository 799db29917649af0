use Rattle.std.proofs.Common.{sym, subst}
use Rattle.req_keys.specs.Positions.{RiseWithin}
use Rattle.certificate.proofs.ProductLaws.{read-rising}
use Rattle.certificate.proofs.explained.listed.Goals as goal

pub key_of-requires-clause-rising : goal.key_of-requires-clause-rising
key_of-requires-clause-rising c =
    subst (RiseWithin 0 c.args.n) (sym c.as_slice.ensures)
    (read-rising c.args.n c.args.word.now c.in-Some.line.now c.read_list.new.numbers c.in_ok-read_list.field-0 c.in_ok-read_list.ensures c.if-not-branch.false)
