use Rattle.std.proofs.Common.{◌≡◌, Some, sym, subst, arith}
use Rattle.uvl_reader.specs.inside.Good.{IsStated}
use Rattle.uvl_reader.specs.inside.Standing.{numbers}
use Rattle.uvl_reader.proofs.ReadLaws.{numbers_long}
use Rattle.uvl_reader.proofs.constraints.numbered.Goals as goal

pub numbered-requires : goal.numbered-requires
numbered-requires c =
    let known : numbers c.args.names.now c.args.bytes.now c.one.inside.tokens.now ≡ Some c.numbers.new.of = grind (arith, c.in_ok-numbers.ensures, c.if-not-branch.false) in
    rw (c.as_slice.ensures, numbers_long c.args.names.now c.args.bytes.now c.one.inside.tokens.now c.numbers.new.of known)
    (subst (IsStated c.args.bytes.now) (sym c.one.view_is) c.requires).names
