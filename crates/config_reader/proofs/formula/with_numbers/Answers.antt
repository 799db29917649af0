use Rattle.std.proofs.Common.{sym, ◌∙◌}
use Rattle.config_reader.proofs.Requirements.{numbers_long}
use Rattle.config_reader.proofs.formula.with_numbers.Goals as goal

pub numbered-requires : goal.numbered-requires
numbered-requires c =
    let long = numbers_long c.args.names.now c.args.bytes.now c.args.tokens.now c.in-Some.of (sym c.in_ok-of.ensures ∙ c.in-Some.is) in
    rw (c.as_slice.ensures, long) c.requires.named
