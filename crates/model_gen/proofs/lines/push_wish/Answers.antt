use Rattle.std.proofs.Common.{codes, [], if◌then◌else◌}
use Rattle.model_gen.specs.Texts.{feature_name}
use Rattle.model_gen.proofs.TextLaws.{marked_line}
use Rattle.model_gen.proofs.lines.push_wish.Goals as goal

pub returns : goal.returns
returns c =
    rw (c.in_ok-push.ensures.ok, c.in_ok-push_name.ensures, c.in_ok-push_mark.ensures)
    (marked_line c.args.text.now (if c.args.unwanted then codes "!" else []) (feature_name c.args.feature))
