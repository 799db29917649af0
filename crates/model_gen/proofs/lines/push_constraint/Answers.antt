use Rattle.std.proofs.Common.{codes}
use Rattle.model_gen.specs.Texts.{tabs_of, feature_name}
use Rattle.model_gen.proofs.TextLaws.{tabs_of-one, arrow_line}
use Rattle.model_gen.proofs.lines.push_constraint.Goals as goal

pub returns : goal.returns
returns c =
    rw (c.in_ok-push-2.ensures.ok, c.in_ok-push_name-2.ensures, c.in_ok-extend_from_slice.ensures.ok, c.in_ok-push_name.ensures, c.in_ok-push.ensures.ok, ← tabs_of-one)
    (arrow_line c.args.text.now (tabs_of 1) (feature_name c.args.feature) (codes " => ") (feature_name c.args.needed))
