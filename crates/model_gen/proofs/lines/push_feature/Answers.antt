use Rattle.model_gen.specs.Texts.{tabs_of, feature_name}
use Rattle.model_gen.proofs.TextLaws.{one_line}
use Rattle.model_gen.proofs.lines.push_feature.Goals as goal

pub returns : goal.returns
returns c =
    rw (c.in_ok-push.ensures.ok, c.in_ok-push_name.ensures, c.in_ok-push_tabs.ensures)
    (one_line c.args.text.now (tabs_of c.args.tabs) (feature_name c.args.feature))
