use Rattle.model_gen.specs.Texts.{tabs_of, group_text}
use Rattle.model_gen.proofs.TextLaws.{one_line}
use Rattle.model_gen.proofs.lines.push_group.Goals as goal

pub returns : goal.returns
returns c =
    rw (c.in_ok-push.ensures.ok, c.in_ok-push_group_text.ensures, c.in_ok-push_tabs.ensures)
    (one_line c.args.text.now (tabs_of c.args.tabs) (group_text c.args.kind c.args.count))
