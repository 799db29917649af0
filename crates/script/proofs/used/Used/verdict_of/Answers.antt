use Rattle.std.proofs.Common.{◌≡◌, Some, None, sym, ◌∙◌, ap}
use Rattle.std.specs.Arc.{arc_value}
use Rattle.std.specs.Map.{lookup}
use Rattle.req_keys.specs.Order.{key_eq}
use Rattle.script.proofs.Pairs.{or_else, lookup-append}
use Rattle.script.proofs.used.Used.verdict_of.Goals as goal

pub returns-in-Some : goal.returns-in-Some
returns-in-Some c =
    let test = key_eq c.args.key.now in
    let base = (arc_value c.self.inside.base).entries in
    let more = c.self.inside.more.items in
    let found : Some c.in-Some.verdict.now ≡ lookup test base = c.in-Some.ensures.value ∙ ap (λ m. lookup test m.entries) c.deref.ensures in
    ap (λ r. or_else r (lookup test more)) found ∙ sym (lookup-append test base more) ∙ ap (lookup test) c.self.view_is

pub returns-in-None : goal.returns-in-None
returns-in-None c =
    let test = key_eq c.args.key.now in
    let base = (arc_value c.self.inside.base).entries in
    let more = c.self.inside.more.items in
    let absent : None ≡ lookup test base = c.in-None.ensures.value ∙ ap (λ m. lookup test m.entries) c.deref.ensures in
    c.verdict_among.ensures
    ∙ ap (lookup test) c.deref-in-None.ensures.value
    ∙ ap (λ r. or_else r (lookup test more)) absent
    ∙ sym (lookup-append test base more)
    ∙ ap (lookup test) c.self.view_is
