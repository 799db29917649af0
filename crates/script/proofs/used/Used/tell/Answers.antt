use Rattle.std.proofs.Common.{◌≡◌, length, sym, ap, ◌∙◌, rules}
use Rattle.std.proofs.lemmas.List.{nil_from_length}
use Rattle.std.specs.Arc.{arc_value}
use Rattle.indexmap.specs.IndexMap.{insert_entry}
use Rattle.req_keys.specs.Order.{key_eq}
use Rattle.script.proofs.Pairs.{told_to_base}
use Rattle.script.proofs.used.Used.tell.Goals as goal

pub returns-in-Some-clause-ok : goal.returns-in-Some-clause-ok
returns-in-Some-clause-ok c =
    let more = c.self.inside.more.items in
    let none : length more ≡ 0 = search (rules, c.if-is_empty.ensures) in
    told_to_base key_eq (arc_value c.self.inside.base) c.insert.new.self more c.args.self.now c.args.key c.args.verdict
    (sym c.self.view_is)
    (nil_from_length more none)
    (c.in_ok-insert.ensures.entries ∙ ap (λ m. insert_entry key_eq m.entries c.args.key c.args.verdict) c.in-Some.ensures.value)
    c.requires.new
