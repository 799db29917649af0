use Rattle.std.proofs.Common.{nat_eq, [], ◌∷◌, ◌++◌, ◌∙◌, ap}
use Rattle.std.specs.Cmp.Lexicographic.{pointwise}
use Rattle.std.specs.Map.{lookup}
use Rattle.name_table.proofs.Shown.{shown, shown-insert_new}
use Rattle.name_table.proofs.names.Names.insert.Goals as goal

pub returns-clause-ok : goal.returns-clause-ok
returns-clause-ok c =
    let n = c.args.name.now in
    let entries = c.self.inside.numbers.entries in
    let fresh = ap (λ name. lookup (pointwise nat_eq name) (shown (λ k. k.bytes.now) entries)) c.new.ensures ∙ ap (lookup (pointwise nat_eq n)) c.self.view_is ∙ c.requires in
    shown-insert_new (λ k. k.bytes.now) (pointwise nat_eq) c.self.inside.numbers c.insert.new.self c.new.result c.args.number c.in_ok-insert.ensures.entries fresh
    ∙ ap (λ name. shown (λ k. k.bytes.now) entries ++ (name, c.args.number) ∷ []) c.new.ensures
    ∙ ap (λ l. l ++ (n, c.args.number) ∷ []) c.self.view_is
