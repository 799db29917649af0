use Rattle.std.proofs.Common.{nat_eq, ◌∙◌, ap}
use Rattle.std.specs.Cmp.Lexicographic.{pointwise}
use Rattle.std.specs.Map.{lookup}
use Rattle.name_table.proofs.Shown.{lookup-shown}
use Rattle.name_table.proofs.names.Names.get.Goals as goal

pub returns : goal.returns
returns c =
    let test = pointwise nat_eq c.args.name.now in
    c.copied.ensures
    ∙ c.get.ensures.value
    ∙ ap (λ n. lookup (λ k. pointwise nat_eq n k.bytes.now) c.self.inside.numbers.entries) c.new.ensures
    ∙ lookup-shown (λ k. k.bytes.now) test c.self.inside.numbers.entries
    ∙ ap (lookup test) c.self.view_is
