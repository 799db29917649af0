use Rattle.std.proofs.Common.{◌∙◌, sym, ap, ◌∷◌, List, ℕ, take}
use Rattle.std.specs.Prelude.{◌==◌}
use Rattle.std.specs.List.{slice_split}
use Rattle.certificate.proofs.Cuts.{split-some, split-none, rest-is}
use Rattle.certificate.proofs.cutting.cut.Goals as goal

pub returns-in-Some-clause-pieces : goal.returns-in-Some-clause-pieces
returns-in-Some-clause-pieces c =
    (split-some (λ byte. byte == c.args.at) c.args.bytes.now c.in-Some.place (sym c.first_at.ensures ∙ c.in-Some.is)).1
    ∙ ap (λ (rest : List ℕ). take c.in-Some.place c.args.bytes.now ∷ slice_split (λ byte. byte == c.args.at) rest) (sym (rest-is c.in-Some.place c.args.bytes.now))

pub returns-in-None-clause-pieces : goal.returns-in-None-clause-pieces
returns-in-None-clause-pieces c = split-none (λ byte. byte == c.args.at) c.args.bytes.now (sym c.first_at.ensures ∙ c.in-None.is)
