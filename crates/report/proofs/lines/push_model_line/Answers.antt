use Rattle.std.proofs.Common.{ap, ◌++◌, List, ℕ, ◌∷◌, []}
use Rattle.std.specs.Prelude.{codes, length}
use Rattle.std.specs.Fmt.{decimal}
use Rattle.report.proofs.Texts.{words_in_order}
use Rattle.report.proofs.lines.push_model_line.Goals as goal

pub returns : goal.returns
returns c =
    rw (c.in_ok-extend_from_slice.ensures.ok, c.as_bytes.ensures.value, c.as_str.ensures.value, c.in_ok-line.ensures.ok, c.len-features.ensures, c.len-constraints.ensures, ← c.model.view_is)
    (ap (λ (more : List ℕ). c.args.text.now ++ more)
    (words_in_order (codes "model ") (decimal (length c.model.inside.features)) (codes " features ") (decimal (length c.model.inside.constraints)) (codes " constraints") (10 ∷ [])))
