use Rattle.std.proofs.Common.{◌∙◌, sym, subst, [], ◌∷◌, List, ℕ, append_assoc}
use Rattle.std.specs.Fmt.{decimal}
use Rattle.certificate.specs.Judging.{Subject, Exactly}
use Rattle.certificate.specs.inside.Passing.{Passes}
use Rattle.certificate.proofs.parts.numbered.Goals as goal

pub returns : goal.returns
returns c =
    subst (λ (text : List ℕ). (about : Subject) → Passes about (Exactly text ∷ []) c.args.lines.now c.exactly.new.lines c.exactly.result)
    (c.as_bytes.ensures.value ∙ c.as_str.ensures.value ∙ c.in_ok-text.ensures.ok ∙ sym (append_assoc c.args.word.now (32 ∷ []) (decimal c.args.number))) c.exactly.ensures
