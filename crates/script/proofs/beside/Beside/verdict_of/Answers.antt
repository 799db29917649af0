use Rattle.std.proofs.Common.{Bool, Some, None, [], ◌∷◌, cond, sym, ◌∙◌, ap}
use Rattle.script.proofs.Answering.{told-known, told-unknown}
use Rattle.script.proofs.beside.Beside.verdict_of.Goals as goal

pub returns-in-Some : goal.returns-in-Some
returns-in-Some c =
    let told = c.args.self.now in
    sym (told-known told.used.now ((told.key.now, told.verdict) ∷ []) c.args.key.now c.in-Some.verdict (sym c.in-Some.ensures))

pub returns-then-eq : goal.returns-then-eq
returns-then-eq c =
    let told = c.args.self.now in
    sym
    (told-unknown told.used.now ((told.key.now, told.verdict) ∷ []) c.args.key.now (sym c.in-None.ensures)
    ∙ ap (λ (b : Bool). cond b (Some told.verdict) None) (sym c.if-eq.ensures))

pub returns-else-eq : goal.returns-else-eq
returns-else-eq c =
    let told = c.args.self.now in
    sym
    (told-unknown told.used.now ((told.key.now, told.verdict) ∷ []) c.args.key.now (sym c.in-None.ensures)
    ∙ ap (λ (b : Bool). cond b (Some told.verdict) None) (sym c.if-eq.ensures))
