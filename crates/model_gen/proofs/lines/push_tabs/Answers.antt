use Rattle.std.proofs.Common.{◌≡◌, ◌∙◌, ◌++◌, ◌∷◌, [], List, ℕ, sym, ap, append_assoc, arith}
use Rattle.std.proofs.lemmas.List.{append-nil}
use Rattle.model_gen.specs.Texts.{tabs_of}
use Rattle.model_gen.proofs.TextLaws.{tabs_of-none, tabs_of-push}
use Rattle.model_gen.proofs.lines.push_tabs.Goals as goal

pub tabs-init : goal.tabs-init
tabs-init c = sym (ap (λ (t : List ℕ). c.args.text.now ++ t) tabs_of-none ∙ append-nil c.args.text.now)

pub tabs-preserved : goal.tabs-preserved
tabs-preserved c =
    c.in_ok-push.ensures.ok ∙ ap (λ (t : List ℕ). t ++ 9 ∷ []) c.tabs.invariant
    ∙ append_assoc c.args.text.now (tabs_of c.tabs.counter) (9 ∷ [])
    ∙ ap (λ (t : List ℕ). c.args.text.now ++ t) (sym (tabs_of-push c.tabs.counter))

pub returns : goal.returns
returns c =
    let all : c.tabs.counter ≡ c.args.count = omega arith in
    c.tabs.invariant ∙ ap (λ k. c.args.text.now ++ tabs_of k) all
