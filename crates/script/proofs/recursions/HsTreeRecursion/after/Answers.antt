use Rattle.std.proofs.Common.{◌≡◌, ◌∙◌, ◌++◌, ◌∷◌, [], ℕ, List, ap, sym, subst}
use Rattle.hs_tree.specs.Hitting.{Hitting, next_after}
use Rattle.pref_sets.specs.Answers.{Answer, IsAsking}
use Rattle.req_keys.specs.Key.{PositionSet}
use Rattle.script.proofs.AskedSets.{asked-set}
use Rattle.script.proofs.recursions.HsTreeRecursion.after.Goals as goal

pub returns-clause-start : goal.returns-clause-start
returns-clause-start c =
    let asked = asked-set (next_after c.args.self.now) c.requires in
    let start : Hitting → PositionSet × ℕ = λ d. (d.first, d.most) in
    ap start (c.in_ok-tell.ensures.ok asked.0 (ap next_after c.in_ok-next.ensures ∙ asked.1)) ∙ ap start c.in_ok-next.ensures

pub returns-clause-answers : goal.returns-clause-answers
returns-clause-answers c set e =
    let told : Hitting → List Answer = λ d. d.told in
    ap told (c.in_ok-tell.ensures.ok set (ap next_after c.in_ok-next.ensures ∙ e)) ∙ ap (λ (d : Hitting). d.told ++ record { set = set; sat = c.args.sat } ∷ []) c.in_ok-next.ensures

pub tell-requires : goal.tell-requires
tell-requires c = subst (λ (d : Hitting). IsAsking (next_after d)) (sym c.in_ok-next.ensures) c.requires
