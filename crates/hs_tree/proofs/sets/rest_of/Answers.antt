use Rattle.std.proofs.Common.{◌∙◌, ap, sym, subst}
use Rattle.req_keys.specs.Key.{PositionSet, difference_of, full_key}
use Rattle.hs_tree.specs.inside.Told.{IsOver}
use Rattle.hs_tree.proofs.SetSteps.{rest-key, rest-over}
use Rattle.hs_tree.proofs.sets.rest_of.Goals as goal

pub returns-clause-rest : goal.returns-clause-rest
returns-clause-rest c =
    c.in_ok-rest.ensures
    ∙ ap (λ (full : PositionSet). difference_of full c.args.set.now) (c.in_ok-full.ensures ∙ ap full_key c.n.ensures.n)
    ∙ rest-key c.args.set.now

pub returns-clause-over : goal.returns-clause-over
returns-clause-over c =
    subst (IsOver c.args.set.now.n)
    (sym (c.in_ok-rest.ensures
    ∙ ap (λ (full : PositionSet). difference_of full c.args.set.now) (c.in_ok-full.ensures ∙ ap full_key c.n.ensures.n)
    ∙ rest-key c.args.set.now))
    (rest-over c.args.set.now c.n.ensures.key)
