use Rattle.std.proofs.Common.{◌≡◌, ◌∙◌, subst}
use Rattle.pref_sets.specs.AskedKey.{asked_key}
use Rattle.req_keys.specs.Wanting.{wanted_key}
use Rattle.hs_tree.specs.Hitting.{Hitting, next_after}
use Rattle.hs_tree.proofs.AsksNew.{tree-new}
use Rattle.hs_tree.proofs.Standing.{want-some}
use Rattle.hs_tree.proofs.hitting.HsTree.want.Goals as goal

pub returns-in-Some-clause-asks : goal.returns-in-Some-clause-asks
returns-in-Some-clause-asks c =
    subst (λ (d : Hitting). wanted_key c.want.result ≡ asked_key d.first.n (next_after d)) c.self.view_is
    (c.want.ensures ∙ want-some c.self.inside.first c.self.inside.most c.self.inside.state c.self.invariant c.in-Some.asking c.in-Some.is)

pub returns-in-Some-clause-new : goal.returns-in-Some-clause-new
returns-in-Some-clause-new c = λ set e. tree-new c.args.self.now.first.n c.args.self.now.most c.args.self.now.first.members set c.args.self.now.told e
