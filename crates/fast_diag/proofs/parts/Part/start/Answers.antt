use Rattle.std.proofs.Common.{◌≡◌, ℕ, List, [], true, ◌∙◌, ap, subst}
use Rattle.std.specs.Prelude.{IfOk}
use Rattle.pref_sets.specs.Plan.{Plan}
use Rattle.pref_sets.proofs.PlansLeft.{chain-found}
use Rattle.req_keys.specs.Key.{PositionSet}
use Rattle.fast_diag.specs.inside.Remaining.{part_plan, with_waiting, remaining}
use Rattle.fast_diag.specs.declared.parts.Half.{Half}
use Rattle.fast_diag.specs.declared.parts.Part.{Part}
use Rattle.fast_diag.proofs.parts.Part.start.Goals as goal

pub returns-clause-plan : goal.returns-clause-plan
returns-clause-plan c =
    let set : PositionSet → List ℕ = λ key. key.members in
    let e : with_waiting c.in_ok-kept.kept.members 0 c.args.n true c.new.result ≡ part_plan [] 0 c.args.n true =
    ap (λ (kept : List ℕ). with_waiting kept 0 c.args.n true c.new.result) (ap set c.in_ok-kept.ensures)
    ∙ ap (λ (halves : List Half). with_waiting [] 0 c.args.n true halves) c.new.ensures
    ∙ chain-found (part_plan [] 0 c.args.n true) in
    subst (λ (p : Plan). IfOk c.divide.result (λ (part : Part). remaining part ≡ p)) e c.divide.ensures.plan
