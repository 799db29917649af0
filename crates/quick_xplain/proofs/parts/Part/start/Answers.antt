use Rattle.std.proofs.Common.{◌≡◌, ℕ, List, [], false, length, take, ◌∙◌, ap, subst, arith}
use Rattle.std.specs.Prelude.{IfOk}
use Rattle.std.proofs.lemmas.List.{take_all}
use Rattle.pref_sets.specs.Plan.{Plan}
use Rattle.pref_sets.proofs.PlansLeft.{chain-found}
use Rattle.req_keys.specs.Key.{PositionSet}
use Rattle.quick_xplain.specs.inside.Remaining.{part_plan, with_waiting, remaining}
use Rattle.quick_xplain.specs.declared.parts.Half.{Half}
use Rattle.quick_xplain.specs.declared.parts.Part.{Part}
use Rattle.quick_xplain.proofs.parts.Part.start.Goals as goal

pub returns-clause-plan : goal.returns-clause-plan
returns-clause-plan c =
    let set : PositionSet → List ℕ = λ key. key.members in
    let all : take (length c.args.among.now.members) c.args.among.now.members ≡ c.args.among.now.members = take_all (length c.args.among.now.members) c.args.among.now.members (omega arith) in
    let e : with_waiting c.args.among.now.members 0 c.len.result c.in_ok-conflict.conflict.members false c.new.result ≡ part_plan [] c.args.among.now.members [] false =
    ap (λ (conflict : List ℕ). with_waiting c.args.among.now.members 0 c.len.result conflict false c.new.result) (ap set c.in_ok-conflict.ensures)
    ∙ ap (λ size. with_waiting c.args.among.now.members 0 size [] false c.new.result) c.len.ensures
    ∙ ap (λ (halves : List Half). with_waiting c.args.among.now.members 0 (length c.args.among.now.members) [] false halves) c.new.ensures
    ∙ chain-found (part_plan [] (take (length c.args.among.now.members) c.args.among.now.members) [] false)
    ∙ ap (λ (members : List ℕ). part_plan [] members [] false) all in
    subst (λ (p : Plan). IfOk c.descend.result (λ (part : Part). remaining c.args.among.now.members part ≡ p)) e c.descend.ensures.plan
