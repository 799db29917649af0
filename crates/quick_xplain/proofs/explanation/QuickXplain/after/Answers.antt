use Rattle.std.proofs.Common.{◌≡◌, ◌++◌, ◌∷◌, [], List, Bool, sym, ◌∙◌, ap, subst}
use Rattle.std.specs.Arc.{arc_value}
use Rattle.pref_sets.specs.Answers.{Answer, Ask, IsAsking, told_in_turn}
use Rattle.pref_sets.specs.Plan.{Plan, after_answer}
use Rattle.pref_sets.specs.QuickXplain.{qx}
use Rattle.pref_sets.proofs.PlansLeft.{told-more}
use Rattle.req_keys.specs.Key.{PositionSet}
use Rattle.quick_xplain.specs.Explaining.{Explaining, next_of}
use Rattle.quick_xplain.specs.inside.Standing.{Stands}
use Rattle.quick_xplain.specs.inside.Remaining.{AsksRange, IsPart, left_of, remaining}
use Rattle.quick_xplain.specs.declared.parts.Part.{Part}
use Rattle.quick_xplain.specs.declared.parts.Part.TheVariants as part
use Rattle.quick_xplain.proofs.Standing.{stands-told, done-asks_none}
use Rattle.quick_xplain.proofs.explanation.QuickXplain.after.Goals as goal
use Rattle.quick_xplain.proofs.explanation.QuickXplain.after.Goals.{In_ok-among}

pub unreachable-requires : goal.unreachable-requires
unreachable-requires c =
    done-asks_none (arc_value c.self.inside.among) c.self.inside.told c.in_default.field-0
    (subst (λ (part : Part). Stands (arc_value c.self.inside.among) c.self.inside.told part) c.in_default.is c.self.invariant)
    (subst (λ (d : Explaining). IsAsking (next_of d)) (sym c.self.view_is) c.requires)

module _ (c : In_ok-among) where
  items : c.push.new.self ≡ c.self.inside.told ++ c.args.sat ∷ []
  items = c.in_ok-push.ensures.ok ∙ ap (λ (sats : List Bool). sats ++ c.args.sat ∷ []) (c.in_ok-told.ensures ∙ c.as_slice.ensures)

pub invariant_of-result : goal.invariant_of-result
invariant_of-result c =
    let among = arc_value c.self.inside.among in
    let asking = c.in-Asks.asking in
    let h : Stands among c.self.inside.told (part.Asks asking) = subst (λ (part : Part). Stands among c.self.inside.told part) c.in-Asks.is c.self.invariant in
    let parts : IsPart among c.in_ok-part.part = subst (λ (set : PositionSet). IsPart set c.in_ok-part.part) c.deref.ensures c.in_ok-part.ensures.parts in
    let plan : remaining among.members c.in_ok-part.part ≡ after_answer c.args.sat (left_of among.members asking) = subst (λ (set : PositionSet). remaining set.members c.in_ok-part.part ≡ after_answer c.args.sat (left_of set.members asking)) c.deref.ensures c.in_ok-part.ensures.plan in
    subst (λ (set : PositionSet). Stands set c.push.new.self c.in_ok-part.part) (sym c.in_ok-among.ensures)
    (subst (λ (sats : List Bool). Stands among sats c.in_ok-part.part) (sym (items c)) (stands-told among c.self.inside.told asking h c.args.sat c.in_ok-part.part parts plan))

pub after-requires : goal.after-requires
after-requires c =
    let among = arc_value c.self.inside.among in
    let h : Stands among c.self.inside.told (part.Asks c.in-Asks.asking) = subst (λ (part : Part). Stands among c.self.inside.told part) c.in-Asks.is c.self.invariant in
    subst (λ (set : PositionSet). AsksRange set c.in-Asks.asking) (sym c.deref.ensures) h.parts

pub returns : goal.returns
returns c set e =
    let among = arc_value c.self.inside.among in
    let asked = subst (λ (d : Explaining). next_of d ≡ Ask set) (sym c.self.view_is) e in
    let record_of : PositionSet → List Answer → Explaining = λ among told. record { among = among; told = told } in
    let more : Explaining → Explaining = λ d. record { among = d.among; told = d.told ++ record { set = set; sat = c.args.sat } ∷ [] } in
    ap (λ (set : PositionSet). record_of set (told_in_turn (qx set.members) [] c.push.new.self)) c.in_ok-among.ensures
    ∙ ap (record_of among) (ap (told_in_turn (qx among.members) []) (items c) ∙ told-more (qx among.members) c.self.inside.told c.args.sat set asked)
    ∙ ap more c.self.view_is
