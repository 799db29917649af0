use Rattle.std.proofs.Common.{◌≡◌, [], sym, ◌∙◌, ap, subst}
use Rattle.std.specs.Arc.{arc_value}
use Rattle.std.specs.Prelude.{Some}
use Rattle.pref_sets.specs.Answers.{IsToldInTurn}
use Rattle.pref_sets.specs.AskedKey.{asked_key}
use Rattle.pref_sets.specs.QuickXplain.{qx}
use Rattle.pref_sets.proofs.ToldInTurn.{IsToldInTurn-none, told-in_turn}
use Rattle.req_keys.specs.Key.{PositionSet}
use Rattle.quick_xplain.specs.Explaining.{Explaining}
use Rattle.quick_xplain.specs.inside.Standing.{Stands}
use Rattle.quick_xplain.specs.declared.parts.Part.{Part}
use Rattle.quick_xplain.specs.declared.explanation.QuickXplain.TheInside.{Inside}
use Rattle.quick_xplain.specs.contracts.explanation.QuickXplain.{the_view}
use Rattle.quick_xplain.proofs.AskedSets.{asks-new, asks-few}
use Rattle.quick_xplain.proofs.Standing.{stands-asks, stands-done, asked-key}
use Rattle.quick_xplain.proofs.explanation.QuickXplain.want.Goals as goal

pub returns-in-Asks-clause-asks : goal.returns-in-Asks-clause-asks
returns-in-Asks-clause-asks c =
    let h = subst (λ (part : Part). Stands (arc_value c.self.inside.among) c.self.inside.told part) c.in-Asks.is c.self.invariant in
    rw (← c.self.view_is)
    (ap (λ (key : PositionSet). Some key) (asked-key (arc_value c.self.inside.among) c.self.inside.told c.in-Asks.asking h)
    ∙ sym (ap (asked_key (arc_value c.self.inside.among).n) (stands-asks (arc_value c.self.inside.among) c.self.inside.told c.in-Asks.asking h)))

pub returns-in-Done-clause-asks : goal.returns-in-Done-clause-asks
returns-in-Done-clause-asks c =
    let h = subst (λ (part : Part). Stands (arc_value c.self.inside.among) c.self.inside.told part) c.in-Done.is c.self.invariant in
    rw (← c.self.view_is) (sym (ap (asked_key (arc_value c.self.inside.among).n) (stands-done (arc_value c.self.inside.among) c.self.inside.told c.in-Done.field-0 h)))

told : (a : Inside) (d : Explaining) → the_view a ≡ d → IsToldInTurn (qx d.among.members) [] d.told
told a d e = subst (λ (d : Explaining). IsToldInTurn (qx d.among.members) [] d.told) e (told-in_turn (qx (arc_value a.among).members) [] a.told (IsToldInTurn-none (qx (arc_value a.among).members) []))

pub returns-in-Asks-clause-told : goal.returns-in-Asks-clause-told
returns-in-Asks-clause-told c = told c.self.inside c.args.self.now c.self.view_is

pub returns-in-Done-clause-told : goal.returns-in-Done-clause-told
returns-in-Done-clause-told c = told c.self.inside c.args.self.now c.self.view_is

pub returns-in-Asks-clause-new : goal.returns-in-Asks-clause-new
returns-in-Asks-clause-new c = asks-new c.args.self.now.among.members c.args.self.now.told

pub returns-in-Done-clause-new : goal.returns-in-Done-clause-new
returns-in-Done-clause-new c = asks-new c.args.self.now.among.members c.args.self.now.told

pub returns-in-Asks-clause-few : goal.returns-in-Asks-clause-few
returns-in-Asks-clause-few c = asks-few c.args.self.now.among.members c.args.self.now.told (told c.self.inside c.args.self.now c.self.view_is)

pub returns-in-Done-clause-few : goal.returns-in-Done-clause-few
returns-in-Done-clause-few c = asks-few c.args.self.now.among.members c.args.self.now.told (told c.self.inside c.args.self.now c.self.view_is)
