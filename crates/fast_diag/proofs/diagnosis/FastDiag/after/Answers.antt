use Rattle.std.proofs.Common.{◌≡◌, ◌++◌, ◌∷◌, [], List, Bool, sym, ◌∙◌, ap, subst}
use Rattle.std.specs.List.{range_with_len}
use Rattle.pref_sets.specs.Answers.{Answer, Ask, IsAsking, told_in_turn}
use Rattle.pref_sets.specs.FastDiag.{fd}
use Rattle.pref_sets.proofs.PlansLeft.{told-more}
use Rattle.fast_diag.specs.Diagnosing.{Diagnosing, next_of}
use Rattle.fast_diag.specs.inside.Remaining.{IsPart}
use Rattle.fast_diag.specs.inside.Standing.{Stands}
use Rattle.fast_diag.specs.declared.parts.Asking.{Asking}
use Rattle.fast_diag.specs.declared.parts.Part.{Part}
use Rattle.fast_diag.specs.declared.parts.Part.TheVariants as part
use Rattle.fast_diag.proofs.Standing.{stands-told, done-asks_none}
use Rattle.fast_diag.proofs.diagnosis.FastDiag.after.Goals as goal
use Rattle.fast_diag.proofs.diagnosis.FastDiag.after.Goals.{In_ok-part}

pub unreachable-requires : goal.unreachable-requires
unreachable-requires c =
    done-asks_none c.self.inside.n c.self.inside.told c.in_default.field-0
    (subst (λ (part : Part). Stands c.self.inside.n c.self.inside.told part) c.in_default.is c.self.invariant)
    (subst (λ (d : Diagnosing). IsAsking (next_of d)) (sym c.self.view_is) c.requires)

module _ (c : In_ok-part) where
  stands : Stands c.self.inside.n c.self.inside.told (part.Asks c.in-Asks.asking)
  stands = subst (λ (part : Part). Stands c.self.inside.n c.self.inside.told part) c.in-Asks.is c.self.invariant

  items : c.push.new.self ≡ c.self.inside.told ++ c.args.sat ∷ []
  items = c.in_ok-push.ensures.ok ∙ ap (λ (sats : List Bool). sats ++ c.args.sat ∷ []) (c.in_ok-told.ensures ∙ c.as_slice.ensures)

pub invariant_of-result : goal.invariant_of-result
invariant_of-result c =
    let h = stands c in
    let asking = c.in-Asks.asking in
    let number : asking.kept.n ≡ c.self.inside.n = h.parts.over in
    let parts : IsPart c.self.inside.n c.in_ok-part.part = subst (λ n. IsPart n c.in_ok-part.part) number c.in_ok-part.ensures.parts in
    subst (λ (sats : List Bool). Stands c.self.inside.n sats c.in_ok-part.part) (sym (items c))
    (stands-told c.self.inside.n c.self.inside.told asking h c.args.sat c.in_ok-part.part parts c.in_ok-part.ensures.plan)

pub returns : goal.returns
returns c set e =
    let asked = subst (λ (d : Diagnosing). next_of d ≡ Ask set) (sym c.self.view_is) e in
    let record_of : List Answer → Diagnosing = λ told. record { n = c.self.inside.n; told = told } in
    let more : Diagnosing → Diagnosing = λ d. record { n = d.n; told = d.told ++ record { set = set; sat = c.args.sat } ∷ [] } in
    ap record_of (ap (told_in_turn (fd (range_with_len 1 c.self.inside.n)) []) (items c) ∙ told-more (fd (range_with_len 1 c.self.inside.n)) c.self.inside.told c.args.sat set asked)
    ∙ ap more c.self.view_is
