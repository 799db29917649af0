-- The halves that wait.
use Rattle.std.proofs.Common.{◌≡◌, ℕ, ◌+◌, ◌<◌, ◌≤◌, ◌-◌, ◌/◌, true, false, not, List, [], ◌∷◌, ◌++◌, length, take, get_or, refl, sym, ◌∙◌, ap, arith}
use Rattle.std.specs.Prelude.{reverse, Some, slice_get, ◌==◌}
use Rattle.std.proofs.lemmas.List.{reverse-append, take_more, take_all}
use Rattle.std.proofs.lemmas.Option.{get_or_from_slice_get}
use Rattle.pref_sets.specs.Plan.{chain}
use Rattle.pref_sets.specs.Positions.{lower_half, upper_half}
use Rattle.pref_sets.proofs.PlansLeft.{chain-same, chain-chain}
use Rattle.req_keys.specs.Key.{PositionSet}
use Rattle.quick_xplain.specs.inside.Remaining.{part_plan, range_plan, at_range, waiting, with_waiting, end_of, StandsBetween, StandsAt}
use Rattle.quick_xplain.specs.declared.parts.Half.{Half}
use Rattle.quick_xplain.proofs.PartPlan.{part_plan-halves}
use Rattle.quick_xplain.proofs.Places.{length-at_range, below-at_range, lower_half-at_range, upper_half-at_range, at_range-one}
use Rattle.quick_xplain.proofs.Rising.{RiseWithin-below}

pub reverse-push : (old : List Half) (half : Half) → reverse (old ++ half ∷ []) ≡ half ∷ reverse old
reverse-push old half = reverse-append old (half ∷ [])

-- fewer of the places
pub stands-lower : (low high lower : ℕ) (among conflict : PositionSet) (most : ℕ) (halves : List Half) → end_of (reverse halves) ≤ lower → lower ≤ high → StandsBetween low high among conflict most halves → StandsBetween lower lower among conflict most halves
stands-lower low high lower among conflict most halves e l h =
    let within : high ≤ length among.members = h.within in
    record {
      key = h.key;
      over = h.over;
      end = e;
      order = omega arith;
      within = omega arith;
      above = RiseWithin-below among.n lower high among.members conflict.members l h.above;
      stacked = h.stacked;
    }

pub stands-done : (low high : ℕ) (among conflict : PositionSet) (most : ℕ) (halves : List Half) → StandsBetween low high among conflict most halves → StandsAt among conflict most halves
stands-done low high among conflict most halves h =
    let end : end_of (reverse halves) ≤ low = h.end in
    let order : low ≤ high = h.order in
    stands-lower low high (end_of (reverse halves)) among conflict most halves (omega arith) (omega arith) h

-- a range of two places and more, by its halves
range_plan-halves : (members : List ℕ) (before size : ℕ) (conflict : List ℕ) → 2 ≤ size → before + size ≤ length members →
    chain (range_plan members (before + size / 2) (size - size / 2) conflict true) (λ further. range_plan members before (size / 2) further (not (length further == length conflict))) ≡ range_plan members before size conflict false
range_plan-halves members before size conflict l within =
    let lower : lower_half (at_range members before size) ≡ at_range members before (size / 2) = lower_half-at_range members before size within in
    let upper : upper_half (at_range members before size) ≡ at_range members (before + size / 2) (size - size / 2) = upper_half-at_range members before size within in
    let under : take before members ++ lower_half (at_range members before size) ≡ take (before + size / 2) members = ap (λ (t : List ℕ). take before members ++ t) lower ∙ below-at_range members before (size / 2) in
    let many : length (at_range members before size) ≡ size = length-at_range members before size within in
    sym (part_plan-halves (take before members) (at_range members before size) conflict false (omega arith)
    ∙ ap (λ (below : List ℕ). chain (part_plan below (upper_half (at_range members before size)) conflict true) (λ further. part_plan (take before members) (lower_half (at_range members before size)) further (not (length further == length conflict)))) under
    ∙ ap (λ (second : List ℕ). chain (part_plan (take (before + size / 2) members) second conflict true) (λ further. part_plan (take before members) (lower_half (at_range members before size)) further (not (length further == length conflict)))) upper
    ∙ ap (λ (first : List ℕ). chain (range_plan members (before + size / 2) (size - size / 2) conflict true) (λ further. part_plan (take before members) first further (not (length further == length conflict)))) lower)

-- the upper half is done first, and the lower half waits
pub divided : (members : List ℕ) (before size : ℕ) (conflict : List ℕ) (old new : List Half) (half : Half) → 2 ≤ size → before + size ≤ length members → new ≡ old ++ half ∷ [] → half.before ≡ before → half.length ≡ size / 2 → half.found ≡ length conflict →
    with_waiting members (before + size / 2) (size - size / 2) conflict true new ≡ with_waiting members before size conflict false old
divided members before size conflict old new half l within e b m f =
    chain-same (range_plan members (before + size / 2) (size - size / 2) conflict true) (range_plan members (before + size / 2) (size - size / 2) conflict true) (λ further. waiting members (reverse new) further)
    (λ further. chain (range_plan members before (size / 2) further (not (length further == length conflict))) (λ last. waiting members (reverse old) last))
    refl
    (λ further.
    ap (λ halves. waiting members halves further) (ap reverse e ∙ reverse-push old half)
    ∙ ap (λ at. chain (range_plan members at half.length further (not (length further == half.found))) (λ last. waiting members (reverse old) last)) b
    ∙ ap (λ m. chain (range_plan members before m further (not (length further == half.found))) (λ last. waiting members (reverse old) last)) m
    ∙ ap (λ k. chain (range_plan members before (size / 2) further (not (length further == k))) (λ last. waiting members (reverse old) last)) f)
    ∙ sym (chain-chain (range_plan members (before + size / 2) (size - size / 2) conflict true) (λ further. range_plan members before (size / 2) further (not (length further == length conflict))) (λ last. waiting members (reverse old) last))
    ∙ ap (λ p. chain p (λ last. waiting members (reverse old) last)) (range_plan-halves members before size conflict l within)

-- a single position joins the conflict
pub joined : (members : List ℕ) (before size x : ℕ) (conflict : List ℕ) (halves : List Half) → size ≡ 1 → before < length members → slice_get members before ≡ Some x → waiting members (reverse halves) (x ∷ conflict) ≡ with_waiting members before size conflict false halves
joined members before size x conflict halves e l s =
    sym (ap (λ m. with_waiting members before m conflict false halves) e
    ∙ ap (λ (positions : List ℕ). chain (part_plan (take before members) positions conflict false) (λ further. waiting members (reverse halves) further)) (at_range-one members before x l s))

-- the last of a list and what is before it
pub parted : (last : ℕ) (old new : List Half) (half : Half) → last + 1 ≡ length old → new ≡ take last old → slice_get old last ≡ Some half → old ≡ new ++ half ∷ []
parted last old new half l t s =
    let less : last < length old = omega arith in
    let there : half ≡ get_or old last half = sym (get_or_from_slice_get old last half half s) in
    sym (take_all (length old) old (omega arith)) ∙ ap (λ k. take k old) (sym l) ∙ take_more old last half less
    ∙ ap (λ (x : Half). take last old ++ x ∷ []) (sym there) ∙ ap (λ (xs : List Half). xs ++ half ∷ []) (sym t)
