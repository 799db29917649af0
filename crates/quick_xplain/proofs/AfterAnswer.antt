-- What is left after an answer.
use Rattle.std.proofs.Common.{◌≡◌, ℕ, ◌+◌, ◌<◌, ◌≤◌, true, false, cond, List, ◌++◌, length, take, sym, ◌∙◌, ap, arith}
use Rattle.std.specs.Prelude.{reverse}
use Rattle.pref_sets.specs.Plan.{Plan, found, asks, chain, after_answer}
use Rattle.req_keys.specs.Key.{PositionSet}
use Rattle.quick_xplain.specs.inside.Remaining.{range_plan, at_range, waiting, with_waiting, left_of, AsksRange}
use Rattle.quick_xplain.specs.declared.parts.Asking.{Asking}
use Rattle.quick_xplain.specs.declared.parts.Half.{Half}
use Rattle.quick_xplain.proofs.PartPlan.{part_plan-asks}
use Rattle.quick_xplain.proofs.Places.{length-at_range}

-- a range whose background is asked: the plan asks it
asks-background : (members : List ℕ) (before size : ℕ) (conflict : List ℕ) (halves : List Half) → 0 < size → before + size ≤ length members →
    with_waiting members before size conflict true halves
    ≡ asks (take before members ++ conflict) (λ sat. chain (cond sat (range_plan members before size conflict false) (found conflict)) (λ further. waiting members (reverse halves) further))
asks-background members before size conflict halves some within =
    let many : length (at_range members before size) ≡ size = length-at_range members before size within in
    ap (λ p. chain p (λ further. waiting members (reverse halves) further)) (part_plan-asks (take before members) (at_range members before size) conflict (omega arith))

module _ (among : PositionSet) (asking : Asking) (h : AsksRange among asking) where
  goes : left_of among.members asking ≡ asks (take asking.before among.members ++ asking.conflict.members) (λ sat. chain (cond sat (range_plan among.members asking.before asking.length asking.conflict.members false) (found asking.conflict.members)) (λ further. waiting among.members (reverse asking.halves) further))
  goes = asks-background among.members asking.before asking.length asking.conflict.members asking.halves h.range.some h.range.place.within

  pub after-sat : with_waiting among.members asking.before asking.length asking.conflict.members false asking.halves ≡ after_answer true (left_of among.members asking)
  after-sat = sym (ap (after_answer true) goes)

  pub after-unsat : waiting among.members (reverse asking.halves) asking.conflict.members ≡ after_answer false (left_of among.members asking)
  after-unsat = sym (ap (after_answer false) goes)

  -- the plan asks the key, and goes on by the answer
  pub asks-key : left_of among.members asking ≡ asks asking.asked.members (λ sat. after_answer sat (left_of among.members asking))
  asks-key =
      let set : PositionSet → List ℕ = λ key. key.members in
      goes
      ∙ ap (λ (p : Plan). asks (take asking.before among.members ++ asking.conflict.members) (λ sat. after_answer sat p)) (sym goes)
      ∙ ap (λ (all : List ℕ). asks all (λ sat. after_answer sat (left_of among.members asking))) (sym (ap set h.asked))
