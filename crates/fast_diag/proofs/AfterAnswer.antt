-- What is left after an answer.
use Rattle.std.proofs.Common.{◌≡◌, ℕ, zero, suc, ◌+◌, ◌<◌, ◌≤◌, true, false, List, ◌++◌, refl, sym, ◌∙◌, ap, subst, arith}
use Rattle.std.specs.Prelude.{reverse}
use Rattle.pref_sets.specs.Plan.{asks, after_answer}
use Rattle.pref_sets.specs.Positions.{range}
use Rattle.pref_sets.proofs.RisingPositions.{RiseWithin-of_range}
use Rattle.req_keys.specs.Key.{PositionSet}
use Rattle.req_keys.proofs.Rises.{RiseWithin-higher, RiseWithin-append}
use Rattle.fast_diag.specs.inside.Remaining.{waiting, with_waiting, left_of, StandsAt, AsksRange}
use Rattle.fast_diag.specs.declared.parts.Half.{Half}
use Rattle.fast_diag.specs.declared.parts.Asking.{Asking}

pub after-sat : (kept : List ℕ) (before length : ℕ) (halves : List Half) → 0 < length → waiting (reverse halves) (kept ++ range before length) ≡ after_answer true (with_waiting kept before length false halves)
after-sat kept before zero halves l = absurd (omega arith)
after-sat kept before (suc zero) halves l = refl
after-sat kept before (suc (suc more)) halves l = refl

pub after-more : (kept : List ℕ) (before length : ℕ) (halves : List Half) → 2 ≤ length → with_waiting kept before length true halves ≡ after_answer false (with_waiting kept before length false halves)
after-more kept before zero halves l = absurd (omega arith)
after-more kept before (suc zero) halves l = absurd (omega arith)
after-more kept before (suc (suc more)) halves l = refl

-- a range that is asked: the plan asks the key, and goes on by the answer
pub asks-range : (kept : List ℕ) (before length : ℕ) (halves : List Half) → 0 < length → with_waiting kept before length false halves ≡ asks (kept ++ range before length) (λ sat. after_answer sat (with_waiting kept before length false halves))
asks-range kept before zero halves l = absurd (omega arith)
asks-range kept before (suc zero) halves l = refl
asks-range kept before (suc (suc more)) halves l = refl

module _ (n : ℕ) (asking : Asking) (h : AsksRange n asking) where
  pub stands-kept : StandsAt n (asking.before + asking.length) asking.kept asking.halves
  stands-kept = record {
    most = h.most;
    over = h.over;
    below = RiseWithin-higher 0 asking.before (asking.before + asking.length) asking.kept.members (omega arith) h.below;
    within = h.within;
    above = h.above;
  }

  pub stands-asked : StandsAt asking.asked.n (asking.before + asking.length) asking.asked asking.halves
  stands-asked =
      subst (λ (key : PositionSet). StandsAt key.n (asking.before + asking.length) key asking.halves) (sym h.asked) record {
        most = h.most;
        over = refl;
        below = RiseWithin-append 0 asking.before (asking.before + asking.length) asking.kept.members (range asking.before asking.length) h.below (RiseWithin-of_range asking.before asking.length) (omega arith) (omega arith);
        within = h.within;
        above = h.above;
      }

  -- the plan asks the key, and goes on by the answer
  pub asks-key : left_of asking ≡ asks asking.asked.members (λ sat. after_answer sat (left_of asking))
  asks-key =
      let set : PositionSet → List ℕ = λ key. key.members in
      asks-range asking.kept.members asking.before asking.length asking.halves h.some
      ∙ ap (λ (all : List ℕ). asks all (λ sat. after_answer sat (left_of asking))) (sym (ap set h.asked))
