-- The halves that wait.
use Rattle.std.proofs.Common.{◌≡◌, ℕ, ◌+◌, ◌<◌, ◌≤◌, ◌-◌, ◌/◌, true, false, List, [], ◌∷◌, ◌++◌, length, take, get_or, refl, sym, ◌∙◌, ap, subst, arith}
use Rattle.std.specs.Prelude.{reverse, Some, slice_get, ◌==◌}
use Rattle.std.proofs.lemmas.List.{reverse-append, take_more, take_all}
use Rattle.std.proofs.lemmas.Option.{get_or_from_slice_get}
use Rattle.pref_sets.specs.Plan.{chain}
use Rattle.pref_sets.proofs.PlansLeft.{chain-same, chain-chain}
use Rattle.req_keys.specs.Key.{PositionSet}
use Rattle.req_keys.proofs.Rises.{RiseWithin-higher}
use Rattle.fast_diag.specs.inside.Remaining.{part_plan, waiting, with_waiting, WaitAbove, StandsAt}
use Rattle.fast_diag.specs.declared.parts.Half.{Half}
use Rattle.fast_diag.proofs.PartPlan.{part_plan-halves, part_plan-one}

pub WaitAbove-lower : (n at lower : ℕ) (halves : List Half) → lower ≤ at → WaitAbove n at halves → WaitAbove n lower halves
WaitAbove-lower n at lower [] l h = tt
WaitAbove-lower n at lower (half ∷ halves) l h = ((let above : at ≤ half.before = h.0 in omega arith), h.1, h.2, h.3)

pub reverse-push : (old : List Half) (half : Half) → reverse (old ++ half ∷ []) ≡ half ∷ reverse old
reverse-push old half = reverse-append old (half ∷ [])

-- the last of the halves is taken
pub record IsTaken (n at : ℕ) (kept : PositionSet) (half : Half) (new : List Half) : Type 0 where
  pub above : at ≤ half.before
  pub some : 0 < half.length
  pub within : half.before + half.length ≤ n
  pub behind : StandsAt n (half.before + half.length) kept new
  pub still : StandsAt n at kept new

pub taken : (n at : ℕ) (kept : PositionSet) (old new : List Half) (half : Half) → old ≡ new ++ half ∷ [] → StandsAt n at kept old → IsTaken n at kept half new
taken n at kept old new half e h =
    let all : WaitAbove n at (half ∷ reverse new) = subst (WaitAbove n at) (ap reverse e ∙ reverse-push new half) h.above in
    let above : at ≤ half.before = all.0 in
    let within : half.before + half.length ≤ n = all.2 in
    record {
      above = above;
      some = all.1;
      within = within;
      behind = record {
        most = h.most;
        over = h.over;
        below = RiseWithin-higher 0 at (half.before + half.length) kept.members (omega arith) h.below;
        within = within;
        above = all.3;
      };
      still = record {
        most = h.most;
        over = h.over;
        below = h.below;
        within = h.within;
        above = WaitAbove-lower n (half.before + half.length) at (reverse new) (omega arith) all.3;
      };
    }

-- it is done next
pub waiting-last : (kept : List ℕ) (old new : List Half) (half : Half) → old ≡ new ++ half ∷ [] → waiting (reverse old) kept ≡ with_waiting kept half.before half.length (length kept == half.whole) new
waiting-last kept old new half e = ap (λ halves. waiting halves kept) (ap reverse e ∙ reverse-push new half)

-- a single position that is known to be Unsat isn't kept
pub waiting-skip : (kept : List ℕ) (before size : ℕ) (new : List Half) → size ≡ 1 → with_waiting kept before size true new ≡ waiting (reverse new) kept
waiting-skip kept before size new e = ap (λ p. chain p (λ further. waiting (reverse new) further)) (part_plan-one kept before size true e)

-- the lower half is done first, and the upper half waits
pub divided : (kept : List ℕ) (before size : ℕ) (old new : List Half) (half : Half) → 2 ≤ size → new ≡ old ++ half ∷ [] → half.before ≡ before + size / 2 → half.length ≡ size - size / 2 → half.whole ≡ length kept + size / 2 → with_waiting kept before (size / 2) false new ≡ with_waiting kept before size true old
divided kept before size old new half l e b m w =
    chain-same (part_plan kept before (size / 2) false) (part_plan kept before (size / 2) false) (λ further. waiting (reverse new) further)
    (λ lower. chain (part_plan lower (before + size / 2) (size - size / 2) (length lower == length kept + size / 2)) (λ further. waiting (reverse old) further))
    refl
    (λ lower.
    ap (λ halves. waiting halves lower) (ap reverse e ∙ reverse-push old half)
    ∙ ap (λ at. chain (part_plan lower at half.length (length lower == half.whole)) (λ further. waiting (reverse old) further)) b
    ∙ ap (λ m. chain (part_plan lower (before + size / 2) m (length lower == half.whole)) (λ further. waiting (reverse old) further)) m
    ∙ ap (λ whole. chain (part_plan lower (before + size / 2) (size - size / 2) (length lower == whole)) (λ further. waiting (reverse old) further)) w)
    ∙ sym (chain-chain (part_plan kept before (size / 2) false) (λ lower. part_plan lower (before + size / 2) (size - size / 2) (length lower == length kept + size / 2)) (λ further. waiting (reverse old) further))
    ∙ ap (λ p. chain p (λ further. waiting (reverse old) further)) (sym (part_plan-halves kept before size true l))

-- the last of a list and what is before it
pub parted : (last : ℕ) (old new : List Half) (half : Half) → last + 1 ≡ length old → new ≡ take last old → slice_get old last ≡ Some half → old ≡ new ++ half ∷ []
parted last old new half l t s =
    let less : last < length old = omega arith in
    let there : half ≡ get_or old last half = sym (get_or_from_slice_get old last half half s) in
    sym (take_all (length old) old (omega arith)) ∙ ap (λ k. take k old) (sym l) ∙ take_more old last half less
    ∙ ap (λ (x : Half). take last old ++ x ∷ []) (sym there) ∙ ap (λ (xs : List Half). xs ++ half ∷ []) (sym t)
