-- A single position joins the conflict.
use Rattle.std.proofs.Common.{◌≡◌, ℕ, ◌+◌, ◌<◌, ◌≤◌, ◌-◌, List, [], ◌∷◌, ◌++◌, length, take, refl, sym, ◌∙◌, ap, subst, arith, append_assoc}
use Rattle.std.specs.Prelude.{reverse, Some, slice_get}
use Rattle.req_keys.specs.Key.{PositionSet, key_with}
use Rattle.req_keys.specs.Positions.{RiseWithin}
use Rattle.req_keys.specs.Wanting.{key_over}
use Rattle.quick_xplain.specs.inside.Remaining.{end_of, AreStacked, IsRange, StandsAt}
use Rattle.quick_xplain.specs.declared.parts.Half.{Half}
use Rattle.quick_xplain.proofs.Keys.{key_with-first, place-within}
use Rattle.quick_xplain.proofs.Places.{take-next}
use Rattle.quick_xplain.proofs.Rising.{RiseWithin-below, RiseWithin-last}

module _ (among conflict : PositionSet) (before size x : ℕ) (halves : List Half) (h : IsRange among conflict before size halves) (one : size ≡ 1) (at : slice_get among.members before ≡ Some x) where
  pub place_there : before < length among.members
  place_there =
      let within : before + size ≤ length among.members = h.place.within in
      omega arith

  pub position-within : (0 < x) × (x ≤ among.n)
  position-within = place-within among.n among.members before x h.place.key.1 place_there at

  rises : RiseWithin 0 among.n (take before among.members ++ x ∷ conflict.members)
  rises =
      let next : take (before + size) among.members ≡ take before among.members ++ x ∷ [] = ap (λ m. take (before + m) among.members) one ∙ take-next among.members before x place_there at in
      subst (RiseWithin 0 among.n) (ap (λ (t : List ℕ). t ++ conflict.members) next ∙ append_assoc (take before among.members) (x ∷ []) conflict.members) h.place.above

  pub joined-key : key_with conflict x ≡ key_over among.n (x ∷ conflict.members)
  joined-key = key_with-first among.n x conflict h.place.over (RiseWithin-last 0 among.n (take before among.members) (x ∷ conflict.members) rises)

  pub stands-joined : (more : PositionSet) → more ≡ key_with conflict x → StandsAt among more (length more.members - 1) halves
  stands-joined more e =
      let end : end_of (reverse halves) ≤ before = h.place.end in
      let there : before < length among.members = place_there in
      let few : length conflict.members ≡ length (x ∷ conflict.members) - 1 = omega arith in
      subst (λ (key : PositionSet). StandsAt among key (length key.members - 1) halves) (sym (e ∙ joined-key)) record {
        key = h.place.key;
        over = refl;
        end = omega arith;
        order = omega arith;
        within = omega arith;
        above = RiseWithin-below among.n (end_of (reverse halves)) before among.members (x ∷ conflict.members) end rises;
        stacked = subst (λ most. AreStacked most (reverse halves)) few h.place.stacked;
      }
