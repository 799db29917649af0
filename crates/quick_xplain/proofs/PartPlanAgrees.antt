-- The plan of a part is QuickXplain's, with the conflict that it finds put before the conflict so far.
use Rattle.std.specs.Prelude.{◌==◌, Contains}
use Rattle.std.proofs.Common.{◌≡◌, ℕ, zero, suc, ◌+◌, ◌<◌, Bool, true, false, not, cond, List, [], ◌∷◌, ◌++◌, length, refl, sym, ◌∙◌, ap, subst, ⊎_elim, arith, append_assoc, length-append}
use Rattle.std.proofs.lemmas.List.{append-nil}
use Rattle.std.proofs.lemmas.List.Elements.{Contains-append_left, Contains-append_right, Contains-append_cases}
use Rattle.std.proofs.lemmas.Bool.{eq-eqb, ne_eqb}
use Rattle.pref_sets.specs.Answers.{Answer}
use Rattle.pref_sets.specs.Plan.{Plan, found, asks, chain, over, AsksOnly, AsksOnce}
use Rattle.pref_sets.specs.Positions.{union, lower_half, upper_half}
use Rattle.pref_sets.specs.Preferred.{IsWithin}
use Rattle.pref_sets.specs.QuickXplain.{qx}
use Rattle.pref_sets.proofs.AscendingPositions.{Ascends, Ascends-apart, Ascends-same, AreBelow, union-has, union-cases, union-ascends, union-append, halves-join, halves-length}
use Rattle.pref_sets.proofs.PlansLeft.{asks-same, chain-same, chain-found, chain-chain, AsksOnly-and}
use Rattle.pref_sets.proofs.QuickXplainPlan.{unsat_plan, qx_plan, qx_part-plan, qx_plan-ascends}
use Rattle.lists.proofs.Members.{first as contains_first, later as contains_later, none as contains_none}
use Rattle.quick_xplain.specs.inside.Remaining.{unless_alone, part_within, part_plan}
use Rattle.quick_xplain.proofs.AsksOnce.{qx_plan-beyond, qx_plan-once, GoesBeyond}

-- whether something was added
abbrev pub is_some : List ℕ → Bool
is_some [] = false
is_some (x ∷ xs) = true

-- what a part finds is put before the conflict so far
abbrev pub onto : List ℕ → Plan → Plan
onto conflict plan = chain plan (λ more. found (more ++ conflict))

-- one plan after another, where what the later one does is the same for all that the first one finds
chain-where : (A R : List ℕ → Type 0) (plan : Plan) (f g : List ℕ → Plan) → AsksOnly A R plan → ((set : List ℕ) → R set → f set ≡ g set) → chain plan f ≡ chain plan g
chain-where A R (found set) f g h same = same set h
chain-where A R (asks set go) f g h same = asks-same set (λ sat. chain (go sat) f) (λ sat. chain (go sat) g) (λ sat. chain-where A R (go sat) f g (h.1 sat) same)

unless-onto : (background conflict added : List ℕ) (left other : Plan) → left ≡ onto conflict other → unless_alone background conflict (is_some added) left ≡ onto conflict (unsat_plan background added other)
unless-onto background conflict [] left other e = e
unless-onto background conflict (x ∷ added) left other e =
    asks-same background (λ sat. cond sat left (found conflict)) (λ sat. onto conflict (cond sat other (found []))) (λ sat. either sat)
  where
    either : (sat : Bool) → cond sat left (found conflict) ≡ onto conflict (cond sat other (found []))
    either true = e
    either false = refl

-- the number of positions in the conflict tells whether something was found
pub some-found : (upper conflict : List ℕ) → not (length (upper ++ conflict) == length conflict) ≡ is_some upper
some-found [] conflict = rw (eq-eqb (length conflict) (length conflict) refl) refl
some-found (x ∷ upper) conflict =
    let more = length-append upper conflict in
    rw (ne_eqb (length (x ∷ upper ++ conflict)) (length conflict) (λ e. omega (arith, more))) refl

-- one ascending list below another
Ascends-join : (a b : List ℕ) → Ascends a → Ascends b → AreBelow a b → Ascends (a ++ b)
Ascends-join [] b h k below = k
Ascends-join (x ∷ a) b h k below = (
  (λ y m. ⊎_elim (λ (l : Contains a y). h.0 y l) (λ (r : Contains b y). below x y (contains_first x a) r) (Contains-append_cases a b y m)),
  Ascends-join a b h.1 k (λ y z m n. below y z (contains_later x a y m) n),
)

-- a part in the middle is replaced by some of its positions
Ascends-fewer : (below middle above fewer : List ℕ) → Ascends (below ++ (middle ++ above)) → Ascends fewer → IsWithin fewer middle → Ascends (below ++ (fewer ++ above))
Ascends-fewer below middle above fewer h k inside =
    let outer : Ascends below × Ascends (middle ++ above) × AreBelow below (middle ++ above) = Ascends-apart below (middle ++ above) h in
    let inner : Ascends middle × Ascends above × AreBelow middle above = Ascends-apart middle above outer.1 in
    let all : IsWithin (fewer ++ above) (middle ++ above) = λ i m.
    ⊎_elim (λ (l : Contains fewer i). Contains-append_left middle above i (inside i l)) (λ (r : Contains above i). Contains-append_right middle above i r) (Contains-append_cases fewer above i m) in
    Ascends-join below (fewer ++ above) outer.0 (Ascends-join fewer above k inner.1 (λ x y m n. inner.2 x y (inside x m) n)) (λ x y m n. outer.2 x y m (all y n))

-- the positions between others, added to them
union-between : (below middle above : List ℕ) → Ascends (below ++ (middle ++ above)) → union (below ++ above) middle ≡ below ++ (middle ++ above)
union-between below middle above h =
    let outer : Ascends below × Ascends (middle ++ above) × AreBelow below (middle ++ above) = Ascends-apart below (middle ++ above) h in
    let inner : Ascends middle × Ascends above × AreBelow middle above = Ascends-apart middle above outer.1 in
    Ascends-same (union (below ++ above) middle) (below ++ (middle ++ above)) (union-ascends (below ++ above) middle inner.0) h
    (λ i m.
    ⊎_elim
    (λ (others : Contains (below ++ above) i).
    ⊎_elim (λ (l : Contains below i). Contains-append_left below (middle ++ above) i l) (λ (r : Contains above i). Contains-append_right below (middle ++ above) i (Contains-append_right middle above i r)) (Contains-append_cases below above i others))
    (λ (there : Contains middle i). Contains-append_right below (middle ++ above) i (Contains-append_left middle above i there))
    (union-cases (below ++ above) middle i m))
    (λ i m.
    union-has (below ++ above) middle i
    (⊎_elim
    (λ (l : Contains below i). Contains-append_left (below ++ above) middle i (Contains-append_left below above i l))
    (λ (rest : Contains (middle ++ above) i).
    ⊎_elim (λ (there : Contains middle i). Contains-append_right (below ++ above) middle i there) (λ (r : Contains above i). Contains-append_left (below ++ above) middle i (Contains-append_right below above i r)) (Contains-append_cases middle above i rest))
    (Contains-append_cases below (middle ++ above) i m)))

-- what a part finds: ascending positions of its own
abbrev IsOf : List ℕ → List ℕ → Type 0
IsOf positions set = IsWithin set positions × Ascends set

finds-own : (count : ℕ) (background added positions : List ℕ) → Ascends background → Ascends positions → AsksOnly (λ set. GoesBeyond background added positions set × Ascends set) (IsOf positions) (qx_plan count background added positions)
finds-own count background added positions b h =
    AsksOnly-and (GoesBeyond background added positions) Ascends (λ set. IsWithin set positions) Ascends (qx_plan count background added positions)
    (qx_plan-beyond count background added positions) (qx_plan-ascends count background added positions b h)

pub some-is : (xs : List ℕ) → 0 < length xs → true ≡ is_some xs
some-is [] l = absurd (omega arith)
some-is (x ∷ xs) l = refl

abbrev Agrees : ℕ → Type 0
Agrees count =
    (below positions conflict added : List ℕ) → Ascends (below ++ (positions ++ conflict)) →
    part_within count below positions conflict (is_some added) ≡ onto conflict (qx_plan count (below ++ conflict) added positions)

-- the halves, where each part agrees
module _ (count : ℕ) (ih : Agrees count) (below first second conflict : List ℕ) (h : Ascends (below ++ (first ++ (second ++ conflict)))) where
  outer : Ascends ((below ++ first) ++ (second ++ conflict))
  outer = subst Ascends (sym (append_assoc below first (second ++ conflict))) h

  own : Ascends first × Ascends second
  own =
      let rest : Ascends below × Ascends (first ++ (second ++ conflict)) × AreBelow below (first ++ (second ++ conflict)) = Ascends-apart below (first ++ (second ++ conflict)) h in
      let lower : Ascends first × Ascends (second ++ conflict) × AreBelow first (second ++ conflict) = Ascends-apart first (second ++ conflict) rest.1 in
      let upper : Ascends second × Ascends conflict × AreBelow second conflict = Ascends-apart second conflict lower.1 in
      (lower.0, upper.0)

  below_upper : AreBelow first second
  below_upper =
      let rest : Ascends below × Ascends (first ++ (second ++ conflict)) × AreBelow below (first ++ (second ++ conflict)) = Ascends-apart below (first ++ (second ++ conflict)) h in
      let lower : Ascends first × Ascends (second ++ conflict) × AreBelow first (second ++ conflict) = Ascends-apart first (second ++ conflict) rest.1 in
      λ x y m n. lower.2 x y m (Contains-append_left second conflict y n)

  abbrev background : List ℕ
  background = below ++ conflict

  abbrev upper_plan : Plan
  upper_plan = qx_plan count (union background first) first second

  abbrev own_plan : List ℕ → Plan
  own_plan upper = qx_plan count (union background upper) upper first

  abbrev lower_plan : List ℕ → Plan
  lower_plan upper = chain (own_plan upper) (λ lower. found (union lower upper))

  abbrev go_on : List ℕ → Plan
  go_on further = part_within count below first further (not (length further == length conflict))

  upper-agrees : 0 < length first → part_within count (below ++ first) second conflict true ≡ onto conflict upper_plan
  upper-agrees l =
      let with_first : Ascends (below ++ (first ++ conflict)) = subst Ascends (append_assoc below first conflict) (Ascends-fewer (below ++ first) second conflict [] outer tt (λ i m. absurd (contains_none i m))) in
      ap (part_within count (below ++ first) second conflict) (some-is first l)
      ∙ ih (below ++ first) second conflict first outer
      ∙ ap (λ (b : List ℕ). onto conflict (qx_plan count b first second)) (append_assoc below first conflict ∙ sym (union-between below first conflict with_first))

  lower-agrees : (upper : List ℕ) → IsOf second upper → go_on (upper ++ conflict) ≡ onto conflict (lower_plan upper)
  lower-agrees upper of =
      let behind : Ascends (below ++ (first ++ (upper ++ conflict))) = subst Ascends (append_assoc below first (upper ++ conflict)) (Ascends-fewer (below ++ first) second conflict upper outer of.1 of.0) in
      let without : Ascends (below ++ (upper ++ conflict)) = Ascends-fewer below first (upper ++ conflict) [] behind tt (λ i m. absurd (contains_none i m)) in
      ap (part_within count below first (upper ++ conflict)) (some-found upper conflict)
      ∙ ih below first (upper ++ conflict) upper behind
      ∙ ap (λ (b : List ℕ). onto (upper ++ conflict) (qx_plan count b upper first)) (sym (union-between below upper conflict without))
      ∙ chain-where (λ set. GoesBeyond (union background upper) upper first set × Ascends set) (IsOf first) (own_plan upper) (λ lower. found (lower ++ (upper ++ conflict))) (λ lower. found (union lower upper ++ conflict))
      (finds-own count (union background upper) upper first (union-ascends background upper of.1) own.0)
      (λ lower mine.
      ap found (sym (ap (λ (t : List ℕ). t ++ conflict) (union-append lower upper mine.1 (λ x y m n. below_upper x y (mine.0 x m) (of.0 y n))) ∙ append_assoc lower upper conflict)))
      ∙ sym (chain-chain (own_plan upper) (λ lower. found (union lower upper)) (λ more. found (more ++ conflict)))

  halves-agree : 0 < length first → chain (part_within count (below ++ first) second conflict true) go_on ≡ onto conflict (chain upper_plan lower_plan)
  halves-agree l =
      ap (λ p. chain p go_on) (upper-agrees l)
      ∙ chain-chain upper_plan (λ more. found (more ++ conflict)) go_on
      ∙ chain-where (λ set. GoesBeyond (union background first) first second set × Ascends set) (IsOf second) upper_plan (λ upper. go_on (upper ++ conflict)) (λ upper. onto conflict (lower_plan upper))
      (finds-own count (union background first) first second (union-ascends background first own.0) own.1)
      (λ upper of. lower-agrees upper of)
      ∙ sym (chain-chain upper_plan lower_plan (λ more. found (more ++ conflict)))

pub agrees : (count : ℕ) → Agrees count
agrees zero below positions conflict added h = refl
agrees (suc count) below [] conflict added h = refl
agrees (suc count) below (x ∷ []) conflict added h = unless-onto (below ++ conflict) conflict added (found (x ∷ conflict)) (found (x ∷ [])) refl
agrees (suc count) below (x ∷ y ∷ rest) conflict added h =
    let whole : List ℕ = x ∷ y ∷ rest in
    let first : List ℕ = lower_half whole in
    let second : List ℕ = upper_half whole in
    let sizes : (0 < length (lower_half whole)) × (0 < length (upper_half whole)) × (length (lower_half whole) + length (upper_half whole) ≡ length whole) = halves-length whole (omega arith) in
    let joined : first ++ (second ++ conflict) ≡ whole ++ conflict = sym (append_assoc first second conflict) ∙ ap (λ (t : List ℕ). t ++ conflict) (halves-join whole) in
    let parts : Ascends (below ++ (first ++ (second ++ conflict))) = subst (λ (t : List ℕ). Ascends (below ++ t)) (sym joined) h in
    unless-onto (below ++ conflict) conflict added
    (chain (part_within count (below ++ first) second conflict true) (λ further. part_within count below first further (not (length further == length conflict))))
    (chain (qx_plan count (union (below ++ conflict) first) first second) (λ upper. chain (qx_plan count (union (below ++ conflict) upper) upper first) (λ lower. found (union lower upper))))
    (halves-agree count (agrees count) below first second conflict parts sizes.0)

-- the plan of the whole start set is QuickXplain's
whole-plan : (positions : List ℕ) → Ascends positions → part_plan [] positions [] false ≡ qx_plan (length positions) [] [] positions
whole-plan positions h =
    agrees (length positions) [] positions [] [] (rw append-nil h)
    ∙ chain-same (qx_plan (length positions) [] [] positions) (qx_plan (length positions) [] [] positions) (λ more. found (more ++ [])) (λ more. found more) refl (λ more. ap found (append-nil more))
    ∙ chain-found (qx_plan (length positions) [] [] positions)

pub qx-plan : (positions : List ℕ) → Ascends positions → (table : List Answer) → qx positions table ≡ over table (part_plan [] positions [] false)
qx-plan positions h table = qx_part-plan (length positions) table [] [] positions ∙ ap (over table) (sym (whole-plan positions h))

pub part-once : (positions : List ℕ) → Ascends positions → AsksOnce (part_plan [] positions [] false)
part-once positions h = subst AsksOnce (sym (whole-plan positions h)) (qx_plan-once (length positions) [] [] positions h (λ i m n. contains_none i m))
