-- QuickXplain asks no set twice.
use Rattle.std.proofs.Common.{◌≡◌, ℕ, zero, suc, ◌+◌, ◌<◌, Bool, true, false, cond, List, [], ◌∷◌, refl, subst, ⊎_elim, length, arith}
use Rattle.std.specs.Prelude.{Contains}
use Rattle.std.proofs.lemmas.List.Elements.{Contains-append_left, Contains-append_right}
use Rattle.pref_sets.specs.Plan.{Plan, found, chain, AsksOnly, AsksOnce}
use Rattle.pref_sets.specs.Positions.{union, lower_half, upper_half}
use Rattle.pref_sets.specs.Preferred.{IsWithin}
use Rattle.pref_sets.proofs.AscendingPositions.{Ascends, Ascends-apart, AreBelow, AreApart, apart-below, member-of_some, union-has, union-all, union-cases, halves-join, halves-length, lower-within, upper-within}
use Rattle.pref_sets.proofs.Plans.{AsksOnly-chain}
use Rattle.pref_sets.proofs.PlansLeft.{AsksOnly-weaker, AsksOnly-any, AsksOnce-chain}
use Rattle.pref_sets.proofs.QuickXplainAsks.{IsPartOf, qx_plan-part}
use Rattle.pref_sets.proofs.QuickXplainPlan.{unsat_plan, qx_plan}
use Rattle.lists.proofs.Members.{first as contains_first, none as contains_none}

-- the set has the background, and a position too where the background itself isn't asked
pub record GoesBeyond (background added positions set : List ℕ) : Type 0 where
  pub has : IsWithin background set
  pub more : added ≡ [] → (x : ℕ) × Contains positions x × Contains set x

abbrev FindsWithin : List ℕ → List ℕ → Type 0
FindsWithin positions set = IsWithin set positions

unsat_plan-beyond : (background added positions : List ℕ) (left : Plan) → AsksOnly (GoesBeyond background [] positions) (FindsWithin positions) left → AsksOnly (GoesBeyond background added positions) (FindsWithin positions) (unsat_plan background added left)
unsat_plan-beyond background [] positions left h = h
unsat_plan-beyond background (y ∷ added) positions left h =
    (record { has = λ i m. m; more = λ e. absurd (cc) }, λ sat. either sat)
  where
    either : (sat : Bool) → AsksOnly (GoesBeyond background (y ∷ added) positions) (FindsWithin positions) (cond sat left (found []))
    either true =
        AsksOnly-weaker (GoesBeyond background [] positions) (GoesBeyond background (y ∷ added) positions) (FindsWithin positions) (FindsWithin positions) left
        (λ set g. record { has = g.has; more = λ e. g.more refl }) (λ set f. f) h
    either false = λ i m. absurd (contains_none i m)

-- the lower half, which is asked behind what the upper half found
beyond-lower : (background upper first second whole set : List ℕ) → IsWithin upper second → IsWithin first whole → IsWithin second whole → GoesBeyond (union background upper) upper first set → GoesBeyond background [] whole set
beyond-lower background [] first second whole set u f s g = record {
  has = λ i m. g.has i (union-has background [] i (Contains-append_left background [] i m));
  more = λ e. let m = g.more refl in (m.0, f m.0 m.1, m.2);
}
beyond-lower background (z ∷ upper) first second whole set u f s g = record {
  has = λ i m. g.has i (union-has background (z ∷ upper) i (Contains-append_left background (z ∷ upper) i m));
  more = λ e.
      (z, s z (u z (contains_first z upper)), g.has z (union-has background (z ∷ upper) z (Contains-append_right background (z ∷ upper) z (contains_first z upper))));
}

beyond-upper : (background first second whole set : List ℕ) → 0 < length first → IsWithin first whole → GoesBeyond (union background first) first second set → GoesBeyond background [] whole set
beyond-upper background first second whole set l f g = record {
  has = λ i m. g.has i (union-has background first i (Contains-append_left background first i m));
  more = λ e.
      let one = member-of_some first l in
      (one.0, f one.0 one.1, g.has one.0 (union-has background first one.0 (Contains-append_right background first one.0 one.1)));
}

pub qx_plan-beyond : (count : ℕ) (background added positions : List ℕ) → AsksOnly (GoesBeyond background added positions) (FindsWithin positions) (qx_plan count background added positions)
qx_plan-beyond zero background added positions = λ i m. absurd (contains_none i m)
qx_plan-beyond (suc count) background added [] = λ i m. m
qx_plan-beyond (suc count) background added (x ∷ []) = unsat_plan-beyond background added (x ∷ []) (found (x ∷ [])) (λ i m. m)
qx_plan-beyond (suc count) background added (x ∷ y ∷ rest) =
    let whole : List ℕ = x ∷ y ∷ rest in
    let first : List ℕ = lower_half whole in
    let second : List ℕ = upper_half whole in
    let sizes : (0 < length (lower_half whole)) × (0 < length (upper_half whole)) × (length (lower_half whole) + length (upper_half whole) ≡ length whole) = halves-length whole (omega arith) in
    let lower_plan : List ℕ → Plan = λ upper. chain (qx_plan count (union background upper) upper first) (λ lower. found (union lower upper)) in
    unsat_plan-beyond background added whole (chain (qx_plan count (union background first) first second) lower_plan)
    (AsksOnly-chain (GoesBeyond background [] whole) (FindsWithin second) (FindsWithin whole) (qx_plan count (union background first) first second) lower_plan
    (AsksOnly-weaker (GoesBeyond (union background first) first second) (GoesBeyond background [] whole) (FindsWithin second) (FindsWithin second) (qx_plan count (union background first) first second)
    (λ set g. beyond-upper background first second whole set sizes.0 (lower-within whole) g) (λ set f. f)
    (qx_plan-beyond count (union background first) first second))
    (λ upper of_second.
    AsksOnly-chain (GoesBeyond background [] whole) (FindsWithin first) (FindsWithin whole) (qx_plan count (union background upper) upper first) (λ lower. found (union lower upper))
    (AsksOnly-weaker (GoesBeyond (union background upper) upper first) (GoesBeyond background [] whole) (FindsWithin first) (FindsWithin first) (qx_plan count (union background upper) upper first)
    (λ set g. beyond-lower background upper first second whole set of_second (lower-within whole) (upper-within whole) g) (λ set f. f)
    (qx_plan-beyond count (union background upper) upper first))
    (λ lower of_first. union-all lower upper whole (λ i m. lower-within whole i (of_first i m)) (λ i m. upper-within whole i (of_second i m)))))

-- what is asked behind the background has more than it
unsat_plan-once : (background added positions : List ℕ) (left : Plan) → AreApart background positions → AsksOnly (GoesBeyond background [] positions) (FindsWithin positions) left → AsksOnce left → AsksOnce (unsat_plan background added left)
unsat_plan-once background [] positions left clear h once = once
unsat_plan-once background (y ∷ added) positions left clear h once = λ sat. either sat
  where
    either : (sat : Bool) → AsksOnly (λ other. ¬ other ≡ background) (λ kept. Unit {0}) (cond sat left (found [])) × AsksOnce (cond sat left (found []))
    either true = (
      AsksOnly-weaker (GoesBeyond background [] positions) (λ other. ¬ other ≡ background) (FindsWithin positions) (λ kept. Unit {0}) left
          (λ set g same. let m = g.more refl in clear m.0 (subst (λ (s : List ℕ). Contains s m.0) same m.2) m.1) (λ set f. tt) h,
      once,
    )
    either false = (tt, tt)

-- a plan that goes on by nothing but what it finds
AsksOnce-found : (plan : Plan) (make : List ℕ → List ℕ) → AsksOnce plan → AsksOnce (chain plan (λ set. found (make set)))
AsksOnce-found plan make once =
    AsksOnce-chain (λ set. Unit {0}) (λ set. Unit {0}) plan (λ set. found (make set)) once (AsksOnly-any (λ set. Unit {0}) plan (λ set. tt)) (λ set u. tt) (λ set u. tt)

-- a background and more positions, without those of another list
clear-union : (background more positions : List ℕ) → AreApart background positions → AreApart more positions → AreApart (union background more) positions
clear-union background more positions a b i m n = ⊎_elim (λ (l : Contains background i). a i l n) (λ (r : Contains more i). b i r n) (union-cases background more i m)

-- the upper half is asked behind all of the lower half, and the lower half never behind all of itself
pub qx_plan-once : (count : ℕ) (background added positions : List ℕ) → Ascends positions → AreApart background positions → AsksOnce (qx_plan count background added positions)
qx_plan-once zero background added positions h clear = tt
qx_plan-once (suc count) background added [] h clear = tt
qx_plan-once (suc count) background added (x ∷ []) h clear = unsat_plan-once background added (x ∷ []) (found (x ∷ [])) clear (λ i m. m) tt
qx_plan-once (suc count) background added (x ∷ y ∷ rest) h clear =
    unsat_plan-once background added whole (chain upper_plan lower_plan) clear
    (qx_plan-beyond (suc count) background [] whole)
    (AsksOnce-chain (IsWithin first) (FindsWithin second) upper_plan lower_plan
    (qx_plan-once count (union background first) first second parts.1 clear_second)
    (AsksOnly-weaker (GoesBeyond (union background first) first second) (IsWithin first) (FindsWithin second) (FindsWithin second) upper_plan
    (λ set g i m. g.has i (union-has background first i (Contains-append_right background first i m))) (λ set f. f)
    (qx_plan-beyond count (union background first) first second))
    (λ upper of_second. AsksOnce-found (qx_plan count (union background upper) upper first) (λ lower. union lower upper) (qx_plan-once count (union background upper) upper first parts.0 (clear_first upper of_second)))
    (λ upper of_second.
    AsksOnly-chain (λ other. ¬ IsWithin first other) (λ lower. Unit {0}) (λ kept. Unit {0}) (qx_plan count (union background upper) upper first) (λ lower. found (union lower upper))
    (AsksOnly-weaker (IsPartOf first) (λ other. ¬ IsWithin first other) (λ lower. Unit {0}) (λ lower. Unit {0}) (qx_plan count (union background upper) upper first)
    (λ set p. p.1) (λ lower u. tt)
    (qx_plan-part count (union background upper) upper first (λ i m. union-has background upper i (Contains-append_right background upper i m)) parts.0 (clear_first upper of_second)))
    (λ lower u. tt)))
  where
    whole : List ℕ
    whole = x ∷ y ∷ rest

    first : List ℕ
    first = lower_half whole

    second : List ℕ
    second = upper_half whole

    upper_plan : Plan
    upper_plan = qx_plan count (union background first) first second

    lower_plan : List ℕ → Plan
    lower_plan upper = chain (qx_plan count (union background upper) upper first) (λ lower. found (union lower upper))

    parts : Ascends first × Ascends second × AreBelow first second
    parts = Ascends-apart first second (rw halves-join h)

    clear_second : AreApart (union background first) second
    clear_second = clear-union background first second (λ i m n. clear i m (upper-within whole i n)) (apart-below first second parts.2)

    clear_first : (upper : List ℕ) → IsWithin upper second → AreApart (union background upper) first
    clear_first upper of_second = clear-union background upper first (λ i m n. clear i m (lower-within whole i n)) (λ i m n. apart-below first second parts.2 i n (of_second i m))
