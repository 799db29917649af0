-- QuickXplain asks a set that isn't empty, and not with all of its positions.
use Rattle.std.proofs.Common.{◌≡◌, ℕ, zero, suc, Bool, true, false, cond, List, [], ◌∷◌, ◌++◌, ⊎_elim}
use Rattle.std.specs.Prelude.{Contains}
use Rattle.std.proofs.lemmas.List.Elements.{Contains-append_left, Contains-append_right}
use Rattle.pref_sets.specs.Plan.{Plan, found, chain, AsksOnly}
use Rattle.pref_sets.specs.Positions.{union, lower_half, upper_half}
use Rattle.pref_sets.specs.Preferred.{IsWithin}
use Rattle.pref_sets.proofs.QuickXplainPlan.{unsat_plan, qx_plan, qx_plan-within}
use Rattle.pref_sets.proofs.Plans.{AsksOnly-chain}
use Rattle.pref_sets.proofs.PlansLeft.{AsksOnly-weaker, AsksOnly-and}
use Rattle.pref_sets.proofs.AscendingPositions.{Ascends, Ascends-apart, AreBelow, AreApart, apart-below, union-has, union-cases, halves-join, lower-within, upper-within}
use Rattle.lists.proofs.Members.{first as contains_first, none as contains_none}

-- the set has a member, and not all of the positions
abbrev pub IsPartOf : List ℕ → List ℕ → Type 0
IsPartOf positions set = ((x : ℕ) × Contains set x) × (¬ IsWithin positions set)

pub IsPartOf-proper : (positions asked : List ℕ) → IsPartOf positions asked → (¬ asked ≡ []) × (¬ asked ≡ positions)
IsPartOf-proper positions asked p = ((λ empty. contains_none p.0.0 (rw empty at p.0.1)), (λ all. p.1 (λ i m. rw all m)))

-- what has not all of some of the positions has not all of them
of_half : (half positions set : List ℕ) → IsWithin half positions → IsPartOf half set → IsPartOf positions set
of_half half positions set inside p = (p.0, λ all. p.1 (λ i m. all i (inside i m)))

unsat_plan-part : (background added : List ℕ) (x : ℕ) (rest : List ℕ) (left : Plan) → IsWithin added background → AreApart background (x ∷ rest) → AsksOnly (IsPartOf (x ∷ rest)) (λ set. Unit {0}) left → AsksOnly (IsPartOf (x ∷ rest)) (λ set. Unit {0}) (unsat_plan background added left)
unsat_plan-part background [] x rest left inside clear h = h
unsat_plan-part background (y ∷ added) x rest left inside clear h =
    (((y, inside y (contains_first y added)), λ all. clear x (all x (contains_first x rest)) (contains_first x rest)), λ sat. either sat)
  where
    either : (sat : Bool) → AsksOnly (IsPartOf (x ∷ rest)) (λ set. Unit {0}) (cond sat left (found []))
    either true = h
    either false = tt

-- the background and some positions without those of another list
clear-union : (background more positions : List ℕ) → AreApart background positions → AreApart more positions → AreApart (union background more) positions
clear-union background more positions a b i m n = ⊎_elim (λ (l : Contains background i). a i l n) (λ (r : Contains more i). b i r n) (union-cases background more i m)

pub qx_plan-part : (count : ℕ) (background added positions : List ℕ) → IsWithin added background → Ascends positions → AreApart background positions → AsksOnly (IsPartOf positions) (λ set. Unit {0}) (qx_plan count background added positions)
qx_plan-part zero background added positions inside h clear = tt
qx_plan-part (suc count) background added [] inside h clear = tt
qx_plan-part (suc count) background added (x ∷ []) inside h clear = unsat_plan-part background added x [] (found (x ∷ [])) inside clear tt
qx_plan-part (suc count) background added (x ∷ y ∷ rest) inside h clear =
    let whole : List ℕ = x ∷ y ∷ rest in
    let first : List ℕ = lower_half whole in
    let second : List ℕ = upper_half whole in
    let parts : Ascends first × Ascends second × AreBelow first second = Ascends-apart first second (rw halves-join h) in
    let lower_plan : List ℕ → Plan = λ upper. chain (qx_plan count (union background upper) upper first) (λ lower. found (union lower upper)) in
    unsat_plan-part background added x (y ∷ rest) (chain (qx_plan count (union background first) first second) lower_plan) inside clear
    (AsksOnly-chain (IsPartOf whole) (λ upper. IsWithin upper second) (λ set. Unit {0}) (qx_plan count (union background first) first second) lower_plan
    (AsksOnly-weaker (λ set. IsPartOf second set × IsWithin set (union background first ++ second)) (IsPartOf whole) (λ upper. (Unit {0}) × IsWithin upper second) (λ upper. IsWithin upper second) (qx_plan count (union background first) first second)
    (λ set a. of_half second whole set (upper-within whole) a.0)
    (λ upper r. r.1)
    (AsksOnly-and (IsPartOf second) (λ set. IsWithin set (union background first ++ second)) (λ upper. Unit {0}) (λ upper. IsWithin upper second) (qx_plan count (union background first) first second)
    (qx_plan-part count (union background first) first second (λ i m. union-has background first i (Contains-append_right background first i m)) parts.1
    (clear-union background first second (λ i m n. clear i m (upper-within whole i n)) (apart-below first second parts.2)))
    (qx_plan-within (union background first ++ second) count (union background first) first second (λ i m. Contains-append_left (union background first) second i m) (λ i m. Contains-append_right (union background first) second i m))))
    (λ upper of_second.
    AsksOnly-chain (IsPartOf whole) (λ lower. Unit {0}) (λ set. Unit {0}) (qx_plan count (union background upper) upper first) (λ lower. found (union lower upper))
    (AsksOnly-weaker (IsPartOf first) (IsPartOf whole) (λ lower. Unit {0}) (λ lower. Unit {0}) (qx_plan count (union background upper) upper first)
    (λ set a. of_half first whole set (lower-within whole) a)
    (λ lower u. u)
    (qx_plan-part count (union background upper) upper first (λ i m. union-has background upper i (Contains-append_right background upper i m)) parts.0
    (clear-union background upper first (λ i m n. clear i m (lower-within whole i n)) (λ i m n. apart-below first second parts.2 i n (of_second i m)))))
    (λ lower u. tt)))
