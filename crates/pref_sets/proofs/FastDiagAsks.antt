-- FastDiag asks a set with some of its positions, and not with all of them where these are known to be Unsat.
use Rattle.std.proofs.Common.{◌≡◌, ℕ, zero, suc, ◌<◌, Bool, true, false, cond, List, [], ◌∷◌, ◌++◌, length, refl, ⊎_elim, arith}
use Rattle.std.specs.Prelude.{Contains}
use Rattle.std.proofs.lemmas.Bool.{cases_Bool}
use Rattle.std.proofs.lemmas.List.Elements.{Contains-append_left, Contains-append_right, Contains-append_cases}
use Rattle.std.proofs.lemmas.Slice.Eq.{bytes_eq-Decides}
use Rattle.pref_sets.specs.Answers.{same_set}
use Rattle.pref_sets.specs.Plan.{Plan, found, chain, AsksOnly}
use Rattle.pref_sets.specs.Positions.{union, lower_half, upper_half}
use Rattle.pref_sets.specs.Preferred.{IsWithin}
use Rattle.pref_sets.proofs.FastDiagPlan.{sat_plan, fd_plan, fd_plan-within, fd_plan-ascends}
use Rattle.pref_sets.proofs.Plans.{AsksOnly-chain}
use Rattle.pref_sets.proofs.PlansLeft.{AsksOnly-weaker, AsksOnly-and}
use Rattle.pref_sets.proofs.AscendingPositions.{Ascends, Ascends-apart, AreBelow, Ascends-same, AreApart, apart-below, member-of_some, union-has, union-cases, halves-join, halves-length}
use Rattle.lists.proofs.Members.{first as contains_first, none as contains_none}

-- the set has one of the positions
abbrev pub HasSome : List ℕ → List ℕ → Type 0
HasSome positions set = (x : ℕ) × Contains positions x × Contains set x

-- the set has one of the positions, and not all of them
abbrev pub HasPart : List ℕ → List ℕ → Type 0
HasPart positions set = HasSome positions set × (¬ IsWithin positions set)

-- the set has one of the positions, and not all of them where that is known to be Unsat
abbrev pub AsksPart : List ℕ → Bool → List ℕ → Type 0
AsksPart positions known set = HasSome positions set × (known ≡ true → ¬ IsWithin positions set)

pub AsksPart-proper : (positions asked : List ℕ) → AsksPart positions true asked → (¬ asked ≡ []) × (¬ asked ≡ positions)
AsksPart-proper positions asked p = ((λ empty. contains_none p.0.0 (rw empty at p.0.2)), (λ all. p.1 refl (λ i m. rw all m)))

sat_plan-part : (x : ℕ) (rest background : List ℕ) (known : Bool) (left : Plan) → AsksOnly (HasPart (x ∷ rest)) (λ set. Unit {0}) left → AsksOnly (AsksPart (x ∷ rest) known) (λ set. Unit {0}) (sat_plan (x ∷ rest) background known left)
sat_plan-part x rest background true left h = AsksOnly-weaker (HasPart (x ∷ rest)) (AsksPart (x ∷ rest) true) (λ set. Unit {0}) (λ set. Unit {0}) left (λ set p. (p.0, λ _. p.1)) (λ set u. u) h
sat_plan-part x rest background false left h =
    (((x, contains_first x rest, union-has background (x ∷ rest) x (Contains-append_right background (x ∷ rest) x (contains_first x rest))), λ e. absurd (cc)), λ sat. either sat)
  where
    either : (sat : Bool) → AsksOnly (AsksPart (x ∷ rest) false) (λ set. Unit {0}) (cond sat (found (x ∷ rest)) left)
    either true = tt
    either false = AsksOnly-weaker (HasPart (x ∷ rest)) (AsksPart (x ∷ rest) false) (λ set. Unit {0}) (λ set. Unit {0}) left (λ set p. (p.0, λ e. absurd (cc))) (λ set u. u) h

-- two halves that ascend, behind a background without their positions
module _ (first second background : List ℕ) (rises : Ascends first) (below : AreBelow first second) (clear : AreApart background (first ++ second)) (some : 0 < length second) where
  clear-first : AreApart background first
  clear-first i m n = clear i m (Contains-append_left first second i n)

  clear-second : (lower : List ℕ) → IsWithin lower first → AreApart (union background lower) second
  clear-second lower inside i m n =
      ⊎_elim
      (λ (l : Contains background i). clear i l (Contains-append_right first second i n))
      (λ (r : Contains lower i). apart-below first second below i (inside i r) n)
      (union-cases background lower i m)

  -- a set of the first half and the background lacks one of the second
  first-part : (set : List ℕ) → HasSome first set → IsWithin set (background ++ first) → HasPart (first ++ second) set
  first-part set has inside = (
    (has.0, Contains-append_left first second has.0 has.1, has.2),
    (λ all.
        let y : (y : ℕ) × Contains second y = member-of_some second some in
        ⊎_elim
        (λ (l : Contains background y.0). clear y.0 l (Contains-append_right first second y.0 y.1))
        (λ (r : Contains first y.0). apart-below first second below y.0 r y.1)
        (Contains-append_cases background first y.0 (inside y.0 (all y.0 (Contains-append_right first second y.0 y.1))))),
  )

  -- a set of the second half, the background and what is kept of the first half lacks one of the two
  second-part : (lower set : List ℕ) → IsWithin lower first → Ascends lower → AsksPart second (same_set lower first) set → IsWithin set (union background lower ++ second) → HasPart (first ++ second) set
  second-part lower set of_first ascends part inside = (
    (part.0.0, Contains-append_right first second part.0.0 part.0.1, part.0.2),
    (λ all.
        ⊎_elim
        (λ (known : same_set lower first ≡ true). part.1 known (λ i m. all i (Contains-append_right first second i m)))
        (λ (other : same_set lower first ≡ false).
        let back : IsWithin first lower = λ i m.
        ⊎_elim
        (λ (l : Contains (union background lower) i).
        ⊎_elim
        (λ (b : Contains background i). absurd (clear i b (Contains-append_left first second i m)))
        (λ (k : Contains lower i). k)
        (union-cases background lower i l))
        (λ (r : Contains second i). absurd (apart-below first second below i m r))
        (Contains-append_cases (union background lower) second i (inside i (all i (Contains-append_left first second i m)))) in
        let same : lower ≡ first = Ascends-same lower first ascends rises of_first back in
        let yes : same_set lower first ≡ true = (bytes_eq-Decides lower first).1 same in
        absurd (cc))
        (cases_Bool (same_set lower first))),
  )

pub fd_plan-part : (count : ℕ) (positions background : List ℕ) (known : Bool) → Ascends positions → AreApart background positions → AsksOnly (AsksPart positions known) (λ set. Unit {0}) (fd_plan count positions background known)
fd_plan-part zero positions background known h clear = tt
fd_plan-part (suc count) [] background known h clear = tt
fd_plan-part (suc count) (x ∷ []) background known h clear = sat_plan-part x [] background known (found []) tt
fd_plan-part (suc count) (x ∷ y ∷ rest) background known h clear =
    let whole : List ℕ = x ∷ y ∷ rest in
    let first : List ℕ = lower_half whole in
    let second : List ℕ = upper_half whole in
    let sizes : (0 < length (lower_half whole)) × (0 < length (upper_half whole)) × _ = halves-length whole (omega arith) in
    let parts : Ascends first × Ascends second × AreBelow first second = Ascends-apart first second (rw halves-join h) in
    let clear_halves : AreApart background (first ++ second) = rw halves-join clear in
    let upper_plan : List ℕ → Plan = λ lower. chain (fd_plan count second (union background lower) (same_set lower first)) (λ upper. found (union lower upper)) in
    sat_plan-part x (y ∷ rest) background known (chain (fd_plan count first background false) upper_plan)
    (rw halves-join at
    (AsksOnly-chain (HasPart (first ++ second)) (λ lower. IsWithin lower first × Ascends lower) (λ set. Unit {0}) (fd_plan count first background false) upper_plan
    (AsksOnly-weaker (λ set. AsksPart first false set × (IsWithin set (background ++ first) × Ascends set)) (HasPart (first ++ second)) (λ lower. (Unit {0}) × (IsWithin lower first × Ascends lower)) (λ lower. IsWithin lower first × Ascends lower) (fd_plan count first background false)
    (λ set a. first-part first second background parts.0 parts.2 clear_halves sizes.1 set a.0.0 a.1.0)
    (λ lower r. r.1)
    (AsksOnly-and (AsksPart first false) (λ set. IsWithin set (background ++ first) × Ascends set) (λ lower. Unit {0}) (λ lower. IsWithin lower first × Ascends lower) (fd_plan count first background false)
    (fd_plan-part count first background false parts.0 (clear-first first second background parts.0 parts.2 clear_halves sizes.1))
    (AsksOnly-and (λ set. IsWithin set (background ++ first)) Ascends (λ lower. IsWithin lower first) Ascends (fd_plan count first background false)
    (fd_plan-within (background ++ first) count first background false (λ i m. Contains-append_left background first i m) (λ i m. Contains-append_right background first i m))
    (fd_plan-ascends count first background false parts.0))))
    (λ lower r.
    AsksOnly-chain (HasPart (first ++ second)) (λ upper. Unit {0}) (λ set. Unit {0}) (fd_plan count second (union background lower) (same_set lower first)) (λ upper. found (union lower upper))
    (AsksOnly-weaker (λ set. AsksPart second (same_set lower first) set × IsWithin set (union background lower ++ second)) (HasPart (first ++ second)) (λ upper. (Unit {0}) × IsWithin upper second) (λ upper. Unit {0}) (fd_plan count second (union background lower) (same_set lower first))
    (λ set a. second-part first second background parts.0 parts.2 clear_halves sizes.1 lower set r.0 r.1 a.0 a.1)
    (λ upper u. tt)
    (AsksOnly-and (AsksPart second (same_set lower first)) (λ set. IsWithin set (union background lower ++ second)) (λ upper. Unit {0}) (λ upper. IsWithin upper second) (fd_plan count second (union background lower) (same_set lower first))
    (fd_plan-part count second (union background lower) (same_set lower first) parts.1 (clear-second first second background parts.0 parts.2 clear_halves sizes.1 lower r.0))
    (fd_plan-within (union background lower ++ second) count second (union background lower) (same_set lower first) (λ i m. Contains-append_left (union background lower) second i m) (λ i m. Contains-append_right (union background lower) second i m))))
    (λ upper u. tt))))
