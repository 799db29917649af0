-- One set of a level: its rest, QuickXplain over more answers, and what is found.
use Rattle.std.proofs.Common.{◌≡◌, ℕ, Bool, true, false, ◌&&◌, Option, Some, None, List, [], ◌∷◌, ◌++◌, length, refl, sym, ◌∙◌, ap, subst, ⊎_elim, arith}
use Rattle.std.specs.Prelude.{not}
use Rattle.std.specs.List.{range_with_len}
use Rattle.std.specs.Cmp.Lexicographic.{pointwise}
use Rattle.std.proofs.Common.{eqb}
use Rattle.std.proofs.lemmas.Bool.{cases_Bool}
use Rattle.std.proofs.lemmas.Slice.Eq.{bytes_eq-Decides}
use Rattle.lists.proofs.Members.{none as contains_none}
use Rattle.pref_sets.specs.Answers.{Answer, Next, Ask, Done, answer_to}
use Rattle.pref_sets.specs.AskedKey.{asked_key}
use Rattle.pref_sets.specs.Preferred.{IsWithin}
use Rattle.pref_sets.specs.QuickXplain.{qx}
use Rattle.pref_sets.proofs.AscendingPositions.{Ascends}
use Rattle.pref_sets.proofs.Plans.{answer_to-told, answer_to-beyond, AsksOnly-found, over-more_found}
use Rattle.pref_sets.proofs.PlansLeft.{AsksOnly-any}
use Rattle.pref_sets.proofs.QuickXplainPlan.{qx_plan, qx_part-plan, qx_plan-within, qx_plan-ascends}
use Rattle.pref_sets.proofs.RisingPositions.{Ascends-from_rises, rises-from_Ascends}
use Rattle.req_keys.specs.Key.{PositionSet, IsKey, difference_of, full_key}
use Rattle.req_keys.specs.Positions.{has}
use Rattle.req_keys.specs.Wanting.{key_over}
use Rattle.req_keys.proofs.MemberLaws.{has-from_Contains}
use Rattle.req_keys.proofs.PositionsLaws.{filter-range_agree, RiseWithin-filter_range}
use Rattle.req_keys.proofs.Rises.{members-within}
use Rattle.hs_tree.specs.Tree.{without}
use Rattle.hs_tree.specs.inside.Told.{IsOver, HasAll}
use Rattle.hs_tree.proofs.PositionSets.{in-range}

and-true : (a b : Bool) → a ≡ true → (a && b) ≡ b
and-true true b e = refl
and-true false b e = absurd (cc)

-- all positions but those of a set
pub rest-key : (set : PositionSet) → difference_of (full_key set.n) set ≡ key_over set.n (without set.n set.members)
rest-key set =
    ap (key_over set.n)
    (filter-range_agree (λ i. has (range_with_len 1 set.n) i && not (has set.members i)) (λ i. not (has set.members i)) 1 set.n
    (λ i low high. and-true (has (range_with_len 1 set.n) i) (not (has set.members i)) (has-from_Contains (range_with_len 1 set.n) i (in-range set.n i (omega arith) (omega arith)))))

pub rest-over : (set : PositionSet) → IsKey set → IsOver set.n (key_over set.n (without set.n set.members))
rest-over set key = record { number = refl; key = (key.0, RiseWithin-filter_range (λ i. not (has set.members i)) 1 set.n 0 set.n (omega arith) (omega arith)) }

-- one more answer that the table has
pub HasAll-push : (told table : List Answer) (answer : Answer) → HasAll told table → answer_to table answer.set ≡ Some answer.sat → HasAll (told ++ answer ∷ []) table
HasAll-push told table answer h here set sat e = case (answer_to told set) refl
  where
    case : (old : Option Bool) → answer_to told set ≡ old → answer_to table set ≡ Some sat
    case (Some other) known = let same : Some other ≡ Some sat = sym (answer_to-told told (answer ∷ []) set other known) ∙ e in h set sat (known ∙ same)
    case None none =
        let last : answer_to (answer ∷ []) set ≡ Some sat = sym (answer_to-beyond told (answer ∷ []) set none) ∙ e in
        ⊎_elim
        (λ (same : pointwise eqb answer.set set ≡ true).
        let one : answer.set ≡ set = (bytes_eq-Decides answer.set set).0 same in
        let some : Some answer.sat ≡ Some sat = rw same at last in
        subst (λ (x : List ℕ). answer_to table x ≡ Some sat) one (here ∙ some))
        (λ (other : pointwise eqb answer.set set ≡ false). let none : None ≡ Some sat = rw other at last in absurd (cc))
        (cases_Bool (pointwise eqb answer.set set))

-- what QuickXplain finds over some answers it finds over more
pub qx-more : (positions : List ℕ) (table other : List Answer) (set : List ℕ) → HasAll table other → qx positions table ≡ Done set → qx positions other ≡ Done set
qx-more positions table other set more e =
    qx_part-plan (length positions) other [] [] positions
    ∙ over-more_found (λ asked. Unit {0}) (λ kept. Unit {0}) table other (λ asked sat u k. more asked sat k)
    (qx_plan (length positions) [] [] positions)
    (AsksOnly-any (λ asked. Unit {0}) (qx_plan (length positions) [] [] positions) (λ asked. tt)) set
    (sym (qx_part-plan (length positions) table [] [] positions) ∙ e)

-- what it finds is a key
pub qx-key : (among : PositionSet) (table : List Answer) (set : List ℕ) → IsKey among → qx among.members table ≡ Done set → IsOver among.n (key_over among.n set)
qx-key among table set key e =
    let positions : List ℕ = among.members in
    let rises : Ascends positions = Ascends-from_rises 0 among.n positions key.1 in
    let done = sym (qx_part-plan (length positions) table [] [] positions) ∙ e in
    let within : IsWithin set positions =
    AsksOnly-found (λ asked. IsWithin asked positions) (λ kept. IsWithin kept positions) table (qx_plan (length positions) [] [] positions)
    (qx_plan-within positions (length positions) [] [] positions (λ i m. absurd (contains_none i m)) (λ i m. m)) set done in
    let ascends : Ascends set =
    AsksOnly-found Ascends Ascends table (qx_plan (length positions) [] [] positions) (qx_plan-ascends (length positions) [] [] positions tt rises) set done in
    record { number = refl; key = (key.0, rises-from_Ascends 0 among.n set ascends (λ y m. members-within 0 among.n positions key.1 y (within y m))) }

-- a state that asks for no key is done
pub done-from : (n : ℕ) (next : Next) → None ≡ asked_key n next → (set : List ℕ) × (next ≡ Done set)
done-from n (Ask set) e = absurd (cc)
done-from n (Done set) e = (set, refl)

pub ask-from : (n : ℕ) (next : Next) (key : PositionSet) → Some key ≡ asked_key n next → (set : List ℕ) × (next ≡ Ask set) × (key ≡ key_over n set)
ask-from n (Ask set) key e = (set, refl, cc)
ask-from n (Done set) key e = absurd (cc)
