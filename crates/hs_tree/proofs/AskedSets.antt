-- The set that a state asks, and what holds of it when its answer is told.
use Rattle.std.proofs.Common.{◌≡◌, ℕ, Bool, Option, None, List, [], ◌∷◌, ◌++◌, length, refl, sym, ◌∙◌, ap, subst, ⊎_elim}
use Rattle.std.specs.Prelude.{Contains}
use Rattle.std.proofs.lemmas.List.{map-append}
use Rattle.std.proofs.lemmas.List.Elements.{Contains-append_cases}
use Rattle.lists.proofs.Members.{none as contains_none, first_or_later}
use Rattle.pref_sets.specs.Answers.{Answer, Ask, answer_to}
use Rattle.pref_sets.specs.QuickXplain.{qx}
use Rattle.pref_sets.proofs.Plans.{answer_to-told, over-more_asked}
use Rattle.pref_sets.proofs.PlansLeft.{AsksOnly-any}
use Rattle.pref_sets.proofs.QuickXplainPlan.{qx_plan, qx_part-plan}
use Rattle.hs_tree.specs.declared.found.Found.{Found}
use Rattle.hs_tree.specs.declared.levels.Level.{Level}
use Rattle.hs_tree.specs.declared.sets.Asking.{Asking}
use Rattle.hs_tree.specs.declared.sets.Asking.TheVariants as asking
use Rattle.hs_tree.specs.declared.state.State.{State}
use Rattle.hs_tree.specs.declared.told.ToldAnswer.{ToldAnswer}
use Rattle.hs_tree.specs.Tree.{asks, Standing, by_label}
use Rattle.hs_tree.specs.inside.Left.{IsHere, IsIn, IsOnlyLast}
use Rattle.hs_tree.specs.inside.Standing.{AsksSet, IsSound, IsWaitingFor}
use Rattle.hs_tree.specs.inside.Steps.{IsAsked, waiting}
use Rattle.hs_tree.specs.inside.Told.{AreToldOver, HasAll, answer_of, answers_of}

pub qx-more_asked : (positions : List ℕ) (table other : List Answer) (set : List ℕ) → HasAll table other → answer_to other set ≡ None → qx positions table ≡ Ask set → qx positions other ≡ Ask set
qx-more_asked positions table other set more none e =
    qx_part-plan (length positions) other [] [] positions
    ∙ over-more_asked (λ asked. Unit {0}) (λ kept. Unit {0}) table other (λ asked sat u k. more asked sat k)
    (qx_plan (length positions) [] [] positions)
    (AsksOnly-any (λ asked. Unit {0}) (qx_plan (length positions) [] [] positions) (λ asked. tt)) set
    (sym (qx_part-plan (length positions) table [] [] positions) ∙ e) none

-- a set that waits asks this set, over what was told
pub waiting-asks : (n : ℕ) (told : List Answer) (last : Bool) (s : Standing) (here : List ℕ) (asking : Asking) → IsAsked n told asking → (set : List ℕ) × AsksSet asking set × (waiting told last s here asking ≡ asks s.found set) × (answer_to told set ≡ None)
waiting-asks n told last s here (asking.Rest rest) h = (rest.members, refl, rw h.1 refl, h.1)
waiting-asks n told last s here (asking.Label label) h =
    let same : qx label.among.members told ≡ Ask h.1.0 = qx-more_asked label.among.members label.told told h.1.0 h.0.known h.1.2 h.1.1 in
    (h.1.0, h.1.1, ap (by_label s here) same, h.1.2)

pub asked-set : (n : ℕ) (told : List Answer) (asking : Asking) → IsAsked n told asking → (set : List ℕ) × AsksSet asking set
asked-set n told (asking.Rest rest) h = (rest.members, refl)
asked-set n told (asking.Label label) h = (h.1.0, h.1.1)

pub waiting-from : (n : ℕ) (told : List Answer) (asking : Asking) → IsAsked n told asking → IsWaitingFor n told asking
waiting-from n told (asking.Rest rest) h = h.0
waiting-from n told (asking.Label label) h = h.0

pub waiting-more : (n : ℕ) (told more : List Answer) (asking : Asking) → HasAll told more → IsWaitingFor n told asking → IsWaitingFor n more asking
waiting-more n told more (asking.Rest rest) has h = h
waiting-more n told more (asking.Label label) has h = record { number = h.number; known = λ set sat e. has set sat (h.known set sat e) }

pub answers-push : (told : List ToldAnswer) (answer : ToldAnswer) → answers_of (told ++ answer ∷ []) ≡ answers_of told ++ answer_of answer ∷ []
answers-push told answer = map-append answer_of told (answer ∷ [])

pub HasAll-more : (told more : List Answer) → HasAll told (told ++ more)
HasAll-more told more set sat e = answer_to-told told more set sat e

pub told-push : (n : ℕ) (told : List ToldAnswer) (answer : ToldAnswer) → AreToldOver n told → answer.key.n ≡ n → AreToldOver n (told ++ answer ∷ [])
told-push n told answer h e one m =
    ⊎_elim
    (λ (l : Contains told one). h one l)
    (λ (r : Contains (answer ∷ []) one). ⊎_elim (λ (same : answer ≡ one). subst (λ (a : ToldAnswer). a.key.n ≡ n) same e) (λ (l : Contains [] one). absurd (contains_none one l)) (first_or_later answer [] one r))
    (Contains-append_cases told (answer ∷ []) one m)

pub sound-after : (state : State) (told : List ToldAnswer) (found : Found) (level : Level) (asking : Option Asking) → state.told ≡ told → state.found ≡ found → state.level ≡ level → state.asking ≡ asking → AreToldOver level.n told → IsIn level found → IsHere (answers_of told) level found asking → IsOnlyLast level asking → IsSound state
sound-after state told found level asking t f l a over inside here last =
    let parts : State = record { told = told; found = found; level = level; asking = asking } in
    let same : parts ≡ state = λ i. record { told = sym t i; found = sym f i; level = sym l i; asking = sym a i } in
    let sound : IsSound parts = record { over = over; inside = inside; here = here; last = last } in
    subst IsSound same sound
