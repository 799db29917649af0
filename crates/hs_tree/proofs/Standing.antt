-- The state is that of the tree over the told answers: from the start on, and after each answer.
use Rattle.std.proofs.Common.{◌≡◌, ℕ, ◌+◌, Bool, Option, Some, None, List, [], ◌∷◌, ◌++◌, map, refl, sym, ◌∙◌, ap, subst}
use Rattle.lists.proofs.Members.{first as contains_first, later as contains_later, none as contains_none}
use Rattle.pref_sets.specs.Answers.{Answer, Ask, IsAsking, IsToldInTurn, answer_to}
use Rattle.pref_sets.specs.AskedKey.{asked_key}
use Rattle.pref_sets.proofs.ToldInTurn.{IsToldInTurn-none, IsToldInTurn-push}
use Rattle.quick_xplain.specs.Explaining.{Explaining, next_of as label_next}
use Rattle.req_keys.specs.Key.{PositionSet, IsKey}
use Rattle.req_keys.specs.Wanting.{key_over}
use Rattle.hs_tree.specs.declared.found.Found.{Found}
use Rattle.hs_tree.specs.declared.levels.Level.{Level}
use Rattle.hs_tree.specs.declared.sets.Asking.{Asking}
use Rattle.hs_tree.specs.declared.sets.Asking.TheVariants as asking
use Rattle.hs_tree.specs.declared.state.State.{State}
use Rattle.hs_tree.specs.Hitting.{next_over}
use Rattle.hs_tree.specs.Tree.{Outcome, asks, ends, further, levels, tree, found_by, next_of}
use Rattle.hs_tree.specs.inside.Left.{IsHere, IsIn, IsOnlyLast, is_last, standing_at, place_at, from_place, behind, levels_behind, left}
use Rattle.hs_tree.specs.inside.Places.{at_place, sets_of}
use Rattle.hs_tree.specs.inside.Standing.{AsksSet, IsSound, Stands, wanted_by}
use Rattle.hs_tree.specs.inside.Steps.{standing}
use Rattle.hs_tree.specs.inside.Told.{AreOver, HasAll, answers_of}
use Rattle.hs_tree.proofs.AskedSets.{waiting-asks, HasAll-more}

-- a set is asked, with these diagnoses found so far
pub record AsksNow (told : List Answer) (state : State) (asking : Asking) (outcome : Outcome) : Type 0 where
  pub set : List ℕ
  pub asked : AsksSet asking set
  pub next : outcome ≡ asks (sets_of state.found.diagnoses) set
  pub new : answer_to told set ≡ None

module _ (first : PositionSet) (most : ℕ) (state : State) (h : Stands first most state) where
  over : tree first.n first.members most (answers_of state.told) ≡ left (answers_of state.told) state.level state.found state.asking
  over = h.goes (answers_of state.told) (λ set sat e. e)

  -- all is done
  pub stands-none : state.asking ≡ None → tree first.n first.members most (answers_of state.told) ≡ ends (standing_at state.level state.found)
  stands-none e =
      let last : state.level.left ≡ 0 = subst (IsOnlyLast state.level) e h.sound.last in
      over
      ∙ ap (left (answers_of state.told) state.level state.found) e
      ∙ ap (λ (k : ℕ). levels_behind state.level.n (answers_of state.told) k (standing_at state.level state.found)) last

  -- a set asks
  pub stands-some : (asking : Asking) → state.asking ≡ Some asking → AsksNow (answers_of state.told) state asking (tree first.n first.members most (answers_of state.told))
  stands-some asking e =
      let here = subst (IsHere (answers_of state.told) state.level state.found) e h.sound.here in
      let waits = waiting-asks state.level.n (answers_of state.told) (is_last state.level.left) (standing_at state.level state.found) (at_place (sets_of state.level.sets) (place_at state.level state.found)) asking here.0 in
      record {
        set = waits.0;
        asked = waits.1;
        next =
            over
            ∙ ap (left (answers_of state.told) state.level state.found) e
            ∙ ap (λ (o : Outcome). further (further o (λ after. from_place (answers_of state.told) state.level (place_at state.level state.found + 1) after)) (λ after. behind (answers_of state.told) state.level after)) waits.2;
        new = waits.3;
      }

  -- the set that is asked, where one is
  pub asked-of : IsAsking (next_over first most (answers_of state.told)) → (asking : Asking) × (state.asking ≡ Some asking) × (set : List ℕ) × AsksSet asking set × (next_over first most (answers_of state.told) ≡ Ask set)
  asked-of wants = case state.asking refl
    where
      case : (asking : Option Asking) → state.asking ≡ asking → (asking : Asking) × (state.asking ≡ Some asking) × (set : List ℕ) × AsksSet asking set × (next_over first most (answers_of state.told) ≡ Ask set)
      case None e = absurd (subst IsAsking (ap next_of (stands-none e)) wants)
      case (Some asking) e = let a = stands-some asking e in (asking, e, a.set, a.asked, ap next_of a.next)

  -- the label's key is wanted
  pub want-label : (label : Explaining) → state.asking ≡ Some (asking.Label label) → asked_key label.among.n (label_next label) ≡ asked_key first.n (next_over first most (answers_of state.told))
  want-label label e =
      let a = stands-some (asking.Label label) e in
      let here = subst (IsHere (answers_of state.told) state.level state.found) e h.sound.here in
      ap (asked_key label.among.n) a.asked
      ∙ ap (λ (n : ℕ). asked_key n (Ask a.set)) (here.0.0.number ∙ h.number)
      ∙ sym (ap (λ (o : Outcome). asked_key first.n (next_of o)) a.next)

  want-rest : (rest : PositionSet) → state.asking ≡ Some (asking.Rest rest) → Some rest ≡ asked_key first.n (next_over first most (answers_of state.told))
  want-rest rest e =
      let a = stands-some (asking.Rest rest) e in
      let here = subst (IsHere (answers_of state.told) state.level state.found) e h.sound.here in
      let key : rest ≡ key_over first.n a.set = (λ i. key_over ((here.0.0.number ∙ h.number) i) (a.asked i)) in
      ap (λ (k : PositionSet). Some k) key ∙ sym (ap (λ (o : Outcome). asked_key first.n (next_of o)) a.next)

  pub want-some : (asking : Asking) → state.asking ≡ Some asking → wanted_by asking ≡ asked_key first.n (next_over first most (answers_of state.told))
  want-some (asking.Rest rest) e = want-rest rest e
  want-some (asking.Label label) e = want-label label e

  pub want-none : state.asking ≡ None → None ≡ asked_key first.n (next_over first most (answers_of state.told))
  want-none e = sym (ap (λ (o : Outcome). asked_key first.n (next_of o)) (stands-none e))

  found-sets : found_by (tree first.n first.members most (answers_of state.told)) ≡ sets_of state.found.diagnoses
  found-sets = case state.asking refl
    where
      case : (asking : Option Asking) → state.asking ≡ asking → found_by (tree first.n first.members most (answers_of state.told)) ≡ sets_of state.found.diagnoses
      case None e = ap found_by (stands-none e)
      case (Some asking) e = ap found_by (stands-some asking e).next

  keys-again : (n : ℕ) (keys : List PositionSet) → AreOver n keys → keys ≡ map (key_over n) (sets_of keys)
  keys-again n [] all = refl
  keys-again n (key ∷ keys) all =
      let one : key ≡ key_over n key.members = ap (λ (m : ℕ). key_over m key.members) (all key (contains_first key keys)).number in
      ap (λ (k : PositionSet). k ∷ keys) one ∙ ap (λ (rest : List PositionSet). key_over n key.members ∷ rest) (keys-again n keys (λ k m. all k (contains_later key keys k m)))

  -- the found diagnoses are those of the tree
  pub found-keys : state.found.diagnoses ≡ map (key_over first.n) (found_by (tree first.n first.members most (answers_of state.told)))
  found-keys =
      keys-again first.n state.found.diagnoses (subst (λ (n : ℕ). AreOver n state.found.diagnoses) h.number h.sound.inside.sound.diagnoses)
      ∙ ap (map (key_over first.n)) (sym found-sets)

  -- one more answer is told
  pub stands-told : (new : State) (sat : Bool) → IsAsking (next_over first most (answers_of state.told)) → IsSound new →
      ((asking : Asking) (set : List ℕ) → state.asking ≡ Some asking → AsksSet asking set → answers_of new.told ≡ answers_of state.told ++ record { set = set; sat = sat } ∷ []) →
      new.level.n ≡ state.level.n →
      ((table : List Answer) → HasAll (answers_of new.told) table → left table state.level state.found state.asking ≡ left table new.level new.found new.asking) → Stands first most new
  stands-told new sat wants sound told_now n goes =
      let a = asked-of wants in
      let answer : Answer = record { set = a.2; sat = sat } in
      let more : answers_of new.told ≡ answers_of state.told ++ answer ∷ [] = told_now a.0 a.2 a.1 a.3 in
      record {
        key = h.key;
        number = n ∙ h.number;
        sound = sound;
        turns = subst (IsToldInTurn (next_over first most) []) (sym more) (IsToldInTurn-push (next_over first most) [] (answers_of state.told) answer h.turns a.4);
        goes = λ table has.
            h.goes table (λ set s e. has set s (subst (λ (answers : List Answer). answer_to answers set ≡ Some s) (sym more) (HasAll-more (answers_of state.told) (answer ∷ []) set s e)))
            ∙ goes table has;
      }

-- nothing is told
pub stands-start : (first : PositionSet) (most : ℕ) (before found : Found) (start level : Level) (asking : Option Asking) → IsKey first → start.n ≡ first.n → start.left ≡ most → sets_of start.sets ≡ [] ∷ [] → before.diagnoses ≡ [] → before.conflicts ≡ first ∷ [] → IsIn level found → IsHere [] level found asking → IsOnlyLast level asking → level.n ≡ start.n →
    ((table : List Answer) → HasAll [] table → levels start.n table start.left (sets_of start.sets) (standing before []) ≡ left table level found asking) → Stands first most (record { told = []; found = found; level = level; asking = asking })
stands-start first most before found start level asking key n left_is sets none one inside here last same goes = record {
  key = key;
  number = same ∙ n;
  sound = record { over = λ answer m. absurd (contains_none answer m); inside = inside; here = here; last = last };
  turns = IsToldInTurn-none (next_over first most) [];
  goes = λ table has.
      let at : ℕ → ℕ → List (List ℕ) → List PositionSet → List PositionSet → Outcome = λ k more level_sets diagnoses conflicts. levels k table more level_sets (record { found = sets_of diagnoses; known = sets_of conflicts; next = [] }) in
      sym (ap (λ (k : ℕ). at k start.left (sets_of start.sets) before.diagnoses before.conflicts) n
      ∙ ap (λ (more : ℕ). at first.n more (sets_of start.sets) before.diagnoses before.conflicts) left_is
      ∙ ap (λ (s : List (List ℕ)). at first.n most s before.diagnoses before.conflicts) sets
      ∙ ap (λ (d : List PositionSet). at first.n most ([] ∷ []) d before.conflicts) none
      ∙ ap (λ (k : List PositionSet). at first.n most ([] ∷ []) [] k) one)
      ∙ goes table has;
}
