-- One thing more is found.
use Rattle.std.proofs.Common.{◌≡◌, eqb, ℕ, ◌+◌, ◌<◌, Bool, false, Option, Some, None, List, [], ◌∷◌, ◌++◌, length, refl, sym, ◌∙◌, ap, subst, ⊎_elim, arith, length-append}
use Rattle.std.specs.Prelude.{Contains, MatchOption}
use Rattle.std.proofs.Math.Seq.{get_or-append_seam}
use Rattle.std.proofs.lemmas.List.{length-map, map-append}
use Rattle.std.proofs.lemmas.List.Elements.{Contains-append_cases}
use Rattle.lists.proofs.Members.{none as contains_none, first_or_later}
use Rattle.pref_sets.specs.Answers.{Answer, Done, answer_to}
use Rattle.pref_sets.specs.QuickXplain.{qx}
use Rattle.req_keys.specs.Key.{PositionSet, IsKey}
use Rattle.req_keys.specs.Wanting.{key_over}
use Rattle.hs_tree.specs.declared.found.Found.{Found}
use Rattle.hs_tree.specs.declared.sets.Asking.{Asking}
use Rattle.hs_tree.specs.Tree.{Outcome, ends, Standing, with_children, by_label}
use Rattle.hs_tree.specs.inside.Places.{at_place, sets_of}
use Rattle.hs_tree.specs.inside.Steps.{IsAsked, IsFound, IsSetDone, IsSetWaiting, standing, from_rest, from_label, with_made}
use Rattle.hs_tree.specs.inside.Told.{IsOver, AreOver, HasAll}
use Rattle.hs_tree.proofs.SetSteps.{qx-more, qx-key}

over-push : (n : ℕ) (keys : List PositionSet) (key : PositionSet) → AreOver n keys → IsOver n key → AreOver n (keys ++ key ∷ [])
over-push n keys key h k one m =
    ⊎_elim
    (λ (l : Contains keys one). h one l)
    (λ (r : Contains (key ∷ []) one). ⊎_elim (λ (e : key ≡ one). subst (IsOver n) e k) (λ (l : Contains [] one). absurd (contains_none one l)) (first_or_later key [] one r))
    (Contains-append_cases keys (key ∷ []) one m)

labels-push : (labels : List (Option ℕ)) (label : Option ℕ) (size more : ℕ) → ((place : ℕ) → Contains labels (Some place) → place < size) → ((place : ℕ) → label ≡ Some place → place < more) → size ≡ more → (place : ℕ) → Contains (labels ++ label ∷ []) (Some place) → place < more
labels-push labels label size more h k l place m =
    ⊎_elim
    (λ (o : Contains labels (Some place)). let old : place < size = h place o in omega arith)
    (λ (r : Contains (label ∷ []) (Some place)). ⊎_elim (λ (e : label ≡ Some place). k place e) (λ (n : Contains [] (Some place)). absurd (contains_none (Some place) n)) (first_or_later label [] (Some place) r))
    (Contains-append_cases labels (label ∷ []) (Some place) m)

labels-more : (labels : List (Option ℕ)) (label : Option ℕ) (size more : ℕ) → ((place : ℕ) → Contains labels (Some place) → place < size) → size < more → (place : ℕ) → Contains labels (Some place) → place < more
labels-more labels label size more h l place m = let old : place < size = h place m in omega arith

sets-push : (keys : List PositionSet) (key : PositionSet) → sets_of (keys ++ key ∷ []) ≡ sets_of keys ++ key.members ∷ []
sets-push keys key = map-append (λ (k : PositionSet). k.members) keys (key ∷ [])

place-push : (keys : List PositionSet) (key : PositionSet) → at_place (sets_of (keys ++ key ∷ [])) (length keys) ≡ key.members
place-push keys key =
    let members : PositionSet → List ℕ = λ k. k.members in
    ap (λ (sets : List (List ℕ)). at_place sets (length keys)) (sets-push keys key)
    ∙ ap (λ (i : ℕ). at_place (sets_of keys ++ key.members ∷ []) i) (sym (length-map keys members))
    ∙ get_or-append_seam (sets_of keys) key.members [] []

-- the label of a set is made
module _ (n : ℕ) (told : List Answer) (old : Found) (among : PositionSet) (label_told : List Answer) (conflict : PositionSet) (set : List ℕ) (found : IsFound n old) (number : among.n ≡ n) (key : IsKey among) (known : HasAll label_told told) (done : qx among.members label_told ≡ Done set) (is : conflict ≡ key_over among.n set) where
  pub made-found : IsFound n (with_made old conflict)
  made-found = record {
    diagnoses = found.diagnoses;
    conflicts = over-push n old.conflicts conflict found.conflicts (subst (λ (m : ℕ). IsOver m conflict) number (subst (IsOver among.n) (sym is) (qx-key among label_told set key done)));
    labels =
        let longer : length (old.conflicts ++ conflict ∷ []) ≡ length old.conflicts + 1 = length-append old.conflicts (conflict ∷ []) in
        labels-push old.labels (Some (length old.conflicts)) (length (old.conflicts ++ conflict ∷ [])) (length (old.conflicts ++ conflict ∷ []))
        (labels-more old.labels None (length old.conflicts) (length (old.conflicts ++ conflict ∷ [])) found.labels (omega arith))
        (λ place e. let same : length old.conflicts ≡ place = cc in omega arith) refl;
  }

  pub made-goes : (one : List ℕ) → IsSetDone told old (with_made old conflict) one (from_label one among.members)
  made-goes one =
      let members : PositionSet → List ℕ = λ k. k.members in
      record {
        label = Some (length old.conflicts);
        labels = refl;
        goes = λ table has next.
            let there : qx among.members table ≡ Done set = qx-more among.members label_told table set (λ s sat e. has s sat (known s sat e)) done in
            let same : conflict.members ≡ set = ap members is in
            let sets : sets_of (old.conflicts ++ conflict ∷ []) ≡ sets_of old.conflicts ++ set ∷ [] = sets-push old.conflicts conflict ∙ ap (λ (c : List ℕ). sets_of old.conflicts ++ c ∷ []) same in
            let at : at_place (sets_of (old.conflicts ++ conflict ∷ [])) (length old.conflicts) ≡ set = place-push old.conflicts conflict ∙ same in
            let ended : List (List ℕ) → List ℕ → Outcome = λ known label. ends (record { found = sets_of old.diagnoses; known = known; next = with_children one label next }) in
            ap (by_label (standing old next) one) there ∙ ap (λ (c : List (List ℕ)). ended c set) (sym sets) ∙ ap (λ (c : List ℕ). ended (sets_of (old.conflicts ++ conflict ∷ [])) c) (sym at);
      }

-- a set is done, and has a known label or none
pub done-found : (n : ℕ) (old : Found) (label : Option ℕ) (labels : List (Option ℕ)) → IsFound n old → ((place : ℕ) → label ≡ Some place → place < length old.conflicts) → labels ≡ old.labels ++ label ∷ [] → IsFound n (record { diagnoses = old.diagnoses; conflicts = old.conflicts; labels = labels })
done-found n old label labels found place e = record {
  diagnoses = found.diagnoses;
  conflicts = found.conflicts;
  labels = subst (λ (l : List (Option ℕ)). (place : ℕ) → Contains l (Some place) → place < length old.conflicts) (sym e) (labels-push old.labels label (length old.conflicts) (length old.conflicts) found.labels place refl);
}

-- a set is a diagnosis
pub diagnosis-found : (n : ℕ) (old : Found) (set : PositionSet) (diagnoses : List PositionSet) (labels : List (Option ℕ)) → IsFound n old → IsOver n set → diagnoses ≡ old.diagnoses ++ set ∷ [] → labels ≡ old.labels ++ None ∷ [] → IsFound n (record { diagnoses = diagnoses; conflicts = old.conflicts; labels = labels })
diagnosis-found n old set diagnoses labels found over d l = record {
  diagnoses = subst (AreOver n) (sym d) (over-push n old.diagnoses set found.diagnoses over);
  conflicts = found.conflicts;
  labels = (done-found n old None labels found (λ place e. absurd (cc)) l).labels;
}

-- where the rest is Unsat, the level isn't the last, and the rest has a member, a label is made of it
rest-label : (table : List Answer) (set : List ℕ) (rest : List ℕ) (s : Standing) → 0 < length rest → answer_to table rest ≡ Some false → from_rest false set rest table s ≡ from_label set rest table s
rest-label table set [] s some e = absurd (omega arith)
rest-label table set (x ∷ rest) s some e = rw e refl

-- so it goes on for the label
pub rest-goes : (n : ℕ) (told : List Answer) (last : Bool) (old new : Found) (set rest among : List ℕ) (number : ℕ) (asking : Option Asking) → among ≡ rest → number ≡ n → last ≡ false → 0 < length rest → answer_to told rest ≡ Some false →
    MatchOption asking (IsSetDone told old new set (from_label set among)) (IsSetWaiting number told last old new set (from_label set among)) →
    MatchOption asking (IsSetDone told old new set (from_rest last set rest)) (IsSetWaiting n told last old new set (from_rest last set rest))
rest-goes n told last old new set rest among number asking same numbers not_last some unsat h = case asking h
  where
    over : (table : List Answer) → HasAll told table → (s : Standing) → from_rest last set rest table s ≡ from_label set among table s
    over table has s = ap (λ (b : Bool). from_rest b set rest table s) not_last ∙ rest-label table set rest s some (has rest false unsat) ∙ ap (λ (r : List ℕ). from_label set r table s) (sym same)

    case : (asking : Option Asking) → MatchOption asking (IsSetDone told old new set (from_label set among)) (IsSetWaiting number told last old new set (from_label set among)) → MatchOption asking (IsSetDone told old new set (from_rest last set rest)) (IsSetWaiting n told last old new set (from_rest last set rest))
    case None h = record { label = h.label; labels = h.labels; goes = λ table has next. over table has (standing old next) ∙ h.goes table has next }
    case (Some k) h = record { same = h.same; asked = subst (λ (m : ℕ). IsAsked m told k) numbers h.asked; goes = λ table has next. over table has (standing old next) ∙ h.goes table has next }

pub some-members : (xs : List ℕ) → eqb (length xs) 0 ≡ false → 0 < length xs
some-members [] e = absurd (cc)
some-members (x ∷ xs) e = omega arith
