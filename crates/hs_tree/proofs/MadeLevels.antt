-- The next level's sets as they are made, set by set.
use Rattle.std.proofs.Common.{◌≡◌, ℕ, zero, suc, ◌+◌, ◌-◌, ◌<◌, ◌≤◌, Option, Some, None, List, [], ◌∷◌, ◌++◌, length, get_or, take, drop, refl, sym, ◌∙◌, ap, subst, arith}
use Rattle.std.specs.Prelude.{Contains}
use Rattle.std.proofs.Common.{eqb, length-append, length-drop}
use Rattle.std.proofs.lemmas.List.{drop-append-le, get_or_default, get_or_append_left, length-map, map-append, take-append-drop}
use Rattle.std.proofs.lemmas.Bool.{ne_eqb}
use Rattle.std.proofs.lemmas.List.Elements.{Contains-append_right}
use Rattle.lists.proofs.Members.{first as contains_first, later as contains_later}
use Rattle.pref_sets.specs.Answers.{Answer}
use Rattle.req_keys.specs.Key.{PositionSet}
use Rattle.hs_tree.specs.declared.found.Found.{Found}
use Rattle.hs_tree.specs.declared.levels.Level.{Level}
use Rattle.hs_tree.specs.declared.sets.Asking.{Asking}
use Rattle.hs_tree.specs.Tree.{Outcome, Standing, further, one_set, one_level, with_children}
use Rattle.hs_tree.specs.inside.Left.{made, is_last, next_at, standing_at, place_at, from_place, level_left, IsIn, IsHere}
use Rattle.hs_tree.specs.inside.Places.{at_place, sets_of}
use Rattle.hs_tree.specs.inside.Steps.{with_label, standing, waiting, from_start, from_waiting, Grows, IsFound, IsAsked, IsSetDone, IsSetWaiting}
use Rattle.hs_tree.specs.inside.Told.{HasAll}
use Rattle.hs_tree.proofs.FoundLists.{at_place-key}
use Rattle.hs_tree.proofs.ToldAnswers.{drop-at, drop-one}

-- one set with its label
pub made-step : (known : List (List ℕ)) (sets : List PositionSet) (labels : List (Option ℕ)) (p q : ℕ) (key : PositionSet) (label : Option ℕ) (next : List (List ℕ)) → p < length sets → key ≡ get_or sets p key → q < length labels → label ≡ get_or labels q label →
    made known (sets_of (drop p sets)) (drop q labels) next ≡ made known (sets_of (drop (p + 1) sets)) (drop (q + 1) labels) (with_label known key.members label next)
made-step known sets labels p q key label next l is m there =
    let first : drop p sets ≡ key ∷ drop (p + 1) sets = drop-at sets p key l is in
    let second : drop q labels ≡ label ∷ drop (q + 1) labels = drop-at labels q label m there in
    ap (λ (s : List PositionSet). made known (sets_of s) (drop q labels) next) first
    ∙ ap (λ (t : List (Option ℕ)). made known (sets_of (key ∷ drop (p + 1) sets)) t next) second

-- a place further on, counted from the level's first
pub place-next : (place before : ℕ) → before ≤ place → (place + 1) - before ≡ (place - before) + 1
place-next place before l = omega arith

pub made-none : (known sets next : List (List ℕ)) → made known sets [] next ≡ next
made-none known [] next = refl
made-none known (set ∷ sets) next = refl

-- one more label
made-push : (known sets : List (List ℕ)) (labels : List (Option ℕ)) (label : Option ℕ) (next : List (List ℕ)) → length labels < length sets →
    made known sets (labels ++ label ∷ []) next ≡ with_label known (at_place sets (length labels)) label (made known sets labels next)
made-push known [] labels label next l = absurd (omega arith)
made-push known (set ∷ sets) [] label next l = made-none known sets (with_label known set label next)
made-push known (set ∷ sets) (one ∷ labels) label next l = made-push known sets labels label (with_label known set one next) (omega arith)

-- other conflicts that are the same at the places of the labels
label-same : (known other : List (List ℕ)) (set : List ℕ) (label : Option ℕ) (next : List (List ℕ)) → ((place : ℕ) → label ≡ Some place → at_place known place ≡ at_place other place) → with_label known set label next ≡ with_label other set label next
label-same known other set None next h = refl
label-same known other set (Some place) next h = ap (λ (conflict : List ℕ). with_children set conflict next) (h place refl)

made-same : (known other sets : List (List ℕ)) (labels : List (Option ℕ)) (next : List (List ℕ)) → ((place : ℕ) → Contains labels (Some place) → at_place known place ≡ at_place other place) → made known sets labels next ≡ made other sets labels next
made-same known other [] labels next h = refl
made-same known other (set ∷ sets) [] next h = refl
made-same known other (set ∷ sets) (label ∷ labels) next h =
    ap (made known sets labels) (label-same known other set label next (λ place e. h place (subst (Contains (label ∷ labels)) e (contains_first label labels))))
    ∙ made-same known other sets labels (with_label other set label next) (λ place m. h place (contains_later label labels (Some place) m))

-- a conflict stays at its place
pub place-stays : (old new : List PositionSet) (place : ℕ) → take (length old) new ≡ old → place < length old → at_place (sets_of old) place ≡ at_place (sets_of new) place
place-stays old new place e l =
    let members : PositionSet → List ℕ = λ k. k.members in
    let rest : List PositionSet = drop (length old) new in
    let parts : new ≡ old ++ rest = sym (take-append-drop (length old) new) ∙ ap (λ (t : List PositionSet). t ++ rest) e in
    let size : length (sets_of old) ≡ length old = length-map old members in
    sym (ap (λ (keys : List PositionSet). at_place (sets_of keys) place) parts
    ∙ ap (λ (sets : List (List ℕ)). at_place sets place) (map-append members old rest)
    ∙ get_or_append_left (sets_of old) (sets_of rest) [] place (omega arith))

-- the first of the sets behind a place
pub level-first : (sets : List PositionSet) (p : ℕ) (key : PositionSet) → p < length sets → key ≡ get_or sets p key → drop p (sets_of sets) ≡ key.members ∷ drop (p + 1) (sets_of sets)
level-first sets p key l is =
    let members : PositionSet → List ℕ = λ k. k.members in
    let size : length (sets_of sets) ≡ length sets = length-map sets members in
    drop-one (sets_of sets) p [] (omega arith) ∙ ap (λ (s : List ℕ). s ∷ drop (p + 1) (sets_of sets)) (at_place-key sets p key l is)

drop-contains : {X : Type 0} (n : ℕ) (xs : List X) (x : X) → Contains (drop n xs) x → Contains xs x
drop-contains n xs x m = subst (λ (t : List _). Contains t x) (take-append-drop n xs) (Contains-append_right (take n xs) (drop n xs) x m)

module _ (level : Level) (old new : Found) (key : PositionSet) (p : ℕ) (inside : IsIn level old) (l : p < length level.sets) (is : key ≡ get_or level.sets p key) (at : length old.labels ≡ level.before + p) where
  -- the set is done
  module _ (label : Option ℕ) (grows : Grows old new) (labels : new.labels ≡ old.labels ++ label ∷ []) where
    pub next-step : with_label (sets_of new.conflicts) key.members label (next_at level old) ≡ next_at level new
    next-step =
        let done : List (Option ℕ) = drop level.before old.labels in
        let low : level.before ≤ length old.labels = inside.low in
        let size : length (drop level.before old.labels) ≡ length old.labels - level.before = length-drop level.before old.labels in
        let here : length (drop level.before old.labels) ≡ p = omega arith in
        let sizes : length (sets_of level.sets) ≡ length level.sets = length-map level.sets (λ (k : PositionSet). k.members) in
        let stays : made (sets_of old.conflicts) (sets_of level.sets) done [] ≡ made (sets_of new.conflicts) (sets_of level.sets) done [] =
        made-same (sets_of old.conflicts) (sets_of new.conflicts) (sets_of level.sets) done []
        (λ place m. place-stays old.conflicts new.conflicts place grows.conflicts (inside.sound.labels place (drop-contains level.before old.labels (Some place) m))) in
        let set : at_place (sets_of level.sets) (length (drop level.before old.labels)) ≡ key.members = ap (at_place (sets_of level.sets)) here ∙ at_place-key level.sets p key l is in
        let more : drop level.before new.labels ≡ done ++ label ∷ [] = ap (drop level.before) labels ∙ drop-append-le level.before old.labels (label ∷ []) low in
        sym (ap (λ (t : List (Option ℕ)). made (sets_of new.conflicts) (sets_of level.sets) t []) more
        ∙ made-push (sets_of new.conflicts) (sets_of level.sets) done label [] (omega arith)
        ∙ ap (λ (s : List ℕ). with_label (sets_of new.conflicts) s label (made (sets_of new.conflicts) (sets_of level.sets) done [])) set
        ∙ ap (with_label (sets_of new.conflicts) key.members label) (sym stays))

    pub labels-more : length new.labels ≡ level.before + (p + 1)
    labels-more = let longer : length (old.labels ++ label ∷ []) ≡ length old.labels + 1 = length-append old.labels (label ∷ []) in let same = ap (λ (t : List (Option ℕ)). length t) labels in omega arith

    pub inside-more : IsFound level.n new → IsIn level new
    inside-more sound = let more = labels-more in let low : level.before ≤ length old.labels = inside.low in record { sound = sound; sets = inside.sets; low = omega arith; high = omega arith }

  -- the level from the place on goes by the set there
  from-set : (table : List Answer) (s : Standing) → from_place table level p s ≡ further (one_set level.n table (is_last level.left) s key.members) (λ after. from_place table level (p + 1) after)
  from-set table s = ap (λ (sets : List (List ℕ)). one_level level.n table (is_last level.left) sets s) (level-first level.sets p key l is)

  pub step-done : (told : List Answer) → Grows old new → IsSetDone told old new key.members (from_start level.n (is_last level.left) key.members) → (table : List Answer) → HasAll told table → from_place table level p (standing_at level old) ≡ from_place table level (p + 1) (standing_at level new)
  step-done told grows h table has =
      from-set table (standing_at level old)
      ∙ ap (λ (o : Outcome). further o (λ after. from_place table level (p + 1) after)) (h.goes table has (next_at level old))
      ∙ ap (λ (next : List (List ℕ)). from_place table level (p + 1) (standing new next)) (next-step h.label grows h.labels)

  pub step-waiting : (told : List Answer) (asking : Asking) → IsSetWaiting level.n told (is_last level.left) old new key.members (from_start level.n (is_last level.left) key.members) asking → (table : List Answer) → HasAll told table → from_place table level p (standing_at level old) ≡ level_left table level new (Some asking)
  step-waiting told asking h table has =
      let low : level.before ≤ length old.labels = inside.low in
      let here : length old.labels - level.before ≡ p = omega arith in
      let left_at : ℕ → List ℕ → Outcome = λ q set. further (waiting table (is_last level.left) (standing_at level old) set asking) (λ after. from_place table level (q + 1) after) in
      from-set table (standing_at level old)
      ∙ ap (λ (o : Outcome). further o (λ after. from_place table level (p + 1) after)) (h.goes table has (next_at level old))
      ∙ ap (left_at p) (sym (at_place-key level.sets p key l is))
      ∙ ap (λ (q : ℕ). left_at q (at_place (sets_of level.sets) q)) (sym here)
      ∙ ap (λ (found : Found). level_left table level found (Some asking)) (sym h.same)

  pub waits-here : (told : List Answer) (asking : Asking) → new ≡ old → IsAsked level.n told asking → IsHere told level new (Some asking)
  waits-here told asking same asked = (asked, let size = ap (λ (found : Found). length found.labels) same in omega arith)

pub last-is : (left : ℕ) → eqb left 0 ≡ is_last left
last-is zero = refl
last-is (suc left) = ne_eqb (suc left) 0 (λ e. absurd (omega arith))

place-is : (all before place : ℕ) → all ≡ before + place → all - before ≡ place
place-is all before place e = omega arith

-- the set that waited is done
pub again-done : (level : Level) (old new : Found) (told : List Answer) (asking : Asking) → IsIn level old → length old.labels < level.before + length level.sets → Grows old new →
    IsSetDone told old new (at_place (sets_of level.sets) (place_at level old)) (from_waiting (is_last level.left) (at_place (sets_of level.sets) (place_at level old)) asking) →
    (table : List Answer) → HasAll told table → level_left table level old (Some asking) ≡ from_place table level (place_at level new) (standing_at level new)
again-done level old new told asking inside within grows h table has =
    let p : ℕ = length old.labels - level.before in
    let none : PositionSet = record { n = 0; members = [] } in
    let key : PositionSet = get_or level.sets (length old.labels - level.before) none in
    let low : level.before ≤ length old.labels = inside.low in
    let l : length old.labels - level.before < length level.sets = omega arith in
    let at : length old.labels ≡ level.before + (length old.labels - level.before) = omega arith in
    let is : key ≡ get_or level.sets p key = get_or_default level.sets p none key l in
    let set : at_place (sets_of level.sets) p ≡ key.members = at_place-key level.sets p key l is in
    let label : Option ℕ = h.label in
    let more : length new.labels ≡ level.before + (p + 1) = labels-more level old new key p inside l is at h.label grows h.labels in
    let next : length new.labels - level.before ≡ p + 1 = place-is (length new.labels) level.before (p + 1) more in
    ap (λ (o : Outcome). further o (λ after. from_place table level (p + 1) after)) (h.goes table has (next_at level old))
    ∙ ap (λ (s : List ℕ). from_place table level (p + 1) (standing new (with_label (sets_of new.conflicts) s label (next_at level old)))) set
    ∙ ap (λ (n : List (List ℕ)). from_place table level (p + 1) (standing new n)) (next-step level old new key p inside l is at h.label grows h.labels)
    ∙ ap (λ (q : ℕ). from_place table level q (standing_at level new)) (sym next)
