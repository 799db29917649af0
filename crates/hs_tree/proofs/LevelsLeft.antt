-- One level after the other.
use Rattle.std.proofs.Common.{◌≡◌, ℕ, zero, suc, ◌+◌, ◌-◌, Bool, true, false, Option, Some, None, List, [], ◌∷◌, length, drop, refl, sym, ◌∙◌, ap, arith, length-drop}
use Rattle.std.specs.Prelude.{not}
use Rattle.std.specs.Option.{is_some}
use Rattle.pref_sets.specs.Answers.{Answer}
use Rattle.hs_tree.specs.declared.found.Found.{Found}
use Rattle.hs_tree.specs.declared.levels.Level.{Level}
use Rattle.hs_tree.specs.declared.sets.Asking.{Asking}
use Rattle.hs_tree.specs.Tree.{Outcome, asks, ends, Standing, further, one_level, levels}
use Rattle.hs_tree.specs.inside.Places.{sets_of}
use Rattle.hs_tree.specs.inside.Steps.{standing}
use Rattle.hs_tree.specs.inside.Left.{made, is_last, next_at, standing_at, place_at, from_place, level_left, levels_behind, behind, left}
use Rattle.hs_tree.specs.inside.Told.{HasAll}
use Rattle.hs_tree.proofs.MadeLevels.{made-none}

further-ends : (outcome : Outcome) → further outcome (λ after. ends after) ≡ outcome
further-ends (asks found set) = refl
further-ends (ends s) = refl

empty-level : (n : ℕ) (table : List Answer) (more : ℕ) (s : Standing) → levels n table more [] s ≡ ends s
empty-level n table zero s = refl
empty-level n table (suc more) s = refl

levels-go : (n : ℕ) (table : List Answer) (more : ℕ) (sets : List (List ℕ)) (found : Found) → levels n table more sets (standing found []) ≡ further (one_level n table (is_last more) sets (standing found [])) (λ after. levels_behind n table more after)
levels-go n table zero sets found = sym (further-ends (one_level n table true sets (standing found [])))
levels-go n table (suc more) [] found = sym (empty-level n table more (standing found []))
levels-go n table (suc more) (set ∷ sets) found = refl

no-items : {X : Type 0} (xs : List X) → length xs ≡ 0 → xs ≡ []
no-items [] e = refl
no-items (x ∷ xs) e = absurd (omega arith)

drop-whole : {X : Type 0} (xs : List X) (n : ℕ) → n ≡ length xs → drop n xs ≡ []
drop-whole xs n e = no-items (drop n xs) (let size : length (drop n xs) ≡ length xs - n = length-drop n xs in omega arith)

-- a level from its beginning
pub level-start : (level : Level) (found : Found) (table : List Answer) → level.before ≡ length found.labels → levels level.n table level.left (sets_of level.sets) (standing found []) ≡ further (from_place table level (place_at level found) (standing_at level found)) (λ after. behind table level after)
level-start level found table start =
    let place : 0 ≡ place_at level found = omega arith in
    let next : [] ≡ next_at level found =
    sym (ap (λ (t : List (Option ℕ)). made (sets_of found.conflicts) (sets_of level.sets) t []) (drop-whole found.labels level.before start) ∙ made-none (sets_of found.conflicts) (sets_of level.sets) []) in
    levels-go level.n table level.left (sets_of level.sets) found
    ∙ ap (λ (n : List (List ℕ)). further (from_place table level 0 (standing found n)) (λ after. behind table level after)) next
    ∙ ap (λ (p : ℕ). further (from_place table level p (standing_at level found)) (λ after. behind table level after)) place

-- the next level
pub next-start : (level next : Level) (found : Found) (table : List Answer) → next.left + 1 ≡ level.left → next.n ≡ level.n → sets_of next.sets ≡ next_at level found → left table level found None ≡ levels next.n table next.left (sets_of next.sets) (standing found [])
next-start level next found table more n sets =
    let left_is : level.left ≡ suc next.left = omega arith in
    ap (λ (k : ℕ). levels_behind level.n table k (standing_at level found)) left_is
    ∙ ap (λ (s : List (List ℕ)). levels level.n table next.left s (standing found [])) (sym sets)
    ∙ ap (λ (k : ℕ). levels k table next.left (sets_of next.sets) (standing found [])) (sym n)

-- a level from its beginning, when what is left of it is known
pub level-goes : (level : Level) (old new : Found) (asking : Option Asking) (told : List Answer) → level.before ≡ length old.labels → ((table : List Answer) → HasAll told table → from_place table level (place_at level old) (standing_at level old) ≡ level_left table level new asking) → (table : List Answer) → HasAll told table → levels level.n table level.left (sets_of level.sets) (standing old []) ≡ left table level new asking
level-goes level old new asking told start goes table has =
    level-start level old table start ∙ ap (λ (o : Outcome). further o (λ after. behind table level after)) (goes table has)

pub none-from : (asking : Option Asking) (none : Bool) → is_some asking ≡ not none → none ≡ true → asking ≡ None
none-from None none e t = refl
none-from (Some asking) true e t = absurd (cc)
none-from (Some asking) false e t = absurd (cc)
