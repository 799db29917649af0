use Rattle.std.proofs.Common.{◌≡◌, ◌∙◌, [], ◌∷◌, ℕ, List, sym, ap, subst, refl}
use Rattle.req_keys.specs.Key.{PositionSet}
use Rattle.pref_sets.specs.Answers.{Answer}
use Rattle.hs_tree.specs.declared.found.Found.{Found}
use Rattle.hs_tree.specs.declared.levels.Level.{Level}
use Rattle.hs_tree.specs.inside.Left.{IsHere}
use Rattle.hs_tree.specs.inside.Told.{HasAll, answers_of}
use Rattle.hs_tree.specs.declared.told.ToldAnswer.{ToldAnswer}
use Rattle.hs_tree.specs.inside.Standing.{Stands}
use Rattle.hs_tree.specs.inside.Places.{sets_of}
use Rattle.hs_tree.proofs.Standing.{stands-start}
use Rattle.hs_tree.proofs.hitting.HsTree.new.Goals as goal

pub invariant_of-result : goal.invariant_of-result
invariant_of-result c =
    let first = c.args.first.now in
    let members : PositionSet → List (List ℕ) = λ key. key.members ∷ [] in
    let before : Found = record { diagnoses = c.new.result; conflicts = c.in_ok-only-2.field-0; labels = c.new-2.result } in
    let start : Level = record { n = c.n.result; sets = c.in_ok-only.field-0; before = 0; left = c.args.most } in
    let place = c.in_ok-place.place in
    let found = c.from_level.new.found in
    let none : answers_of c.new-told.result ≡ [] = ap answers_of c.new-told.ensures in
    subst (λ (told : List ToldAnswer). Stands c.in_ok-copy-2.field-0 c.args.most (record { told = told; found = found; level = place.level; asking = place.asking })) (sym c.new-told.ensures)
    (subst (λ (key : PositionSet). Stands key c.args.most (record { told = []; found = found; level = place.level; asking = place.asking })) (sym c.in_ok-copy-2.ensures)
    (stands-start first c.args.most before found start place.level place.asking c.n.ensures.key c.n.ensures.n refl
    (ap sets_of c.in_ok-only.ensures ∙ ap members c.in_ok-empty.ensures) c.new.ensures (c.in_ok-only-2.ensures ∙ ap (λ (key : PositionSet). key ∷ []) c.in_ok-copy.ensures)
    c.in_ok-place.ensures.inside (subst (λ (told : List Answer). IsHere told place.level found place.asking) none c.in_ok-place.ensures.here) c.in_ok-place.ensures.last c.in_ok-place.ensures.n
    (λ table has. c.in_ok-place.ensures.goes table (subst (λ (told : List Answer). HasAll told table) (sym none) has))))
