-- The first conflict that is apart from a set, in a list of keys.
use Rattle.std.proofs.Common.{◌≡◌, ℕ, ◌+◌, ◌<◌, true, false, Some, List, [], ◌∷◌, length, get_or, drop, refl, sym, ◌∙◌, ap}
use Rattle.std.proofs.lemmas.List.{get_or-map}
use Rattle.req_keys.specs.Key.{PositionSet}
use Rattle.hs_tree.specs.Tree.{is_apart, known_label}
use Rattle.hs_tree.specs.inside.Places.{at_place, sets_of}
use Rattle.hs_tree.proofs.ToldAnswers.{drop-at}

pub label-here : (key : PositionSet) (rest : List PositionSet) (set : List ℕ) → is_apart key.members set ≡ true → known_label (sets_of (key ∷ rest)) set ≡ Some key.members
label-here key rest set e = rw e refl

pub label-other : (key : PositionSet) (rest : List PositionSet) (set : List ℕ) → is_apart key.members set ≡ false → known_label (sets_of (key ∷ rest)) set ≡ known_label (sets_of rest) set
label-other key rest set e = rw e refl

-- the set at a place is that of the key there
pub at_place-key : (keys : List PositionSet) (i : ℕ) (key : PositionSet) → i < length keys → key ≡ get_or keys i key → at_place (sets_of keys) i ≡ key.members
at_place-key keys i key l is =
    let members : PositionSet → List ℕ = λ k. k.members in
    get_or-map members keys i key [] l ∙ ap members (sym is)

module _ (keys : List PositionSet) (set : List ℕ) (i : ℕ) (key : PositionSet) (l : i < length keys) (is : key ≡ get_or keys i key) (so_far : known_label (sets_of (drop i keys)) set ≡ known_label (sets_of keys) set) where
  here : known_label (sets_of (drop i keys)) set ≡ known_label (sets_of (key ∷ drop (i + 1) keys)) set
  here = ap (λ (t : List PositionSet). known_label (sets_of t) set) (drop-at keys i key l is)

  pub label-at : is_apart key.members set ≡ true → known_label (sets_of keys) set ≡ Some (at_place (sets_of keys) i)
  label-at e = sym so_far ∙ here ∙ label-here key (drop (i + 1) keys) set e ∙ ap (λ (t : List ℕ). Some t) (sym (at_place-key keys i key l is))

  pub label-behind : is_apart key.members set ≡ false → known_label (sets_of (drop (i + 1) keys)) set ≡ known_label (sets_of keys) set
  label-behind e = sym (here ∙ label-other key (drop (i + 1) keys) set e) ∙ so_far
