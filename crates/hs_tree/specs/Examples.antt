-- Worked examples of the tree: which sets are asked after which answers, and what is found. Each computes.
use Rattle.std.specs.Prelude.{◌≡◌, ℕ, Bool, true, false, Some, List, [], ◌∷◌, refl}
use Rattle.pref_sets.specs.Answers.{Answer, Next, told_in_turn}
use Rattle.pref_sets.specs.Answers.Next.{Ask, Done}
use Rattle.hs_tree.specs.Tree.{by_label, ends, known_label, with_children, tree, found_by, next_of}

-- what the tree has been told after these answers, one after the other
abbrev told : ℕ → List ℕ → ℕ → List Bool → List Answer
told n first most sats = told_in_turn (λ table. next_of (tree n first most table)) [] sats

-- what it has found then
abbrev found : ℕ → List ℕ → ℕ → List Bool → List (List ℕ)
found n first most sats = found_by (tree n first most (told n first most sats))

-- and what it wants next
abbrev wants : ℕ → List ℕ → ℕ → List Bool → Next
wants n first most sats = next_of (tree n first most (told n first most sats))

abbrev on : List ℕ → Bool → Answer
on set sat = record { set = set; sat = sat }

-- the order within a level, and a set that two parents make stands once
pub level-order : with_children (1 ∷ []) (2 ∷ 4 ∷ []) (with_children (3 ∷ []) (2 ∷ 4 ∷ []) []) ≡ (3 ∷ 4 ∷ []) ∷ (2 ∷ 3 ∷ []) ∷ (1 ∷ 4 ∷ []) ∷ (1 ∷ 2 ∷ []) ∷ []
level-order = refl

pub level-once : with_children (1 ∷ []) (2 ∷ 3 ∷ []) (with_children (2 ∷ []) (1 ∷ 3 ∷ []) []) ≡ (2 ∷ 3 ∷ []) ∷ (1 ∷ 3 ∷ []) ∷ (1 ∷ 2 ∷ []) ∷ []
level-once = refl

-- a label that is made stands behind the known ones, and the first that shares nothing with a set is used
pub label-made :
    by_label (record { found = []; known = (1 ∷ 2 ∷ []) ∷ []; next = [] }) (2 ∷ []) (Done (3 ∷ 4 ∷ []))
    ≡ ends (record { found = []; known = (1 ∷ 2 ∷ []) ∷ (3 ∷ 4 ∷ []) ∷ []; next = (2 ∷ 4 ∷ []) ∷ (2 ∷ 3 ∷ []) ∷ [] })
label-made = refl

pub label-used : known_label ((1 ∷ 2 ∷ []) ∷ (3 ∷ 5 ∷ []) ∷ (5 ∷ 6 ∷ []) ∷ []) (1 ∷ 4 ∷ []) ≡ Some (3 ∷ 5 ∷ [])
label-used = refl

-- 1 and 2 of three don't go together
pub phone-told : told 3 (1 ∷ 2 ∷ []) 3 (true ∷ true ∷ []) ≡ on (1 ∷ 3 ∷ []) true ∷ on (2 ∷ 3 ∷ []) true ∷ []
phone-told = refl

pub phone-found : found 3 (1 ∷ 2 ∷ []) 3 (true ∷ true ∷ []) ≡ (2 ∷ []) ∷ (1 ∷ []) ∷ []
phone-found = refl

pub phone-done : wants 3 (1 ∷ 2 ∷ []) 3 (true ∷ true ∷ []) ≡ Done []
phone-done = refl

-- before the end there is a part of the listing
pub phone-half : (found 3 (1 ∷ 2 ∷ []) 3 (true ∷ []) ≡ (2 ∷ []) ∷ []) × (wants 3 (1 ∷ 2 ∷ []) 3 (true ∷ []) ≡ Ask (2 ∷ 3 ∷ []))
phone-half = (refl, refl)

-- Camera, not Camera, Camera: the set {1,2} is skipped, since {2} was found
pub camera-told :
    told 3 (1 ∷ 2 ∷ []) 3 (true ∷ false ∷ true ∷ true ∷ [])
    ≡ on (1 ∷ 3 ∷ []) true ∷ on (2 ∷ 3 ∷ []) false ∷ on (2 ∷ []) true ∷ on (3 ∷ []) true ∷ []
camera-told = refl

pub camera-found : found 3 (1 ∷ 2 ∷ []) 3 (true ∷ false ∷ true ∷ true ∷ []) ≡ (2 ∷ []) ∷ (1 ∷ 3 ∷ []) ∷ []
camera-found = refl

pub camera-done : wants 3 (1 ∷ 2 ∷ []) 3 (true ∷ false ∷ true ∷ true ∷ []) ≡ Done []
camera-done = refl

-- A, B, not A, not B: the label {2,4} is made for {3}, and used again for {1}
pub opposites-told :
    told 4 (1 ∷ 3 ∷ []) 4 (false ∷ true ∷ true ∷ true ∷ false ∷ true ∷ true ∷ [])
    ≡ on (1 ∷ 2 ∷ 4 ∷ []) false ∷ on (1 ∷ []) true ∷ on (1 ∷ 2 ∷ []) true ∷ on (1 ∷ 4 ∷ []) true
    ∷ on (2 ∷ 4 ∷ []) false ∷ on (2 ∷ 3 ∷ []) true ∷ on (3 ∷ 4 ∷ []) true ∷ []
opposites-told = refl

pub opposites-found :
    found 4 (1 ∷ 3 ∷ []) 4 (false ∷ true ∷ true ∷ true ∷ false ∷ true ∷ true ∷ [])
    ≡ (3 ∷ 4 ∷ []) ∷ (2 ∷ 3 ∷ []) ∷ (1 ∷ 4 ∷ []) ∷ (1 ∷ 2 ∷ []) ∷ []
opposites-found = refl

pub opposites-done : wants 4 (1 ∷ 3 ∷ []) 4 (false ∷ true ∷ true ∷ true ∷ false ∷ true ∷ true ∷ []) ≡ Done []
opposites-done = refl

-- at most one of three: {1,2} comes from {1} and from {2}, and stands once
pub alternative-told :
    told 3 (1 ∷ 2 ∷ []) 3 (false ∷ true ∷ true ∷ false ∷ true ∷ [])
    ≡ on (1 ∷ 3 ∷ []) false ∷ on (1 ∷ []) true ∷ on (3 ∷ []) true ∷ on (2 ∷ 3 ∷ []) false ∷ on (2 ∷ []) true ∷ []
alternative-told = refl

pub alternative-found : found 3 (1 ∷ 2 ∷ []) 3 (false ∷ true ∷ true ∷ false ∷ true ∷ []) ≡ (2 ∷ 3 ∷ []) ∷ (1 ∷ 3 ∷ []) ∷ (1 ∷ 2 ∷ []) ∷ []
alternative-found = refl

pub alternative-done : wants 3 (1 ∷ 2 ∷ []) 3 (false ∷ true ∷ true ∷ false ∷ true ∷ []) ≡ Done []
alternative-done = refl

-- at most three of four: each position by itself is a diagnosis
pub three_of_four-found : found 4 (1 ∷ 2 ∷ 3 ∷ 4 ∷ []) 4 (true ∷ true ∷ true ∷ true ∷ []) ≡ (4 ∷ []) ∷ (3 ∷ []) ∷ (2 ∷ []) ∷ (1 ∷ []) ∷ []
three_of_four-found = refl

-- up to size 0 nothing is asked, and nothing found
pub size-zero : (wants 3 (1 ∷ 2 ∷ []) 0 [] ≡ Done []) × (found 3 (1 ∷ 2 ∷ []) 0 [] ≡ [])
size-zero = (refl, refl)

-- up to size 1: {1} is no diagnosis, and no label is made on the last level
pub size-one-told : told 3 (1 ∷ 2 ∷ []) 1 (true ∷ false ∷ []) ≡ on (1 ∷ 3 ∷ []) true ∷ on (2 ∷ 3 ∷ []) false ∷ []
size-one-told = refl

pub size-one : (wants 3 (1 ∷ 2 ∷ []) 1 (true ∷ false ∷ []) ≡ Done []) × (found 3 (1 ∷ 2 ∷ []) 1 (true ∷ false ∷ []) ≡ (2 ∷ []) ∷ [])
size-one = (refl, refl)

-- one position, which alone can't be met: the rest of it is the empty set
pub one-found : (told 1 (1 ∷ []) 1 (true ∷ []) ≡ on [] true ∷ []) × (found 1 (1 ∷ []) 1 (true ∷ []) ≡ (1 ∷ []) ∷ [])
one-found = (refl, refl)

-- after Unsat of the empty set the tree is done
pub one-background : (wants 1 (1 ∷ []) 3 (false ∷ []) ≡ Done []) × (found 1 (1 ∷ []) 3 (false ∷ []) ≡ [])
one-background = (refl, refl)

-- what was found stays while QuickXplain asks for a label
pub found_in_a_label : (found 3 (1 ∷ 2 ∷ []) 3 (true ∷ false ∷ []) ≡ (2 ∷ []) ∷ []) × (wants 3 (1 ∷ 2 ∷ []) 3 (true ∷ false ∷ []) ≡ Ask (2 ∷ []))
found_in_a_label = (refl, refl)

-- {1,3,4} and {2,3,4} don't go together: {3} is the second that is found, and {1,3} is skipped for it
pub skipped_for_the_second : found 4 (1 ∷ 3 ∷ 4 ∷ []) 2 (true ∷ true ∷ false ∷ true ∷ true ∷ true ∷ true ∷ []) ≡ (4 ∷ []) ∷ (3 ∷ []) ∷ (1 ∷ 2 ∷ []) ∷ []
skipped_for_the_second = refl

-- {1,2}, {1,3} and {4} don't go together: a label that is made on one level is used on later ones, down to the third
abbrev deep_answers : List Bool
deep_answers = false ∷ true ∷ false ∷ true ∷ false ∷ true ∷ true ∷ false ∷ false ∷ []

pub deep-told :
    told 4 (1 ∷ 2 ∷ []) 3 deep_answers
    ≡ on (1 ∷ 3 ∷ 4 ∷ []) false ∷ on (1 ∷ []) true ∷ on (1 ∷ 3 ∷ []) false ∷ on (3 ∷ []) true ∷ on (2 ∷ 3 ∷ 4 ∷ []) false
    ∷ on (2 ∷ []) true ∷ on (2 ∷ 3 ∷ []) true ∷ on (2 ∷ 4 ∷ []) false ∷ on (4 ∷ []) false ∷ []
deep-told = refl

pub deep-found : (found 4 (1 ∷ 2 ∷ []) 3 deep_answers ≡ (1 ∷ 4 ∷ []) ∷ (2 ∷ 3 ∷ 4 ∷ []) ∷ []) × (found 4 (1 ∷ 2 ∷ []) 2 deep_answers ≡ (1 ∷ 4 ∷ []) ∷ [])
deep-found = (refl, refl)
