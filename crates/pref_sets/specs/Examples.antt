-- Worked examples of the two greedy sets. Each computes.
use Rattle.std.specs.Prelude.{◌≡◌, ℕ, Bool, true, false, not, ◌&&◌, ◌||◌, List, [], ◌∷◌, ◌==◌, refl}
use Rattle.std.specs.List.{list_any}
use Rattle.pref_sets.specs.Kept.{kept_of}
use Rattle.pref_sets.specs.Trimmed.{trimmed_of}

-- whether the item is in the set
abbrev has : ℕ → List ℕ → Bool
has item set = list_any (λ other. other == item) set

-- Camera, Basic and GPS of a phone whose camera needs a colour screen: 1 and 2 don't go together
abbrev phone : List ℕ → Bool
phone set = not (has 1 set && has 2 set)

pub phone-kept : kept_of phone (1 ∷ 2 ∷ 3 ∷ []) ≡ 1 ∷ 3 ∷ []
phone-kept = refl

pub phone-conflict : trimmed_of (λ set. not (phone set)) (1 ∷ 2 ∷ 3 ∷ []) ≡ 1 ∷ 2 ∷ []
phone-conflict = refl

-- A, B, not A and not B: two conflicts that share nothing
abbrev opposites : List ℕ → Bool
opposites set = not (has 1 set && has 3 set) && not (has 2 set && has 4 set)

pub opposites-kept : kept_of opposites (1 ∷ 2 ∷ 3 ∷ 4 ∷ []) ≡ 1 ∷ 2 ∷ []
opposites-kept = refl

-- the last items leave first: the conflict of 1 and 3 stays, that of 2 and 4 goes
pub opposites-conflict : trimmed_of (λ set. not (opposites set)) (1 ∷ 2 ∷ 3 ∷ 4 ∷ []) ≡ 1 ∷ 3 ∷ []
opposites-conflict = refl

-- at most three of four
abbrev three_of_four : List ℕ → Bool
three_of_four set = not (has 1 set && has 2 set && has 3 set && has 4 set)

pub three_of_four-kept : kept_of three_of_four (1 ∷ 2 ∷ 3 ∷ 4 ∷ []) ≡ 1 ∷ 2 ∷ 3 ∷ []
three_of_four-kept = refl

pub three_of_four-conflict : trimmed_of (λ set. not (three_of_four set)) (1 ∷ 2 ∷ 3 ∷ 4 ∷ []) ≡ 1 ∷ 2 ∷ 3 ∷ 4 ∷ []
three_of_four-conflict = refl

-- at most one of three
abbrev one_of_three : List ℕ → Bool
one_of_three set = not (has 1 set && has 2 set) && not (has 1 set && has 3 set) && not (has 2 set && has 3 set)

pub one_of_three-kept : kept_of one_of_three (1 ∷ 2 ∷ 3 ∷ []) ≡ 1 ∷ []
one_of_three-kept = refl

pub one_of_three-conflict : trimmed_of (λ set. not (one_of_three set)) (1 ∷ 2 ∷ 3 ∷ []) ≡ 1 ∷ 2 ∷ []
one_of_three-conflict = refl

-- the last items leave first: 3 and 2 go, since 1 alone is enough; dropping from the front would leave 2 and 3
pub one_or_both-trimmed : trimmed_of (λ set. has 1 set || (has 2 set && has 3 set)) (1 ∷ 2 ∷ 3 ∷ []) ≡ 1 ∷ []
one_or_both-trimmed = refl

pub last-trimmed : trimmed_of (λ set. has 3 set) (1 ∷ 2 ∷ 3 ∷ []) ≡ 3 ∷ []
last-trimmed = refl

-- the kept set is greedy, and not the largest: with 1 neither 2 nor 3 may stand
pub greedy-kept : kept_of (λ set. not (has 1 set && (has 2 set || has 3 set))) (1 ∷ 2 ∷ 3 ∷ []) ≡ 1 ∷ []
greedy-kept = refl

-- Camera, not Camera, Camera: a requirement may stand twice, each at a position of its own
abbrev camera_or_not : List ℕ → Bool
camera_or_not set = not (has 2 set && (has 1 set || has 3 set))

pub camera_or_not-kept : kept_of camera_or_not (1 ∷ 2 ∷ 3 ∷ []) ≡ 1 ∷ 3 ∷ []
camera_or_not-kept = refl

pub camera_or_not-conflict : trimmed_of (λ set. not (camera_or_not set)) (1 ∷ 2 ∷ 3 ∷ []) ≡ 1 ∷ 2 ∷ []
camera_or_not-conflict = refl

-- three that only together contradict
pub chain-kept : kept_of (λ set. not (has 1 set && has 2 set && has 3 set)) (1 ∷ 2 ∷ 3 ∷ []) ≡ 1 ∷ 2 ∷ []
chain-kept = refl

pub chain-conflict : trimmed_of (λ set. has 1 set && has 2 set && has 3 set) (1 ∷ 2 ∷ 3 ∷ []) ≡ 1 ∷ 2 ∷ 3 ∷ []
chain-conflict = refl

-- the order is that of the list, not of the numbers
pub turned-trimmed : trimmed_of (λ set. has 1 set || (has 2 set && has 3 set)) (3 ∷ 2 ∷ 1 ∷ []) ≡ 3 ∷ 2 ∷ []
turned-trimmed = refl

-- over other items than the first numbers
pub other_items-kept : kept_of (λ set. not (has 2 set && has 9 set)) (2 ∷ 5 ∷ 9 ∷ []) ≡ 2 ∷ 5 ∷ []
other_items-kept = refl

pub other_items-trimmed : trimmed_of (λ set. has 2 set && has 9 set) (2 ∷ 5 ∷ 9 ∷ []) ≡ 2 ∷ 9 ∷ []
other_items-trimmed = refl

-- no items; a test that never passes; a test that always does
pub none-kept : kept_of (λ set. true) [] ≡ []
none-kept = refl

pub none-trimmed : trimmed_of (λ set. true) [] ≡ []
none-trimmed = refl

pub never-kept : kept_of (λ set. false) (1 ∷ 2 ∷ []) ≡ []
never-kept = refl

pub always-kept : kept_of (λ set. true) (1 ∷ 2 ∷ []) ≡ 1 ∷ 2 ∷ []
always-kept = refl

pub always-trimmed : trimmed_of (λ set. true) (1 ∷ 2 ∷ []) ≡ []
always-trimmed = refl

-- where the test fails of all items from the start, no item leaves
pub never-trimmed : trimmed_of (λ set. false) (1 ∷ 2 ∷ []) ≡ 1 ∷ 2 ∷ []
never-trimmed = refl
