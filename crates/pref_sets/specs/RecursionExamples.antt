-- Worked examples of FastDiag and QuickXplain over tables of answers: which set is asked after which answers, in
-- order, and what is found. Each computes.
use Rattle.std.specs.Prelude.{◌≡◌, ℕ, Bool, true, false, not, ◌&&◌, Some, None, List, [], ◌∷◌, ◌++◌, ◌==◌, map, refl}
use Rattle.std.specs.List.{list_any}
use Rattle.pref_sets.specs.Positions.{union, lower_half, upper_half}
use Rattle.pref_sets.specs.Answers.{Answer, Next, Ask, Done, answer_to}
use Rattle.pref_sets.specs.FastDiag.{fd, fd_behind}
use Rattle.pref_sets.specs.QuickXplain.{qx}
use Rattle.pref_sets.specs.Renumbering.{at_places, next_at_places}

abbrev sat : List ℕ → Answer
sat set = record { set = set; sat = true }

abbrev unsat : List ℕ → Answer
unsat set = record { set = set; sat = false }

-- what is wanted over the table, and then after each further answer
abbrev wants : (List Answer → Next) → List Answer → List Answer → List Next
wants next table [] = next table ∷ []
wants next table (answer ∷ further) = next table ∷ wants next (table ++ answer ∷ []) further

-- what stands in both stands once, and a member goes between those of the other set
pub union-mixed : union (1 ∷ 4 ∷ 7 ∷ []) (2 ∷ 4 ∷ 5 ∷ []) ≡ 1 ∷ 2 ∷ 4 ∷ 5 ∷ 7 ∷ []
union-mixed = refl

pub union-empty : (union [] (3 ∷ []) ≡ 3 ∷ []) × (union (3 ∷ []) [] ≡ 3 ∷ [])
union-empty = (refl, refl)

-- of an odd number of positions the lower half is the smaller one
pub halves-three : (lower_half (1 ∷ 2 ∷ 3 ∷ []) ≡ 1 ∷ []) × (upper_half (1 ∷ 2 ∷ 3 ∷ []) ≡ 2 ∷ 3 ∷ [])
halves-three = (refl, refl)

pub halves-four : (lower_half (1 ∷ 2 ∷ 3 ∷ 4 ∷ []) ≡ 1 ∷ 2 ∷ []) × (upper_half (1 ∷ 2 ∷ 3 ∷ 4 ∷ []) ≡ 3 ∷ 4 ∷ [])
halves-four = (refl, refl)

-- the first answer on a set counts
pub answer-first : answer_to (unsat (1 ∷ 2 ∷ []) ∷ sat (1 ∷ []) ∷ unsat (1 ∷ []) ∷ []) (1 ∷ []) ≡ Some true
answer-first = refl

pub answer-none : answer_to (unsat (1 ∷ 2 ∷ []) ∷ []) (1 ∷ []) ≡ None
answer-none = refl

-- no positions, and one position: nothing is asked
pub none-done : (fd [] [] ≡ Done []) × (qx [] [] ≡ Done [])
none-done = (refl, refl)

pub one-done : (fd (1 ∷ []) [] ≡ Done []) × (qx (1 ∷ []) [] ≡ Done (1 ∷ []))
one-done = (refl, refl)

-- of two positions FastDiag asks the first: after Sat nothing is asked of the second, which can't join it; after
-- Unsat the second is asked
pub two-kept : wants (fd (1 ∷ 2 ∷ [])) [] (sat (1 ∷ []) ∷ []) ≡ Ask (1 ∷ []) ∷ Done (1 ∷ []) ∷ []
two-kept = refl

pub two-second_kept :
    wants (fd (1 ∷ 2 ∷ [])) [] (unsat (1 ∷ []) ∷ sat (2 ∷ []) ∷ []) ≡ Ask (1 ∷ []) ∷ Ask (2 ∷ []) ∷ Done (2 ∷ []) ∷ []
two-second_kept = refl

-- Camera, Basic and GPS of a phone whose camera needs a colour screen: 1 and 2 don't go together. All of the lower
-- half is kept, so that {1,2,3} is Unsat is known and isn't asked. Camera, not Camera and Camera have these answers too
pub phone-kept :
    wants (fd (1 ∷ 2 ∷ 3 ∷ [])) (unsat (1 ∷ 2 ∷ 3 ∷ []) ∷ sat [] ∷ []) (sat (1 ∷ []) ∷ unsat (1 ∷ 2 ∷ []) ∷ sat (1 ∷ 3 ∷ []) ∷ [])
    ≡ Ask (1 ∷ []) ∷ Ask (1 ∷ 2 ∷ []) ∷ Ask (1 ∷ 3 ∷ []) ∷ Done (1 ∷ 3 ∷ []) ∷ []
phone-kept = refl

-- QuickXplain goes on over the answers that were told for FastDiag, and asks one set more
pub phone-conflict :
    wants (qx (1 ∷ 2 ∷ 3 ∷ [])) (unsat (1 ∷ 2 ∷ 3 ∷ []) ∷ sat [] ∷ sat (1 ∷ []) ∷ unsat (1 ∷ 2 ∷ []) ∷ sat (1 ∷ 3 ∷ []) ∷ []) (sat (2 ∷ []) ∷ [])
    ≡ Ask (2 ∷ []) ∷ Done (1 ∷ 2 ∷ []) ∷ []
phone-conflict = refl

-- alone it asks {1} first, and never the empty background
pub phone-conflict_alone :
    wants (qx (1 ∷ 2 ∷ 3 ∷ [])) [] (sat (1 ∷ []) ∷ unsat (1 ∷ 2 ∷ []) ∷ sat (2 ∷ []) ∷ [])
    ≡ Ask (1 ∷ []) ∷ Ask (1 ∷ 2 ∷ []) ∷ Ask (2 ∷ []) ∷ Done (1 ∷ 2 ∷ []) ∷ []
phone-conflict_alone = refl

-- A, B, not A and not B: two conflicts that share nothing
pub opposites-kept :
    wants (fd (1 ∷ 2 ∷ 3 ∷ 4 ∷ [])) (unsat (1 ∷ 2 ∷ 3 ∷ 4 ∷ []) ∷ sat [] ∷ []) (sat (1 ∷ 2 ∷ []) ∷ unsat (1 ∷ 2 ∷ 3 ∷ []) ∷ unsat (1 ∷ 2 ∷ 4 ∷ []) ∷ [])
    ≡ Ask (1 ∷ 2 ∷ []) ∷ Ask (1 ∷ 2 ∷ 3 ∷ []) ∷ Ask (1 ∷ 2 ∷ 4 ∷ []) ∷ Done (1 ∷ 2 ∷ []) ∷ []
opposites-kept = refl

-- the preferred conflict of the two is 1 and 3, and not 2 and 4
pub opposites-conflict :
    wants (qx (1 ∷ 2 ∷ 3 ∷ 4 ∷ []))
    (unsat (1 ∷ 2 ∷ 3 ∷ 4 ∷ []) ∷ sat [] ∷ sat (1 ∷ 2 ∷ []) ∷ unsat (1 ∷ 2 ∷ 3 ∷ []) ∷ unsat (1 ∷ 2 ∷ 4 ∷ []) ∷ [])
    (sat (3 ∷ []) ∷ unsat (1 ∷ 3 ∷ []) ∷ [])
    ≡ Ask (3 ∷ []) ∷ Ask (1 ∷ 3 ∷ []) ∷ Done (1 ∷ 3 ∷ []) ∷ []
opposites-conflict = refl

-- over two of the positions alone
pub opposites-second_conflict :
    wants (qx (2 ∷ 4 ∷ [])) [] (sat (2 ∷ []) ∷ sat (4 ∷ []) ∷ [])
    ≡ Ask (2 ∷ []) ∷ Ask (4 ∷ []) ∷ Done (2 ∷ 4 ∷ []) ∷ []
opposites-second_conflict = refl

-- over a table of all sixteen sets the answer alone
abbrev subsets : List ℕ → List (List ℕ)
subsets [] = [] ∷ []
subsets (position ∷ positions) = subsets positions ++ map (λ (set : List ℕ). position ∷ set) (subsets positions)

abbrev table_of : (List ℕ → Bool) → List ℕ → List Answer
table_of test positions = map (λ (set : List ℕ). record { set = set; sat = test set }) (subsets positions)

-- not both positions are in the set
abbrev apart : ℕ → ℕ → List ℕ → Bool
apart a b set = not (list_any (λ other. other == a) set && list_any (λ other. other == b) set)

pub opposites-all_sets :
    (fd (1 ∷ 2 ∷ 3 ∷ 4 ∷ []) (table_of (λ set. apart 1 3 set && apart 2 4 set) (1 ∷ 2 ∷ 3 ∷ 4 ∷ [])) ≡ Done (1 ∷ 2 ∷ []))
    × (qx (1 ∷ 2 ∷ 3 ∷ 4 ∷ []) (table_of (λ set. apart 1 3 set && apart 2 4 set) (1 ∷ 2 ∷ 3 ∷ 4 ∷ [])) ≡ Done (1 ∷ 3 ∷ []))
opposites-all_sets = (refl, refl)

-- at most three of four: after {1,2,3} it is known that 4 can't join
pub three_of_four-kept :
    wants (fd (1 ∷ 2 ∷ 3 ∷ 4 ∷ [])) (unsat (1 ∷ 2 ∷ 3 ∷ 4 ∷ []) ∷ sat [] ∷ []) (sat (1 ∷ 2 ∷ []) ∷ sat (1 ∷ 2 ∷ 3 ∷ []) ∷ [])
    ≡ Ask (1 ∷ 2 ∷ []) ∷ Ask (1 ∷ 2 ∷ 3 ∷ []) ∷ Done (1 ∷ 2 ∷ 3 ∷ []) ∷ []
three_of_four-kept = refl

pub three_of_four-conflict :
    wants (qx (1 ∷ 2 ∷ 3 ∷ 4 ∷ []))
    (unsat (1 ∷ 2 ∷ 3 ∷ 4 ∷ []) ∷ sat [] ∷ sat (1 ∷ 2 ∷ []) ∷ sat (1 ∷ 2 ∷ 3 ∷ []) ∷ [])
    (sat (1 ∷ 2 ∷ 4 ∷ []) ∷ sat (3 ∷ 4 ∷ []) ∷ sat (1 ∷ 3 ∷ 4 ∷ []) ∷ sat (2 ∷ 3 ∷ 4 ∷ []) ∷ [])
    ≡ Ask (1 ∷ 2 ∷ 4 ∷ []) ∷ Ask (3 ∷ 4 ∷ []) ∷ Ask (1 ∷ 3 ∷ 4 ∷ []) ∷ Ask (2 ∷ 3 ∷ 4 ∷ []) ∷ Done (1 ∷ 2 ∷ 3 ∷ 4 ∷ []) ∷ []
three_of_four-conflict = refl

-- at most one of three
pub one_of_three-kept :
    wants (fd (1 ∷ 2 ∷ 3 ∷ [])) (unsat (1 ∷ 2 ∷ 3 ∷ []) ∷ sat [] ∷ []) (sat (1 ∷ []) ∷ unsat (1 ∷ 2 ∷ []) ∷ unsat (1 ∷ 3 ∷ []) ∷ [])
    ≡ Ask (1 ∷ []) ∷ Ask (1 ∷ 2 ∷ []) ∷ Ask (1 ∷ 3 ∷ []) ∷ Done (1 ∷ []) ∷ []
one_of_three-kept = refl

pub one_of_three-conflict :
    wants (qx (1 ∷ 2 ∷ 3 ∷ [])) (unsat (1 ∷ 2 ∷ 3 ∷ []) ∷ sat [] ∷ sat (1 ∷ []) ∷ unsat (1 ∷ 2 ∷ []) ∷ unsat (1 ∷ 3 ∷ []) ∷ []) (sat (2 ∷ []) ∷ [])
    ≡ Ask (2 ∷ []) ∷ Done (1 ∷ 2 ∷ []) ∷ []
one_of_three-conflict = refl

-- three that only together contradict
pub chain-kept :
    wants (fd (1 ∷ 2 ∷ 3 ∷ [])) (unsat (1 ∷ 2 ∷ 3 ∷ []) ∷ sat [] ∷ []) (sat (1 ∷ []) ∷ sat (1 ∷ 2 ∷ []) ∷ [])
    ≡ Ask (1 ∷ []) ∷ Ask (1 ∷ 2 ∷ []) ∷ Done (1 ∷ 2 ∷ []) ∷ []
chain-kept = refl

pub chain-conflict :
    wants (qx (1 ∷ 2 ∷ 3 ∷ [])) (unsat (1 ∷ 2 ∷ 3 ∷ []) ∷ sat [] ∷ sat (1 ∷ []) ∷ sat (1 ∷ 2 ∷ []) ∷ []) (sat (1 ∷ 3 ∷ []) ∷ sat (2 ∷ 3 ∷ []) ∷ [])
    ≡ Ask (1 ∷ 3 ∷ []) ∷ Ask (2 ∷ 3 ∷ []) ∷ Done (1 ∷ 2 ∷ 3 ∷ []) ∷ []
chain-conflict = refl

-- 1 and 2 of four don't go together. Something of the lower half is kept, but not all: so nothing is known of the
-- upper half, and {1,3,4} is asked
pub lower_pair-kept :
    wants (fd (1 ∷ 2 ∷ 3 ∷ 4 ∷ [])) [] (unsat (1 ∷ 2 ∷ []) ∷ sat (1 ∷ []) ∷ sat (1 ∷ 3 ∷ 4 ∷ []) ∷ [])
    ≡ Ask (1 ∷ 2 ∷ []) ∷ Ask (1 ∷ []) ∷ Ask (1 ∷ 3 ∷ 4 ∷ []) ∷ Done (1 ∷ 3 ∷ 4 ∷ []) ∷ []
lower_pair-kept = refl

-- only 5 of five can't stand: what is known is handed on twice, and {1,2,3,4,5} is never asked
pub last_of_five-kept :
    wants (fd (1 ∷ 2 ∷ 3 ∷ 4 ∷ 5 ∷ [])) [] (sat (1 ∷ 2 ∷ []) ∷ sat (1 ∷ 2 ∷ 3 ∷ []) ∷ sat (1 ∷ 2 ∷ 3 ∷ 4 ∷ []) ∷ [])
    ≡ Ask (1 ∷ 2 ∷ []) ∷ Ask (1 ∷ 2 ∷ 3 ∷ []) ∷ Ask (1 ∷ 2 ∷ 3 ∷ 4 ∷ []) ∷ Done (1 ∷ 2 ∷ 3 ∷ 4 ∷ []) ∷ []
last_of_five-kept = refl

-- nothing can stand: each part but the whole is asked once, four of three positions
pub nothing-kept :
    wants (fd (1 ∷ 2 ∷ 3 ∷ [])) [] (unsat (1 ∷ []) ∷ unsat (2 ∷ 3 ∷ []) ∷ unsat (2 ∷ []) ∷ unsat (3 ∷ []) ∷ [])
    ≡ Ask (1 ∷ []) ∷ Ask (2 ∷ 3 ∷ []) ∷ Ask (2 ∷ []) ∷ Ask (3 ∷ []) ∷ Done [] ∷ []
nothing-kept = refl

-- 1 alone can't stand: the upper half is kept at one check, and 1 is the conflict
pub first_alone :
    (wants (fd (1 ∷ 2 ∷ 3 ∷ [])) [] (unsat (1 ∷ []) ∷ sat (2 ∷ 3 ∷ []) ∷ []) ≡ Ask (1 ∷ []) ∷ Ask (2 ∷ 3 ∷ []) ∷ Done (2 ∷ 3 ∷ []) ∷ [])
    × (wants (qx (1 ∷ 2 ∷ 3 ∷ [])) [] (unsat (1 ∷ []) ∷ []) ≡ Ask (1 ∷ []) ∷ Done (1 ∷ []) ∷ [])
first_alone = (refl, refl)

-- over other positions than the first numbers: 2 and 9 don't go together
pub other_positions :
    (wants (fd (2 ∷ 5 ∷ 9 ∷ [])) [] (sat (2 ∷ []) ∷ sat (2 ∷ 5 ∷ []) ∷ []) ≡ Ask (2 ∷ []) ∷ Ask (2 ∷ 5 ∷ []) ∷ Done (2 ∷ 5 ∷ []) ∷ [])
    × (wants (qx (2 ∷ 5 ∷ 9 ∷ [])) [] (sat (2 ∷ []) ∷ sat (2 ∷ 5 ∷ []) ∷ unsat (2 ∷ 9 ∷ []) ∷ sat (9 ∷ []) ∷ [])
    ≡ Ask (2 ∷ []) ∷ Ask (2 ∷ 5 ∷ []) ∷ Ask (2 ∷ 9 ∷ []) ∷ Ask (9 ∷ []) ∷ Done (2 ∷ 9 ∷ []) ∷ [])
other_positions = (refl, refl)

-- answers that contradict each other, {1,2} and the whole here, are taken as they stand
pub not_closed :
    fd (1 ∷ 2 ∷ 3 ∷ []) (sat (1 ∷ 2 ∷ 3 ∷ []) ∷ sat (1 ∷ []) ∷ unsat (1 ∷ 2 ∷ []) ∷ sat (1 ∷ 3 ∷ []) ∷ []) ≡ Done (1 ∷ 3 ∷ [])
not_closed = refl

-- places of positions 3, 5 and 8, and what is asked for them behind 4
pub places-two : at_places (3 ∷ 5 ∷ 8 ∷ []) (1 ∷ 3 ∷ []) ≡ 3 ∷ 8 ∷ []
places-two = refl

pub places-none : at_places (3 ∷ 5 ∷ 8 ∷ []) [] ≡ []
places-none = refl

pub places-asked : next_at_places (3 ∷ 5 ∷ 8 ∷ []) (4 ∷ []) (Ask (1 ∷ 3 ∷ [])) ≡ Ask (3 ∷ 4 ∷ 8 ∷ [])
places-asked = refl

-- behind 4 the positions 3, 5 and 8 are gone through as 1, 2 and 3 are
pub places-behind :
    fd_behind (sat (3 ∷ 4 ∷ []) ∷ unsat (3 ∷ 4 ∷ 5 ∷ []) ∷ []) (3 ∷ 5 ∷ 8 ∷ []) (4 ∷ []) true
    ≡ next_at_places (3 ∷ 5 ∷ 8 ∷ []) (4 ∷ []) (fd (1 ∷ 2 ∷ 3 ∷ []) (sat (1 ∷ []) ∷ unsat (1 ∷ 2 ∷ []) ∷ []))
places-behind = refl
