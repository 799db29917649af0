-- The hitting-set tree over a table of answers (after Reiter 1987), for minimal diagnoses of the positions 1, 2, .., n up to
-- a size. That it goes level by level, which labels are used again, and in which order sets are taken, is own to this project.
use Rattle.std.specs.Prelude.{ℕ, zero, suc, Bool, true, false, not, Option, Some, None, List, [], ◌∷◌, ◌++◌, length, fold, if◌then◌else◌}
use Rattle.std.specs.Cmp.Lexicographic.{slice_cmp}
use Rattle.std.specs.List.{list_any, list_all}
use Rattle.std.specs.Ordering.{nat_cmp, on, flip_args, then_cmp}
use Rattle.std.specs.declared.cmp.Ordering.{Ordering}
use Rattle.std.specs.declared.cmp.Ordering.TheVariants.{Less, Equal, Greater}
use Rattle.pref_sets.specs.Answers.{Answer, Next, answer_to}
use Rattle.pref_sets.specs.Answers.Next.{Ask, Done}
use Rattle.pref_sets.specs.Positions.{with_position}
use Rattle.pref_sets.specs.QuickXplain.{qx}
use Rattle.req_keys.specs.Positions.{has, positions_where}

-- whether each position of `a` is in `b`
abbrev pub is_within : List ℕ → List ℕ → Bool
is_within a b = list_all (has b) a

-- whether no position of `a` is in `b`
abbrev pub is_apart : List ℕ → List ℕ → Bool
is_apart a b = list_all (λ position. not (has b position)) a

-- the positions that aren't in the set
abbrev pub without : ℕ → List ℕ → List ℕ
without n set = positions_where n (λ position. not (has set position))

-- the order of diagnoses: fewer positions first, and of two ascending sets of one size the one that lacks the first position
-- which only one of them has, as it has the greater position at the first place where their lists differ
abbrev pub set_cmp : List ℕ → List ℕ → Ordering
set_cmp = then_cmp (on (λ set. length set) nat_cmp) (flip_args (slice_cmp nat_cmp))

-- by how a set compares with another: it goes before that one, is the same, or goes behind it
abbrev pub by_place : Ordering → List (List ℕ) → List (List ℕ) → List (List ℕ) → List (List ℕ)
by_place Less before same behind = before
by_place Equal before same behind = same
by_place Greater before same behind = behind

-- a sorted level and one more set at its place; one that is there stays once
abbrev pub with_set : List (List ℕ) → List ℕ → List (List ℕ)
with_set [] set = set ∷ []
with_set (first ∷ sets) set =
    by_place (set_cmp set first) (set ∷ first ∷ sets) (first ∷ sets) (first ∷ with_set sets set)

-- the next level with the sets that come from one set: the set with one position of its label, for each of them
abbrev pub with_children : List ℕ → List ℕ → List (List ℕ) → List (List ℕ)
with_children set label next = fold (λ sets position. with_set sets (with_position position set)) next label

-- the label of a set among the known conflicts: the first in the order of finding that shares nothing with it
abbrev pub known_label : List (List ℕ) → List ℕ → Option (List ℕ)
known_label [] set = None
known_label (conflict ∷ known) set = if is_apart conflict set then Some conflict else known_label known set

-- where the tree stands: the diagnoses found so far, the known conflicts, both in the order of finding, and the sets of
-- the next level so far
pub record Standing : Type 0 where
  pub found : List (List ℕ)
  pub known : List (List ℕ)
  pub next : List (List ℕ)

-- a set is asked, with these diagnoses found so far, or all that was to do is done
pub data Outcome : Type 0 where
  asks : List (List ℕ) → List ℕ → Outcome
  ends : Standing → Outcome

-- the set is a diagnosis
abbrev pub with_found : Standing → List ℕ → Standing
with_found standing set = record standing { found = standing.found ++ set ∷ [] }

-- the set has a known label
abbrev pub labelled : Standing → List ℕ → List ℕ → Standing
labelled standing set label = record standing { next = with_children set label standing.next }

-- the label of the set is made, and known from then on
abbrev pub by_label : Standing → List ℕ → Next → Outcome
by_label standing set (Ask other) = asks standing.found other
by_label standing set (Done label) =
    ends (record { found = standing.found; known = standing.known ++ label ∷ []; next = with_children set label standing.next })

-- the rest is Unsat: the set is no diagnosis. QuickXplain makes a label of the rest, if that isn't empty, and if the level
-- isn't the last
abbrev pub by_conflict : List Answer → Bool → Standing → List ℕ → List ℕ → Outcome
by_conflict table true standing set rest = ends standing
by_conflict table false standing set [] = ends standing
by_conflict table false standing set (position ∷ rest) = by_label standing set (qx (position ∷ rest) table)

-- the answer on the rest says whether the set is a diagnosis
abbrev pub by_rest : List Answer → Bool → Standing → List ℕ → List ℕ → Option Bool → Outcome
by_rest table last standing set rest None = asks standing.found rest
by_rest table last standing set rest (Some true) = ends (with_found standing set)
by_rest table last standing set rest (Some false) = by_conflict table last standing set rest

-- a known label is used; where there is none, the answer on the rest of the positions decides
abbrev pub by_known : ℕ → List Answer → Bool → Standing → List ℕ → Option (List ℕ) → Outcome
by_known n table last standing set (Some label) = ends (labelled standing set label)
by_known n table last standing set None = by_rest table last standing set (without n set) (answer_to table (without n set))

-- one set of a level. A set that has all of a found diagnosis is skipped
abbrev pub one_set : ℕ → List Answer → Bool → Standing → List ℕ → Outcome
one_set n table last standing set =
    if list_any (λ diagnosis. is_within diagnosis set) standing.found then ends standing
    else by_known n table last standing set (known_label standing.known set)

-- what follows a part that ends; one that asks is waited for
abbrev pub further : Outcome → (Standing → Outcome) → Outcome
further (asks found set) follow = asks found set
further (ends standing) follow = follow standing

-- the sets of a level, one after the other. On the last level no label is made
abbrev pub one_level : ℕ → List Answer → Bool → List (List ℕ) → Standing → Outcome
one_level n table last [] standing = ends standing
one_level n table last (set ∷ sets) standing = further (one_set n table last standing set) (λ after. one_level n table last sets after)

-- a level, and `more` levels behind it at most; an empty level ends the tree before that
abbrev pub levels : ℕ → List Answer → ℕ → List (List ℕ) → Standing → Outcome
levels n table zero sets standing = one_level n table true sets standing
levels n table (suc more) [] standing = ends standing
levels n table (suc more) (set ∷ sets) standing =
    further (one_level n table false (set ∷ sets) standing) (λ after. levels n table more after.next (record after { next = [] }))

-- the tree over n positions, of which `first` is a known conflict, up to diagnoses of `most` positions. Its first level
-- is the empty set alone
abbrev pub tree : ℕ → List ℕ → ℕ → List Answer → Outcome
tree n first most table = levels n table most ([] ∷ []) (record { found = []; known = first ∷ []; next = [] })

-- the diagnoses found so far
abbrev pub found_by : Outcome → List (List ℕ)
found_by (asks found set) = found
found_by (ends standing) = standing.found

-- the set that is asked, or that all is done; the set of `Done` says nothing here
abbrev pub next_of : Outcome → Next
next_of (asks found set) = Ask set
next_of (ends standing) = Done []
