-- Worked examples of the sequential run: which keys are checked, in order, and how the job ends. Each computes.
use Rattle.std.specs.Prelude.{◌≡◌, ℕ, Bool, true, false, not, ◌&&◌, ◌||◌, nat_eq, option_map, List, [], ◌∷◌, ◌==◌, map, length, Option, Some, None, if◌then◌else◌, refl}
use Rattle.std.specs.Cmp.Lexicographic.{pointwise}
use Rattle.std.specs.List.{list_any}
use Rattle.req_keys.specs.Key.{PositionSet}
use Rattle.req_keys.specs.Wanting.{key_over}
use Rattle.req_keys.specs.declared.verdict.Verdict.{Verdict}
use Rattle.req_keys.specs.declared.verdict.Verdict.TheVariants.{Sat, Unsat, Limit}
use Rattle.script.specs.declared.job.JobPlan.{JobPlan}
use Rattle.script.specs.declared.job.Outcome.{Outcome}
use Rattle.script.specs.declared.job.Outcome.TheVariants.{Consistent, Explained, LimitAt}
use Rattle.script.specs.declared.job.Outcome.TheVariants as outcome
use Rattle.script.specs.declared.job.Part.{Part}
use Rattle.script.specs.declared.job.Part.TheVariants as part
use Rattle.script.specs.Job.{asks, ends, want}
use Rattle.script.specs.Sequential.{needs, result_of}

abbrev plan : ℕ → Option ℕ → JobPlan
plan n list = record { requirements = n; list = list }

-- whether the item is in the set
abbrev has : ℕ → List ℕ → Bool
has item set = list_any (λ other. other == item) set

-- the verdict of each key, by whether its members go together
abbrev by_test : (List ℕ → Bool) → PositionSet → Verdict
by_test test key = if test key.members then Sat else Unsat

-- the keys that a run checks, as sets
abbrev checks : JobPlan → (PositionSet → Verdict) → List (List ℕ)
checks plan verdict = map (λ pair. pair.0.members) (needs plan verdict)

-- a job that is explained
abbrev explained : ℕ → List ℕ → List ℕ → Option (List (List ℕ)) → Option Outcome
explained n kept conflict None = Some (Explained (record { kept = Some (key_over n kept); conflict = Some (key_over n conflict); listing = None }))
explained n kept conflict (Some listing) =
    Some (Explained (record { kept = Some (key_over n kept); conflict = Some (key_over n conflict); listing = Some (map (key_over n) listing) }))

-- Camera, Basic and GPS of a phone whose camera needs a colour screen: 1 and 2 don't go together
abbrev phone : List ℕ → Bool
phone set = not (has 1 set && has 2 set)

pub phone-needs :
    needs (plan 3 None) (by_test phone)
    ≡ (key_over 3 (1 ∷ 2 ∷ 3 ∷ []), Unsat) ∷ (key_over 3 [], Sat) ∷ (key_over 3 (1 ∷ []), Sat)
    ∷ (key_over 3 (1 ∷ 2 ∷ []), Unsat) ∷ (key_over 3 (1 ∷ 3 ∷ []), Sat) ∷ (key_over 3 (2 ∷ []), Sat) ∷ []
phone-needs = refl

pub phone-result : result_of (plan 3 None) (by_test phone) ≡ explained 3 (1 ∷ 3 ∷ []) (1 ∷ 2 ∷ []) None
phone-result = refl

-- with the listing one more: {1,3} was told for the kept set, and is not asked again
pub phone-list_checks :
    checks (plan 3 (Some 3)) (by_test phone)
    ≡ (1 ∷ 2 ∷ 3 ∷ []) ∷ [] ∷ (1 ∷ []) ∷ (1 ∷ 2 ∷ []) ∷ (1 ∷ 3 ∷ []) ∷ (2 ∷ []) ∷ (2 ∷ 3 ∷ []) ∷ []
phone-list_checks = refl

pub phone-list_result :
    result_of (plan 3 (Some 3)) (by_test phone) ≡ explained 3 (1 ∷ 3 ∷ []) (1 ∷ 2 ∷ []) (Some ((2 ∷ []) ∷ (1 ∷ []) ∷ []))
phone-list_result = refl

-- up to size 0 there is a listing, and it is empty
pub phone-list_zero :
    (result_of (plan 3 (Some 0)) (by_test phone) ≡ explained 3 (1 ∷ 3 ∷ []) (1 ∷ 2 ∷ []) (Some []))
    × (length (needs (plan 3 (Some 0)) (by_test phone)) ≡ 6)
phone-list_zero = (refl, refl)

-- no requirements: one check where there is a product, and one where there is none, since all of none are none
pub none-consistent :
    (checks (plan 0 None) (by_test (λ set. true)) ≡ [] ∷ []) × (result_of (plan 0 None) (by_test (λ set. true)) ≡ Some Consistent)
none-consistent = (refl, refl)

pub none-background :
    (checks (plan 0 None) (by_test (λ set. false)) ≡ [] ∷ []) × (result_of (plan 0 None) (by_test (λ set. false)) ≡ Some outcome.Background)
none-background = (refl, refl)

-- one requirement, and no product: two checks
pub one-background :
    (checks (plan 1 None) (by_test (λ set. false)) ≡ (1 ∷ []) ∷ [] ∷ []) × (result_of (plan 1 None) (by_test (λ set. false)) ≡ Some outcome.Background)
one-background = (refl, refl)

-- all of three can be met: one check, though a listing is asked for
pub all-consistent :
    (checks (plan 3 (Some 3)) (by_test (λ set. true)) ≡ (1 ∷ 2 ∷ 3 ∷ []) ∷ []) × (result_of (plan 3 (Some 3)) (by_test (λ set. true)) ≡ Some Consistent)
all-consistent = (refl, refl)

-- not Phone: one requirement that no phone meets
pub not_phone-checks : checks (plan 1 None) (by_test (λ set. not (has 1 set))) ≡ (1 ∷ []) ∷ [] ∷ []
not_phone-checks = refl

pub not_phone-result : result_of (plan 1 None) (by_test (λ set. not (has 1 set))) ≡ explained 1 [] (1 ∷ []) None
not_phone-result = refl

-- Camera, not Camera, Camera
abbrev camera_or_not : List ℕ → Bool
camera_or_not set = not (has 2 set && (has 1 set || has 3 set))

pub camera-checks :
    checks (plan 3 (Some 3)) (by_test camera_or_not)
    ≡ (1 ∷ 2 ∷ 3 ∷ []) ∷ [] ∷ (1 ∷ []) ∷ (1 ∷ 2 ∷ []) ∷ (1 ∷ 3 ∷ []) ∷ (2 ∷ []) ∷ (2 ∷ 3 ∷ []) ∷ (3 ∷ []) ∷ []
camera-checks = refl

pub camera-result :
    result_of (plan 3 (Some 3)) (by_test camera_or_not) ≡ explained 3 (1 ∷ 3 ∷ []) (1 ∷ 2 ∷ []) (Some ((2 ∷ []) ∷ (1 ∷ 3 ∷ []) ∷ []))
camera-result = refl

-- A, B, not A, not B
abbrev opposites : List ℕ → Bool
opposites set = not (has 1 set && has 3 set) && not (has 2 set && has 4 set)

pub opposites-checks :
    checks (plan 4 (Some 4)) (by_test opposites)
    ≡ (1 ∷ 2 ∷ 3 ∷ 4 ∷ []) ∷ [] ∷ (1 ∷ 2 ∷ []) ∷ (1 ∷ 2 ∷ 3 ∷ []) ∷ (1 ∷ 2 ∷ 4 ∷ []) ∷ (3 ∷ []) ∷ (1 ∷ 3 ∷ [])
    ∷ (1 ∷ []) ∷ (1 ∷ 4 ∷ []) ∷ (2 ∷ 4 ∷ []) ∷ (2 ∷ 3 ∷ []) ∷ (3 ∷ 4 ∷ []) ∷ []
opposites-checks = refl

pub opposites-result :
    result_of (plan 4 (Some 4)) (by_test opposites)
    ≡ explained 4 (1 ∷ 2 ∷ []) (1 ∷ 3 ∷ []) (Some ((3 ∷ 4 ∷ []) ∷ (2 ∷ 3 ∷ []) ∷ (1 ∷ 4 ∷ []) ∷ (1 ∷ 2 ∷ []) ∷ []))
opposites-result = refl

-- at most three of four: FastDiag asks two sets, and QuickXplain four others
abbrev three_of_four : List ℕ → Bool
three_of_four set = not (has 1 set && has 2 set && has 3 set && has 4 set)

pub three_of_four-checks :
    checks (plan 4 None) (by_test three_of_four)
    ≡ (1 ∷ 2 ∷ 3 ∷ 4 ∷ []) ∷ [] ∷ (1 ∷ 2 ∷ []) ∷ (1 ∷ 2 ∷ 3 ∷ []) ∷ (1 ∷ 2 ∷ 4 ∷ []) ∷ (3 ∷ 4 ∷ []) ∷ (1 ∷ 3 ∷ 4 ∷ []) ∷ (2 ∷ 3 ∷ 4 ∷ []) ∷ []
three_of_four-checks = refl

pub three_of_four-result :
    result_of (plan 4 None) (by_test three_of_four) ≡ explained 4 (1 ∷ 2 ∷ 3 ∷ []) (1 ∷ 2 ∷ 3 ∷ 4 ∷ []) None
three_of_four-result = refl

-- at most one of three
abbrev one_of_three : List ℕ → Bool
one_of_three set = not (has 1 set && has 2 set) && not (has 1 set && has 3 set) && not (has 2 set && has 3 set)

pub one_of_three-checks :
    checks (plan 3 (Some 3)) (by_test one_of_three)
    ≡ (1 ∷ 2 ∷ 3 ∷ []) ∷ [] ∷ (1 ∷ []) ∷ (1 ∷ 2 ∷ []) ∷ (1 ∷ 3 ∷ []) ∷ (2 ∷ []) ∷ (3 ∷ []) ∷ (2 ∷ 3 ∷ []) ∷ []
one_of_three-checks = refl

pub one_of_three-result :
    result_of (plan 3 (Some 3)) (by_test one_of_three)
    ≡ explained 3 (1 ∷ []) (1 ∷ 2 ∷ []) (Some ((2 ∷ 3 ∷ []) ∷ (1 ∷ 3 ∷ []) ∷ (1 ∷ 2 ∷ []) ∷ []))
one_of_three-result = refl

-- the same phone, where the search for one key spends its allowance
abbrev limit_at : List ℕ → PositionSet → Verdict
limit_at set key = if pointwise nat_eq set key.members then Limit else by_test phone key

abbrev limit_in : Part → ℕ → List ℕ → Option (List ℕ) → Option (List ℕ) → Option Outcome
limit_in part n set kept conflict =
    Some (LimitAt part (key_over n set) (record { kept = option_map (key_over n) kept; conflict = option_map (key_over n) conflict; listing = None }))

-- the first check, and the second; the key that was a Limit is told
pub limit-all :
    (result_of (plan 3 None) (limit_at (1 ∷ 2 ∷ 3 ∷ [])) ≡ limit_in part.All 3 (1 ∷ 2 ∷ 3 ∷ []) None None)
    × (needs (plan 3 None) (limit_at (1 ∷ 2 ∷ 3 ∷ [])) ≡ (key_over 3 (1 ∷ 2 ∷ 3 ∷ []), Limit) ∷ [])
limit-all = (refl, refl)

pub limit-background : result_of (plan 3 None) (limit_at []) ≡ limit_in part.Background 3 [] None None
limit-background = refl

-- in FastDiag, at its last check: no kept set is known then
pub limit-kept :
    (result_of (plan 3 None) (limit_at (1 ∷ 3 ∷ [])) ≡ limit_in part.Kept 3 (1 ∷ 3 ∷ []) None None)
    × (length (needs (plan 3 None) (limit_at (1 ∷ 3 ∷ []))) ≡ 5)
limit-kept = (refl, refl)

-- in QuickXplain the kept set is known, and in the listing the conflict too
pub limit-conflict : result_of (plan 3 (Some 3)) (limit_at (2 ∷ [])) ≡ limit_in part.Conflict 3 (2 ∷ []) (Some (1 ∷ 3 ∷ [])) None
limit-conflict = refl

pub limit-listing :
    result_of (plan 3 (Some 3)) (limit_at (2 ∷ 3 ∷ [])) ≡ limit_in part.Listing 3 (2 ∷ 3 ∷ []) (Some (1 ∷ 3 ∷ [])) (Some (1 ∷ 2 ∷ []))
limit-listing = refl

-- a Limit of a key that isn't needed is never seen
pub limit-unneeded : result_of (plan 3 None) (limit_at (2 ∷ 3 ∷ [])) ≡ explained 3 (1 ∷ 3 ∷ []) (1 ∷ 2 ∷ []) None
limit-unneeded = refl

-- no requirements, and the one check spends its allowance
pub limit-none : result_of (plan 0 None) (λ key. Limit) ≡ limit_in part.All 0 [] None None
limit-none = refl

-- over told pairs the part and its key are wanted, whatever else was told: {2,3} is known before the listing asks for it
pub wanted-beside_others :
    want (plan 3 None) ((key_over 3 (1 ∷ 2 ∷ 3 ∷ []), Unsat) ∷ (key_over 3 (2 ∷ 3 ∷ []), Sat) ∷ (key_over 3 [], Sat) ∷ (key_over 3 (1 ∷ []), Sat) ∷ [])
    ≡ asks part.Kept (key_over 3 (1 ∷ 2 ∷ []))
wanted-beside_others = refl

-- the first pair of a key counts
pub wanted-first : want (plan 1 None) ((key_over 1 (1 ∷ []), Sat) ∷ (key_over 1 (1 ∷ []), Unsat) ∷ []) ≡ ends Consistent
wanted-first = refl
