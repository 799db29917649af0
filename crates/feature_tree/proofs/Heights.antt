-- Heights of chains, and what is read of a chain that grows at its end.
use Rattle.std.proofs.Common.{◌≡◌, ◌∙◌, refl, ap, sym, subst, ℕ, ◌<◌, ◌≤◌, max, List, [], ◌∷◌, ◌++◌, All, Ok, Err, true, false, nat_le, arith}
use Rattle.std.proofs.lemmas.Bool.Decides.{nat_tests}
use Rattle.feature_tree.specs.declared.reader.error.FormulaError.TheVariants.{TooDeep}
use Rattle.std.proofs.lemmas.List.Elements.{All-nil, All-cons, All-head, All-tail}
use Rattle.feature_tree.specs.declared.formula.Formula.{Formula}
use Rattle.feature_tree.specs.declared.formula.Formula.TheVariants as formula
use Rattle.feature_tree.specs.declared.reader.parsed.Parsed.{Parsed}
use Rattle.feature_tree.specs.declared.reader.role.Level.{Level}
use Rattle.feature_tree.specs.declared.reader.role.Level.TheVariants.{Same, Implies, Any, All as AllLevel}
use Rattle.feature_tree.specs.Grammar.{paired, from_the_left, highest, in_one_node, joined}
use Rattle.feature_tree.specs.inside.Descent.{IsLow, within}

-- ---- the highest member

pub highest-append : (xs ys : List Parsed) → highest (xs ++ ys) ≡ max (highest xs) (highest ys)
highest-append [] ys = omega arith
highest-append (x ∷ xs) ys = let more = highest-append xs ys in omega arith

pub highest-push : (xs : List Parsed) (y : Parsed) → highest (xs ++ y ∷ []) ≡ max (highest xs) y.height
highest-push xs y = let more = highest-append xs (y ∷ []) in omega arith

pub highest_of_low : (room : ℕ) (xs : List Parsed) → All (IsLow room) xs → highest xs ≤ room
highest_of_low room [] low = omega arith
highest_of_low room (x ∷ xs) low =
    let here : x.height ≤ room = All-head (IsLow room) x xs low in
    let more = highest_of_low room xs (All-tail (IsLow room) x xs low) in
    omega arith

pub low_of_highest : (room : ℕ) (xs : List Parsed) → highest xs ≤ room → All (IsLow room) xs
low_of_highest room [] low = All-nil (IsLow room)
low_of_highest room (x ∷ xs) low =
    let here : x.height ≤ room = omega arith in
    let more : highest xs ≤ room = omega arith in
    All-cons (IsLow room) x xs here (low_of_highest room xs more)

-- ---- chains that group from the left

module _ (pair : Formula → Formula → Formula) where
  pub from_the_left-append : (first : Parsed) (xs ys : List Parsed)
      → from_the_left pair first (xs ++ ys) ≡ from_the_left pair (from_the_left pair first xs) ys
  from_the_left-append first [] ys = refl
  from_the_left-append first (x ∷ xs) ys = from_the_left-append (paired pair first x) xs ys

  pub from_the_left-higher : (first : Parsed) (others : List Parsed) → first.height ≤ (from_the_left pair first others).height
  from_the_left-higher first [] = omega arith
  from_the_left-higher first (x ∷ xs) = let more = from_the_left-higher (paired pair first x) xs in omega arith

  pub from_the_left-highest : (first : Parsed) (others : List Parsed) → highest (first ∷ others) ≤ (from_the_left pair first others).height
  from_the_left-highest first [] = omega arith
  from_the_left-highest first (x ∷ xs) = let more = from_the_left-highest (paired pair first x) xs in omega arith

pub in_one_node-highest : (node : List Formula → Formula) (first : Parsed) (others : List Parsed)
    → highest (first ∷ others) ≤ (in_one_node node first others).height
in_one_node-highest node first [] = omega arith
in_one_node-highest node first (x ∷ xs) = omega arith

-- no member of a chain is higher than the chain
pub highest_in_joined : (level : Level) (first : Parsed) (others : List Parsed) → highest (first ∷ others) ≤ (joined level first others).height
highest_in_joined Same first others = from_the_left-highest _ first others
highest_in_joined Implies first others = from_the_left-highest _ first others
highest_in_joined Any first others = in_one_node-highest formula.Any first others
highest_in_joined AllLevel first others = in_one_node-highest formula.All first others

-- ---- the room

pub within-low : (room : ℕ) (parsed : Parsed) → parsed.height ≤ room → within room parsed ≡ Ok parsed
within-low room parsed low = let fits : nat_le parsed.height room ≡ true = grind (arith, nat_tests) in rw fits refl

pub within-high : (room : ℕ) (parsed : Parsed) → room < parsed.height → within room parsed ≡ Err TooDeep
within-high room parsed high = let fits : nat_le parsed.height room ≡ false = grind (arith, nat_tests) in rw fits refl

-- ---- one step of a chain

module _ (pair : Formula → Formula → Formula) where
  pub left_step : (goal : Parsed) (whole : Parsed) (rest : List Parsed) (next : Parsed) (others : List Parsed) (wider : Parsed)
      → from_the_left pair whole rest ≡ goal → rest ≡ next ∷ others → wider ≡ paired pair whole next → from_the_left pair wider others ≡ goal
  left_step goal whole rest next others wider is split step =
      ap (λ w. from_the_left pair w others) step ∙ sym (ap (λ all. from_the_left pair whole all) split) ∙ is

  pub left_too_high : (room : ℕ) (goal : Parsed) (wider : Parsed) (others : List Parsed)
      → from_the_left pair wider others ≡ goal → room < wider.height → within room goal ≡ Err TooDeep
  left_too_high room goal wider others is high =
      let more = from_the_left-higher pair wider others in
      let same : (from_the_left pair wider others).height ≡ goal.height = ap (λ r. r.height) is in
      within-high room goal (omega arith)

pub All-rest : {X : Type 0} (P : X → Type 0) (rest : List X) (next : X) (others : List X) → rest ≡ next ∷ others → All P rest → All P others
All-rest P rest next others split all = All-tail P next others (subst (All P) split all)
