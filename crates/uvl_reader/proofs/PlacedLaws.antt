-- Lines with their places: which lines come before which, and where a feature is found among the features.
use Rattle.std.proofs.Common.{◌≡◌, ℕ, suc, ◌+◌, ◌<◌, ◌≤◌, ◌==◌, nat_lt, Bool, true, false, if◌then◌else◌, List, [], ◌∷◌, ◌++◌, length, map, refl, sym, ap, subst, arith, inl, inr}
use Rattle.std.proofs.lemmas.Bool.{cases_Bool}
use Rattle.std.proofs.lemmas.Bool.Decides.{nat_tests}
use Rattle.std.specs.List.{filter, position, position_or_len}
use Rattle.std.specs.Option.{unwrap_or}
use Rattle.feature_tree.specs.Growing.{changed_at}
use Rattle.uvl_lex.specs.declared.token.Line.{Line}
use Rattle.uvl_reader.specs.Nesting.{lines_above}
use Rattle.uvl_reader.specs.LineKinds.{kind_of}
use Rattle.uvl_reader.specs.ModelReading.{PlacedLine}

-- ---- what holds of each item

abbrev pub Each : {X : Type 0} → (X → Type 0) → List X → Type 0
Each Q [] = Unit {0}
Each Q (x ∷ xs) = Q x × Each Q xs

module _ {X : Type 0} (Q : X → Type 0) where
  pub each_append : (xs ys : List X) → Each Q xs → Each Q ys → Each Q (xs ++ ys)
  each_append [] ys h k = k
  each_append (x ∷ xs) ys h k = (h.0, each_append xs ys h.1 k)

  pub each_filter : (test : X → Bool) (xs : List X) → Each Q xs → Each Q (filter test xs)
  each_filter test [] h = tt
  each_filter test (x ∷ xs) h =
      elim (cases_Bool (test x)) [ inl y ↦ rw y (h.0, each_filter test xs h.1) | inr n ↦ rw n (each_filter test xs h.1) ]

pub each_weaker : {X : Type 0} (P Q : X → Type 0) → ((x : X) → P x → Q x) → (xs : List X) → Each P xs → Each Q xs
each_weaker P Q f [] h = tt
each_weaker P Q f (x ∷ xs) h = (f x h.0, each_weaker P Q f xs h.1)

pub map_each : {X Y : Type 0} (f g : X → Y) (xs : List X) → Each (λ x. f x ≡ g x) xs → map f xs ≡ map g xs
map_each f g [] h = refl
map_each f g (x ∷ xs) h = let first = h.0 in let rest = map_each f g xs h.1 in cc

pub filter_none : {X : Type 0} (test : X → Bool) (xs : List X) → Each (λ x. test x ≡ false) xs → filter test xs ≡ []
filter_none test [] h = refl
filter_none test (x ∷ xs) h = rw h.0 (filter_none test xs h.1)

-- ---- lines before a line

pub each_above : (Q : Line → Type 0) (before : List Line) (indent : ℕ) → Each Q before → Each Q (lines_above before indent)
each_above Q [] indent h = tt
each_above Q (last ∷ before) indent h =
    elim (cases_Bool (nat_lt last.indent indent)) [
      | inl y ↦ rw y (h.0, each_above Q before last.indent h.1)
      | inr n ↦ rw n (each_above Q before indent h.1)
    ]

abbrev pub AllLess : ℕ → List Line → Type 0
AllLess number lines = Each (λ line. line.number < number) lines

-- the numbers of the lines, the latest first, fall
abbrev pub Falling : List Line → Type 0
Falling [] = Unit {0}
Falling (last ∷ before) = AllLess last.number before × Falling before

pub less_weaker : (low high : ℕ) (lines : List Line) → low ≤ high → AllLess low lines → AllLess high lines
less_weaker low high lines l h = each_weaker (λ line. line.number < low) (λ line. line.number < high) (λ line k. omega arith) lines h

-- ---- lines with their places

abbrev pub place : List Line → Line → PlacedLine
place before line = record { line = line; kind = kind_of before line; above = lines_above before line.indent }

-- the lines with their places, in the order of the file; they are given with the latest first
abbrev pub placed_of : List Line → List PlacedLine
placed_of [] = []
placed_of (last ∷ before) = placed_of before ++ place before last ∷ []

-- a line, and all that it stands under, come before this number
abbrev pub IsBefore : ℕ → PlacedLine → Type 0
IsBefore number at = (at.line.number < number) × AllLess number at.above

pub all_before : (number : ℕ) (before : List Line) → AllLess number before → Each (IsBefore number) (placed_of before)
all_before number [] h = tt
all_before number (last ∷ before) h =
    each_append (IsBefore number) (placed_of before) (place before last ∷ []) (all_before number before h.1)
    ((h.0, each_above (λ line. line.number < number) before last.indent h.1), tt)

abbrev pub Rising : List PlacedLine → Type 0
Rising [] = Unit {0}
Rising (at ∷ placed) = Each (λ later. at.line.number < later.line.number) placed × Rising placed

rising_push : (placed : List PlacedLine) (x : PlacedLine) → Rising placed → Each (λ at. at.line.number < x.line.number) placed → Rising (placed ++ x ∷ [])
rising_push [] x h k = (tt, tt)
rising_push (at ∷ placed) x h k =
    (each_append (λ (later : PlacedLine). at.line.number < later.line.number) placed (x ∷ []) h.0 (k.0, tt), rising_push placed x h.1 k.1)

pub placed_rising : (before : List Line) → Falling before → Rising (placed_of before)
placed_rising [] h = tt
placed_rising (last ∷ before) h =
    rising_push (placed_of before) (place before last) (placed_rising before h.1)
    (each_weaker (IsBefore last.number) (λ (at : PlacedLine). at.line.number < last.number) (λ at k. k.0) (placed_of before) (all_before last.number before h.0))

pub rising_filter : (test : PlacedLine → Bool) (placed : List PlacedLine) → Rising placed → Rising (filter test placed)
rising_filter test [] h = tt
rising_filter test (at ∷ placed) h =
    elim (cases_Bool (test at)) [
      | inl y ↦ rw y (each_filter (λ (later : PlacedLine). at.line.number < later.line.number) test placed h.0, rising_filter test placed h.1)
      | inr n ↦ rw n (rising_filter test placed h.1)
    ]

-- ---- where a line is found among others

abbrev pub seek : List PlacedLine → ℕ → ℕ
seek placed number = position_or_len (λ at. at.line.number == number) placed

abbrev pub Found : List PlacedLine → ℕ → Type 0
Found placed number = seek placed number < length placed

pub number_found : (placed : List PlacedLine) (number : ℕ) → Found placed number → unwrap_or (position (λ at. at.line.number == number) placed) 0 ≡ seek placed number
number_found placed number h = let y : nat_lt (seek placed number) (length placed) ≡ true = grind (arith, nat_tests) in rw y refl

pub seek_more : (placed more : List PlacedLine) (number : ℕ) → Found placed number → seek (placed ++ more) number ≡ seek placed number
seek_more [] more number h = absurd (omega arith)
seek_more (at ∷ placed) more number h =
    elim (cases_Bool (at.line.number == number)) [
      | inl y ↦ rw y refl
      | inr n ↦
          let found : 1 + seek placed number < length (at ∷ placed) = rw n at h in
          rw n (ap (λ k. 1 + k) (seek_more placed more number (omega arith)))
    ]

pub length_push : {X : Type 0} (xs ys : List X) → length xs ≤ length (xs ++ ys)
length_push [] ys = omega arith
length_push (x ∷ xs) ys = let l = length_push xs ys in omega arith

pub found_more : (placed more : List PlacedLine) (number : ℕ) → Found placed number → Found (placed ++ more) number
found_more placed more number h =
    let e = seek_more placed more number h in let l = length_push placed more in omega arith

pub seek_new : (placed : List PlacedLine) (x : PlacedLine) → Each (λ at. at.line.number < x.line.number) placed → seek (placed ++ x ∷ []) x.line.number ≡ length placed
seek_new [] x h = let y : (x.line.number == x.line.number) ≡ true = grind (arith, nat_tests) in rw y refl
seek_new (at ∷ placed) x h =
    let n : (at.line.number == x.line.number) ≡ false = let l = h.0 in grind (arith, nat_tests) in
    let rest = seek_new placed x h.1 in
    rw n (omega arith)

-- the one that is found is changed, and no other
module _ {Y : Type 0} (change : Y → Y) (show : PlacedLine → Y) (number : ℕ) where
  abbrev pub changed : PlacedLine → Y
  changed at = if at.line.number == number then change (show at) else show at

  untouched : (placed : List PlacedLine) → Each (λ at. number < at.line.number) placed → map changed placed ≡ map show placed
  untouched [] h = refl
  untouched (at ∷ placed) h =
      let n : (at.line.number == number) ≡ false = let l = h.0 in grind (arith, nat_tests) in
      rw n (ap (λ (rest : List Y). show at ∷ rest) (untouched placed h.1))

  pub changed_found : (placed : List PlacedLine) → Rising placed → Found placed number → changed_at change (map show placed) (seek placed number) ≡ map changed placed
  changed_found [] r h = absurd (omega arith)
  changed_found (at ∷ placed) r h =
      elim (cases_Bool (at.line.number == number)) [
        | inl y ↦
            let same : at.line.number ≡ number = grind (arith, nat_tests) in
            let later : Each (λ (other : PlacedLine). number < other.line.number) placed = subst (λ n. Each (λ (other : PlacedLine). n < other.line.number) placed) same r.0 in
            rw y (ap (λ (rest : List Y). change (show at) ∷ rest) (sym (untouched placed later)))
        | inr n ↦
            let found : 1 + seek placed number < length (at ∷ placed) = rw n at h in
            let next : 1 + seek placed number ≡ suc (seek placed number) = omega arith in
            rw (n, next) (ap (λ (rest : List Y). show at ∷ rest) (changed_found placed r.1 (omega arith)))
      ]
