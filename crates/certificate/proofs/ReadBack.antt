-- What is written is read back: numbers, lists, sets, clauses and lines.
use Rattle.std.proofs.Common.{◌≡◌, ◌∙◌, refl, ap, ℕ, suc, ◌+◌, ◌-◌, ◌<◌, ◌≤◌, ◌^◌, Bool, true, false, not, ◌&&◌, cond, List, [], ◌∷◌, ◌++◌, length, get_or, map, Some, None, append_assoc, append-nil, arith}
use Rattle.std.specs.Prelude.{◌==◌, nat_le, nat_lt, codes}
use Rattle.std.specs.Fmt.{decimal}
use Rattle.std.specs.List.{flat_map, list_all, join_by, range_with_len, slice_split, All}
use Rattle.std.specs.Option.{option_and_then, option_map}
use Rattle.std.specs.Str.{all_ascii_digits, bytes_eq}
use Rattle.std.specs.Str.Parse.{digits_value}
use Rattle.std.proofs.lemmas.Bool.Decides.{nat_tests}
use Rattle.std.proofs.lemmas.Fmt.{decimal_nonempty, digits_decimal, digits_value-decimal, first_decimal}
use Rattle.std.proofs.lemmas.Str.Parse.{IsNumeralModel, numerals_by_value, tells_all_ascii_digits}
use Rattle.std.proofs.lemmas.List.Elements.{All-cons, All-head, All-tail}
use Rattle.std.proofs.lemmas.List.Folds.{list_all-append}
use Rattle.std.proofs.lemmas.List.Sums.{AllPass-from_list_all}
use Rattle.std.proofs.lemmas.List.Splits.{slice_split_at, slice_split_none, length-slice_split}
use Rattle.std.proofs.lemmas.Option.{unwrap_or-slice_get}
use Rattle.clauses.specs.declared.literal.Lit.{Lit}
use Rattle.clauses.specs.Clause.{negative_of, positive_of}
use Rattle.clauses.specs.Problem.{IsBelow}
use Rattle.feature_tree.specs.Truth.{is_in}
use Rattle.req_keys.specs.Positions.{RiseWithin, has}
use Rattle.req_keys.proofs.PositionsLaws.{has-filter_range, RiseWithin-filter_range}
use Rattle.certificate.specs.Text.{line, list_text, literal_text, numbers_in}
use Rattle.certificate.specs.Words.{above, is_plain, number_within, up_to, rising_from, list_of, list_in, words_after, words_of, set_of, product_in, literal_of, literals_of, before, Learns, saying_of, said_by, learning, lines_of, without_empty_end}

-- ---- bytes that don't stand in a text

abbrev pub lacks : ℕ → List ℕ → Bool
lacks byte text = list_all (λ x. not (x == byte)) text

pub all_true : (a b : Bool) → a ≡ true → b ≡ true → (a && b) ≡ true
all_true true true p q = refl
all_true true false p q = absurd (cc)
all_true false b p q = absurd (cc)

pub lacks-append : (byte : ℕ) (a b : List ℕ) → lacks byte a ≡ true → lacks byte b ≡ true → lacks byte (a ++ b) ≡ true
lacks-append byte a b p q = list_all-append (λ x. not (x == byte)) a b ∙ all_true (lacks byte a) (lacks byte b) p q

is_other : (b : Bool) → not b ≡ true → b ≡ false
is_other true e = absurd (cc)
is_other false e = refl

others : (byte : ℕ) (text : List ℕ) → lacks byte text ≡ true → All (λ x. (x == byte) ≡ false) text
others byte text e = λ k d l. is_other (get_or text k d == byte) (AllPass-from_list_all (λ x. not (x == byte)) text e k d l)

pub cut-at : (byte : ℕ) (text rest : List ℕ) → lacks byte text ≡ true → slice_split (λ b. b == byte) (text ++ byte ∷ rest) ≡ text ∷ slice_split (λ b. b == byte) rest
cut-at byte text rest e = let same : (byte == byte) ≡ true = grind (arith, nat_tests) in slice_split_at (λ b. b == byte) text byte rest (others byte text e) same

pub cut-none : (byte : ℕ) (text : List ℕ) → lacks byte text ≡ true → slice_split (λ b. b == byte) text ≡ text ∷ []
cut-none byte text e = slice_split_none (λ b. b == byte) text (others byte text e)

-- ---- numbers

own : IsNumeralModel (λ ds. all_ascii_digits ds ≡ true) (digits_value 10)
own = numerals_by_value (λ ds. all_ascii_digits ds ≡ true) tells_all_ascii_digits

first_digit : (c : ℕ) (cs : List ℕ) → all_ascii_digits (c ∷ cs) ≡ true → (48 ≤ c) × (c ≤ 57)
first_digit c cs e = (tells_all_ascii_digits.parts c cs e).0

digits-lack : (byte : ℕ) (ds : List ℕ) → byte < 48 → all_ascii_digits ds ≡ true → lacks byte ds ≡ true
digits-lack byte [] l e = refl
digits-lack byte (c ∷ cs) l e =
    let low : 48 ≤ c = (first_digit c cs e).0 in
    let differs : (c == byte) ≡ false = grind (arith, nat_tests) in
    all_true (not (c == byte)) (lacks byte cs) (ap not differs) (digits-lack byte cs l (tells_all_ascii_digits.parts c cs e).1)

pub decimal-lacks : (byte n : ℕ) → byte < 48 → n < 2 ^ 64 → lacks byte (decimal n) ≡ true
decimal-lacks byte n l fits = digits-lack byte (decimal n) l (digits_decimal own n fits)

plain-from : (ds : List ℕ) → 48 < get_or ds 0 0 → is_plain ds ≡ true
plain-from [] l = absurd (omega arith)
plain-from (c ∷ cs) l = let differs : (c == 48) ≡ false = grind (arith, nat_tests) in ap not differs

pub number-back : (most n : ℕ) → 0 < n → n ≤ most → most < 2 ^ 64 → number_within most (decimal n) ≡ Some n
number-back most n some l fits =
    let small : n < 2 ^ 64 = omega arith in
    let inside : nat_le n most ≡ true = grind (arith, nat_tests) in
    ap (λ b. option_and_then (up_to most) (cond (b && all_ascii_digits (decimal n)) (Some (digits_value 10 (decimal n))) None)) (plain-from (decimal n) (first_decimal n some small))
    ∙ ap (λ b. option_and_then (up_to most) (cond (true && b) (Some (digits_value 10 (decimal n))) None)) (digits_decimal own n small)
    ∙ ap (λ v. cond (nat_le v most) (Some v) None) (digits_value-decimal own n small)
    ∙ ap (λ b. cond b (Some n) None) inside

-- ---- words

-- pieces with a blank before each
abbrev pub spaced : {X : Type 0} → (X → List ℕ) → List X → List ℕ
spaced f xs = flat_map (λ x. codes " " ++ f x) xs

module _ {X : Type 0} (f : X → List ℕ) where
  pub words-spaced : (word : List ℕ) (xs : List X) → lacks 32 word ≡ true → All (λ x. lacks 32 (f x) ≡ true) xs → words_of (word ++ spaced f xs) ≡ word ∷ map f xs
  words-spaced word [] e h = ap words_of (append-nil word) ∙ cut-none 32 word e
  words-spaced word (x ∷ xs) e h =
      cut-at 32 word (f x ++ spaced f xs) e
      ∙ ap (λ (ws : List (List ℕ)). word ∷ ws) (words-spaced (f x) xs (All-head (λ y. lacks 32 (f y) ≡ true) x xs h) (All-tail (λ y. lacks 32 (f y) ≡ true) x xs h))

  pub spaced-lacks : (xs : List X) → All (λ x. lacks 10 (f x) ≡ true) xs → lacks 10 (spaced f xs) ≡ true
  spaced-lacks [] h = refl
  spaced-lacks (x ∷ xs) h =
      lacks-append 10 (f x) (spaced f xs) (All-head (λ y. lacks 10 (f y) ≡ true) x xs h) (spaced-lacks xs (All-tail (λ y. lacks 10 (f y) ≡ true) x xs h))

-- ---- lists

-- each number of a rising list can be written
pub rising-each : (P : ℕ → Type 0) (low most : ℕ) (xs : List ℕ) → ((n : ℕ) → 0 < n → n ≤ most → P n) → RiseWithin low most xs → All P xs
rising-each P low most [] f h = λ k d l. absurd (omega arith)
rising-each P low most (x ∷ xs) f h =
    let above_low : low < x = h.0 in
    All-cons P x xs (f x (omega arith) (h.1)) (rising-each P x most xs f h.2)

module _ (most : ℕ) (fits : most < 2 ^ 64) where
  pub rising-back : (low : ℕ) (xs : List ℕ) → RiseWithin low most xs → rising_from low most (map decimal xs) ≡ Some xs
  rising-back low [] h = refl
  rising-back low (x ∷ xs) h =
      let more : low < x = h.0 in
      let test : nat_lt low x ≡ true = grind (arith, nat_tests) in
      ap (option_and_then (λ number. above low number (rising_from number most (map decimal xs)))) (number-back most x (omega arith) (h.1) fits)
      ∙ ap (λ b. cond b (option_map (λ numbers. x ∷ numbers) (rising_from x most (map decimal xs))) None) test
      ∙ ap (option_map (λ numbers. x ∷ numbers)) (rising-back x xs h.2)

  not_none : (ds : List ℕ) → all_ascii_digits ds ≡ true → bytes_eq ds (codes "none") ≡ false
  not_none [] e = refl
  not_none (c ∷ cs) e =
      let high : c ≤ 57 = (first_digit c cs e).1 in
      let differs : (c == 110) ≡ false = grind (arith, nat_tests) in
      ap (λ b. b && bytes_eq cs (codes "one")) differs

  each-lacks : (byte low : ℕ) (xs : List ℕ) → byte < 48 → RiseWithin low most xs → All (λ x. lacks byte (decimal x) ≡ true) xs
  each-lacks byte low xs l h = rising-each (λ x. lacks byte (decimal x) ≡ true) low most xs (λ n some inside. decimal-lacks byte n l (omega arith)) h

  pub list-lacks : (xs : List ℕ) → RiseWithin 0 most xs → lacks 10 (list_text xs) ≡ true
  list-lacks [] h = refl
  list-lacks (x ∷ xs) h =
      let small : x ≤ most = h.1 in
      lacks-append 10 (decimal x) (spaced decimal xs) (decimal-lacks 10 x (omega arith) (omega arith)) (spaced-lacks decimal xs (each-lacks 10 x xs (omega arith) h.2))

  list-of-words : (xs : List ℕ) → RiseWithin 0 most xs → list_of most (words_of (list_text xs)) ≡ Some xs
  list-of-words [] h = refl
  list-of-words (x ∷ []) h =
      let small : x ≤ most = h.1 in
      ap (list_of most) (words-spaced decimal (decimal x) [] (decimal-lacks 32 x (omega arith) (omega arith)) (each-lacks 32 x [] (omega arith) tt))
      ∙ ap (λ b. cond b (Some []) (rising_from 0 most (decimal x ∷ []))) (not_none (decimal x) (digits_decimal own x (omega arith)))
      ∙ rising-back 0 (x ∷ []) h
  list-of-words (x ∷ y ∷ xs) h =
      let small : x ≤ most = h.1 in
      ap (list_of most) (words-spaced decimal (decimal x) (y ∷ xs) (decimal-lacks 32 x (omega arith) (omega arith)) (each-lacks 32 x (y ∷ xs) (omega arith) h.2))
      ∙ rising-back 0 (x ∷ y ∷ xs) h

  -- the list of a line that begins with this word
  pub list-back : (word xs : List ℕ) → lacks 32 word ≡ true → bytes_eq word word ≡ true → RiseWithin 0 most xs → list_in word most (word ++ 32 ∷ list_text xs) ≡ Some xs
  list-back word xs e same h =
      ap (λ (ws : List (List ℕ)). option_and_then (list_of most) (words_after word ws)) (cut-at 32 word (list_text xs) e)
      ∙ ap (λ b. option_and_then (list_of most) (cond b (Some (words_of (list_text xs))) None)) same
      ∙ list-of-words xs h

-- ---- sets

mapped : (f : ℕ → Bool) (set : List Bool) (a : ℕ) → ((k : ℕ) → k < length set → f (a + k) ≡ get_or set k false) → map f (range_with_len a (length set)) ≡ set
mapped f [] a h = refl
mapped f (x ∷ xs) a h =
    let here : f a ≡ x = ap f (let e : a ≡ a + 0 = omega arith in e) ∙ h 0 (omega arith) in
    let behind : map f (range_with_len (a + 1) (length xs)) ≡ xs =
    mapped f xs (a + 1) (λ k l. ap f (let e : a + 1 + k ≡ a + suc k = omega arith in e) ∙ h (suc k) (omega arith)) in
    ap (λ (b : Bool). b ∷ map f (range_with_len (a + 1) (length xs))) here ∙ ap (λ (bs : List Bool). x ∷ bs) behind

pub set-back : (set : List Bool) → set_of (length set) (numbers_in set) ≡ set
set-back set =
    mapped (has (numbers_in set)) set 1 (λ k l.
    has-filter_range (λ number. is_in set (number - 1)) 1 (length set) (1 + k) (omega arith) (omega arith)
    ∙ ap (is_in set) (let e : 1 + k - 1 ≡ k = omega arith in e) ∙ unwrap_or-slice_get set k false)

pub numbers-rise : (set : List Bool) → RiseWithin 0 (length set) (numbers_in set)
numbers-rise set = RiseWithin-filter_range (λ number. is_in set (number - 1)) 1 (length set) 0 (length set) (omega arith) (omega arith)

pub product-back : (set : List Bool) → length set < 2 ^ 64 → product_in (length set) (codes "product " ++ list_text (numbers_in set)) ≡ Some set
product-back set fits =
    ap (option_map (set_of (length set))) (list-back (length set) fits (codes "product") (numbers_in set) refl refl (numbers-rise set))
    ∙ ap Some (set-back set)

-- ---- clauses

module _ (variables : ℕ) (fits : variables < 2 ^ 63) where
  digits-positive : (ds : List ℕ) → 0 < length ds → all_ascii_digits ds ≡ true → literal_of variables ds ≡ option_map (λ number. positive_of (number - 1)) (number_within variables ds)
  digits-positive [] l e = absurd (omega arith)
  digits-positive (c ∷ cs) l e =
      let low : 48 ≤ c = (first_digit c cs e).0 in
      let differs : (c == 45) ≡ false = grind (arith, nat_tests) in
      ap
      (λ b. cond b (option_map (λ number. negative_of (number - 1)) (number_within variables cs)) (option_map (λ number. positive_of (number - 1)) (number_within variables (c ∷ cs))))
      differs

  signed-back : (var : ℕ) (positive : Bool) → var < variables → literal_of variables (literal_text (record { var = var; positive = positive })) ≡ Some (record { var = var; positive = positive })
  signed-back var true l =
      let less : var + 1 - 1 ≡ var = omega arith in
      digits-positive (decimal (var + 1)) (decimal_nonempty (var + 1) (omega arith)) (digits_decimal own (var + 1) (omega arith))
      ∙ ap (option_map (λ number. positive_of (number - 1))) (number-back variables (var + 1) (omega arith) (omega arith) (omega arith))
      ∙ ap (λ v. Some (positive_of v)) less
  signed-back var false l =
      let less : var + 1 - 1 ≡ var = omega arith in
      ap (option_map (λ number. negative_of (number - 1))) (number-back variables (var + 1) (omega arith) (omega arith) (omega arith))
      ∙ ap (λ v. Some (negative_of v)) less

  literal-back : (literal : Lit) → IsBelow variables literal → literal_of variables (literal_text literal) ≡ Some literal
  literal-back literal l = signed-back literal.var literal.positive l

  literals-back : (clause : List Lit) → All (IsBelow variables) clause → literals_of variables (map literal_text clause) ≡ Some clause
  literals-back [] h = refl
  literals-back (literal ∷ clause) h =
      ap (option_and_then (λ one. before one (literals_of variables (map literal_text clause)))) (literal-back literal (All-head (IsBelow variables) literal clause h))
      ∙ ap (option_map (λ literals. literal ∷ literals)) (literals-back clause (All-tail (IsBelow variables) literal clause h))

  signed-lacks : (byte var : ℕ) (positive : Bool) → byte < 45 → var < variables → lacks byte (literal_text (record { var = var; positive = positive })) ≡ true
  signed-lacks byte var true b l = decimal-lacks byte (var + 1) (omega arith) (omega arith)
  signed-lacks byte var false b l =
      let differs : (45 == byte) ≡ false = grind (arith, nat_tests) in
      all_true (not (45 == byte)) (lacks byte (decimal (var + 1))) (ap not differs) (decimal-lacks byte (var + 1) (omega arith) (omega arith))

  each-literal : (byte : ℕ) (clause : List Lit) → byte < 45 → All (IsBelow variables) clause → All (λ literal. lacks byte (literal_text literal) ≡ true) clause
  each-literal byte [] b h = λ k d l. absurd (omega arith)
  each-literal byte (literal ∷ clause) b h =
      All-cons (λ one. lacks byte (literal_text one) ≡ true) literal clause
      (signed-lacks byte literal.var literal.positive b (All-head (IsBelow variables) literal clause h))
      (each-literal byte clause b (All-tail (IsBelow variables) literal clause h))

  module _ (literal : Lit) (clause : List Lit) (h : All (IsBelow variables) (literal ∷ clause)) where
    pub learn-back : saying_of variables (codes "learn " ++ join_by literal_text (codes " ") (literal ∷ clause)) ≡ Learns (literal ∷ clause)
    learn-back =
        ap (said_by variables)
        (cut-at 32 (codes "learn") (literal_text literal ++ spaced literal_text clause) refl
        ∙ ap (λ (ws : List (List ℕ)). codes "learn" ∷ ws)
        (words-spaced literal_text (literal_text literal) clause (All-head (λ one. lacks 32 (literal_text one) ≡ true) literal clause (each-literal 32 (literal ∷ clause) (omega arith) h))
        (All-tail (λ one. lacks 32 (literal_text one) ≡ true) literal clause (each-literal 32 (literal ∷ clause) (omega arith) h))))
        ∙ ap learning (literals-back (literal ∷ clause) h)

    pub learn-lacks : lacks 10 (codes "learn " ++ join_by literal_text (codes " ") (literal ∷ clause)) ≡ true
    learn-lacks =
        lacks-append 10 (literal_text literal) (spaced literal_text clause) (All-head (λ one. lacks 10 (literal_text one) ≡ true) literal clause (each-literal 10 (literal ∷ clause) (omega arith) h))
        (spaced-lacks literal_text clause (All-tail (λ one. lacks 10 (literal_text one) ≡ true) literal clause (each-literal 10 (literal ∷ clause) (omega arith) h)))

-- ---- lines

next_part : (text : List ℕ) (parts : List (List ℕ)) → 0 < length parts → without_empty_end (text ∷ parts) ≡ text ∷ without_empty_end parts
next_part text [] l = absurd (omega arith)
next_part [] (part ∷ parts) l = refl
next_part (c ∷ cs) (part ∷ parts) l = refl

pub line-back : (text rest : List ℕ) → lacks 10 text ≡ true → lines_of (line text ++ rest) ≡ text ∷ lines_of rest
line-back text rest e =
    ap lines_of (append_assoc text (10 ∷ []) rest)
    ∙ ap without_empty_end (cut-at 10 text rest e)
    ∙ next_part text (slice_split (λ b. b == 10) rest) (let n = length-slice_split (λ b. b == 10) rest in omega arith)
