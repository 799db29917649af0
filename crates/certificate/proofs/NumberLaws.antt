-- Reading numbers.
use Rattle.std.proofs.Common.{◌≡◌, ◌∙◌, refl, sym, ap, ℕ, ◌+◌, ◌-◌, ◌*◌, ◌<◌, ◌≤◌, Bool, true, false, not, ◌&&◌, cond, List, [], ◌∷◌, ◌++◌, length, get_or, drop, drop-cons, add-one, Some, None, append_assoc, append-nil, arith}
use Rattle.std.specs.Prelude.{◌==◌, Option, nat_le, nat_lt, codes}
use Rattle.std.specs.List.{join_with_byte}
use Rattle.std.specs.Option.{option_and_then, option_map}
use Rattle.std.specs.Char.{digit_value, is_ascii_digit}
use Rattle.std.specs.Str.{all_ascii_digits, bytes_eq}
use Rattle.std.specs.Str.Parse.{digits_value, digits_value_after}
use Rattle.std.proofs.lemmas.Bool.Decides.{nat_tests}
use Rattle.std.proofs.lemmas.List.Splits.{join_with_byte-slice_split, length-slice_split}
use Rattle.certificate.specs.Words.{above, is_plain, list_in, list_of, words_after, number_within, rising_from, up_to, words_of}

-- ---- one number

value-grows : (cs : List ℕ) (n : ℕ) → n ≤ digits_value_after 10 n cs
value-grows [] n = omega arith
value-grows (c ∷ cs) n = let more = value-grows cs (n * 10 + digit_value c) in omega arith

pub digit-is : (c : ℕ) → 48 ≤ c → c ≤ 57 → digit_value c ≡ c - 48
digit-is c low high =
    let a : nat_lt c 48 ≡ false = grind (arith, nat_tests) in
    let b : nat_lt c 58 ≡ true = grind (arith, nat_tests) in
    rw (a, b) refl

module _ (word : List ℕ) (i : ℕ) (inside : i < length word) where
  pub rest-step : drop i word ≡ get_or word i 0 ∷ drop (i + 1) word
  rest-step = rw (add-one, drop-cons word i 0) refl

  pub value-step : (n : ℕ) → digits_value_after 10 n (drop i word) ≡ digits_value_after 10 (n * 10 + digit_value (get_or word i 0)) (drop (i + 1) word)
  value-step n = ap (digits_value_after 10 n) rest-step

  pub digits-step : all_ascii_digits (drop i word) ≡ (is_ascii_digit (get_or word i 0) && all_ascii_digits (drop (i + 1) word))
  digits-step = ap all_ascii_digits rest-step

module _ (most : ℕ) (word : List ℕ) where
  not_plain : (b digits : Bool) → b ≡ false → option_and_then (up_to most) (cond (b && digits) (Some (digits_value 10 word)) None) ≡ None
  not_plain true digits e = absurd (cc)
  not_plain false digits e = refl

  pub none-plain : is_plain word ≡ false → number_within most word ≡ None
  none-plain e = not_plain (is_plain word) (all_ascii_digits word) e

  not_digits : (plain b : Bool) → b ≡ false → option_and_then (up_to most) (cond (plain && b) (Some (digits_value 10 word)) None) ≡ None
  not_digits plain true e = absurd (cc)
  not_digits true false e = refl
  not_digits false false e = refl

  pub none-digits : all_ascii_digits word ≡ false → number_within most word ≡ None
  none-digits e = not_digits (is_plain word) (all_ascii_digits word) e

  beyond : (value : ℕ) → most < value → up_to most value ≡ None
  beyond value l = let no : nat_le value most ≡ false = grind (arith, nat_tests) in rw no refl

  too_great : (b : Bool) → most < digits_value 10 word → option_and_then (up_to most) (cond b (Some (digits_value 10 word)) None) ≡ None
  too_great true l = beyond (digits_value 10 word) l
  too_great false l = refl

  pub none-beyond : (i n : ℕ) → digits_value 10 word ≡ digits_value_after 10 n (drop i word) → most < n → number_within most word ≡ None
  none-beyond i n e l = let grows = value-grows (drop i word) n in too_great (is_plain word && all_ascii_digits word) (omega arith)

  all_fit : (a b : Bool) (value : ℕ) → a ≡ true → b ≡ true → value ≤ most → option_and_then (up_to most) (cond (a && b) (Some value) None) ≡ Some value
  all_fit true true value p q l = let yes : nat_le value most ≡ true = grind (arith, nat_tests) in rw yes refl
  all_fit true false value p q l = absurd (cc)
  all_fit false b value p q l = absurd (cc)

  pub some-number : (n : ℕ) → is_plain word ≡ true → all_ascii_digits word ≡ true → digits_value 10 word ≡ n → n ≤ most → number_within most word ≡ Some n
  some-number n plain digits value l = all_fit (is_plain word) (all_ascii_digits word) (digits_value 10 word) plain digits (omega arith) ∙ ap Some value

-- ---- lists

pub with_first : (numbers : List ℕ) (number : ℕ) (others : Option (List ℕ)) → option_map (λ ns. numbers ++ ns) (option_map (λ ns. number ∷ ns) others) ≡ option_map (λ ns. (numbers ++ number ∷ []) ++ ns) others
with_first numbers number None = refl
with_first numbers number (Some ns) = ap Some (sym (append_assoc numbers (number ∷ []) ns))

pub no_more : (numbers : List ℕ) → option_map (λ ns. numbers ++ ns) (Some []) ≡ Some numbers
no_more numbers = ap Some (append-nil numbers)

pub with_none : (words : Option (List ℕ)) → option_map (λ ns. [] ++ ns) words ≡ words
with_none None = refl
with_none (Some ns) = refl

module _ (most : ℕ) where
  pub rising-none : (low : ℕ) (word : List ℕ) (words : List (List ℕ)) → number_within most word ≡ None → rising_from low most (word ∷ words) ≡ None
  rising-none low word words e = ap (option_and_then (λ number. above low number (rising_from number most words))) e

  pub rising-some : (low number : ℕ) (word : List ℕ) (words : List (List ℕ)) → number_within most word ≡ Some number → low < number → rising_from low most (word ∷ words) ≡ option_map (λ ns. number ∷ ns) (rising_from number most words)
  rising-some low number word words e l =
      let yes : nat_lt low number ≡ true = grind (arith, nat_tests) in
      ap (option_and_then (λ number. above low number (rising_from number most words))) e
      ∙ ap (λ b. cond b (option_map (λ ns. number ∷ ns) (rising_from number most words)) None) yes

  pub rising-low : (low number : ℕ) (word : List ℕ) (words : List (List ℕ)) → number_within most word ≡ Some number → number ≤ low → rising_from low most (word ∷ words) ≡ None
  rising-low low number word words e l =
      let no : nat_lt low number ≡ false = grind (arith, nat_tests) in
      ap (option_and_then (λ number. above low number (rising_from number most words))) e
      ∙ ap (λ b. cond b (option_map (λ ns. number ∷ ns) (rising_from number most words)) None) no

  -- the bytes of a list that isn't `none`
  other_list : (words : List (List ℕ)) (list : List ℕ) → join_with_byte 32 words ≡ list → bytes_eq list (codes "none") ≡ false → 0 < length words → list_of most words ≡ rising_from 0 most words
  other_list [] list e f l = absurd (omega arith)
  other_list (word ∷ []) list e f l = ap (λ b. cond b (Some []) (rising_from 0 most (word ∷ []))) (ap (λ w. bytes_eq w (codes "none")) e ∙ f)
  other_list (word ∷ next ∷ words) list e f l = refl

-- the list of a line that isn't `none`
pub list-others : (most : ℕ) (line word start rest : List ℕ) → words_of line ≡ start ∷ words_of rest → bytes_eq start word ≡ true → bytes_eq rest (codes "none") ≡ false
    → list_in word most line ≡ rising_from 0 most (words_of rest)
list-others most line word start rest e t f =
    ap (λ (ws : List (List ℕ)). option_and_then (list_of most) (words_after word ws)) e
    ∙ ap (λ b. option_and_then (list_of most) (cond b (Some (words_of rest)) None)) t
    ∙ other_list most (words_of rest) rest (join_with_byte-slice_split 32 rest) f (let n = length-slice_split (λ b. b == 32) rest in omega arith)

pub true-from_not : (b r : Bool) → r ≡ not b → r ≡ false → b ≡ true
true-from_not true r e f = refl
true-from_not false r e f = absurd (cc)
