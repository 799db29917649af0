-- Numbers on the command line are decimal, and the other way round.
use Rattle.std.proofs.Common.{◌≡◌, ℕ, zero, suc, ◌^◌, ◌<◌, ◌≤◌, Bool, true, false, not, ◌==◌, List, [], ◌∷◌, length, get_or, Some, None, arith, refl, sym, ap, ◌∙◌, subst}
use Rattle.std.specs.Prelude.{Result, Ok, ◌≢◌}
use Rattle.std.specs.Str.{all_ascii_digits}
use Rattle.std.specs.Str.Parse.{digits_value, without_leading_plus, ParsesUnsigned, AllDigits, IsNumeral}
use Rattle.std.specs.Fmt.{decimal}
use Rattle.std.proofs.lemmas.Bool.Decides.{nat_tests}
use Rattle.std.proofs.lemmas.Fmt.{decimal-digits_value, digits_decimal, digits_value-decimal, length-decimal-le, decimal_nonempty, first_decimal, decimal_digit}
use Rattle.std.proofs.lemmas.Result.{Ok-from_Ok_iff}
use Rattle.std.proofs.lemmas.Str.Parse.{IsNumeralModel, numerals_by_value, tells_all_ascii_digits, digits_value_short, digit_from_value, without_leading_plus_none}
use Rattle.command_line.specs.Numbers.{is_plain, is_number, number_of}

-- the digits of a number, as the lemmas on numerals take them
numerals : IsNumeralModel (λ ds. all_ascii_digits ds ≡ true) (digits_value 10)
numerals = numerals_by_value (λ ds. all_ascii_digits ds ≡ true) tells_all_ascii_digits

-- digits without a zero in front of others are not empty, and a zero at the front is alone
plain_some : (word : List ℕ) → is_plain word ≡ true → 0 < length word
plain_some [] p = (cc)
plain_some (c ∷ cs) p = omega arith

different : true ≡ false → ⊥
different e = (cc)

plain_zero : (word : List ℕ) → is_plain word ≡ true → get_or word 0 0 ≡ 48 → length word ≡ 1
plain_zero [] p z = (cc)
plain_zero (c ∷ []) p z = refl
plain_zero (c ∷ d ∷ rest) p z =
    let no : not (c == 48) ≡ false = subst (λ (x : ℕ). not (x == 48) ≡ false) (sym z) refl in
    absurd (different (sym p ∙ no))

first_is_digit : (word : List ℕ) → 0 < length word → AllDigits 10 word → get_or word 0 0 ≢ 43
first_is_digit [] l d = absurd (omega arith)
first_is_digit (c ∷ cs) l d = λ e. absurd (omega (arith, digit_from_value c d.0, e))

-- a short plain word of digits is parsed to the number that it writes
pub parsed : {E : Type 0} (word : List ℕ) (r : Result ℕ E) → length word ≤ 13 → is_plain word ≡ true → all_ascii_digits word ≡ true → ParsesUnsigned 64 10 word r → r ≡ Ok (digits_value 10 word)
parsed word r short plain digits h =
    let all = numerals.to word digits in
    let some = plain_some word plain in
    let same = without_leading_plus_none word (first_is_digit word some all) in
    let small = digits_value_short numerals word 13 digits short in
    let k : ParsesUnsigned 64 10 word r = h in
    rw same at (Ok-from_Ok_iff r (IsNumeral 10 (without_leading_plus word) × (digits_value 10 (without_leading_plus word) < 2 ^ 64)) (digits_value 10 (without_leading_plus word)) h
    (rw same ((some, all), omega arith)))

pub is_number_from : (word : List ℕ) → length word ≤ 13 → is_plain word ≡ true → all_ascii_digits word ≡ true → number_of word ≡ Some (digits_value 10 word)
is_number_from word short plain digits = grind (arith, nat_tests)

-- a number's word, from its parts
parts : (word : List ℕ) → is_number word ≡ true → (length word ≤ 13) × (is_plain word ≡ true) × (all_ascii_digits word ≡ true)
parts word is = (grind (arith, nat_tests), grind (arith, nat_tests), grind (arith, nat_tests))

says : (word : List ℕ) (n : ℕ) (is : Bool) → is_number word ≡ is → number_of word ≡ Some n → word ≡ decimal n
says word n false is e = let none : number_of word ≡ None = rw is refl in (cc)
says word n true is e =
    let p = parts word is in
    let small = digits_value_short numerals word 13 p.2 p.0 in
    let whole = decimal-digits_value numerals word p.2 (plain_some word p.1) (plain_zero word p.1) (omega arith) in
    let value : number_of word ≡ Some (digits_value 10 word) = rw is refl in
    let same : digits_value 10 word ≡ n = (cc) in
    sym whole ∙ ap decimal same

-- a word that writes a number is the number in decimal
pub number_says : (word : List ℕ) (n : ℕ) → number_of word ≡ Some n → word ≡ decimal n
number_says word n e = says word n (is_number word) refl e

plain_decimal : (word : List ℕ) → 0 < length word → (1 < length word → 48 < get_or word 0 0) → is_plain word ≡ true
plain_decimal [] l f = absurd (omega arith)
plain_decimal (c ∷ []) l f = refl
plain_decimal (c ∷ d ∷ rest) l f = let g : 48 < c = f (omega arith) in grind (arith, nat_tests)

first_of_long : (n : ℕ) → n < 2 ^ 64 → 1 < length (decimal n) → 48 < get_or (decimal n) 0 0
first_of_long zero small long = absurd (omega (arith, ap length (decimal_digit 0 (omega arith))))
first_of_long (suc n) small long = first_decimal (suc n) (omega arith) small

-- a number of at most thirteen digits is read from its decimal
pub number_decimal : (n : ℕ) → n < 10 ^ 13 → number_of (decimal n) ≡ Some n
number_decimal n small =
    let digits = digits_decimal numerals n (omega arith) in
    let short = length-decimal-le 13 n (omega arith) small (omega arith) in
    let plain = plain_decimal (decimal n) (decimal_nonempty n (omega arith)) (first_of_long n (omega arith)) in
    is_number_from (decimal n) short plain digits ∙ ap Some (digits_value-decimal numerals n (omega arith))
