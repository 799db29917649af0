-- Worked examples of the grammar. Each computes.
use Rattle.std.specs.Prelude.{◌≡◌, ℕ, Option, true, false, List, [], ◌∷◌, Some, None, codes, refl}
use Rattle.command_line.specs.Numbers.{number_of}
use Rattle.command_line.specs.Words.{Request, Settings, Diagnose, Verify, Generate, asks_workers, request_of}
use Rattle.command_line.specs.declared.command.What.TheVariants as what

-- `diagnose m c` and more words
abbrev with : List (List ℕ) → List (List ℕ)
with options = codes "diagnose" ∷ codes "m" ∷ codes "c" ∷ options

abbrev set : ℕ → ℕ → Option Request
set allowance rungs = Some (Diagnose (codes "m") (codes "c") (record { allowance = allowance; rungs = rungs; list = None; ahead = 0; workers = 0; certify = false }))

abbrev plain : Settings
plain = record { allowance = 10000; rungs = 0; list = None; ahead = 0; workers = 0; certify = false }

abbrev asked : Settings → Option Request
asked settings = Some (Diagnose (codes "m") (codes "c") settings)

pub no_options : request_of (with []) ≡ set 10000 0
no_options = refl

pub both_options : request_of (with (codes "--rungs" ∷ codes "4" ∷ codes "--allowance" ∷ codes "0" ∷ [])) ≡ set 0 4
both_options = refl

pub other_order : request_of (with (codes "--allowance" ∷ codes "0" ∷ codes "--rungs" ∷ codes "4" ∷ [])) ≡ set 0 4
other_order = refl

pub most_allowance : request_of (with (codes "--allowance" ∷ codes "1099511627776" ∷ [])) ≡ set 1099511627776 0
most_allowance = refl

pub one_more : request_of (with (codes "--allowance" ∷ codes "1099511627777" ∷ [])) ≡ None
one_more = refl

-- listed up to no size is something else than not listed
pub list_none : request_of (with (codes "--list" ∷ codes "0" ∷ [])) ≡ asked (record plain { list = Some 0 })
list_none = refl

pub list_zero_in_front : request_of (with (codes "--list" ∷ codes "03" ∷ [])) ≡ None
list_zero_in_front = refl

pub list_too_long : request_of (with (codes "--list" ∷ codes "4097" ∷ [])) ≡ None
list_too_long = refl

pub most_ahead : request_of (with (codes "--ahead" ∷ codes "6" ∷ [])) ≡ asked (record plain { ahead = 6 })
most_ahead = refl

pub too_far_ahead : request_of (with (codes "--ahead" ∷ codes "7" ∷ [])) ≡ None
too_far_ahead = refl

pub most_workers : request_of (with (codes "--workers" ∷ codes "64" ∷ codes "--ahead" ∷ codes "1" ∷ [])) ≡ asked (record plain { ahead = 1; workers = 64 })
most_workers = refl

pub too_many_workers : request_of (with (codes "--workers" ∷ codes "65" ∷ [])) ≡ None
too_many_workers = refl

pub workers_twice : request_of (with (codes "--workers" ∷ codes "1" ∷ codes "--workers" ∷ codes "1" ∷ [])) ≡ None
workers_twice = refl

pub workers_without_a_number : request_of (with (codes "--workers" ∷ [])) ≡ None
workers_without_a_number = refl

pub workers_with_a_zero_in_front : request_of (with (codes "--workers" ∷ codes "01" ∷ [])) ≡ None
workers_with_a_zero_in_front = refl

pub refused_workers_not_asked : asks_workers (request_of (with (codes "--workers" ∷ codes "65" ∷ []))) ≡ false
refused_workers_not_asked = refl

pub workers_asked : asks_workers (request_of (with (codes "--workers" ∷ codes "1" ∷ []))) ≡ true
workers_asked = refl

pub no_workers_asked : asks_workers (request_of (with (codes "--workers" ∷ codes "0" ∷ []))) ≡ false
no_workers_asked = refl

-- the option without a number, at the end, in front and between
pub certify_alone : request_of (with (codes "--certify" ∷ [])) ≡ asked (record plain { certify = true })
certify_alone = refl

pub certify_between : request_of (with (codes "--list" ∷ codes "3" ∷ codes "--certify" ∷ codes "--ahead" ∷ codes "3" ∷ []))
    ≡ asked (record plain { list = Some 3; ahead = 3; certify = true })
certify_between = refl

pub certify_twice : request_of (with (codes "--certify" ∷ codes "--certify" ∷ [])) ≡ None
certify_twice = refl

pub certify_with_a_number : request_of (with (codes "--certify" ∷ codes "1" ∷ [])) ≡ None
certify_with_a_number = refl

pub five_rungs : request_of (with (codes "--rungs" ∷ codes "5" ∷ [])) ≡ None
five_rungs = refl

pub option_twice : request_of (with (codes "--rungs" ∷ codes "1" ∷ codes "--rungs" ∷ codes "1" ∷ [])) ≡ None
option_twice = refl

pub value_missing : request_of (with (codes "--rungs" ∷ [])) ≡ None
value_missing = refl

pub another_option : request_of (with (codes "--worker" ∷ codes "1" ∷ [])) ≡ None
another_option = refl

pub option_before_files : request_of (codes "diagnose" ∷ codes "--rungs" ∷ codes "1" ∷ codes "m" ∷ codes "c" ∷ []) ≡ None
option_before_files = refl

pub no_words : request_of [] ≡ None
no_words = refl

pub one_file : request_of (codes "diagnose" ∷ codes "m" ∷ []) ≡ None
one_file = refl

pub word_left_over : request_of (with (codes "d" ∷ [])) ≡ None
word_left_over = refl

pub empty_name : request_of (codes "diagnose" ∷ [] ∷ codes "c" ∷ []) ≡ None
empty_name = refl

pub another_verb : request_of (codes "Diagnose" ∷ codes "m" ∷ codes "c" ∷ []) ≡ None
another_verb = refl

-- certificates

pub verified : request_of (codes "verify" ∷ codes "m" ∷ codes "c" ∷ codes "t" ∷ []) ≡ Some (Verify (codes "m") (codes "c") (codes "t"))
verified = refl

pub no_certificate : request_of (codes "verify" ∷ codes "m" ∷ codes "c" ∷ []) ≡ None
no_certificate = refl

pub verified_with_an_option : request_of (codes "verify" ∷ codes "m" ∷ codes "c" ∷ codes "t" ∷ codes "--certify" ∷ []) ≡ None
verified_with_an_option = refl

pub certificate_like_an_option : request_of (codes "verify" ∷ codes "m" ∷ codes "c" ∷ codes "-t" ∷ []) ≡ None
certificate_like_an_option = refl

-- generated texts

pub model_drawn : request_of (codes "generate" ∷ codes "4294967295" ∷ codes "60000" ∷ codes "model" ∷ []) ≡ Some (Generate 4294967295 60000 what.Model)
model_drawn = refl

pub config_drawn : request_of (codes "generate" ∷ codes "0" ∷ codes "1" ∷ codes "config" ∷ []) ≡ Some (Generate 0 1 what.Config)
config_drawn = refl

pub report_drawn : request_of (codes "generate" ∷ codes "1" ∷ codes "4" ∷ codes "report" ∷ []) ≡ Some (Generate 1 4 what.Report)
report_drawn = refl

pub seed_too_large : request_of (codes "generate" ∷ codes "4294967296" ∷ codes "1" ∷ codes "model" ∷ []) ≡ None
seed_too_large = refl

pub no_size : request_of (codes "generate" ∷ codes "1" ∷ codes "0" ∷ codes "model" ∷ []) ≡ None
no_size = refl

pub size_too_large : request_of (codes "generate" ∷ codes "1" ∷ codes "60001" ∷ codes "model" ∷ []) ≡ None
size_too_large = refl

pub another_text : request_of (codes "generate" ∷ codes "1" ∷ codes "4" ∷ codes "models" ∷ []) ≡ None
another_text = refl

pub no_text : request_of (codes "generate" ∷ codes "1" ∷ codes "4" ∷ []) ≡ None
no_text = refl

pub drawn_with_an_option : request_of (codes "generate" ∷ codes "1" ∷ codes "4" ∷ codes "report" ∷ codes "--list" ∷ codes "1" ∷ []) ≡ None
drawn_with_an_option = refl

-- numbers

pub zero_alone : number_of (codes "0") ≡ Some 0
zero_alone = refl

pub zero_in_front : number_of (codes "03") ≡ None
zero_in_front = refl

pub plus_in_front : number_of (codes "+3") ≡ None
plus_in_front = refl

pub no_digit : number_of [] ≡ None
no_digit = refl

pub thirteen_digits : number_of (codes "9999999999999") ≡ Some 9999999999999
thirteen_digits = refl

pub fourteen_digits : number_of (codes "10000000000000") ≡ None
fourteen_digits = refl
