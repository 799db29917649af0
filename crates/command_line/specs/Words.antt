-- The grammar of the command line (own to this project): the lists of words that a run may be started with.
use Rattle.std.specs.Prelude.{◌≡◌, ◌↔◌, ℕ, ◌≤◌, ◌<◌, ◌^◌, nat_le, nat_lt, Bool, true, false, not, ◌&&◌, ◌==◌, IsTrue, List, [], ◌∷◌, length, filter_map, slice_get, slice_index_or, IfSome, Option, Some, None, unwrap_or, codes, if◌then◌else◌}
use Rattle.std.specs.List.{flat_map, list_all}
use Rattle.std.specs.Option.{option_map, option_and_then, is_none}
use Rattle.std.specs.Str.{bytes_eq}
use Rattle.std.specs.Fmt.{decimal}
use Rattle.command_line.specs.Numbers.{number_of}
use Rattle.command_line.specs.declared.command.What.{What}
use Rattle.command_line.specs.declared.command.What.TheVariants as what

-- what the options of a command line set
pub record Settings : Type 0 where
  -- how many clauses the first attempt of a check may learn
  pub allowance : ℕ
  -- how many more attempts may follow, each with ten times as many
  pub rungs : ℕ
  -- up to which size the minimal diagnoses are listed, if they are
  pub list : Option ℕ
  -- how many answers are guessed ahead
  pub ahead : ℕ
  -- how many threads make checks beside the main one
  pub workers : ℕ
  -- whether a certificate follows the report
  pub certify : Bool

-- the settings that may be chosen
pub record AreAllowed (settings : Settings) : Type 0 where
  pub allowance : settings.allowance ≤ 2 ^ 40
  pub rungs : settings.rungs ≤ 4
  pub list : IfSome settings.list (λ size. size ≤ 4096)
  pub ahead : settings.ahead ≤ 6
  pub workers : settings.workers ≤ 64

-- the seeds and sizes that texts may be generated from
pub record IsDrawn (seed size : ℕ) : Type 0 where
  pub from : seed < 2 ^ 32
  pub some : 1 ≤ size
  pub few : size ≤ 60000

-- what a command line asks for; files are named by the bytes of their names
pub data Request : Type 0 where
  -- the advice for a configuration of a model
  Diagnose : (model config : List ℕ) (settings : Settings) → Request
  -- whether a certificate about a configuration of a model shows what it says
  Verify : (model config certificate : List ℕ) → Request
  -- a text drawn from a seed: a model, its configuration, or the advice for both
  Generate : (seed size : ℕ) (what : What) → Request

-- the numbers in the request are in their ranges
abbrev pub IsInRange : Request → Type 0
IsInRange (Diagnose model config settings) = AreAllowed settings
IsInRange (Verify model config certificate) = Unit {0}
IsInRange (Generate seed size what) = IsDrawn seed size

-- a word that names a file: it isn't empty and doesn't begin with '-'
abbrev pub names_a_file : List ℕ → Bool
names_a_file [] = false
names_a_file (first ∷ rest) = not (first == 45)

-- ---- options

-- an option, with what it sets
pub data Choice : Type 0 where
  Allowance : (most : ℕ) → Choice
  Rungs : (more : ℕ) → Choice
  Listing : (most : ℕ) → Choice
  Ahead : (answers : ℕ) → Choice
  Workers : (threads : ℕ) → Choice
  Certify : Choice

-- the words of an option
abbrev pub words_of : Choice → List (List ℕ)
words_of (Allowance most) = codes "--allowance" ∷ decimal most ∷ []
words_of (Rungs more) = codes "--rungs" ∷ decimal more ∷ []
words_of (Listing most) = codes "--list" ∷ decimal most ∷ []
words_of (Ahead answers) = codes "--ahead" ∷ decimal answers ∷ []
words_of (Workers threads) = codes "--workers" ∷ decimal threads ∷ []
words_of Certify = codes "--certify" ∷ []

-- the value is one that may be chosen
abbrev pub may_be_chosen : Choice → Bool
may_be_chosen (Allowance most) = nat_le most 1099511627776
may_be_chosen (Rungs more) = nat_le more 4
may_be_chosen (Listing most) = nat_le most 4096
may_be_chosen (Ahead answers) = nat_le answers 6
may_be_chosen (Workers threads) = nat_le threads 64
may_be_chosen Certify = true

abbrev pub allowance_of : Choice → Option ℕ
allowance_of (Allowance most) = Some most
allowance_of (Rungs more) = None
allowance_of (Listing most) = None
allowance_of (Ahead answers) = None
allowance_of (Workers threads) = None
allowance_of Certify = None

abbrev pub rungs_of : Choice → Option ℕ
rungs_of (Allowance most) = None
rungs_of (Rungs more) = Some more
rungs_of (Listing most) = None
rungs_of (Ahead answers) = None
rungs_of (Workers threads) = None
rungs_of Certify = None

abbrev pub list_of : Choice → Option ℕ
list_of (Allowance most) = None
list_of (Rungs more) = None
list_of (Listing most) = Some most
list_of (Ahead answers) = None
list_of (Workers threads) = None
list_of Certify = None

abbrev pub ahead_of : Choice → Option ℕ
ahead_of (Allowance most) = None
ahead_of (Rungs more) = None
ahead_of (Listing most) = None
ahead_of (Ahead answers) = Some answers
ahead_of (Workers threads) = None
ahead_of Certify = None

abbrev pub workers_of : Choice → Option ℕ
workers_of (Allowance most) = None
workers_of (Rungs more) = None
workers_of (Listing most) = None
workers_of (Ahead answers) = None
workers_of (Workers threads) = Some threads
workers_of Certify = None

abbrev pub certify_of : Choice → Option Bool
certify_of (Allowance most) = None
certify_of (Rungs more) = None
certify_of (Listing most) = None
certify_of (Ahead answers) = None
certify_of (Workers threads) = None
certify_of Certify = Some true

-- These words are options in any order, each at most once, and set this: without its option an allowance is 10,000, there are
-- no more attempts, nothing is listed or guessed, one thread makes all checks, and no certificate follows.
pub record AreOptions (words : List (List ℕ)) (settings : Settings) : Type 0 where
  pub choices : List Choice
  pub said : words ≡ flat_map words_of choices
  pub allowed : IsTrue (list_all may_be_chosen choices)
  pub one_allowance : length (filter_map allowance_of choices) ≤ 1
  pub one_rungs : length (filter_map rungs_of choices) ≤ 1
  pub one_list : length (filter_map list_of choices) ≤ 1
  pub one_ahead : length (filter_map ahead_of choices) ≤ 1
  pub one_workers : length (filter_map workers_of choices) ≤ 1
  pub one_certify : length (filter_map certify_of choices) ≤ 1
  pub allowance : settings.allowance ≡ slice_index_or (filter_map allowance_of choices) 0 10000
  pub rungs : settings.rungs ≡ slice_index_or (filter_map rungs_of choices) 0 0
  pub list : settings.list ≡ slice_get (filter_map list_of choices) 0
  pub ahead : settings.ahead ≡ slice_index_or (filter_map ahead_of choices) 0 0
  pub workers : settings.workers ≡ slice_index_or (filter_map workers_of choices) 0 0
  pub certify : settings.certify ≡ slice_index_or (filter_map certify_of choices) 0 false

-- ---- the whole

-- the word that asks for this text
abbrev pub word_of : What → List ℕ
word_of what.Model = codes "model"
word_of what.Config = codes "config"
word_of what.Report = codes "report"

-- the words say this request
abbrev pub Says : List (List ℕ) → Request → Type 0
Says words (Diagnose model config settings) =
    (options : List (List ℕ)) × (words ≡ codes "diagnose" ∷ model ∷ config ∷ options)
    × IsTrue (names_a_file model) × IsTrue (names_a_file config) × AreOptions options settings
Says words (Verify model config certificate) =
    (words ≡ codes "verify" ∷ model ∷ config ∷ certificate ∷ []) × IsTrue (names_a_file model) × IsTrue (names_a_file config) × IsTrue (names_a_file certificate)
Says words (Generate seed size what) = (words ≡ codes "generate" ∷ decimal seed ∷ decimal size ∷ word_of what ∷ []) × IsDrawn seed size

-- ---- the request, computed

-- what the options read so far choose
pub record Chosen : Type 0 where
  pub allowance : Option ℕ
  pub rungs : Option ℕ
  pub list : Option ℕ
  pub ahead : Option ℕ
  pub workers : Option ℕ
  pub certify : Option Bool

abbrev pub nothing_chosen : Chosen
nothing_chosen = record { allowance = None; rungs = None; list = None; ahead = None; workers = None; certify = None }

-- with one more option, which must be allowed and new
abbrev pub chosen_with : Chosen → Choice → Option Chosen
chosen_with chosen (Allowance most) =
    if is_none chosen.allowance && may_be_chosen (Allowance most) then Some (record chosen { allowance = Some most }) else None
chosen_with chosen (Rungs more) =
    if is_none chosen.rungs && may_be_chosen (Rungs more) then Some (record chosen { rungs = Some more }) else None
chosen_with chosen (Listing most) =
    if is_none chosen.list && may_be_chosen (Listing most) then Some (record chosen { list = Some most }) else None
chosen_with chosen (Ahead answers) =
    if is_none chosen.ahead && may_be_chosen (Ahead answers) then Some (record chosen { ahead = Some answers }) else None
chosen_with chosen (Workers threads) =
    if is_none chosen.workers && may_be_chosen (Workers threads) then Some (record chosen { workers = Some threads }) else None
chosen_with chosen Certify = if is_none chosen.certify && may_be_chosen Certify then Some (record chosen { certify = Some true }) else None

-- the option of this name and number
abbrev pub choice_of : List ℕ → ℕ → Option Choice
choice_of name value =
    if bytes_eq name (codes "--allowance") then Some (Allowance value)
    else (if bytes_eq name (codes "--rungs") then Some (Rungs value)
    else (if bytes_eq name (codes "--list") then Some (Listing value)
    else (if bytes_eq name (codes "--ahead") then Some (Ahead value) else (if bytes_eq name (codes "--workers") then Some (Workers value) else None))))

-- with the option that these two words are
abbrev pub chosen_by : Chosen → List ℕ → List ℕ → Option Chosen
chosen_by chosen name value = option_and_then (chosen_with chosen) (option_and_then (choice_of name) (number_of value))

-- with the options that the words are: one has no number behind it
abbrev pub chosen_from : Chosen → List (List ℕ) → Option Chosen
chosen_from chosen [] = Some chosen
chosen_from chosen (name ∷ []) = if bytes_eq name (codes "--certify") then chosen_with chosen Certify else None
chosen_from chosen (name ∷ value ∷ rest) =
    if bytes_eq name (codes "--certify") then option_and_then (λ now. chosen_from now (value ∷ rest)) (chosen_with chosen Certify)
    else option_and_then (λ now. chosen_from now rest) (chosen_by chosen name value)

abbrev pub settings_of : Chosen → Settings
settings_of chosen = record {
  allowance = unwrap_or chosen.allowance 10000;
  rungs = unwrap_or chosen.rungs 0;
  list = chosen.list;
  ahead = unwrap_or chosen.ahead 0;
  workers = unwrap_or chosen.workers 0;
  certify = unwrap_or chosen.certify false;
}

-- what `diagnose` asks with these words behind it
abbrev pub diagnosis_of : List (List ℕ) → Option Request
diagnosis_of (model ∷ config ∷ options) =
    if names_a_file model && names_a_file config
    then option_map (λ chosen. Diagnose model config (settings_of chosen)) (chosen_from nothing_chosen options) else None
diagnosis_of [] = None
diagnosis_of (model ∷ []) = None

-- what `verify` asks with these words behind it
abbrev pub verification_of : List (List ℕ) → Option Request
verification_of (model ∷ config ∷ certificate ∷ []) =
    if names_a_file model && names_a_file config && names_a_file certificate then Some (Verify model config certificate) else None
verification_of [] = None
verification_of (model ∷ []) = None
verification_of (model ∷ config ∷ []) = None
verification_of (model ∷ config ∷ certificate ∷ more ∷ others) = None

-- the text that the word asks for
abbrev pub what_of : List ℕ → Option What
what_of word =
    if bytes_eq word (codes "model") then Some what.Model
    else (if bytes_eq word (codes "config") then Some what.Config else (if bytes_eq word (codes "report") then Some what.Report else None))

abbrev pub may_be_drawn : ℕ → ℕ → Bool
may_be_drawn seed size = nat_le seed 4294967295 && nat_le 1 size && nat_le size 60000

-- a text that is drawn from these numbers, where they are in their ranges
abbrev pub drawn_of : ℕ → ℕ → List ℕ → Option Request
drawn_of seed size word = if may_be_drawn seed size then option_map (Generate seed size) (what_of word) else None

-- what `generate` asks with these words behind it
abbrev pub generation_of : List (List ℕ) → Option Request
generation_of (seed ∷ size ∷ word ∷ []) = option_and_then (λ s. option_and_then (λ z. drawn_of s z word) (number_of size)) (number_of seed)
generation_of [] = None
generation_of (seed ∷ []) = None
generation_of (seed ∷ size ∷ []) = None
generation_of (seed ∷ size ∷ word ∷ more ∷ others) = None

-- the request that the words say, or nothing: they say at most one
abbrev pub request_of : List (List ℕ) → Option Request
request_of [] = None
request_of (verb ∷ rest) =
    if bytes_eq verb (codes "diagnose") then diagnosis_of rest
    else (if bytes_eq verb (codes "verify") then verification_of rest else (if bytes_eq verb (codes "generate") then generation_of rest else None))

-- advice is asked for that other threads help with
abbrev pub asks_workers : Option Request → Bool
asks_workers None = false
asks_workers (Some (Diagnose model config settings)) = nat_lt 0 settings.workers
asks_workers (Some (Verify model config certificate)) = false
asks_workers (Some (Generate seed size what)) = false

-- a generated text is asked for
abbrev pub Generates : Option Request → Type 0
Generates None = ⊥
Generates (Some (Diagnose model config settings)) = ⊥
Generates (Some (Verify model config certificate)) = ⊥
Generates (Some (Generate seed size what)) = Unit {0}

-- the request that is computed is the one that the words say
abbrev pub WordsSayOneRequest : Type 0
WordsSayOneRequest = (words : List (List ℕ)) (request : Request) → Says words request ↔ (request_of words ≡ Some request)
