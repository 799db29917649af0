-- The judgement of a certificate, line by line. Own to this project. A certificate begins at the first line that is exactly
-- `certificate 1`. What may stand there next is known at each line, and the first line that is refused decides.
use Rattle.std.specs.Prelude.{ℕ, ◌+◌, ◌&&◌, Bool, true, false, if◌then◌else◌, List, [], ◌∷◌, ◌++◌, length, Option, Some, None, codes}
use Rattle.std.specs.Fmt.{decimal}
use Rattle.std.specs.List.{flat_map, list_all, range_with_len}
use Rattle.std.specs.Str.{bytes_eq}
use Rattle.clauses.specs.declared.literal.Lit.{Lit}
use Rattle.clauses.specs.Closure.{clash, follows}
use Rattle.clauses.specs.Problem.{ClauseProblem, clauses_with}
use Rattle.config_reader.specs.Configuration.{Configuration}
use Rattle.config_reader.specs.Consistent.{formulas_at, formulas_of}
use Rattle.feature_tree.specs.Decided.{is_product}
use Rattle.feature_tree.specs.FeatureModel.{FeatureModel}
use Rattle.feature_tree.specs.Truth.{truth}
use Rattle.req_keys.specs.Wanting.{key_over}
use Rattle.certificate.specs.declared.judgement.Judgement.{Judgement}
use Rattle.certificate.specs.declared.judgement.Judgement.TheVariants.{Yes, No}
use Rattle.certificate.specs.declared.judgement.Shown.{Shown}
use Rattle.certificate.specs.declared.judgement.Shown.TheVariants as shown
use Rattle.certificate.specs.declared.judgement.Why.{Why}
use Rattle.certificate.specs.declared.judgement.Why.TheVariants as why
use Rattle.certificate.specs.Sets.{given_up, refuted_with, met_without}
use Rattle.certificate.specs.Words.{lines_of, list_in, product_in, Saying, Learns, Clashes, Malformed, Foreign, saying_of}

-- what a certificate is about: a configuration of a model, and their problem
pub record Subject : Type 0 where
  pub model : FeatureModel
  pub config : Configuration
  pub problem : ClauseProblem

-- how many requirements there are
abbrev pub count_of : Subject → ℕ
count_of about = length about.config.requirements

-- ---- what a part shows

-- whether the set is a product of the model that makes every must and the requirements at these positions true
abbrev pub is_wanted : FeatureModel → Configuration → List ℕ → List Bool → Bool
is_wanted model config positions set = is_product model set && list_all (truth set) (formulas_of config.musts) && list_all (truth set) (formulas_at config positions)

-- the clauses that a derivation for these positions begins with
abbrev pub clauses_at : Subject → List ℕ → List (List Lit)
clauses_at about positions = clauses_with about.problem (key_over (count_of about) positions)

-- ---- what may stand next

pub data Awaited : Type 0 where
  -- `consistent`, `background` or `explained`
  Kind : Awaited
  -- `kept` and a list
  Kept : Awaited
  -- `conflict` and a list, where this is kept
  ConflictBeside : List ℕ → Awaited
  -- `product` and the features of a product that meets the requirements at these positions
  Product : List ℕ → Awaited
  -- a line that follows from these clauses, or the end of the derivation
  Derivation : List (List Lit) → Awaited
  -- this line
  Exactly : List ℕ → Awaited
  -- no more lines: then this is shown
  Nothing : Shown → Awaited

-- what is awaited of each kind, behind its line
abbrev pub consistent_parts : Subject → List Awaited
consistent_parts about = Product (range_with_len 1 (count_of about)) ∷ Exactly (codes "end") ∷ Nothing shown.Consistent ∷ []

abbrev pub background_parts : Subject → List Awaited
background_parts about = Derivation (clauses_at about []) ∷ Exactly (codes "end") ∷ Nothing shown.Background ∷ []

-- that a requirement can't join what is kept before it
abbrev pub refuted_parts : Subject → List ℕ → ℕ → List Awaited
refuted_parts about kept position =
    Exactly (codes "refute " ++ decimal position) ∷ Derivation (clauses_at about (refuted_with (count_of about) kept position)) ∷ []

-- that a member of the conflict is needed
abbrev pub need_parts : Subject → List ℕ → ℕ → List Awaited
need_parts about conflict member = Exactly (codes "need " ++ decimal member) ∷ Product (met_without (count_of about) conflict member) ∷ []

abbrev pub conflict_parts : Subject → List ℕ → List Awaited
conflict_parts about conflict =
    Exactly (codes "refute conflict") ∷ Derivation (clauses_at about conflict) ∷ flat_map (need_parts about conflict) conflict

abbrev pub end_parts : Subject → List ℕ → List ℕ → List Awaited
end_parts about kept conflict = Exactly (codes "end") ∷ Nothing (shown.Explained (key_over (count_of about) kept) (key_over (count_of about) conflict)) ∷ []

abbrev pub explained_parts : Subject → List ℕ → List ℕ → List Awaited
explained_parts about kept conflict =
    Product kept ∷ (flat_map (refuted_parts about kept) (given_up (count_of about) kept) ++ (conflict_parts about conflict ++ end_parts about kept conflict))

-- ---- one line

-- a line is accepted, and this is awaited behind it; or it is refused
pub data Step : Type 0 where
  Goes : List Awaited → Step
  Refuses : Why → Step

abbrev pub step_at_kind : Subject → List ℕ → List Awaited → Step
step_at_kind about line rest = elim (bytes_eq line (codes "consistent")) [
  | true ↦ Goes (consistent_parts about ++ rest)
  | false ↦ elim (bytes_eq line (codes "background")) [
    | true ↦ Goes (background_parts about ++ rest)
    | false ↦ if bytes_eq line (codes "explained") then Goes (Kept ∷ rest) else Refuses why.BadLine
  ]
]

-- the list of the line leads on
abbrev pub step_at_list : Option (List ℕ) → (List ℕ → List Awaited) → Step
step_at_list None next = Refuses why.BadLine
step_at_list (Some numbers) next = Goes (next numbers)

abbrev pub step_at_product : Subject → List ℕ → Option (List Bool) → List Awaited → Step
step_at_product about positions None rest = Refuses why.BadLine
step_at_product about positions (Some set) rest = if is_wanted about.model about.config positions set then Goes rest else Refuses why.NotProduct

abbrev pub step_in_derivation : List (List Lit) → Saying → List Awaited → Step
step_in_derivation clauses (Learns clause) rest = if follows clauses clause then Goes (Derivation (clauses ++ clause ∷ []) ∷ rest) else Refuses why.NotConsequence
step_in_derivation clauses Clashes rest = if clash clauses then Goes rest else Refuses why.NotConsequence
step_in_derivation clauses Malformed rest = Refuses why.BadLine
step_in_derivation clauses Foreign rest = Refuses why.NoEnd

abbrev pub step : Subject → List Awaited → List ℕ → Step
step about [] line = Refuses why.BadLine
step about (Kind ∷ rest) line = step_at_kind about line rest
step about (Kept ∷ rest) line = step_at_list (list_in (codes "kept") (count_of about) line) (λ kept. ConflictBeside kept ∷ rest)
step about (ConflictBeside kept ∷ rest) line =
    step_at_list (list_in (codes "conflict") (count_of about) line) (λ conflict. explained_parts about kept conflict ++ rest)
step about (Product positions ∷ rest) line = step_at_product about positions (product_in (length about.model.features) line) rest
step about (Derivation clauses ∷ rest) line = step_in_derivation clauses (saying_of about.problem.variables line) rest
step about (Exactly text ∷ rest) line = if bytes_eq line text then Goes rest else Refuses why.BadLine
step about (Nothing shown ∷ rest) line = Refuses why.BadLine

-- ---- all lines

-- the file ends where this is awaited; the number is one past the last line
abbrev pub at_end : List Awaited → ℕ → Judgement
at_end (Nothing shown ∷ rest) number = Yes shown
at_end (Derivation clauses ∷ rest) number = No number why.NoEnd
at_end awaited number = No number why.BadLine

-- the judgement of these lines, of which the first has this number, where this is awaited
abbrev pub judged : Subject → List Awaited → ℕ → List (List ℕ) → Judgement
judged about awaited number [] = at_end awaited number
judged about awaited number (line ∷ lines) = elim (step about awaited line) [
  | Refuses why ↦ No number why
  | Goes next ↦ judged about next (number + 1) lines
]

-- the lines before a certificate aren't looked at
abbrev pub judged_from_start : Subject → ℕ → List (List ℕ) → Judgement
judged_from_start about number [] = No number why.NoCertificate
judged_from_start about number (line ∷ lines) = elim (bytes_eq line (codes "certificate 1")) [
  | true ↦ judged about (Kind ∷ []) (number + 1) lines
  | false ↦ judged_from_start about (number + 1) lines
]

-- the judgement of a file
abbrev pub judge : FeatureModel → Configuration → ClauseProblem → List ℕ → Judgement
judge model config problem bytes = judged_from_start (record { model = model; config = config; problem = problem }) 1 (lines_of bytes)
