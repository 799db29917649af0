-- Worked examples of what a command line is answered. Each computes.
use Rattle.std.specs.Prelude.{◌≡◌, ℕ, List, [], ◌∷◌, ◌++◌, Some, None, codes, if◌then◌else◌, refl}
use Rattle.std.specs.Str.{bytes_eq}
use Rattle.std.specs.Fmt.{digits}
use Rattle.command_line.specs.declared.status.Status.TheVariants as status
use Rattle.config_reader.specs.Judgement.{after_line, after_lines, requirement}
use Rattle.config_reader.specs.Reading.{configuration, standing}
use Rattle.diag_base.specs.Shelf.{Files}
use Rattle.feature_tree.specs.FormulaAnswerExamples.{computing as formula_computing}
use Rattle.uvl_lex.specs.Examples.{computing as text_computing}
use Rattle.uvl_reader.specs.ModelReading.{model_of}
use Rattle.diag_top.specs.Answer.{answer}
use Rattle.diag_top.specs.Refusals.{words_refused}
use Rattle.diag_top.specs.Unindented.{unindented}
use Rattle.model_gen.specs.Texts.{tabs_of}
use Rattle.report.specs.Lines.{line}

-- a model m and a configuration c
abbrev two_files : List ℕ → List ℕ → Files
two_files model config name = if bytes_eq name (codes "m") then Some model else (if bytes_eq name (codes "c") then Some config else None)

abbrev words : List (List ℕ)
words = codes "diagnose" ∷ codes "m" ∷ codes "c" ∷ []

-- a root alone
abbrev root : List ℕ
root = line (codes "features") ++ 9 ∷ line (codes "R")

pub no_words : answer [] (two_files root []) ≡ Some words_refused
no_words = refl

-- the answer is not there where a file isn't that the order of work fetches
pub no_model : answer words (λ name. None) ≡ None
no_model = refl

-- a model that is refused is answered before the configuration is fetched
pub model_refused : answer words (λ name. if bytes_eq name (codes "m") then Some (line (codes "features")) else None)
    ≡ Some (record { status = status.BadModel; text = line (codes "model refused line 1 NoFeatures") })
unfolding digits model_of formula_computing text_computing
model_refused = refl

pub no_config : answer words (λ name. if bytes_eq name (codes "m") then Some root else None) ≡ None
unfolding model_of formula_computing text_computing
no_config = refl

pub config_refused : answer words (two_files root (line [] ++ line (codes "S")))
    ≡ Some (record { status = status.BadConfig; text = line (codes "configuration refused line 2 Unknown") })
unfolding digits model_of configuration standing after_lines after_line requirement formula_computing text_computing
config_refused = refl

-- generated texts need no file
pub generated_config : answer (codes "generate" ∷ codes "1" ∷ codes "4" ∷ codes "config" ∷ []) (λ name. None)
    ≡ Some (record { status = status.Generated; text = line (codes "F3") })
unfolding digits tabs_of
generated_config = refl

-- lines that begin with a blank are left out, also the last one without an end
pub unindented_lines : unindented (line (codes "a") ++ line (codes " b") ++ line [] ++ line (codes "c d") ++ codes "  e")
    ≡ line (codes "a") ++ line [] ++ line (codes "c d")
unindented_lines = refl

pub unindented_end : unindented (codes " a") ≡ []
unindented_end = refl
