-- What holds of every model file.
use Rattle.std.specs.Prelude.{◌≡◌, ℕ, ◌<◌, ◌≤◌, false, List, All, AllPairs, Ok}
use Rattle.feature_tree.specs.FeatureModel.{FeatureModel}
use Rattle.feature_tree.specs.WellFormed.{IsWellFormed}
use Rattle.uvl_lex.specs.declared.token.Line.{Line}
use Rattle.uvl_lex.specs.Reading.{reading}
use Rattle.uvl_reader.specs.ModelReading.{model_of}
use Rattle.uvl_reader.specs.Nesting.{judged_lines}

-- What a file says, if it isn't refused, is a tree of 1 to 65,535 features with constraints that name no others.
abbrev pub ModelsAreWellFormed : Type 0
ModelsAreWellFormed = (bytes : List ℕ) (model : FeatureModel) → model_of bytes ≡ Ok model → IsWellFormed model.features model.constraints

-- the lines have numbers from 1 on, and each a higher one than the lines before it
pub record NumbersRise (lines : List Line) : Type 0 where
  pub counted : All (λ line. 1 ≤ line.number) lines
  pub rise : AllPairs (λ line later. line.number < later.number) lines

-- The numbers of a file's lines rise, and so do those of the lines that are judged: a line is told by its number.
abbrev pub LineNumbersRise : Type 0
LineNumbersRise = (bytes : List ℕ) (lines : List Line) → reading bytes ≡ Ok lines → NumbersRise lines

abbrev pub JudgedNumbersRise : Type 0
JudgedNumbersRise = (bytes : List ℕ) (lines : List Line) → reading bytes ≡ Ok lines → NumbersRise (judged_lines false lines)
