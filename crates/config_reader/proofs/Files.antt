-- What a whole file comes to: the fault of its text, or what is read of its lines.
use Rattle.std.proofs.Common.{◌≡◌, ℕ, List, Ok, ap}
use Rattle.feature_tree.specs.FeatureModel.{FeatureModel}
use Rattle.uvl_lex.specs.declared.error.LexError.{LexError}
use Rattle.uvl_lex.specs.declared.error.LexError.TheVariants as lexing
use Rattle.uvl_lex.specs.declared.token.Line.{Line}
use Rattle.uvl_lex.specs.Reading.{reading, IsRefusal as IsFault}
use Rattle.config_reader.specs.Judgement.{on_ok, IsRefusal}
use Rattle.config_reader.specs.Names.{names_of}
use Rattle.config_reader.specs.Reading.{configuration, if_lines, fault, standing, numbered_by_tier}

module _ (bytes : List ℕ) (model : FeatureModel) where
  pub fault_refused : (error : LexError) → IsFault error (reading bytes) → IsRefusal (fault error) (configuration bytes model)
  unfolding configuration
  fault_refused (lexing.Refused line reason) e = ap (if_lines (names_of model.features) bytes) e
  fault_refused lexing.Memory e = tt

  pub configuration_of_lines : (lines : List Line) → reading bytes ≡ Ok lines → configuration bytes model ≡ on_ok numbered_by_tier (standing (names_of model.features) bytes lines)
  unfolding configuration
  configuration_of_lines lines e = ap (if_lines (names_of model.features) bytes) e
