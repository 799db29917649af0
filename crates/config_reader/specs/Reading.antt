-- What a configuration file says, or the fault that decides: that of its text, or else that of the first refused line. Own to
-- this project.
use Rattle.std.specs.Prelude.{ℕ, List, Ok, Err}
use Rattle.feature_tree.specs.FeatureModel.{FeatureModel}
use Rattle.uvl_lex.specs.declared.error.LexError.{LexError}
use Rattle.uvl_lex.specs.declared.error.LexError.TheVariants as lexing
use Rattle.uvl_lex.specs.declared.error.LexReason.{LexReason}
use Rattle.uvl_lex.specs.declared.error.LexReason.TheVariants as lexical
use Rattle.uvl_lex.specs.declared.token.Line.{Line}
use Rattle.uvl_lex.specs.Reading.{OrFault, reading}
use Rattle.config_reader.specs.declared.error.ConfigError.{ConfigError}
use Rattle.config_reader.specs.declared.error.ConfigError.TheVariants.{Refused, Memory}
use Rattle.config_reader.specs.declared.error.Reason.{Reason}
use Rattle.config_reader.specs.declared.error.Reason.TheVariants.{NotUtf8, BadToken, OpenBracket, OpenComment}
use Rattle.config_reader.specs.Configuration.{Configuration}
use Rattle.config_reader.specs.Judgement.{OrRefused, on_ok, Standing, start, after_lines}
use Rattle.config_reader.specs.Kinds.{version_of, judged}
use Rattle.config_reader.specs.Names.{names_of}
use Rattle.name_table.specs.Numbers.{Numbers}
use Rattle.config_reader.specs.Tiers.{by_tier}

abbrev pub reason_of : LexReason → Reason
reason_of lexical.NotUtf8 = NotUtf8
reason_of lexical.BadToken = BadToken
reason_of lexical.OpenBracket = OpenBracket
reason_of lexical.OpenComment = OpenComment

-- the fault of a text, as a refusal of the file
abbrev pub fault : LexError → ConfigError
fault (lexing.Refused line reason) = Refused line (reason_of reason)
fault lexing.Memory = Memory

-- first the version, then the lines
unfoldable pub standing : Numbers → List ℕ → List Line → OrRefused Standing
standing names bytes lines = after_lines (version_of bytes lines) names bytes start (judged (version_of bytes lines) lines)

-- requirements are numbered by tier and place, musts by place
abbrev pub numbered_by_tier : Standing → Configuration
numbered_by_tier read = record { requirements = by_tier read.placed; musts = read.musts }

-- the configuration that the lines state, where the text has no fault
abbrev pub if_lines : Numbers → List ℕ → OrFault (List Line) → OrRefused Configuration
if_lines names bytes (Ok lines) = on_ok numbered_by_tier (standing names bytes lines)
if_lines names bytes (Err error) = Err (fault error)

unfoldable pub configuration : List ℕ → FeatureModel → OrRefused Configuration
configuration bytes model = if_lines (names_of model.features) bytes (reading bytes)
