-- What is written where a file or a problem is refused (own to this project).
use Rattle.std.specs.Prelude.{ℕ, List, ◌++◌, codes}
use Rattle.std.specs.Fmt.{decimal}
use Rattle.command_line.specs.declared.status.Status.TheVariants as status
use Rattle.certificate.specs.declared.judgement.Judgement.{Judgement}
use Rattle.certificate.specs.declared.judgement.Judgement.TheVariants as judgement
use Rattle.certificate.specs.declared.judgement.Shown.{Shown}
use Rattle.certificate.specs.declared.judgement.Shown.TheVariants as shown
use Rattle.certificate.specs.declared.judgement.Why.{Why}
use Rattle.certificate.specs.declared.judgement.Why.TheVariants as why
use Rattle.config_reader.specs.declared.error.ConfigError.{ConfigError}
use Rattle.config_reader.specs.declared.error.ConfigError.TheVariants as config
use Rattle.config_reader.specs.declared.error.Reason.{Reason as ConfigReason}
use Rattle.config_reader.specs.declared.error.Reason.TheVariants as in_config
use Rattle.uvl_reader.specs.Refusals.{Refusal}
use Rattle.uvl_reader.specs.declared.error.Reason.{Reason as ModelReason}
use Rattle.uvl_reader.specs.declared.error.Reason.TheVariants as in_model
use Rattle.report.specs.Lines.{line}
use Rattle.diag_top.specs.Work.{Reply}

abbrev pub words_refused : Reply
words_refused = record { status = status.BadWords; text = line (codes "words refused") }

-- ---- a model file

abbrev pub model_reason : ModelReason → List ℕ
model_reason in_model.NotUtf8 = codes "NotUtf8"
model_reason in_model.BadToken = codes "BadToken"
model_reason in_model.OpenBracket = codes "OpenBracket"
model_reason in_model.OpenComment = codes "OpenComment"
model_reason in_model.BadIndent = codes "BadIndent"
model_reason in_model.Misplaced = codes "Misplaced"
model_reason in_model.BadGroup = codes "BadGroup"
model_reason in_model.BadFeature = codes "BadFeature"
model_reason in_model.BadFormula = codes "BadFormula"
model_reason in_model.TooDeep = codes "TooDeep"
model_reason in_model.Unsupported = codes "Unsupported"
model_reason in_model.Twice = codes "Twice"
model_reason in_model.Unknown = codes "Unknown"
model_reason in_model.NoFeatures = codes "NoFeatures"
model_reason in_model.TooMany = codes "TooMany"

abbrev pub model_too_long : Reply
model_too_long = record { status = status.BadModel; text = line (codes "model refused too long") }

abbrev pub model_refused : Refusal → Reply
model_refused refused =
    record { status = status.BadModel; text = line (codes "model refused line " ++ decimal refused.line ++ codes " " ++ model_reason refused.reason) }

-- ---- a configuration

abbrev pub config_reason : ConfigReason → List ℕ
config_reason in_config.NotUtf8 = codes "NotUtf8"
config_reason in_config.BadToken = codes "BadToken"
config_reason in_config.OpenBracket = codes "OpenBracket"
config_reason in_config.OpenComment = codes "OpenComment"
config_reason in_config.TooMany = codes "TooMany"
config_reason in_config.Unsupported = codes "Unsupported"
config_reason in_config.BadFormula = codes "BadFormula"
config_reason in_config.TooDeep = codes "TooDeep"
config_reason in_config.Unknown = codes "Unknown"
config_reason in_config.BadTier = codes "BadTier"

abbrev pub config_too_long : Reply
config_too_long = record { status = status.BadConfig; text = line (codes "configuration refused too long") }

-- a file is never read as want of memory
abbrev pub config_refused : ConfigError → Reply
config_refused (config.Refused number reason) =
    record { status = status.BadConfig; text = line (codes "configuration refused line " ++ decimal number ++ codes " " ++ config_reason reason) }
config_refused config.Memory = config_too_long

-- ---- a problem

abbrev pub too_large : ℕ → Reply
too_large needed =
    record { status = status.TooLarge; text = line (codes "problem refused variables " ++ decimal needed ++ codes " limit 1000000") }

-- ---- a certificate

abbrev pub why_word : Why → List ℕ
why_word why.NoCertificate = codes "NoCertificate"
why_word why.BadLine = codes "BadLine"
why_word why.NotProduct = codes "NotProduct"
why_word why.NotConsequence = codes "NotConsequence"
why_word why.NoEnd = codes "NoEnd"

abbrev pub shown_word : Shown → List ℕ
shown_word shown.Consistent = codes "consistent"
shown_word shown.Background = codes "background"
shown_word (shown.Explained kept conflict) = codes "explained"

abbrev pub certificate_too_long : Reply
certificate_too_long = record { status = status.Rejected; text = line (codes "rejected too long") }

abbrev pub judgement_reply : Judgement → Reply
judgement_reply (judgement.Yes shows) = record { status = status.Verified; text = line (codes "verified " ++ shown_word shows) }
judgement_reply (judgement.No number reason) =
    record { status = status.Rejected; text = line (codes "rejected line " ++ decimal number ++ codes " " ++ why_word reason) }
