-- What a certificate says of the requirements.
use Rattle.std.specs.Prelude.{◌≡◌, List, [], ◌∷◌, Result, Ok, Err}
use Rattle.certificate.specs.declared.judgement.Judgement.TheVariants.{No}
use Rattle.certificate.specs.declared.parts.Stop.{Stop}
use Rattle.certificate.specs.declared.parts.Stop.TheVariants.{Refused, Memory}
use Rattle.certificate.specs.declared.verifying.Said.{Said}
use Rattle.certificate.specs.declared.verifying.Said.TheVariants as said
use Rattle.certificate.specs.Judging.{Subject, Awaited, Kind, Kept, background_parts, consistent_parts}
use Rattle.certificate.specs.inside.Ahead.{Ahead, judged_at}

-- what is awaited behind it
abbrev pub parts_of : Subject → Said → List Awaited
parts_of about said.Consistent = consistent_parts about
parts_of about said.Background = background_parts about
parts_of about said.Explained = Kept ∷ []

-- the line says this, or is refused
abbrev pub KindIs : Ahead → Ahead → Result Said Stop → Type 0
KindIs before now (Ok kind) = (about : Subject) → judged_at about (Kind ∷ []) before ≡ judged_at about (parts_of about kind) now
KindIs before now (Err (Refused line why)) = (about : Subject) → judged_at about (Kind ∷ []) before ≡ No line why
KindIs before now (Err Memory) = Unit {0}
