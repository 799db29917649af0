-- Where a key is asked there is a part that asks it.
use Rattle.std.proofs.Common.{◌≡◌, refl}
use Rattle.std.specs.Prelude.{IsSome}
use Rattle.req_keys.specs.Key.{PositionSet}
use Rattle.script.specs.declared.job.Part.{Part}
use Rattle.script.specs.Job.{Wanted, asks, ends}
use Rattle.script.specs.Running.{key_in}

pub some-asks : (wanted : Wanted) → IsSome (key_in wanted) → (part : Part) × (key : PositionSet) × (wanted ≡ asks part key)
some-asks (asks part key) h = (part, key, refl)
some-asks (ends outcome) h = absurd (cc)
