use Rattle.certificate.proofs.Soundness.{accepted-so}
use Rattle.certificate.proofs.laws.accepted_is_so.Goals as goal

pub returns : goal.returns
returns c = λ model config allowance rungs bytes shown stated yes. accepted-so model config allowance rungs stated bytes shown yes
