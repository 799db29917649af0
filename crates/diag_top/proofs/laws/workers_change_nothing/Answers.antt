use Rattle.std.proofs.Common.{◌∙◌, sym, ap}
use Rattle.diag_top.specs.Answer.{work_of}
use Rattle.diag_top.specs.Work.{replied}
use Rattle.diag_top.proofs.laws.workers_change_nothing.Goals as goal

pub returns : goal.returns
returns c words others model config settings workers files one other = ap (λ request. replied files (work_of request)) other ∙ sym (ap (λ request. replied files (work_of request)) one)
