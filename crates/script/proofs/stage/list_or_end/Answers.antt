use Rattle.std.proofs.Common.{◌≡◌, ◌<◌, length, arith}
use Rattle.std.specs.List.{range_with_len}
use Rattle.std.proofs.lemmas.List.FromFn.{length-range_with_len}
use Rattle.script.specs.Job.{answers_of}
use Rattle.script.specs.inside.Going.{told_beside}
use Rattle.script.proofs.SomeConflict.{found-some}
use Rattle.script.proofs.StageLaws.{beyond-some}
use Rattle.script.proofs.stage.list_or_end.Goals as goal

pub new-requires-clause-some : goal.new-requires-clause-some
new-requires-clause-some c =
    let n = c.args.plan.requirements in
    let told = told_beside c.args.told.now in
    let some : 0 < n = beyond-some n told c.requires.stands.behind.beyond in
    let size : length (range_with_len 1 n) ≡ n = length-range_with_len 1 n in
    found-some (range_with_len 1 n) c.args.conflict.members (answers_of told) (omega arith) c.requires.stands.found
