use Rattle.std.proofs.Common.{◌≡◌, Some, ap, sym, ◌∙◌}
use Rattle.std.proofs.lemmas.Option.{same_Some}
use Rattle.req_keys.specs.Key.{PositionSet}
use Rattle.req_keys.specs.Wanting.{wanted_key}
use Rattle.script.proofs.SequentialRuns.{want-key}
use Rattle.script.specs.Running.{key_in, want_after}
use Rattle.look_ahead.specs.Postings.{turn_at}
use Rattle.diag_workers.proofs.AloneLaws.{asking, is_asking}
use Rattle.diag_workers.proofs.alone.check_next.Goals as goal

pub take_turn-requires-clause-asks : goal.take_turn-requires-clause-asks
take_turn-requires-clause-asks c = sym (ap wanted_key (sym c.in-Ask.is) ∙ c.want.ensures)

pub verdict_on-requires : goal.verdict_on-requires
verdict_on-requires c =
    let run = c.args.run.now in
    let key = c.in-Ask.key.now in
    let wanted : Some key ≡ key_in (want_after run) = ap wanted_key (sym c.in-Ask.is) ∙ c.want.ensures in
    let by = asking (want_after run) key wanted in
    (want-key run.plan run.told by.0 key by.1).size ∙ c.requires.plan

pub tell-requires : goal.tell-requires
tell-requires c =
    let run = c.args.run.now in
    let key = c.in-Ask.key.now in
    let wanted : Some key ≡ key_in (want_after run) = ap wanted_key (sym c.in-Ask.is) ∙ c.want.ensures in
    let by = asking (want_after run) key wanted in
    is_asking (want_after run) by.0 key by.1

pub returns-clause-turn : goal.returns-clause-turn
returns-clause-turn c = λ key e.
    let run = c.args.run.now in
    let asked = c.in-Ask.key.now in
    let wanted : Some asked ≡ key_in (want_after run) = ap wanted_key (sym c.in-Ask.is) ∙ c.want.ensures in
    let same : asked ≡ key = same_Some asked key (wanted ∙ e) in
    c.in_ok-take_turn.ensures ∙ ap (λ (k : PositionSet). turn_at run.plan c.args.depth run.told k c.args.posting.now) same
