use Rattle.std.proofs.Common.{◌≡◌, Some, None, ap, refl}
use Rattle.std.proofs.lemmas.List.Elements.{All-contains}
use Rattle.std.proofs.lemmas.Option.{none-some, same_Some}
use Rattle.req_keys.specs.Key.{PositionSet}
use Rattle.script.specs.Job.{Told, Wanted, asks, ends, verdict_in, want}
use Rattle.script.specs.Running.{key_in}
use Rattle.script.specs.declared.job.Part.{Part}
use Rattle.look_ahead.specs.Ahead.{keys_ahead}
use Rattle.look_ahead.specs.Postings.{wants_of}
use Rattle.look_ahead.proofs.GuessedKeys.{ahead-distinct, ahead-others, ahead-size}
use Rattle.look_ahead.proofs.laws.guessed_keys_fit_a_turn.Goals as goal

asked_by : (wanted : Wanted) (key : PositionSet) → key_in wanted ≡ Some key → (part : Part) × (wanted ≡ asks part key)
asked_by (asks part other) key e = (part, ap (asks part) (same_Some other key e))
asked_by (ends outcome) key e = absurd (none-some key e)

pub returns-clause-distinct : goal.returns-clause-distinct
returns-clause-distinct c = λ plan told depth. ahead-distinct (wants_of plan) told depth

pub returns-clause-others : goal.returns-clause-others
returns-clause-others c = λ plan told depth asked e m.
    let new : (t : Told) (key : PositionSet) → wants_of plan t ≡ Some key → verdict_in t key ≡ None = λ t key is. let by = asked_by (want plan t) key is in c.job_asks_new_keys.ensures.new plan t by.0 key by.1 in
    let size : (t : Told) (key : PositionSet) → wants_of plan t ≡ Some key → key.n ≡ plan.requirements = λ t key is. let by = asked_by (want plan t) key is in (c.job_asks_new_keys.ensures.positions plan t by.0 key by.1).0 in
    All-contains (λ (key : PositionSet). ¬ (key ≡ asked)) (keys_ahead (wants_of plan) told depth) asked (ahead-others (wants_of plan) plan.requirements new size told depth asked e) m refl

pub returns-clause-positions : goal.returns-clause-positions
returns-clause-positions c = λ plan told depth.
    let new : (t : Told) (key : PositionSet) → wants_of plan t ≡ Some key → verdict_in t key ≡ None = λ t key is. let by = asked_by (want plan t) key is in c.job_asks_new_keys.ensures.new plan t by.0 key by.1 in
    let size : (t : Told) (key : PositionSet) → wants_of plan t ≡ Some key → key.n ≡ plan.requirements = λ t key is. let by = asked_by (want plan t) key is in (c.job_asks_new_keys.ensures.positions plan t by.0 key by.1).0 in
    ahead-size (wants_of plan) plan.requirements new size told depth
