use Rattle.std.proofs.Common.{◌≡◌, ◌<◌, ◌≤◌, ◌+◌, ℕ, List, true, ◌∙◌, ap, sym, subst, arith}
use Rattle.std.specs.Prelude.{IfOk, reverse}
use Rattle.pref_sets.specs.Plan.{Plan, after_answer}
use Rattle.req_keys.specs.Key.{PositionSet}
use Rattle.fast_diag.specs.inside.Remaining.{StandsAt, waiting, with_waiting, remaining, left_of}
use Rattle.fast_diag.specs.declared.parts.Half.{Half}
use Rattle.fast_diag.specs.declared.parts.Part.{Part}
use Rattle.fast_diag.proofs.AfterAnswer.{after-sat, after-more, stands-kept, stands-asked}
use Rattle.fast_diag.proofs.parts.Asking.after.Goals as goal

-- equal keys and halves stand there too
stands-copies : (n at : ℕ) (kept key : PositionSet) (halves copies : List Half) → kept ≡ key → halves ≡ copies → StandsAt key.n at key copies → StandsAt kept.n at kept halves
stands-copies n at kept key halves copies e f h =
    subst (λ (hs : List Half). StandsAt kept.n at kept hs) (sym f) (subst (λ (k : PositionSet). StandsAt k.n at k copies) (sym e) h)

pub settle-requires : goal.settle-requires
settle-requires c =
    let asking = c.args.self.now in
    record { place = stands-copies asking.kept.n (asking.before + asking.length) c.in_ok-all.all asking.asked c.in_ok-halves.halves asking.halves c.in_ok-all.ensures (c.in_ok-halves.ensures ∙ c.as_slice.ensures) (stands-asked asking.kept.n asking c.requires) }

pub settle-requires-then-self-eq1 : goal.settle-requires-then-self-eq1
settle-requires-then-self-eq1 c =
    let asking = c.args.self.now in
    record { place = stands-copies asking.kept.n (asking.before + asking.length) c.in_ok-kept.kept asking.kept c.in_ok-halves.halves asking.halves c.in_ok-kept.ensures (c.in_ok-halves.ensures ∙ c.as_slice.ensures) (stands-kept asking.kept.n asking c.requires) }

pub divide-requires-clause-place : goal.divide-requires-clause-place
divide-requires-clause-place c =
    let asking = c.args.self.now in
    stands-copies asking.kept.n (asking.before + asking.length) c.in_ok-kept.kept asking.kept c.in_ok-halves.halves asking.halves c.in_ok-kept.ensures (c.in_ok-halves.ensures ∙ c.as_slice.ensures) (stands-kept asking.kept.n asking c.requires)

pub returns-then-sat-clause-plan : goal.returns-then-sat-clause-plan
returns-then-sat-clause-plan c =
    let asking = c.args.self.now in
    let set : PositionSet → List ℕ = λ key. key.members in
    let e : waiting (reverse c.in_ok-halves.halves) c.in_ok-all.all.members ≡ after_answer c.args.sat (left_of asking) =
    ap (λ (halves : List Half). waiting (reverse halves) c.in_ok-all.all.members) (c.in_ok-halves.ensures ∙ c.as_slice.ensures)
    ∙ ap (waiting (reverse asking.halves)) (ap set c.in_ok-all.ensures ∙ ap set c.requires.asked)
    ∙ after-sat asking.kept.members asking.before asking.length asking.halves c.requires.some
    ∙ ap (λ sat. after_answer sat (left_of asking)) (sym c.if-sat.true) in
    subst (λ (p : Plan). IfOk c.settle.result (λ (part : Part). remaining part ≡ p)) e c.settle.ensures.plan

pub returns-clause-plan : goal.returns-clause-plan
returns-clause-plan c =
    let asking = c.args.self.now in
    let set : PositionSet → List ℕ = λ key. key.members in
    let some : 0 < asking.length = c.requires.some in
    let two : 2 ≤ asking.length = omega arith in
    let e : with_waiting c.in_ok-kept.kept.members asking.before asking.length true c.in_ok-halves.halves ≡ after_answer c.args.sat (left_of asking) =
    ap (with_waiting c.in_ok-kept.kept.members asking.before asking.length true) (c.in_ok-halves.ensures ∙ c.as_slice.ensures)
    ∙ ap (λ (kept : List ℕ). with_waiting kept asking.before asking.length true asking.halves) (ap set c.in_ok-kept.ensures)
    ∙ after-more asking.kept.members asking.before asking.length asking.halves two
    ∙ ap (λ sat. after_answer sat (left_of asking)) (sym c.if-sat.false) in
    subst (λ (p : Plan). IfOk c.divide.result (λ (part : Part). remaining part ≡ p)) e c.divide.ensures.plan
