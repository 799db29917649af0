use Rattle.std.proofs.Common.{◌≡◌, ℕ, ◌+◌, ◌-◌, ◌/◌, ◌<◌, ◌≤◌, ◌∷◌, true, false, length, refl, ◌∙◌, ap, subst, arith}
use Rattle.std.specs.Prelude.{IfOk, reverse}
use Rattle.pref_sets.specs.Plan.{Plan}
use Rattle.req_keys.specs.Key.{PositionSet, key_with}
use Rattle.req_keys.proofs.PositionsLaws.{length-RiseWithin}
use Rattle.quick_xplain.specs.inside.Remaining.{remaining, waiting, with_waiting}
use Rattle.quick_xplain.specs.declared.parts.Part.{Part}
use Rattle.quick_xplain.proofs.Joining.{place_there, position-within, joined-key, stands-joined}
use Rattle.quick_xplain.proofs.WaitingHalves.{divided, joined}
use Rattle.quick_xplain.proofs.parts.descend.Goals as goal

pub with-requires-clause-counted : goal.with-requires-clause-counted
with-requires-clause-counted c =
    let within : (0 < c.at.result) × (c.at.result ≤ c.args.among.now.n) = position-within c.args.among.now c.args.conflict c.args.before c.args.length c.at.result c.args.halves c.requires c.if-length-eq1.true c.at.ensures in
    let some : 0 < c.at.result = within.0 in
    omega arith

pub with-requires-clause-within : goal.with-requires-clause-within
with-requires-clause-within c =
    let within : (0 < c.at.result) × (c.at.result ≤ c.args.among.now.n) = position-within c.args.among.now c.args.conflict c.args.before c.args.length c.at.result c.args.halves c.requires c.if-length-eq1.true c.at.ensures in
    let over : c.args.conflict.n ≡ c.args.among.now.n = c.requires.place.over in
    rw over within.1

pub resume-requires-clause-some : goal.resume-requires-clause-some
resume-requires-clause-some c =
    let many : PositionSet → ℕ = λ key. length key.members in
    let key : c.in_ok-more.more ≡ key_with c.args.conflict c.at.result = c.in_ok-more.ensures in
    let more : length c.in_ok-more.more.members ≡ length (c.at.result ∷ c.args.conflict.members) =
    ap many (key ∙ joined-key c.args.among.now c.args.conflict c.args.before c.args.length c.at.result c.args.halves c.requires c.if-length-eq1.true c.at.ensures) in
    omega arith

pub resume-requires-clause-place : goal.resume-requires-clause-place
resume-requires-clause-place c =
    stands-joined c.args.among.now c.args.conflict c.args.before c.args.length c.at.result c.args.halves c.requires c.if-length-eq1.true c.at.ensures c.in_ok-more.more c.in_ok-more.ensures

pub returns-then-length-eq1-clause-plan : goal.returns-then-length-eq1-clause-plan
returns-then-length-eq1-clause-plan c =
    let key = c.in_ok-more.ensures ∙ joined-key c.args.among.now c.args.conflict c.args.before c.args.length c.at.result c.args.halves c.requires c.if-length-eq1.true c.at.ensures in
    let there = place_there c.args.among.now c.args.conflict c.args.before c.args.length c.at.result c.args.halves c.requires c.if-length-eq1.true c.at.ensures in
    let e : waiting c.args.among.now.members (reverse c.args.halves) c.in_ok-more.more.members ≡ with_waiting c.args.among.now.members c.args.before c.args.length c.args.conflict.members false c.args.halves =
    ap (λ (k : PositionSet). waiting c.args.among.now.members (reverse c.args.halves) k.members) key
    ∙ joined c.args.among.now.members c.args.before c.args.length c.at.result c.args.conflict.members c.args.halves c.if-length-eq1.true there c.at.ensures in
    subst (λ (p : Plan). IfOk c.resume.result (λ (part : Part). remaining c.args.among.now.members part ≡ p)) e c.resume.ensures.plan

pub overflow_add-before : goal.overflow_add-before
overflow_add-before c =
    let few : length c.args.among.now.members ≤ c.args.among.now.n - 0 = length-RiseWithin 0 c.args.among.now.n c.args.among.now.members c.requires.place.key.1 in
    let within : c.args.before + c.args.length ≤ length c.args.among.now.members = c.requires.place.within in
    let most : c.args.among.now.n ≤ 4096 = c.requires.place.key.0 in
    omega arith

pub returns-clause-plan : goal.returns-clause-plan
returns-clause-plan c =
    let some : 0 < c.args.length = c.requires.some in
    let within : c.args.before + c.args.length ≤ length c.args.among.now.members = c.requires.place.within in
    let e : with_waiting c.args.among.now.members (c.args.before + c.args.length / 2) (c.args.length - c.args.length / 2) c.args.conflict.members true c.push.new.self ≡ with_waiting c.args.among.now.members c.args.before c.args.length c.args.conflict.members false c.args.halves =
    divided c.args.among.now.members c.args.before c.args.length c.args.conflict.members c.args.halves c.push.new.self _ (omega arith) within c.in_ok-push.ensures.ok refl refl c.len.ensures in
    subst (λ (p : Plan). IfOk c.ask.result (λ (part : Part). remaining c.args.among.now.members part ≡ p)) e c.ask.ensures.plan
