use Rattle.std.proofs.Common.{◌∙◌, sym, ap, subst, ◌∷◌, ◌+◌, ◌++◌, List, ℕ, get_or, drop, arith}
use Rattle.std.specs.List.{flat_map}
use Rattle.req_keys.specs.Positions.{RiseWithin}
use Rattle.certificate.specs.Judging.{Subject, need_parts}
use Rattle.certificate.specs.inside.Ahead.{judged_at}
use Rattle.certificate.proofs.NumberLaws.{rest-step}
use Rattle.certificate.proofs.PassingLaws.{passes-left, passes-fail}
use Rattle.certificate.proofs.ProductLaws.{position-within}
use Rattle.certificate.proofs.explained.all_needed.Goals as goal

pub needed-requires-clause-counted : goal.needed-requires-clause-counted
needed-requires-clause-counted c =
    let n = c.args.conflict.now.n in
    let same = c.as_slice-member-items.ensures ∙ c.in_ok-members.ensures in
    let above = (position-within 0 n c.as_slice-member-items.result.now (subst (RiseWithin 0 n) (sym same) c.n.ensures.key.1) c.loop-member.member-index c.loop-member-test.true).0 in
    omega arith

pub needed-requires-clause-within : goal.needed-requires-clause-within
needed-requires-clause-within c =
    let n = c.args.conflict.now.n in
    let same = c.as_slice-member-items.ensures ∙ c.in_ok-members.ensures in
    (position-within 0 n c.as_slice-member-items.result.now (subst (RiseWithin 0 n) (sym same) c.n.ensures.key.1) c.loop-member.member-index c.loop-member-test.true).1

pub returns-in_err-needed-clause-passes : goal.returns-in_err-needed-clause-passes
returns-in_err-needed-clause-passes c = λ problem.
    let about : Subject = record { model = c.args.model.now; config = c.args.config.now; problem = problem } in
    let items = c.as_slice-member-items.result.now in
    let i = c.loop-member.member-index in
    let members = c.args.conflict.now.members in
    let member = get_or items i 0 in
    passes-left about (flat_map (need_parts about members) members) (flat_map (need_parts about members) (member ∷ drop (i + 1) items)) c.args.lines.now c.loop-member.lines c.needed.new.lines c.from_residual-in_err-needed.result
    (λ rest. c.loop-member.invariant.so_far problem rest ∙ ap (λ (left : List ℕ). judged_at about (flat_map (need_parts about members) left ++ rest) c.loop-member.lines) (rest-step items i c.loop-member-test.true))
    (passes-fail (Unit {0}) about (need_parts about members member) (flat_map (need_parts about members) (drop (i + 1) items)) c.loop-member.lines c.needed.new.lines c.needed.new.lines c.from_residual-in_err-needed.result
    c.in_err-needed.field-0.0 c.from_residual-in_err-needed.ensures.1 (c.in_err-needed.ensures.passes problem))
