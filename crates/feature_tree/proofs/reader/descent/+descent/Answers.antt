use Rattle.std.proofs.Common.{◌≡◌, ◌∙◌, ◌<◌, ◌-◌, sym, ap, subst, arith, length, [], ◌∷◌, ◌++◌, Ok, Err, ◌+◌, rules}
use Rattle.feature_tree.specs.Roles.{roles_of}
use Rattle.feature_tree.specs.Grammar.{unary}
use Rattle.feature_tree.specs.inside.Descent.{Answers, read}
use Rattle.feature_tree.proofs.DescentSteps.{length-roles, exit_answers, chain-first-err, go_on-start, go_on-step, go_on-step-err, finish-err, finish-ok, none_low, low-push, read-unary-zero, read-unary-name, read-unary-other, not-err, not-ok, opens-err, opens-ok, pushed}
use Rattle.feature_tree.specs.declared.reader.parsed.Parsed.{Parsed}
use Rattle.feature_tree.proofs.NodeSteps.{pairs_within, alone, gathered-start, gathered-next, gathered-err, gathered-end-err, gathered-end}
use Rattle.feature_tree.proofs.reader.descent.+descent.Goals as goal

pub read_node-returns-in_err-first-clause-answers : goal.read_node-returns-in_err-first-clause-answers
read_node-returns-in_err-first-clause-answers t c =
    exit_answers c.from_residual.result c.in_err-first.field-0.0 _ c.from_residual.ensures.1
    (chain-first-err (roles_of c.args.tokens.now) c.args.level c.args.room c.args.at c.in_err-first.field-0.0 c.in_err-first.ensures.answers)

pub read_node-returns-then-not-joins_at-clause-answers : goal.read_node-returns-then-not-joins_at-clause-answers
read_node-returns-then-not-joins_at-clause-answers t c =
    alone (roles_of c.args.tokens.now) c.args.level c.args.room c.args.at c.in_ok-first.field-0 c.in_ok-first.ensures.answers
    (sym c.joins_at.ensures.value ∙ c.if-not-joins_at.true) c.in_ok-first.ensures.past.low

pub read_node-members-init : goal.read_node-members-init
read_node-members-init t c =
    let past = c.in_ok-first.ensures.past in
    record {
      past = omega arith;
      inside = omega arith;
      low = omega arith;
      gathered = gathered-start (roles_of c.args.tokens.now) c.args.level c.args.room c.args.at c.in_ok-first.field-0 c.push.new.self c.in_ok-first.ensures.answers
          (sym c.joins_at.ensures.value ∙ c.if-not-joins_at.false) (omega arith)
          (c.in_ok-push.ensures.ok ∙ ap (λ none. none ++ c.in_ok-first.field-0.parsed.formula ∷ []) c.new-parts.ensures);
    }

pub read_node-returns-in_err-parsed-clause-answers : goal.read_node-returns-in_err-parsed-clause-answers
read_node-returns-in_err-parsed-clause-answers t c =
    let size = length-roles c.args.tokens.now in
    exit_answers c.from_residual-in_err-parsed.result c.in_err-parsed.field-0.0 _ c.from_residual-in_err-parsed.ensures.1
    (gathered-err (roles_of c.args.tokens.now) c.args.level c.args.room c.args.at c.members.parts c.members.height c.members.after c.members.invariant.gathered
    c.in_err-parsed.field-0.0 (omega arith) (sym c.joins_at-in-members.ensures.value ∙ c.members-test.true) c.in_err-parsed.ensures.answers)

pub read_node-members-preserved : goal.read_node-members-preserved
read_node-members-preserved t c =
    let size = length-roles c.args.tokens.now in
    let past = c.in_ok-parsed.ensures.past in
    record {
      past = omega arith;
      inside = omega arith;
      low = omega arith;
      gathered = gathered-next (roles_of c.args.tokens.now) c.args.level c.args.room c.args.at c.members.parts c.members.height c.members.after c.members.invariant.gathered
          c.in_ok-parsed.field-0 c.push-in-members.new.self c.max-height.result (omega arith) (sym c.joins_at-in-members.ensures.value ∙ c.members-test.true)
          c.in_ok-parsed.ensures.answers past.some c.in_ok-push-2.ensures.ok c.max-height.ensures;
    }

pub read_node-returns-in_err-parsed-2-clause-answers : goal.read_node-returns-in_err-parsed-2-clause-answers
read_node-returns-in_err-parsed-2-clause-answers t c =
    exit_answers c.from_residual-in_err-parsed-2.result c.in_err-parsed-2.field-0.0 _ c.from_residual-in_err-parsed-2.ensures.1
    (gathered-end-err (roles_of c.args.tokens.now) c.args.level c.args.room c.args.at c.members.parts c.members.height c.members.after c.members.invariant.gathered
    c.in_err-parsed-2.field-0.0 (sym c.joins_at-in-members.ensures.value ∙ c.members-test.false) c.requires.node c.in_err-parsed-2.ensures.answers)

pub read_node-returns-clause-answers : goal.read_node-returns-clause-answers
read_node-returns-clause-answers t c =
    gathered-end (roles_of c.args.tokens.now) c.args.level c.args.room c.args.at c.members.parts c.members.height c.members.after c.members.invariant.gathered
    c.in_ok-parsed-2.parsed (sym c.joins_at-in-members.ensures.value ∙ c.members-test.false) c.requires.node c.in_ok-parsed-2.ensures.answers

pub read_pairs-returns-in_err-first-clause-answers : goal.read_pairs-returns-in_err-first-clause-answers
read_pairs-returns-in_err-first-clause-answers t c =
    exit_answers c.from_residual.result c.in_err-first.field-0.0 _ c.from_residual.ensures.1
    (chain-first-err (roles_of c.args.tokens.now) c.args.level c.args.room c.args.at c.in_err-first.field-0.0 c.in_err-first.ensures.answers)

pub read_pairs-members-init : goal.read_pairs-members-init
read_pairs-members-init t c =
    let none : c.new-others.result.items ≡ [] = c.new-others.ensures.items in
    let size : length c.new-others.result.items ≡ 0 = ap length none in
    record {
      behind = omega (arith, c.in_ok-first.ensures.past);
      past = omega (arith, c.in_ok-first.ensures.past);
      inside = omega (arith, c.in_ok-first.ensures.past);
      first_is_low = omega (arith, c.in_ok-first.ensures.past);
      others_are_low = none_low c.args.room c.new-others.result.items none;
      whole = go_on-start (roles_of c.args.tokens.now) c.args.level c.args.room c.args.at c.in_ok-first.field-0 c.new-others.result.items none c.in_ok-first.ensures.answers;
    }

pub read_pairs-returns-in_err-parsed-clause-answers : goal.read_pairs-returns-in_err-parsed-clause-answers
read_pairs-returns-in_err-parsed-clause-answers t c =
    let size = length-roles c.args.tokens.now in
    let below : length c.members.others.items < length (roles_of c.args.tokens.now) = omega arith in
    exit_answers c.from_residual-in_err-parsed.result c.in_err-parsed.field-0.0 _ c.from_residual-in_err-parsed.ensures.1
    (subst (Answers (Err c.in_err-parsed.field-0.0)) c.members.invariant.whole
    (go_on-step-err (roles_of c.args.tokens.now) c.args.level c.args.room c.in_ok-first.field-0.parsed (length (roles_of c.args.tokens.now)) c.members.others.items c.members.after
    c.in_err-parsed.field-0.0 below (sym c.joins_at.ensures.value ∙ c.members-test.true) c.in_err-parsed.ensures.answers))

pub read_pairs-members-preserved : goal.read_pairs-members-preserved
read_pairs-members-preserved t c =
    let size = length-roles c.args.tokens.now in
    let below : length c.members.others.items < length (roles_of c.args.tokens.now) = omega arith in
    let count : length c.push.new.self.items ≡ length c.members.others.items + 1 = pushed _ _ _ c.in_ok-push.ensures.items in
    record {
      behind = omega (arith, c.in_ok-parsed.ensures.past);
      past = omega (arith, c.in_ok-parsed.ensures.past);
      inside = omega (arith, c.in_ok-parsed.ensures.past);
      first_is_low = omega arith;
      others_are_low = low-push c.args.room c.members.others.items c.in_ok-parsed.field-0.parsed c.push.new.self.items c.members.invariant.others_are_low c.in_ok-parsed.ensures.past.low c.in_ok-push.ensures.items;
      whole = go_on-step (roles_of c.args.tokens.now) c.args.level c.args.room c.in_ok-first.field-0.parsed (length (roles_of c.args.tokens.now)) c.members.others.items c.members.after
          c.in_ok-parsed.field-0 c.push.new.self.items below (sym c.joins_at.ensures.value ∙ c.members-test.true) c.in_ok-parsed.ensures.answers c.in_ok-push.ensures.items
          ∙ c.members.invariant.whole;
    }

pub read_pairs-returns-in_err-parsed-2-clause-answers : goal.read_pairs-returns-in_err-parsed-2-clause-answers
read_pairs-returns-in_err-parsed-2-clause-answers t c =
    exit_answers c.from_residual-in_err-parsed-2.result c.in_err-parsed-2.field-0.0 _ c.from_residual-in_err-parsed-2.ensures.1
    (subst (Answers (Err c.in_err-parsed-2.field-0.0)) c.members.invariant.whole
    (finish-err (roles_of c.args.tokens.now) c.args.room c.args.level c.in_ok-first.field-0.parsed (length (roles_of c.args.tokens.now) - length c.members.others.items) c.members.others.items c.members.after
    c.in_err-parsed-2.field-0.0 (sym c.joins_at.ensures.value ∙ c.members-test.false)
    (subst (λ o. Answers {A = Parsed} (Err c.in_err-parsed-2.field-0.0) o)
    (sym (pairs_within c.args.room c.args.level c.in_ok-first.field-0.parsed c.members.others.items c.requires.pairs)) c.in_err-parsed-2.ensures.answers)))

pub read_pairs-returns-clause-answers : goal.read_pairs-returns-clause-answers
read_pairs-returns-clause-answers t c =
    sym c.members.invariant.whole
    ∙ finish-ok (roles_of c.args.tokens.now) c.args.room c.args.level c.in_ok-first.field-0.parsed (length (roles_of c.args.tokens.now) - length c.members.others.items) c.members.others.items c.members.after
    c.in_ok-parsed-2.parsed (sym c.joins_at.ensures.value ∙ c.members-test.false)
    (pairs_within c.args.room c.args.level c.in_ok-first.field-0.parsed c.members.others.items c.requires.pairs ∙ c.in_ok-parsed-2.ensures.answers)

pub read_not-returns-then-room-eq0-clause-answers : goal.read_not-returns-then-room-eq0-clause-answers
read_not-returns-then-room-eq0-clause-answers t c = ap (λ r. read (roles_of c.args.tokens.now) unary r c.args.at) c.if-room-eq0.true ∙ read-unary-zero (roles_of c.args.tokens.now) c.args.at

pub read_not-returns-in_err-parsed-in-Some-Not-clause-answers : goal.read_not-returns-in_err-parsed-in-Some-Not-clause-answers
read_not-returns-in_err-parsed-in-Some-Not-clause-answers t c =
    exit_answers c.from_residual.result c.in_err-parsed-in-Some-Not.field-0.0 _ c.from_residual.ensures.1
    (not-err (roles_of c.args.tokens.now) c.args.room c.args.at c.in_err-parsed-in-Some-Not.field-0.0 c.if-room-eq0.false (cc) c.in_err-parsed-in-Some-Not.ensures.answers)

pub read_not-returns-in_ok-parsed-in-Some-Not-2-clause-answers : goal.read_not-returns-in_ok-parsed-in-Some-Not-2-clause-answers
read_not-returns-in_ok-parsed-in-Some-Not-2-clause-answers t c =
    not-ok (roles_of c.args.tokens.now) c.args.room c.args.at c.in_ok-parsed-in-Some-Not.field-0 c.in_ok-parsed-in-Some-Not-2.parsed c.if-room-eq0.false (cc)
    c.in_ok-parsed-in-Some-Not.ensures.answers c.in_ok-parsed-in-Some-Not-2.ensures

pub read_not-returns-in_err-part-in-Some-Opens-clause-answers : goal.read_not-returns-in_err-part-in-Some-Opens-clause-answers
read_not-returns-in_err-part-in-Some-Opens-clause-answers t c =
    exit_answers c.from_residual-in_err-part-in-Some-Opens.result c.in_err-part-in-Some-Opens.field-0.0 _ c.from_residual-in_err-part-in-Some-Opens.ensures.1
    (opens-err (roles_of c.args.tokens.now) c.args.room c.args.at c.in_err-part-in-Some-Opens.field-0.0 c.if-room-eq0.false (cc) c.in_err-part-in-Some-Opens.ensures.answers)

pub read_not-returns-in_ok-part-in-Some-Opens-clause-answers : goal.read_not-returns-in_ok-part-in-Some-Opens-clause-answers
read_not-returns-in_ok-part-in-Some-Opens-clause-answers t c =
    opens-ok (roles_of c.args.tokens.now) c.args.room c.args.at c.in_ok-part-in-Some-Opens.part c.closed.result c.if-room-eq0.false (cc)
    c.in_ok-part-in-Some-Opens.ensures.answers c.closed.ensures.answers

pub read_not-returns-in-Some-Name-clause-answers : goal.read_not-returns-in-Some-Name-clause-answers
read_not-returns-in-Some-Name-clause-answers t c =
    read-unary-name (roles_of c.args.tokens.now) c.args.room c.args.at c.if-room-eq0.false (cc) ∙ ap (λ r. Ok (record { parsed = r; after = c.args.at + 1 })) (sym c.named.ensures)

pub read_not-returns-in_default-clause-answers : goal.read_not-returns-in_default-clause-answers
read_not-returns-in_default-clause-answers t c =
    read-unary-other (roles_of c.args.tokens.now) c.args.room c.args.at c.if-room-eq0.false c.role_at.result c.role_at.ensures.role
    (λ e. search rules) (λ e. search rules) (λ e. search rules)
