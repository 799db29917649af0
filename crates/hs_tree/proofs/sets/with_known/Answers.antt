use Rattle.std.proofs.Common.{◌≡◌, ℕ, ◌+◌, ◌*◌, ◌-◌, ◌≤◌, Some, List, [], ◌∷◌, ◌++◌, length, ◌∙◌, sym, ap, subst, arith, length-append}
use Rattle.pref_sets.specs.Answers.{Answer, answer_to}
use Rattle.req_keys.specs.Key.{PositionSet}
use Rattle.quick_xplain.specs.Explaining.{Explaining, next_of}
use Rattle.hs_tree.specs.inside.Told.{HasAll, answers_of}
use Rattle.hs_tree.proofs.SetSteps.{HasAll-push, ask-from}
use Rattle.hs_tree.proofs.sets.with_known.Goals as goal

pub answer-requires : goal.answer-requires
answer-requires c answer m =
    let asked = ask-from c.loop-key.label.among.n (next_of c.loop-key.label) c.in-Ask.key.now c.in-Ask.ensures.asks in
    let n : PositionSet → ℕ = λ key. key.n in
    c.requires.told answer m ∙ sym (ap n asked.2 ∙ ap n c.loop-key.invariant.0)

pub loop-key-smaller : goal.loop-key-smaller
loop-key-smaller c =
    let asked = ask-from c.loop-key.label.among.n (next_of c.loop-key.label) c.in-Ask.key.now c.in-Ask.ensures.asks in
    let after = c.in_ok-tell-in-Some.ensures.ok asked.0 asked.1 in
    let few : length c.loop-key.label.told ≤ 2 * length c.loop-key.label.among.members - 2 = c.in-Ask.ensures.few in
    let told : Explaining → ℕ = λ label. length label.told in
    let members : Explaining → ℕ = λ label. length label.among.members in
    let more : length c.tell.new.self.told ≡ length (c.loop-key.label.told ++ record { set = asked.0; sat = c.in-Some.sat } ∷ []) = ap told after in
    let longer : length (c.loop-key.label.told ++ record { set = asked.0; sat = c.in-Some.sat } ∷ []) ≡ length c.loop-key.label.told + 1 = length-append c.loop-key.label.told (record { set = asked.0; sat = c.in-Some.sat } ∷ []) in
    let same : length c.tell.new.self.among.members ≡ length c.loop-key.label.among.members = ap members after in
    omega arith

pub loop-key-preserved : goal.loop-key-preserved
loop-key-preserved c =
    let asked = ask-from c.loop-key.label.among.n (next_of c.loop-key.label) c.in-Ask.key.now c.in-Ask.ensures.asks in
    let after = c.in_ok-tell-in-Some.ensures.ok asked.0 asked.1 in
    let among : Explaining → PositionSet = λ label. label.among in
    let told : Explaining → List Answer = λ label. label.told in
    let members : PositionSet → List ℕ = λ key. key.members in
    let here : answer_to (answers_of c.args.told.now) asked.0 ≡ Some c.in-Some.sat =
    ap (answer_to (answers_of c.args.told.now)) (sym (ap members asked.2)) ∙ sym c.answer.ensures ∙ c.in-Some.is in (
      ap among after ∙ c.loop-key.invariant.0,
      subst (λ (answers : List Answer). HasAll answers (answers_of c.args.told.now)) (sym (ap told after))
          (HasAll-push c.loop-key.label.told (answers_of c.args.told.now) record { set = asked.0; sat = c.in-Some.sat } c.loop-key.invariant.1 here),
    )
