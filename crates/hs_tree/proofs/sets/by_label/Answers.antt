use Rattle.std.proofs.Common.{ℕ, List, sym, ap, subst, refl}
use Rattle.req_keys.specs.Key.{PositionSet}
use Rattle.quick_xplain.specs.Explaining.{next_of}
use Rattle.hs_tree.specs.declared.found.Found.{Found}
use Rattle.hs_tree.specs.inside.Told.{answers_of}
use Rattle.hs_tree.specs.inside.Steps.{IsFound, IsSetDone, from_label, standing}
use Rattle.hs_tree.proofs.SetSteps.{ask-from, done-from}
use Rattle.hs_tree.proofs.Findings.{made-found, made-goes}
use Rattle.hs_tree.proofs.sets.by_label.Goals as goal

pub returns-in-Ask-clause-goes : goal.returns-in-Ask-clause-goes
returns-in-Ask-clause-goes c = λ last set.
    let n : PositionSet → ℕ = λ key. key.n in
    let members : PositionSet → List ℕ = λ key. key.members in
    let label = c.in_ok-label.label in
    let asked = ask-from label.among.n (next_of label) c.in-Ask.field-0.now c.in-Ask.ensures.asks in
    record {
      same = refl;
      asked = (record { number = ap n c.in_ok-label.ensures.among; known = c.in_ok-label.ensures.known }, (asked.0, asked.1, c.in_ok-label.ensures.new asked.0 asked.1));
      goes = λ table has next. ap (λ (rest : List ℕ). from_label set rest table (standing c.args.found.now next)) (sym (ap members c.in_ok-label.ensures.among));
    }

pub returns-in_ok-add_label-in-Done-clause-found : goal.returns-in_ok-add_label-in-Done-clause-found
returns-in_ok-add_label-in-Done-clause-found c =
    let n : PositionSet → ℕ = λ key. key.n in
    let label = c.in_ok-label.label in
    let done = done-from label.among.n (next_of label) c.in-Done.ensures.asks in
    subst (IsFound c.args.label.among.n) (sym c.in_ok-add_label-in-Done.ensures.ok)
    (made-found c.args.label.among.n (answers_of c.args.told.now) c.args.found.now label.among label.told c.conflict.result.now done.0 c.requires.found (ap n c.in_ok-label.ensures.among) c.in-Done.ensures.among c.in_ok-label.ensures.known done.1 (c.conflict.ensures done.0 done.1))

pub returns-in_ok-add_label-in-Done-clause-goes : goal.returns-in_ok-add_label-in-Done-clause-goes
returns-in_ok-add_label-in-Done-clause-goes c = λ last set.
    let n : PositionSet → ℕ = λ key. key.n in
    let members : PositionSet → List ℕ = λ key. key.members in
    let label = c.in_ok-label.label in
    let done = done-from label.among.n (next_of label) c.in-Done.ensures.asks in
    subst (λ (rest : List ℕ). IsSetDone (answers_of c.args.told.now) c.args.found.now c.add_label.new.found set (from_label set rest)) (ap members c.in_ok-label.ensures.among)
    (subst (λ (found : Found). IsSetDone (answers_of c.args.told.now) c.args.found.now found set (from_label set label.among.members)) (sym c.in_ok-add_label-in-Done.ensures.ok)
    (made-goes c.args.label.among.n (answers_of c.args.told.now) c.args.found.now label.among label.told c.conflict.result.now done.0 c.requires.found (ap n c.in_ok-label.ensures.among) c.in-Done.ensures.among c.in_ok-label.ensures.known done.1 (c.conflict.ensures done.0 done.1) set))
