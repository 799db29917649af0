use Rattle.std.proofs.Common.{◌≡◌, ℕ, ◌+◌, length, ap, sym, ◌∙◌, subst, arith}
use Rattle.std.specs.List.{prefix_len}
use Rattle.std.proofs.lemmas.List.{length-drop}
use Rattle.std.proofs.lemmas.List.Sums.{prefix_len-le-length}
use Rattle.uvl_lex.specs.inside.Classes.{in_class}
use Rattle.uvl_lex.specs.inside.Cursors.{left, GoesOn}
use Rattle.uvl_lex.proofs.CursorLemmas.{goes_one, goes_then, left_bound, prefix_len-some, prefix_len-other, prefix_len-none}
use Rattle.uvl_lex.proofs.cursor.Cursor.skip_while.Goals as goal
use Rattle.uvl_lex.proofs.cursor.Cursor.skip_while.Goals.{in-Some+then-not-contains, in_default}

pub loop-c-init : goal.loop-c-init
loop-c-init c = record { passed = c.skip_columns-count.ensures.passed; goes_on = c.skip_columns-count.ensures.after }

pub loop-c-preserved : goal.loop-c-preserved
loop-c-preserved c =
    let one : prefix_len (in_class c.args.class) (left c.loop-c.at) ≡ 1 + prefix_len (in_class c.args.class) (left c.in-Some.after)
    = prefix_len-some _ _ _ _ c.in-Some.ensures.rest (sym c.if-not-contains.ensures) in
    record {
      passed = omega (arith, c.loop-c.invariant.passed, c.skip_columns-more.ensures.passed);
      goes_on = goes_then c.loop-c.invariant.goes_on (goes_then (goes_one c.in-Some.ensures) c.skip_columns-more.ensures.after);
    }

pub loop-c-smaller : goal.loop-c-smaller
loop-c-smaller c =
    let here = ap length c.in-Some.ensures.rest in
    let rest = ap length c.skip_columns-more.ensures.after.rest in
    omega (arith, length-drop c.skip_columns-more.result.0 (left c.in-Some.after))

pub overflow_add-count : goal.overflow_add-count
overflow_add-count c =
    let one : prefix_len (in_class c.args.class) (left c.loop-c.at) ≡ 1 + prefix_len (in_class c.args.class) (left c.in-Some.after)
    = prefix_len-some _ _ _ _ c.in-Some.ensures.rest (sym c.if-not-contains.ensures) in
    omega (arith, c.loop-c.invariant.passed, c.skip_columns-more.ensures.passed, prefix_len-le-length (in_class c.args.class) (left c.args.self), left_bound c.args.self)

pub overflow_add-count-in-Some : goal.overflow_add-count-in-Some
overflow_add-count-in-Some c =
    let one : prefix_len (in_class c.args.class) (left c.loop-c.at) ≡ 1 + prefix_len (in_class c.args.class) (left c.in-Some.after)
    = prefix_len-some _ _ _ _ c.in-Some.ensures.rest (sym c.if-not-contains.ensures) in
    omega (arith, c.loop-c.invariant.passed, c.skip_columns-more.ensures.passed, prefix_len-le-length (in_class c.args.class) (left c.args.self), left_bound c.args.self)

-- at the end of the loop no character of the class comes next
passed_all : (c : goal.Joined-step) → prefix_len (in_class c.args.class) (left c.loop-c.at) ≡ 0
passed_all c =
    elim c.match-step.branch [
      | in-Some+then-not-contains w ↦ prefix_len-other _ _ _ _ w.in-Some.ensures.rest (sym w.contains.ensures ∙ w.if-not-contains.true)
      | in_default w ↦ prefix_len-none _ _ w.in_default.ensures
    ]

pub returns-clause-count : goal.returns-clause-count
returns-clause-count c = omega (arith, c.loop-c.invariant.passed, passed_all c)

pub returns-clause-after : goal.returns-clause-after
returns-clause-after c =
    let total : c.loop-c.count ≡ prefix_len (in_class c.args.class) (left c.args.self)
    = omega (arith, c.loop-c.invariant.passed, passed_all c) in
    subst (λ (n : ℕ). GoesOn c.args.self n c.loop-c.at) total c.loop-c.invariant.goes_on
