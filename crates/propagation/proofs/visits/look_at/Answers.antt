use Rattle.std.proofs.Common.{◌≡◌, ◌∙◌, sym, subst, inl, inr, refl, ⊎_elim, arith}
use Rattle.std.specs.Prelude.{Contains}
use Rattle.std.proofs.lemmas.Bool.{false≢true}
use Rattle.clauses.specs.declared.literal.Lit.{Lit}
use Rattle.clauses.specs.Clause.{negation}
use Rattle.clauses.proofs.Literals.{from_has, has-from}
use Rattle.propagation.proofs.VisitLaws.{of-two}
use Rattle.propagation.proofs.visits.look_at.Goals as goal

pub returns-then-is_true : goal.returns-then-is_true
returns-then-is_true c = inl (refl, from_has c.args.trail.now.literals c.args.other (sym c.if-is_true.ensures.answer))

pub returns-then-not-falls : goal.returns-then-not-falls
returns-then-not-falls c =
    let literals = c.args.trail.now.literals in
    let apart : ¬ c.args.literal ≡ c.args.other = λ e. false≢true (c.if-not-falls.ensures ∙ has-from literals (negation c.args.other) (subst (λ (x : Lit). Contains literals (negation x)) e c.requires.is_false)) in
    inr (
      c.put.ensures,
      (λ l m ne. subst (λ (x : Lit). Contains literals (negation x)) (sym (of-two c.args.clause.now (omega arith) c.args.literal c.args.other c.requires.literal_in c.requires.other_in apart l m ne)) c.requires.is_false),
    )

pub returns-then-falls : goal.returns-then-falls
returns-then-falls c = (refl, c.in_default.ensures, from_has c.args.trail.now.literals (negation c.args.other) (sym c.if-falls.ensures))

pub returns : goal.returns
returns c =
    inr (
      c.put-2.ensures,
      (λ l m ne. ⊎_elim (λ (e : l ≡ c.args.other). absurd (ne e)) (λ (f : Contains c.args.trail.now.literals (negation l)). f) (c.in_default.ensures l m)),
    )
