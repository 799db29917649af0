use Rattle.std.proofs.Common.{arith, append_assoc, Err, refl, ◌≡◌, ℕ, ◌++◌, ◌∷◌, [], List, All, ap, sym, subst, ◌∙◌, Ok}
use Rattle.std.proofs.lemmas.List.Elements.{All-head, All-tail}
use Rattle.std.proofs.lemmas.Grind.{common_steps}
use Rattle.std.proofs.lemmas.Result.{err_from_is_err_and}
use Rattle.feature_tree.specs.declared.formula.Formula.{Formula}
use Rattle.name_table.specs.Numbers.{Numbers}
use Rattle.uvl_reader.specs.declared.error.ModelError.{ModelError}
use Rattle.uvl_reader.specs.inside.Good.{IsStated}
use Rattle.uvl_reader.specs.inside.Standing.{OrRefused, StatedFormula, IsRefused, and_then, on_ok, numbers, one_numbered, constraints_of}
use Rattle.uvl_reader.proofs.ReadLaws.{refused_then, refused_ok, constraints_end}
use Rattle.uvl_reader.proofs.constraints.constraints_of.Goals as goal

-- a formula more, and then the rest
cons_after : (before : List Formula) (formula : Formula) (rest : OrRefused (List Formula))
    → on_ok (λ (more : List Formula). before ++ more) (on_ok (λ (more : List Formula). formula ∷ more) rest) ≡ on_ok (λ (more : List Formula). (before ++ formula ∷ []) ++ more) rest
cons_after before formula (Ok more) = ap (λ (all : List Formula). Ok all) (sym (append_assoc before (formula ∷ []) more))
cons_after before formula (Err refused) = refl

-- where the formulas that are left begin with one
module _ (names : Numbers) (bytes : List ℕ) (before : List Formula) (whole : OrRefused (List Formula)) (left others : List StatedFormula) (one : StatedFormula) (split : left ≡ one ∷ others)
    (so_far : whole ≡ on_ok (λ (more : List Formula). before ++ more) (constraints_of names bytes left)) where
  abbrev found : OrRefused Formula
  found = one_numbered one (numbers names bytes one.tokens)

  abbrev joined : OrRefused Formula → OrRefused (List Formula)
  joined read = on_ok (λ (more : List Formula). before ++ more) (and_then (λ (formula : Formula). on_ok (λ (more : List Formula). formula ∷ more) (constraints_of names bytes others)) read)

  begun : whole ≡ joined found
  unfolding constraints_of
  begun = so_far ∙ ap (λ (l : List StatedFormula). on_ok (λ (more : List Formula). before ++ more) (constraints_of names bytes l)) split

  next_of : (after : List Formula) (formula : Formula) → found ≡ Ok formula → after ≡ before ++ formula ∷ []
      → whole ≡ on_ok (λ (more : List Formula). after ++ more) (constraints_of names bytes others)
  next_of after formula e is =
      begun ∙ ap joined e ∙ cons_after before formula (constraints_of names bytes others)
      ∙ ap (λ (now : List Formula). on_ok (λ (more : List Formula). now ++ more) (constraints_of names bytes others)) (sym is)

  refused_of : (e : ModelError) → IsRefused e found → IsRefused e whole
  refused_of e r =
      rw begun
      (refused_ok (λ (more : List Formula). before ++ more) e _
      (refused_then (λ (formula : Formula). on_ok (λ (more : List Formula). formula ∷ more) (constraints_of names bytes others)) e found r))

-- before the first formula
from_none : (read : OrRefused (List Formula)) → read ≡ on_ok (λ (more : List Formula). [] ++ more) read
from_none (Ok more) = refl
from_none (Err refused) = refl

pub loop-one-init : goal.loop-one-init
loop-one-init c =
    let all = c.into_iter-one-iterator.ensures.into_iter_gives.0 in
    record {
      rest = rw (all, c.new-constraints.ensures) (from_none (constraints_of c.args.names.now c.args.bytes.now c.args.stated.items));
      stated = rw all c.requires;
    }

pub numbered-requires : goal.numbered-requires
numbered-requires c = All-head (IsStated c.args.bytes.now) _ _ (subst (All (IsStated c.args.bytes.now)) c.in-Some.ensures.steps.0 c.loop-one.invariant.stated)

pub returns-in_err-numbered-clause-refused : goal.returns-in_err-numbered-clause-refused
returns-in_err-numbered-clause-refused c =
    let p = err_from_is_err_and c.from_residual.result c.from_residual.ensures.1 in
    rw (p.1, p.2)
    (refused_of c.args.names.now c.args.bytes.now c.loop-one.constraints _ c.loop-one.one-iterator.rest.items c.next.new.self.rest.items c.in-Some.one c.in-Some.ensures.steps.0 c.loop-one.invariant.rest
    _ c.in_err-numbered.ensures.refused)

pub loop-one-preserved : goal.loop-one-preserved
loop-one-preserved c = record {
  rest = next_of c.args.names.now c.args.bytes.now c.loop-one.constraints _ c.loop-one.one-iterator.rest.items c.next.new.self.rest.items c.in-Some.one c.in-Some.ensures.steps.0 c.loop-one.invariant.rest
      _ _ c.in_ok-numbered.ensures.ok c.in_ok-push.ensures.ok;
  stated = All-tail (IsStated c.args.bytes.now) _ _ (subst (All (IsStated c.args.bytes.now)) c.in-Some.ensures.steps.0 c.loop-one.invariant.stated);
}

pub returns-clause-ok : goal.returns-clause-ok
returns-clause-ok c =
    let none : c.loop-one.one-iterator.rest.items ≡ [] = grind (arith, common_steps, c.in-None.ensures.steps.0) in
    c.loop-one.invariant.rest
    ∙ ap (λ (left : List StatedFormula). on_ok (λ (more : List Formula). c.loop-one.constraints ++ more) (constraints_of c.args.names.now c.args.bytes.now left)) none
    ∙ constraints_end c.args.names.now c.args.bytes.now c.loop-one.constraints
