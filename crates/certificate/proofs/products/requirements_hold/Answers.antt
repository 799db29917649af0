use Rattle.std.proofs.Common.{◌≡◌, ◌∙◌, sym, ap, subst, ◌-◌, ℕ, List, length, get_or, Some, arith}
use Rattle.std.specs.Prelude.{Option, slice_get}
use Rattle.std.specs.List.{list_all}
use Rattle.std.proofs.lemmas.Option.{slice_get_within, get_or_from_slice_get}
use Rattle.config_reader.specs.declared.config.Requirement.{Requirement}
use Rattle.config_reader.specs.Configuration.{Configuration}
use Rattle.config_reader.specs.Consistent.{formulas_at, formulas_of}
use Rattle.config_reader.specs.Laws.{AreNamed}
use Rattle.feature_tree.specs.Names.{NamesBelow}
use Rattle.feature_tree.specs.Truth.{truth}
use Rattle.feature_tree.specs.declared.formula.Formula.{Formula}
use Rattle.req_keys.specs.Positions.{RiseWithin}
use Rattle.certificate.proofs.ProductLaws.{position-within, slice_get-map, picked-true, picked-false}
use Rattle.certificate.proofs.products.requirements_hold.Goals as goal

abbrev pick : Configuration → ℕ → Option Formula
pick config position = slice_get (formulas_of config.requirements) (position - 1)

-- the requirement at a position
module _ (config : Configuration) (requirements musts : List Requirement) (is : record { requirements = requirements; musts = musts } ≡ config) (position : ℕ) (one : Requirement) (at_place : slice_get requirements (position - 1) ≡ Some one) where
  found : slice_get config.requirements (position - 1) ≡ Some one
  found = subst (λ (c : Configuration). slice_get c.requirements (position - 1) ≡ Some one) is at_place

  picked : pick config position ≡ Some one.formula
  picked = slice_get-map (λ (r : Requirement). r.formula) config.requirements (position - 1) one found

  below : (count : ℕ) → AreNamed count config.requirements → NamesBelow count one.formula
  below count named =
      subst (λ (r : Requirement). NamesBelow count r.formula)
      (get_or_from_slice_get config.requirements (position - 1) one one found)
      (named (position - 1) one (slice_get_within config.requirements (position - 1) one found))

pub overflow_sub-position : goal.overflow_sub-position
overflow_sub-position c =
    let n = c.args.key.now.n in
    let items = c.as_slice-position-items.result.now in
    let same = c.as_slice-position-items.ensures ∙ c.in_ok-positions.ensures in
    let above = (position-within 0 n items (subst (RiseWithin 0 n) (sym same) c.n.ensures.key.1) c.loop-position.position-index c.loop-position-test.true).0 in
    omega arith

pub get-requirement-requires : goal.get-requirement-requires
get-requirement-requires c =
    let n = c.args.key.now.n in
    let items = c.as_slice-position-items.result.now in
    let same = c.as_slice-position-items.ensures ∙ c.in_ok-positions.ensures in
    let at = position-within 0 n items (subst (RiseWithin 0 n) (sym same) c.n.ensures.key.1) c.loop-position.position-index c.loop-position-test.true in
    let above = at.0 in
    let within = at.1 in
    let size = ap (λ (config : Configuration). length config.requirements) c.config.view_is in
    let key = c.requires.key in
    omega arith

pub holds-requires : goal.holds-requires
holds-requires c =
    below c.args.config.now c.config.inside.requirements c.config.inside.musts c.config.view_is (get_or c.as_slice-position-items.result.now c.loop-position.position-index 0)
    c.get-requirement.result.now c.get-requirement.ensures (length c.args.set.now) c.requires.named

pub returns-then-not-holds : goal.returns-then-not-holds
returns-then-not-holds c =
    let set = c.args.set.now in
    let items = c.as_slice-position-items.result.now in
    let same = c.as_slice-position-items.ensures ∙ c.in_ok-positions.ensures in
    sym
    (ap (λ (positions : List ℕ). list_all (truth set) (formulas_at c.args.config.now positions)) (sym same)
    ∙ picked-false (truth set) (pick c.args.config.now) items c.loop-position.position-index c.loop-position-test.true c.get-requirement.result.now.formula
    (picked c.args.config.now c.config.inside.requirements c.config.inside.musts c.config.view_is (get_or items c.loop-position.position-index 0) c.get-requirement.result.now c.get-requirement.ensures)
    (sym c.holds.ensures ∙ c.if-not-holds.true))

pub loop-position-preserved : goal.loop-position-preserved
loop-position-preserved c =
    let items = c.as_slice-position-items.result.now in
    picked-true (truth c.args.set.now) (pick c.args.config.now) items c.loop-position.position-index c.loop-position-test.true c.get-requirement.result.now.formula
    (picked c.args.config.now c.config.inside.requirements c.config.inside.musts c.config.view_is (get_or items c.loop-position.position-index 0) c.get-requirement.result.now c.get-requirement.ensures)
    c.loop-position.invariant (sym c.holds.ensures ∙ c.if-not-holds.false)
