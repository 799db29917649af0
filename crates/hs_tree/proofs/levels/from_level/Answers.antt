use Rattle.std.proofs.Common.{◌≡◌, ◌∙◌, Option, None, refl, ap}
use Rattle.hs_tree.specs.declared.sets.Asking.{Asking}
use Rattle.hs_tree.specs.inside.Left.{left}
use Rattle.hs_tree.specs.inside.Told.{answers_of}
use Rattle.hs_tree.proofs.GrowsLaws.{grows-more}
use Rattle.hs_tree.proofs.LevelsLeft.{level-goes, next-start, none-from}
use Rattle.hs_tree.proofs.levels.from_level.Goals as goal

pub levels-init : goal.levels-init
levels-init c = (
  c.in_ok-asking.ensures.inside,
  c.in_ok-asking.ensures.grows,
  c.in_ok-asking.ensures.here,
  refl,
  level-goes c.args.level c.args.found.now c.one_level.new.found c.in_ok-asking.asking (answers_of c.args.told.now) c.requires.start c.in_ok-asking.ensures.goes,
)

pub levels-preserved : goal.levels-preserved
levels-preserved c =
    let none : c.levels.asking ≡ None = none-from c.levels.asking c.is_none.result c.is_none.ensures c.levels-test.true in
    let next = c.in_ok-level.level in (
      c.in_ok-asking-2.ensures.inside,
      grows-more c.args.found.now c.levels.found c.one_level-in-levels.new.found c.levels.invariant.1 c.in_ok-asking-2.ensures.grows,
      c.in_ok-asking-2.ensures.here,
      c.in_ok-level.ensures.n ∙ c.levels.invariant.3,
      λ table has.
          c.levels.invariant.4 table has
          ∙ ap (λ (asking : Option Asking). left table c.levels.level c.levels.found asking) none
          ∙ next-start c.levels.level next c.levels.found table c.in_ok-level.ensures.left c.in_ok-level.ensures.n c.in_ok-level.ensures.sets
          ∙ level-goes next c.levels.found c.one_level-in-levels.new.found c.in_ok-asking-2.asking (answers_of c.args.told.now) c.in_ok-level.ensures.before c.in_ok-asking-2.ensures.goes table has,
    )
