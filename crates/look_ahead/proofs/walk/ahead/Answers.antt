use Rattle.std.proofs.Common.{◌≡◌, ◌<◌, ◌+◌, ◌∙◌, [], suc, Bool, cond, map, ap, sym, arith, add-one}
use Rattle.std.specs.Prelude.{List, fold}
use Rattle.std.proofs.lemmas.Bool.{lt-ltb}
use Rattle.req_keys.specs.Key.{PositionSet}
use Rattle.look_ahead.specs.Ahead.{keys_ahead, with_key}
use Rattle.look_ahead.specs.inside.Levels.{Asking, keys_asked, level_of, next_level_of, seen}
use Rattle.look_ahead.proofs.WordLevels.{ahead-more}
use Rattle.look_ahead.proofs.walk.ahead.Goals as goal

pub lengths-preserved : goal.lengths-preserved
lengths-preserved g c =
    let look = seen g.A.Asker.wants g.A.Asker.told in
    let asker = c.args.asker.now in
    let start : Asking = look asker in
    let i = c.lengths.length in
    let within : i < c.args.depth = omega arith in
    let level : map look c.deref.result.now ≡ level_of start i = ap (map look) c.deref.ensures.value ∙ c.lengths.invariant.level within in
    record {
      level = λ more. let kept = lt-ltb (i + 1) c.args.depth more in
          c.in_ok-level.ensures.next
          ∙ ap (λ (b : Bool). cond b (next_level_of (map look c.deref.result.now)) []) kept
          ∙ ap next_level_of level
          ∙ ap (level_of start) (sym (add-one i));
      asks = c.in_ok-level.ensures.asks;
      found =
          c.in_ok-level.ensures.found
          ∙ ap (λ (l : List Asking). fold with_key c.lengths.found.keys (keys_asked (next_level_of l))) level
          ∙ ap (λ (l : List PositionSet). fold with_key l (keys_asked (level_of start (suc i)))) c.lengths.invariant.found
          ∙ sym (ahead-more (g.A.Asker.wants asker) (g.A.Asker.told asker) i c.requires.asks)
          ∙ ap (keys_ahead (g.A.Asker.wants asker) (g.A.Asker.told asker)) (sym (add-one i));
    }
