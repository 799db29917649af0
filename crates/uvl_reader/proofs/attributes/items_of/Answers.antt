use Rattle.std.proofs.Common.{◌++◌, map, sym, ap, ◌∙◌, refl, arith}
use Rattle.uvl_reader.proofs.AttributeLaws.{items_comma, items_token, one_more}
use Rattle.uvl_reader.proofs.attributes.items_of.Goals as goal
use Rattle.uvl_reader.proofs.attributes.items_of.Goals.{then-is_comma+in_ok-push, else-is_comma}

pub loop-i-preserved : goal.loop-i-preserved
loop-i-preserved c =
    elim c.if-is_comma.branch [
      | then-is_comma+in_ok-push w ↦ record {
        inside = omega arith;
        few = omega arith;
        rest =
            let step = items_comma c.args.tokens.now c.loop-i.from c.loop-i.i c.loop-i.depth c.open_after-depth.result _ c.loop-i-test.true (sym w.if-is_comma.ensures) c.open_after-depth.ensures.is in
            rw (w.from-is, w.items-is)
            (c.loop-i.invariant.rest ∙ ap (λ l. map (λ item. item.now) c.loop-i.items.items ++ l) step ∙ one_more (λ item. item.now) c.loop-i.items.items w.push.new.self.items _ _ _ w.in_ok-push.ensures.items refl);
      }
      | else-is_comma w ↦ record {
        inside = omega arith;
        few = omega arith;
        rest =
            let step = items_token c.args.tokens.now c.loop-i.from c.loop-i.i c.loop-i.depth c.open_after-depth.result _ c.loop-i.invariant.inside c.loop-i-test.true (sym w.if-is_comma.ensures) c.open_after-depth.ensures.is in
            rw (w.from-is, w.items-is)
            (c.loop-i.invariant.rest ∙ ap (λ l. map (λ item. item.now) c.loop-i.items.items ++ l) step);
      }
    ]
