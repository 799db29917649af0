use Rattle.std.proofs.Common.{◌≡◌, ◌∙◌, ◌∷◌, ◌++◌, ℕ, true, not, filter, ap, sym, rules}
use Rattle.indexmap.proofs.CallerLemmas.{insert_entry-new}
use Rattle.indexmap.specs.IndexMap.{insert_entry}
use Rattle.req_keys.specs.Key.{PositionSet}
use Rattle.req_keys.specs.Order.{key_eq}
use Rattle.look_ahead.specs.Posting.{is_wanted, numbers_of}
use Rattle.look_ahead.proofs.LiveEntries.{cancelled-same, kept-fresh, kept-more}
use Rattle.look_ahead.proofs.posting.sift.Goals as goal
use Rattle.look_ahead.proofs.posting.sift.Goals.{then-eq, else-eq}

pub entries-preserved-in_ok-insert : goal.entries-preserved-in_ok-insert
entries-preserved-in_ok-insert c =
    let p = is_wanted c.args.asked.now c.args.wanted.now.keys in
    let all = c.args.live.now.entries in
    let kept = c.entries.kept.entries in
    let rest = c.next.new.self in
    let key = c.in_ok-key.key in
    let e : PositionSet × ℕ = (c.in-Some.key.now, c.in-Some.number.now) in
    let passes : is_wanted c.args.asked.now c.args.wanted.now.keys e ≡ true = elim c.if-eq.branch [ then-eq w ↦ search rules | else-eq w ↦ search rules ] in
    let so_far : kept ++ filter p (e ∷ rest) ≡ filter p all = ap (λ l. kept ++ filter p l) (sym c.in-Some.ensures.steps) ∙ c.entries.invariant.kept in
    let fresh = kept-fresh p all kept rest e so_far passes c.into_iter-key-iterator.ensures.into_iter_gives.4 in
    record {
      kept = kept-more p all kept rest e so_far passes c.insert.new.self.entries
          (c.in_ok-insert.ensures.entries
          ∙ ap (λ k. insert_entry key_eq kept k c.in-Some.number.now) c.in_ok-key.ensures
          ∙ insert_entry-new key_eq c.entries.kept c.in-Some.key.now c.in-Some.number.now fresh);
      cancel = cancelled-same p all kept rest e so_far passes c.entries.cancel _ (ap (λ l. c.entries.cancel ++ numbers_of (filter (λ x. not (p x)) l)) (sym c.in-Some.ensures.steps) ∙ c.entries.invariant.cancel);
    }
