use Rattle.std.proofs.Common.{rules}
use Rattle.std.proofs.lemmas.List.Sorted.{IsNonDecreasingBy-from_sort_by_key, answers_always}
use Rattle.config_reader.specs.declared.placed.Placed.{Placed}
use Rattle.config_reader.proofs.TierOrder.{sorted_is_in_order}
use Rattle.config_reader.proofs.tier.in_order.Goals as goal

pub returns-clause-ordered : goal.returns-clause-ordered
returns-clause-ordered c =
    sorted_is_in_order c.args.placed.items c.sort_by_key.new.self.items c.sort_by_key.ensures.permutation
    (IsNonDecreasingBy-from_sort_by_key (λ (one : Placed). one.tier) _ c.in_ok-sort_by_key.ensures.sorted (λ a r q k. search rules))
    (c.sort_by_key.ensures.stable (λ (one : Placed). one.tier) (answers_always _ _ _ (λ f a r g h. search rules)))
