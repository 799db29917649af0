use Rattle.std.proofs.Common.{◌≡◌, ◌∙◌, sym, ap, length, subst, [], ◌∷◌, ◌++◌, ◌<◌, set, ℕ, List, arith, get_or}
use Rattle.std.proofs.lemmas.List.{get_or_default}
use Rattle.clauses.specs.declared.literal.Lit.{Lit}
use Rattle.propagation.specs.inside.Trails.{code_of}
use Rattle.propagation.specs.inside.Watching.{AreWatches, Watching}
use Rattle.propagation.proofs.WatchLaws.{watch-one, slot-inside}
use Rattle.propagation.proofs.watches.Watches.watch.Goals as goal

pub invariant_of-self : goal.invariant_of-self
invariant_of-self c =
    let variables = c.self.inside.variables in
    let watched : List Lit = c.self.inside.watched.items in
    let next : List ℕ = c.self.inside.next.items in
    let heads : List ℕ = c.self.inside.heads.items in
    let below = subst (λ (w : Watching). c.args.literal.var < w.variables) (sym c.self.view_is) c.requires.variable in
    let entry : c.len-entry.result ≡ length next = (let e = c.len-entry.ensures in omega arith) in
    let head : c.index.result.now ≡ get_or heads (code_of c.args.literal) 0 =
    c.index.ensures ∙ ap (λ k. get_or heads k c.index.result.now) c.slot-slot.ensures
    ∙ get_or_default heads (code_of c.args.literal) c.index.result.now 0 (slot-inside variables c.self.inside.pairs watched heads next c.self.invariant c.args.literal below) in
    subst (λ xs. AreWatches variables c.self.inside.pairs xs (set heads c.slot-slot.result c.len-entry.result) c.push_reserved.new.self.items) (sym c.push_reserved-2.ensures.items)
    (subst (λ xs. AreWatches variables c.self.inside.pairs (watched ++ c.args.literal ∷ []) (set heads c.slot-slot.result c.len-entry.result) xs) (sym c.push_reserved.ensures.items)
    (subst (λ h. AreWatches variables c.self.inside.pairs (watched ++ c.args.literal ∷ []) (set heads c.slot-slot.result c.len-entry.result) (next ++ h ∷ [])) (sym head)
    (subst (λ n. AreWatches variables c.self.inside.pairs (watched ++ c.args.literal ∷ []) (set heads c.slot-slot.result n) (next ++ get_or heads (code_of c.args.literal) 0 ∷ [])) (sym entry)
    (subst (λ s. AreWatches variables c.self.inside.pairs (watched ++ c.args.literal ∷ []) (set heads s (length next)) (next ++ get_or heads (code_of c.args.literal) 0 ∷ [])) (sym c.slot-slot.ensures)
    (watch-one variables c.self.inside.pairs watched heads next c.self.invariant c.args.literal below)))))
