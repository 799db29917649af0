use Rattle.std.proofs.Common.{◌≡◌, ℕ, ◌+◌, ◌*◌, ◌/◌, List, length, get_or, rules, sym, ap, ◌∙◌, subst, arith, le_antisymm}
use Rattle.check_table.specs.Places.{key_width}
use Rattle.check_table.proofs.Opening.{opens}
use Rattle.check_table.proofs.Keys.{width_is, width_small}
use Rattle.check_table.proofs.table.CheckTable.open.Goals as goal

pub of_words-requires : goal.of_words-requires
of_words-requires c =
    let i = c.loop.invariant in
    let same = c.deref.ensures.value in
    let width = ap (λ (k : ℕ). (k + 63) / 64) c.n.ensures.n ∙ sym (width_is _) ∙ ap key_width (sym c.of.ensures) in
    let long = le_antisymm c.loop.auto.counter-end c.loop-test.false in
    opens _ _ _ c.requires.most
    (ap (λ (l : List ℕ). length l) same ∙ i.0 ∙ long ∙ ap (λ (k : ℕ). 2 + c.args.entries * (1 + k)) width)
    (subst (λ (l : List ℕ). (k : ℕ) → get_or l k 0 ≡ 0) (sym same) i.1)

pub invariant_of-table : goal.invariant_of-table
invariant_of-table c =
    let width = ap (λ (k : ℕ). (k + 63) / 64) c.n.ensures.n ∙ sym (width_is _) ∙ ap key_width (sym c.of.ensures) in
    let long = le_antisymm c.loop.auto.counter-end c.loop-test.false in
    let few = width_small c.n.result (let n = c.n.ensures.n in let most = c.n.ensures.problem.few_roots in omega arith) in
    let most = c.requires.most in let told = c.in_ok-table.ensures in
    (search rules, width ∙ sym (ap (λ z. key_width z.problem.value) told.5), told.0 ∙ ap (λ (l : List ℕ). length l) c.deref.ensures.value ∙ c.loop.invariant.0 ∙ long, few, most, told.1)
