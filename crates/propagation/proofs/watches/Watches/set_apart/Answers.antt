use Rattle.std.proofs.Common.{◌≡◌, ◌∙◌, refl, sym, ap, subst, ◌+◌, ◌*◌, List, length, ℕ, [], ◌∷◌, ◌++◌, Vec, Global, arith}
use Rattle.std.specs.Prelude.{All}
use Rattle.clauses.specs.declared.literal.Lit.{Lit}
use Rattle.clauses.specs.Problem.{IsBelow}
use Rattle.propagation.specs.inside.Sorting.{AreListed, HasRow, IsSorted}
use Rattle.propagation.specs.inside.Watching.{AreInside, Watching}
use Rattle.propagation.proofs.ApartLaws.{listed-next, listed-paired, listed-start, sorted-start, sorted-watches}
use Rattle.propagation.proofs.WatchLaws.{whole}
use Rattle.propagation.proofs.watches.Watches.set_apart.Goals as goal

pub loop-slot-init : goal.loop-slot-init
loop-slot-init c =
    let variables = c.self.inside.variables in
    let watched : List Lit = c.self.inside.watched.items in
    let plain = ap (λ (w : Watching). w.pairs.others) c.self.view_is ∙ c.requires.plain in
    let none = c.in_ok-others.ensures.items in
    let first = c.push_reserved.ensures.items ∙ ap (λ (xs : List ℕ). xs ++ 0 ∷ []) c.in_ok-starts.ensures.items in
    record {
      variables = refl;
      watched = refl;
      sorted = subst (λ (ls : List Lit). IsSorted c.args.clauses.now variables watched 0 (length ls) c.self.inside.heads.items c.self.inside.next.items) (sym none)
          (sorted-start c.args.clauses.now variables c.self.inside.pairs watched c.self.inside.heads.items c.self.inside.next.items c.self.invariant plain);
      listed = rw (first, none) (listed-start c.args.clauses.now watched);
      others_room = (let r = c.in_ok-others.ensures.capacity in let l = c.len.ensures in omega arith);
      starts_room = (let r = c.in_ok-starts.ensures.capacity in let s = c.push_reserved.ensures.in_place in omega arith);
    }

pub sort_chain-requires-clause-inside : goal.sort_chain-requires-clause-inside
sort_chain-requires-clause-inside c =
    let is = c.loop-slot.invariant in
    subst (λ ls. AreInside c.args.clauses.now ls) (sym (c.deref.ensures.value ∙ ap (λ (v : Vec Lit Global). v.items) is.watched))
    (subst (λ (w : Watching). AreInside c.args.clauses.now w.watched) (sym c.self.view_is) c.requires.inside)

pub sort_chain-requires-clause-sorted : goal.sort_chain-requires-clause-sorted
sort_chain-requires-clause-sorted c =
    let is = c.loop-slot.invariant in
    rw (c.deref.ensures.value, c.deref_mut.ensures.value, c.deref_mut-in-loop-slot.ensures.value) is.sorted

pub sort_chain-requires-clause-below : goal.sort_chain-requires-clause-below
sort_chain-requires-clause-below c =
    let is = c.loop-slot.invariant in
    subst (λ ls. All (IsBelow c.loop-slot.self-inside.variables) ls) (sym (c.deref.ensures.value ∙ ap (λ (v : Vec Lit Global). v.items) is.watched))
    (subst (λ n. All (IsBelow n) c.self.inside.watched.items) (sym is.variables) c.self.invariant.below)

pub loop-slot-preserved : goal.loop-slot-preserved
loop-slot-preserved c =
    let is = c.loop-slot.invariant in
    let at = c.loop-slot.self-inside in
    let clauses = c.args.clauses.now in
    let watched : List Lit = at.watched.items in
    let heads : List ℕ = at.heads.items in
    let next : List ℕ = at.next.items in
    let others : List Lit = c.loop-slot.others.items in
    let whole_heads = whole at.heads.len c.sort_chain.new.heads heads (omega arith) (c.sort_chain.auto.heads ∙ ap length c.deref_mut.ensures.value) in
    let whole_next = whole at.next.len c.sort_chain.new.next next (omega arith) (c.sort_chain.auto.next ∙ ap length c.deref_mut-in-loop-slot.ensures.value) in
    let row : HasRow clauses watched c.loop-slot.slot others c.sort_chain.new.others.items = subst (λ ls. HasRow clauses ls c.loop-slot.slot others c.sort_chain.new.others.items) c.deref.ensures.value c.sort_chain.ensures.row in
    let longer : List Lit = others ++ row.row in
    let size = ap length row.grows in
    let end : c.len-in-loop-slot.result ≡ length longer = (let e = c.len-in-loop-slot.ensures in omega arith) in
    let starts_is = c.push_reserved-in-loop-slot.ensures.items ∙ ap (λ (n : ℕ). c.loop-slot.starts.items ++ n ∷ []) end in
    record {
      variables = is.variables;
      watched = is.watched;
      sorted =
          rw (whole_heads, whole_next)
          (subst (λ ls. IsSorted clauses at.variables ls (c.loop-slot.slot + 1) (length c.sort_chain.new.others.items) c.sort_chain.new.heads c.sort_chain.new.next) c.deref.ensures.value c.sort_chain.ensures.sorted);
      listed = rw (starts_is, row.grows) (listed-next clauses watched c.loop-slot.slot c.loop-slot.starts.items others row.row is.listed row.is_row);
      others_room = (let a = is.others_room in let b = c.sort_chain.ensures.room in omega arith);
      starts_room = (let a = is.starts_room in let b = c.push_reserved-in-loop-slot.ensures.in_place in omega arith);
    }

pub invariant_of-self : goal.invariant_of-self
invariant_of-self c =
    let is = c.loop-slot.invariant in
    let at = c.loop-slot.self-inside in
    let clauses = c.args.clauses.now in
    let watched : List Lit = at.watched.items in
    let done : c.loop-slot.slot ≡ 2 * at.variables = (let end = c.loop-slot-test.false in let far = c.loop-slot.auto.slot-end in let same = is.variables in omega arith) in
    let inside : AreInside clauses watched =
    subst (λ ls. AreInside clauses ls) (sym (ap (λ (v : Vec Lit Global). v.items) is.watched)) (subst (λ (w : Watching). AreInside clauses w.watched) (sym c.self.view_is) c.requires.inside) in
    let below : All (IsBelow at.variables) watched =
    subst (λ ls. All (IsBelow at.variables) ls) (sym (ap (λ (v : Vec Lit Global). v.items) is.watched)) (subst (λ n. All (IsBelow n) c.self.inside.watched.items) (sym is.variables) c.self.invariant.below) in
    sorted-watches clauses at.variables watched (record { starts = c.loop-slot.starts.items; others = c.loop-slot.others.items }) inside below
    (subst (λ k. AreListed clauses watched k (record { starts = c.loop-slot.starts.items; others = c.loop-slot.others.items })) done is.listed) (length c.loop-slot.others.items) at.heads.items at.next.items
    (subst (λ k. IsSorted clauses at.variables watched k (length c.loop-slot.others.items) at.heads.items at.next.items) done is.sorted)

pub returns-clause-paired : goal.returns-clause-paired
returns-clause-paired c =
    let is = c.loop-slot.invariant in
    let at = c.loop-slot.self-inside in
    let clauses = c.args.clauses.now in
    let watched : List Lit = at.watched.items in
    let done : c.loop-slot.slot ≡ 2 * at.variables = (let end = c.loop-slot-test.false in let far = c.loop-slot.auto.slot-end in let same = is.variables in omega arith) in
    let inside : AreInside clauses watched =
    subst (λ ls. AreInside clauses ls) (sym (ap (λ (v : Vec Lit Global). v.items) is.watched)) (subst (λ (w : Watching). AreInside clauses w.watched) (sym c.self.view_is) c.requires.inside) in
    let below : All (IsBelow at.variables) watched =
    subst (λ ls. All (IsBelow at.variables) ls) (sym (ap (λ (v : Vec Lit Global). v.items) is.watched)) (subst (λ n. All (IsBelow n) c.self.inside.watched.items) (sym is.variables) c.self.invariant.below) in
    listed-paired clauses at.variables watched (record { starts = c.loop-slot.starts.items; others = c.loop-slot.others.items }) inside below
    (subst (λ k. AreListed clauses watched k (record { starts = c.loop-slot.starts.items; others = c.loop-slot.others.items })) done is.listed)
