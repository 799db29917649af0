use Rattle.std.proofs.Common.{◌≡◌, ◌≢◌, ◌⊎◌, ◌∙◌, refl, sym, ap, subst, ℕ, ◌/◌, ◌<◌, ◌≤◌, List, [], length, get_or, arith}
use Rattle.std.specs.Prelude.{All, Contains}
use Rattle.std.proofs.lemmas.List.{get_or_default}
use Rattle.clauses.specs.declared.literal.Lit.{Lit}
use Rattle.clauses.specs.Problem.{IsBelow}
use Rattle.propagation.specs.declared.visits.Visit.TheVariants as visit
use Rattle.propagation.specs.inside.Pairing.{Pairing, row_of}
use Rattle.propagation.specs.inside.Trails.{Trailing, code_of}
use Rattle.propagation.specs.inside.Visits.{IsStep}
use Rattle.propagation.specs.inside.Watching.{AreInside, AreKept, IsRelinked, Watching, nothing, partner, watched_at}
use Rattle.propagation.proofs.WalkLaws.{IsWalk, walk-start, walk-stays, walk-moves, walk-refuted, walk-seen, entry-next, entry-watched, literal-there, other-there, last-apart, stays-smaller, moves-smaller, to-apart, growth-within}
use Rattle.propagation.proofs.CodeLaws.{code-below}
use Rattle.propagation.proofs.WatchLaws.{whole}
use Rattle.propagation.proofs.watches.Watches.walk.Goals as goal

pub loop-entry-init : goal.loop-entry-init
loop-entry-init c =
    let heads : List ℕ = c.self.inside.heads.items in
    let variables = c.self.inside.variables in
    let literal_in : c.args.literal.var < variables = subst (λ (w : Watching). c.args.literal.var < w.variables) (sym c.self.view_is) c.requires.variable in
    let low = code-below variables c.args.literal literal_in in
    let size = c.self.invariant.slots in
    let entry : c.index-entry.result.now ≡ get_or heads (code_of c.args.literal) 0 =
    c.index-entry.ensures ∙ ap (λ k. get_or heads k c.index-entry.result.now) c.slot-from.ensures ∙ get_or_default heads (code_of c.args.literal) c.index-entry.result.now 0 (omega arith) in
    record {
      same = refl;
      pairs = refl;
      walk =
          subst (λ e. IsWalk c.args.clauses.now c.args.literal variables c.self.inside.pairs c.self.inside.watched.items c.args.trail.now heads c.self.inside.next.items c.self.inside.watched.items c.args.trail.now nothing e) (sym entry)
          (walk-start c.args.clauses.now c.args.literal variables c.self.inside.pairs c.self.inside.watched.items c.args.trail.now literal_in heads c.self.inside.next.items c.self.invariant
          (subst (λ (w : Watching). AreInside c.args.clauses.now w.watched) (sym c.self.view_is) c.requires.inside));
    }

pub index-behind-requires : goal.index-behind-requires
index-behind-requires c =
    let at = c.loop-entry.self-inside in
    let clauses = c.args.clauses.now in
    let literal = c.args.literal in
    let variables = c.self.inside.variables in
    let pairs : Pairing = c.self.inside.pairs in
    let watched0 : List Lit = c.self.inside.watched.items in
    let trail0 : Trailing = c.args.trail.now in
    let heads : List ℕ = at.heads.items in
    let next : List ℕ = at.next.items in
    let watched : List Lit = at.watched.items in
    let trail : Trailing = c.loop-entry.trail in
    let literal_in : literal.var < variables = subst (λ (w : Watching). literal.var < w.variables) (sym c.self.view_is) c.requires.variable in
    let is = c.loop-entry.invariant.walk in
    let few : length next ≤ nothing = omega arith in
    let low = entry-next clauses literal variables pairs watched0 trail0 literal_in c.requires.is_false heads next watched trail c.loop-entry.last c.loop-entry.entry is few c.loop-entry-test.true in
    omega arith

pub step-requires-clause-entry : goal.step-requires-clause-entry
step-requires-clause-entry c =
    let at = c.loop-entry.self-inside in
    let clauses = c.args.clauses.now in
    let literal = c.args.literal in
    let variables = c.self.inside.variables in
    let pairs : Pairing = c.self.inside.pairs in
    let watched0 : List Lit = c.self.inside.watched.items in
    let trail0 : Trailing = c.args.trail.now in
    let heads : List ℕ = at.heads.items in
    let next : List ℕ = at.next.items in
    let watched : List Lit = at.watched.items in
    let trail : Trailing = c.loop-entry.trail in
    let literal_in : literal.var < variables = subst (λ (w : Watching). literal.var < w.variables) (sym c.self.view_is) c.requires.variable in
    let is = c.loop-entry.invariant.walk in
    let few : length next ≤ nothing = omega arith in
    let low = entry-watched clauses literal variables pairs watched0 trail0 literal_in c.requires.is_false heads next watched trail c.loop-entry.last c.loop-entry.entry is few c.loop-entry-test.true in
    let size = ap length c.deref_mut.ensures.value in
    omega arith

pub step-requires-clause-literal_in : goal.step-requires-clause-literal_in
step-requires-clause-literal_in c =
    let at = c.loop-entry.self-inside in
    let clauses = c.args.clauses.now in
    let literal = c.args.literal in
    let variables = c.self.inside.variables in
    let pairs : Pairing = c.self.inside.pairs in
    let watched0 : List Lit = c.self.inside.watched.items in
    let trail0 : Trailing = c.args.trail.now in
    let heads : List ℕ = at.heads.items in
    let next : List ℕ = at.next.items in
    let watched : List Lit = at.watched.items in
    let trail : Trailing = c.loop-entry.trail in
    let literal_in : literal.var < variables = subst (λ (w : Watching). literal.var < w.variables) (sym c.self.view_is) c.requires.variable in
    let is = c.loop-entry.invariant.walk in
    let few : length next ≤ nothing = omega arith in
    literal-there clauses literal variables pairs watched0 trail0 literal_in c.requires.is_false heads next watched trail c.loop-entry.last c.loop-entry.entry is few c.loop-entry-test.true

pub step-requires-clause-other_in : goal.step-requires-clause-other_in
step-requires-clause-other_in c =
    let at = c.loop-entry.self-inside in
    let clauses = c.args.clauses.now in
    let literal = c.args.literal in
    let variables = c.self.inside.variables in
    let pairs : Pairing = c.self.inside.pairs in
    let watched0 : List Lit = c.self.inside.watched.items in
    let trail0 : Trailing = c.args.trail.now in
    let heads : List ℕ = at.heads.items in
    let next : List ℕ = at.next.items in
    let watched : List Lit = at.watched.items in
    let trail : Trailing = c.loop-entry.trail in
    let literal_in : literal.var < variables = subst (λ (w : Watching). literal.var < w.variables) (sym c.self.view_is) c.requires.variable in
    let is = c.loop-entry.invariant.walk in
    let few : length next ≤ nothing = omega arith in
    subst (λ (w : List Lit). Contains (get_or clauses (c.loop-entry.entry / 2) []) (watched_at w (partner c.loop-entry.entry))) (sym c.deref_mut.ensures.value)
    (other-there clauses literal variables pairs watched0 trail0 literal_in c.requires.is_false heads next watched trail c.loop-entry.last c.loop-entry.entry is few c.loop-entry-test.true)

pub step-requires-clause-is_false : goal.step-requires-clause-is_false
step-requires-clause-is_false c =
    growth-within c.args.clauses.now c.args.trail.now c.loop-entry.trail c.loop-entry.invariant.walk.growth _ c.requires.is_false

pub relink-requires-clause-apart : goal.relink-requires-clause-apart
relink-requires-clause-apart c e =
    let at = c.loop-entry.self-inside in
    let clauses = c.args.clauses.now in
    let literal = c.args.literal in
    let variables = c.self.inside.variables in
    let pairs : Pairing = c.self.inside.pairs in
    let watched0 : List Lit = c.self.inside.watched.items in
    let trail0 : Trailing = c.args.trail.now in
    let heads : List ℕ = at.heads.items in
    let next : List ℕ = at.next.items in
    let watched : List Lit = at.watched.items in
    let trail : Trailing = c.loop-entry.trail in
    let literal_in : literal.var < variables = subst (λ (w : Watching). literal.var < w.variables) (sym c.self.view_is) c.requires.variable in
    let is = c.loop-entry.invariant.walk in
    let few : length next ≤ nothing = omega arith in
    let below : All (All (IsBelow variables)) clauses = subst (λ (w : Watching). All (All (IsBelow w.variables)) clauses) (sym c.self.view_is) c.requires.below in
    let step : IsStep c.loop-entry.entry (get_or clauses (c.loop-entry.entry / 2) []) (watched_at watched (partner c.loop-entry.entry)) watched c.step.new.watched trail c.step.new.trail (visit.Moves c.in-Moves.found) =
    subst (λ (w : List Lit). IsStep c.loop-entry.entry (get_or clauses (c.loop-entry.entry / 2) []) (watched_at w (partner c.loop-entry.entry)) w c.step.new.watched trail c.step.new.trail (visit.Moves c.in-Moves.found)) c.deref_mut.ensures.value c.in-Moves.ensures in
    let whole_watched = whole at.watched.len c.step.new.watched watched (omega arith) (c.step.auto.watched ∙ ap length c.deref_mut.ensures.value) in
    to-apart clauses literal variables pairs watched0 trail0 literal_in c.requires.is_false heads next watched trail c.loop-entry.last c.loop-entry.entry is few c.loop-entry-test.true below c.in-Moves.found c.step.new.watched c.step.new.trail step (sym c.slot-from.ensures ∙ e ∙ c.slot-to.ensures)

pub relink-requires-clause-last : goal.relink-requires-clause-last
relink-requires-clause-last c =
    let at = c.loop-entry.self-inside in
    let clauses = c.args.clauses.now in
    let literal = c.args.literal in
    let variables = c.self.inside.variables in
    let pairs : Pairing = c.self.inside.pairs in
    let watched0 : List Lit = c.self.inside.watched.items in
    let trail0 : Trailing = c.args.trail.now in
    let heads : List ℕ = at.heads.items in
    let next : List ℕ = at.next.items in
    let watched : List Lit = at.watched.items in
    let trail : Trailing = c.loop-entry.trail in
    let literal_in : literal.var < variables = subst (λ (w : Watching). literal.var < w.variables) (sym c.self.view_is) c.requires.variable in
    let is = c.loop-entry.invariant.walk in
    let few : length next ≤ nothing = omega arith in
    subst (λ (ns : List ℕ). (c.loop-entry.last ≡ nothing) ⊎ ((c.loop-entry.last < length ns) × (c.loop-entry.last ≢ c.loop-entry.entry))) (sym c.deref_mut-in-Moves-2.ensures.value)
    (last-apart clauses literal variables pairs watched0 trail0 literal_in c.requires.is_false heads next watched trail c.loop-entry.last c.loop-entry.entry is few c.loop-entry-test.true)

pub returns-in-Refuted-clause-inside : goal.returns-in-Refuted-clause-inside
returns-in-Refuted-clause-inside c =
    let at = c.loop-entry.self-inside in
    let clauses = c.args.clauses.now in
    let literal = c.args.literal in
    let variables = c.self.inside.variables in
    let pairs : Pairing = c.self.inside.pairs in
    let watched0 : List Lit = c.self.inside.watched.items in
    let trail0 : Trailing = c.args.trail.now in
    let heads : List ℕ = at.heads.items in
    let next : List ℕ = at.next.items in
    let watched : List Lit = at.watched.items in
    let trail : Trailing = c.loop-entry.trail in
    let literal_in : literal.var < variables = subst (λ (w : Watching). literal.var < w.variables) (sym c.self.view_is) c.requires.variable in
    let is = c.loop-entry.invariant.walk in
    let few : length next ≤ nothing = omega arith in
    let step : IsStep c.loop-entry.entry (get_or clauses (c.loop-entry.entry / 2) []) (watched_at watched (partner c.loop-entry.entry)) watched c.step.new.watched trail c.step.new.trail visit.Refuted =
    subst (λ (w : List Lit). IsStep c.loop-entry.entry (get_or clauses (c.loop-entry.entry / 2) []) (watched_at w (partner c.loop-entry.entry)) w c.step.new.watched trail c.step.new.trail visit.Refuted) c.deref_mut.ensures.value c.in-Refuted.ensures in
    let whole_watched = whole at.watched.len c.step.new.watched watched (omega arith) (c.step.auto.watched ∙ ap length c.deref_mut.ensures.value) in
    rw (whole_watched, step.0) is.inside

pub returns-in-Refuted-clause-kept : goal.returns-in-Refuted-clause-kept
returns-in-Refuted-clause-kept c =
    let at = c.loop-entry.self-inside in
    let clauses = c.args.clauses.now in
    let literal = c.args.literal in
    let variables = c.self.inside.variables in
    let pairs : Pairing = c.self.inside.pairs in
    let watched0 : List Lit = c.self.inside.watched.items in
    let trail0 : Trailing = c.args.trail.now in
    let heads : List ℕ = at.heads.items in
    let next : List ℕ = at.next.items in
    let watched : List Lit = at.watched.items in
    let trail : Trailing = c.loop-entry.trail in
    let literal_in : literal.var < variables = subst (λ (w : Watching). literal.var < w.variables) (sym c.self.view_is) c.requires.variable in
    let is = c.loop-entry.invariant.walk in
    let few : length next ≤ nothing = omega arith in
    let step : IsStep c.loop-entry.entry (get_or clauses (c.loop-entry.entry / 2) []) (watched_at watched (partner c.loop-entry.entry)) watched c.step.new.watched trail c.step.new.trail visit.Refuted =
    subst (λ (w : List Lit). IsStep c.loop-entry.entry (get_or clauses (c.loop-entry.entry / 2) []) (watched_at w (partner c.loop-entry.entry)) w c.step.new.watched trail c.step.new.trail visit.Refuted) c.deref_mut.ensures.value c.in-Refuted.ensures in
    let whole_watched = whole at.watched.len c.step.new.watched watched (omega arith) (c.step.auto.watched ∙ ap length c.deref_mut.ensures.value) in
    rw (whole_watched, step.0) (subst (λ (w : Watching). AreKept trail0.literals w.watched watched) c.self.view_is is.kept)

pub returns-in-Refuted-clause-refuted : goal.returns-in-Refuted-clause-refuted
returns-in-Refuted-clause-refuted c _ =
    let at = c.loop-entry.self-inside in
    let clauses = c.args.clauses.now in
    let literal = c.args.literal in
    let variables = c.self.inside.variables in
    let pairs : Pairing = c.self.inside.pairs in
    let watched0 : List Lit = c.self.inside.watched.items in
    let trail0 : Trailing = c.args.trail.now in
    let heads : List ℕ = at.heads.items in
    let next : List ℕ = at.next.items in
    let watched : List Lit = at.watched.items in
    let trail : Trailing = c.loop-entry.trail in
    let literal_in : literal.var < variables = subst (λ (w : Watching). literal.var < w.variables) (sym c.self.view_is) c.requires.variable in
    let is = c.loop-entry.invariant.walk in
    let few : length next ≤ nothing = omega arith in
    let step : IsStep c.loop-entry.entry (get_or clauses (c.loop-entry.entry / 2) []) (watched_at watched (partner c.loop-entry.entry)) watched c.step.new.watched trail c.step.new.trail visit.Refuted =
    subst (λ (w : List Lit). IsStep c.loop-entry.entry (get_or clauses (c.loop-entry.entry / 2) []) (watched_at w (partner c.loop-entry.entry)) w c.step.new.watched trail c.step.new.trail visit.Refuted) c.deref_mut.ensures.value c.in-Refuted.ensures in
    let whole_watched = whole at.watched.len c.step.new.watched watched (omega arith) (c.step.auto.watched ∙ ap length c.deref_mut.ensures.value) in
    walk-refuted clauses literal variables pairs watched0 trail0 literal_in c.requires.is_false heads next watched trail c.loop-entry.last c.loop-entry.entry is few c.loop-entry-test.true c.step.new.watched c.step.new.trail step

pub loop-entry-smaller-in-Stays : goal.loop-entry-smaller-in-Stays
loop-entry-smaller-in-Stays c =
    let at = c.loop-entry.self-inside in
    let clauses = c.args.clauses.now in
    let literal = c.args.literal in
    let variables = c.self.inside.variables in
    let pairs : Pairing = c.self.inside.pairs in
    let watched0 : List Lit = c.self.inside.watched.items in
    let trail0 : Trailing = c.args.trail.now in
    let heads : List ℕ = at.heads.items in
    let next : List ℕ = at.next.items in
    let watched : List Lit = at.watched.items in
    let trail : Trailing = c.loop-entry.trail in
    let literal_in : literal.var < variables = subst (λ (w : Watching). literal.var < w.variables) (sym c.self.view_is) c.requires.variable in
    let is = c.loop-entry.invariant.walk in
    let few : length next ≤ nothing = omega arith in
    let step : IsStep c.loop-entry.entry (get_or clauses (c.loop-entry.entry / 2) []) (watched_at watched (partner c.loop-entry.entry)) watched c.step.new.watched trail c.step.new.trail visit.Stays =
    subst (λ (w : List Lit). IsStep c.loop-entry.entry (get_or clauses (c.loop-entry.entry / 2) []) (watched_at w (partner c.loop-entry.entry)) w c.step.new.watched trail c.step.new.trail visit.Stays) c.deref_mut.ensures.value c.in-Stays.ensures in
    let whole_watched = whole at.watched.len c.step.new.watched watched (omega arith) (c.step.auto.watched ∙ ap length c.deref_mut.ensures.value) in
    let behind : c.index-behind.result.now ≡ get_or next c.loop-entry.entry 0 = c.index-behind.ensures ∙ get_or_default next c.loop-entry.entry c.index-behind.result.now 0 (entry-next clauses literal variables pairs watched0 trail0 literal_in c.requires.is_false heads next watched trail c.loop-entry.last c.loop-entry.entry is few c.loop-entry-test.true) in
    rw (behind) (stays-smaller clauses literal variables pairs watched0 trail0 literal_in c.requires.is_false heads next watched trail c.loop-entry.last c.loop-entry.entry is few c.loop-entry-test.true)

pub loop-entry-preserved-in-Stays : goal.loop-entry-preserved-in-Stays
loop-entry-preserved-in-Stays c =
    let at = c.loop-entry.self-inside in
    let clauses = c.args.clauses.now in
    let literal = c.args.literal in
    let variables = c.self.inside.variables in
    let pairs : Pairing = c.self.inside.pairs in
    let watched0 : List Lit = c.self.inside.watched.items in
    let trail0 : Trailing = c.args.trail.now in
    let heads : List ℕ = at.heads.items in
    let next : List ℕ = at.next.items in
    let watched : List Lit = at.watched.items in
    let trail : Trailing = c.loop-entry.trail in
    let literal_in : literal.var < variables = subst (λ (w : Watching). literal.var < w.variables) (sym c.self.view_is) c.requires.variable in
    let is = c.loop-entry.invariant.walk in
    let few : length next ≤ nothing = omega arith in
    let step : IsStep c.loop-entry.entry (get_or clauses (c.loop-entry.entry / 2) []) (watched_at watched (partner c.loop-entry.entry)) watched c.step.new.watched trail c.step.new.trail visit.Stays =
    subst (λ (w : List Lit). IsStep c.loop-entry.entry (get_or clauses (c.loop-entry.entry / 2) []) (watched_at w (partner c.loop-entry.entry)) w c.step.new.watched trail c.step.new.trail visit.Stays) c.deref_mut.ensures.value c.in-Stays.ensures in
    let whole_watched = whole at.watched.len c.step.new.watched watched (omega arith) (c.step.auto.watched ∙ ap length c.deref_mut.ensures.value) in
    let behind : c.index-behind.result.now ≡ get_or next c.loop-entry.entry 0 = c.index-behind.ensures ∙ get_or_default next c.loop-entry.entry c.index-behind.result.now 0 (entry-next clauses literal variables pairs watched0 trail0 literal_in c.requires.is_false heads next watched trail c.loop-entry.last c.loop-entry.entry is few c.loop-entry-test.true) in
    let new = walk-stays clauses literal variables pairs watched0 trail0 literal_in c.requires.is_false heads next watched trail c.loop-entry.last c.loop-entry.entry is few c.loop-entry-test.true c.step.new.trail (subst (λ (w : List Lit). IsStep c.loop-entry.entry (get_or clauses (c.loop-entry.entry / 2) []) (watched_at watched (partner c.loop-entry.entry)) watched w trail c.step.new.trail visit.Stays) step.0 step) in
    record {
      same = c.loop-entry.invariant.same;
      pairs = c.loop-entry.invariant.pairs;
      walk = rw (whole_watched, step.0, behind) new;
    }

pub loop-entry-smaller : goal.loop-entry-smaller
loop-entry-smaller c =
    let at = c.loop-entry.self-inside in
    let clauses = c.args.clauses.now in
    let literal = c.args.literal in
    let variables = c.self.inside.variables in
    let pairs : Pairing = c.self.inside.pairs in
    let watched0 : List Lit = c.self.inside.watched.items in
    let trail0 : Trailing = c.args.trail.now in
    let heads : List ℕ = at.heads.items in
    let next : List ℕ = at.next.items in
    let watched : List Lit = at.watched.items in
    let trail : Trailing = c.loop-entry.trail in
    let literal_in : literal.var < variables = subst (λ (w : Watching). literal.var < w.variables) (sym c.self.view_is) c.requires.variable in
    let is = c.loop-entry.invariant.walk in
    let few : length next ≤ nothing = omega arith in
    let below : All (All (IsBelow variables)) clauses = subst (λ (w : Watching). All (All (IsBelow w.variables)) clauses) (sym c.self.view_is) c.requires.below in
    let step : IsStep c.loop-entry.entry (get_or clauses (c.loop-entry.entry / 2) []) (watched_at watched (partner c.loop-entry.entry)) watched c.step.new.watched trail c.step.new.trail (visit.Moves c.in-Moves.found) =
    subst (λ (w : List Lit). IsStep c.loop-entry.entry (get_or clauses (c.loop-entry.entry / 2) []) (watched_at w (partner c.loop-entry.entry)) w c.step.new.watched trail c.step.new.trail (visit.Moves c.in-Moves.found)) c.deref_mut.ensures.value c.in-Moves.ensures in
    let whole_watched = whole at.watched.len c.step.new.watched watched (omega arith) (c.step.auto.watched ∙ ap length c.deref_mut.ensures.value) in
    let behind : c.index-behind.result.now ≡ get_or next c.loop-entry.entry 0 = c.index-behind.ensures ∙ get_or_default next c.loop-entry.entry c.index-behind.result.now 0 (entry-next clauses literal variables pairs watched0 trail0 literal_in c.requires.is_false heads next watched trail c.loop-entry.last c.loop-entry.entry is few c.loop-entry-test.true) in
    let relinked : IsRelinked heads next (code_of literal) c.loop-entry.last c.loop-entry.entry (code_of c.in-Moves.found) c.relink.new.heads c.relink.new.next =
    subst (λ (k : ℕ). IsRelinked heads next (code_of literal) c.loop-entry.last c.loop-entry.entry k c.relink.new.heads c.relink.new.next) c.slot-to.ensures
    (subst (λ (k : ℕ). IsRelinked heads next k c.loop-entry.last c.loop-entry.entry c.slot-to.result c.relink.new.heads c.relink.new.next) c.slot-from.ensures
    (subst (λ (ns : List ℕ). IsRelinked heads ns c.slot-from.result c.loop-entry.last c.loop-entry.entry c.slot-to.result c.relink.new.heads c.relink.new.next) c.deref_mut-in-Moves-2.ensures.value
    (subst (λ (hs : List ℕ). IsRelinked hs c.deref_mut-in-Moves-2.result.now c.slot-from.result c.loop-entry.last c.loop-entry.entry c.slot-to.result c.relink.new.heads c.relink.new.next) c.deref_mut-in-Moves.ensures.value c.relink.ensures))) in
    let whole_heads = whole at.heads.len c.relink.new.heads heads (omega arith) (c.relink.auto.heads ∙ ap length c.deref_mut-in-Moves.ensures.value) in
    let whole_next = whole at.next.len c.relink.new.next next (omega arith) (c.relink.auto.next ∙ ap length c.deref_mut-in-Moves-2.ensures.value) in
    rw (behind, whole_next) (moves-smaller clauses literal variables pairs watched0 trail0 literal_in c.requires.is_false heads next watched trail c.loop-entry.last c.loop-entry.entry is few c.loop-entry-test.true below c.in-Moves.found c.step.new.watched c.step.new.trail step c.relink.new.heads c.relink.new.next relinked)

pub loop-entry-preserved : goal.loop-entry-preserved
loop-entry-preserved c =
    let at = c.loop-entry.self-inside in
    let clauses = c.args.clauses.now in
    let literal = c.args.literal in
    let variables = c.self.inside.variables in
    let pairs : Pairing = c.self.inside.pairs in
    let watched0 : List Lit = c.self.inside.watched.items in
    let trail0 : Trailing = c.args.trail.now in
    let heads : List ℕ = at.heads.items in
    let next : List ℕ = at.next.items in
    let watched : List Lit = at.watched.items in
    let trail : Trailing = c.loop-entry.trail in
    let literal_in : literal.var < variables = subst (λ (w : Watching). literal.var < w.variables) (sym c.self.view_is) c.requires.variable in
    let is = c.loop-entry.invariant.walk in
    let few : length next ≤ nothing = omega arith in
    let below : All (All (IsBelow variables)) clauses = subst (λ (w : Watching). All (All (IsBelow w.variables)) clauses) (sym c.self.view_is) c.requires.below in
    let step : IsStep c.loop-entry.entry (get_or clauses (c.loop-entry.entry / 2) []) (watched_at watched (partner c.loop-entry.entry)) watched c.step.new.watched trail c.step.new.trail (visit.Moves c.in-Moves.found) =
    subst (λ (w : List Lit). IsStep c.loop-entry.entry (get_or clauses (c.loop-entry.entry / 2) []) (watched_at w (partner c.loop-entry.entry)) w c.step.new.watched trail c.step.new.trail (visit.Moves c.in-Moves.found)) c.deref_mut.ensures.value c.in-Moves.ensures in
    let whole_watched = whole at.watched.len c.step.new.watched watched (omega arith) (c.step.auto.watched ∙ ap length c.deref_mut.ensures.value) in
    let behind : c.index-behind.result.now ≡ get_or next c.loop-entry.entry 0 = c.index-behind.ensures ∙ get_or_default next c.loop-entry.entry c.index-behind.result.now 0 (entry-next clauses literal variables pairs watched0 trail0 literal_in c.requires.is_false heads next watched trail c.loop-entry.last c.loop-entry.entry is few c.loop-entry-test.true) in
    let relinked : IsRelinked heads next (code_of literal) c.loop-entry.last c.loop-entry.entry (code_of c.in-Moves.found) c.relink.new.heads c.relink.new.next =
    subst (λ (k : ℕ). IsRelinked heads next (code_of literal) c.loop-entry.last c.loop-entry.entry k c.relink.new.heads c.relink.new.next) c.slot-to.ensures
    (subst (λ (k : ℕ). IsRelinked heads next k c.loop-entry.last c.loop-entry.entry c.slot-to.result c.relink.new.heads c.relink.new.next) c.slot-from.ensures
    (subst (λ (ns : List ℕ). IsRelinked heads ns c.slot-from.result c.loop-entry.last c.loop-entry.entry c.slot-to.result c.relink.new.heads c.relink.new.next) c.deref_mut-in-Moves-2.ensures.value
    (subst (λ (hs : List ℕ). IsRelinked hs c.deref_mut-in-Moves-2.result.now c.slot-from.result c.loop-entry.last c.loop-entry.entry c.slot-to.result c.relink.new.heads c.relink.new.next) c.deref_mut-in-Moves.ensures.value c.relink.ensures))) in
    let whole_heads = whole at.heads.len c.relink.new.heads heads (omega arith) (c.relink.auto.heads ∙ ap length c.deref_mut-in-Moves.ensures.value) in
    let whole_next = whole at.next.len c.relink.new.next next (omega arith) (c.relink.auto.next ∙ ap length c.deref_mut-in-Moves-2.ensures.value) in
    let new = walk-moves clauses literal variables pairs watched0 trail0 literal_in c.requires.is_false heads next watched trail c.loop-entry.last c.loop-entry.entry is few c.loop-entry-test.true below c.in-Moves.found c.step.new.watched c.step.new.trail step c.relink.new.heads c.relink.new.next relinked in
    record {
      same = c.loop-entry.invariant.same;
      pairs = c.loop-entry.invariant.pairs;
      walk = rw (whole_watched, whole_heads, whole_next, behind) new;
    }

pub returns-clause-kept : goal.returns-clause-kept
returns-clause-kept c = subst (λ (w : Watching). AreKept c.args.trail.now.literals w.watched c.loop-entry.self-inside.watched.items) c.self.view_is c.loop-entry.invariant.walk.kept

pub returns-clause-seen : goal.returns-clause-seen
returns-clause-seen c _ =
    let at = c.loop-entry.self-inside in
    let clauses = c.args.clauses.now in
    let literal = c.args.literal in
    let variables = c.self.inside.variables in
    let pairs : Pairing = c.self.inside.pairs in
    let watched0 : List Lit = c.self.inside.watched.items in
    let trail0 : Trailing = c.args.trail.now in
    let heads : List ℕ = at.heads.items in
    let next : List ℕ = at.next.items in
    let watched : List Lit = at.watched.items in
    let trail : Trailing = c.loop-entry.trail in
    let literal_in : literal.var < variables = subst (λ (w : Watching). literal.var < w.variables) (sym c.self.view_is) c.requires.variable in
    let is = c.loop-entry.invariant.walk in
    let few : length next ≤ nothing = omega arith in
    walk-seen clauses literal variables pairs watched0 trail0 literal_in c.requires.is_false heads next watched trail c.loop-entry.last c.loop-entry.entry is few c.loop-entry-test.false
    (λ l m. c.requires.brought l (subst (λ (w : Watching). Contains (row_of w.pairs (code_of c.args.literal)) l) c.self.view_is m))
