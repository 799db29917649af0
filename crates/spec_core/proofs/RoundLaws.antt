-- Once all workers with a ticket have gone from a stopped board, a new round begins.
use Rattle.std.proofs.Common.{◌≡◌, ◌≢◌, ◌∙◌, ⊎_elim, refl, sym, ap, subst, ℕ, Bool, true, false, cond, List, [], ◌∷◌, ◌++◌, map, length, Option, Some, None}
use Rattle.std.specs.Prelude.{All, Contains, option_and_then, option_map, slice_get}
use Rattle.std.proofs.lemmas.List.Elements.{All-cons, All-head, All-nil, All-tail}
use Rattle.lists.proofs.Members.{first, first_or_later, later, none}
use Rattle.req_keys.specs.Key.{PositionSet}
use Rattle.req_keys.specs.declared.verdict.Verdict.{Verdict}
use Rattle.board.specs.declared.state.Entry.{Entry}
use Rattle.board.specs.declared.state.Board.{Board}
use Rattle.board.specs.Board.{fresh_board}
use Rattle.spec_core.specs.declared.event.Event.{Event}
use Rattle.spec_core.specs.declared.event.Event.TheVariants as event
use Rattle.spec_core.specs.World.{World, on_board, world_after}
use Rattle.spec_core.specs.Rounds.{AreWithTicket, HasTicket, goes, goes_by, run_at, world_through}
use Rattle.spec_core.specs.inside.Making.{change_of}
use Rattle.spec_core.proofs.Going.{Gone, one_goes, round-is}

differs : (w : ℕ) (ws : List ℕ) (u : ℕ) → (Contains (u ∷ ws) w → ⊥) → u ≢ w
differs w ws u not e = let P : ℕ → Type 0 = λ x. Contains (u ∷ ws) x in not (subst P e (first u ws))

map-goes : (before after : Board) (w : ℕ) → Gone before w after → (ws : List ℕ) → (Contains ws w → ⊥) → map (goes before) ws ≡ map (goes after) ws
map-goes before after w gone [] not = refl
map-goes before after w gone (u ∷ us) not =
    ap (λ (e : Event). e ∷ map (goes before) us) (sym (gone.goes_same u (differs w us u not)))
    ∙ ap (λ (es : List Event). goes after u ∷ es) (map-goes before after w gone us (λ m. not (later u us w m)))

still-hold : (before after : Board) (w : ℕ) → Gone before w after → (ws : List ℕ) → (Contains ws w → ⊥) → All (HasTicket before) ws → All (HasTicket after) ws
still-hold before after w gone [] not hold = All-nil (HasTicket after)
still-hold before after w gone (u ∷ us) not hold =
    let one : HasTicket before u = All-head (HasTicket before) u us hold in
    All-cons (HasTicket after) u us (one.0, gone.others u (differs w us u not) ∙ one.1)
    (still-hold before after w gone us (λ m. not (later u us w m)) (All-tail (HasTicket before) u us hold))

rest-of : (before after : Board) (w : ℕ) (ws : List ℕ) → Gone before w after → AreWithTicket before (w ∷ ws) → AreWithTicket after ws
rest-of before after w ws gone are = record {
  once = are.once.1;
  only = still-hold before after w gone ws are.once.0 (All-tail (HasTicket before) w ws are.only);
  each = λ u has.
      let other : u ≢ w = λ e. gone.itself (let P : ℕ → Type 0 = λ x. HasTicket after x in subst P e has) in
      let had : HasTicket before u = (has.0, sym (gone.others u other) ∙ has.1) in
      ⊎_elim (λ (e : w ≡ u). absurd (other (sym e))) (λ (m : Contains ws u). m) (first_or_later w ws u (are.each u had));
}

module _ (verdict : PositionSet → Verdict) where
  goes-world : (t : Option (Option ℕ)) (entries : List Entry) (w : ℕ) (world : World) → world_after verdict (goes_by t entries w) world ≡ on_board (change_of (goes_by t entries w)) world
  goes-world None entries w world = refl
  goes-world (Some None) entries w world = refl
  goes-world (Some (Some n)) entries w world = by (run_at (slice_get entries n) w)
    where
      by : (r : Bool) → world_after verdict (cond r (event.GiveUp w) (event.Leave w)) world ≡ on_board (change_of (cond r (event.GiveUp w) (event.Leave w))) world
      by true = refl
      by false = refl

  pub begins-anew : (workers : List ℕ) (world : World) → world.board.stopped ≡ true → AreWithTicket world.board workers
      → world_through verdict (map (goes world.board) workers ++ event.Round ∷ []) world ≡ Some (record world { board = fresh_board (length world.board.tickets) world.board.size })
  begins-anew [] world stopped are =
      ap (λ (o : Option Board). option_and_then (λ after. Some after) (option_map (λ b. record world { board = b }) o)) (round-is world.board stopped (λ w has. none w (are.each w has)))
  begins-anew (w ∷ ws) world stopped are =
      let before : Board = world.board in
      let one = one_goes before w stopped (All-head (HasTicket before) w ws are.only) in
      let after : Board = one.0 in
      let next : World = record world { board = after } in
      let made : world_after verdict (goes before w) world ≡ Some next = goes-world _ before.entries w world ∙ ap (λ (o : Option Board). option_map (λ b. record world { board = b }) o) one.1.made in
      ap (λ (o : Option World). option_and_then (λ a. world_through verdict (map (goes before) ws ++ event.Round ∷ []) a) o) made
      ∙ ap (λ (es : List Event). world_through verdict (es ++ event.Round ∷ []) next) (map-goes before after w one.1 ws are.once.0)
      ∙ begins-anew ws next one.1.stopped (rest-of before after w ws one.1 are)
      ∙ ap (λ (k : ℕ). Some (record world { board = fresh_board k after.size })) one.1.tickets
      ∙ ap (λ (k : ℕ). Some (record world { board = fresh_board (length before.tickets) k })) one.1.size
