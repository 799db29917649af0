-- The board of a new round is a fresh one.
use Rattle.std.proofs.Common.{◌≡◌, ◌∙◌, refl, sym, ap, ℕ, Bool, true, false, List, [], ◌∷◌, length, replicate, Option, Some, None}
use Rattle.std.specs.Prelude.{not, ◌&&◌}
use Rattle.std.proofs.lemmas.Bool.{and_parts, not-true, true≢false}
use Rattle.std.proofs.lemmas.Option.{none-some, same_Some}
use Rattle.board.specs.Board.{fresh_board, some_ticket}
use Rattle.board.specs.Events.{new_round, when}
use Rattle.board.specs.declared.state.Board.{Board}
use Rattle.check_table.proofs.Boards.{same_board}

when-some : (b : Bool) (x y : Board) → when b x ≡ Some y → (b ≡ true) × (x ≡ y)
when-some true x y e = (refl, same_Some x y e)
when-some false x y e = absurd (none-some y e)

no_tickets : (tickets : List (Option ℕ)) → some_ticket tickets ≡ false → replicate (length tickets) None ≡ tickets
no_tickets [] e = refl
no_tickets (None ∷ ts) e = ap (λ (l : List (Option ℕ)). None ∷ l) (no_tickets ts e)
no_tickets (Some t ∷ ts) e = absurd (true≢false e)

pub fresh-is_new : (before after : Board) → length before.tickets ≡ 64 → new_round before ≡ Some after → fresh_board 64 before.size ≡ after
fresh-is_new before after workers new =
    let w = when-some (before.stopped && not (some_ticket before.tickets)) (record before { entries = []; cursor = 0; stopped = false }) after new in
    let none = not-true (some_ticket before.tickets) (and_parts before.stopped (not (some_ticket before.tickets)) w.0).1 in
    let tickets : replicate 64 None ≡ before.tickets = ap (λ (n : ℕ). replicate n None) (sym workers) ∙ no_tickets before.tickets none in
    same_board (fresh_board 64 before.size) (record before { entries = []; cursor = 0; stopped = false }) refl refl tickets refl refl ∙ w.1
