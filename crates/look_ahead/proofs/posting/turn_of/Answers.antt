use Rattle.std.proofs.Common.{◌≡◌, ◌<◌, ◌≤◌, ◌+◌, ◌-◌, ◌∙◌, ◌++◌, [], ℕ, true, false, not, filter, length, take, List, ap, sym, subst, arith}
use Rattle.std.specs.Prelude.{All, None, is_none}
use Rattle.lists.specs.Distinct.{IsDistinct}
use Rattle.req_keys.specs.Key.{PositionSet}
use Rattle.look_ahead.specs.declared.posting.Turn.{Turn}
use Rattle.look_ahead.specs.Posting.{is_full, is_wanted, lacking, live_entry, numbered, numbers_of, unwanted}
use Rattle.look_ahead.specs.inside.Turns.{IsTurn, round_of}
use Rattle.look_ahead.proofs.LiveEntries.{distinct-filter, lacking-unknown}
use Rattle.look_ahead.proofs.TurnParts.{full-none, full-room, full-true, new_turn, same_turn, turn_of_parts}
use Rattle.look_ahead.proofs.posting.turn_of.Goals as goal
use Rattle.look_ahead.proofs.posting.turn_of.Goals.{else-taken-gt0-via-then-taken-gt0+else-entries-taken, else-taken-gt0-via-else-taken-gt0}

pub same_round-requires-clause-distinct : goal.same_round-requires-clause-distinct
same_round-requires-clause-distinct c =
    let kept = c.in_ok-kept.field-0.kept.entries in
    subst IsDistinct (sym c.in_ok-missing.ensures) (distinct-filter (λ key. is_none (live_entry kept key)) c.args.list.now c.requires.distinct)

pub same_round-requires-clause-lacking : goal.same_round-requires-clause-lacking
same_round-requires-clause-lacking c =
    let kept = c.in_ok-kept.field-0.kept.entries in
    let P : List PositionSet → Type 0 = λ l. All (λ key. live_entry kept key ≡ None) l in
    subst P (sym c.in_ok-missing.ensures) (lacking-unknown kept c.args.list.now)

pub returns-then-entries-taken : goal.returns-then-entries-taken
returns-then-entries-taken c =
    let list = c.args.list.now in
    let live = c.args.live.now.entries in
    let asked = c.args.asked.now in
    let entries = c.args.entries in
    let taken = c.args.taken in
    let state = round_of entries live taken in
    let kept = filter (is_wanted asked list) live in
    let kept_is : c.in_ok-kept.field-0.kept.entries ≡ kept = c.in_ok-kept.ensures.kept ∙ ap (λ (l : List PositionSet). filter (is_wanted asked l) live) c.in_ok-wanted.ensures in
    let cancel_is : c.in_ok-kept.field-0.cancel ≡ unwanted asked list state = c.in_ok-kept.ensures.cancel ∙ ap (λ (l : List PositionSet). numbers_of (filter (λ e. not (is_wanted asked l e)) live)) c.in_ok-wanted.ensures in
    let missing_is : c.in_ok-missing.missing ≡ lacking kept list = c.in_ok-missing.ensures ∙ ap (λ (es : List (PositionSet × ℕ)). lacking es list) kept_is in
    let count : c.len.result ≡ length (lacking kept list) = c.len.ensures ∙ ap length missing_is in
    let some : 0 < taken = omega arith in
    let more : entries - taken < c.len.result = omega arith in
    let full : is_full list (round_of entries kept taken) ≡ true = full-true entries taken kept list c.len.result count some more in
    turn_of_parts c.new_round.result
    (λ (t : Turn). t.orders.new_round ≡ true)
    (λ (t : Turn). t.orders.cancel ≡ c.in_ok-kept.field-0.cancel ++ numbers_of c.in_ok-kept.field-0.kept.entries)
    (λ (t : Turn). t.orders.post ≡ take entries (lacking [] list))
    (λ (t : Turn). t.live.entries ≡ numbered 0 t.orders.post)
    (λ (t : Turn). t.taken ≡ length t.orders.post)
    (IsTurn state asked list)
    c.new_round.ensures.new c.new_round.ensures.cancel c.new_round.ensures.post c.new_round.ensures.live c.new_round.ensures.taken
    (λ t new cancel post here count_is. new_turn asked list entries taken live t full new (cancel ∙ ap (λ l. l ++ numbers_of c.in_ok-kept.field-0.kept.entries) cancel_is ∙ ap (λ (es : List (PositionSet × ℕ)). unwanted asked list state ++ numbers_of es) kept_is) post here count_is)

pub returns : goal.returns
returns c =
    let list = c.args.list.now in
    let live = c.args.live.now.entries in
    let asked = c.args.asked.now in
    let entries = c.args.entries in
    let taken = c.args.taken in
    let state = round_of entries live taken in
    let kept = filter (is_wanted asked list) live in
    let kept_is : c.in_ok-kept.field-0.kept.entries ≡ kept = c.in_ok-kept.ensures.kept ∙ ap (λ (l : List PositionSet). filter (is_wanted asked l) live) c.in_ok-wanted.ensures in
    let cancel_is : c.in_ok-kept.field-0.cancel ≡ unwanted asked list state = c.in_ok-kept.ensures.cancel ∙ ap (λ (l : List PositionSet). numbers_of (filter (λ e. not (is_wanted asked l e)) live)) c.in_ok-wanted.ensures in
    let missing_is : c.in_ok-missing.missing ≡ lacking kept list = c.in_ok-missing.ensures ∙ ap (λ (es : List (PositionSet × ℕ)). lacking es list) kept_is in
    let full : is_full list (round_of entries kept taken) ≡ false = elim c.else-taken-gt0.branch [
      | else-taken-gt0-via-then-taken-gt0+else-entries-taken w ↦
          (let count : w.len.result ≡ length (lacking kept list) = w.len.ensures ∙ ap length missing_is in
          let room : w.len.result ≤ entries - taken = omega arith in
          full-room entries taken kept list w.len.result count room)
      | else-taken-gt0-via-else-taken-gt0 w ↦ (let none : taken ≤ 0 = omega arith in full-none entries taken kept list none)
    ] in
    turn_of_parts c.same_round.result
    (λ (t : Turn). t.orders.new_round ≡ false)
    (λ (t : Turn). t.orders.cancel ≡ c.in_ok-kept.field-0.cancel)
    (λ (t : Turn). t.orders.post ≡ take (entries - taken) c.in_ok-missing.missing)
    (λ (t : Turn). t.live.entries ≡ c.in_ok-kept.field-0.kept.entries ++ numbered taken t.orders.post)
    (λ (t : Turn). t.taken ≡ taken + length t.orders.post)
    (IsTurn state asked list)
    c.same_round.ensures.new c.same_round.ensures.cancel c.same_round.ensures.post c.same_round.ensures.live c.same_round.ensures.taken
    (λ t new cancel post here count_is. same_turn asked list entries taken live t full new (cancel ∙ cancel_is) (post ∙ ap (take (entries - taken)) missing_is) (here ∙ ap (λ (es : List (PositionSet × ℕ)). es ++ numbered taken t.orders.post) kept_is) count_is)
