-- What an event does to a board, case by case.
use Rattle.std.proofs.Common.{◌≡◌, ℕ, ◌+◌, ◌<◌, cond, true, false, not, ◌&&◌, [], ◌∷◌, ◌++◌, length, refl, ap, ◌∙◌, eq-eqb, lt-ltb}
use Rattle.std.specs.Prelude.{slice_get, Some, None}
use Rattle.req_keys.specs.Key.{PositionSet}
use Rattle.req_keys.specs.declared.verdict.Cell.{Cell}
use Rattle.req_keys.specs.declared.verdict.Cell.TheVariants.{Posted, Running, Mine}
use Rattle.board.specs.declared.state.Entry.{Entry}
use Rattle.board.specs.declared.state.Board.{Board}
use Rattle.board.specs.Board.{tickets_of, with_ticket, with_entry, with_cell, is_posted, is_mine, is_run_by}
use Rattle.board.specs.Events.{when, post, draw, draw_by, claim, claim_by, claim_at, finish_by, finish_at, cancel, cancel_at, take, take_at, stop, leave, leave_by, leave_at}

module _ (b : Board) where
  pub posts : (n : ℕ) (key : PositionSet) → b.stopped ≡ false → length b.entries < b.size → key.n ≡ n → post n key b ≡ Some (record b { entries = b.entries ++ record { key = key; cell = Posted; cancelled = false } ∷ [] })
  posts n key running room over = λ i. when (not (running i) && lt-ltb (length b.entries) b.size room i && eq-eqb key.n n over i) (record b { entries = b.entries ++ record { key = key; cell = Posted; cancelled = false } ∷ [] })

  pub stops : b.stopped ≡ false → stop b ≡ Some (record b { stopped = true })
  stops running = λ i. when (not (running i)) (record b { stopped = true })

  module _ (w : ℕ) where
    pub draws : tickets_of w b.tickets ≡ Some None → b.stopped ≡ false → b.cursor < b.size → draw w b ≡ Some (with_ticket w (Some b.cursor) (record b { cursor = b.cursor + 1 }))
    draws idle running room = ap (λ o. draw_by o w b) idle ∙ (λ i. when (not (running i) && lt-ltb b.cursor b.size room i) (with_ticket w (Some b.cursor) (record b { cursor = b.cursor + 1 })))

    module _ (t : ℕ) (has : tickets_of w b.tickets ≡ Some (Some t)) where
      pub claims_nothing : slice_get b.entries t ≡ None → claim w b ≡ Some b
      claims_nothing none = ap (λ o. claim_by o w b) has ∙ ap (λ o. claim_at o w t b) none

      pub leaves_nothing : b.stopped ≡ true → slice_get b.entries t ≡ None → leave w b ≡ Some (with_ticket w None b)
      leaves_nothing stopped none = ap (λ o. leave_by o w b) has ∙ ap (λ o. leave_at o w b) none ∙ (λ i. when (stopped i) (with_ticket w None b))

      module _ (e : Entry) (at : slice_get b.entries t ≡ Some e) where
        pub claims_posted : e.cell ≡ Posted → e.cancelled ≡ false → claim w b ≡ Some (with_cell t e (Running w) b)
        claims_posted posted bare = ap (λ o. claim_by o w b) has ∙ ap (λ o. claim_at o w t b) at
            ∙ (λ i. when (not (is_run_by w (posted i))) (cond (is_posted (posted i) && not (bare i)) (with_cell t e (Running w) b) (with_ticket w None b)))

        pub claims_gone : (c : Cell) → e.cell ≡ c → is_run_by w c ≡ false → (is_posted c && not e.cancelled) ≡ false → claim w b ≡ Some (with_ticket w None b)
        claims_gone c is run gone = ap (λ o. claim_by o w b) has ∙ ap (λ o. claim_at o w t b) at
            ∙ (λ i. when (not (is_run_by w (is i))) (cond (is_posted (is i) && not e.cancelled) (with_cell t e (Running w) b) (with_ticket w None b)))
            ∙ (λ i. when (not (run i)) (cond (gone i) (with_cell t e (Running w) b) (with_ticket w None b)))

        own : e.cell ≡ Running w → is_run_by w e.cell ≡ true
        own is = ap (is_run_by w) is ∙ eq-eqb w w refl

        module _ (answer : PositionSet → Cell) (runs : e.cell ≡ Running w) where
          pub finishes : e.cancelled ≡ false → finish_by (tickets_of w b.tickets) answer w b ≡ Some (with_ticket w None (with_cell t e (answer e.key) b))
          finishes bare = ap (λ o. finish_by o answer w b) has ∙ ap (λ o. finish_at o answer w t b) at
              ∙ (λ i. when (own runs i) (with_ticket w None (cond (bare i) b (with_cell t e (answer e.key) b))))

          pub finishes_late : e.cancelled ≡ true → finish_by (tickets_of w b.tickets) answer w b ≡ Some (with_ticket w None b)
          finishes_late marked = ap (λ o. finish_by o answer w b) has ∙ ap (λ o. finish_at o answer w t b) at
              ∙ (λ i. when (own runs i) (with_ticket w None (cond (marked i) b (with_cell t e (answer e.key) b))))

        pub leaves : b.stopped ≡ true → is_run_by w e.cell ≡ false → leave w b ≡ Some (with_ticket w None b)
        leaves stopped rests = ap (λ o. leave_by o w b) has ∙ ap (λ o. leave_at o w b) at ∙ (λ i. when (stopped i && not (rests i)) (with_ticket w None b))

  module _ (t : ℕ) (e : Entry) (at : slice_get b.entries t ≡ Some e) (bare : e.cancelled ≡ false) where
    pub cancels : is_mine e.cell ≡ false → cancel t b ≡ Some (with_entry t (record e { cancelled = true }) b)
    cancels other = ap (λ o. cancel_at o t b) at ∙ (λ i. when (not (bare i) && not (other i)) (with_entry t (record e { cancelled = true }) b))

    pub takes : e.cell ≡ Posted → take t b ≡ Some (with_cell t e Mine b)
    takes posted = ap (λ o. take_at o t b) at ∙ (λ i. when (is_posted (posted i) && not (bare i)) (with_cell t e Mine b))
