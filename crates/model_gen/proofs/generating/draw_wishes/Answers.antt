use Rattle.std.proofs.Common.{◌≡◌, ◌∙◌, ◌+◌, ◌*◌, ◌++◌, ◌==◌, ℕ, List, map, sym, ap, arith, add-zero}
use Rattle.std.specs.List.{range_with_len, flat_map}
use Rattle.model_gen.specs.Draws.{next_state, state_after, drawn, drawn_at}
use Rattle.model_gen.specs.Lines.{draws_before_wishes, wish, wish_count}
use Rattle.model_gen.specs.Texts.{wish_line}
use Rattle.model_gen.proofs.DrawLaws.{state_after-push, state_after-two, lines-push}
use Rattle.model_gen.proofs.generating.draw_wishes.Goals as goal

-- the two draws of a requirement
one_wish : (seed size k state feature unwanted : ℕ) → state ≡ state_after seed (draws_before_wishes size + 2 * k) → feature ≡ drawn_at (next_state state) (size + 1) → unwanted ≡ drawn_at (next_state (next_state state)) 4 → wish_line (record { feature = feature; unwanted = unwanted == 0 }) ≡ wish_line (wish seed size k)
one_wish seed size k state feature unwanted e f g =
    let at : ℕ = draws_before_wishes size + 2 * k in
    let make : ℕ → ℕ → List ℕ = λ a b. wish_line (record { feature = a; unwanted = b == 0 }) in
    let first : feature ≡ drawn seed at (size + 1) = f ∙ ap (λ s. drawn_at (next_state s) (size + 1)) e in
    let second : unwanted ≡ drawn seed (at + 1) 4 =
    g ∙ ap (λ s. drawn_at (next_state (next_state s)) 4) e ∙ ap (λ s. drawn_at (next_state s) 4) (sym (state_after-push seed at)) in
    ap (λ a. make a unwanted) first ∙ ap (make (drawn seed at (size + 1))) second

pub wishes-init : goal.wishes-init
wishes-init c = λ seed e. (e ∙ ap (state_after seed) (sym (add-zero (draws_before_wishes c.args.size))), c.new-text.ensures)

pub wishes-preserved : goal.wishes-preserved
wishes-preserved c = λ seed e.
    let k : ℕ = c.wishes.counter in
    let before = c.wishes.invariant seed e in
    let next : draws_before_wishes c.args.size + 2 * (k + 1) ≡ (draws_before_wishes c.args.size + 2 * k) + 2 = omega arith in
    let new = one_wish seed c.args.size k c.wishes.draws.state c.below-feature.result c.below-unwanted.result before.0 c.below-feature.ensures.drawn (c.below-unwanted.ensures.drawn ∙ ap (λ s. drawn_at (next_state s) 4) c.below-feature.ensures.state) in (
      c.below-unwanted.ensures.state ∙ ap next_state c.below-feature.ensures.state ∙ ap (λ s. next_state (next_state s)) before.0
          ∙ sym (state_after-two seed (draws_before_wishes c.args.size + 2 * k)) ∙ ap (state_after seed) (sym next),
      c.in_ok-push_wish.ensures ∙ ap (λ (t : List ℕ). t ++ wish_line (record { feature = c.below-feature.result; unwanted = c.below-unwanted.result == 0 })) before.1
          ∙ ap (λ (t : List ℕ). flat_map wish_line (map (wish seed c.args.size) (range_with_len 0 k)) ++ t) new
          ∙ sym (lines-push wish_line (wish seed c.args.size) k),
    )

pub returns : goal.returns
returns c = λ seed e.
    let all : c.wishes.counter ≡ wish_count c.args.size = omega arith in
    (c.wishes.invariant seed e).1 ∙ ap (λ k. flat_map wish_line (map (wish seed c.args.size) (range_with_len 0 k))) all
