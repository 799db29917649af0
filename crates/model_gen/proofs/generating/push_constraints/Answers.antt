use Rattle.std.proofs.Common.{◌≡◌, ◌∙◌, ◌+◌, ◌*◌, ◌<◌, ◌++◌, ◌∷◌, [], ℕ, zero, suc, List, map, sym, ap, refl, codes, arith, add-zero, append_assoc}
use Rattle.std.proofs.lemmas.List.{append-nil}
use Rattle.model_gen.proofs.TextLaws.{tabs_of-none}
use Rattle.std.specs.List.{range_with_len, flat_map}
use Rattle.model_gen.specs.Draws.{next_state, state_after, drawn, drawn_at}
use Rattle.model_gen.specs.Lines.{Implication, parent_count, constraint, constraints, constraint_count}
use Rattle.model_gen.specs.Texts.{line, constraint_line, constraint_section}
use Rattle.model_gen.proofs.DrawLaws.{state_after-push, state_after-two, lines-push}
use Rattle.model_gen.proofs.generating.push_constraints.Goals as goal

-- the two draws of a constraint
one_constraint : (seed size k state feature needed : ℕ) → state ≡ state_after seed (parent_count size + 2 * k) → feature ≡ drawn_at (next_state state) (size + 1) → needed ≡ drawn_at (next_state (next_state state)) (size + 1) → constraint_line (record { feature = feature; needed = needed }) ≡ constraint_line (constraint seed size k)
one_constraint seed size k state feature needed e f g =
    let at : ℕ = parent_count size + 2 * k in
    let make : ℕ → ℕ → List ℕ = λ a b. constraint_line (record { feature = a; needed = b }) in
    let first : feature ≡ drawn seed at (size + 1) = f ∙ ap (λ s. drawn_at (next_state s) (size + 1)) e in
    let second : needed ≡ drawn seed (at + 1) (size + 1) =
    g ∙ ap (λ s. drawn_at (next_state (next_state s)) (size + 1)) e ∙ ap (λ s. drawn_at (next_state s) (size + 1)) (sym (state_after-push seed at)) in
    ap (λ a. make a needed) first ∙ ap (make (drawn seed at (size + 1))) second

section-some : (f : ℕ → Implication) (count : ℕ) → 0 < count → constraint_section (map f (range_with_len 0 count)) ≡ line 0 (codes "constraints") ++ flat_map constraint_line (map f (range_with_len 0 count))
section-some f zero l = absurd (omega arith)
section-some f (suc count) l = refl

pub constraints-init : goal.constraints-init
constraints-init c = λ seed e. (
  e ∙ ap (state_after seed) (sym (add-zero (parent_count c.args.size))),
  c.in_ok-extend_from_slice.ensures.ok ∙ ap (λ (t : List ℕ). c.args.text.now ++ (t ++ codes "constraints" ++ 10 ∷ [])) (sym tabs_of-none)
      ∙ sym (append-nil (c.args.text.now ++ line 0 (codes "constraints"))),
)

pub constraints-preserved : goal.constraints-preserved
constraints-preserved c = λ seed e.
    let k : ℕ = c.constraints.counter in
    let before = c.constraints.invariant seed e in
    let start : List ℕ = c.args.text.now ++ line 0 (codes "constraints") in
    let done : List ℕ = flat_map constraint_line (map (constraint seed c.args.size) (range_with_len 0 k)) in
    let next : parent_count c.args.size + 2 * (k + 1) ≡ (parent_count c.args.size + 2 * k) + 2 = omega arith in
    let new = one_constraint seed c.args.size k c.constraints.draws.state c.below-feature.result c.below-needed.result before.0 c.below-feature.ensures.drawn (c.below-needed.ensures.drawn ∙ ap (λ s. drawn_at (next_state s) (c.args.size + 1)) c.below-feature.ensures.state) in (
      c.below-needed.ensures.state ∙ ap next_state c.below-feature.ensures.state ∙ ap (λ s. next_state (next_state s)) before.0
          ∙ sym (state_after-two seed (parent_count c.args.size + 2 * k)) ∙ ap (state_after seed) (sym next),
      c.in_ok-push_constraint.ensures ∙ ap (λ (t : List ℕ). t ++ constraint_line (record { feature = c.below-feature.result; needed = c.below-needed.result })) before.1
          ∙ ap (λ (t : List ℕ). (start ++ done) ++ t) new
          ∙ append_assoc start done (constraint_line (constraint seed c.args.size k))
          ∙ ap (λ (t : List ℕ). start ++ t) (sym (lines-push constraint_line (constraint seed c.args.size) k)),
    )

pub returns-clause-text : goal.returns-clause-text
returns-clause-text c = λ seed e.
    let all : c.constraints.counter ≡ constraint_count c.args.size = omega arith in
    let some : 0 < constraint_count c.args.size = omega arith in
    let f : ℕ → Implication = constraint seed c.args.size in
    (c.constraints.invariant seed e).1
    ∙ ap (λ k. (c.args.text.now ++ line 0 (codes "constraints")) ++ flat_map constraint_line (map f (range_with_len 0 k))) all
    ∙ append_assoc c.args.text.now (line 0 (codes "constraints")) (flat_map constraint_line (constraints seed c.args.size))
    ∙ ap (λ (t : List ℕ). c.args.text.now ++ t) (sym (section-some f (constraint_count c.args.size) some))

pub returns-clause-state : goal.returns-clause-state
returns-clause-state c = λ seed e.
    let all : c.constraints.counter ≡ constraint_count c.args.size = omega arith in
    (c.constraints.invariant seed e).0 ∙ ap (λ k. state_after seed (parent_count c.args.size + 2 * k)) all
