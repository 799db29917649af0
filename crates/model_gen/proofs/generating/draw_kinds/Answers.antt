use Rattle.std.proofs.Common.{◌≡◌, ◌∙◌, ◌+◌, ◌/◌, ◌++◌, ◌∷◌, [], ℕ, map, sym, ap, arith}
use Rattle.std.specs.List.{range_with_len}
use Rattle.feature_tree.specs.declared.group.GroupKind.{GroupKind}
use Rattle.model_gen.specs.Draws.{next_state, state_after, drawn, drawn_at}
use Rattle.model_gen.specs.Lines.{kind_by}
use Rattle.model_gen.proofs.DrawLaws.{state_after-push, made-push}
use Rattle.model_gen.proofs.generating.draw_kinds.Goals as goal

pub parents-preserved : goal.parents-preserved
parents-preserved c =
    let seed : ℕ = c.args.draws.now.state in
    let k : ℕ = c.parents.counter in
    let kind : ℕ → GroupKind = λ parent. kind_by (drawn seed parent 4) in
    let new : c.kind_by_number.result ≡ kind k =
    c.kind_by_number.ensures ∙ ap kind_by (c.below.ensures.drawn ∙ ap (λ s. drawn_at (next_state s) 4) c.parents.invariant.0) in (
      c.below.ensures.state ∙ ap next_state c.parents.invariant.0 ∙ sym (state_after-push seed k),
      c.in_ok-push.ensures.ok ∙ ap (λ t. t ++ c.kind_by_number.result ∷ []) c.parents.invariant.1
          ∙ ap (λ x. map kind (range_with_len 0 k) ++ x ∷ []) new ∙ sym (made-push kind k),
    )

pub returns-clause-kinds : goal.returns-clause-kinds
returns-clause-kinds c =
    let all : c.parents.counter ≡ (c.args.size + 3) / 4 = omega arith in
    c.parents.invariant.1 ∙ ap (λ k. map (λ parent. kind_by (drawn c.args.draws.now.state parent 4)) (range_with_len 0 k)) all

pub returns-clause-state : goal.returns-clause-state
returns-clause-state c =
    let all : c.parents.counter ≡ (c.args.size + 3) / 4 = omega arith in
    c.parents.invariant.0 ∙ ap (state_after c.args.draws.now.state) all
