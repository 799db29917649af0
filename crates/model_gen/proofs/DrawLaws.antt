-- The draws, one after the other.
use Rattle.std.proofs.Common.{◌≡◌, ◌∙◌, ap, ℕ, ◌+◌, List, [], ◌∷◌, ◌++◌, map, arith, add-one}
use Rattle.std.specs.List.{range_with_len, flat_map}
use Rattle.std.proofs.lemmas.List.FromFn.{map-range_with_len_more}
use Rattle.std.proofs.lemmas.List.Concat.{flat_map-append}
use Rattle.std.proofs.lemmas.List.{append-nil}
use Rattle.model_gen.specs.Draws.{next_state, state_after}

-- one more draw
pub state_after-push : (seed count : ℕ) → state_after seed (count + 1) ≡ next_state (state_after seed count)
state_after-push seed count = ap (state_after seed) (add-one count)

pub state_after-two : (seed count : ℕ) → state_after seed (count + 2) ≡ next_state (next_state (state_after seed count))
state_after-two seed count =
    let two : count + 2 ≡ (count + 1) + 1 = omega arith in
    ap (state_after seed) two ∙ state_after-push seed (count + 1) ∙ ap next_state (state_after-push seed count)

-- a list that a function of the number makes, with one item more
pub made-push : {X : Type 0} (f : ℕ → X) (count : ℕ) → map f (range_with_len 0 (count + 1)) ≡ map f (range_with_len 0 count) ++ f count ∷ []
made-push f count = map-range_with_len_more f 0 count count (omega arith)

-- and the lines of such a list
pub lines-push : {X : Type 0} (line : X → List ℕ) (f : ℕ → X) (count : ℕ) → flat_map line (map f (range_with_len 0 (count + 1))) ≡ flat_map line (map f (range_with_len 0 count)) ++ line (f count)
lines-push line f count =
    ap (flat_map line) (made-push f count)
    ∙ flat_map-append line (map f (range_with_len 0 count)) (f count ∷ [])
    ∙ ap (λ t. flat_map line (map f (range_with_len 0 count)) ++ t) (append-nil (line (f count)))
