-- Pieces of text for the positions that pass a test, one after the other.
use Rattle.std.proofs.Common.{◌≡◌, ℕ, ◌+◌, ◌-◌, Bool, true, false, cond, List, [], ◌∷◌, ◌++◌, sym, ◌∙◌, ap, append_assoc, arith}
use Rattle.std.specs.List.{range_with_len, filter, flat_map}
use Rattle.std.proofs.lemmas.Grind.{flat_map-append}
use Rattle.std.proofs.lemmas.List.{append-nil}
use Rattle.feature_tree.specs.Truth.{is_in}
use Rattle.req_keys.proofs.PositionsLaws.{filter-range_push}

-- those of the first m numbers that pass
abbrev pub passing : (ℕ → Bool) → ℕ → List ℕ
passing test m = filter test (range_with_len 1 m)

-- one number more
pub passing-push : (test : ℕ → Bool) (m : ℕ) (passes : Bool) → test (m + 1) ≡ passes → passing test (m + 1) ≡ passing test m ++ cond passes ((m + 1) ∷ []) []
passing-push test m passes e =
    let next : 1 + m ≡ m + 1 = omega arith in
    filter-range_push test 1 m ∙ ap (λ k. passing test m ++ cond (test k) (k ∷ []) []) next ∙ ap (λ b. passing test m ++ cond b ((m + 1) ∷ []) []) e

-- the features of a set, up to one more
pub features-push : (set : List Bool) (m : ℕ) (taken : Bool) → is_in set m ≡ taken
    → passing (λ number. is_in set (number - 1)) (m + 1) ≡ passing (λ number. is_in set (number - 1)) m ++ cond taken ((m + 1) ∷ []) []
features-push set m taken e =
    let same : m + 1 - 1 ≡ m = omega arith in
    passing-push (λ number. is_in set (number - 1)) m taken (ap (is_in set) same ∙ e)

module _ {S : Type 0} (piece : S → ℕ → List ℕ) (test : ℕ → Bool) (m : ℕ) (first now : S) (start before : List ℕ) where
  -- one position more passes
  pub pieces-more : now ≡ first → test (m + 1) ≡ true → before ≡ start ++ flat_map (piece first) (passing test m)
      → (after : List ℕ) → after ≡ before ++ piece now (m + 1) → after ≡ start ++ flat_map (piece first) (passing test (m + 1))
  pieces-more same passes so_far after put =
      put ∙ ap (λ s. before ++ piece s (m + 1)) same ∙ ap (λ t. t ++ piece first (m + 1)) so_far
      ∙ append_assoc start (flat_map (piece first) (passing test m)) (piece first (m + 1))
      ∙ sym (ap (λ t. start ++ t)
      (ap (flat_map (piece first)) (passing-push test m true passes)
      ∙ flat_map-append (piece first) (passing test m) ((m + 1) ∷ [])
      ∙ ap (λ t. flat_map (piece first) (passing test m) ++ t) (append-nil (piece first (m + 1)))))

  -- one position more doesn't pass
  pub pieces-same : test (m + 1) ≡ false → before ≡ start ++ flat_map (piece first) (passing test m)
      → before ≡ start ++ flat_map (piece first) (passing test (m + 1))
  pieces-same passes so_far =
      so_far ∙ sym (ap (λ t. start ++ flat_map (piece first) t) (passing-push test m false passes ∙ append-nil (passing test m)))
