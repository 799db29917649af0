-- What a key feeds a hasher, word by word.
use Rattle.std.proofs.Common.{◌≡◌, ℕ, ◌+◌, List, [], ◌∷◌, ◌++◌, map, sym, ◌∙◌, ap, append_assoc, zero-add}
use Rattle.std.specs.Prelude.{fold, flat_map}
use Rattle.std.specs.Hash as fed
use Rattle.std.specs.List.{range_with_len}
use Rattle.std.proofs.lemmas.List.{append-nil}
use Rattle.std.proofs.lemmas.List.Sums.{fold-append}
use Rattle.std.proofs.lemmas.List.Concat.{flat_map-append}
use Rattle.std.proofs.lemmas.List.FromFn.{map-range_with_len_more}
use Rattle.req_keys.specs.Key.{PositionSet}
use Rattle.req_keys.specs.Words.{word_of}

-- n and the first j words
abbrev pub fed_below : PositionSet → ℕ → List (List ℕ)
fed_below key j = fed.u32 key.n ++ flat_map fed.u64 (map (word_of key) (range_with_len 0 j))

fed_below-push : (key : PositionSet) (j : ℕ) → fed_below key (j + 1) ≡ fed_below key j ++ fed.u64 (word_of key j)
fed_below-push key j =
    let word : List ℕ = word_of key j ∷ [] in
    ap (λ t. fed.u32 key.n ++ flat_map fed.u64 t) (map-range_with_len_more (word_of key) 0 j j (zero-add j))
    ∙ ap (λ t. fed.u32 key.n ++ t) (flat_map-append fed.u64 (map (word_of key) (range_with_len 0 j)) word)
    ∙ sym (append_assoc (fed.u32 key.n) (flat_map fed.u64 (map (word_of key) (range_with_len 0 j))) (flat_map fed.u64 word))
    ∙ ap (λ t. fed_below key j ++ t) (append-nil (fed.u64 (word_of key j)))

pub fold-fed_below_push : {S : Type 0} (write : S → List ℕ → S) (start before after : S) (key : PositionSet) (j : ℕ) → before ≡ fold write start (fed_below key j) → after ≡ fold write before (fed.u64 (word_of key j)) → after ≡ fold write start (fed_below key (j + 1))
fold-fed_below_push write start before after key j e f =
    f ∙ ap (λ s. fold write s (fed.u64 (word_of key j))) e
    ∙ sym (fold-append write start (fed_below key j) (fed.u64 (word_of key j)))
    ∙ sym (ap (fold write start) (fed_below-push key j))
