-- Keywords and marks: the code's order beside the tables.
use Rattle.std.proofs.Common.{◌≡◌, refl, ap, inl, inr, ℕ, ◌+◌, ◌<◌, true, false, List, [], ◌∷◌, length, get_or, drop, cond, Some, add-one}
use Rattle.std.specs.Prelude.{filter}
use Rattle.std.proofs.Math.Seq.{drop-cons}
use Rattle.std.proofs.lemmas.Bool.{cases_Bool, eq-eqb}
use Rattle.std.proofs.lemmas.Slice.Eq.{bytes_eq-Decides}
use Rattle.std.specs.Str.{bytes_eq}
use Rattle.uvl_lex.specs.declared.token.Keyword.{Keyword}
use Rattle.uvl_lex.specs.inside.Classes.{has_len}
use Rattle.uvl_lex.specs.Words.{spelled, spelling}

-- a word that is not the text is passed
pub spelled_past : (text : List ℕ) (words : List Keyword) (i : ℕ) (d : Keyword) → i < length words
    → bytes_eq (spelling (get_or words i d)) text ≡ false → spelled text (drop i words) ≡ spelled text (drop (i + 1) words)
spelled_past text words i d h e = rw (drop-cons words i d, e, add-one)

-- a word of another length is not the text
other_len : (text : List ℕ) (word : Keyword) → has_len (length text) word ≡ false → bytes_eq (spelling word) text ≡ false
other_len text word other = elim (cases_Bool (bytes_eq (spelling word) text)) [
  | inl y ↦
      let same : spelling word ≡ text = (bytes_eq-Decides (spelling word) text).0 y in
      let len : has_len (length text) word ≡ true = eq-eqb (length (spelling word)) (length text) (ap length same) in
      absurd (cc)
  | inr n ↦ n
]

-- the words of other lengths can be left out
pub spelled_of_len : (text : List ℕ) (words : List Keyword) → spelled text words ≡ spelled text (filter (has_len (length text)) words)
spelled_of_len text [] = refl
spelled_of_len text (word ∷ words) =
    elim (cases_Bool (has_len (length text) word)) [
      | inl y ↦ rw y (ap (λ rest. cond (bytes_eq (spelling word) text) (Some word) rest) (spelled_of_len text words))
      | inr n ↦ rw (n, other_len text word n) (spelled_of_len text words)
    ]
