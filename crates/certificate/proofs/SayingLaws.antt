-- Reading lines of a derivation.
use Rattle.std.proofs.Common.{◌≡◌, ◌∙◌, refl, ap, ℕ, ◌<◌, Bool, true, false, not, List, [], ◌∷◌, ◌++◌, length, Some, None, append-nil, arith}
use Rattle.std.specs.Prelude.{◌==◌, Option, codes, option_map}
use Rattle.std.specs.Borrow.{Bor}
use Rattle.std.specs.List.{slice_split}
use Rattle.std.specs.Option.{is_some}
use Rattle.std.specs.Str.{bytes_eq}
use Rattle.std.proofs.lemmas.List.Splits.{length-slice_split}
use Rattle.clauses.specs.declared.literal.Lit.{Lit}
use Rattle.certificate.specs.Words.{Malformed, clashing, clause_of, literals_of, said_by, saying_of, words_of}
use Rattle.certificate.specs.inside.Pieces.{pieces_of}

-- the bytes behind a borrow
abbrev pub bytes_of : Option (Bor (List ℕ)) → Option (List ℕ)
bytes_of = option_map (λ (x : Bor (List ℕ)). x.now)

some_words : (variables : ℕ) (words : List (List ℕ)) → 0 < length words → clause_of variables words ≡ literals_of variables words
some_words variables [] l = absurd (omega arith)
some_words variables (word ∷ words) l = refl

pub clause-literals : (variables : ℕ) (words : Option (Bor (List ℕ))) → is_some words ≡ true → clause_of variables (pieces_of 32 (bytes_of words)) ≡ literals_of variables (pieces_of 32 (bytes_of words))
clause-literals variables None e = absurd (cc)
clause-literals variables (Some bytes) e = some_words variables (slice_split (λ b. b == 32) bytes.now) (let n = length-slice_split (λ b. b == 32) bytes.now in omega arith)

pub none-left : (variables : ℕ) (clause : List Lit) (rest : Option (Bor (List ℕ))) → ((x : Bor (List ℕ)) → rest ≡ Some x → ⊥) → option_map (λ more. clause ++ more) (literals_of variables (pieces_of 32 (bytes_of rest))) ≡ Some clause
none-left variables clause None e = ap Some (append-nil clause)
none-left variables clause (Some x) e = absurd (e x refl)

some_clashing : (words : List (List ℕ)) → 0 < length words → clashing words ≡ Malformed
some_clashing [] l = absurd (omega arith)
some_clashing (word ∷ words) l = refl

clash_behind : (others : Option (Bor (List ℕ))) → is_some others ≡ true → clashing (pieces_of 32 (bytes_of others)) ≡ Malformed
clash_behind None e = absurd (cc)
clash_behind (Some bytes) e = some_clashing (slice_split (λ b. b == 32) bytes.now) (let n = length-slice_split (λ b. b == 32) bytes.now in omega arith)

not_learn : (variables : ℕ) (start : List ℕ) (others : List (List ℕ)) → bytes_eq start (codes "learn") ≡ false → bytes_eq start (codes "clash") ≡ true → said_by variables (start ∷ others) ≡ clashing others
not_learn variables start others e f = rw (e, f, said_by) refl

pub clash-malformed : (variables : ℕ) (line start : List ℕ) (others : Option (Bor (List ℕ))) → words_of line ≡ start ∷ pieces_of 32 (bytes_of others) → bytes_eq start (codes "learn") ≡ false → bytes_eq start (codes "clash") ≡ true
    → is_some others ≡ true → saying_of variables line ≡ Malformed
clash-malformed variables line start others e f g h = ap (said_by variables) e ∙ not_learn variables start (pieces_of 32 (bytes_of others)) f g ∙ clash_behind others h

pub some-from : (b r : Bool) → b ≡ not r → r ≡ false → b ≡ true
some-from b true e f = absurd (cc)
some-from b false e f = e
