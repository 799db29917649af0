-- The reading of bytes that are text, and of others.
use Rattle.std.proofs.Common.{◌≡◌, ℕ, ◌+◌, ◌==◌, List, [], take, Err, refl, inl, inr}
use Rattle.std.specs.Prelude.{count_by}
use Rattle.std.specs.Str.{chars, is_utf8, IsUtf8}
use Rattle.std.specs.Str.Lossy.{utf8_valid_len}
use Rattle.std.proofs.lemmas.Bool.{cases_Bool}
use Rattle.std.proofs.lemmas.Str.{IsUtf8-from_is_utf8, is_utf8-from_IsUtf8}
use Rattle.uvl_lex.specs.declared.cursor.Cursor.{Cursor}
use Rattle.uvl_lex.specs.declared.error.LexError.TheVariants.{Refused}
use Rattle.uvl_lex.specs.declared.error.LexReason.TheVariants.{NotUtf8}
use Rattle.uvl_lex.specs.inside.Cursors.{left}
use Rattle.uvl_lex.specs.Pieces.{pieces_from}
use Rattle.uvl_lex.specs.Places.{unmarked, beginning}
use Rattle.uvl_lex.specs.Reading.{reading, run_of, on_ok, all_lines}

pub reading_text : (bytes text : List ℕ) (k : Cursor) → text ≡ bytes → IsUtf8 bytes → left k ≡ unmarked (chars text) → k.place ≡ beginning (chars text)
    → reading bytes ≡ on_ok all_lines (run_of [] (pieces_from k.place (left k)))
unfolding reading
reading_text bytes text k e u l p =
    let yes = is_utf8-from_IsUtf8 bytes u in
    rw (yes, l, p, e) refl

pub reading_wrong : (bytes : List ℕ) (valid feeds : ℕ) → (IsUtf8 bytes → ⊥) → valid ≡ utf8_valid_len bytes
    → feeds ≡ count_by (λ b. b == 10) (take valid bytes) → reading bytes ≡ Err (Refused (1 + feeds) NotUtf8)
unfolding reading
reading_wrong bytes valid feeds n v f =
    elim (cases_Bool (is_utf8 bytes)) [
      | inl y ↦ absurd (n (IsUtf8-from_is_utf8 bytes y))
      | inr wrong ↦ rw (wrong, f, v) refl
    ]
