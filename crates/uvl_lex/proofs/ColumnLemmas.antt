-- Runs of characters that take one byte and one column each.
use Rattle.std.proofs.Common.{◌≡◌, ℕ, ◌+◌, ◌<◌, ◌≤◌, ◌==◌, nat_le, nat_lt, true, false, ◌&&◌, List, [], ◌∷◌, ◌++◌, length, take, drop, refl, sym, ◌∙◌, ap, subst, inl, inr, arith}
use Rattle.std.specs.Char.{encode_utf8, len_utf8}
use Rattle.std.specs.List.{prefix_len}
use Rattle.std.specs.Str.{chars, IsUtf8}
use Rattle.std.proofs.lemmas.Bool.{cases_Bool, and_parts, leb-true, ltb-true, ne_eqb}
use Rattle.std.proofs.lemmas.List.{drop_at, take_at, length-take}
use Rattle.std.proofs.lemmas.List.Sums.{prefix_len-le-length}
use Rattle.std.proofs.lemmas.Str.{IsUtf8-past_char, chars_past_char, len_utf8_ascii}
use Rattle.std.proofs.lemmas.Str.Ascii.{encode_ascii}
use Rattle.uvl_lex.specs.declared.class.Class.{Class}
use Rattle.uvl_lex.specs.declared.cursor.Cursor.{Cursor}
use Rattle.uvl_lex.specs.declared.place.Place.{Place}
use Rattle.uvl_lex.specs.inside.Classes.{in_class, is_column}
use Rattle.uvl_lex.specs.inside.Cursors.{GoesOn}
use Rattle.uvl_lex.specs.Places.{after, along, tab, line_feed, carriage_return}
use Rattle.uvl_lex.proofs.ScanLemmas.{front_some, after_front}

-- the place so many columns further
abbrev pub further : Place → ℕ → Place
further p n = record { offset = p.offset + n; line = p.line; column = p.column + n }

further_more : (p : Place) (m n : ℕ) → m ≡ n + 1 → further (further p 1) n ≡ further p m
further_more p m n e =
    let offset : p.offset + 1 + n ≡ p.offset + m = omega arith in
    let column : p.column + 1 + n ≡ p.column + m = omega arith in
    rw (offset, column) refl

further_none : (p : Place) → further p 0 ≡ p
further_none p =
    let offset : p.offset + 0 ≡ p.offset = omega arith in
    let column : p.column + 0 ≡ p.column = omega arith in
    rw (offset, column) refl

module _ (class : Class) where
  column_range : (c : ℕ) → is_column class c ≡ true → (32 ≤ c) × (c < 127) × (in_class class c ≡ true)
  column_range c h =
      let both = and_parts (nat_le 32 c && nat_lt c 127) (in_class class c) h in
      let ends = and_parts (nat_le 32 c) (nat_lt c 127) both.0 in
      (leb-true 32 c ends.0, ltb-true c 127 ends.1, both.1)

  one_byte : (c : ℕ) (bytes : List ℕ) → is_column class c ≡ true → c ∷ bytes ≡ encode_utf8 c ++ bytes
  one_byte c bytes h =
      let range = column_range c h in
      let low = range.1 in
      ap (λ (front : List ℕ). front ++ bytes) (sym (encode_ascii c (omega arith)))

  after_column : (p : Place) (c : ℕ) → is_column class c ≡ true → after p c ≡ further p 1
  after_column p c h =
      let range = column_range c h in
      let least = range.0 in
      let most = range.1 in
      let width : len_utf8 c ≡ 1 = len_utf8_ascii c (omega arith) in
      let no_feed : (c == line_feed) ≡ false = ne_eqb c line_feed (λ e. omega arith) in
      let no_tab : (c == tab) ≡ false = ne_eqb c tab (λ e. omega arith) in
      let no_return : (c == carriage_return) ≡ false = ne_eqb c carriage_return (λ e. omega arith) in
      rw (width, no_feed, no_tab, no_return) refl

  abbrev run : List ℕ → ℕ
  run bytes = prefix_len (is_column class) bytes

  run_some : (c : ℕ) (bytes : List ℕ) → is_column class c ≡ true → run (c ∷ bytes) ≡ run bytes + 1
  run_some c bytes h = rw h (omega arith)

  run_none : (c : ℕ) (bytes : List ℕ) → is_column class c ≡ false → run (c ∷ bytes) ≡ 0
  run_none c bytes h = rw h refl

  pub utf8_after : (bytes : List ℕ) → IsUtf8 bytes → IsUtf8 (drop (run bytes) bytes)
  utf8_after [] u = u
  utf8_after (c ∷ bytes) u = elim (cases_Bool (is_column class c)) [
    | inl y ↦
        subst IsUtf8 (sym (after_front (is_column class) c bytes y)) (utf8_after bytes (IsUtf8-past_char (c ∷ bytes) bytes c u (one_byte c bytes y)))
    | inr n ↦ rw (run_none c bytes n) u
  ]

  pub chars_split : (bytes : List ℕ) → IsUtf8 bytes → chars bytes ≡ take (run bytes) bytes ++ chars (drop (run bytes) bytes)
  chars_split [] u = refl
  chars_split (c ∷ bytes) u = elim (cases_Bool (is_column class c)) [
    | inl y ↦
        let first : chars (c ∷ bytes) ≡ c ∷ chars bytes = chars_past_char (c ∷ bytes) bytes c u (one_byte c bytes y) in
        let rest = chars_split bytes (IsUtf8-past_char (c ∷ bytes) bytes c u (one_byte c bytes y)) in
        rw (front_some (is_column class) c bytes y, after_front (is_column class) c bytes y) (first ∙ ap (λ (cs : List ℕ). c ∷ cs) rest)
    | inr n ↦ rw (run_none c bytes n) refl
  ]

  pub run_passed : (bytes : List ℕ) → IsUtf8 bytes
      → run bytes + prefix_len (in_class class) (chars (drop (run bytes) bytes)) ≡ prefix_len (in_class class) (chars bytes)
  run_passed [] u = omega arith
  run_passed (c ∷ bytes) u = elim (cases_Bool (is_column class c)) [
    | inl y ↦
        let first : chars (c ∷ bytes) ≡ c ∷ chars bytes = chars_past_char (c ∷ bytes) bytes c u (one_byte c bytes y) in
        let rest = run_passed bytes (IsUtf8-past_char (c ∷ bytes) bytes c u (one_byte c bytes y)) in
        let inside : prefix_len (in_class class) (c ∷ chars bytes) ≡ 1 + prefix_len (in_class class) (chars bytes) = rw ((column_range c y).2) refl in
        rw (first, after_front (is_column class) c bytes y) (omega (arith, run_some c bytes y, inside))
    | inr n ↦ rw (run_none c bytes n) (omega arith)
  ]

  along_run : (p : Place) (bytes : List ℕ) → along p (take (run bytes) bytes) ≡ further p (run bytes)
  along_run p [] = sym (further_none p)
  along_run p (c ∷ bytes) = elim (cases_Bool (is_column class c)) [
    | inl y ↦
        rw (front_some (is_column class) c bytes y)
        (along_run (after p c) bytes ∙ ap (λ (q : Place). further q (run bytes)) (after_column p c y) ∙ further_more p (run (c ∷ bytes)) (run bytes) (run_some c bytes y))
    | inr n ↦ rw (run_none c bytes n) (sym (further_none p))
  ]

  length-run : (bytes : List ℕ) → length (take (run bytes) bytes) ≡ run bytes
  length-run bytes = omega (arith, length-take (run bytes) bytes, prefix_len-le-length (is_column class) bytes)

  goes_exactly : (k now : Cursor) → IsUtf8 k.rest.now → now.rest.now ≡ drop (run k.rest.now) k.rest.now → now.place ≡ further k.place (run k.rest.now)
      → GoesOn k (run k.rest.now) now
  goes_exactly k now u rest place =
      let bytes = k.rest.now in
      let split = chars_split bytes u in
      let front = take (run bytes) bytes in
      let back = chars (drop (run bytes) bytes) in
      record {
        rest = ap chars rest ∙ sym (ap (drop (run bytes)) split ∙ drop_at front back (run bytes) (length-run bytes));
        place = place ∙ sym (along_run k.place bytes) ∙ ap (along k.place) (sym (ap (take (run bytes)) split ∙ take_at front back (run bytes) (length-run bytes)));
      }

  -- a cursor that has gone over a run
  pub goes_over_run : (k now : Cursor) (n : ℕ) → n ≡ run k.rest.now → IsUtf8 k.rest.now → now.rest.now ≡ drop n k.rest.now → now.place ≡ further k.place n → GoesOn k n now
  goes_over_run k now n e u rest place =
      subst (λ (m : ℕ). GoesOn k m now) (sym e)
      (goes_exactly k now u (rest ∙ ap (λ (m : ℕ). drop m k.rest.now) e) (place ∙ ap (λ (m : ℕ). further k.place m) e))

  pub passed_by_run : (bytes rest : List ℕ) (n : ℕ) → n ≡ run bytes → IsUtf8 bytes → rest ≡ drop n bytes
      → n + prefix_len (in_class class) (chars rest) ≡ prefix_len (in_class class) (chars bytes)
  passed_by_run bytes rest n e u same = rw (same, e) (run_passed bytes u)

  pub utf8_from : (bytes : List ℕ) (n : ℕ) → n ≡ run bytes → IsUtf8 bytes → IsUtf8 (drop n bytes)
  utf8_from bytes n e u = rw e (utf8_after bytes u)
