-- How cursors go on over characters.
use Rattle.std.proofs.Common.{◌≡◌, ℕ, ◌+◌, ◌-◌, ◌*◌, ◌≤◌, ◌==◌, Bool, true, false, List, [], ◌∷◌, ◌++◌, length, take, drop, refl, sym, ◌∙◌, ap, subst, inl, inr, length-append, arith}
use Rattle.std.specs.Char.{encode_utf8, len_utf8}
use Rattle.std.specs.List.{prefix_len}
use Rattle.std.specs.Str.{chars, is_utf8, encode_utf8_all}
use Rattle.std.proofs.Math.Seq.{take-add}
use Rattle.std.proofs.lemmas.Bool.{cases_Bool}
use Rattle.std.proofs.lemmas.List.{drop-drop, take-append-drop, take_at}
use Rattle.std.proofs.lemmas.Str.{IsUtf8-from_is_utf8, chars_past_char, length-encode, len_utf8_bounds, chars-nil, encodes-chars, encodes-append, length-le-encodes}
use Rattle.uvl_lex.specs.declared.cursor.Cursor.{Cursor}
use Rattle.uvl_lex.specs.declared.place.Place.{Place}
use Rattle.uvl_lex.specs.inside.Cursors.{left, StepsOver, GoesOn}
use Rattle.uvl_lex.specs.Places.{after, along, tab, line_feed, carriage_return}

-- PLACES

pub along-append : (p : Place) (xs ys : List ℕ) → along p (xs ++ ys) ≡ along (along p xs) ys
along-append p [] ys = refl
along-append p (x ∷ xs) ys = along-append (after p x) xs ys

pub fits_offset : (p : Place) (c n m : ℕ) → p.offset + n ≤ 16777216 → n ≡ len_utf8 c + m → (after p c).offset + m ≤ 16777216
fits_offset p c n m h e = omega arith

pub fits_line : (p : Place) (c : ℕ) → p.line ≤ p.offset + 1 → (after p c).line ≤ (after p c).offset + 1
fits_line p c h =
    let w = len_utf8_bounds c in
    elim (cases_Bool (c == line_feed)) [ inl y ↦ rw y (omega arith) | inr n ↦ rw n (omega arith) ]

pub fits_column : (p : Place) (c : ℕ) → p.column ≤ 8 * p.offset → (after p c).column ≤ 8 * (after p c).offset
fits_column p c h =
    let w = len_utf8_bounds c in
    elim (cases_Bool (c == line_feed)) [
      | inl y ↦ rw y (omega arith)
      | inr n ↦ elim (cases_Bool (c == tab)) [
        | inl t ↦ rw (n, t) (omega arith)
        | inr o ↦ elim (cases_Bool (c == carriage_return)) [ inl r ↦ rw (n, o, r) (omega arith) | inr k ↦ rw (n, o, k) (omega arith) ]
      ]
    ]

-- THE NEXT CHARACTER

pub length_past : (bs rest : List ℕ) (c : ℕ) → bs ≡ encode_utf8 c ++ rest → length bs ≡ len_utf8 c + length rest
length_past bs rest c e = omega (arith, ap length e, simp length-append at (ap length e), length-encode c)

pub chars_some : (bs rest : List ℕ) (c : ℕ) → is_utf8 bs ≡ true → bs ≡ encode_utf8 c ++ rest → chars bs ≡ c ∷ chars rest
chars_some bs rest c u e = chars_past_char bs rest c (IsUtf8-from_is_utf8 bs u) e

pub chars_none : (bs : List ℕ) → length bs ≡ 0 → chars bs ≡ []
chars_none [] e = chars-nil
chars_none (b ∷ bs) e = absurd (omega arith)

pub no_bytes : (bs : List ℕ) → is_utf8 bs ≡ true → chars bs ≡ [] → length bs ≡ 0
no_bytes bs u e =
    let back = encodes-chars bs (IsUtf8-from_is_utf8 bs u) in
    let none : encode_utf8_all (chars bs) ≡ [] = rw e refl in
    ap length (sym back ∙ none)

-- no more characters are left than a text may have bytes
pub left_bound : (k : Cursor) → length (left k) ≤ 16777216
left_bound k =
    let fits = k.fits in
    omega (arith, length-le-encodes (chars k.rest.now), ap length (encodes-chars k.rest.now (IsUtf8-from_is_utf8 k.rest.now k.text)))

-- GOING ON

pub goes_none : (k : Cursor) → GoesOn k 0 k
goes_none k = record { rest = refl; place = refl }

pub goes_one : {a b : Cursor} {c : ℕ} → StepsOver a c b → GoesOn a 1 b
goes_one {a} {b} {c} s = record { rest = rw s.rest refl; place = rw s.rest s.place }

-- at the end of the text nothing is passed
pub goes_at_end : (k : Cursor) → left k ≡ [] → GoesOn k 1 k
goes_at_end k e = record { rest = rw e refl; place = rw e refl }

pub goes_then : {a b c : Cursor} {m n : ℕ} → GoesOn a m b → GoesOn b n c → GoesOn a (m + n) c
goes_then {a} {b} {c} {m} {n} s t = record {
  rest = rw (t.rest, s.rest, drop-drop n m (left a));
  place = rw (t.place, s.place, s.rest, take-add m n (left a), along-append a.place (take m (left a)) (take n (drop m (left a))));
}

-- a character of the class, and then one that is not
pub prefix_len-some : (p : ℕ → Bool) (xs ys : List ℕ) (c : ℕ) → xs ≡ c ∷ ys → p c ≡ true → prefix_len p xs ≡ 1 + prefix_len p ys
prefix_len-some p xs ys c e h = rw (e, h) refl

pub prefix_len-other : (p : ℕ → Bool) (xs ys : List ℕ) (c : ℕ) → xs ≡ c ∷ ys → p c ≡ false → prefix_len p xs ≡ 0
prefix_len-other p xs ys c e h = rw (e, h) refl

pub prefix_len-none : (p : ℕ → Bool) (xs : List ℕ) → xs ≡ [] → prefix_len p xs ≡ 0
prefix_len-none p xs e = rw e refl

pub goes_so : {a b : Cursor} {m : ℕ} → GoesOn a m b → (n : ℕ) → m ≡ n → GoesOn a n b
goes_so {a} {b} {m} g n e = subst (λ (x : ℕ). GoesOn a x b) e g

-- the bytes of a cursor: those of the characters that are passed, and those that a later cursor has
pub bytes_split : {k later : Cursor} {n : ℕ} → GoesOn k n later → k.rest.now ≡ encode_utf8_all (take n (left k)) ++ later.rest.now
bytes_split {k} {later} {n} g =
    let whole = encodes-chars k.rest.now (IsUtf8-from_is_utf8 k.rest.now k.text) in
    let rest = encodes-chars later.rest.now (IsUtf8-from_is_utf8 later.rest.now later.text) in
    let cut : encode_utf8_all (take n (left k) ++ drop n (left k)) ≡ encode_utf8_all (take n (left k)) ++ encode_utf8_all (drop n (left k))
    = encodes-append (take n (left k)) (drop n (left k)) in
    let same : encode_utf8_all (drop n (left k)) ≡ later.rest.now = ap encode_utf8_all (sym g.rest) ∙ rest in
    sym whole ∙ (ap encode_utf8_all (sym (take-append-drop n (left k))) ∙ (cut ∙ ap (λ (bs : List ℕ). encode_utf8_all (take n (left k)) ++ bs) same))

pub bytes_fewer : {k later : Cursor} {n : ℕ} → GoesOn k n later → length later.rest.now ≤ length k.rest.now
bytes_fewer {k} {later} {n} g =
    omega (arith, simp length-append at (ap length (bytes_split g)))

pub bytes_passed : {k later : Cursor} {n : ℕ} → GoesOn k n later
    → take (length k.rest.now - length later.rest.now) k.rest.now ≡ encode_utf8_all (take n (left k))
bytes_passed {k} {later} {n} g =
    let front = encode_utf8_all (take n (left k)) in
    let e : k.rest.now ≡ front ++ later.rest.now = bytes_split g in
    let size : length k.rest.now ≡ length front + length later.rest.now = simp length-append at (ap length e) in
    let count : length front ≡ length k.rest.now - length later.rest.now = omega arith in
    ap (take (length k.rest.now - length later.rest.now)) e ∙ take_at front later.rest.now (length k.rest.now - length later.rest.now) count
