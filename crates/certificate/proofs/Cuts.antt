-- Cutting bytes into pieces, and a file into lines.
use Rattle.std.proofs.Common.{◌≡◌, ◌∙◌, refl, sym, ap, subst, ℕ, suc, ◌+◌, ◌-◌, ◌<◌, ◌≤◌, Bool, true, false, not, cond, List, [], ◌∷◌, length, take, drop, length-drop, Some, None, arith}
use Rattle.std.specs.Prelude.{◌==◌, Option, nat_lt, position, unwrap_or}
use Rattle.std.specs.Borrow.{Bor}
use Rattle.std.specs.List.{slice_split, position_or_len, onto_first, join_with_byte}
use Rattle.std.proofs.lemmas.Bool.Decides.{nat_tests}
use Rattle.std.proofs.lemmas.List.{take_all}
use Rattle.std.proofs.lemmas.List.Splits.{slice_split_first, length-slice_split, join_with_byte-slice_split}
use Rattle.std.proofs.lemmas.Option.{none-some, same_Some}
use Rattle.certificate.specs.Words.{lines_of, without_empty_end}
use Rattle.certificate.specs.inside.Pieces.{pieces_of}

module _ (p : ℕ → Bool) where
  place_is : (xs : List ℕ) (b : Bool) (place : ℕ) → nat_lt (position_or_len p xs) (length xs) ≡ b → cond b (Some (position_or_len p xs)) None ≡ Some place → (position_or_len p xs < length xs) × (position_or_len p xs ≡ place)
  place_is xs true place t e = (grind (arith, nat_tests), same_Some (position_or_len p xs) place e)
  place_is xs false place t e = absurd (none-some place e)

  -- up to the first and behind it
  pub split-some : (xs : List ℕ) (place : ℕ) → position p xs ≡ Some place → (place < length xs) × (slice_split p xs ≡ take place xs ∷ slice_split p (drop (place + 1) xs))
  split-some xs place e =
      let is = place_is xs (nat_lt (position_or_len p xs) (length xs)) place refl e in (
        subst (λ k. k < length xs) is.1 is.0,
        subst (λ k. slice_split p xs ≡ take k xs ∷ slice_split p (drop (k + 1) xs)) is.1 (slice_split_first p xs 0 is.0),
      )

  first_fails : (x : ℕ) (xs : List ℕ) (b : Bool) → p x ≡ b → (length xs ≤ position_or_len p xs → slice_split p xs ≡ xs ∷ []) → length (x ∷ xs) ≤ cond (not b) (1 + position_or_len p xs) 0 → cond b ([] ∷ slice_split p xs) (onto_first x (slice_split p xs)) ≡ (x ∷ xs) ∷ []
  first_fails x xs true e others l = absurd (omega arith)
  first_fails x xs false e others l = ap (onto_first x) (others (omega arith))

  all_fail : (xs : List ℕ) → length xs ≤ position_or_len p xs → slice_split p xs ≡ xs ∷ []
  all_fail [] l = refl
  all_fail (x ∷ xs) l = first_fails x xs (p x) refl (all_fail xs) l

  no_place : (xs : List ℕ) (b : Bool) → nat_lt (position_or_len p xs) (length xs) ≡ b → cond b (Some (position_or_len p xs)) None ≡ None → length xs ≤ position_or_len p xs
  no_place xs true t e = absurd (cc)
  no_place xs false t e = grind (arith, nat_tests)

  pub split-none : (xs : List ℕ) → position p xs ≡ None → slice_split p xs ≡ xs ∷ []
  split-none xs e = all_fail xs (no_place xs (nat_lt (position_or_len p xs) (length xs)) refl e)

-- what is left behind a place, as the code has it
pub rest-is : (place : ℕ) (xs : List ℕ) → take (length xs - (place + 1)) (drop (place + 1) xs) ≡ drop (place + 1) xs
rest-is place xs = take_all (length xs - (place + 1)) (drop (place + 1) xs) (let l = length-drop (place + 1) xs in omega arith)

-- ---- lines

joined : (bytes line : List ℕ) → slice_split (λ b. b == 10) bytes ≡ line ∷ [] → bytes ≡ line
joined bytes line e = sym (join_with_byte-slice_split 10 bytes) ∙ ap (join_with_byte 10) e

last_line : (line : List ℕ) → 0 < length line → without_empty_end (line ∷ []) ≡ line ∷ []
last_line [] l = absurd (omega arith)
last_line (b ∷ line) l = refl

no_end : (line part : List ℕ) (parts : List (List ℕ)) → without_empty_end (line ∷ part ∷ parts) ≡ line ∷ without_empty_end (part ∷ parts)
no_end [] part parts = refl
no_end (b ∷ line) part parts = refl

some_parts : (line : List ℕ) (parts : List (List ℕ)) → 0 < length parts → without_empty_end (line ∷ parts) ≡ line ∷ without_empty_end parts
some_parts line [] l = absurd (omega arith)
some_parts line (part ∷ parts) l = no_end line part parts

pub next-line : (bytes line : List ℕ) (behind : Option (List ℕ)) → 0 < length bytes → slice_split (λ b. b == 10) bytes ≡ line ∷ pieces_of 10 behind → lines_of bytes ≡ line ∷ lines_of (unwrap_or behind [])
next-line bytes line None l e = ap without_empty_end e ∙ last_line line (subst (λ (x : List ℕ). 0 < length x) (joined bytes line e) l)
next-line bytes line (Some rest) l e =
    ap without_empty_end e
    ∙ some_parts line (slice_split (λ b. b == 10) rest) (let n = length-slice_split (λ b. b == 10) rest in omega arith)

-- ---- pieces that are left

-- how much is left: a measure
abbrev pub left_of : Option (Bor (List ℕ)) → ℕ
left_of None = 0
left_of (Some bytes) = suc (length bytes.now)
