-- The first line of a text, and what is left behind it.
use Rattle.std.proofs.Common.{◌≡◌, ℕ, suc, ◌+◌, ◌<◌, ◌≤◌, Bool, true, false, cond, eqb, ltb, append_assoc, List, [], ◌∷◌, ◌++◌, length, take, drop, Some, None, arith, refl, sym, ap, subst, ◌∙◌}
use Rattle.std.proofs.lemmas.List.{take_all, drop_all}
use Rattle.std.proofs.lemmas.List.Sums.{prefix_len-le-length}
use Rattle.std.proofs.lemmas.Bool.Decides.{nat_tests}
use Rattle.std.proofs.lemmas.Option.{same_Some}
use Rattle.std.specs.Prelude.{Option, MatchOption, not}
use Rattle.std.specs.List.{position_or_len, flat_map}
use Rattle.diag_top.specs.Unindented.{onto, lines_of, is_indented, unindented}

abbrev pub ends : ℕ → Bool
ends byte = eqb byte 10

place_first : (byte : ℕ) (text : List ℕ) → eqb byte 10 ≡ true → position_or_len ends (byte ∷ text) ≡ 0
place_first byte text is = rw is refl

place_later : (byte : ℕ) (text : List ℕ) → eqb byte 10 ≡ false → position_or_len ends (byte ∷ text) ≡ suc (position_or_len ends text)
place_later byte text is = let later : position_or_len ends (byte ∷ text) ≡ 1 + position_or_len ends text = rw is refl in omega arith

cut_first_of : (byte : ℕ) (text : List ℕ) → eqb byte 10 ≡ true → lines_of (byte ∷ text) ≡ take 1 (byte ∷ text) ∷ lines_of (drop 1 (byte ∷ text))
cut_first_of byte text is = rw is refl

cut_later : (byte : ℕ) (text : List ℕ) (n : ℕ) → eqb byte 10 ≡ false → lines_of text ≡ take n text ∷ lines_of (drop n text) → lines_of (byte ∷ text) ≡ take (suc n) (byte ∷ text) ∷ lines_of (drop (suc n) (byte ∷ text))
cut_later byte text n is later = rw is (ap (onto byte) later)

one_more : (byte : ℕ) (text : List ℕ) (is : Bool) → eqb byte 10 ≡ is → lines_of text ≡ take (suc (position_or_len ends text)) text ∷ lines_of (drop (suc (position_or_len ends text)) text)
    → lines_of (byte ∷ text) ≡ take (suc (position_or_len ends (byte ∷ text))) (byte ∷ text) ∷ lines_of (drop (suc (position_or_len ends (byte ∷ text))) (byte ∷ text))
one_more byte text true is later =
    subst (λ (n : ℕ). lines_of (byte ∷ text) ≡ take (suc n) (byte ∷ text) ∷ lines_of (drop (suc n) (byte ∷ text))) (sym (place_first byte text is)) (cut_first_of byte text is)
one_more byte text false is later =
    subst (λ (n : ℕ). lines_of (byte ∷ text) ≡ take (suc n) (byte ∷ text) ∷ lines_of (drop (suc n) (byte ∷ text))) (sym (place_later byte text is))
    (cut_later byte text (suc (position_or_len ends text)) is later)

alone : (byte : ℕ) (is : Bool) → eqb byte 10 ≡ is
    → lines_of (byte ∷ []) ≡ take (suc (position_or_len ends (byte ∷ []))) (byte ∷ []) ∷ lines_of (drop (suc (position_or_len ends (byte ∷ []))) (byte ∷ []))
alone byte true is = rw is refl
alone byte false is = rw is refl

-- up to the first line feed
pub cut_first : (text : List ℕ) → 0 < length text → lines_of text ≡ take (suc (position_or_len ends text)) text ∷ lines_of (drop (suc (position_or_len ends text)) text)
cut_first [] some = absurd (omega arith)
cut_first (byte ∷ []) some = alone byte (eqb byte 10) refl
cut_first (byte ∷ next ∷ text) some = one_more byte (next ∷ text) (eqb byte 10) refl (cut_first (next ∷ text) (omega arith))

-- where there is a first line feed, and where there is none
pub cut_at : (text : List ℕ) (place : ℕ) → 0 < length text → position_or_len ends text ≡ place → lines_of text ≡ take (place + 1) text ∷ lines_of (drop (place + 1) text)
cut_at text place some is =
    let more : suc place ≡ place + 1 = omega arith in
    subst (λ (n : ℕ). lines_of text ≡ take n text ∷ lines_of (drop n text)) more
    (subst (λ (n : ℕ). lines_of text ≡ take (suc n) text ∷ lines_of (drop (suc n) text)) is (cut_first text some))

pub cut_whole : (text : List ℕ) → 0 < length text → position_or_len ends text ≡ length text → lines_of text ≡ take (length text) text ∷ lines_of (drop (length text) text)
cut_whole text some is =
    let cut = cut_first text some in
    let long : length text ≤ suc (position_or_len ends text) = omega arith in
    let whole : take (suc (position_or_len ends text)) text ≡ take (length text) text = take_all _ text long ∙ sym (take_all _ text (omega arith)) in
    let none : drop (suc (position_or_len ends text)) text ≡ drop (length text) text = drop_all _ text long ∙ sym (drop_all _ text (omega arith)) in
    cut ∙ ap (λ (l : List ℕ). l ∷ lines_of (drop (suc (position_or_len ends text)) text)) whole ∙ ap (λ (l : List ℕ). take (length text) text ∷ lines_of l) none

-- ---- what is kept

-- a line in front of the others
line_kept : (text line after : List ℕ) (indented : Bool) → is_indented line ≡ indented → lines_of text ≡ line ∷ lines_of after → unindented text ≡ cond indented [] line ++ unindented after
line_kept text line after true is cut = ap (flat_map (λ (l : List ℕ). cond (is_indented l) [] l)) cut ∙ rw is refl
line_kept text line after false is cut = ap (flat_map (λ (l : List ℕ). cond (is_indented l) [] l)) cut ∙ rw is refl

pub left_out : (kept text line after whole : List ℕ) → is_indented line ≡ true → lines_of text ≡ line ∷ lines_of after → kept ++ unindented text ≡ whole → kept ++ unindented after ≡ whole
left_out kept text line after whole is cut h = ap (λ (l : List ℕ). kept ++ l) (sym (line_kept text line after true is cut)) ∙ h

pub left_in : (kept text line after whole : List ℕ) → is_indented line ≡ false → lines_of text ≡ line ∷ lines_of after → kept ++ unindented text ≡ whole → (kept ++ line) ++ unindented after ≡ whole
left_in kept text line after whole is cut h = append_assoc kept line (unindented after) ∙ ap (λ (l : List ℕ). kept ++ l) (sym (line_kept text line after false is cut)) ∙ h

-- ---- what a search for the line feed says

by_test : (place size : ℕ) (inside : Bool) → ltb place size ≡ inside → (found : Option ℕ) → cond inside (Some place) None ≡ found → MatchOption found (size ≤ place) (λ at. place ≡ at)
by_test place size true is None e = (cc)
by_test place size true is (Some at) e = same_Some place at e
by_test place size false is None e = grind (arith, nat_tests)
by_test place size false is (Some at) e = (cc)

pub found_at : (text : List ℕ) (place : ℕ) → cond (ltb (position_or_len ends text) (length text)) (Some (position_or_len ends text)) None ≡ Some place → position_or_len ends text ≡ place
found_at text place e = by_test (position_or_len ends text) (length text) (ltb (position_or_len ends text) (length text)) refl (Some place) e

pub found_nowhere : (text : List ℕ) → cond (ltb (position_or_len ends text) (length text)) (Some (position_or_len ends text)) None ≡ None → position_or_len ends text ≡ length text
found_nowhere text e =
    let far = by_test (position_or_len ends text) (length text) (ltb (position_or_len ends text) (length text)) refl None e in
    let near : position_or_len ends text ≤ length text = prefix_len-le-length (λ b. not (ends b)) text in
    omega arith
