-- What each step of the reading of one piece makes of the characters.
use Rattle.std.proofs.Common.{◌≡◌, ℕ, suc, ◌+◌, ◌<◌, ◌==◌, nat_lt, Bool, true, false, ◌&&◌, ◌||◌, ◌⊎◌, not, List, [], ◌∷◌, get_or, take, drop, Option, Some, None, add-zero, zero-add, refl, sym, ◌∙◌, ap, subst, inl, inr, arith}
use Rattle.std.specs.Char.{is_ascii_digit}
use Rattle.std.specs.List.{prefix_len}
use Rattle.std.specs.Option.{option_map}
use Rattle.std.specs.Prelude.{codes, IsSome, unwrap_or}
use Rattle.std.proofs.lemmas.Bool.{cases_Bool, eq-eqb, ne_eqb, lt-ltb, or_left, or_right, and_from, and_parts, and_right, cases_lt}
use Rattle.unicode_ident.proofs.Computing.{unicode_ident}
use Rattle.uvl_lex.specs.declared.error.LexReason.TheVariants.{BadToken, OpenComment}
use Rattle.uvl_lex.specs.declared.piece.Piece.TheVariants.{Blank, LineEnd, Comment, Lexeme, Fault}
use Rattle.uvl_lex.specs.declared.token.Mark.TheVariants.{Slash}
use Rattle.uvl_lex.specs.declared.token.TokenKind.TheVariants.{Quoted, Text, Number, Mark}
use Rattle.uvl_lex.specs.inside.Classes.{is_plain}
use Rattle.std.proofs.lemmas.List.{get_or-drop, drop-drop}
use Rattle.std.proofs.lemmas.Grind.{get_or_after_one}
use Rattle.uvl_lex.specs.Pieces.{first, is_in_name, single_text_len, quoted_len, double_text_len, is_blank, is_in_line, starts_name, quote, apostrophe, dot, longer, first_piece, name_kind, name_len, number_len, inside_len, is_closed, is_inside, has_dot, holds_name, closed_after, digits, fraction_len, sign_len, signed_len, exponent_len, tail_len}
use Rattle.uvl_lex.specs.Words.{begins}
use Rattle.uvl_lex.proofs.PieceLemmas.{longer_some, longer_over, at_blank, at_line_end, at_quote, at_apostrophe, at_slash, at_digit, at_name}

-- NUMBERS

pub fraction_is : (xs : List ℕ) → first xs ≡ dot → (digits (drop 1 xs) ≡ 0 → ⊥) → 1 + digits (drop 1 xs) ≡ fraction_len xs
fraction_is xs e h =
    let a : (first xs == dot) ≡ true = eq-eqb _ _ e in
    let b : nat_lt 0 (digits (drop 1 xs)) ≡ true = lt-ltb 0 (digits (drop 1 xs)) (omega arith) in
    rw (a, b) refl

signed_is : (ys : List ℕ) → (digits (drop (sign_len ys) ys) ≡ 0 → ⊥) → signed_len ys ≡ sign_len ys + digits (drop (sign_len ys) ys)
signed_is ys h =
    let b : nat_lt 0 (digits (drop (sign_len ys) ys)) ≡ true = lt-ltb 0 (digits (drop (sign_len ys) ys)) (omega arith) in
    rw b refl

pub exponent_is : (xs : List ℕ) → (first xs == 69 || first xs == 101) ≡ true → (digits (drop (sign_len (drop 1 xs)) (drop 1 xs)) ≡ 0 → ⊥)
    → 1 + sign_len (drop 1 xs) + digits (drop (sign_len (drop 1 xs)) (drop 1 xs)) ≡ exponent_len xs
exponent_is xs e h =
    let s : signed_len (drop 1 xs) ≡ sign_len (drop 1 xs) + digits (drop (sign_len (drop 1 xs)) (drop 1 xs)) = signed_is (drop 1 xs) h in
    let b : nat_lt 0 (signed_len (drop 1 xs)) ≡ true = lt-ltb 0 (signed_len (drop 1 xs)) (omega arith) in
    let c : exponent_len xs ≡ 1 + signed_len (drop 1 xs) = rw (e, b) refl in
    omega arith

pub at_number : (xs : List ℕ) → is_ascii_digit (first xs) ≡ true → first_piece xs ≡ (Lexeme Number, number_len xs)
at_number [] h = cc
at_number (x ∷ xs) h = at_digit x xs h

pub number_is : (xs : List ℕ) → is_ascii_digit (first xs) ≡ true → digits xs + fraction_len (drop (digits xs) xs)
    + exponent_len (drop (fraction_len (drop (digits xs) xs)) (drop (digits xs) xs)) ≡ number_len xs
number_is [] h = cc
number_is (x ∷ xs) h =
    let some : 0 < digits (x ∷ xs) = rw h (omega arith) in
    let a : nat_lt 0 (digits (x ∷ xs)) ≡ true = lt-ltb 0 (digits (x ∷ xs)) some in
    let b : number_len (x ∷ xs) ≡ digits (x ∷ xs) + tail_len (drop (digits (x ∷ xs)) (x ∷ xs)) = rw a refl in
    omega arith

pub either_e : (x : ℕ) → (x ≡ 69) ⊎ (x ≡ 101) → (x == 69 || x == 101) ≡ true
either_e x (inl y) = or_left _ _ (eq-eqb x 69 y)
either_e x (inr y) = or_right _ _ (eq-eqb x 101 y)

-- NAMES

pub at_word : (xs : List ℕ) → starts_name (first xs) ≡ true → first_piece xs ≡ (Lexeme (name_kind xs), name_len xs)
unfolding unicode_ident
at_word [] h = cc
at_word (x ∷ xs) h = at_name x xs h

pub word_len : (xs : List ℕ) → starts_name (first xs) ≡ true → 1 + prefix_len is_in_name (drop 1 xs) ≡ name_len xs
word_len xs h = rw h refl

-- TEXTS IN SINGLE QUOTES

get_or-past : (xs : List ℕ) (n : ℕ) → first (drop n (drop 1 xs)) ≡ get_or xs (1 + n) 0
get_or-past xs n = get_or-drop n (drop 1 xs) 0 0 ∙ (ap (λ (i : ℕ). get_or (drop 1 xs) i 0) (add-zero n) ∙ get_or_after_one xs n 0)

single_closed : (xs : List ℕ) → first xs ≡ apostrophe → first (drop (inside_len apostrophe xs) (drop 1 xs)) ≡ apostrophe
    → single_text_len xs ≡ inside_len apostrophe xs + 2
single_closed xs e h =
    let a : (first xs == apostrophe) ≡ true = eq-eqb _ _ e in
    let b : (get_or xs (1 + inside_len apostrophe xs) 0 == apostrophe) ≡ true = eq-eqb _ _ (sym (get_or-past xs (inside_len apostrophe xs)) ∙ h) in
    rw (a, b) refl

single_not_closed : (xs : List ℕ) → (first (drop (inside_len apostrophe xs) (drop 1 xs)) ≡ apostrophe → ⊥) → single_text_len xs ≡ 0
single_not_closed xs h =
    let b : (get_or xs (1 + inside_len apostrophe xs) 0 == apostrophe) ≡ false = ne_eqb _ _ (λ e. h (get_or-past xs (inside_len apostrophe xs) ∙ e)) in
    rw (b, and_right (first xs == apostrophe) false refl) refl

at_single : (xs : List ℕ) → first xs ≡ apostrophe → first_piece xs ≡ longer (Lexeme Text, single_text_len xs) (Fault BadToken, 1)
at_single [] e = absurd (omega arith)
at_single (x ∷ xs) e = rw e (at_apostrophe xs)

pub single_text : (xs : List ℕ) → first xs ≡ apostrophe → first (drop (inside_len apostrophe xs) (drop 1 xs)) ≡ apostrophe
    → first_piece xs ≡ (Lexeme Text, inside_len apostrophe xs + 2)
single_text xs e h = at_single xs e ∙ rw (single_closed xs e h) (longer_some (Lexeme Text, inside_len apostrophe xs + 2) (omega arith))

pub single_open : (xs : List ℕ) → first xs ≡ apostrophe → (first (drop (inside_len apostrophe xs) (drop 1 xs)) ≡ apostrophe → ⊥)
    → first_piece xs ≡ (Fault BadToken, 1)
single_open xs e h = at_single xs e ∙ rw (single_not_closed xs h) refl

-- BETWEEN DOUBLE QUOTES

-- how far what has no dot goes, and from there how far what may stand between the quotes goes
abbrev pub plain_len : List ℕ → ℕ
plain_len ys = prefix_len is_plain ys

abbrev pub more_len : List ℕ → ℕ
more_len ys = prefix_len (is_inside quote) (drop (plain_len ys) ys)

-- the front that passes a test, one character at a time
pub front_some : (p : ℕ → Bool) (c : ℕ) (cs : List ℕ) → p c ≡ true → take (prefix_len p (c ∷ cs)) (c ∷ cs) ≡ c ∷ take (prefix_len p cs) cs
front_some p c cs h = let e : prefix_len p (c ∷ cs) ≡ suc (prefix_len p cs) = rw h (omega arith) in rw e refl

pub after_front : (p : ℕ → Bool) (c : ℕ) (cs : List ℕ) → p c ≡ true → drop (prefix_len p (c ∷ cs)) (c ∷ cs) ≡ drop (prefix_len p cs) cs
after_front p c cs h = let e : prefix_len p (c ∷ cs) ≡ suc (prefix_len p cs) = rw h (omega arith) in rw e refl

-- what a plain character is, and what another one between the quotes is
plain_inside : (c : ℕ) → is_plain c ≡ true → (is_inside quote c ≡ true) × ((c == dot) ≡ false)
plain_inside c h =
    let parts = and_parts (not (c == dot)) (is_inside quote c) h in
    (parts.1, elim (cases_Bool (c == dot)) [ inl y ↦ let n : not (c == dot) ≡ false = rw y refl in cc | inr n ↦ n ])

dot_inside : (c : ℕ) → is_plain c ≡ false → is_inside quote c ≡ true → (c == dot) ≡ true
dot_inside c n i =
    elim (cases_Bool (c == dot)) [
      | inl y ↦ y
      | inr m ↦ let h : is_plain c ≡ true = rw (m, i) refl in cc
    ]

inside_more : (ys : List ℕ) → prefix_len (is_inside quote) ys ≡ plain_len ys + more_len ys
inside_more [] = refl
inside_more (c ∷ cs) =
    elim (cases_Bool (is_plain c)) [
      | inl y ↦
          let i = (plain_inside c y).0 in
          let a : prefix_len (is_inside quote) (c ∷ cs) ≡ 1 + prefix_len (is_inside quote) cs = rw i refl in
          let b : plain_len (c ∷ cs) ≡ 1 + plain_len cs = rw y refl in
          let d : more_len (c ∷ cs) ≡ more_len cs = ap (prefix_len (is_inside quote)) (after_front is_plain c cs y) in
          let rest = inside_more cs in
          omega arith
      | inr n ↦ let b : plain_len (c ∷ cs) ≡ 0 = rw n refl in rw b (sym (zero-add _))
    ]

no_dot : (ys : List ℕ) → more_len ys ≡ 0 → has_dot (take (prefix_len (is_inside quote) ys) ys) ≡ false
no_dot [] h = refl
no_dot (c ∷ cs) h =
    elim (cases_Bool (is_plain c)) [
      | inl y ↦
          let p = plain_inside c y in
          let d : more_len (c ∷ cs) ≡ more_len cs = ap (prefix_len (is_inside quote)) (after_front is_plain c cs y) in
          rw (front_some (is_inside quote) c cs p.0, p.1) (no_dot cs (sym d ∙ h))
      | inr n ↦
          let b : plain_len (c ∷ cs) ≡ 0 = rw n refl in
          let e : prefix_len (is_inside quote) (c ∷ cs) ≡ 0 = rw b at h in
          rw e refl
    ]

some_dot : (ys : List ℕ) → 0 < more_len ys → has_dot (take (prefix_len (is_inside quote) ys) ys) ≡ true
some_dot [] h = absurd (omega arith)
some_dot (c ∷ cs) h =
    elim (cases_Bool (is_plain c)) [
      | inl y ↦
          let p = plain_inside c y in
          let d : more_len (c ∷ cs) ≡ more_len cs = ap (prefix_len (is_inside quote)) (after_front is_plain c cs y) in
          rw (front_some (is_inside quote) c cs p.0, p.1) (some_dot cs (subst (λ (n : ℕ). 0 < n) d h))
      | inr n ↦
          let b : plain_len (c ∷ cs) ≡ 0 = rw n refl in
          let i : 0 < prefix_len (is_inside quote) (c ∷ cs) = rw b at h in
          elim (cases_Bool (is_inside quote c)) [
            | inl z ↦ rw (front_some (is_inside quote) c cs z, dot_inside c n z) refl
            | inr m ↦ let e : prefix_len (is_inside quote) (c ∷ cs) ≡ 0 = rw m refl in absurd (omega arith)
          ]
    ]

end_is : (ys : List ℕ) → first (drop (more_len ys) (drop (plain_len ys) ys)) ≡ first (drop (prefix_len (is_inside quote) ys) ys)
end_is ys = ap first (drop-drop (more_len ys) (plain_len ys) ys ∙ ap (λ (n : ℕ). drop n ys) (sym (inside_more ys)))

closed : (xs : List ℕ) → first xs ≡ quote → first (drop (more_len (drop 1 xs)) (drop (plain_len (drop 1 xs)) (drop 1 xs))) ≡ quote → is_closed quote xs ≡ true
closed xs e h =
    let a : (first xs == quote) ≡ true = eq-eqb _ _ e in
    let b : (get_or xs (1 + inside_len quote xs) 0 == quote) ≡ true
    = eq-eqb _ _ (sym (get_or-past xs (inside_len quote xs)) ∙ (sym (end_is (drop 1 xs)) ∙ h)) in
    and_from _ _ a b

not_closed : (xs : List ℕ) → (first (drop (more_len (drop 1 xs)) (drop (plain_len (drop 1 xs)) (drop 1 xs))) ≡ quote → ⊥) → is_closed quote xs ≡ false
not_closed xs h =
    let b : (get_or xs (1 + inside_len quote xs) 0 == quote) ≡ false
    = ne_eqb _ _ (λ e. h (end_is (drop 1 xs) ∙ (get_or-past xs (inside_len quote xs) ∙ e))) in
    and_right (first xs == quote) _ b

name_held : (xs : List ℕ) → 0 < plain_len (drop 1 xs) → more_len (drop 1 xs) ≡ 0 → holds_name xs ≡ true
name_held xs h m =
    let i = inside_more (drop 1 xs) in
    let a : nat_lt 0 (inside_len quote xs) ≡ true = lt-ltb 0 (inside_len quote xs) (omega arith) in
    let b : has_dot (take (inside_len quote xs) (drop 1 xs)) ≡ false = no_dot (drop 1 xs) m in
    rw (a, b) refl

no_name_held : (xs : List ℕ) → ((0 < plain_len (drop 1 xs)) × (more_len (drop 1 xs) ≡ 0) → ⊥) → holds_name xs ≡ false
no_name_held xs h =
    elim (cases_lt 0 (more_len (drop 1 xs))) [
      | inl some ↦
          let b : has_dot (take (inside_len quote xs) (drop 1 xs)) ≡ true = some_dot (drop 1 xs) some in
          and_right (nat_lt 0 (inside_len quote xs)) _ (rw b refl)
      | inr none ↦
          let i = inside_more (drop 1 xs) in
          let m : more_len (drop 1 xs) ≡ 0 = omega arith in
          elim (cases_lt 0 (plain_len (drop 1 xs))) [
            | inl p ↦ absurd (h (p, m))
            | inr q ↦
                let z : inside_len quote xs ≡ 0 = omega arith in
                rw z refl
          ]
    ]

at_double : (xs : List ℕ) → first xs ≡ quote → first_piece xs ≡ longer (Lexeme Quoted, quoted_len xs) (longer (Lexeme Text, double_text_len xs) (Fault BadToken, 1))
at_double [] e = absurd (omega arith)
at_double (x ∷ xs) e = rw e (at_quote xs)

pub double_name : (xs : List ℕ) → first xs ≡ quote → first (drop (more_len (drop 1 xs)) (drop (plain_len (drop 1 xs)) (drop 1 xs))) ≡ quote
    → 0 < plain_len (drop 1 xs) → more_len (drop 1 xs) ≡ 0 → first_piece xs ≡ (Lexeme Quoted, inside_len quote xs + 2)
double_name xs e h p m =
    let a = closed xs e h in
    let b = name_held xs p m in
    let q : quoted_len xs ≡ inside_len quote xs + 2 = rw (a, b) refl in
    let t : double_text_len xs ≡ 0 = rw (a, b) refl in
    at_double xs e ∙ rw (q, t) (longer_some (Lexeme Quoted, inside_len quote xs + 2) (omega arith))

pub double_text : (xs : List ℕ) → first xs ≡ quote → first (drop (more_len (drop 1 xs)) (drop (plain_len (drop 1 xs)) (drop 1 xs))) ≡ quote
    → ((0 < plain_len (drop 1 xs)) × (more_len (drop 1 xs) ≡ 0) → ⊥) → first_piece xs ≡ (Lexeme Text, inside_len quote xs + 2)
double_text xs e h n =
    let a = closed xs e h in
    let b = no_name_held xs n in
    let q : quoted_len xs ≡ 0 = rw (a, b) refl in
    let t : double_text_len xs ≡ inside_len quote xs + 2 = rw (a, b) refl in
    at_double xs e ∙ rw (q, t) (longer_some (Lexeme Text, inside_len quote xs + 2) (omega arith))

pub double_open : (xs : List ℕ) → first xs ≡ quote → (first (drop (more_len (drop 1 xs)) (drop (plain_len (drop 1 xs)) (drop 1 xs))) ≡ quote → ⊥)
    → first_piece xs ≡ (Fault BadToken, 1)
double_open xs e h =
    let a = not_closed xs h in
    let q : quoted_len xs ≡ 0 = rw a refl in
    let t : double_text_len xs ≡ 0 = rw a refl in
    at_double xs e ∙ rw (q, t) refl

pub inside_is : (xs : List ℕ) → plain_len (drop 1 xs) + more_len (drop 1 xs) ≡ inside_len quote xs
inside_is xs = sym (inside_more (drop 1 xs))

-- COMMENTS

pub slash_line : (xs : List ℕ) → first xs ≡ 47 → first (drop 1 xs) ≡ 47 → first_piece xs ≡ (Comment, prefix_len is_in_line xs)
slash_line [] e h = absurd (omega arith)
slash_line (x ∷ []) e h = absurd (omega arith)
slash_line (x ∷ d ∷ ds) e h =
    rw (e, h) (at_slash (47 ∷ ds) ∙ longer_over (Comment, prefix_len is_in_line (47 ∷ 47 ∷ ds)) (Lexeme (Mark Slash), 1) (omega arith) (omega arith))

pub slash_closed : (xs : List ℕ) → first xs ≡ 47 → first (drop 1 xs) ≡ 42 → (n : ℕ) → closed_after (drop 1 (drop 1 xs)) ≡ Some n
    → first_piece xs ≡ (Comment, 2 + n)
slash_closed [] e h n o = absurd (omega arith)
slash_closed (x ∷ []) e h n o = absurd (omega arith)
slash_closed (x ∷ d ∷ ds) e h n o =
    rw (e, h) (at_slash (42 ∷ ds) ∙ rw o (longer_over (Comment, 2 + n) (Lexeme (Mark Slash), 1) (omega arith) (omega arith)))

pub slash_open : (xs : List ℕ) → first xs ≡ 47 → first (drop 1 xs) ≡ 42 → closed_after (drop 1 (drop 1 xs)) ≡ None
    → first_piece xs ≡ (Fault OpenComment, 2)
slash_open [] e h o = absurd (omega arith)
slash_open (x ∷ []) e h o = absurd (omega arith)
slash_open (x ∷ d ∷ ds) e h o = rw (e, h) (at_slash (42 ∷ ds) ∙ rw o refl)

pub slash_alone : (xs : List ℕ) → first xs ≡ 47 → (first (drop 1 xs) ≡ 47 → ⊥) → (first (drop 1 xs) ≡ 42 → ⊥) → first_piece xs ≡ (Lexeme (Mark Slash), 1)
slash_alone [] e h k = absurd (omega arith)
slash_alone (x ∷ []) e h k = rw e (at_slash [])
slash_alone (x ∷ d ∷ ds) e h k = rw e (at_slash (d ∷ ds) ∙ rw (ne_eqb d 47 h, ne_eqb d 42 k) refl)

closes : (c : ℕ) (cs : List ℕ) → begins (c ∷ cs) (codes "*/") ≡ (c == 42 && first cs == 47)
closes c [] = refl
closes c (d ∷ ds) = elim (cases_Bool (d == 47)) [ inl y ↦ rw y refl | inr n ↦ rw n refl ]

pub closed_here : (xs ys : List ℕ) (c : ℕ) → xs ≡ c ∷ ys → c ≡ 42 → first ys ≡ 47 → closed_after xs ≡ Some 2
closed_here xs ys c e h k =
    let a : begins (c ∷ ys) (codes "*/") ≡ true = closes c ys ∙ and_from _ _ (eq-eqb c 42 h) (eq-eqb (first ys) 47 k) in
    rw (e, a) refl

pub closed_later : (xs ys : List ℕ) (c : ℕ) → xs ≡ c ∷ ys → (c == 42 && first ys == 47) ≡ false → closed_after xs ≡ option_map suc (closed_after ys)
closed_later xs ys c e h =
    let a : begins (c ∷ ys) (codes "*/") ≡ false = closes c ys ∙ h in
    rw (e, a) refl

pub closed_none : (xs : List ℕ) → xs ≡ [] → closed_after xs ≡ None
closed_none xs e = rw e refl

pub one_further : (n : ℕ) (o : Option ℕ) → option_map (λ m. n + m) (option_map suc o) ≡ option_map (λ m. n + 1 + m) o
one_further n None = refl
one_further n (Some k) = ap Some (omega arith)

pub some_value : (o : Option ℕ) → IsSome o → o ≡ Some (unwrap_or o 0)
some_value None h = cc
some_value (Some n) h = refl

-- BLANKS AND LINE ENDS

pub blank_first : (xs : List ℕ) → is_blank (first xs) ≡ true → first_piece xs ≡ (Blank, 1)
blank_first [] h = cc
blank_first (x ∷ xs) h = at_blank x xs h

pub line_end_first : (xs : List ℕ) → first xs ≡ 10 → first_piece xs ≡ (LineEnd, 1)
line_end_first [] h = absurd (omega arith)
line_end_first (x ∷ xs) h = rw h (at_line_end xs)

pub any_blank : (x : ℕ) → (x ≡ 9) ⊎ ((x ≡ 13) ⊎ (x ≡ 32)) → is_blank x ≡ true
any_blank x (inl e) = rw e refl
any_blank x (inr (inl e)) = rw e refl
any_blank x (inr (inr e)) = rw e refl
