-- The open lines as the code keeps them, and the lines above a line as the definition finds them.
use Rattle.std.proofs.Common.{◌≡◌, ℕ, suc, ◌+◌, ◌<◌, ◌≤◌, ◌==◌, ◌||◌, nat_le, nat_lt, Bool, true, false, if◌then◌else◌, List, [], ◌∷◌, length, refl, sym, ap, ◌∙◌, arith, inl, inr}
use Rattle.std.proofs.lemmas.Bool.{cases_Bool, ltb-true, ltb-false}
use Rattle.std.proofs.lemmas.Bool.Decides.{nat_tests}
use Rattle.std.specs.List.{list_any}
use Rattle.uvl_lex.specs.declared.token.Line.{Line}
use Rattle.uvl_lex.specs.declared.token.Token.{Token}
use Rattle.uvl_reader.specs.declared.stack.Open.{Open}
use Rattle.uvl_reader.specs.Nesting.{lines_above, open_lines, has_place}
use Rattle.uvl_reader.specs.LineKinds.{kind_by, is_one}
use Rattle.uvl_reader.specs.inside.Standing.{still_open, meets, nearest_of, fits, kind_at, is_single}

-- the lines that stay open at this indent
abbrev pub kept : ℕ → List Line → List Line
kept indent [] = []
kept indent (line ∷ lines) = if nat_le indent line.indent then kept indent lines else line ∷ lines

lt_not_le : (a b : ℕ) → a < b → nat_le b a ≡ false
lt_not_le a b l = grind (arith, nat_tests)

le_true : (a b : ℕ) → a ≤ b → nat_le a b ≡ true
le_true a b l = grind (arith, nat_tests)

-- lines above for a lower indent are among those for a higher one
above_kept : (before : List Line) (indent more : ℕ) → indent ≤ more → lines_above before indent ≡ kept indent (lines_above before more)
above_kept [] indent more l = refl
above_kept (last ∷ before) indent more l =
    elim (cases_Bool (nat_lt last.indent indent)) [
      | inl y ↦
          let low : last.indent < indent = ltb-true last.indent indent y in
          let y2 : nat_lt last.indent more ≡ true = grind (arith, nat_tests) in
          let n : nat_le indent last.indent ≡ false = lt_not_le last.indent indent low in
          rw (y, y2, n) refl
      | inr n ↦
          let high : indent ≤ last.indent = ltb-false last.indent indent n in
          elim (cases_Bool (nat_lt last.indent more)) [
            | inl y2 ↦ rw (n, y2, le_true indent last.indent high) (above_kept before indent last.indent high)
            | inr n2 ↦ rw (n, n2) (above_kept before indent more l)
          ]
    ]

-- and they are those of the open lines that stay open
pub above_open : (before : List Line) (indent : ℕ) → lines_above before indent ≡ kept indent (open_lines before)
above_open [] indent = refl
above_open (last ∷ before) indent =
    elim (cases_Bool (nat_lt last.indent indent)) [
      | inl y ↦
          let low : last.indent < indent = ltb-true last.indent indent y in
          rw (y, lt_not_le last.indent indent low) refl
      | inr n ↦
          let high : indent ≤ last.indent = ltb-false last.indent indent n in
          rw (n, le_true indent last.indent high) (above_kept before indent last.indent high)
    ]

-- each is indented less than the one before it
abbrev pub Below : ℕ → List Line → Type 0
Below most [] = Unit {0}
Below most (line ∷ lines) = (line.indent < most) × Below line.indent lines

pub above_below : (before : List Line) (indent : ℕ) → Below indent (lines_above before indent)
above_below [] indent = tt
above_below (last ∷ before) indent =
    elim (cases_Bool (nat_lt last.indent indent)) [
      | inl y ↦ rw y (ltb-true last.indent indent y, above_below before last.indent)
      | inr n ↦ rw n (above_below before indent)
    ]

none_meets : (most indent : ℕ) (lines : List Line) → Below most lines → most ≤ indent → list_any (λ line. line.indent == indent) lines ≡ false
none_meets most indent [] h l = refl
none_meets most indent (line ∷ lines) h l =
    let here : (line.indent == indent) ≡ false = let lower = h.0 in grind (arith, nat_tests) in
    rw here (none_meets line.indent indent lines h.1 (let lower = h.0 in omega arith))

module _ (owner : Line → List Line → ℕ) where
  -- what the code keeps of the lines
  abbrev pub entries : List Line → List Open
  entries [] = []
  entries (line ∷ above) = record { indent = line.indent; kind = kind_by line.tokens above; feature = owner line above } ∷ entries above

  pub entries_kept : (indent : ℕ) (lines : List Line) → still_open indent (entries lines) ≡ entries (kept indent lines)
  entries_kept indent [] = refl
  entries_kept indent (line ∷ lines) =
      elim (cases_Bool (nat_le indent line.indent)) [ inl y ↦ rw y (entries_kept indent lines) | inr n ↦ rw n refl ]

  entries_meet : (most indent : ℕ) (lines : List Line) → Below most lines → meets indent (entries lines) ≡ list_any (λ line. line.indent == indent) lines
  entries_meet most indent [] h = refl
  entries_meet most indent (line ∷ lines) h =
      elim (cases_Bool (nat_le indent line.indent)) [
        | inl y ↦ rw y (ap (λ (b : Bool). (line.indent == indent) || b) (entries_meet line.indent indent lines h.1))
        | inr n ↦
            let higher : line.indent < indent = grind (arith, nat_tests) in
            let here : (line.indent == indent) ≡ false = grind (arith, nat_tests) in
            rw (n, here) (sym (none_meets line.indent indent lines h.1 (omega arith)))
      ]

  or_none : (b c : Bool) → (b || (c || false)) ≡ (b || c)
  or_none true c = refl
  or_none false true = refl
  or_none false false = refl

  pub entries_fit : (before : List Line) (indent : ℕ) → fits indent (entries (open_lines before)) ≡ has_place before indent
  entries_fit [] indent = refl
  entries_fit (last ∷ before) indent =
      or_none (nat_lt last.indent indent) (meets indent (entries (open_lines (last ∷ before))))
      ∙ ap (λ (b : Bool). nat_lt last.indent indent || b) (entries_meet (last.indent + 1) indent (open_lines (last ∷ before)) (omega arith, above_below before last.indent))

  pub entries_kind : (tokens : List Token) (lines : List Line) → kind_at (nearest_of (entries lines)) tokens ≡ kind_by tokens lines
  entries_kind tokens [] = refl
  entries_kind tokens (line ∷ above) = refl

  pub entries_single : (lines : List Line) → is_single (entries lines) ≡ is_one lines
  entries_single [] = refl
  entries_single (line ∷ []) = refl
  entries_single (line ∷ next ∷ lines) = refl

  pub entries_length : (lines : List Line) → length (entries lines) ≡ length lines
  entries_length [] = refl
  entries_length (line ∷ above) = ap suc (entries_length above)

  pub entries_above : (before : List Line) (indent : ℕ) → still_open indent (entries (open_lines before)) ≡ entries (lines_above before indent)
  entries_above before indent = entries_kept indent (open_lines before) ∙ ap entries (sym (above_open before indent))
