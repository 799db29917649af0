-- The longest piece at each first character.
use Rattle.std.proofs.Common.{◌≡◌, ℕ, ◌==◌, Bool, true, false, List, [], ◌∷◌, map, drop, Option, Some, None, refl, inl, inr}
use Rattle.std.specs.Char.{is_ascii_digit}
use Rattle.std.proofs.lemmas.Bool.{cases_Bool, eqb-true}
use Rattle.unicode_ident.proofs.Computing.{unicode_ident}
use Rattle.uvl_lex.specs.declared.error.LexReason.TheVariants.{BadToken}
use Rattle.uvl_lex.specs.declared.piece.Piece.{Piece}
use Rattle.uvl_lex.specs.declared.piece.Piece.TheVariants.{Lexeme, Fault}
use Rattle.uvl_lex.specs.declared.token.Mark.{Mark as Sign}
use Rattle.uvl_lex.specs.declared.token.TokenKind.TheVariants.{Mark}
use Rattle.uvl_lex.specs.inside.Classes.{mark_of}
use Rattle.uvl_lex.specs.Words.{marks}
use Rattle.uvl_lex.specs.Pieces.{first, starts_name, mark_piece, longest}

-- two characters that a test tells apart
pub apart : (p : ℕ → Bool) (c k : ℕ) → p c ≡ true → p k ≡ false → (c == k) ≡ false
apart p c k h n =
    elim (cases_Bool (c == k)) [
      | inl y ↦ let e : c ≡ k = eqb-true c k y in let t : p k ≡ true = rw (← e) h in cc
      | inr d ↦ d
    ]

-- MARKS

-- the piece that the mark is; where there is none, the character is a fault
abbrev pub mark_result : Option (Sign × ℕ) → Piece × ℕ
mark_result None = (Fault BadToken, 1)
mark_result (Some sign) = (Lexeme (Mark sign.0), sign.1)

abbrev longest_mark : ℕ → List ℕ → Piece × ℕ
longest_mark c cs = longest (map (mark_piece (c ∷ cs)) marks)

abbrev Marks : ℕ → List ℕ → Type 0
Marks c cs = longest_mark c cs ≡ mark_result (mark_of c (first cs) (first (drop 1 cs)))

less : (cs : List ℕ) → Marks 60 cs
less [] = refl
less (d ∷ []) = elim (cases_Bool (d == 61)) [ inl y ↦ rw y refl | inr n ↦ rw n refl ]
less (d ∷ e ∷ es) =
    elim (cases_Bool (d == 61)) [
      | inl y ↦ elim (cases_Bool (e == 62)) [ inl z ↦ rw (y, z) refl | inr n ↦ rw (y, n) refl ]
      | inr n ↦ rw n refl
    ]

equals : (cs : List ℕ) → Marks 61 cs
equals [] = refl
equals (d ∷ ds) =
    elim (cases_Bool (d == 62)) [
      | inl y ↦ rw (y, apart (λ x. x == 62) d 61 y refl) refl
      | inr n ↦ elim (cases_Bool (d == 61)) [ inl z ↦ rw (n, z) refl | inr m ↦ rw (n, m) refl ]
    ]

bang : (cs : List ℕ) → Marks 33 cs
bang [] = refl
bang (d ∷ ds) = elim (cases_Bool (d == 61)) [ inl y ↦ rw y refl | inr n ↦ rw n refl ]

greater : (cs : List ℕ) → Marks 62 cs
greater [] = refl
greater (d ∷ ds) = elim (cases_Bool (d == 61)) [ inl y ↦ rw y refl | inr n ↦ rw n refl ]

dots : (cs : List ℕ) → Marks 46 cs
dots [] = refl
dots (d ∷ ds) = elim (cases_Bool (d == 46)) [ inl y ↦ rw y refl | inr n ↦ rw n refl ]

-- the table beside the order in which the code looks
pub marks_first : (c : ℕ) (cs : List ℕ) → Marks c cs
marks_first c cs =
    elim (cases_Bool (c == 60)) [
      | inl y ↦ rw (eqb-true c 60 y) (less cs)
      | inr n60 ↦
          elim (cases_Bool (c == 61)) [
            | inl y ↦ rw (eqb-true c 61 y) (equals cs)
            | inr n61 ↦
                elim (cases_Bool (c == 33)) [
                  | inl y ↦ rw (eqb-true c 33 y) (bang cs)
                  | inr n33 ↦
                      elim (cases_Bool (c == 62)) [
                        | inl y ↦ rw (eqb-true c 62 y) (greater cs)
                        | inr n62 ↦
                            elim (cases_Bool (c == 46)) [
                              | inl y ↦ rw (eqb-true c 46 y) (dots cs)
                              | inr n46 ↦
                                  elim (cases_Bool (c == 38)) [
                                    | inl y ↦ rw (eqb-true c 38 y) (refl)
                                    | inr n38 ↦
                                        elim (cases_Bool (c == 124)) [
                                          | inl y ↦ rw (eqb-true c 124 y) (refl)
                                          | inr n124 ↦
                                              elim (cases_Bool (c == 40)) [
                                                | inl y ↦ rw (eqb-true c 40 y) (refl)
                                                | inr n40 ↦
                                                    elim (cases_Bool (c == 41)) [
                                                      | inl y ↦ rw (eqb-true c 41 y) (refl)
                                                      | inr n41 ↦
                                                          elim (cases_Bool (c == 91)) [
                                                            | inl y ↦ rw (eqb-true c 91 y) (refl)
                                                            | inr n91 ↦
                                                                elim (cases_Bool (c == 93)) [
                                                                  | inl y ↦ rw (eqb-true c 93 y) (refl)
                                                                  | inr n93 ↦
                                                                      elim (cases_Bool (c == 123)) [
                                                                        | inl y ↦ rw (eqb-true c 123 y) (refl)
                                                                        | inr n123 ↦
                                                                            elim (cases_Bool (c == 125)) [
                                                                              | inl y ↦ rw (eqb-true c 125 y) (refl)
                                                                              | inr n125 ↦
                                                                                  elim (cases_Bool (c == 44)) [
                                                                                    | inl y ↦ rw (eqb-true c 44 y) (refl)
                                                                                    | inr n44 ↦
                                                                                        elim (cases_Bool (c == 42)) [
                                                                                          | inl y ↦ rw (eqb-true c 42 y) (refl)
                                                                                          | inr n42 ↦
                                                                                              elim (cases_Bool (c == 43)) [
                                                                                                | inl y ↦ rw (eqb-true c 43 y) (refl)
                                                                                                | inr n43 ↦
                                                                                                    elim (cases_Bool (c == 45)) [
                                                                                                      | inl y ↦ rw (eqb-true c 45 y) (refl)
                                                                                                      | inr n45 ↦
                                                                                                          elim (cases_Bool (c == 47)) [
                                                                                                            | inl y ↦ rw (eqb-true c 47 y) (refl)
                                                                                                            | inr n47 ↦
                                                                                                                elim (cases_Bool (c == 58)) [
                                                                                                                  | inl y ↦ rw (eqb-true c 58 y) (refl)
                                                                                                                  | inr n58 ↦
                                                                                                                      elim (cases_Bool (c == 59)) [
                                                                                                                        | inl y ↦ rw (eqb-true c 59 y) (refl)
                                                                                                                        | inr n59 ↦
                                                                                                                            rw (n60, n61, n33, n62, n46, n38, n124, n40, n41, n91, n93, n123, n125, n44, n42, n43, n45, n47, n58, n59) refl
                                                                                                                      ]
                                                                                                                ]
                                                                                                          ]
                                                                                                    ]
                                                                                              ]
                                                                                        ]
                                                                                  ]
                                                                            ]
                                                                      ]
                                                                ]
                                                          ]
                                                    ]
                                              ]
                                        ]
                                  ]
                            ]
                      ]
                ]
          ]
    ]

-- no mark begins with a character that passes a test which no mark's first character passes
pub record TestsNoMark (p : ℕ → Bool) : Type 0 where
  pub at_60 : p 60 ≡ false
  pub at_61 : p 61 ≡ false
  pub at_33 : p 33 ≡ false
  pub at_62 : p 62 ≡ false
  pub at_46 : p 46 ≡ false
  pub at_38 : p 38 ≡ false
  pub at_124 : p 124 ≡ false
  pub at_40 : p 40 ≡ false
  pub at_41 : p 41 ≡ false
  pub at_91 : p 91 ≡ false
  pub at_93 : p 93 ≡ false
  pub at_123 : p 123 ≡ false
  pub at_125 : p 125 ≡ false
  pub at_44 : p 44 ≡ false
  pub at_42 : p 42 ≡ false
  pub at_43 : p 43 ≡ false
  pub at_45 : p 45 ≡ false
  pub at_47 : p 47 ≡ false
  pub at_58 : p 58 ≡ false
  pub at_59 : p 59 ≡ false

pub no_mark : (p : ℕ → Bool) (c d e : ℕ) → TestsNoMark p → p c ≡ true → mark_of c d e ≡ None
no_mark p c d e t h =
    rw (apart p c 60 h t.at_60, apart p c 61 h t.at_61, apart p c 33 h t.at_33, apart p c 62 h t.at_62, apart p c 46 h t.at_46, apart p c 38 h t.at_38, apart p c 124 h t.at_124, apart p c 40 h t.at_40, apart p c 41 h t.at_41, apart p c 91 h t.at_91, apart p c 93 h t.at_93, apart p c 123 h t.at_123, apart p c 125 h t.at_125, apart p c 44 h t.at_44, apart p c 42 h t.at_42, apart p c 43 h t.at_43, apart p c 45 h t.at_45, apart p c 47 h t.at_47, apart p c 58 h t.at_58, apart p c 59 h t.at_59) refl

pub digits_no_mark : TestsNoMark is_ascii_digit
digits_no_mark = record { at_60 = refl; at_61 = refl; at_33 = refl; at_62 = refl; at_46 = refl; at_38 = refl; at_124 = refl; at_40 = refl; at_41 = refl; at_91 = refl; at_93 = refl; at_123 = refl; at_125 = refl; at_44 = refl; at_42 = refl; at_43 = refl; at_45 = refl; at_47 = refl; at_58 = refl; at_59 = refl }

pub names_no_mark : TestsNoMark starts_name
unfolding unicode_ident
names_no_mark = record { at_60 = refl; at_61 = refl; at_33 = refl; at_62 = refl; at_46 = refl; at_38 = refl; at_124 = refl; at_40 = refl; at_41 = refl; at_91 = refl; at_93 = refl; at_123 = refl; at_125 = refl; at_44 = refl; at_42 = refl; at_43 = refl; at_45 = refl; at_47 = refl; at_58 = refl; at_59 = refl }
