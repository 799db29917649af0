-- The formulas with features for names, as the code goes over them and as the definition does.
use Rattle.std.proofs.Common.{◌≡◌, ℕ, suc, ◌+◌, ◌&&◌, ◌||◌, not, nat_lt, Bool, true, false, if◌then◌else◌, List, [], ◌∷◌, ◌++◌, length, map, Option, Some, None, Result, Ok, Err, refl, sym, ap, ◌∙◌, arith, append_assoc, inl, inr}
use Rattle.std.proofs.lemmas.Bool.{cases_Bool}
use Rattle.std.proofs.lemmas.Bool.Decides.{nat_tests}
use Rattle.std.proofs.lemmas.List.Elements.{filter_map-append}
use Rattle.std.specs.List.{flat_map, filter_map, list_any, position_or_len}
use Rattle.std.specs.Option.{option_and_then, option_map, is_some, unwrap_or}
use Rattle.std.specs.Str.{bytes_eq}
use Rattle.feature_tree.specs.declared.formula.Formula.{Formula}
use Rattle.feature_tree.specs.declared.reader.error.FormulaError.{FormulaError}
use Rattle.feature_tree.specs.FormulaAnswer.{formula_answer}
use Rattle.feature_tree.specs.Numbered.{numbered}
use Rattle.name_table.specs.Numbers.{number_of}
use Rattle.uvl_lex.specs.declared.token.Token.{Token}
use Rattle.uvl_lex.specs.Text.{token_text}
use Rattle.uvl_reader.specs.declared.error.Reason.TheVariants as reason
use Rattle.uvl_reader.specs.Shapes.{is_name}
use Rattle.uvl_reader.specs.Refusals.{Refusal, first_of, fault_if, refusal_at, reason_of, formula_fault}
use Rattle.uvl_reader.specs.ModelReading.{PlacedLine, named_by, number_for, names_unknown, constraint_of, first_unknown, formulas_on}
use Rattle.uvl_reader.specs.inside.Good.{placed_names}
use Rattle.uvl_reader.specs.inside.Standing.{OrRefused, and_then, on_ok, unless_refused, StatedFormula, number_at, numbers, one_numbered, constraints_of}
use Rattle.uvl_reader.specs.inside.Next.{stated_if, stated_by, all_stated}
use Rattle.uvl_reader.proofs.PlacedLaws.{Each}
use Rattle.uvl_reader.proofs.StandsLaws.{IsParsed, line_stated}

-- ---- names

abbrev found_from : ℕ → List (List ℕ) → List ℕ → Option ℕ
found_from from names name = if nat_lt (position_or_len (bytes_eq name) names) (length names) then Some (from + position_or_len (bytes_eq name) names) else None

number_from : (from : ℕ) (names : List (List ℕ)) (name : List ℕ) → number_of (placed_names from names) name ≡ found_from from names name
number_from from [] name = refl
number_from from (first ∷ names) name =
    elim (cases_Bool (bytes_eq name first)) [
      | inl y ↦
          let here : nat_lt 0 (suc (length names)) ≡ true = grind (arith, nat_tests) in
          let e : from + 0 ≡ from = omega arith in
          rw (y, here, e) refl
      | inr n ↦ rw n (number_from (from + 1) names name ∙ shifted from (position_or_len (bytes_eq name) names) (length names))
    ]
  where
    shifted : (from place count : ℕ) → (if nat_lt place count then Some ((from + 1) + place) else None) ≡ (if nat_lt (1 + place) (suc count) then Some (from + (1 + place)) else None)
    shifted from place count =
        let sum : (from + 1) + place ≡ from + (1 + place) = omega arith in
        elim (cases_Bool (nat_lt place count)) [
          | inl y ↦ let z : nat_lt (1 + place) (suc count) ≡ true = grind (arith, nat_tests) in rw (y, z, sum) refl
          | inr n ↦ let z : nat_lt (1 + place) (suc count) ≡ false = grind (arith, nat_tests) in rw (n, z) refl
        ]

module _ (bytes : List ℕ) (known : List (List ℕ)) where
  abbrev names : List (List ℕ × ℕ)
  names = placed_names 0 known

  zero_place : (test : Bool) (place : ℕ) → (if test then Some (0 + place) else None) ≡ (if test then Some place else None)
  zero_place true place = let e : 0 + place ≡ place = omega arith in rw e refl
  zero_place false place = refl

  named : (token : Token) → number_of names (token_text bytes token) ≡ named_by bytes known token
  named token = number_from 0 known (token_text bytes token) ∙ zero_place (nat_lt (position_or_len (bytes_eq (token_text bytes token)) known) (length known)) (position_or_len (bytes_eq (token_text bytes token)) known)

  abbrev is_unknown : Token → Bool
  is_unknown token = is_name token.kind && not (is_some (named_by bytes known token))

  number_if : (name : Bool) (found : Option ℕ) → (if name then found else Some 0) ≡ (if name && not (is_some found) then None else Some (if name then unwrap_or found 0 else 0))
  number_if true None = refl
  number_if true (Some number) = refl
  number_if false found = refl

  at_is : (token : Token) → number_at names bytes token ≡ (if is_unknown token then None else Some (number_for bytes known token))
  at_is token = ap (λ (found : Option ℕ). if is_name token.kind then found else Some 0) (named token) ∙ number_if (is_name token.kind) (named_by bytes known token)

  numbers_if : (one more : Bool) (number : ℕ) (others : List ℕ)
      → option_and_then (λ n. option_map (λ rest. n ∷ rest) (if more then None else Some others)) (if one then None else Some number) ≡ (if one || more then None else Some (number ∷ others))
  numbers_if true more number others = refl
  numbers_if false true number others = refl
  numbers_if false false number others = refl

  numbers_are : (tokens : List Token) → numbers names bytes tokens ≡ (if names_unknown bytes known tokens then None else Some (map (number_for bytes known) tokens))
  numbers_are [] = refl
  numbers_are (token ∷ after) =
      rw (numbers_are after, at_is token) (numbers_if (is_unknown token) (names_unknown bytes known after) (number_for bytes known token) (map (number_for bytes known) after))

  -- ---- formulas

  abbrev with_more : List Formula → OrRefused (List Formula) → OrRefused (List Formula)
  with_more before rest = on_ok (λ more. before ++ more) rest

  module _ (line : ℕ) where
    one_if : (formula : Formula) (tokens : List Token) (unknown : Bool) (of : List ℕ) (rest : OrRefused (List Formula))
        → and_then (λ one. on_ok (λ more. one ∷ more) rest) (one_numbered (record { line = line; tokens = tokens; formula = formula }) (if unknown then None else Some of))
        ≡ unless_refused (refusal_at line (fault_if unknown reason.Unknown)) (with_more (numbered of formula ∷ []) rest)
    one_if formula tokens true of rest = refl
    one_if formula tokens false of (Ok more) = refl
    one_if formula tokens false of (Err refused) = refl

    stated_one : (tokens : List Token) (answer : Result Formula FormulaError) → formula_answer tokens ≡ answer → IsParsed tokens → (rest : List StatedFormula)
        → constraints_of names bytes (stated_by line tokens ++ rest) ≡ unless_refused (refusal_at line (fault_if (names_unknown bytes known tokens) reason.Unknown)) (with_more (filter_map (constraint_of bytes known) (tokens ∷ [])) (constraints_of names bytes rest))
    unfolding constraints_of
    stated_one tokens (Err error) e ok rest =
        let fault : formula_fault tokens ≡ Some (reason_of error) = rw (e, formula_fault) refl in
        let none : formula_fault tokens ≡ None = ok in
        absurd (cc)
    stated_one tokens (Ok formula) e ok rest =
        let unknown = names_unknown bytes known tokens in
        let of = map (number_for bytes known) tokens in
        let more = constraints_of names bytes rest in
        let mine : filter_map (constraint_of bytes known) (tokens ∷ []) ≡ numbered of formula ∷ [] = rw (e, constraint_of) refl in
        let stated : stated_by line tokens ≡ record { line = line; tokens = tokens; formula = formula } ∷ [] = ap (stated_if line tokens) e in
        let read : constraints_of names bytes (stated_by line tokens ++ rest) ≡ and_then (λ one. on_ok (λ others. one ∷ others) more) (one_numbered (record { line = line; tokens = tokens; formula = formula }) (numbers names bytes tokens)) = rw stated refl in
        read ∙ rw (numbers_are tokens) (one_if formula tokens unknown of more)
        ∙ ap (λ (all : List Formula). unless_refused (refusal_at line (fault_if unknown reason.Unknown)) (with_more all more)) (sym mine)

    twice_if : (one other : Bool) (before after : List Formula) (rest : OrRefused (List Formula))
        → unless_refused (refusal_at line (fault_if one reason.Unknown)) (with_more before (unless_refused (refusal_at line (fault_if other reason.Unknown)) (with_more after rest)))
        ≡ unless_refused (refusal_at line (fault_if (one || other) reason.Unknown)) (with_more (before ++ after) rest)
    twice_if true other before after rest = refl
    twice_if false true before after rest = refl
    twice_if false false before after (Ok more) = ap (λ (all : List Formula). Ok all) (sym (append_assoc before after more))
    twice_if false false before after (Err refused) = refl

    stated_line : (formulas : List (List Token)) → Each IsParsed formulas → (rest : List StatedFormula)
        → constraints_of names bytes (all_stated line formulas ++ rest) ≡ unless_refused (refusal_at line (fault_if (list_any (names_unknown bytes known) formulas) reason.Unknown)) (with_more (filter_map (constraint_of bytes known) formulas) (constraints_of names bytes rest))
    stated_line [] ok rest = same (constraints_of names bytes rest)
      where
        same : (read : OrRefused (List Formula)) → read ≡ with_more [] read
        same (Ok more) = refl
        same (Err refused) = refl
    stated_line (tokens ∷ others) ok rest =
        let one = names_unknown bytes known tokens in
        let other = list_any (names_unknown bytes known) others in
        let mine = filter_map (constraint_of bytes known) (tokens ∷ []) in
        let theirs = filter_map (constraint_of bytes known) others in
        ap (constraints_of names bytes) (append_assoc (stated_by line tokens) (all_stated line others) rest)
        ∙ stated_one tokens (formula_answer tokens) refl ok.0 (all_stated line others ++ rest)
        ∙ ap (λ (after : OrRefused (List Formula)). unless_refused (refusal_at line (fault_if one reason.Unknown)) (with_more mine after)) (stated_line others ok.1 rest)
        ∙ twice_if one other mine theirs (constraints_of names bytes rest)
        ∙ ap (λ (all : List Formula). unless_refused (refusal_at line (fault_if (one || other) reason.Unknown)) (with_more all (constraints_of names bytes rest))) (sym (filter_map-append (constraint_of bytes known) (tokens ∷ []) others))

  abbrev constraints_on : List PlacedLine → List Formula
  constraints_on placed = filter_map (constraint_of bytes known) (flat_map (λ at. formulas_on bytes at.kind at.line.tokens) placed)

  lines_if : (here later : Option Refusal) (before after : List Formula) → unless_refused here (with_more before (unless_refused later (Ok after))) ≡ unless_refused (first_of here later) (Ok (before ++ after))
  lines_if None None before after = refl
  lines_if None (Some refused) before after = refl
  lines_if (Some refused) later before after = refl

  pub constraints_are : (placed : List PlacedLine) → Each (λ at. Each IsParsed (formulas_on bytes at.kind at.line.tokens)) placed
      → constraints_of names bytes (flat_map (line_stated bytes) placed) ≡ unless_refused (first_unknown bytes known placed) (Ok (constraints_on placed))
  unfolding constraints_of
  constraints_are [] ok = refl
  constraints_are (at ∷ placed) ok =
      let formulas = formulas_on bytes at.kind at.line.tokens in
      let here = refusal_at at.line.number (fault_if (list_any (names_unknown bytes known) formulas) reason.Unknown) in
      stated_line at.line.number formulas ok.0 (flat_map (line_stated bytes) placed)
      ∙ ap (λ (rest : OrRefused (List Formula)). unless_refused here (with_more (filter_map (constraint_of bytes known) formulas) rest)) (constraints_are placed ok.1)
      ∙ lines_if here (first_unknown bytes known placed) (filter_map (constraint_of bytes known) formulas) (constraints_on placed)
      ∙ ap (λ (all : List Formula). unless_refused (first_of here (first_unknown bytes known placed)) (Ok all)) (sym (filter_map-append (constraint_of bytes known) formulas (flat_map (λ at. formulas_on bytes at.kind at.line.tokens) placed)))
