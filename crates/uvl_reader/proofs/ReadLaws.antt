-- Refusals go through, one formula, item or line after the other.
use Rattle.std.proofs.Common.{◌≡◌, ℕ, zero, suc, ◌+◌, ◌<◌, ◌==◌, true, false, List, [], ◌∷◌, ◌++◌, length, get_or, drop, map, All, Option, Some, None, Ok, Err, refl, sym, ap, subst, ◌∙◌, arith, append_assoc, append-nil, inl, inr}
use Rattle.std.proofs.lemmas.Bool.{cases_Bool}
use Rattle.std.proofs.lemmas.Bool.Decides.{nat_tests}
use Rattle.std.proofs.lemmas.List.{at_drop_more}
use Rattle.std.proofs.lemmas.List.Elements.{All-nil, All-cons, All-head, All-tail, All-map, All-weaker}
use Rattle.std.specs.List.{slice_get}
use Rattle.std.specs.Option.{option_and_then, option_map, unwrap_or}
use Rattle.std.specs.Str.{bytes_eq}
use Rattle.feature_tree.specs.Names.{names as names_in, NamesBelow}
use Rattle.feature_tree.specs.Numbered.{numbered, number_at as number_in}
use Rattle.feature_tree.proofs.NumberedLaws.{numbered-names}
use Rattle.name_table.specs.Numbers.{number_of}
use Rattle.uvl_lex.specs.Text.{token_text}
use Rattle.uvl_reader.specs.Attributes.{items_of}
use Rattle.uvl_reader.specs.Shapes.{is_name}
use Rattle.uvl_reader.specs.inside.Good.{placed_names, IsStated}
use Rattle.uvl_reader.specs.inside.Standing.{number_at}
use Rattle.feature_tree.specs.declared.formula.Formula.{Formula}
use Rattle.name_table.specs.Numbers.{Numbers}
use Rattle.uvl_lex.specs.declared.token.Line.{Line}
use Rattle.uvl_lex.specs.declared.token.Token.{Token}
use Rattle.uvl_reader.specs.declared.error.ModelError.{ModelError}
use Rattle.uvl_reader.specs.declared.error.ModelError.TheVariants.{Refused, Memory}
use Rattle.uvl_reader.specs.declared.error.Reason.TheVariants as reason
use Rattle.uvl_reader.specs.Attributes.{formulas_of_item}
use Rattle.uvl_reader.specs.inside.Standing.{OrRefused, and_then, on_ok, refuse, IsRefused, StatedFormula, with_tokens, with_all, with_listed, with_items, Standing, after_line, after_lines, numbers, one_numbered, constraints_of}

module _ {A B : Type 0} where
  pub refused_then : (f : A → OrRefused B) (e : ModelError) (read : OrRefused A) → IsRefused e read → IsRefused e (and_then f read)
  refused_then f (Refused line reason) read r = ap (and_then f) r
  refused_then f Memory read r = tt

  pub refused_ok : (f : A → B) (e : ModelError) (read : OrRefused A) → IsRefused e read → IsRefused e (on_ok f read)
  refused_ok f (Refused line reason) read r = ap (on_ok f) r
  refused_ok f Memory read r = tt

module _ (line : ℕ) where
  pub all_next : (before after : List StatedFormula) (tokens : List Token) (others : List (List Token)) → with_tokens line before tokens ≡ Ok after → with_all line before (tokens ∷ others) ≡ with_all line after others
  unfolding with_all
  all_next before after tokens others e = ap (and_then (λ now. with_all line now others)) e

  pub all_refused : (before : List StatedFormula) (tokens : List Token) (others : List (List Token)) (e : ModelError) → IsRefused e (with_tokens line before tokens) → IsRefused e (with_all line before (tokens ∷ others))
  unfolding with_all
  all_refused before tokens others e r = refused_then (λ now. with_all line now others) e (with_tokens line before tokens) r

  pub all_end : (before : List StatedFormula) → with_all line before [] ≡ Ok before
  unfolding with_all
  all_end before = refl

  module _ (bytes : List ℕ) where
    pub items_next : (before after : List StatedFormula) (item : List Token) (others : List (List Token)) → with_listed line before (formulas_of_item bytes item) ≡ Ok after → with_items bytes line before (item ∷ others) ≡ with_items bytes line after others
    unfolding with_items
    items_next before after item others e = ap (and_then (λ now. with_items bytes line now others)) e

    pub items_refused : (before : List StatedFormula) (item : List Token) (others : List (List Token)) (e : ModelError) → IsRefused e (with_listed line before (formulas_of_item bytes item)) → IsRefused e (with_items bytes line before (item ∷ others))
    unfolding with_items
    items_refused before item others e r = refused_then (λ now. with_items bytes line now others) e (with_listed line before (formulas_of_item bytes item)) r

    pub items_end : (before : List StatedFormula) → with_items bytes line before [] ≡ Ok before
    unfolding with_items
    items_end before = refl

    -- no attributes are one empty item
    pub no_attributes : (before : List StatedFormula) → with_items bytes line before ([] ∷ []) ≡ Ok before
    unfolding with_items with_all
    no_attributes before = refl

  pub nothing_read : (bytes : List ℕ) (before : List StatedFormula) (tokens : List Token) → (length tokens == 0) ≡ true → with_items bytes line before (items_of tokens) ≡ Ok before
  nothing_read bytes before [] e = no_attributes bytes before
  nothing_read bytes before (token ∷ tokens) e = let n : (suc (length tokens) == 0) ≡ false = grind (arith, nat_tests) in absurd (cc)

  -- at a place of a list of what shows as lists of tokens
  module _ {X : Type 0} (show : X → List Token) (xs : List X) (i : ℕ) (d : X) (l : i < length xs) (before : List StatedFormula) (whole : OrRefused (List StatedFormula)) where
    pub all_next_at : (after : List StatedFormula) → whole ≡ with_all line before (map show (drop i xs)) → with_tokens line before (show (get_or xs i d)) ≡ Ok after → whole ≡ with_all line after (map show (drop (i + 1) xs))
    all_next_at after w e = w ∙ at_drop_more (λ (left : List X). with_all line before (map show left)) xs i d l ∙ all_next before after (show (get_or xs i d)) (map show (drop (i + 1) xs)) e

    pub all_refused_at : (e : ModelError) → whole ≡ with_all line before (map show (drop i xs)) → IsRefused e (with_tokens line before (show (get_or xs i d))) → IsRefused e whole
    all_refused_at e w r = rw (w ∙ at_drop_more (λ (left : List X). with_all line before (map show left)) xs i d l) (all_refused before (show (get_or xs i d)) (map show (drop (i + 1) xs)) e r)

    pub items_next_at : (bytes : List ℕ) (after : List StatedFormula) → whole ≡ with_items bytes line before (map show (drop i xs)) → with_listed line before (formulas_of_item bytes (show (get_or xs i d))) ≡ Ok after → whole ≡ with_items bytes line after (map show (drop (i + 1) xs))
    items_next_at bytes after w e = w ∙ at_drop_more (λ (left : List X). with_items bytes line before (map show left)) xs i d l ∙ items_next bytes before after (show (get_or xs i d)) (map show (drop (i + 1) xs)) e

    pub items_refused_at : (bytes : List ℕ) (e : ModelError) → whole ≡ with_items bytes line before (map show (drop i xs)) → IsRefused e (with_listed line before (formulas_of_item bytes (show (get_or xs i d)))) → IsRefused e whole
    items_refused_at bytes e w r = rw (w ∙ at_drop_more (λ (left : List X). with_items bytes line before (map show left)) xs i d l) (items_refused bytes before (show (get_or xs i d)) (map show (drop (i + 1) xs)) e r)

module _ (bytes : List ℕ) where
  pub lines_next : (before after : Standing) (line : Line) (lines : List Line) → after_line bytes before line ≡ Ok after → after_lines bytes before (line ∷ lines) ≡ after_lines bytes after lines
  unfolding after_lines
  lines_next before after line lines e = ap (and_then (λ now. after_lines bytes now lines)) e

  pub lines_refused : (before : Standing) (line : Line) (lines : List Line) (e : ModelError) → IsRefused e (after_line bytes before line) → IsRefused e (after_lines bytes before (line ∷ lines))
  unfolding after_lines
  lines_refused before line lines e r = refused_then (λ now. after_lines bytes now lines) e (after_line bytes before line) r

  pub lines_end : (before : Standing) → after_lines bytes before [] ≡ Ok before
  unfolding after_lines
  lines_end before = refl

-- ---- constraints

module _ (names : Numbers) (bytes : List ℕ) where
  cons_after : (before : List Formula) (formula : Formula) (rest : OrRefused (List Formula))
      → on_ok (λ (more : List Formula). before ++ more) (on_ok (λ (more : List Formula). formula ∷ more) rest) ≡ on_ok (λ (more : List Formula). (before ++ formula ∷ []) ++ more) rest
  cons_after before formula (Ok more) = ap (λ (all : List Formula). Ok all) (sym (append_assoc before (formula ∷ []) more))
  cons_after before formula (Err refused) = refl

  pub constraints_next : (before : List Formula) (one : StatedFormula) (others : List StatedFormula) (of : List ℕ) → numbers names bytes one.tokens ≡ Some of
      → on_ok (λ (more : List Formula). before ++ more) (constraints_of names bytes (one ∷ others)) ≡ on_ok (λ (more : List Formula). (before ++ numbered of one.formula ∷ []) ++ more) (constraints_of names bytes others)
  unfolding constraints_of
  constraints_next before one others of e = rw e (cons_after before (numbered of one.formula) (constraints_of names bytes others))

  pub constraints_refused : (before : List Formula) (one : StatedFormula) (others : List StatedFormula) → numbers names bytes one.tokens ≡ None
      → on_ok (λ (more : List Formula). before ++ more) (constraints_of names bytes (one ∷ others)) ≡ refuse one.line reason.Unknown
  unfolding constraints_of
  constraints_refused before one others e = rw e refl

  pub constraints_end : (before : List Formula) → on_ok (λ (more : List Formula). before ++ more) (constraints_of names bytes []) ≡ Ok before
  unfolding constraints_of
  constraints_end before = ap (λ (all : List Formula). Ok all) (append-nil before)

  long_if : (found : Option ℕ) (others : Option (List ℕ)) (of : List ℕ) (count : ℕ) → ((rest : List ℕ) → others ≡ Some rest → length rest ≡ count) → option_and_then (λ (n : ℕ). option_map (λ (rest : List ℕ). n ∷ rest) others) found ≡ Some of → length of ≡ suc count
  long_if None others of count h e = absurd (cc)
  long_if (Some n) None of count h e = absurd (cc)
  long_if (Some n) (Some rest) of count h e = let same : n ∷ rest ≡ of = cc in subst (λ (all : List ℕ). length all ≡ suc count) same (ap suc (h rest refl))

  pub numbers_long : (tokens : List Token) (of : List ℕ) → numbers names bytes tokens ≡ Some of → length of ≡ length tokens
  numbers_long [] of e = let same : [] ≡ of = cc in subst (λ (all : List ℕ). length all ≡ 0) same refl
  numbers_long (token ∷ tokens) of e = long_if (number_at names bytes token) (numbers names bytes tokens) of (length tokens) (λ rest is. numbers_long tokens rest is) e

-- ---- each name is the number of a feature

beside_below : (from : ℕ) (known : List (List ℕ)) (name : List ℕ) (found : ℕ) → number_of (placed_names from known) name ≡ Some found → found < from + length known
beside_below from [] name found e = absurd (cc)
beside_below from (first ∷ known) name found e =
    elim (cases_Bool (bytes_eq name first)) [
      | inl y ↦ let is : Some from ≡ Some found = rw y at e in let same : from ≡ found = cc in omega arith
      | inr n ↦ let later = beside_below (from + 1) known name found (rw n at e) in omega arith
    ]

number_in_below : (count d : ℕ) (of : List ℕ) (name : ℕ) → All (λ number. number < count) of → name < length of → unwrap_or (slice_get of name) d < count
number_in_below count d [] name all l = absurd (omega arith)
number_in_below count d (first ∷ of) zero all l = All-head (λ number. number < count) first of all
number_in_below count d (first ∷ of) (suc name) all l = number_in_below count d of name (All-tail (λ number. number < count) first of all) (omega arith)

numbered_below : (count : ℕ) (of : List ℕ) (formula : Formula) → All (λ number. number < count) of → NamesBelow (length of) formula → NamesBelow count (numbered of formula)
numbered_below count of formula all below =
    rw (numbered-names of formula)
    (All-map (λ number. number < count) (number_in of) (names_in formula)
    (All-weaker (λ name. name < length of) (λ name. number_in of name < count) (λ name l. number_in_below count name of name all l) (names_in formula) below))

module _ (known : List (List ℕ)) (bytes : List ℕ) (some : 0 < length known) where
  abbrev beside : Numbers
  beside = placed_names 0 known

  token_below : (token : Token) (number : ℕ) → number_at beside bytes token ≡ Some number → number < length known
  token_below token number e =
      elim (cases_Bool (is_name token.kind)) [
        | inl y ↦ let l = beside_below 0 known (token_text bytes token) number (rw y at e) in omega arith
        | inr n ↦ let is : Some 0 ≡ Some number = rw n at e in let same : 0 ≡ number = cc in omega arith
      ]

  joined_below : (found : Option ℕ) (others : Option (List ℕ)) (of : List ℕ) → ((number : ℕ) → found ≡ Some number → number < length known) → ((rest : List ℕ) → others ≡ Some rest → All (λ number. number < length known) rest)
      → option_and_then (λ (number : ℕ). option_map (λ (rest : List ℕ). number ∷ rest) others) found ≡ Some of → All (λ number. number < length known) of
  joined_below None others of one rest e = absurd (cc)
  joined_below (Some number) None of one rest e = absurd (cc)
  joined_below (Some number) (Some found) of one rest e =
      let same : number ∷ found ≡ of = cc in
      subst (All (λ number. number < length known)) same (All-cons (λ number. number < length known) number found (one number refl) (rest found refl))

  numbers_below : (tokens : List Token) (of : List ℕ) → numbers beside bytes tokens ≡ Some of → All (λ number. number < length known) of
  numbers_below [] of e = let same : [] ≡ of = cc in subst (All (λ number. number < length known)) same (All-nil (λ number. number < length known))
  numbers_below (token ∷ tokens) of e =
      joined_below (number_at beside bytes token) (numbers beside bytes tokens) of (λ number is. token_below token number is) (λ rest is. numbers_below tokens rest is) e

  more_below : (one : StatedFormula) (found : Option (List ℕ)) (rest : OrRefused (List Formula)) (all : List Formula) → numbers beside bytes one.tokens ≡ found → IsStated bytes one
      → ((more : List Formula) → rest ≡ Ok more → All (NamesBelow (length known)) more) → and_then (λ (formula : Formula). on_ok (λ (more : List Formula). formula ∷ more) rest) (one_numbered one found) ≡ Ok all → All (NamesBelow (length known)) all
  more_below one None rest all e stated h is = absurd (cc)
  more_below one (Some of) (Err refused) all e stated h is = absurd (cc)
  more_below one (Some of) (Ok more) all e stated h is =
      let same : numbered of one.formula ∷ more ≡ all = cc in
      let long = numbers_long beside bytes one.tokens of e in
      let names : NamesBelow (length of) one.formula = subst (λ count. NamesBelow count one.formula) (sym long) stated.names in
      subst (All (NamesBelow (length known))) same (All-cons (NamesBelow (length known)) (numbered of one.formula) more (numbered_below (length known) of one.formula (numbers_below one.tokens of e) names) (h more refl))

  pub constraints_below : (stated : List StatedFormula) (all : List Formula) → constraints_of beside bytes stated ≡ Ok all → All (IsStated bytes) stated → All (NamesBelow (length known)) all
  unfolding constraints_of
  constraints_below [] all e h = let same : [] ≡ all = cc in subst (All (NamesBelow (length known))) same (All-nil (NamesBelow (length known)))
  constraints_below (one ∷ others) all e h =
      more_below one (numbers beside bytes one.tokens) (constraints_of beside bytes others) all refl (All-head (IsStated bytes) one others h)
      (λ more is. constraints_below others more is (All-tail (IsStated bytes) one others h)) e
