-- One line more, as the definition refuses it or not.
use Rattle.std.proofs.Common.{◌≡◌, ℕ, ◌&&◌, nat_le, nat_lt, List, [], ◌∷◌, ◌++◌, length, Option, Some, None, Result, Ok, Err, refl, sym, ap, ◌∙◌, append_assoc, append-nil}
use Rattle.std.specs.List.{list_any, list_all}
use Rattle.std.specs.Option.{is_some, is_none}
use Rattle.std.specs.Str.{bytes_eq}
use Rattle.feature_tree.specs.declared.formula.Formula.{Formula}
use Rattle.feature_tree.specs.declared.reader.error.FormulaError.{FormulaError}
use Rattle.feature_tree.specs.FormulaAnswer.{formula_answer}
use Rattle.name_table.specs.Numbers.{number_of}
use Rattle.uvl_lex.specs.declared.token.Line.{Line}
use Rattle.uvl_lex.specs.declared.token.Token.{Token}
use Rattle.uvl_lex.specs.Text.{token_text}
use Rattle.uvl_reader.specs.declared.error.Reason.{Reason}
use Rattle.uvl_reader.specs.declared.error.Reason.TheVariants as reason
use Rattle.uvl_reader.specs.declared.header.Header.{Header}
use Rattle.uvl_reader.specs.declared.kind.LineKind.{LineKind}
use Rattle.uvl_reader.specs.declared.kind.LineKind.TheVariants.{SectionLine, FeatureLine, GroupLine, ConstraintLine, NoLine}
use Rattle.uvl_reader.specs.declared.kind.Section.{Section}
use Rattle.uvl_reader.specs.Nesting.{lines_above}
use Rattle.uvl_reader.specs.LineKinds.{is_one, has_root, place_of}
use Rattle.uvl_reader.specs.Shapes.{FeatureShape, header_of, feature_of, is_unsupported}
use Rattle.uvl_reader.specs.Attributes.{items_of, formulas_of_item}
use Rattle.uvl_reader.specs.Refusals.{Refusal, first_of, fault_if, refusal_at, reason_of, formula_fault, formulas_fault, item_fault, items_fault, sections_of, comes_before, section_fault, names_of, depth_of, shape_fault, kind_fault}
use Rattle.uvl_reader.specs.inside.Standing.{OrRefused, and_then, on_ok, unless, unless_refused, StatedFormula, with_formula, with_tokens, with_all, with_listed, with_items, is_single, Standing, section_fault_at, with_header, after_feature, with_shape, place_fault, name_fault, with_feature, after_constraint, after_kind}
use Rattle.uvl_reader.specs.inside.Next.{stated_if, stated_by, all_stated, listed_stated, items_stated, next_section, next_group, next_feature, next_constraint, next_kind}

-- ---- refusals, one after the other

module _ {A : Type 0} where
  pub unless_first : (line : ℕ) (one other : Option Reason) (read : OrRefused A) → unless line (first_of one other) read ≡ unless line one (unless line other read)
  unless_first line None other read = refl
  unless_first line (Some fault) other read = refl

  pub refused_first : (one other : Option Refusal) (read : OrRefused A) → unless_refused (first_of one other) read ≡ unless_refused one (unless_refused other read)
  refused_first None other read = refl
  refused_first (Some fault) other read = refl

  pub refused_at : (line : ℕ) (fault : Option Reason) (read : OrRefused A) → unless_refused (refusal_at line fault) read ≡ unless line fault read
  refused_at line None read = refl
  refused_at line (Some fault) read = refl

pub first_assoc : {A : Type 0} (one other last : Option A) → first_of (first_of one other) last ≡ first_of one (first_of other last)
first_assoc None other last = refl
first_assoc (Some one) other last = refl

then_unless : {A B : Type 0} (f : A → OrRefused B) (line : ℕ) (fault : Option Reason) (read : OrRefused A) → and_then f (unless line fault read) ≡ unless line fault (and_then f read)
then_unless f line None read = refl
then_unless f line (Some fault) read = refl

ok_unless : {A B : Type 0} (f : A → B) (line : ℕ) (fault : Option Reason) (read : OrRefused A) → on_ok f (unless line fault read) ≡ unless line fault (on_ok f read)
ok_unless f line None read = refl
ok_unless f line (Some fault) read = refl

-- ---- formulas

module _ (line : ℕ) where
  formula_if : (before : List StatedFormula) (tokens : List Token) (answer : Result Formula FormulaError)
      → with_formula line tokens before answer ≡ unless line (elim answer [ Ok read ↦ None | Err error ↦ Some (reason_of error) ]) (Ok (before ++ stated_if line tokens answer))
  formula_if before tokens (Ok formula) = refl
  formula_if before tokens (Err error) = refl

  pub tokens_read : (before : List StatedFormula) (tokens : List Token) → with_tokens line before tokens ≡ unless line (formula_fault tokens) (Ok (before ++ stated_by line tokens))
  tokens_read before tokens = formula_if before tokens (formula_answer tokens)

  all_read : (formulas : List (List Token)) (before : List StatedFormula) → with_all line before formulas ≡ unless line (formulas_fault formulas) (Ok (before ++ all_stated line formulas))
  unfolding with_all
  all_read [] before = ap (λ (all : List StatedFormula). Ok all) (sym (append-nil before))
  all_read (tokens ∷ others) before =
      ap (and_then (λ after. with_all line after others)) (tokens_read before tokens)
      ∙ then_unless (λ after. with_all line after others) line (formula_fault tokens) (Ok (before ++ stated_by line tokens))
      ∙ ap (unless line (formula_fault tokens)) (all_read others (before ++ stated_by line tokens)
      ∙ ap (λ (all : List StatedFormula). unless line (formulas_fault others) (Ok all)) (append_assoc before (stated_by line tokens) (all_stated line others)))
      ∙ sym (unless_first line (formula_fault tokens) (formulas_fault others) (Ok (before ++ all_stated line (tokens ∷ others))))

  listed_read : (before : List StatedFormula) (formulas : Option (List (List Token))) → with_listed line before formulas ≡ unless line (item_fault formulas) (Ok (before ++ listed_stated line formulas))
  listed_read before None = refl
  listed_read before (Some formulas) = all_read formulas before

  pub items_read : (bytes : List ℕ) (items : List (List Token)) (before : List StatedFormula) → with_items bytes line before items ≡ unless line (items_fault bytes items) (Ok (before ++ items_stated bytes line items))
  unfolding with_items
  items_read bytes [] before = ap (λ (all : List StatedFormula). Ok all) (sym (append-nil before))
  items_read bytes (item ∷ others) before =
      let listed = formulas_of_item bytes item in
      ap (and_then (λ after. with_items bytes line after others)) (listed_read before listed)
      ∙ then_unless (λ after. with_items bytes line after others) line (item_fault listed) (Ok (before ++ listed_stated line listed))
      ∙ ap (unless line (item_fault listed)) (items_read bytes others (before ++ listed_stated line listed)
      ∙ ap (λ (all : List StatedFormula). unless line (items_fault bytes others) (Ok all)) (append_assoc before (listed_stated line listed) (items_stated bytes line others)))
      ∙ sym (unless_first line (item_fault listed) (items_fault bytes others) (Ok (before ++ items_stated bytes line (item ∷ others))))

-- ---- a line by its kind

-- what is needed of what was read, to judge a line more
pub record Judges (bytes : List ℕ) (before : List Line) (line : Line) (read : Standing) : Type 0 where
  pub single : is_single read.open_now ≡ is_one (lines_above before line.indent)
  pub depth : length read.open_now ≡ length (lines_above before line.indent)
  pub sections : (place : ℕ) → list_all (comes_before place) (sections_of before) ≡ nat_le read.next place
  pub root : is_some read.tree ≡ has_root before
  pub count : length read.names ≡ length (names_of bytes before)
  pub names : (name : List ℕ) → is_some (number_of read.names name) ≡ list_any (bytes_eq name) (names_of bytes before)

module _ (bytes : List ℕ) (before : List Line) (line : Line) (read : Standing) (judges : Judges bytes before line read) where
  sections_same : (section : Option Section) → section_fault_at read.next section line.tokens ≡ section_fault before section line.tokens
  sections_same None = refl
  sections_same (Some section) = rw (judges.sections (place_of section)) refl

  group_read : (header : Option Header) → with_header read line header ≡ unless line.number (fault_if (is_none header) reason.BadGroup) (Ok (next_group read line header))
  group_read None = refl
  group_read (Some header) = refl

  names_same : (name : List ℕ) → name_fault read.names name ≡ first_of (fault_if (nat_le 65535 (length (names_of bytes before))) reason.TooMany) (fault_if (list_any (bytes_eq name) (names_of bytes before)) reason.Twice)
  names_same name = rw (judges.count, judges.names name) refl

  shape_read : (shape : Option FeatureShape) → with_shape bytes read line shape ≡ unless line.number (shape_fault bytes (names_of bytes before) shape) (Ok (next_feature bytes read line shape))
  shape_read None = refl
  shape_read (Some shape) =
      let name = token_text bytes shape.name in
      let items = items_of shape.attributes in
      let many = fault_if (nat_le 65535 (length (names_of bytes before))) reason.TooMany in
      let twice = fault_if (list_any (bytes_eq name) (names_of bytes before)) reason.Twice in
      let done : List StatedFormula → Standing = λ stated. with_feature (record read { stated = stated }) line.indent name in
      let last : OrRefused Standing = Ok (next_feature bytes read line (Some shape)) in
      ap (λ (fault : Option Reason). unless line.number fault (on_ok done (with_items bytes line.number read.stated items))) (names_same name)
      ∙ ap (λ (all : OrRefused (List StatedFormula)). unless line.number (first_of many twice) (on_ok done all)) (items_read line.number bytes items read.stated)
      ∙ ap (unless line.number (first_of many twice)) (ok_unless done line.number (items_fault bytes items) (Ok (read.stated ++ items_stated bytes line.number items)))
      ∙ sym (unless_first line.number (first_of many twice) (items_fault bytes items) last)
      ∙ ap (λ (fault : Option Reason). unless line.number fault last) (first_assoc many twice (items_fault bytes items))

  place_same : place_fault read line.tokens ≡ first_of (fault_if (is_one (lines_above before line.indent) && has_root before) reason.Misplaced) (first_of (fault_if (nat_lt 1000 (depth_of (lines_above before line.indent))) reason.TooDeep) (fault_if (is_unsupported line.tokens) reason.Unsupported))
  place_same = rw (judges.single, judges.root, judges.depth) refl

  feature_read : after_feature bytes read line ≡ unless line.number (kind_fault bytes before line FeatureLine) (Ok (next_feature bytes read line (feature_of line.tokens)))
  feature_read =
      let misplaced = fault_if (is_one (lines_above before line.indent) && has_root before) reason.Misplaced in
      let deep = fault_if (nat_lt 1000 (depth_of (lines_above before line.indent))) reason.TooDeep in
      let beyond = fault_if (is_unsupported line.tokens) reason.Unsupported in
      let shape = shape_fault bytes (names_of bytes before) (feature_of line.tokens) in
      let last : OrRefused Standing = Ok (next_feature bytes read line (feature_of line.tokens)) in
      ap (λ (fault : Option Reason). unless line.number fault (with_shape bytes read line (feature_of line.tokens))) place_same
      ∙ ap (unless line.number (first_of misplaced (first_of deep beyond))) (shape_read (feature_of line.tokens))
      ∙ sym (unless_first line.number (first_of misplaced (first_of deep beyond)) shape last)
      ∙ ap (λ (fault : Option Reason). unless line.number fault last) (first_assoc misplaced (first_of deep beyond) shape ∙ ap (first_of misplaced) (first_assoc deep beyond shape))

  constraint_read : after_constraint read line ≡ unless line.number (formula_fault line.tokens) (Ok (next_constraint read line))
  constraint_read =
      let done : List StatedFormula → Standing = λ stated. record read { stated = stated; open_now = record { indent = line.indent; kind = ConstraintLine; feature = 0 } ∷ read.open_now } in
      ap (on_ok done) (tokens_read line.number read.stated line.tokens)
      ∙ ok_unless done line.number (formula_fault line.tokens) (Ok (read.stated ++ stated_by line.number line.tokens))

  pub kind_read : (kind : LineKind) → after_kind bytes read line kind ≡ unless line.number (kind_fault bytes before line kind) (Ok (next_kind bytes read line kind))
  unfolding after_kind next_kind
  kind_read (SectionLine section) = ap (λ (fault : Option Reason). unless line.number fault (Ok (next_section read line section))) (sections_same section)
  kind_read FeatureLine = feature_read
  kind_read GroupLine = group_read (header_of bytes line.tokens)
  kind_read ConstraintLine = constraint_read
  kind_read NoLine = refl
