-- What the code has read of some lines, in the definition's terms; and that the definition refuses a line where the code does.
use Rattle.std.proofs.Common.{◌≡◌, ℕ, suc, ◌+◌, ◌||◌, not, nat_le, nat_lt, Bool, true, false, if◌then◌else◌, List, [], ◌∷◌, ◌++◌, length, map, Option, Some, None, Ok, refl, sym, ap, ◌∙◌, arith, length-append, inl, inr}
use Rattle.std.proofs.lemmas.Bool.{cases_Bool}
use Rattle.std.proofs.lemmas.List.{map-append}
use Rattle.std.proofs.lemmas.List.Folds.{list_any-append}
use Rattle.std.specs.List.{flat_map, list_any, list_all}
use Rattle.std.specs.Option.{is_some}
use Rattle.std.specs.Str.{bytes_eq}
use Rattle.feature_tree.specs.declared.feature.Feature.{Feature}
use Rattle.feature_tree.specs.Growing.{changed_at, with_last_group}
use Rattle.name_table.specs.Numbers.{Numbers, number_of as number_beside}
use Rattle.uvl_lex.specs.declared.token.Line.{Line}
use Rattle.uvl_lex.specs.declared.token.Token.{Token}
use Rattle.uvl_reader.specs.declared.error.Reason.TheVariants as reason
use Rattle.uvl_reader.specs.declared.header.Header.{Header}
use Rattle.uvl_reader.specs.declared.kind.LineKind.{LineKind}
use Rattle.uvl_reader.specs.declared.kind.LineKind.TheVariants.{SectionLine, FeatureLine, GroupLine, ConstraintLine, NoLine}
use Rattle.uvl_reader.specs.declared.pending.Pending.{Pending}
use Rattle.uvl_reader.specs.declared.stack.Open.{Open}
use Rattle.uvl_reader.specs.Nesting.{lines_above, open_lines, has_place}
use Rattle.uvl_reader.specs.LineKinds.{kind_by, kind_of, is_feature, is_group, has_root}
use Rattle.uvl_reader.specs.Shapes.{header_of}
use Rattle.uvl_reader.specs.Refusals.{fault_if, refusal_at, formula_fault, feature_name, names_of, sections_of, comes_before, left_childless, refusal_of, line_fault, kind_fault}
use Rattle.uvl_reader.specs.ModelReading.{PlacedLine, features_of, feature_names, feature_on, formulas_on, number_of}
use Rattle.uvl_reader.specs.inside.Good.{placed_names}
use Rattle.uvl_reader.specs.inside.Standing.{OrRefused, unless, unless_refused, StatedFormula, Standing, nearest_of, is_deeper, is_single, fits, kind_at, still_open, pending_fault, after_close, after_judged}
use Rattle.uvl_reader.specs.inside.Next.{all_stated, next_kind, next_line, closed}
use Rattle.uvl_reader.proofs.StackLaws.{entries, entries_above, entries_fit, entries_kind, entries_single, entries_length}
use Rattle.uvl_reader.proofs.PlacedLaws.{Each, placed_of, place}
use Rattle.uvl_reader.proofs.GrowthLaws.{childless, features_push, features_push_none}
use Rattle.uvl_reader.proofs.StepLaws.{Judges, kind_read, unless_first, refused_first, refused_at}

-- ---- the definition's terms

abbrev pub parent_number : List PlacedLine → List Line → ℕ
parent_number placed [] = 0
parent_number placed (parent ∷ above) = number_of placed parent

abbrev pub owner_of_kind : List PlacedLine → Line → List Line → LineKind → ℕ
owner_of_kind placed line above (SectionLine section) = 0
owner_of_kind placed line above FeatureLine = number_of placed line
owner_of_kind placed line above GroupLine = parent_number placed above
owner_of_kind placed line above ConstraintLine = 0
owner_of_kind placed line above NoLine = 0

abbrev pub owner : List PlacedLine → Line → List Line → ℕ
owner placed line above = owner_of_kind placed line above (kind_by line.tokens above)

abbrev pub PendingIf : List ℕ → Line → Option Pending → Bool → Type 0
PendingIf bytes last pending false = pending ≡ None
PendingIf bytes last pending true = (header : Header) × (header_of bytes last.tokens ≡ Some header) × (pending ≡ Some (record { line = last.number; header = header }))

abbrev pub PendingOf : List ℕ → List Line → Option Pending → Type 0
PendingOf bytes [] pending = pending ≡ None
PendingOf bytes (last ∷ before) pending = PendingIf bytes last pending (is_group (kind_of before last))

abbrev pub with_pending : List Feature → Option Pending → ℕ → List Feature
with_pending features None owner = features
with_pending features (Some pending) owner = changed_at (with_last_group (childless pending.header)) features owner

abbrev pub owner_of : Option Open → ℕ
owner_of None = 0
owner_of (Some nearest) = nearest.feature

abbrev pub TreeOf : List ℕ → List PlacedLine → Option Pending → ℕ → Option (List Feature) → Type 0
TreeOf bytes placed pending owner None = features_of placed ≡ []
TreeOf bytes placed pending owner (Some features) = map (feature_on bytes placed) (features_of placed) ≡ with_pending features pending owner

abbrev pub line_stated : List ℕ → PlacedLine → List StatedFormula
line_stated bytes at = all_stated at.line.number (formulas_on bytes at.kind at.line.tokens)

-- each group among these lines, the nearest first, has a header
abbrev pub Headed : List ℕ → List Line → Type 0
Headed bytes [] = Unit {0}
Headed bytes (line ∷ above) = (is_group (kind_by line.tokens above) ≡ true → (header : Header) × (header_of bytes line.tokens ≡ Some header)) × Headed bytes above

-- the tokens are a formula
abbrev pub IsParsed : List Token → Type 0
IsParsed tokens = formula_fault tokens ≡ None

-- the first line, which is given last, isn't indented
abbrev pub Grounded : List Line → Type 0
Grounded [] = Unit {0}
Grounded (first ∷ []) = first.indent ≡ 0
Grounded (last ∷ before ∷ earlier) = Grounded (before ∷ earlier)

pub record Stands (bytes : List ℕ) (before : List Line) (read : Standing) : Type 0 where
  pub grounded : Grounded before
  pub headers : Headed bytes (open_lines before)
  pub open_is : read.open_now ≡ entries (owner (placed_of before)) (open_lines before)
  pub sections : (place : ℕ) → list_all (comes_before place) (sections_of before) ≡ nat_le read.next place
  pub pending : PendingOf bytes before read.pending
  pub names : read.names ≡ placed_names 0 (feature_names bytes (placed_of before))
  pub tree : TreeOf bytes (placed_of before) read.pending (owner_of (nearest_of read.open_now)) read.tree
  pub root : is_some read.tree ≡ has_root before
  pub parsed : Each (λ at. Each IsParsed (formulas_on bytes at.kind at.line.tokens)) (placed_of before)
  pub stated : read.stated ≡ flat_map (line_stated bytes) (placed_of before)

-- ---- names

pub names_count : (from : ℕ) (names : List (List ℕ)) → length (placed_names from names) ≡ length names
names_count from [] = refl
names_count from (name ∷ names) = ap suc (names_count (from + 1) names)

known_name : (from : ℕ) (names : List (List ℕ)) (name : List ℕ) → is_some (number_beside (placed_names from names) name) ≡ list_any (bytes_eq name) names
known_name from [] name = refl
known_name from (first ∷ names) name =
    elim (cases_Bool (bytes_eq name first)) [ inl y ↦ rw y refl | inr n ↦ rw n (known_name (from + 1) names name) ]

module _ (bytes : List ℕ) where
  pub names_push : (before : List Line) (last : Line) → is_feature (kind_of before last) ≡ true → feature_names bytes (placed_of (last ∷ before)) ≡ feature_names bytes (placed_of before) ++ feature_name bytes last ∷ []
  names_push before last y =
      ap (map (λ at. feature_name bytes at.line)) (features_push (placed_of before) (place before last) y)
      ∙ map-append (λ at. feature_name bytes at.line) (features_of (placed_of before)) (place before last ∷ [])

  pub names_keep : (before : List Line) (last : Line) → is_feature (kind_of before last) ≡ false → feature_names bytes (placed_of (last ∷ before)) ≡ feature_names bytes (placed_of before)
  names_keep before last n = ap (map (λ at. feature_name bytes at.line)) (features_push_none (placed_of before) (place before last) n)

  same_count : (before : List Line) → length (feature_names bytes (placed_of before)) ≡ length (names_of bytes before)
  same_count [] = refl
  same_count (last ∷ before) =
      elim (cases_Bool (is_feature (kind_of before last))) [
        | inl y ↦
            let rest = same_count before in
            let size = ap length (names_push before last y) ∙ length-append (feature_names bytes (placed_of before)) (feature_name bytes last ∷ []) in
            let one : length (feature_name bytes last ∷ []) ≡ 1 = refl in
            rw y (omega arith)
        | inr n ↦ rw n (ap length (names_keep before last n) ∙ same_count before)
      ]

  or_swap : (a b : Bool) → (a || (b || false)) ≡ (b || a)
  or_swap true true = refl
  or_swap true false = refl
  or_swap false true = refl
  or_swap false false = refl

  same_names : (test : List ℕ → Bool) (before : List Line) → list_any test (feature_names bytes (placed_of before)) ≡ list_any test (names_of bytes before)
  same_names test [] = refl
  same_names test (last ∷ before) =
      elim (cases_Bool (is_feature (kind_of before last))) [
        | inl y ↦
            rw y (ap (list_any test) (names_push before last y) ∙ list_any-append test (feature_names bytes (placed_of before)) (feature_name bytes last ∷ [])
            ∙ or_swap (list_any test (feature_names bytes (placed_of before))) (test (feature_name bytes last))
            ∙ ap (λ (b : Bool). test (feature_name bytes last) || b) (same_names test before))
        | inr n ↦ rw n (ap (list_any test) (names_keep before last n) ∙ same_names test before)
      ]

-- ---- one line more

module _ (bytes : List ℕ) (before : List Line) (line : Line) (read : Standing) (stands : Stands bytes before read) where
  abbrev placed : List PlacedLine
  placed = placed_of before

  abbrev above : List Line
  above = lines_above before line.indent

  pub closed_is : still_open line.indent read.open_now ≡ entries (owner placed) above
  closed_is = ap (still_open line.indent) stands.open_is ∙ entries_above (owner placed) before line.indent

  judges : Judges bytes before line (closed read line.indent)
  judges = record {
    single = ap is_single closed_is ∙ entries_single (owner placed) above;
    depth = ap length closed_is ∙ entries_length (owner placed) above;
    sections = stands.sections;
    root = stands.root;
    count = ap length stands.names ∙ names_count 0 (feature_names bytes placed) ∙ same_count bytes before;
    names = λ name. ap (λ (all : Numbers). is_some (number_beside all name)) stands.names ∙ known_name 0 (feature_names bytes placed) name ∙ same_names bytes (bytes_eq name) before;
  }

  pub kind_same : kind_at (nearest_of (still_open line.indent read.open_now)) line.tokens ≡ kind_of before line
  kind_same = ap (λ (lines : List Open). kind_at (nearest_of lines) line.tokens) closed_is ∙ entries_kind (owner placed) line.tokens above

  -- the pending group as the definition sees it
  pub pending_fault_if : (deeper group : Bool) (last : Line) (pending : Option Pending) → PendingIf bytes last pending group
      → pending_fault deeper pending ≡ (if deeper then None else refusal_at last.number (fault_if group reason.BadGroup))
  pending_fault_if true false last pending h = rw h refl
  pending_fault_if false false last pending h = rw h refl
  pending_fault_if true true last pending h = rw h.2 refl
  pending_fault_if false true last pending h = rw h.2 refl

pub pending_same : (bytes : List ℕ) (before : List Line) (indent : ℕ) (read : Standing) → Stands bytes before read → pending_fault (is_deeper indent (nearest_of read.open_now)) read.pending ≡ left_childless before indent
pending_same bytes [] indent read stands = rw stands.pending refl
pending_same bytes (last ∷ before) indent read stands =
    let deeper : is_deeper indent (nearest_of read.open_now) ≡ nat_lt last.indent indent = ap (λ (lines : List Open). is_deeper indent (nearest_of lines)) stands.open_is in
    ap (λ (b : Bool). pending_fault b read.pending) deeper
    ∙ pending_fault_if bytes (last ∷ before) last read stands (nat_lt last.indent indent) (is_group (kind_of before last)) last read.pending stands.pending

pub judged_read : (bytes : List ℕ) (before : List Line) (line : Line) (read : Standing) → Stands bytes before read → after_judged bytes read line ≡ unless_refused (refusal_of bytes before line) (Ok (next_line bytes read line))
unfolding after_judged next_line
judged_read bytes before line read stands =
    let placed = placed_of before in
    let next : OrRefused Standing = Ok (next_kind bytes (closed read line.indent) line (kind_of before line)) in
    let kind = kind_same bytes before line read stands in
    let fit : fits line.indent read.open_now ≡ has_place before line.indent = ap (fits line.indent) stands.open_is ∙ entries_fit (owner placed) before line.indent in
    let bad = fault_if (not (has_place before line.indent)) reason.BadIndent in
    let closing : after_close bytes read line ≡ unless line.number bad (unless line.number (kind_fault bytes before line (kind_of before line)) next) =
    rw (fit, kind, kind_read bytes before line (closed read line.indent) (judges bytes before line read stands) (kind_of before line)) refl in
    rw (pending_same bytes before line.indent read stands, closing, kind)
    (sym (refused_first (left_childless before line.indent) (refusal_at line.number (line_fault bytes before line)) next
    ∙ ap (unless_refused (left_childless before line.indent)) (refused_at line.number (line_fault bytes before line) next ∙ unless_first line.number bad (kind_fault bytes before line (kind_of before line)) next)))
