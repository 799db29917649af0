-- What the code has read of some lines, and what one line more does: the open lines with what is needed of them, in place of all
-- the lines before.
use Rattle.std.specs.Prelude.{ℕ, ◌+◌, ◌/◌, ◌==◌, ◌&&◌, ◌||◌, not, nat_le, nat_lt, Bool, true, false, if◌then◌else◌, List, [], ◌∷◌, ◌++◌, length, Option, Some, None, Result, Ok, Err}
use Rattle.std.specs.Option.{option_and_then, option_map, is_some, is_none}
use Rattle.feature_tree.specs.declared.feature.Feature.{Feature}
use Rattle.feature_tree.specs.declared.formula.Formula.{Formula}
use Rattle.feature_tree.specs.declared.reader.error.FormulaError.{FormulaError}
use Rattle.feature_tree.specs.declared.reader.error.FormulaError.TheVariants as formula
use Rattle.feature_tree.specs.FormulaAnswer.{formula_answer}
use Rattle.feature_tree.specs.FeatureModel.{FeatureModel}
use Rattle.feature_tree.specs.Growing.{with_root, with_group, with_child}
use Rattle.feature_tree.specs.Numbered.{numbered}
use Rattle.name_table.specs.Numbers.{Numbers, number_of}
use Rattle.uvl_lex.specs.declared.error.LexError.{LexError}
use Rattle.uvl_lex.specs.declared.error.LexError.TheVariants as lexed
use Rattle.uvl_lex.specs.declared.token.Line.{Line}
use Rattle.uvl_lex.specs.declared.token.Token.{Token}
use Rattle.uvl_lex.specs.Text.{token_text}
use Rattle.uvl_reader.specs.declared.error.ModelError.{ModelError}
use Rattle.uvl_reader.specs.declared.error.ModelError.TheVariants.{Refused, Memory}
use Rattle.uvl_reader.specs.declared.error.Reason.{Reason}
use Rattle.uvl_reader.specs.declared.error.Reason.TheVariants as reason
use Rattle.uvl_reader.specs.declared.header.Header.{Header}
use Rattle.uvl_reader.specs.declared.kind.LineKind.{LineKind}
use Rattle.uvl_reader.specs.declared.kind.LineKind.TheVariants.{SectionLine, FeatureLine, GroupLine, ConstraintLine, NoLine}
use Rattle.uvl_reader.specs.declared.kind.Section.{Section}
use Rattle.uvl_reader.specs.declared.pending.Pending.{Pending}
use Rattle.uvl_reader.specs.declared.stack.Open.{Open}
use Rattle.uvl_reader.specs.Nesting.{begins_with_include}
use Rattle.uvl_reader.specs.LineKinds.{section_of, place_of, kind_under}
use Rattle.uvl_reader.specs.Shapes.{FeatureShape, is_name, header_of, feature_of, is_unsupported}
use Rattle.uvl_reader.specs.Attributes.{items_of, formulas_of_item}
use Rattle.uvl_reader.specs.ModelReading.{reason_of_text}
pub use Rattle.uvl_reader.specs.Refusals.{IsRefused}
use Rattle.uvl_reader.specs.Refusals.{Refusal, first_of, fault_if, refusal_at, reason_of, section_alone}

-- what is asked for, or the refusal
abbrev pub OrRefused : Type 0 → Type 0
OrRefused A = Result A Refusal

abbrev pub and_then : {A B : Type 0} → (A → OrRefused B) → OrRefused A → OrRefused B
and_then f (Ok value) = f value
and_then f (Err refused) = Err refused

abbrev pub on_ok : {A B : Type 0} → (A → B) → OrRefused A → OrRefused B
on_ok f (Ok value) = Ok (f value)
on_ok f (Err refused) = Err refused

abbrev pub refuse : {A : Type 0} → ℕ → Reason → OrRefused A
refuse line reason = Err (record { line = line; reason = reason })

-- what is asked for, unless there is a fault
abbrev pub unless : {A : Type 0} → ℕ → Option Reason → OrRefused A → OrRefused A
unless line None read = read
unless line (Some fault) read = refuse line fault

-- FORMULAS

-- a formula that was read, with its line and its tokens
pub record StatedFormula : Type 0 where
  pub line : ℕ
  pub tokens : List Token
  pub formula : Formula

-- the refusal of a formula, or want of memory
abbrev pub formula_refused : ℕ → FormulaError → ModelError
formula_refused line formula.Unsupported = Refused line reason.Unsupported
formula_refused line formula.BadFormula = Refused line reason.BadFormula
formula_refused line formula.TooDeep = Refused line reason.TooDeep
formula_refused line formula.Memory = Memory

abbrev pub with_formula : ℕ → List Token → List StatedFormula → Result Formula FormulaError → OrRefused (List StatedFormula)
with_formula line tokens before (Ok formula) = Ok (before ++ record { line = line; tokens = tokens; formula = formula } ∷ [])
with_formula line tokens before (Err error) = refuse line (reason_of error)

abbrev pub with_tokens : ℕ → List StatedFormula → List Token → OrRefused (List StatedFormula)
with_tokens line before tokens = with_formula line tokens before (formula_answer tokens)

unfoldable pub with_all : ℕ → List StatedFormula → List (List Token) → OrRefused (List StatedFormula)
with_all line before [] = Ok before
with_all line before (tokens ∷ others) = and_then (λ after. with_all line after others) (with_tokens line before tokens)

abbrev pub with_listed : ℕ → List StatedFormula → Option (List (List Token)) → OrRefused (List StatedFormula)
with_listed line before None = refuse line reason.BadFeature
with_listed line before (Some formulas) = with_all line before formulas

unfoldable pub with_items : List ℕ → ℕ → List StatedFormula → List (List Token) → OrRefused (List StatedFormula)
with_items bytes line before [] = Ok before
with_items bytes line before (item ∷ others) =
    and_then (λ after. with_items bytes line after others) (with_listed line before (formulas_of_item bytes item))

-- OPEN LINES, the nearest first

abbrev pub still_open : ℕ → List Open → List Open
still_open indent [] = []
still_open indent (last ∷ above) = if nat_le indent last.indent then still_open indent above else last ∷ above

-- whether one of those that are closed has this indent
abbrev pub meets : ℕ → List Open → Bool
meets indent [] = false
meets indent (last ∷ above) = if nat_le indent last.indent then (last.indent == indent) || meets indent above else false

abbrev pub nearest_of : List Open → Option Open
nearest_of [] = None
nearest_of (nearest ∷ above) = Some nearest

abbrev pub is_deeper : ℕ → Option Open → Bool
is_deeper indent None = false
is_deeper indent (Some nearest) = nat_lt nearest.indent indent

abbrev pub fits : ℕ → List Open → Bool
fits indent lines = is_deeper indent (nearest_of lines) || (meets indent lines || (is_none (nearest_of lines) && (indent == 0)))

abbrev pub kind_at : Option Open → List Token → LineKind
kind_at None tokens = SectionLine (section_of tokens)
kind_at (Some nearest) tokens = kind_under nearest.kind

abbrev pub owner_at : Option Open → ℕ
owner_at None = 0
owner_at (Some nearest) = nearest.feature

abbrev pub is_single : List Open → Bool
is_single (line ∷ []) = true
is_single _ = false

-- STANDING

pub record Standing : Type 0 where
  -- whether the last unindented line begins with `include`
  pub under : Bool
  pub open_now : List Open
  -- the place that the next section may have at least
  pub next : ℕ
  -- the last line, if it is a group without a child
  pub pending : Option Pending
  pub names : Numbers
  -- the features, without a pending group
  pub tree : Option (List Feature)
  pub stated : List StatedFormula

abbrev pub start : Standing
start = record { under = false; open_now = []; next = 0; pending = None; names = []; tree = None; stated = [] }

abbrev pub with_open : Standing → ℕ → LineKind → ℕ → Standing
with_open before indent kind feature = record before { open_now = record { indent = indent; kind = kind; feature = feature } ∷ before.open_now }

-- a section line
abbrev pub section_fault_at : ℕ → Option Section → List Token → Option Reason
section_fault_at next None tokens = Some reason.Misplaced
section_fault_at next (Some section) tokens = first_of (fault_if (not (nat_le next (place_of section))) reason.Misplaced) (section_alone section tokens)

abbrev pub next_after : Option Section → ℕ
next_after None = 0
next_after (Some section) = place_of section + 1

abbrev pub after_section : Standing → Line → Option Section → OrRefused Standing
after_section before line section =
    unless line.number (section_fault_at before.next section line.tokens)
    (Ok (with_open (record before { next = next_after section }) line.indent (SectionLine section) 0))

-- a group line
abbrev pub with_header : Standing → Line → Option Header → OrRefused Standing
with_header before line None = refuse line.number reason.BadGroup
with_header before line (Some header) =
    Ok (with_open (record before { pending = Some (record { line = line.number; header = header }) }) line.indent GroupLine (owner_at (nearest_of before.open_now)))

-- a feature line
abbrev pub grown : Option (List Feature) → Option Pending → ℕ → List ℕ → List Feature
grown None pending owner name = with_root name
grown (Some features) None owner name = with_child features owner name
grown (Some features) (Some pending) owner name = with_group features owner pending.header.kind pending.header.low pending.header.high name

abbrev pub with_feature : Standing → ℕ → List ℕ → Standing
with_feature before indent name =
    with_open (record before {
      pending = None;
      names = before.names ++ (name, length before.names) ∷ [];
      tree = Some (grown before.tree before.pending (owner_at (nearest_of before.open_now)) name);
    }) indent FeatureLine (length before.names)

abbrev pub name_fault : Numbers → List ℕ → Option Reason
name_fault names name =
    first_of (fault_if (nat_le 65535 (length names)) reason.TooMany) (fault_if (is_some (number_of names name)) reason.Twice)

abbrev pub with_shape : List ℕ → Standing → Line → Option FeatureShape → OrRefused Standing
with_shape bytes before line None = refuse line.number reason.BadFeature
with_shape bytes before line (Some shape) =
    unless line.number (name_fault before.names (token_text bytes shape.name))
    (on_ok (λ stated. with_feature (record before { stated = stated }) line.indent (token_text bytes shape.name))
    (with_items bytes line.number before.stated (items_of shape.attributes)))

abbrev pub place_fault : Standing → List Token → Option Reason
place_fault before tokens =
    first_of (fault_if (is_single before.open_now && is_some before.tree) reason.Misplaced)
    (first_of (fault_if (nat_lt 1000 ((length before.open_now + 1) / 2)) reason.TooDeep) (fault_if (is_unsupported tokens) reason.Unsupported))

abbrev pub after_feature : List ℕ → Standing → Line → OrRefused Standing
after_feature bytes before line = unless line.number (place_fault before line.tokens) (with_shape bytes before line (feature_of line.tokens))

-- a constraint line
abbrev pub after_constraint : Standing → Line → OrRefused Standing
after_constraint before line =
    on_ok (λ stated. with_open (record before { stated = stated }) line.indent ConstraintLine 0) (with_tokens line.number before.stated line.tokens)

unfoldable pub after_kind : List ℕ → Standing → Line → LineKind → OrRefused Standing
after_kind bytes before line (SectionLine section) = after_section before line section
after_kind bytes before line FeatureLine = after_feature bytes before line
after_kind bytes before line GroupLine = with_header before line (header_of bytes line.tokens)
after_kind bytes before line ConstraintLine = after_constraint before line
after_kind bytes before line NoLine = refuse line.number reason.Misplaced

-- a pending group whose next line isn't deeper
abbrev pub pending_fault : Bool → Option Pending → Option Refusal
pending_fault deeper None = None
pending_fault deeper (Some pending) = refusal_at pending.line (fault_if (not deeper) reason.BadGroup)

-- the refusal of a group without a child on this line, if there is one
abbrev pub left_at : Option ℕ → Option Refusal
left_at None = None
left_at (Some line) = Some (record { line = line; reason = reason.BadGroup })

abbrev pub unless_refused : {A : Type 0} → Option Refusal → OrRefused A → OrRefused A
unless_refused None read = read
unless_refused (Some refused) read = Err refused

abbrev pub after_close : List ℕ → Standing → Line → OrRefused Standing
after_close bytes before line =
    let closed : Standing = record before { open_now = still_open line.indent before.open_now } in
    unless line.number (fault_if (not (fits line.indent before.open_now)) reason.BadIndent)
    (after_kind bytes closed line (kind_at (nearest_of closed.open_now) line.tokens))

unfoldable pub after_judged : List ℕ → Standing → Line → OrRefused Standing
after_judged bytes before line = unless_refused (pending_fault (is_deeper line.indent (nearest_of before.open_now)) before.pending) (after_close bytes before line)

unfoldable pub after_line : List ℕ → Standing → Line → OrRefused Standing
after_line bytes before line =
    if line.indent == 0 then after_judged bytes (record before { under = begins_with_include line.tokens }) line
    else if before.under then Ok before else after_judged bytes before line

unfoldable pub after_lines : List ℕ → Standing → List Line → OrRefused Standing
after_lines bytes before [] = Ok before
after_lines bytes before (line ∷ lines) = and_then (λ after. after_lines bytes after lines) (after_line bytes before line)

-- AT THE END

-- the number of the feature that the token names, if there is one; 0 for a token that is no name
abbrev pub number_at : Numbers → List ℕ → Token → Option ℕ
number_at names bytes token = if is_name token.kind then number_of names (token_text bytes token) else Some 0

-- the number for each token, nothing where some name is no feature's
abbrev pub numbers : Numbers → List ℕ → List Token → Option (List ℕ)
numbers names bytes [] = Some []
numbers names bytes (token ∷ after) =
    option_and_then (λ number. option_map (λ others. number ∷ others) (numbers names bytes after)) (number_at names bytes token)

abbrev pub one_numbered : StatedFormula → Option (List ℕ) → OrRefused Formula
one_numbered one None = refuse one.line reason.Unknown
one_numbered one (Some of) = Ok (numbered of one.formula)

-- the formulas with features for names
unfoldable pub constraints_of : Numbers → List ℕ → List StatedFormula → OrRefused (List Formula)
constraints_of names bytes [] = Ok []
constraints_of names bytes (one ∷ others) =
    and_then (λ formula. on_ok (λ more. formula ∷ more) (constraints_of names bytes others)) (one_numbered one (numbers names bytes one.tokens))

-- what is read of lines, of which the `features` line is this
abbrev pub with_tree : List ℕ → ℕ → Standing → Option (List Feature) → OrRefused FeatureModel
with_tree bytes line read None = refuse line reason.NoFeatures
with_tree bytes line read (Some features) =
    on_ok (λ constraints. record { features = features; constraints = constraints }) (constraints_of read.names bytes read.stated)

-- at the end no group may be without a child
unfoldable pub model_at : List ℕ → ℕ → Standing → OrRefused FeatureModel
model_at bytes line read = unless_refused (pending_fault false read.pending) (with_tree bytes line read read.tree)

-- the refusal of a text, or want of memory
abbrev pub text_refused : LexError → ModelError
text_refused (lexed.Refused line fault) = Refused line (reason_of_text fault)
text_refused lexed.Memory = Memory
