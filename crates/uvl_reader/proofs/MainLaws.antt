-- What the code reads of all lines is what the definition says.
use Rattle.std.proofs.Common.{◌≡◌, ℕ, ◌==◌, not, Bool, true, false, if◌then◌else◌, List, [], ◌∷◌, Option, Some, None, Ok, refl, sym, ap, subst, ◌∙◌, inl, inr}
use Rattle.std.proofs.lemmas.Bool.{cases_Bool}
use Rattle.std.specs.Option.{is_some}
use Rattle.feature_tree.specs.declared.feature.Feature.{Feature}
use Rattle.feature_tree.specs.declared.formula.Formula.{Formula}
use Rattle.feature_tree.specs.FeatureModel.{FeatureModel}
use Rattle.uvl_lex.specs.declared.token.Line.{Line}
use Rattle.uvl_reader.specs.declared.error.Reason.TheVariants as reason
use Rattle.uvl_reader.specs.declared.kind.LineKind.{LineKind}
use Rattle.uvl_reader.specs.declared.kind.LineKind.TheVariants.{SectionLine, FeatureLine, GroupLine, ConstraintLine, NoLine}
use Rattle.uvl_reader.specs.declared.header.Header.{Header}
use Rattle.uvl_reader.specs.declared.pending.Pending.{Pending}
use Rattle.uvl_reader.specs.Nesting.{begins_with_include, judged_lines}
use Rattle.uvl_reader.specs.LineKinds.{kind_of, is_group, has_root}
use Rattle.uvl_reader.specs.Shapes.{FeatureShape, header_of, feature_of}
use Rattle.uvl_reader.specs.Refusals.{Refusal, first_of, fault_if, refusal_at, childless as childless_last, refusal_of, first_refused}
use Rattle.uvl_reader.specs.ModelReading.{feature_names, first_unknown, model_on}
use Rattle.uvl_reader.specs.inside.Standing.{OrRefused, and_then, on_ok, unless_refused, Standing, nearest_of, kind_at, still_open, pending_fault, with_tree, model_at, constraints_of, after_judged, after_line, after_lines}
use Rattle.uvl_reader.specs.inside.Next.{next_kind, next_line, closed}
use Rattle.uvl_reader.proofs.PlacedLaws.{Falling, placed_of}
use Rattle.uvl_reader.proofs.StandsLaws.{Stands, TreeOf, owner_of, judged_read, pending_fault_if}
use Rattle.uvl_reader.proofs.PreservedLaws.{line_preserved}
use Rattle.uvl_reader.proofs.ConstraintLaws.{constraints_are}

-- these lines behind others, which are given with the latest first
abbrev pub turned : List Line → List Line → List Line
turned [] before = before
turned (line ∷ lines) before = turned lines (line ∷ before)

falling_before : (lines before : List Line) → Falling (turned lines before) → Falling before
falling_before [] before f = f
falling_before (line ∷ lines) before f = (falling_before lines (line ∷ before) f).1

module _ (bytes : List ℕ) (number : ℕ) where
  -- what the definition says at the end, where no line is refused
  abbrev pub unknown_at : List Line → Option Refusal
  unknown_at before = first_unknown bytes (feature_names bytes (placed_of before)) (placed_of before)

  abbrev pub ended : List Line → OrRefused FeatureModel
  ended before = unless_refused (first_of (refusal_at number (fault_if (not (has_root before)) reason.NoFeatures)) (unknown_at before)) (Ok (model_on bytes (placed_of before)))

  -- ---- the end

  pending_at_end : (before : List Line) (read : Standing) → Stands bytes before read → pending_fault false read.pending ≡ childless_last before
  pending_at_end [] read stands = rw stands.pending refl
  pending_at_end (last ∷ before) read stands =
      pending_fault_if bytes (last ∷ before) last read stands false (is_group (kind_of before last)) last read.pending stands.pending

  no_pending : (pending : Option Pending) → pending_fault false pending ≡ None → pending ≡ None
  no_pending None e = refl
  no_pending (Some pending) e = absurd (cc)

  abbrev with_constraints : List Feature → List Formula → FeatureModel
  with_constraints features constraints = record { features = features; constraints = constraints }

  model_if : (unknown : Option Refusal) (features : List Feature) (constraints : List Formula)
      → on_ok (with_constraints features) (unless_refused unknown (Ok constraints)) ≡ unless_refused unknown (Ok (with_constraints features constraints))
  model_if None features constraints = refl
  model_if (Some refused) features constraints = refl

  tree_end : (before : List Line) (read : Standing) → Stands bytes before read → (tree : Option (List Feature)) → is_some tree ≡ has_root before → TreeOf bytes (placed_of before) None (owner_of (nearest_of read.open_now)) tree
      → with_tree bytes number read tree ≡ ended before
  tree_end before read stands None root is = rw (← root) refl
  tree_end before read stands (Some features) root is =
      let placed = placed_of before in
      let constraints : constraints_of read.names bytes read.stated ≡ unless_refused (unknown_at before) (Ok (model_on bytes placed).constraints) =
      rw (stands.names, stands.stated) (constraints_are bytes (feature_names bytes placed) placed stands.parsed) in
      rw (← root, constraints) (model_if (unknown_at before) features (model_on bytes placed).constraints ∙ ap (λ (all : List Feature). unless_refused (unknown_at before) (Ok (with_constraints all (model_on bytes placed).constraints))) (sym is))

  end_read : (before : List Line) (read : Standing) → Stands bytes before read → model_at bytes number read ≡ unless_refused (childless_last before) (ended before)
  unfolding model_at
  end_read before read stands =
      ap (λ (fault : Option Refusal). unless_refused fault (with_tree bytes number read read.tree)) (pending_at_end before read stands)
      ∙ go (childless_last before) refl
    where
      go : (fault : Option Refusal) → childless_last before ≡ fault → unless_refused fault (with_tree bytes number read read.tree) ≡ unless_refused fault (ended before)
      go (Some refused) e = refl
      go None e =
          let alone = no_pending read.pending (pending_at_end before read stands ∙ e) in
          tree_end before read stands read.tree stands.root (subst (λ (pending : Option Pending). TreeOf bytes (placed_of before) pending (owner_of (nearest_of read.open_now)) read.tree) alone stands.tree)

  -- ---- line after line

  next_under_kind : (line : Line) (read : Standing) (kind : LineKind) (header : Option Header) (shape : Option FeatureShape) → header_of bytes line.tokens ≡ header → feature_of line.tokens ≡ shape → (next_kind bytes read line kind).under ≡ read.under
  unfolding next_kind
  next_under_kind line read (SectionLine section) header shape h s = refl
  next_under_kind line read FeatureLine header None h s = rw s refl
  next_under_kind line read FeatureLine header (Some shape) h s = rw s refl
  next_under_kind line read GroupLine None shape h s = rw h refl
  next_under_kind line read GroupLine (Some header) shape h s = rw h refl
  next_under_kind line read ConstraintLine header shape h s = refl
  next_under_kind line read NoLine header shape h s = refl

  next_under : (line : Line) (read : Standing) → (next_line bytes read line).under ≡ read.under
  unfolding next_line
  next_under line read = next_under_kind line (closed read line.indent) (kind_at (nearest_of (still_open line.indent read.open_now)) line.tokens) (header_of bytes line.tokens) (feature_of line.tokens) refl refl

  stands_under : (before : List Line) (read : Standing) (under : Bool) → Stands bytes before read → Stands bytes before (record read { under = under })
  stands_under before read under stands = record {
    grounded = stands.grounded;
    headers = stands.headers;
    open_is = stands.open_is;
    sections = stands.sections;
    pending = stands.pending;
    names = stands.names;
    tree = stands.tree;
    root = stands.root;
    parsed = stands.parsed;
    stated = stands.stated;
  }

  abbrev Reads : List Line → List Line → Standing → Type 0
  Reads lines before read =
      and_then (model_at bytes number) (after_lines bytes read lines)
      ≡ unless_refused (first_refused bytes before (judged_lines read.under lines)) (ended (turned (judged_lines read.under lines) before))

  -- one judged line, and the lines behind it
  judged_step : (line : Line) (lines before : List Line) (read : Standing) → Stands bytes before read → Falling (turned (judged_lines read.under lines) (line ∷ before))
      → ((next : Standing) → next.under ≡ read.under → Stands bytes (line ∷ before) next → Falling (turned (judged_lines next.under lines) (line ∷ before)) → Reads lines (line ∷ before) next)
      → and_then (model_at bytes number) (and_then (λ after. after_lines bytes after lines) (after_judged bytes read line))
      ≡ unless_refused (first_refused bytes before (line ∷ judged_lines read.under lines)) (ended (turned (judged_lines read.under lines) (line ∷ before)))
  judged_step line lines before read stands falling rest =
      ap (λ (one : OrRefused Standing). and_then (model_at bytes number) (and_then (λ after. after_lines bytes after lines) one)) (judged_read bytes before line read stands)
      ∙ go (refusal_of bytes before line) refl
    where
      go : (refused : Option Refusal) → refusal_of bytes before line ≡ refused
          → and_then (model_at bytes number) (and_then (λ after. after_lines bytes after lines) (unless_refused refused (Ok (next_line bytes read line))))
          ≡ unless_refused (first_of refused (first_refused bytes (line ∷ before) (judged_lines read.under lines))) (ended (turned (judged_lines read.under lines) (line ∷ before)))
      go (Some refused) e = refl
      go None e =
          let same = next_under line read in
          let before_line = falling_before (judged_lines read.under lines) (line ∷ before) falling in
          let next = line_preserved bytes before line read stands before_line e in
          let fall = subst (λ (under : Bool). Falling (turned (judged_lines under lines) (line ∷ before))) (sym same) falling in
          rest (next_line bytes read line) same next fall
          ∙ ap (λ (under : Bool). unless_refused (first_refused bytes (line ∷ before) (judged_lines under lines)) (ended (turned (judged_lines under lines) (line ∷ before)))) same

  pub lines_read : (lines before : List Line) (read : Standing) → Stands bytes before read → Falling (turned (judged_lines read.under lines) before) → Reads lines before read
  unfolding after_lines after_line
  lines_read [] before read stands falling = end_read before read stands
  lines_read (line ∷ lines) before read stands falling =
      elim (cases_Bool (line.indent == 0)) [
        | inl y ↦
            let fall = rw y at falling in
            rw y (judged_step line lines before (record read { under = begins_with_include line.tokens }) (stands_under before read (begins_with_include line.tokens) stands) fall (λ next same s f. lines_read lines (line ∷ before) next s f))
        | inr n ↦
            let fall = rw n at falling in
            rw n (by_under (λ f. lines_read lines before read stands f) (λ next same s f. lines_read lines (line ∷ before) next s f) read.under refl fall)
      ]
    where
      go_out : (Falling (turned (judged_lines read.under lines) before) → Reads lines before read) → read.under ≡ true → Falling (turned (judged_lines true lines) before) → and_then (model_at bytes number) (after_lines bytes read lines)
          ≡ unless_refused (first_refused bytes before (judged_lines true lines)) (ended (turned (judged_lines true lines) before))
      go_out rest u fall = subst (λ (under : Bool). and_then (model_at bytes number) (after_lines bytes read lines) ≡ unless_refused (first_refused bytes before (judged_lines under lines)) (ended (turned (judged_lines under lines) before))) u
          (rest (subst (λ (under : Bool). Falling (turned (judged_lines under lines) before)) (sym u) fall))

      go_in : ((next : Standing) → next.under ≡ read.under → Stands bytes (line ∷ before) next → Falling (turned (judged_lines next.under lines) (line ∷ before)) → Reads lines (line ∷ before) next) → read.under ≡ false → Falling (turned (judged_lines false lines) (line ∷ before)) → and_then (model_at bytes number) (and_then (λ after. after_lines bytes after lines) (after_judged bytes read line))
          ≡ unless_refused (first_refused bytes before (line ∷ judged_lines false lines)) (ended (turned (judged_lines false lines) (line ∷ before)))
      go_in rest u fall = subst (λ (under : Bool). and_then (model_at bytes number) (and_then (λ after. after_lines bytes after lines) (after_judged bytes read line)) ≡ unless_refused (first_refused bytes before (line ∷ judged_lines under lines)) (ended (turned (judged_lines under lines) (line ∷ before)))) u
          (judged_step line lines before read stands (subst (λ (under : Bool). Falling (turned (judged_lines under lines) (line ∷ before))) (sym u) fall) rest)

      by_under : (Falling (turned (judged_lines read.under lines) before) → Reads lines before read)
          → ((next : Standing) → next.under ≡ read.under → Stands bytes (line ∷ before) next → Falling (turned (judged_lines next.under lines) (line ∷ before)) → Reads lines (line ∷ before) next)
          → (under : Bool) → read.under ≡ under → Falling (turned (if under then judged_lines under lines else line ∷ judged_lines under lines) before)
          → and_then (model_at bytes number) (and_then (λ after. after_lines bytes after lines) (if under then Ok read else after_judged bytes read line))
          ≡ unless_refused (first_refused bytes before (if under then judged_lines under lines else line ∷ judged_lines under lines)) (ended (turned (if under then judged_lines under lines else line ∷ judged_lines under lines) before))
      by_under rest more true u fall = go_out rest u fall
      by_under rest more false u fall = go_in more u fall
