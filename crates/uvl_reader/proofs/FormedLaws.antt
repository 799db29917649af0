-- What a file says, if it isn't refused, is a well-formed model.
use Rattle.std.proofs.Common.{◌≡◌, ℕ, zero, suc, ◌<◌, ◌==◌, not, Bool, true, false, if◌then◌else◌, List, [], ◌∷◌, length, All, Option, Some, None, Ok, Err, refl, sym, ap, subst, ◌∙◌, arith, inl, inr}
use Rattle.std.proofs.lemmas.Bool.{cases_Bool}
use Rattle.std.proofs.lemmas.List.{length-map}
use Rattle.std.proofs.lemmas.List.Elements.{All-nil, All-head, All-tail}
use Rattle.std.specs.List.{count_by}
use Rattle.feature_tree.specs.declared.feature.Feature.{Feature}
use Rattle.feature_tree.specs.declared.formula.Formula.{Formula}
use Rattle.feature_tree.specs.FeatureModel.{FeatureModel}
use Rattle.feature_tree.specs.Growing.{new_feature, with_root}
use Rattle.feature_tree.specs.Names.{NamesBelow}
use Rattle.feature_tree.specs.WellFormed.{parent_of, children_of, HasParent, EachFeature, IsGroupOf, IsTree, IsWellFormed, feature_names}
use Rattle.feature_tree.proofs.Trees.{IsTree-with_group, IsTree-with_child}
use Rattle.name_table.specs.Numbers.{Numbers}
use Rattle.uvl_lex.specs.declared.error.LexError.{LexError}
use Rattle.uvl_lex.specs.declared.token.Line.{Line}
use Rattle.uvl_lex.specs.Laws.{IsLine}
use Rattle.uvl_lex.specs.Reading.{OrFault, reading}
use Rattle.uvl_lex.specs.Text.{token_text}
use Rattle.uvl_lex.proofs.LineLemmas.{readings_are_lines}
use Rattle.uvl_reader.specs.declared.error.Reason.TheVariants as reason
use Rattle.uvl_reader.specs.declared.header.Header.{Header}
use Rattle.uvl_reader.specs.declared.kind.LineKind.{LineKind}
use Rattle.uvl_reader.specs.declared.kind.LineKind.TheVariants.{SectionLine, FeatureLine, GroupLine, ConstraintLine, NoLine}
use Rattle.uvl_reader.specs.declared.kind.Section.{Section}
use Rattle.uvl_reader.specs.declared.pending.Pending.{Pending}
use Rattle.uvl_reader.specs.Attributes.{items_of}
use Rattle.uvl_reader.specs.Laws.{ModelsAreWellFormed}
use Rattle.uvl_reader.specs.ModelReading.{features_number, model_of}
use Rattle.uvl_reader.specs.Nesting.{begins_with_include}
use Rattle.uvl_reader.specs.Refusals.{fault_if}
use Rattle.uvl_reader.specs.Shapes.{FeatureShape, header_of, feature_of}
use Rattle.uvl_reader.specs.inside.Good.{features_in, placed_names, IsGood, TakesMore}
use Rattle.uvl_reader.specs.inside.Next.{closed}
use Rattle.uvl_reader.specs.inside.Standing.{on_ok, StatedFormula, Standing, start, nearest_of, is_deeper, fits, kind_at, owner_at, still_open, pending_fault, place_fault, name_fault, grown, next_after, section_fault_at, with_open, with_feature, with_items, with_shape, with_header, with_tokens, after_section, after_constraint, after_kind, after_close, after_judged, after_line, after_lines, constraints_of, with_tree, model_at}
use Rattle.uvl_reader.proofs.FinalLaws.{model_of_read}
use Rattle.uvl_reader.proofs.GoodLaws.{good_closed, good_under, takes_more}
use Rattle.uvl_reader.proofs.KeptGoodLaws.{ok_unless, ok_refused, ok_on, ok_then, good_line}
use Rattle.uvl_reader.proofs.ReadLaws.{constraints_below}

-- ---- the features

-- the features are a tree, if there are any
abbrev IsTreeIf : Option (List Feature) → Type 0
IsTreeIf None = Unit {0}
IsTreeIf (Some features) = IsTree features

tree_root : (name : List ℕ) → IsTree (with_root name)
tree_root name =
    record {
      some = omega arith;
      few = omega arith;
      parents = parents;
      groups = groups;
      placed = placed;
      names = λ i j d before within. absurd (let one : length (feature_names (with_root name)) ≡ 1 = refl in omega arith);
    }
  where
    parents : EachFeature (with_root name) (λ i feature. HasParent i feature.parent)
    parents zero feature is = let same : new_feature name None ≡ feature = cc in subst (λ (one : Feature). HasParent zero one.parent) same refl
    parents (suc i) feature is = absurd (cc)

    groups : EachFeature (with_root name) (λ i feature. All (IsGroupOf (with_root name) i) feature.groups)
    groups zero feature is = let same : new_feature name None ≡ feature = cc in subst (λ (one : Feature). All (IsGroupOf (with_root name) zero) one.groups) same (All-nil (IsGroupOf (with_root name) zero))
    groups (suc i) feature is = absurd (cc)

    placed : (child parent : ℕ) → parent_of (with_root name) child ≡ Some parent → count_by (λ other. other == child) (children_of (with_root name) parent) ≡ 1
    placed zero parent is = absurd (cc)
    placed (suc child) parent is = absurd (cc)

tree_grown : (tree : Option (List Feature)) (pending : Option Pending) (owner : ℕ) (name : List ℕ) → IsTreeIf tree → TakesMore tree pending owner name → IsTree (grown tree pending owner name)
tree_grown None pending owner name t takes = tree_root name
tree_grown (Some features) None owner name t takes = IsTree-with_child features owner name t takes.0 takes.1 takes.2
tree_grown (Some features) (Some pending) owner name t takes =
    IsTree-with_group features owner pending.header.kind pending.header.low pending.header.high name t takes.0 takes.1 takes.3 takes.2

-- ---- line after line

module _ (bytes : List ℕ) (read : Standing) (line : Line) (good : IsGood bytes read) (tree : IsTreeIf read.tree) where
  tree_section : (section : Option Section) (after : Standing) → after_section read line section ≡ Ok after → IsTreeIf after.tree
  tree_section section after is =
      let next : Standing = with_open (record read { next = next_after section }) line.indent (SectionLine section) 0 in
      let same : next ≡ after = (let got = (ok_unless line.number (section_fault_at read.next section line.tokens) (Ok next) after is).1 in cc) in
      subst (λ (next : Standing). IsTreeIf next.tree) same tree

  tree_constraint : (after : Standing) → after_constraint read line ≡ Ok after → IsTreeIf after.tree
  tree_constraint after is =
      let done : List StatedFormula → Standing = λ stated. record read { stated = stated; open_now = record { indent = line.indent; kind = ConstraintLine; feature = 0 } ∷ read.open_now } in
      let found = ok_on done (with_tokens line.number read.stated line.tokens) after is in
      subst (λ (next : Standing). IsTreeIf next.tree) found.2 tree

  tree_group : (header : Option Header) (after : Standing) → with_header read line header ≡ Ok after → IsTreeIf after.tree
  tree_group None after is = absurd (cc)
  tree_group (Some header) after is =
      let next : Standing = with_open (record read { pending = Some (record { line = line.number; header = header }) }) line.indent GroupLine (owner_at (nearest_of read.open_now)) in
      let same : next ≡ after = cc in
      subst (λ (next : Standing). IsTreeIf next.tree) same tree

  tree_shape : (shape : Option FeatureShape) (after : Standing) → FeatureLine ≡ kind_at (nearest_of read.open_now) line.tokens → place_fault read line.tokens ≡ None → with_shape bytes read line shape ≡ Ok after → IsTreeIf after.tree
  tree_shape None after kind place is = absurd (cc)
  tree_shape (Some shape) after kind place is =
      let name = token_text bytes shape.name in
      let done : List StatedFormula → Standing = λ stated. with_feature (record read { stated = stated }) line.indent name in
      let items = with_items bytes line.number read.stated (items_of shape.attributes) in
      let free = ok_unless line.number (name_fault read.names name) (on_ok done items) after is in
      let found = ok_on done items after free.1 in
      let takes = takes_more bytes read line.tokens name good kind place free.0 in
      subst (λ (next : Standing). IsTreeIf next.tree) found.2 (tree_grown read.tree read.pending (owner_at (nearest_of read.open_now)) name tree takes)

  tree_kind : (kind : LineKind) (after : Standing) → kind ≡ kind_at (nearest_of read.open_now) line.tokens → after_kind bytes read line kind ≡ Ok after → IsTreeIf after.tree
  unfolding after_kind
  tree_kind (SectionLine section) after e is = tree_section section after is
  tree_kind FeatureLine after e is =
      let placed = ok_unless line.number (place_fault read line.tokens) (with_shape bytes read line (feature_of line.tokens)) after is in
      tree_shape (feature_of line.tokens) after e placed.0 placed.1
  tree_kind GroupLine after e is = tree_group (header_of bytes line.tokens) after is
  tree_kind ConstraintLine after e is = tree_constraint after is
  tree_kind NoLine after e is = absurd (cc)

tree_judged : (bytes : List ℕ) (read after : Standing) (line : Line) → IsGood bytes read → IsTreeIf read.tree → after_judged bytes read line ≡ Ok after → IsTreeIf after.tree
unfolding after_judged
tree_judged bytes read after line good tree is =
    let first = ok_refused (pending_fault (is_deeper line.indent (nearest_of read.open_now)) read.pending) (after_close bytes read line) after is in
    let kind = kind_at (nearest_of (still_open line.indent read.open_now)) line.tokens in
    let placed = ok_unless line.number (fault_if (not (fits line.indent read.open_now)) reason.BadIndent) (after_kind bytes (closed read line.indent) line kind) after first.1 in
    tree_kind bytes (closed read line.indent) line (good_closed bytes read line.indent good first.0) tree kind after refl placed.1

tree_line : (bytes : List ℕ) (read after : Standing) (line : Line) → IsGood bytes read → IsTreeIf read.tree → after_line bytes read line ≡ Ok after → IsTreeIf after.tree
unfolding after_line
tree_line bytes read after line good tree is =
    elim (cases_Bool (line.indent == 0)) [
      | inl y ↦ tree_judged bytes (record read { under = begins_with_include line.tokens }) after line (good_under bytes read (begins_with_include line.tokens) good) tree (rw y at is)
      | inr n ↦ inside read.under (rw n at is)
    ]
  where
    inside : (under : Bool) → (if under then Ok read else after_judged bytes read line) ≡ Ok after → IsTreeIf after.tree
    inside true e = let same : read ≡ after = cc in subst (λ (next : Standing). IsTreeIf next.tree) same tree
    inside false e = tree_judged bytes read after line good tree e

-- ---- all lines

record IsSound (bytes : List ℕ) (read : Standing) : Type 0 where
  good : IsGood bytes read
  tree : IsTreeIf read.tree

sound_lines : (bytes : List ℕ) (lines : List Line) (read after : Standing) → All (IsLine bytes) lines → IsSound bytes read → after_lines bytes read lines ≡ Ok after → IsSound bytes after
unfolding after_lines
sound_lines bytes [] read after each sound is = let same : read ≡ after = cc in subst (IsSound bytes) same sound
sound_lines bytes (line ∷ lines) read after each sound is =
    let next = ok_then (λ now. after_lines bytes now lines) (after_line bytes read line) after is in
    let own = All-head (IsLine bytes) line lines each in
    sound_lines bytes lines next.0 after (All-tail (IsLine bytes) line lines each)
    (record {
      good = good_line bytes read next.0 line own.spans sound.good next.1;
      tree = tree_line bytes read next.0 line sound.good sound.tree next.1;
    }) next.2

sound_start : (bytes : List ℕ) → IsSound bytes start
sound_start bytes = record { good = record { names = refl; open_now = tt; stated = All-nil _ }; tree = tt }

-- ---- the model

with_tree_formed : (bytes : List ℕ) (line : ℕ) (read : Standing) (tree : Option (List Feature)) (model : FeatureModel) → IsGood bytes read → read.tree ≡ tree → IsTreeIf tree → with_tree bytes line read tree ≡ Ok model → IsWellFormed model.features model.constraints
with_tree_formed bytes line read None model good same tree is = absurd (cc)
with_tree_formed bytes line read (Some features) model good same tree is =
    let done : List Formula → FeatureModel = λ constraints. record { features = features; constraints = constraints } in
    let found = ok_on done (constraints_of read.names bytes read.stated) model is in
    let known = feature_names features in
    let count : length known ≡ length features = length-map features (λ (feature : Feature). feature.name) in
    let some : 0 < length features = tree.some in
    let names : read.names ≡ placed_names 0 known = good.names ∙ ap (λ (one : Option (List Feature)). placed_names 0 (feature_names (features_in one))) same in
    let constraints : constraints_of (placed_names 0 known) bytes read.stated ≡ Ok found.0 = subst (λ (names : Numbers). constraints_of names bytes read.stated ≡ Ok found.0) names found.1 in
    let below = constraints_below known bytes (omega arith) read.stated found.0 constraints good.stated in
    subst (λ (model : FeatureModel). IsWellFormed model.features model.constraints) found.2
    (record { tree = tree; named = subst (λ (most : ℕ). All (NamesBelow most) found.0) count below })

model_formed : (bytes : List ℕ) (line : ℕ) (read : Standing) (model : FeatureModel) → IsSound bytes read → model_at bytes line read ≡ Ok model → IsWellFormed model.features model.constraints
unfolding model_at
model_formed bytes line read model sound is =
    with_tree_formed bytes line read read.tree model sound.good refl sound.tree
    (ok_refused (pending_fault false read.pending) (with_tree bytes line read read.tree) model is).1

lines_formed : (bytes : List ℕ) (lines : List Line) (model : FeatureModel) → reading bytes ≡ Ok lines → model_of bytes ≡ Ok model → IsWellFormed model.features model.constraints
lines_formed bytes lines model text is =
    let at_end = model_at bytes (features_number lines) in
    let all = ok_then at_end (after_lines bytes start lines) model (sym (model_of_read bytes lines text) ∙ is) in
    model_formed bytes (features_number lines) all.0 model (sound_lines bytes lines start all.0 (readings_are_lines bytes lines text).each (sound_start bytes) all.1) all.2

unread : (bytes : List ℕ) (error : LexError) (model : FeatureModel) → reading bytes ≡ Err error → model_of bytes ≡ Ok model → IsWellFormed model.features model.constraints
unfolding model_of
unread bytes error model text is = let wrong = rw (model_of, text) at is in absurd (cc)

pub models_are_well_formed : ModelsAreWellFormed
models_are_well_formed bytes model is = by_text (reading bytes) refl
  where
    by_text : (read : OrFault (List Line)) → reading bytes ≡ read → IsWellFormed model.features model.constraints
    by_text (Ok lines) text = lines_formed bytes lines model text is
    by_text (Err error) text = unread bytes error model text is
