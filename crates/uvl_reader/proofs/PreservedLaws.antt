-- After a line that isn't refused, what was read stands for one line more.
use Rattle.std.proofs.Common.{◌≡◌, ℕ, ◌+◌, ◌<◌, ◌==◌, ◌&&◌, nat_le, nat_lt, Bool, true, false, List, [], ◌∷◌, ◌++◌, length, map, Option, Some, None, refl, sym, ap, subst, ◌∙◌, arith, append-nil, inl, inr}
use Rattle.std.proofs.lemmas.Bool.{cases_Bool}
use Rattle.std.proofs.lemmas.Bool.Decides.{nat_tests}
use Rattle.std.proofs.lemmas.Grind.{flat_map-append}
use Rattle.std.proofs.lemmas.List.{length-map}
use Rattle.std.specs.List.{flat_map, list_all}
use Rattle.std.specs.Option.{is_some, is_none}
use Rattle.feature_tree.specs.declared.feature.Feature.{Feature}
use Rattle.feature_tree.specs.Growing.{changed_at, new_feature, with_last_group, with_last_child}
use Rattle.name_table.specs.Numbers.{Numbers}
use Rattle.uvl_lex.specs.declared.token.Line.{Line}
use Rattle.uvl_lex.specs.Text.{token_text}
use Rattle.uvl_reader.specs.declared.error.Reason.TheVariants as reason
use Rattle.uvl_reader.specs.declared.header.Header.{Header}
use Rattle.uvl_reader.specs.declared.kind.LineKind.{LineKind}
use Rattle.uvl_reader.specs.declared.kind.LineKind.TheVariants.{SectionLine, FeatureLine, GroupLine, ConstraintLine, NoLine}
use Rattle.uvl_reader.specs.declared.kind.Section.{Section}
use Rattle.uvl_reader.specs.declared.pending.Pending.{Pending}
use Rattle.uvl_reader.specs.declared.stack.Open.{Open}
use Rattle.uvl_reader.specs.Nesting.{lines_above, open_lines, has_place}
use Rattle.uvl_reader.specs.LineKinds.{kind_by, kind_of, kind_under, is_feature, is_group, is_one, is_root, has_root, section_of, place_of}
use Rattle.uvl_reader.specs.Shapes.{FeatureShape, header_of, feature_of}
use Rattle.uvl_reader.specs.Attributes.{items_of}
use Rattle.uvl_reader.specs.Refusals.{fault_if, refusal_at, feature_name, name_of_shape, shape_fault, names_of, sections_of, comes_before, section_fault, left_childless, refusal_of, line_fault, kind_fault}
use Rattle.uvl_reader.specs.ModelReading.{PlacedLine, features_of, feature_names, feature_on, formulas_on, formulas_in_shape, number_of}
use Rattle.uvl_reader.specs.inside.Good.{placed_names}
use Rattle.uvl_reader.specs.inside.Standing.{StatedFormula, Standing, nearest_of, owner_at, still_open, grown}
use Rattle.uvl_reader.specs.inside.Next.{stated_by, all_stated, items_stated, next_section, next_group, next_feature, next_constraint, next_kind, next_line, closed}
use Rattle.uvl_reader.proofs.StackLaws.{entries}
use Rattle.uvl_reader.proofs.PlacedLaws.{Each, each_above, Falling, IsBefore, all_before, placed_of, place, Found, number_found, seek_more}
use Rattle.uvl_reader.proofs.GroupLaws.{cut_above}
use Rattle.uvl_reader.proofs.GrowthLaws.{childless, features_push, features_push_none, model_other, model_group}
use Rattle.uvl_reader.proofs.ChildLaws.{model_root, model_child, new_number}
use Rattle.uvl_reader.proofs.KnownLaws.{FeaturesFound, facts_of, feature_under_group, group_under_feature}
use Rattle.uvl_reader.proofs.StandsLaws.{Stands, Grounded, PendingIf, TreeOf, with_pending, owner_of, owner_of_kind, owner, parent_number, line_stated, names_count, names_push, names_keep, closed_is, kind_same}
use Rattle.uvl_reader.specs.inside.Standing.{is_deeper, pending_fault, next_after}
use Rattle.uvl_reader.specs.Refusals.{formula_fault, items_fault}
use Rattle.uvl_reader.proofs.StackLaws.{kept, above_open}
use Rattle.uvl_reader.proofs.PlacedLaws.{each_append, seek, found_more}
use Rattle.uvl_reader.proofs.GroupLaws.{head_less}
use Rattle.uvl_reader.proofs.StandsLaws.{IsParsed, Headed, pending_same}
use Rattle.uvl_reader.proofs.NextLaws.{items_parsed, none_first, none_at, none_if, not_false, group_gives_feature, under_no_section, grounded_more, unindented, indented, items_all, names_append, grown_is}

second_less : (before : List Line) (indent : ℕ) (line next : Line) (above : List Line) → Falling before → lines_above before indent ≡ line ∷ next ∷ above → next.number < line.number
second_less [] indent line next above f e = absurd (cc)
second_less (last ∷ before) indent line next above f e =
    elim (cases_Bool (nat_lt last.indent indent)) [
      | inl y ↦
          let is : last ∷ lines_above before last.indent ≡ line ∷ next ∷ above = rw y at e in
          let same : last ≡ line = cc in
          let rest : lines_above before last.indent ≡ next ∷ above = cc in
          let less = head_less last.number next (lines_above before last.indent) above rest (each_above (λ one. one.number < last.number) before last.indent f.0) in
          subst (λ (one : Line). next.number < one.number) same less
      | inr n ↦ second_less before indent line next above f.1 (rw n at e)
    ]

is_group_is : (kind : LineKind) → is_group kind ≡ true → kind ≡ GroupLine
is_group_is (SectionLine section) e = absurd (cc)
is_group_is FeatureLine e = absurd (cc)
is_group_is GroupLine e = refl
is_group_is ConstraintLine e = absurd (cc)
is_group_is NoLine e = absurd (cc)

pub is_feature_is : (kind : LineKind) → is_feature kind ≡ true → kind ≡ FeatureLine
is_feature_is (SectionLine section) e = absurd (cc)
is_feature_is FeatureLine e = refl
is_feature_is GroupLine e = absurd (cc)
is_feature_is ConstraintLine e = absurd (cc)
is_feature_is NoLine e = absurd (cc)

kept_headed : (bytes : List ℕ) (indent : ℕ) (lines : List Line) → Headed bytes lines → Headed bytes (kept indent lines)
kept_headed bytes indent [] h = tt
kept_headed bytes indent (line ∷ lines) h =
    elim (cases_Bool (nat_le indent line.indent)) [ inl y ↦ rw y (kept_headed bytes indent lines h.1) | inr n ↦ rw n h ]

pub none_closed : (indent : ℕ) (lines : List Open) → is_deeper indent (nearest_of lines) ≡ true → still_open indent lines ≡ lines
none_closed indent [] y = refl
none_closed indent (nearest ∷ above) y = let n : nat_le indent nearest.indent ≡ false = grind (arith, nat_tests) in rw n refl

pub none_pending : (deeper : Bool) (pending : Pending) → pending_fault deeper (Some pending) ≡ None → deeper ≡ true
none_pending true pending e = refl
none_pending false pending e = absurd (cc)

next_place : (next place other : ℕ) → nat_le next place ≡ true → (nat_lt place other && nat_le next other) ≡ nat_le (place + 1) other
next_place next place other y =
    elim (cases_Bool (nat_lt place other)) [
      | inl l ↦ let a : nat_le next other ≡ true = grind (arith, nat_tests) in let b : nat_le (place + 1) other ≡ true = grind (arith, nat_tests) in rw (l, a, b) refl
      | inr n ↦ let b : nat_le (place + 1) other ≡ false = grind (arith, nat_tests) in rw (n, b) refl
    ]

group_pending : (bytes : List ℕ) (last : Line) (before : List Line) (line : Line) (pending : Option Pending) (group : Bool) → is_group (kind_of before last) ≡ group → PendingIf bytes last pending group
    → is_feature (kind_of (last ∷ before) line) ≡ false → left_childless (last ∷ before) line.indent ≡ None → pending ≡ None
group_pending bytes last before line pending false e h n l = h
group_pending bytes last before line pending true e h n l =
    elim (cases_Bool (nat_lt last.indent line.indent)) [
      | inl y ↦
          let under : kind_of (last ∷ before) line ≡ kind_under (kind_of before last) = rw y refl in
          let feature : is_feature (kind_of (last ∷ before) line) ≡ true = ap is_feature under ∙ group_gives_feature (kind_of before last) e in
          absurd (cc)
      | inr high ↦
          let refused : refusal_at last.number (fault_if (is_group (kind_of before last)) reason.BadGroup) ≡ None = rw high at l in
          let some : refusal_at last.number (Some reason.BadGroup) ≡ None = rw e at refused in
          absurd (cc)
    ]

same_owner : (nearest : Option Open) → owner_of nearest ≡ owner_at nearest
same_owner None = refl
same_owner (Some nearest) = refl

one_child : (count parent : ℕ) (one other : List Feature) (name : List ℕ) → one ≡ other → count ≡ length other
    → changed_at (with_last_child count) one parent ++ new_feature name (Some parent) ∷ [] ≡ changed_at (with_last_child (length other)) other parent ++ new_feature name (Some parent) ∷ []
one_child count parent one other name e l = rw (e, l) refl

pub from_zero : (count : ℕ) (names : Numbers) (name : List ℕ) → names ++ (name, 0 + count) ∷ [] ≡ names ++ (name, count) ∷ []
from_zero count names name = let e : 0 + count ≡ count = omega arith in rw e refl

no_pending : (bytes : List ℕ) (before : List Line) (line : Line) (read : Standing) → Stands bytes before read → is_feature (kind_of before line) ≡ false → left_childless before line.indent ≡ None → read.pending ≡ None
no_pending bytes [] line read stands n l = stands.pending
no_pending bytes (last ∷ before) line read stands n l = group_pending bytes last before line read.pending (is_group (kind_of before last)) refl stands.pending n l

module _ (bytes : List ℕ) (before : List Line) (line : Line) (read : Standing) (stands : Stands bytes before read) (falling : Falling (line ∷ before)) where
  abbrev placed : List PlacedLine
  placed = placed_of before

  abbrev after : List PlacedLine
  after = placed_of (line ∷ before)

  abbrev features : List PlacedLine
  features = features_of placed

  abbrev x : PlacedLine
  x = place before line

  abbrev above : List Line
  above = lines_above before line.indent

  abbrev lines_open : List Open
  lines_open = still_open line.indent read.open_now

  all_early : Each (IsBefore line.number) placed
  all_early = all_before line.number before falling.0

  number_stable : (other : Line) → Found features other.number → number_of after other ≡ number_of placed other
  number_stable other found =
      elim (cases_Bool (is_feature (kind_of before line))) [
        | inl y ↦ rw (features_push placed x y) (number_found (features ++ x ∷ []) other.number (found_more features (x ∷ []) other.number found) ∙ seek_more features (x ∷ []) other.number found ∙ sym (number_found features other.number found))
        | inr n ↦ rw (features_push_none placed x n) refl
      ]

  owner_stable : (other : Line) (others : List Line) (kind : LineKind) → kind_by other.tokens others ≡ kind → (is_feature kind ≡ true → Found features other.number) → FeaturesFound features others
      → owner_of_kind placed other others kind ≡ owner_of_kind after other others kind
  owner_stable other others (SectionLine section) e found rest = refl
  owner_stable other others FeatureLine e found rest = sym (number_stable other (found refl))
  owner_stable other [] GroupLine e found rest = refl
  owner_stable other (parent ∷ others) GroupLine e found rest = sym (number_stable parent (rest.0 (group_under_feature (kind_by parent.tokens others) (ap is_group e))))
  owner_stable other others ConstraintLine e found rest = refl
  owner_stable other others NoLine e found rest = refl

  entries_stable : (lines : List Line) → FeaturesFound features lines → entries (owner placed) lines ≡ entries (owner after) lines
  entries_stable [] h = refl
  entries_stable (other ∷ others) h =
      let first = owner_stable other others (kind_by other.tokens others) refl h.0 h.1 in
      let rest = entries_stable others h.1 in
      cc

  open_found : FeaturesFound features above
  open_found = (facts_of before falling.1).open_found line.indent

  open_is : lines_open ≡ entries (owner placed) above
  open_is = closed_is bytes before line read stands

  open_more : (kind : LineKind) (number : ℕ) → kind_of before line ≡ kind → owner_of_kind after line above kind ≡ number
      → (record { indent = line.indent; kind = kind; feature = number } ∷ lines_open) ≡ entries (owner after) (open_lines (line ∷ before))
  open_more kind number e o =
      let lines = open_is ∙ entries_stable above open_found in
      let here : owner after line above ≡ number = ap (owner_of_kind after line above) e ∙ o in
      cc

  headed : (is_group (kind_of before line) ≡ true → (header : Header) × (header_of bytes line.tokens ≡ Some header)) → Headed bytes (open_lines (line ∷ before))
  headed h = (h, subst (Headed bytes) (sym (above_open before line.indent)) (kept_headed bytes line.indent (open_lines before) stands.headers))

  names_long : length read.names ≡ length features
  names_long = ap length stands.names ∙ names_count 0 (feature_names bytes placed) ∙ length-map features (λ (at : PlacedLine). feature_name bytes at.line)

  stated_more : (more : List StatedFormula) → line_stated bytes x ≡ more → read.stated ++ more ≡ flat_map (line_stated bytes) after
  stated_more more e =
      let last : flat_map (line_stated bytes) (x ∷ []) ≡ more = append-nil (line_stated bytes x) ∙ e in
      rw (stands.stated, ← last) (sym (flat_map-append (line_stated bytes) placed (x ∷ [])))

  parsed_more : Each IsParsed (formulas_on bytes (kind_of before line) line.tokens) → Each (λ at. Each IsParsed (formulas_on bytes at.kind at.line.tokens)) after
  parsed_more h = each_append (λ (at : PlacedLine). Each IsParsed (formulas_on bytes at.kind at.line.tokens)) placed (x ∷ []) stands.parsed (h, tt)

  stated_same : line_stated bytes x ≡ [] → read.stated ≡ flat_map (line_stated bytes) after
  stated_same e = sym (append-nil read.stated) ∙ stated_more [] e

  names_same : is_feature (kind_of before line) ≡ false → read.names ≡ placed_names 0 (feature_names bytes after)
  names_same n = stands.names ∙ ap (placed_names 0) (sym (names_keep bytes before line n))

  tree_same : (number other : ℕ) (tree : Option (List Feature)) → is_feature (kind_of before line) ≡ false → is_group (kind_of before line) ≡ false → TreeOf bytes placed None number tree → TreeOf bytes after None other tree
  tree_same number other None n g h = features_push_none placed x n ∙ h
  tree_same number other (Some tree) n g h = model_other bytes placed x n g ∙ h

  root_same : is_feature (kind_of before line) ≡ false → is_some read.tree ≡ has_root (line ∷ before)
  root_same n = rw n stands.root

  sections_same : (nearest : Line) (others : List Line) → above ≡ nearest ∷ others → sections_of (line ∷ before) ≡ sections_of before
  sections_same nearest others e = rw (indented before line.indent nearest others e) refl

  no_pending_here : is_feature (kind_of before line) ≡ false → left_childless before line.indent ≡ None → read.pending ≡ None
  no_pending_here n l = no_pending bytes before line read stands n l

  tree_alone : read.pending ≡ None → TreeOf bytes placed None (owner_of (nearest_of read.open_now)) read.tree
  tree_alone e = subst (λ (pending : Option Pending). TreeOf bytes placed pending (owner_of (nearest_of read.open_now)) read.tree) e stands.tree

  module _ (fits : has_place before line.indent ≡ true) (left : left_childless before line.indent ≡ None) where
    grounded : Grounded (line ∷ before)
    grounded = grounded_more before line stands.grounded fits

    -- ---- a section

    section_at : (lines : List Line) (section : Option Section) → kind_by line.tokens lines ≡ SectionLine section → (lines ≡ []) × (section_of line.tokens ≡ section)
    section_at [] section e = (refl, cc)
    section_at (nearest ∷ others) section e = absurd (under_no_section (kind_by nearest.tokens others) section e)

    sections_more : (section : Option Section) → kind_of before line ≡ SectionLine section → section_fault before section line.tokens ≡ None
        → (place : ℕ) → list_all (comes_before place) (sections_of (line ∷ before)) ≡ nat_le (next_after section) place
    sections_more None e ok place = absurd (cc)
    sections_more (Some section) e ok place =
        let at = section_at above (Some section) e in
        let zero_indent : line.indent ≡ 0 = unindented before line.indent stands.grounded fits at.0 in
        let unindented_test : (line.indent == 0) ≡ true = grind (arith, nat_tests) in
        let in_order : list_all (comes_before (place_of section)) (sections_of before) ≡ true = not_false _ (none_if _ reason.Misplaced (none_first _ _ ok).0) in
        let least : nat_le read.next (place_of section) ≡ true = sym (stands.sections (place_of section)) ∙ in_order in
        rw (unindented_test, at.1, stands.sections place) (next_place read.next (place_of section) place least)

    section_stands : (section : Option Section) → kind_of before line ≡ SectionLine section → section_fault before section line.tokens ≡ None → Stands bytes (line ∷ before) (next_section (closed read line.indent) line section)
    section_stands section e ok =
        let n : is_feature (kind_of before line) ≡ false = ap is_feature e in
        let g : is_group (kind_of before line) ≡ false = ap is_group e in
        let alone = no_pending_here n left in
        record {
          grounded = grounded;
          headers = headed (λ y. absurd (cc));
          open_is = open_more (SectionLine section) 0 e refl;
          sections = sections_more section e ok;
          pending = rw g alone;
          names = names_same n;
          tree = subst (λ (pending : Option Pending). TreeOf bytes after pending 0 read.tree) (sym alone) (tree_same (owner_of (nearest_of read.open_now)) 0 read.tree n g (tree_alone alone));
          root = root_same n;
          parsed = parsed_more (rw e tt);
          stated = stated_same (ap (λ (kind : LineKind). all_stated line.number (formulas_on bytes kind line.tokens)) e);
        }

    -- ---- a constraint

    constraint_stands : (nearest : Line) (others : List Line) → above ≡ nearest ∷ others → kind_of before line ≡ ConstraintLine → formula_fault line.tokens ≡ None → Stands bytes (line ∷ before) (next_constraint (closed read line.indent) line)
    constraint_stands nearest others a e ok =
        let n : is_feature (kind_of before line) ≡ false = ap is_feature e in
        let g : is_group (kind_of before line) ≡ false = ap is_group e in
        let alone = no_pending_here n left in
        record {
          grounded = grounded;
          headers = headed (λ y. absurd (cc));
          open_is = open_more ConstraintLine 0 e refl;
          sections = λ place. ap (list_all (comes_before place)) (sections_same nearest others a) ∙ stands.sections place;
          pending = rw g alone;
          names = names_same n;
          tree = subst (λ (pending : Option Pending). TreeOf bytes after pending 0 read.tree) (sym alone) (tree_same (owner_of (nearest_of read.open_now)) 0 read.tree n g (tree_alone alone));
          root = root_same n;
          parsed = parsed_more (rw e (ok, tt));
          stated = stated_more (stated_by line.number line.tokens) (ap (λ (kind : LineKind). all_stated line.number (formulas_on bytes kind line.tokens)) e ∙ append-nil (stated_by line.number line.tokens));
        }

    -- ---- a group

    owner_is : (nearest : Line) (others : List Line) → above ≡ nearest ∷ others → owner_at (nearest_of lines_open) ≡ owner placed nearest others
    owner_is nearest others a = ap (λ (lines : List Open). owner_at (nearest_of lines)) (open_is ∙ ap (entries (owner placed)) a)

    group_tree : (header : Header) (p : Line) (others : List Line) → above ≡ p ∷ others → is_group (kind_of before line) ≡ true → is_feature (kind_of before line) ≡ false → header_of bytes line.tokens ≡ Some header → Found features p.number
        → (number : ℕ) (tree : Option (List Feature)) → TreeOf bytes placed None number tree → TreeOf bytes after (Some (record { line = line.number; header = header })) (number_of placed p) tree
    group_tree header p others a g n h found number None none =
        let within : seek features p.number < length features = found in
        let empty : seek [] p.number < length {A = PlacedLine} [] = subst (λ (all : List PlacedLine). seek all p.number < length all) none within in
        absurd (omega arith)
    group_tree header p others a g n h found number (Some tree) is =
        model_group bytes placed x n header g h all_early p others a (facts_of before falling.1).known.rising found
        ∙ ap (λ (all : List Feature). changed_at (with_last_group (childless header)) all (number_of placed p)) is

    group_stands : (header : Header) (p : Line) (others : List Line) → above ≡ p ∷ others → kind_of before line ≡ GroupLine → header_of bytes line.tokens ≡ Some header
        → Stands bytes (line ∷ before) (next_group (closed read line.indent) line (Some header))
    group_stands header p others a e h =
        let n : is_feature (kind_of before line) ≡ false = ap is_feature e in
        let g : is_group (kind_of before line) ≡ true = ap is_group e in
        let alone = no_pending_here n left in
        let under : kind_under (kind_by p.tokens others) ≡ GroupLine = subst (λ (lines : List Line). kind_by line.tokens lines ≡ GroupLine) a e in
        let parent : is_feature (kind_by p.tokens others) ≡ true = group_under_feature (kind_by p.tokens others) (ap is_group under) in
        let found : Found features p.number = (subst (FeaturesFound features) a open_found).0 parent in
        let number : owner_at (nearest_of lines_open) ≡ number_of placed p = owner_is p others a ∙ ap (owner_of_kind placed p others) (is_feature_is (kind_by p.tokens others) parent) in
        let stable : owner_of_kind after line above GroupLine ≡ owner_at (nearest_of lines_open) = ap (parent_number after) a ∙ number_stable p found ∙ sym number in
        record {
          grounded = grounded;
          headers = headed (λ y. (header, h));
          open_is = open_more GroupLine (owner_at (nearest_of lines_open)) e stable;
          sections = λ place. ap (list_all (comes_before place)) (sections_same p others a) ∙ stands.sections place;
          pending = rw g (header, h, refl);
          names = names_same n;
          tree = subst (λ (one : ℕ). TreeOf bytes after (Some (record { line = line.number; header = header })) one read.tree) (sym number)
              (group_tree header p others a g n h found (owner_of (nearest_of read.open_now)) read.tree (tree_alone alone));
          root = root_same n;
          parsed = parsed_more (rw e tt);
          stated = stated_same (ap (λ (kind : LineKind). all_stated line.number (formulas_on bytes kind line.tokens)) e);
        }

    -- ---- a feature

    -- the pending group's parent is that of the nearest open line
    with_pending_same : (features_now : List Feature) (pending : Option Pending) → read.pending ≡ pending → with_pending features_now pending (owner_of (nearest_of read.open_now)) ≡ with_pending features_now pending (owner_at (nearest_of lines_open))
    with_pending_same features_now None e = refl
    with_pending_same features_now (Some pending) e =
        let fault : pending_fault (is_deeper line.indent (nearest_of read.open_now)) (Some pending) ≡ None = subst (λ (one : Option Pending). pending_fault (is_deeper line.indent (nearest_of read.open_now)) one ≡ None) e (pending_same bytes before line.indent read stands ∙ left) in
        let deeper : is_deeper line.indent (nearest_of read.open_now) ≡ true = none_pending (is_deeper line.indent (nearest_of read.open_now)) pending fault in
        let same : lines_open ≡ read.open_now = none_closed line.indent read.open_now deeper in
        ap (λ (lines : List Open). with_pending features_now (Some pending) (owner_of (nearest_of lines))) (sym same) ∙ ap (with_pending features_now (Some pending)) (same_owner (nearest_of lines_open))

    module _ (e : kind_of before line ≡ FeatureLine) where
      y : is_feature (kind_of before line) ≡ true
      y = ap is_feature e

      g_no : is_group (kind_of before line) ≡ false
      g_no = ap is_group e

      root_tree : (section : Line) → above ≡ section ∷ [] → has_root before ≡ false → (tree : Option (List Feature)) → is_some tree ≡ has_root before → TreeOf bytes placed read.pending (owner_of (nearest_of read.open_now)) tree
          → map (feature_on bytes after) (features_of after) ≡ grown tree read.pending (owner_at (nearest_of lines_open)) (feature_name bytes line)
      root_tree section a none None is tree = model_root bytes placed x y g_no all_early tree section a
      root_tree section a none (Some features_now) is tree = absurd (cc)

      child_tree : (g p : Line) (others : List Line) → above ≡ g ∷ p ∷ others → (pending : Option Pending) → read.pending ≡ pending → (tree : Option (List Feature)) → TreeOf bytes placed pending (owner_of (nearest_of read.open_now)) tree
          → map (feature_on bytes after) (features_of after) ≡ grown tree pending (owner_at (nearest_of lines_open)) (feature_name bytes line)
      child_tree g p others a pending pe tree is =
          let under : is_feature (kind_under (kind_under (kind_by p.tokens others))) ≡ true = subst (λ (lines : List Line). is_feature (kind_by line.tokens lines) ≡ true) a y in
          let kinds = feature_under_group (kind_by p.tokens others) under in
          let found : Found features p.number = (subst (FeaturesFound features) a open_found).1.0 kinds.1 in
          go kinds.0 kinds.1 found tree is
        where
          go : is_group (kind_under (kind_by p.tokens others)) ≡ true → is_feature (kind_by p.tokens others) ≡ true → Found features p.number → (tree : Option (List Feature)) → TreeOf bytes placed pending (owner_of (nearest_of read.open_now)) tree
              → map (feature_on bytes after) (features_of after) ≡ grown tree pending (owner_at (nearest_of lines_open)) (feature_name bytes line)
          go gk pk found None none =
              let empty : seek [] p.number < length {A = PlacedLine} [] = subst (λ (all : List PlacedLine). seek all p.number < length all) none found in
              absurd (omega arith)
          go gk pk found (Some features_now) is =
              let headers = subst (Headed bytes) a (subst (Headed bytes) (sym (above_open before line.indent)) (kept_headed bytes line.indent (open_lines before) stands.headers)) in
              let header = headers.0 gk in
              let cut = cut_above before line.indent g (p ∷ others) falling.1 a in
              let less = second_less before line.indent g p others falling.1 a in
              let number : owner_at (nearest_of lines_open) ≡ number_of placed p = owner_is g (p ∷ others) a ∙ ap (owner_of_kind placed g (p ∷ others)) (is_group_is (kind_under (kind_by p.tokens others)) gk) in
              let now : map (feature_on bytes placed) features ≡ with_pending features_now pending (number_of placed p) = is ∙ with_pending_same features_now pending pe ∙ ap (with_pending features_now pending) number in
              let count : length features ≡ length (with_pending features_now pending (number_of placed p)) = sym (length-map features (feature_on bytes placed)) ∙ ap length now in
              model_child bytes placed x y g_no all_early g p others a found (facts_of before falling.1).known header.0 header.1 gk less cut
              ∙ one_child (length features) (number_of placed p) (map (feature_on bytes placed) features) (with_pending features_now pending (number_of placed p)) (feature_name bytes line) now count
              ∙ grown_is features_now pending (number_of placed p) (feature_name bytes line)
              ∙ ap (λ (owner : ℕ). grown (Some features_now) pending owner (feature_name bytes line)) (sym number)

      root_more : (tree : Bool) (lines : List Line) → above ≡ lines → (is_one lines ≡ false → has_root before ≡ true) → true ≡ has_root (line ∷ before)
      root_more _ lines a h = go (is_one lines) refl
        where
          go : (one : Bool) → is_one lines ≡ one → true ≡ has_root (line ∷ before)
          go true o = let root : is_root before line ≡ true = rw (y, a, o) refl in rw root refl
          go false o = let root : is_root before line ≡ false = rw (y, a, o) refl in rw (root, h o) refl

      feature_stands : (shape : FeatureShape) (nearest : Line) (others : List Line) → above ≡ nearest ∷ others → feature_of line.tokens ≡ Some shape
          → map (feature_on bytes after) (features_of after) ≡ grown read.tree read.pending (owner_at (nearest_of lines_open)) (feature_name bytes line)
          → (is_one above ≡ false → has_root before ≡ true)
          → items_fault bytes (items_of shape.attributes) ≡ None
          → Stands bytes (line ∷ before) (next_feature bytes (closed read line.indent) line (Some shape))
      feature_stands shape nearest others a s tree root ok =
          let name : token_text bytes shape.name ≡ feature_name bytes line = sym (ap (name_of_shape bytes) s) in
          let number : owner_of_kind after line above FeatureLine ≡ length read.names = new_number bytes placed x y g_no all_early ∙ sym names_long in
          let names : read.names ++ (token_text bytes shape.name, length read.names) ∷ [] ≡ placed_names 0 (feature_names bytes after) =
          rw (name, stands.names, names_count 0 (feature_names bytes placed))
          (sym (ap (placed_names 0) (names_push bytes before line y) ∙ names_append 0 (feature_names bytes placed) (feature_name bytes line) ∙ from_zero (length (feature_names bytes placed)) (placed_names 0 (feature_names bytes placed)) (feature_name bytes line))) in
          let formulas : line_stated bytes x ≡ items_stated bytes line.number (items_of shape.attributes) =
          ap (λ (kind : LineKind). all_stated line.number (formulas_on bytes kind line.tokens)) e
          ∙ ap (λ (one : Option FeatureShape). all_stated line.number (formulas_in_shape bytes one)) s
          ∙ items_all bytes line.number (items_of shape.attributes) in
          record {
            grounded = grounded;
            headers = headed (λ g. absurd (cc));
            open_is = open_more FeatureLine (length read.names) e number;
            sections = λ place. ap (list_all (comes_before place)) (sections_same nearest others a) ∙ stands.sections place;
            pending = rw g_no refl;
            names = names;
            tree = rw name tree;
            root = root_more true above refl root;
            parsed = parsed_more (rw (e, s) (items_parsed bytes (items_of shape.attributes) ok));
            stated = stated_more (items_stated bytes line.number (items_of shape.attributes)) formulas;
          }

      -- a root is there before a child
      child_root : (p : Line) → Found features p.number → (tree : Option (List Feature)) → is_some tree ≡ has_root before → TreeOf bytes placed read.pending (owner_of (nearest_of read.open_now)) tree → has_root before ≡ true
      child_root p found None is none =
          let empty : seek [] p.number < length {A = PlacedLine} [] = subst (λ (all : List PlacedLine). seek all p.number < length all) none found in
          absurd (omega arith)
      child_root p found (Some features_now) is tree = sym is

      feature_at : (shape : FeatureShape) → feature_of line.tokens ≡ Some shape → items_fault bytes (items_of shape.attributes) ≡ None → (lines : List Line) → above ≡ lines → (is_one lines && has_root before) ≡ false
          → Stands bytes (line ∷ before) (next_feature bytes (closed read line.indent) line (Some shape))
      feature_at shape s ok [] a one =
          let section : kind_of before line ≡ SectionLine (section_of line.tokens) = ap (kind_by line.tokens) a in
          absurd (cc)
      feature_at shape s ok (section ∷ []) a one =
          feature_stands shape section [] a s (root_tree section a one read.tree stands.root stands.tree)
          (λ n. let yes : is_one above ≡ true = ap is_one a in absurd (cc)) ok
      feature_at shape s ok (g ∷ p ∷ others) a one =
          let under : is_feature (kind_under (kind_under (kind_by p.tokens others))) ≡ true = subst (λ (lines : List Line). is_feature (kind_by line.tokens lines) ≡ true) a y in
          let found : Found features p.number = (subst (FeaturesFound features) a open_found).1.0 (feature_under_group (kind_by p.tokens others) under).1 in
          feature_stands shape g (p ∷ others) a s (child_tree g p others a read.pending refl read.tree stands.tree)
          (λ n. child_root p found read.tree stands.root stands.tree) ok

      feature_case : (shape : Option FeatureShape) → feature_of line.tokens ≡ shape → shape_fault bytes (names_of bytes before) shape ≡ None → (is_one above && has_root before) ≡ false
          → Stands bytes (line ∷ before) (next_feature bytes (closed read line.indent) line shape)
      feature_case None s ok one = absurd (cc)
      feature_case (Some shape) s ok one =
          let later = none_first _ _ (none_first _ _ ok).1 in
          feature_at shape s later.1 above refl one

    group_case : (header : Option Header) → header_of bytes line.tokens ≡ header → fault_if (is_none header) reason.BadGroup ≡ None → kind_of before line ≡ GroupLine → (lines : List Line) → above ≡ lines → Stands bytes (line ∷ before) (next_group (closed read line.indent) line header)
    group_case None h ok e lines a = absurd (cc)
    group_case (Some header) h ok e [] a =
        let section : kind_of before line ≡ SectionLine (section_of line.tokens) = ap (kind_by line.tokens) a in
        absurd (cc)
    group_case (Some header) h ok e (p ∷ others) a = group_stands header p others a e h

    constraint_case : kind_of before line ≡ ConstraintLine → formula_fault line.tokens ≡ None → (lines : List Line) → above ≡ lines → Stands bytes (line ∷ before) (next_constraint (closed read line.indent) line)
    constraint_case e ok [] a =
        let section : kind_of before line ≡ SectionLine (section_of line.tokens) = ap (kind_by line.tokens) a in
        absurd (cc)
    constraint_case e ok (nearest ∷ others) a = constraint_stands nearest others a e ok

    kind_case : (kind : LineKind) → kind_of before line ≡ kind → kind_fault bytes before line kind ≡ None → Stands bytes (line ∷ before) (next_kind bytes (closed read line.indent) line kind)
    unfolding next_kind
    kind_case (SectionLine section) e ok = section_stands section e ok
    kind_case FeatureLine e ok =
        let both = none_first _ _ ok in
        let shape = (none_first _ _ (none_first _ _ both.1).1).1 in
        feature_case e (feature_of line.tokens) refl shape (none_if _ reason.Misplaced both.0)
    kind_case GroupLine e ok = group_case (header_of bytes line.tokens) refl ok e above refl
    kind_case ConstraintLine e ok = constraint_case e ok above refl
    kind_case NoLine e ok = absurd (cc)

  pub line_preserved : refusal_of bytes before line ≡ None → Stands bytes (line ∷ before) (next_line bytes read line)
  unfolding next_line
  line_preserved ok =
      let both = none_first (left_childless before line.indent) (refusal_at line.number (line_fault bytes before line)) ok in
      let line_ok = none_first _ _ (none_at line.number (line_fault bytes before line) both.1) in
      let fits = not_false (has_place before line.indent) (none_if _ reason.BadIndent line_ok.0) in
      subst (λ (kind : LineKind). Stands bytes (line ∷ before) (next_kind bytes (closed read line.indent) line kind)) (sym (kind_same bytes before line read stands))
      (kind_case fits both.0 (kind_of before line) refl line_ok.1)
