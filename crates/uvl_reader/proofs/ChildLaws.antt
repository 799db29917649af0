-- The features that lines give, when a line with a feature is read.
use Rattle.std.proofs.Common.{◌≡◌, ℕ, ◌+◌, ◌<◌, ◌==◌, ◌&&◌, Bool, true, false, if◌then◌else◌, List, [], ◌∷◌, ◌++◌, length, map, Option, Some, None, refl, sym, ap, ◌∙◌, arith, append-nil, length-append, inl, inr}
use Rattle.std.proofs.lemmas.Bool.{cases_Bool}
use Rattle.std.proofs.lemmas.Bool.Decides.{nat_tests}
use Rattle.std.proofs.lemmas.List.Elements.{filter-append, filter_map-append}
use Rattle.std.proofs.lemmas.List.{map-append}
use Rattle.std.specs.List.{filter, filter_map}
use Rattle.std.specs.Option.{option_map}
use Rattle.feature_tree.specs.declared.feature.Feature.{Feature}
use Rattle.feature_tree.specs.declared.group.Group.{Group}
use Rattle.feature_tree.specs.Growing.{changed_at, changed_last, new_feature, with_one_more, with_last_child, with_root}
use Rattle.uvl_lex.specs.declared.token.Line.{Line}
use Rattle.uvl_reader.specs.declared.header.Header.{Header}
use Rattle.uvl_reader.specs.LineKinds.{kind_by, is_feature, is_group}
use Rattle.uvl_reader.specs.Shapes.{header_of}
use Rattle.uvl_reader.specs.Refusals.{feature_name}
use Rattle.uvl_reader.specs.ModelReading.{PlacedLine, features_of, stands_under, number_of, children_of, group_of, groups_of, parent_of, feature_on}
use Rattle.uvl_reader.proofs.PlacedLaws.{Each, each_append, each_filter, each_weaker, map_each, filter_none, IsBefore, seek, Found, number_found, seek_more, seek_new, found_more, changed, changed_found}
use Rattle.uvl_reader.proofs.GroupLaws.{CutAt, IsFrom}
use Rattle.uvl_reader.proofs.GrowthLaws.{HasFound, Known, features_push, changed_last-append, filter_map_same, not_under, other_number, number_other, same_number, and_false}

module _ (bytes : List ℕ) (placed : List PlacedLine) (x : PlacedLine) (a_feature : is_feature x.kind ≡ true) (no_group : is_group x.kind ≡ false) (before : Each (IsBefore x.line.number) placed) where
  abbrev after : List PlacedLine
  after = placed ++ x ∷ []

  abbrev features : List PlacedLine
  features = features_of placed

  abbrev under : ℕ → PlacedLine → Bool
  under number at = is_group at.kind && stands_under number at.above

  abbrev group : List PlacedLine → PlacedLine → Option Group
  group all at = option_map (group_of all at.line) (header_of bytes at.line.tokens)

  more_features : features_of after ≡ features ++ x ∷ []
  more_features = features_push placed x a_feature

  -- a feature that was found has the same number
  pub old_number : (line : Line) → Found features line.number → number_of after line ≡ number_of placed line
  old_number line found =
      let more : Found (features ++ x ∷ []) line.number = found_more features (x ∷ []) line.number found in
      rw more_features (number_found (features ++ x ∷ []) line.number more ∙ seek_more features (x ∷ []) line.number found ∙ sym (number_found features line.number found))

  features_before : Each (IsBefore x.line.number) features
  features_before = each_filter (IsBefore x.line.number) (λ at. is_feature at.kind) placed before

  pub new_number : number_of after x.line ≡ length features
  new_number =
      let less = each_weaker (IsBefore x.line.number) (λ at. at.line.number < x.line.number) (λ at k. k.0) features features_before in
      let e = seek_new features x less in
      let size : length (features ++ x ∷ []) ≡ length features + 1 = length-append features (x ∷ []) in
      let found : Found (features ++ x ∷ []) x.line.number = omega arith in
      rw more_features (number_found (features ++ x ∷ []) x.line.number found ∙ e)

  -- no group stands under the new feature
  no_groups : groups_of bytes after x.line ≡ []
  no_groups =
      let here : under x.line.number x ≡ false = rw no_group refl in
      ap (filter_map (group after))
      (filter_none (under x.line.number) after
      (each_append (λ at. under x.line.number at ≡ false) placed (x ∷ [])
      (each_weaker (IsBefore x.line.number) (λ at. under x.line.number at ≡ false) (λ at k. ap (λ (b : Bool). is_group at.kind && b) (not_under x.line.number at.above k.1) ∙ and_false (is_group at.kind)) placed before)
      (here, tt)))

  -- the groups of a line are among the lines before
  groups_after : (line : Line) → groups_of bytes after line ≡ filter_map (group after) (filter (under line.number) placed)
  groups_after line =
      let here : filter (under line.number) (x ∷ []) ≡ [] = rw no_group refl in
      ap (filter_map (group after)) (filter-append (under line.number) placed (x ∷ []) ∙ ap (λ (last : List PlacedLine). filter (under line.number) placed ++ last) here ∙ append-nil (filter (under line.number) placed))

  -- ---- the root

  pub model_root : features ≡ [] → (section : Line) → x.above ≡ section ∷ [] → map (feature_on bytes after) (features_of after) ≡ with_root (feature_name bytes x.line)
  model_root none section e =
      let only : features_of after ≡ x ∷ [] = more_features ∙ ap (λ (old : List PlacedLine). old ++ x ∷ []) none in
      let parent : parent_of after x.above ≡ None = rw e refl in
      let root : feature_on bytes after x ≡ new_feature (feature_name bytes x.line) None = let g = no_groups in cc in
      ap (map (feature_on bytes after)) only ∙ ap (λ (one : Feature). one ∷ []) root

  -- ---- a child

  module _ (g p : Line) (above : List Line) (x_above : x.above ≡ g ∷ p ∷ above) (p_found : Found features p.number) (known : Known placed) where
    -- the child stands under its group alone
    new_children : (line : Line) → children_of after line ≡ (if g.number == line.number then children_of placed line ++ length features ∷ [] else children_of placed line)
    new_children line =
        let test : PlacedLine → Bool = λ at. stands_under line.number at.above in
        let number : PlacedLine → ℕ = λ at. number_of after at.line in
        let old : map number (filter test features) ≡ children_of placed line =
        map_each number (λ at. number_of placed at.line) (filter test features)
        (each_filter (λ at. number_of after at.line ≡ number_of placed at.line) test features
        (each_weaker (λ at. Found features at.line.number) (λ at. number_of after at.line ≡ number_of placed at.line) (λ at k. old_number at.line k) features known.own)) in
        let cut : children_of after line ≡ map number (filter test features) ++ map number (filter test (x ∷ [])) =
        ap (λ (all : List PlacedLine). map number (filter test all)) more_features
        ∙ ap (map number) (filter-append test features (x ∷ []))
        ∙ map-append number (filter test features) (filter test (x ∷ [])) in
        elim (cases_Bool (g.number == line.number)) [
          | inl y ↦
              let t : stands_under line.number x.above ≡ true = rw x_above y in
              cut ∙ rw (y, t, old, new_number) refl
          | inr n ↦
              let t : stands_under line.number x.above ≡ false = rw x_above n in
              cut ∙ rw (n, t, old) (append-nil (children_of placed line))
        ]

    group_other : (line : Line) (header : Option Header) → (g.number == line.number) ≡ false → option_map (group_of after line) header ≡ option_map (group_of placed line) header
    group_other line None n = refl
    group_other line (Some header) n =
        let children : children_of after line ≡ children_of placed line = rw n at (new_children line) in cc

    group_grown : (line : Line) (header : Header) → (g.number == line.number) ≡ true → group_of after line header ≡ with_one_more (length features) (group_of placed line header)
    group_grown line header y =
        let children : children_of after line ≡ children_of placed line ++ length features ∷ [] = rw y at (new_children line) in cc

    groups_other : (lines : List PlacedLine) → Each (λ at. (g.number == at.line.number) ≡ false) lines → filter_map (group after) lines ≡ filter_map (group placed) lines
    groups_other lines h =
        filter_map_same (group after) (group placed) lines
        (each_weaker (λ at. (g.number == at.line.number) ≡ false) (λ at. group after at ≡ group placed at) (λ at n. group_other at.line (header_of bytes at.line.tokens) n) lines h)

    module _ (header : Header) (has_header : header_of bytes g.tokens ≡ Some header) (group_line : is_group (kind_by g.tokens (p ∷ above)) ≡ true) (p_before : p.number < g.number) (cut : CutAt placed g (p ∷ above)) where
      abbrev at_group : PlacedLine
      at_group = record { line = g; kind = kind_by g.tokens (p ∷ above); above = p ∷ above }

      earlier_other : Each (λ at. (g.number == at.line.number) ≡ false) cut.earlier
      earlier_other = each_weaker (λ at. at.line.number < g.number) (λ at. (g.number == at.line.number) ≡ false) (λ at l. number_other g.number at.line.number l) cut.earlier cut.before

      later_other : Each (λ at. (g.number == at.line.number) ≡ false) cut.later
      later_other = each_weaker (λ at. (g.number < at.line.number) × IsFrom g.number at.above) (λ at. (g.number == at.line.number) ≡ false) (λ at l. other_number g.number at.line.number l.0) cut.later cut.behind

      not_nearest : (above_at : List Line) → IsFrom g.number above_at → stands_under p.number above_at ≡ false
      not_nearest [] h = refl
      not_nearest (nearest ∷ more) h = number_other nearest.number p.number (omega arith)

      later_elsewhere : filter (under p.number) cut.later ≡ []
      later_elsewhere =
          filter_none (under p.number) cut.later
          (each_weaker (λ at. (g.number < at.line.number) × IsFrom g.number at.above) (λ at. under p.number at ≡ false) (λ at l. ap (λ (b : Bool). is_group at.kind && b) (not_nearest at.above l.1) ∙ and_false (is_group at.kind)) cut.later cut.behind)

      -- the group is the last one of its parent
      groups_of_parent : filter (under p.number) placed ≡ filter (under p.number) cut.earlier ++ at_group ∷ []
      groups_of_parent =
          let own : (p.number == p.number) ≡ true = grind (arith, nat_tests) in
          ap (filter (under p.number)) cut.whole
          ∙ filter-append (under p.number) cut.earlier (at_group ∷ cut.later)
          ∙ rw (group_line, own, later_elsewhere) refl

      grown_groups : filter_map (group after) (filter (under p.number) placed) ≡ changed_last (with_one_more (length features)) (filter_map (group placed) (filter (under p.number) placed))
      grown_groups =
          let own : (g.number == g.number) ≡ true = grind (arith, nat_tests) in
          let early = filter (under p.number) cut.earlier in
          let last_after : filter_map (group after) (at_group ∷ []) ≡ with_one_more (length features) (group_of placed g header) ∷ [] = rw (has_header, group_grown g header own) refl in
          let last_before : filter_map (group placed) (at_group ∷ []) ≡ group_of placed g header ∷ [] = rw has_header refl in
          let same = groups_other early (each_filter (λ at. (g.number == at.line.number) ≡ false) (under p.number) cut.earlier earlier_other) in
          let left : filter_map (group after) (filter (under p.number) placed) ≡ filter_map (group placed) early ++ with_one_more (length features) (group_of placed g header) ∷ [] =
          ap (filter_map (group after)) groups_of_parent ∙ filter_map-append (group after) early (at_group ∷ []) ∙ rw (same, last_after) refl in
          let right : filter_map (group placed) (filter (under p.number) placed) ≡ filter_map (group placed) early ++ group_of placed g header ∷ [] =
          ap (filter_map (group placed)) groups_of_parent ∙ filter_map-append (group placed) early (at_group ∷ []) ∙ rw last_before refl in
          left ∙ sym (ap (changed_last (with_one_more (length features))) right ∙ changed_last-append (with_one_more (length features)) (filter_map (group placed) early) (group_of placed g header))

      -- the groups of another feature are as they were
      elsewhere : (number : ℕ) → (number == p.number) ≡ false → filter_map (group after) (filter (under number) placed) ≡ filter_map (group placed) (filter (under number) placed)
      elsewhere number n =
          let other : (p.number == number) ≡ false = rw (same_number p.number number) n in
          let cut_there : filter (under number) placed ≡ filter (under number) (cut.earlier ++ cut.later) =
          ap (filter (under number)) cut.whole ∙ filter-append (under number) cut.earlier (at_group ∷ cut.later) ∙ rw (group_line, other) (sym (filter-append (under number) cut.earlier cut.later)) in
          let rest : Each (λ at. (g.number == at.line.number) ≡ false) (cut.earlier ++ cut.later) = each_append (λ at. (g.number == at.line.number) ≡ false) cut.earlier cut.later earlier_other later_other in
          rw cut_there (groups_other (filter (under number) (cut.earlier ++ cut.later)) (each_filter (λ at. (g.number == at.line.number) ≡ false) (under number) (cut.earlier ++ cut.later) rest))

      old_parent : (above_at : List Line) → HasFound features above_at → parent_of after above_at ≡ parent_of placed above_at
      old_parent [] h = refl
      old_parent (group ∷ []) h = refl
      old_parent (group ∷ feature ∷ more) h = ap (λ (n : ℕ). Some n) (old_number feature h)

      with_child_if : (at : PlacedLine) → HasFound features at.above → feature_on bytes after at ≡ changed (with_last_child (length features)) (feature_on bytes placed) p.number at
      with_child_if at h =
          let parent = old_parent at.above h in
          let groups = groups_after at.line in
          elim (cases_Bool (at.line.number == p.number)) [
            | inl y ↦
                let same : at.line.number ≡ p.number = grind (arith, nat_tests) in
                let here : filter_map (group after) (filter (under at.line.number) placed) ≡ changed_last (with_one_more (length features)) (groups_of bytes placed at.line) = rw same grown_groups in
                rw y (cc)
            | inr n ↦
                let here = elsewhere at.line.number n in
                rw n (cc)
          ]

      new_child : feature_on bytes after x ≡ new_feature (feature_name bytes x.line) (Some (number_of placed p))
      new_child =
          let parent : parent_of after x.above ≡ Some (number_of placed p) = ap (parent_of after) x_above ∙ ap (λ (n : ℕ). Some n) (old_number p p_found) in
          let groups = no_groups in
          cc

      pub model_child : map (feature_on bytes after) (features_of after)
          ≡ changed_at (with_last_child (length features)) (map (feature_on bytes placed) features) (number_of placed p) ++ new_feature (feature_name bytes x.line) (Some (number_of placed p)) ∷ []
      model_child =
          let number : number_of placed p ≡ seek features p.number = number_found features p.number p_found in
          let old : map (feature_on bytes after) features ≡ changed_at (with_last_child (length features)) (map (feature_on bytes placed) features) (number_of placed p) =
          map_each (feature_on bytes after) (changed (with_last_child (length features)) (feature_on bytes placed) p.number) features
          (each_weaker (λ at. HasFound features at.above) (λ at. feature_on bytes after at ≡ changed (with_last_child (length features)) (feature_on bytes placed) p.number at) (λ at h. with_child_if at h) features known.parents)
          ∙ sym (changed_found (with_last_child (length features)) (feature_on bytes placed) p.number features known.rising p_found)
          ∙ ap (changed_at (with_last_child (length features)) (map (feature_on bytes placed) features)) (sym number) in
          ap (map (feature_on bytes after)) more_features ∙ map-append (feature_on bytes after) features (x ∷ []) ∙ rw (old, new_child) refl
