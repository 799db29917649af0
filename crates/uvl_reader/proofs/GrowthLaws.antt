-- The features that lines give, when one line more is read.
use Rattle.std.proofs.Common.{◌≡◌, ℕ, ◌<◌, ◌==◌, ◌&&◌, Bool, true, false, if◌then◌else◌, List, [], ◌∷◌, ◌++◌, map, Option, Some, None, refl, sym, ap, ◌∙◌, arith, append-nil, inl, inr}
use Rattle.std.proofs.lemmas.Bool.{cases_Bool}
use Rattle.std.proofs.lemmas.Bool.Decides.{nat_tests}
use Rattle.std.proofs.lemmas.List.Elements.{filter-append, filter_map-append}
use Rattle.std.specs.List.{filter, filter_map}
use Rattle.std.specs.Option.{option_map}
use Rattle.feature_tree.specs.declared.group.Group.{Group}
use Rattle.feature_tree.specs.Growing.{changed_at, changed_last, with_last_group}
use Rattle.uvl_lex.specs.declared.token.Line.{Line}
use Rattle.uvl_reader.specs.declared.header.Header.{Header}
use Rattle.uvl_reader.specs.LineKinds.{is_feature, is_group}
use Rattle.uvl_reader.specs.Shapes.{header_of}
use Rattle.uvl_reader.specs.ModelReading.{PlacedLine, features_of, stands_under, number_of, children_of, group_of, groups_of, parent_of, feature_on}
use Rattle.uvl_reader.proofs.PlacedLaws.{Each, each_filter, each_weaker, map_each, filter_none, AllLess, IsBefore, Rising, seek, Found, number_found, changed, changed_found}

pub same_number : (a b : ℕ) → (a == b) ≡ (b == a)
same_number a b = grind (arith, nat_tests)

-- a number below that of another
pub other_number : (a b : ℕ) → a < b → (a == b) ≡ false
other_number a b l = grind (arith, nat_tests)

pub number_other : (a b : ℕ) → b < a → (a == b) ≡ false
number_other a b l = grind (arith, nat_tests)

pub and_false : (b : Bool) → (b && false) ≡ false
and_false true = refl
and_false false = refl

-- a feature that stands under this number
pub not_under : (number : ℕ) (above : List Line) → AllLess number above → stands_under number above ≡ false
not_under number [] h = refl
not_under number (nearest ∷ above) h = let l : nearest.number < number = h.0 in grind (arith, nat_tests)

pub filter_same : {X : Type 0} (p q : X → Bool) (xs : List X) → Each (λ x. p x ≡ q x) xs → filter p xs ≡ filter q xs
filter_same p q [] h = refl
filter_same p q (x ∷ xs) h =
    elim (cases_Bool (q x)) [
      | inl y ↦ rw (h.0, y) (ap (λ (rest : List _). x ∷ rest) (filter_same p q xs h.1))
      | inr n ↦ rw (h.0, n) (filter_same p q xs h.1)
    ]

pub filter_map_same : {X Y : Type 0} (f g : X → Option Y) (xs : List X) → Each (λ x. f x ≡ g x) xs → filter_map f xs ≡ filter_map g xs
filter_map_same f g [] h = refl
filter_map_same f g (x ∷ xs) h = let first = h.0 in let rest = filter_map_same f g xs h.1 in cc

pub changed_last-append : {X : Type 0} (change : X → X) (xs : List X) (y : X) → changed_last change (xs ++ y ∷ []) ≡ xs ++ change y ∷ []
changed_last-append change [] y = refl
changed_last-append change (x ∷ []) y = refl
changed_last-append change (x ∷ z ∷ xs) y = ap (λ (rest : List _). x ∷ rest) (changed_last-append change (z ∷ xs) y)

-- ---- the features among lines with their places

features_push_other : (placed : List PlacedLine) (x : PlacedLine) → is_feature x.kind ≡ false → features_of (placed ++ x ∷ []) ≡ features_of placed
features_push_other placed x n =
    filter-append (λ (at : PlacedLine). is_feature at.kind) placed (x ∷ [])
    ∙ rw n (append-nil (features_of placed))

pub features_push : (placed : List PlacedLine) (x : PlacedLine) → is_feature x.kind ≡ true → features_of (placed ++ x ∷ []) ≡ features_of placed ++ x ∷ []
features_push placed x y = filter-append (λ (at : PlacedLine). is_feature at.kind) placed (x ∷ []) ∙ rw y refl

pub features_push_none : (placed : List PlacedLine) (x : PlacedLine) → is_feature x.kind ≡ false → features_of (placed ++ x ∷ []) ≡ features_of placed
features_push_none placed x n = features_push_other placed x n

pub every : {X : Type 0} {Q : X → Type 0} → ((x : X) → Q x) → (xs : List X) → Each Q xs
every f [] = tt
every f (x ∷ xs) = (f x, every f xs)

-- a group, which has no child yet
abbrev pub childless : Header → Group
childless header = record { kind = header.kind; low = header.low; high = header.high; children = [] }

-- the parent of a feature is among these features
abbrev pub HasFound : List PlacedLine → List Line → Type 0
HasFound features (group ∷ feature ∷ above) = Found features feature.number
HasFound features above = Unit {0}

-- what the features of lines with their places are to each other
pub record Known (placed : List PlacedLine) : Type 0 where
  pub rising : Rising (features_of placed)
  pub own : Each (λ at. Found (features_of placed) at.line.number) (features_of placed)
  pub parents : Each (λ at. HasFound (features_of placed) at.above) (features_of placed)

module _ (bytes : List ℕ) (placed : List PlacedLine) (x : PlacedLine) where
  abbrev after : List PlacedLine
  after = placed ++ x ∷ []

  abbrev features : List PlacedLine
  features = features_of placed

  abbrev pub under : ℕ → PlacedLine → Bool
  under number at = is_group at.kind && stands_under number at.above

  -- ---- neither a feature nor a group

  module _ (no_feature : is_feature x.kind ≡ false) where
    same_features : features_of after ≡ features
    same_features = features_push_other placed x no_feature

    same_number_of : (line : Line) → number_of after line ≡ number_of placed line
    same_number_of line = rw same_features refl

    same_parent : (above : List Line) → parent_of after above ≡ parent_of placed above
    same_parent [] = refl
    same_parent (group ∷ []) = refl
    same_parent (group ∷ feature ∷ above) = ap (λ (n : ℕ). Some n) (same_number_of feature)

    same_group_of : (line : Line) (header : Header) → group_of after line header ≡ group_of placed line header
    same_group_of line header = rw same_features refl

    same_if : (line : Line) (header : Option Header) → option_map (group_of after line) header ≡ option_map (group_of placed line) header
    same_if line None = refl
    same_if line (Some header) = ap (λ (group : Group). Some group) (same_group_of line header)

    old_groups : (line : Line) → filter_map (λ at. option_map (group_of after at.line) (header_of bytes at.line.tokens)) (filter (under line.number) placed) ≡ groups_of bytes placed line
    old_groups line =
        filter_map_same (λ at. option_map (group_of after at.line) (header_of bytes at.line.tokens)) (λ at. option_map (group_of placed at.line) (header_of bytes at.line.tokens)) (filter (under line.number) placed)
        (every (λ at. same_if at.line (header_of bytes at.line.tokens)) (filter (under line.number) placed))

    groups_after : (line : Line) → groups_of bytes after line ≡ groups_of bytes placed line ++ filter_map (λ at. option_map (group_of after at.line) (header_of bytes at.line.tokens)) (filter (under line.number) (x ∷ []))
    groups_after line =
        let group : PlacedLine → Option Group = λ at. option_map (group_of after at.line) (header_of bytes at.line.tokens) in
        ap (filter_map group) (filter-append (under line.number) placed (x ∷ []))
        ∙ filter_map-append group (filter (under line.number) placed) (filter (under line.number) (x ∷ []))
        ∙ ap (λ (old : List Group). old ++ filter_map group (filter (under line.number) (x ∷ []))) (old_groups line)

    same_feature : (at : PlacedLine) → groups_of bytes after at.line ≡ groups_of bytes placed at.line → feature_on bytes after at ≡ feature_on bytes placed at
    same_feature at g = let p = same_parent at.above in cc

    pub model_other : is_group x.kind ≡ false → map (feature_on bytes after) (features_of after) ≡ map (feature_on bytes placed) features
    model_other no_group =
        let none : (line : Line) → groups_of bytes after line ≡ groups_of bytes placed line = λ line. groups_after line ∙ rw no_group (append-nil (groups_of bytes placed line)) in
        ap (map (feature_on bytes after)) same_features
        ∙ map_each (feature_on bytes after) (feature_on bytes placed) features
        (every (λ at. same_feature at (none at.line)) features)

    module _ (header : Header) (group_line : is_group x.kind ≡ true) (has_header : header_of bytes x.line.tokens ≡ Some header) (before : Each (IsBefore x.line.number) placed) where
      no_children : children_of placed x.line ≡ []
      no_children = ap (map (λ at. number_of placed at.line))
          (filter_none (λ at. stands_under x.line.number at.above) features
          (each_weaker (IsBefore x.line.number) (λ at. stands_under x.line.number at.above ≡ false) (λ at k. not_under x.line.number at.above k.1) features
          (each_filter (IsBefore x.line.number) (λ at. is_feature at.kind) placed before)))

      new_group : group_of after x.line header ≡ childless header
      new_group = same_group_of x.line header ∙ ap (λ (children : List ℕ). record { kind = header.kind; low = header.low; high = header.high; children = children }) no_children

      new_groups : (nearest : Line) (above : List Line) (line : Line) → x.above ≡ nearest ∷ above
          → groups_of bytes after line ≡ (if line.number == nearest.number then groups_of bytes placed line ++ childless header ∷ [] else groups_of bytes placed line)
      new_groups nearest above line e =
          elim (cases_Bool (line.number == nearest.number)) [
            | inl y ↦
                let t : stands_under line.number x.above ≡ true = rw (e, same_number nearest.number line.number) y in
                groups_after line ∙ rw (y, group_line, t, has_header, new_group) refl
            | inr n ↦
                let t : stands_under line.number x.above ≡ false = rw (e, same_number nearest.number line.number) n in
                groups_after line ∙ rw (n, group_line, t) (append-nil (groups_of bytes placed line))
          ]

      with_group_if : (nearest : Line) (above : List Line) → x.above ≡ nearest ∷ above → (at : PlacedLine)
          → feature_on bytes after at ≡ changed (with_last_group (childless header)) (feature_on bytes placed) nearest.number at
      with_group_if nearest above e at =
          let p = same_parent at.above in
          let g = new_groups nearest above at.line e in
          elim (cases_Bool (at.line.number == nearest.number)) [
            | inl y ↦ let here : groups_of bytes after at.line ≡ groups_of bytes placed at.line ++ childless header ∷ [] = rw y at g in rw y (cc)
            | inr n ↦ let here : groups_of bytes after at.line ≡ groups_of bytes placed at.line = rw n at g in rw n (cc)
          ]

      pub model_group : (nearest : Line) (above : List Line) → x.above ≡ nearest ∷ above → Rising features → Found features nearest.number
          → map (feature_on bytes after) (features_of after) ≡ changed_at (with_last_group (childless header)) (map (feature_on bytes placed) features) (number_of placed nearest)
      model_group nearest above e rising found =
          let number : number_of placed nearest ≡ seek features nearest.number = number_found features nearest.number found in
          ap (map (feature_on bytes after)) same_features
          ∙ map_each (feature_on bytes after) (changed (with_last_group (childless header)) (feature_on bytes placed) nearest.number) features
          (every (with_group_if nearest above e) features)
          ∙ sym (changed_found (with_last_group (childless header)) (feature_on bytes placed) nearest.number features rising found)
          ∙ ap (changed_at (with_last_group (childless header)) (map (feature_on bytes placed) features)) (sym number)
