-- What holds of the features of all lines before a line.
use Rattle.std.proofs.Common.{◌≡◌, ℕ, ◌<◌, nat_lt, true, false, List, [], ◌∷◌, ◌++◌, length, Some, None, refl, sym, subst, arith, length-append, inl, inr}
use Rattle.std.proofs.lemmas.Bool.{cases_Bool}
use Rattle.uvl_lex.specs.declared.token.Line.{Line}
use Rattle.uvl_lex.specs.declared.token.Token.{Token}
use Rattle.uvl_reader.specs.declared.kind.LineKind.{LineKind}
use Rattle.uvl_reader.specs.declared.kind.LineKind.TheVariants.{SectionLine, FeatureLine, GroupLine, ConstraintLine, NoLine}
use Rattle.uvl_reader.specs.declared.kind.Section.TheVariants.{Namespace, Include, Imports, Features, Constraints}
use Rattle.uvl_reader.specs.Nesting.{lines_above}
use Rattle.uvl_reader.specs.LineKinds.{kind_by, kind_of, kind_under, is_feature, is_group}
use Rattle.uvl_reader.specs.ModelReading.{PlacedLine, features_of}
use Rattle.uvl_reader.proofs.PlacedLaws.{Each, each_append, each_filter, each_weaker, AllLess, Falling, IsBefore, all_before, place, placed_of, placed_rising, rising_filter, Found, seek_new, found_more}
use Rattle.uvl_reader.proofs.GrowthLaws.{HasFound, Known, features_push, features_push_none}

-- each feature among these lines, the nearest first, is among the features
abbrev pub FeaturesFound : List PlacedLine → List Line → Type 0
FeaturesFound features [] = Unit {0}
FeaturesFound features (line ∷ above) = (is_feature (kind_by line.tokens above) ≡ true → Found features line.number) × FeaturesFound features above

-- ---- what the kinds say

-- a feature under a line that isn't the last stands under a group of a feature
pub feature_under_group : (kind : LineKind) → is_feature (kind_under (kind_under kind)) ≡ true → (is_group (kind_under kind) ≡ true) × (is_feature kind ≡ true)
feature_under_group (SectionLine (Some Namespace)) e = absurd (cc)
feature_under_group (SectionLine (Some Include)) e = absurd (cc)
feature_under_group (SectionLine (Some Imports)) e = absurd (cc)
feature_under_group (SectionLine (Some Features)) e = absurd (cc)
feature_under_group (SectionLine (Some Constraints)) e = absurd (cc)
feature_under_group (SectionLine None) e = absurd (cc)
feature_under_group FeatureLine e = (refl, refl)
feature_under_group GroupLine e = absurd (cc)
feature_under_group ConstraintLine e = absurd (cc)
feature_under_group NoLine e = absurd (cc)

pub group_under_feature : (kind : LineKind) → is_group (kind_under kind) ≡ true → is_feature kind ≡ true
group_under_feature (SectionLine (Some Namespace)) e = absurd (cc)
group_under_feature (SectionLine (Some Include)) e = absurd (cc)
group_under_feature (SectionLine (Some Imports)) e = absurd (cc)
group_under_feature (SectionLine (Some Features)) e = absurd (cc)
group_under_feature (SectionLine (Some Constraints)) e = absurd (cc)
group_under_feature (SectionLine None) e = absurd (cc)
group_under_feature FeatureLine e = refl
group_under_feature GroupLine e = absurd (cc)
group_under_feature ConstraintLine e = absurd (cc)
group_under_feature NoLine e = absurd (cc)

-- ---- more lines

found_weaker : (features : List PlacedLine) (x : PlacedLine) (lines : List Line) → FeaturesFound features lines → FeaturesFound (features ++ x ∷ []) lines
found_weaker features x [] h = tt
found_weaker features x (line ∷ above) h = (λ e. found_more features (x ∷ []) line.number (h.0 e), found_weaker features x above h.1)

parents_weaker : (features : List PlacedLine) (x : PlacedLine) (above : List Line) → HasFound features above → HasFound (features ++ x ∷ []) above
parents_weaker features x [] h = tt
parents_weaker features x (group ∷ []) h = tt
parents_weaker features x (group ∷ feature ∷ above) h = found_more features (x ∷ []) feature.number h

parents_found : (tokens : List Token) (features : List PlacedLine) (above : List Line) → is_feature (kind_by tokens above) ≡ true → FeaturesFound features above → HasFound features above
parents_found tokens features [] e h = tt
parents_found tokens features (group ∷ []) e h = tt
parents_found tokens features (group ∷ feature ∷ above) e h = h.1.0 (feature_under_group (kind_by feature.tokens above) e).1

-- the features of lines, and the open lines
pub record Facts (before : List Line) : Type 0 where
  pub known : Known (placed_of before)
  pub open_found : (indent : ℕ) → FeaturesFound (features_of (placed_of before)) (lines_above before indent)

new_found : (before : List Line) (last : Line) → AllLess last.number before → Found (features_of (placed_of before) ++ place before last ∷ []) last.number
new_found before last less =
    let features = features_of (placed_of before) in
    let x = place before last in
    let early = each_weaker (IsBefore last.number) (λ (at : PlacedLine). at.line.number < last.number) (λ at k. k.0) features (each_filter (IsBefore last.number) (λ (at : PlacedLine). is_feature at.kind) (placed_of before) (all_before last.number before less)) in
    let e = seek_new features x early in
    let size = length-append features (x ∷ []) in
    let one : length (x ∷ []) ≡ 1 = refl in
    omega arith

known_feature : (before : List Line) (last : Line) → Falling (last ∷ before) → is_feature (kind_of before last) ≡ true → Facts before → Facts (last ∷ before)
known_feature before last f y facts =
    let features = features_of (placed_of before) in
    let x = place before last in
    let more : features_of (placed_of (last ∷ before)) ≡ features ++ x ∷ [] = features_push (placed_of before) x y in
    let own : Each (λ (at : PlacedLine). Found (features ++ x ∷ []) at.line.number) (features ++ x ∷ []) =
    each_append (λ (at : PlacedLine). Found (features ++ x ∷ []) at.line.number) features (x ∷ [])
    (each_weaker (λ (at : PlacedLine). Found features at.line.number) (λ (at : PlacedLine). Found (features ++ x ∷ []) at.line.number) (λ at k. found_more features (x ∷ []) at.line.number k) features facts.known.own)
    (new_found before last f.0, tt) in
    let parents : Each (λ (at : PlacedLine). HasFound (features ++ x ∷ []) at.above) (features ++ x ∷ []) =
    each_append (λ (at : PlacedLine). HasFound (features ++ x ∷ []) at.above) features (x ∷ [])
    (each_weaker (λ (at : PlacedLine). HasFound features at.above) (λ (at : PlacedLine). HasFound (features ++ x ∷ []) at.above) (λ at k. parents_weaker features x at.above k) features facts.known.parents)
    (parents_weaker features x x.above (parents_found last.tokens features x.above y (facts.open_found last.indent)), tt) in
    record {
      known = record {
        rising = rising_filter (λ at. is_feature at.kind) (placed_of (last ∷ before)) (placed_rising (last ∷ before) f);
        own = subst (λ (all : List PlacedLine). Each (λ (at : PlacedLine). Found all at.line.number) all) (sym more) own;
        parents = subst (λ (all : List PlacedLine). Each (λ (at : PlacedLine). HasFound all at.above) all) (sym more) parents;
      };
      open_found = λ indent. subst (λ (all : List PlacedLine). FeaturesFound all (lines_above (last ∷ before) indent)) (sym more)
          (elim (cases_Bool (nat_lt last.indent indent)) [
            | inl low ↦ rw low ((λ e. new_found before last f.0), found_weaker features x (lines_above before last.indent) (facts.open_found last.indent))
            | inr high ↦ rw high (found_weaker features x (lines_above before indent) (facts.open_found indent))
          ]);
    }

known_other : (before : List Line) (last : Line) → Falling (last ∷ before) → is_feature (kind_of before last) ≡ false → Facts before → Facts (last ∷ before)
known_other before last f n facts =
    let features = features_of (placed_of before) in
    let x = place before last in
    let same : features_of (placed_of (last ∷ before)) ≡ features = features_push_none (placed_of before) x n in
    record {
      known = record {
        rising = rising_filter (λ at. is_feature at.kind) (placed_of (last ∷ before)) (placed_rising (last ∷ before) f);
        own = subst (λ (all : List PlacedLine). Each (λ (at : PlacedLine). Found all at.line.number) all) (sym same) facts.known.own;
        parents = subst (λ (all : List PlacedLine). Each (λ (at : PlacedLine). HasFound all at.above) all) (sym same) facts.known.parents;
      };
      open_found = λ indent. subst (λ (all : List PlacedLine). FeaturesFound all (lines_above (last ∷ before) indent)) (sym same)
          (elim (cases_Bool (nat_lt last.indent indent)) [
            | inl low ↦ rw low ((λ e. absurd (cc)), facts.open_found last.indent)
            | inr high ↦ rw high (facts.open_found indent)
          ]);
    }

pub facts_of : (before : List Line) → Falling before → Facts before
facts_of [] f = record { known = record { rising = tt; own = tt; parents = tt }; open_found = λ indent. tt }
facts_of (last ∷ before) f =
    elim (cases_Bool (is_feature (kind_of before last))) [
      | inl y ↦ known_feature before last f y (facts_of before f.1)
      | inr n ↦ known_other before last f n (facts_of before f.1)
    ]
