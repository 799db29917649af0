-- After each line one feature more may be put where it stands.
use Rattle.std.proofs.Common.{◌≡◌, ◌≢◌, ℕ, suc, ◌+◌, ◌<◌, ◌&&◌, nat_le, Bool, true, false, List, [], ◌∷◌, length, Option, Some, None, refl, sym, ap, subst, ◌∙◌, arith, inl, inr}
use Rattle.std.proofs.lemmas.Bool.{cases_Bool}
use Rattle.std.proofs.lemmas.Bool.Decides.{nat_tests}
use Rattle.std.proofs.lemmas.List.{length-map}
use Rattle.std.proofs.lemmas.List.Elements.{All-nil, All-cons}
use Rattle.std.specs.Cmp.Lexicographic.{bytes_decides}
use Rattle.std.specs.Option.{is_some}
use Rattle.std.specs.Str.{bytes_eq}
use Rattle.feature_tree.specs.declared.feature.Feature.{Feature}
use Rattle.feature_tree.specs.Growing.{IsNewName}
use Rattle.feature_tree.specs.WellFormed.{groups_of, feature_names}
use Rattle.name_table.specs.Numbers.{Numbers, number_of}
use Rattle.uvl_lex.specs.declared.token.Token.{Token}
use Rattle.uvl_reader.specs.declared.error.Reason.TheVariants as reason
use Rattle.uvl_reader.specs.declared.kind.LineKind.{LineKind}
use Rattle.uvl_reader.specs.declared.kind.LineKind.TheVariants.{SectionLine, FeatureLine, GroupLine, ConstraintLine, NoLine}
use Rattle.uvl_reader.specs.declared.kind.Section.TheVariants.{Namespace, Include, Imports, Features, Constraints}
use Rattle.uvl_reader.specs.declared.pending.Pending.{Pending}
use Rattle.uvl_reader.specs.declared.stack.Open.{Open}
use Rattle.uvl_reader.specs.LineKinds.{kind_under}
use Rattle.uvl_reader.specs.Refusals.{fault_if}
use Rattle.uvl_reader.specs.inside.Good.{features_in, placed_names, HasOwner, AllOwned, AreOpen, IsGood, TakesMore}
use Rattle.uvl_reader.specs.inside.Standing.{Standing, nearest_of, is_deeper, kind_at, owner_at, is_single, still_open, pending_fault, place_fault, name_fault}
use Rattle.uvl_reader.specs.inside.Next.{closed}
use Rattle.uvl_reader.proofs.NextLaws.{none_first, none_if}
use Rattle.uvl_reader.proofs.PreservedLaws.{none_closed, none_pending}

-- ---- closing lines

still_owned : (features : List Feature) (indent : ℕ) (lines : List Open) → AllOwned features lines → AllOwned features (still_open indent lines)
still_owned features indent [] h = tt
still_owned features indent (line ∷ lines) h =
    elim (cases_Bool (nat_le indent line.indent)) [ inl y ↦ rw y (still_owned features indent lines h.1) | inr n ↦ rw n h ]

still_are_open : (features : List Feature) (pending : Option Pending) (indent : ℕ) (lines : List Open) → pending_fault (is_deeper indent (nearest_of lines)) pending ≡ None → AreOpen features pending lines → AreOpen features pending (still_open indent lines)
still_are_open features None indent lines e h = still_owned features indent lines h
still_are_open features (Some pending) indent lines e h =
    subst (AreOpen features (Some pending)) (sym (none_closed indent lines (none_pending (is_deeper indent (nearest_of lines)) pending e))) h

pub good_closed : (bytes : List ℕ) (read : Standing) (indent : ℕ) → IsGood bytes read → pending_fault (is_deeper indent (nearest_of read.open_now)) read.pending ≡ None → IsGood bytes (closed read indent)
good_closed bytes read indent good e = record {
  names = good.names;
  open_now = still_are_open (features_in read.tree) read.pending indent read.open_now e good.open_now;
  stated = good.stated;
}

pub good_under : (bytes : List ℕ) (read : Standing) (under : Bool) → IsGood bytes read → IsGood bytes (record read { under = under })
good_under bytes read under good = record { names = good.names; open_now = good.open_now; stated = good.stated }

-- ---- what a feature more needs

pub names_long : (from : ℕ) (names : List (List ℕ)) → length (placed_names from names) ≡ length names
names_long from [] = refl
names_long from (name ∷ names) = ap suc (names_long (from + 1) names)

new_names : (from : ℕ) (features : List Feature) (name : List ℕ) → number_of (placed_names from (feature_names features)) name ≡ None → IsNewName features name
new_names from [] name e = All-nil (λ (feature : Feature). feature.name ≢ name)
new_names from (feature ∷ features) name e =
    elim (cases_Bool (bytes_eq name feature.name)) [
      | inl y ↦ let is : Some from ≡ None = rw y at e in absurd (cc)
      | inr n ↦
          let other : feature.name ≢ name = λ same. (let yes : bytes_eq name feature.name ≡ true = (bytes_decides name feature.name).1 (sym same) in absurd (cc)) in
          All-cons (λ (one : Feature). one.name ≢ name) feature features other (new_names (from + 1) features name (rw n at e))
    ]

none_is : (found : Option ℕ) → is_some found ≡ false → found ≡ None
none_is None e = refl
none_is (Some number) e = absurd (cc)

pub name_free : (names : Numbers) (name : List ℕ) → name_fault names name ≡ None → (length names < 65535) × (number_of names name ≡ None)
name_free names name e =
    let both = none_first (fault_if (nat_le 65535 (length names)) reason.TooMany) (fault_if (is_some (number_of names name)) reason.Twice) e in
    let few : nat_le 65535 (length names) ≡ false = none_if (nat_le 65535 (length names)) reason.TooMany both.0 in
    (grind (arith, nat_tests), none_is (number_of names name) (none_if (is_some (number_of names name)) reason.Twice both.1))

-- a feature stands under `features` or under a group
under_feature : (kind : LineKind) → FeatureLine ≡ kind_under kind → (kind ≡ GroupLine → ⊥) → kind ≡ SectionLine (Some Features)
under_feature (SectionLine (Some Namespace)) e n = absurd (cc)
under_feature (SectionLine (Some Include)) e n = absurd (cc)
under_feature (SectionLine (Some Imports)) e n = absurd (cc)
under_feature (SectionLine (Some Features)) e n = refl
under_feature (SectionLine (Some Constraints)) e n = absurd (cc)
under_feature (SectionLine None) e n = absurd (cc)
under_feature FeatureLine e n = absurd (cc)
under_feature GroupLine e n = absurd (n refl)
under_feature ConstraintLine e n = absurd (cc)
under_feature NoLine e n = absurd (cc)

has_groups : (features : List Feature) (tokens : List Token) (lines : List Open) → AllOwned features lines → FeatureLine ≡ kind_at (nearest_of lines) tokens → is_single lines ≡ false → 0 < length (groups_of features (owner_at (nearest_of lines)))
has_groups features tokens [] h e n = absurd (cc)
has_groups features tokens (line ∷ lines) h e n = by_kind line.kind refl
  where
    single : (above : List Open) → above ≡ [] → is_single (line ∷ above) ≡ true
    single above none = rw none refl

    by_kind : (kind : LineKind) → line.kind ≡ kind → 0 < length (groups_of features line.feature)
    by_kind GroupLine k = subst (λ (kind : LineKind). HasOwner features kind line.feature lines) k h.0
    by_kind (SectionLine section) k =
        let none : lines ≡ [] = subst (λ (kind : LineKind). HasOwner features kind line.feature lines) k h.0 in
        let yes : is_single (line ∷ lines) ≡ true = single lines none in
        absurd (cc)
    by_kind FeatureLine k = let wrong : FeatureLine ≡ GroupLine = e ∙ ap kind_under k in absurd (cc)
    by_kind ConstraintLine k = let wrong : FeatureLine ≡ NoLine = e ∙ ap kind_under k in absurd (cc)
    by_kind NoLine k = let wrong : FeatureLine ≡ NoLine = e ∙ ap kind_under k in absurd (cc)

takes_if : (tree : Option (List Feature)) (pending : Option Pending) (lines : List Open) (tokens : List Token) (name : List ℕ) → AreOpen (features_in tree) pending lines → FeatureLine ≡ kind_at (nearest_of lines) tokens → (is_single lines && is_some tree) ≡ false
    → length (feature_names (features_in tree)) < 65535 → IsNewName (features_in tree) name → TakesMore tree pending (owner_at (nearest_of lines)) name
takes_if None pending lines tokens name h e one few new = tt
takes_if (Some features) None lines tokens name h e one few new =
    let size = length-map features (λ (feature : Feature). feature.name) in
    (has_groups features tokens lines h e (alone (is_single lines) one), omega arith, new)
  where
    alone : (single : Bool) → (single && true) ≡ false → single ≡ false
    alone true wrong = absurd (cc)
    alone false wrong = refl
takes_if (Some features) (Some pending) [] tokens name h e one few new = absurd h
takes_if (Some features) (Some pending) (line ∷ lines) tokens name h e one few new =
    let size = length-map features (λ (feature : Feature). feature.name) in
    (h.1, omega arith, new, h.3)

pub takes_more : (bytes : List ℕ) (read : Standing) (tokens : List Token) (name : List ℕ) → IsGood bytes read → FeatureLine ≡ kind_at (nearest_of read.open_now) tokens → place_fault read tokens ≡ None → name_fault read.names name ≡ None
    → TakesMore read.tree read.pending (owner_at (nearest_of read.open_now)) name
takes_more bytes read tokens name good e place fault =
    let free = name_free read.names name fault in
    let features = features_in read.tree in
    let count : length read.names ≡ length (feature_names features) = ap length good.names ∙ names_long 0 (feature_names features) in
    let few : length (feature_names features) < 65535 = let l = free.0 in omega arith in
    let new : IsNewName features name = new_names 0 features name (subst (λ (names : Numbers). number_of names name ≡ None) good.names free.1) in
    let one = none_if (is_single read.open_now && is_some read.tree) reason.Misplaced (none_first _ _ place).0 in
    takes_if read.tree read.pending read.open_now tokens name good.open_now e one few new
