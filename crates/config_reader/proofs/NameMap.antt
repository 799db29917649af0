-- The names of features, as far as they stand in a table of names.
use Rattle.std.proofs.Common.{◌≡◌, ◌≢◌, ℕ, zero, suc, ◌+◌, ◌<◌, false, List, [], ◌∷◌, ◌++◌, length, get_or, take, nat_eq, None, refl, sym, ap, ◌∙◌, arith}
use Rattle.std.proofs.lemmas.Bool.{false_from_ne_true}
use Rattle.std.proofs.lemmas.List.{get_or-map, length-map}
use Rattle.std.specs.Cmp.Lexicographic.{pointwise, bytes_decides}
use Rattle.feature_tree.specs.declared.feature.Feature.{Feature}
use Rattle.feature_tree.specs.WellFormed.{NamesDiffer}
use Rattle.config_reader.specs.Names.{names_from}
use Rattle.name_table.specs.Numbers.{Numbers}
use Rattle.std.specs.Map.{lookup}

-- the names of the first features
pub names_from-take : (number i : ℕ) (features : List Feature) (d : Feature) → i < length features → names_from number (take (i + 1) features) ≡ names_from number (take i features) ++ ((get_or features i d).name, number + i) ∷ []
names_from-take number i [] d l = absurd (omega arith)
names_from-take number zero (feature ∷ after) d l = let e : number + 0 ≡ number = omega arith in rw e refl
names_from-take number (suc i) (feature ∷ after) d l =
    let more : suc i + 1 ≡ suc (i + 1) = omega arith in
    let e : (number + 1) + i ≡ number + suc i = omega arith in
    let next : names_from (number + 1) (take (i + 1) after) ≡ names_from (number + 1) (take i after) ++ ((get_or after i d).name, number + suc i) ∷ [] = rw e at (names_from-take (number + 1) i after d (omega arith)) in
    rw more (ap (λ (names : Numbers). (feature.name, number) ∷ names) next)

-- a name that differs from those of the first features is not among them
pub none_before : (name : List ℕ) (number i : ℕ) (features : List Feature) → ((k : ℕ) (d : Feature) → k < i → k < length features → (get_or features k d).name ≢ name) → lookup (pointwise nat_eq name) (names_from number (take i features)) ≡ None
none_before name number zero features h = refl
none_before name number (suc i) [] h = refl
none_before name number (suc i) (feature ∷ after) h =
    let other : pointwise nat_eq name feature.name ≡ false = false_from_ne_true (pointwise nat_eq name feature.name) (λ e. h 0 feature (omega arith) (omega arith) (sym ((bytes_decides name feature.name).0 e))) in
    rw other (none_before name (number + 1) i after (λ k d l m. h (suc k) d (omega arith) (omega arith)))

-- the name of a feature is not among those of the features before it
pub name_is_new : (features : List Feature) (i : ℕ) (d : Feature) → NamesDiffer features → i < length features → lookup (pointwise nat_eq (get_or features i d).name) (names_from 0 (take i features)) ≡ None
name_is_new features i d differ l =
    none_before (get_or features i d).name 0 i features
    (λ k e before within same.
    let one = get_or-map (λ (feature : Feature). feature.name) features k e [] within in
    let other = get_or-map (λ (feature : Feature). feature.name) features i d [] l in
    let size = length-map features (λ (feature : Feature). feature.name) in
    differ k i [] before (omega arith) (one ∙ same ∙ sym other))
