-- What follows where a line isn't refused, and what lists of features become.
use Rattle.std.proofs.Common.{◌≡◌, ℕ, zero, suc, ◌+◌, ◌<◌, ◌==◌, not, nat_lt, Bool, true, false, List, [], ◌∷◌, ◌++◌, length, Option, Some, None, refl, sym, ap, subst, ◌∙◌, arith, append_assoc, inl, inr}
use Rattle.std.proofs.lemmas.Bool.{cases_Bool}
use Rattle.std.proofs.lemmas.Bool.Decides.{nat_tests}
use Rattle.std.specs.List.{flat_map}
use Rattle.std.specs.Option.{unwrap_or}
use Rattle.feature_tree.specs.declared.feature.Feature.{Feature}
use Rattle.feature_tree.specs.declared.group.Group.{Group}
use Rattle.feature_tree.specs.Growing.{changed_at, new_feature, with_last_group, with_last_child, with_one_more}
use Rattle.name_table.specs.Numbers.{Numbers}
use Rattle.uvl_lex.specs.declared.token.Line.{Line}
use Rattle.uvl_lex.specs.declared.token.Token.{Token}
use Rattle.uvl_reader.specs.declared.error.Reason.{Reason}
use Rattle.uvl_reader.specs.declared.header.Header.{Header}
use Rattle.uvl_reader.specs.declared.kind.LineKind.{LineKind}
use Rattle.uvl_reader.specs.declared.kind.LineKind.TheVariants.{SectionLine, FeatureLine, GroupLine, ConstraintLine, NoLine}
use Rattle.uvl_reader.specs.declared.kind.Section.{Section}
use Rattle.uvl_reader.specs.declared.kind.Section.TheVariants.{Namespace, Include, Imports, Features, Constraints}
use Rattle.uvl_reader.specs.declared.pending.Pending.{Pending}
use Rattle.uvl_reader.specs.Nesting.{lines_above, has_place}
use Rattle.uvl_reader.specs.LineKinds.{kind_under, is_feature, is_group}
use Rattle.uvl_reader.specs.Attributes.{formulas_of_item}
use Rattle.uvl_reader.specs.Refusals.{first_of, fault_if, refusal_at, formula_fault, formulas_fault, item_fault, items_fault}
use Rattle.uvl_reader.specs.inside.Good.{placed_names}
use Rattle.uvl_reader.specs.inside.Standing.{StatedFormula, grown}
use Rattle.uvl_reader.specs.inside.Next.{stated_by, all_stated, listed_stated, items_stated}
use Rattle.uvl_reader.proofs.StackLaws.{Below, above_below}
use Rattle.uvl_reader.proofs.PlacedLaws.{Each, each_append}
use Rattle.uvl_reader.proofs.GrowthLaws.{childless, changed_last-append}
use Rattle.uvl_reader.proofs.StandsLaws.{IsParsed, Grounded, with_pending}

-- ---- what isn't refused

pub none_first : {A : Type 0} (one other : Option A) → first_of one other ≡ None → (one ≡ None) × (other ≡ None)
none_first None other e = (refl, e)
none_first (Some fault) other e = absurd (cc)

pub none_at : (line : ℕ) (fault : Option Reason) → refusal_at line fault ≡ None → fault ≡ None
none_at line None e = refl
none_at line (Some fault) e = absurd (cc)

pub none_if : (test : Bool) (fault : Reason) → fault_if test fault ≡ None → test ≡ false
none_if true fault e = absurd (cc)
none_if false fault e = refl

pub not_false : (test : Bool) → not test ≡ false → test ≡ true
not_false true e = refl
not_false false e = absurd (cc)

-- ---- kinds

pub group_gives_feature : (kind : LineKind) → is_group kind ≡ true → is_feature (kind_under kind) ≡ true
group_gives_feature (SectionLine section) e = absurd (cc)
group_gives_feature FeatureLine e = absurd (cc)
group_gives_feature GroupLine e = refl
group_gives_feature ConstraintLine e = absurd (cc)
group_gives_feature NoLine e = absurd (cc)

pub under_no_section : (kind : LineKind) (section : Option Section) → kind_under kind ≡ SectionLine section → ⊥
under_no_section (SectionLine (Some Namespace)) section e = absurd (cc)
under_no_section (SectionLine (Some Include)) section e = absurd (cc)
under_no_section (SectionLine (Some Imports)) section e = absurd (cc)
under_no_section (SectionLine (Some Features)) section e = absurd (cc)
under_no_section (SectionLine (Some Constraints)) section e = absurd (cc)
under_no_section (SectionLine None) section e = absurd (cc)
under_no_section FeatureLine section e = absurd (cc)
under_no_section GroupLine section e = absurd (cc)
under_no_section ConstraintLine section e = absurd (cc)
under_no_section NoLine section e = absurd (cc)

-- ---- the first line isn't indented

pub above_some : (before : List Line) (indent : ℕ) → Grounded before → 0 < indent → 0 < length before → 0 < length (lines_above before indent)
above_some [] indent g l some = absurd (omega arith)
above_some (first ∷ []) indent g l some = let y : nat_lt first.indent indent ≡ true = grind (arith, nat_tests) in rw y (omega arith)
above_some (last ∷ next ∷ before) indent g l some =
    elim (cases_Bool (nat_lt last.indent indent)) [
      | inl y ↦ rw y (omega arith)
      | inr n ↦ rw n (above_some (next ∷ before) indent g l (omega arith))
    ]

pub grounded_more : (before : List Line) (line : Line) → Grounded before → has_place before line.indent ≡ true → Grounded (line ∷ before)
grounded_more [] line g y = grind (arith, nat_tests)
grounded_more (last ∷ before) line g y = g

pub unindented : (before : List Line) (indent : ℕ) → Grounded before → has_place before indent ≡ true → lines_above before indent ≡ [] → indent ≡ 0
unindented [] indent g y e = grind (arith, nat_tests)
unindented (last ∷ before) zero g y e = refl
unindented (last ∷ before) (suc less) g y e =
    let some = above_some (last ∷ before) (suc less) g (omega arith) (omega arith) in
    let none : length (lines_above (last ∷ before) (suc less)) ≡ 0 = ap length e in
    absurd (omega arith)

pub indented : (before : List Line) (indent : ℕ) (nearest : Line) (above : List Line) → lines_above before indent ≡ nearest ∷ above → (indent == 0) ≡ false
indented before zero nearest above e =
    let below = above_below before zero in
    let nearer : nearest.indent < 0 = (subst (λ (lines : List Line). Below 0 lines) e below).0 in
    absurd (omega arith)
indented before (suc less) nearest above e = grind (arith, nat_tests)

-- ---- formulas

pub stated_append : (line : ℕ) (one other : List (List Token)) → all_stated line (one ++ other) ≡ all_stated line one ++ all_stated line other
stated_append line [] other = refl
stated_append line (tokens ∷ one) other = ap (λ (rest : List StatedFormula). stated_by line tokens ++ rest) (stated_append line one other) ∙ sym (append_assoc (stated_by line tokens) (all_stated line one) (all_stated line other))

pub listed_all : (line : ℕ) (found : Option (List (List Token))) → all_stated line (unwrap_or found []) ≡ listed_stated line found
listed_all line None = refl
listed_all line (Some formulas) = refl

pub items_all : (bytes : List ℕ) (line : ℕ) (items : List (List Token)) → all_stated line (flat_map (λ item. unwrap_or (formulas_of_item bytes item) []) items) ≡ items_stated bytes line items
items_all bytes line [] = refl
items_all bytes line (item ∷ others) =
    stated_append line (unwrap_or (formulas_of_item bytes item) []) (flat_map (λ item. unwrap_or (formulas_of_item bytes item) []) others)
    ∙ rw (listed_all line (formulas_of_item bytes item), items_all bytes line others) refl

formulas_parsed : (formulas : List (List Token)) → formulas_fault formulas ≡ None → Each IsParsed formulas
formulas_parsed [] e = tt
formulas_parsed (tokens ∷ others) e =
    let both = none_first (formula_fault tokens) (formulas_fault others) e in
    (both.0, formulas_parsed others both.1)

item_parsed : (found : Option (List (List Token))) → item_fault found ≡ None → Each IsParsed (unwrap_or found [])
item_parsed None e = absurd (cc)
item_parsed (Some formulas) e = formulas_parsed formulas e

pub items_parsed : (bytes : List ℕ) (items : List (List Token)) → items_fault bytes items ≡ None → Each IsParsed (flat_map (λ item. unwrap_or (formulas_of_item bytes item) []) items)
items_parsed bytes [] e = tt
items_parsed bytes (item ∷ others) e =
    let both = none_first (item_fault (formulas_of_item bytes item)) (items_fault bytes others) e in
    each_append IsParsed (unwrap_or (formulas_of_item bytes item) []) (flat_map (λ item. unwrap_or (formulas_of_item bytes item) []) others)
    (item_parsed (formulas_of_item bytes item) both.0) (items_parsed bytes others both.1)

-- ---- names

pub names_append : (from : ℕ) (names : List (List ℕ)) (name : List ℕ) → placed_names from (names ++ name ∷ []) ≡ placed_names from names ++ (name, from + length names) ∷ []
names_append from [] name = let e : from + 0 ≡ from = omega arith in rw e refl
names_append from (first ∷ names) name =
    let e : (from + 1) + length names ≡ from + suc (length names) = omega arith in
    ap (λ (rest : Numbers). (first, from) ∷ rest) (names_append (from + 1) names name ∙ rw e refl)

-- ---- trees

pub changed_twice : {X : Type 0} (f g : X → X) (xs : List X) (i : ℕ) → changed_at f (changed_at g xs i) i ≡ changed_at (λ x. f (g x)) xs i
changed_twice f g [] i = refl
changed_twice f g (x ∷ xs) zero = refl
changed_twice f g (x ∷ xs) (suc i) = ap (λ (rest : List _). x ∷ rest) (changed_twice f g xs i)

pub changed_same : {X : Type 0} (f g : X → X) → ((x : X) → f x ≡ g x) → (xs : List X) (i : ℕ) → changed_at f xs i ≡ changed_at g xs i
changed_same f g h [] i = refl
changed_same f g h (x ∷ xs) zero = ap (λ first. first ∷ xs) (h x)
changed_same f g h (x ∷ xs) (suc i) = ap (λ (rest : List _). x ∷ rest) (changed_same f g h xs i)

pub changed_length : {X : Type 0} (f : X → X) (xs : List X) (i : ℕ) → length (changed_at f xs i) ≡ length xs
changed_length f [] i = refl
changed_length f (x ∷ xs) zero = refl
changed_length f (x ∷ xs) (suc i) = ap suc (changed_length f xs i)

pub group_then_child : (header : Header) (child : ℕ) (feature : Feature) → with_last_child child (with_last_group (childless header) feature) ≡ with_last_group (with_one_more child (childless header)) feature
group_then_child header child feature = ap (λ (groups : List Group). record feature { groups = groups }) (changed_last-append (with_one_more child) feature.groups (childless header))

-- a child under the pending group, or under the last one
pub grown_is : (features : List Feature) (pending : Option Pending) (number : ℕ) (name : List ℕ)
    → changed_at (with_last_child (length (with_pending features pending number))) (with_pending features pending number) number ++ new_feature name (Some number) ∷ []
    ≡ grown (Some features) pending number name
grown_is features None number name = refl
grown_is features (Some pending) number name =
    let header = pending.header in
    let count : length (changed_at (with_last_group (childless header)) features number) ≡ length features = changed_length (with_last_group (childless header)) features number in
    rw count
    (ap (λ (all : List Feature). all ++ new_feature name (Some number) ∷ [])
    (changed_twice (with_last_child (length features)) (with_last_group (childless header)) features number
    ∙ changed_same (λ (feature : Feature). with_last_child (length features) (with_last_group (childless header) feature)) (with_last_group (with_one_more (length features) (childless header))) (group_then_child header (length features)) features number))
