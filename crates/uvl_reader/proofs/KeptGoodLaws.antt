-- What holds so that a feature more may be put where it stands holds after each line.
use Rattle.std.proofs.Common.{◌≡◌, ℕ, zero, suc, ◌+◌, ◌<◌, ◌≤◌, ◌==◌, ◌&&◌, not, nat_le, Bool, true, false, if◌then◌else◌, List, [], ◌∷◌, ◌++◌, length, All, Option, Some, None, Result, Ok, Err, refl, sym, ap, subst, ◌∙◌, arith, length-append, inl, inr}
use Rattle.std.proofs.lemmas.Bool.{cases_Bool}
use Rattle.std.proofs.lemmas.List.{length-map}
use Rattle.std.proofs.lemmas.List.Elements.{All-push}
use Rattle.std.specs.Option.{option_map, option_and_then}
use Rattle.feature_tree.specs.declared.feature.Feature.{Feature}
use Rattle.feature_tree.specs.declared.formula.Formula.{Formula}
use Rattle.feature_tree.specs.declared.group.Group.{Group}
use Rattle.feature_tree.specs.declared.reader.error.FormulaError.{FormulaError}
use Rattle.feature_tree.specs.FormulaAnswer.{formula_answer}
use Rattle.feature_tree.specs.Growing.{changed_at, changed_last, new_feature, with_last_group, with_last_child, with_one_more}
use Rattle.feature_tree.specs.Names.{NamesBelow}
use Rattle.feature_tree.specs.WellFormed.{groups_of, feature_names, HasBounds}
use Rattle.feature_tree.proofs.FormulaAnswerLaws.{formula_answer_is_the_answer}
use Rattle.feature_tree.proofs.ReadNameLaws.{stands_below}
use Rattle.feature_tree.proofs.Trees.{names-grown}
use Rattle.name_table.specs.Numbers.{Numbers}
use Rattle.uvl_lex.specs.declared.token.Line.{Line}
use Rattle.uvl_lex.specs.declared.token.Token.{Token}
use Rattle.uvl_lex.specs.Text.{IsSpanOf, token_text}
use Rattle.uvl_reader.specs.declared.error.Reason.{Reason}
use Rattle.uvl_reader.specs.declared.error.Reason.TheVariants as reason
use Rattle.uvl_reader.specs.declared.header.Header.{Header}
use Rattle.uvl_reader.specs.declared.kind.LineKind.{LineKind}
use Rattle.uvl_reader.specs.declared.kind.LineKind.TheVariants.{SectionLine, FeatureLine, GroupLine, ConstraintLine, NoLine}
use Rattle.uvl_reader.specs.declared.kind.Section.{Section}
use Rattle.uvl_reader.specs.declared.pending.Pending.{Pending}
use Rattle.uvl_reader.specs.declared.stack.Open.{Open}
use Rattle.uvl_reader.specs.LineKinds.{kind_under}
use Rattle.uvl_reader.specs.Refusals.{Refusal, fault_if}
use Rattle.uvl_reader.specs.inside.Good.{features_in, placed_names, HasOwner, AllOwned, AreOpen, IsStated, IsGood}
use Rattle.uvl_reader.specs.inside.Standing.{OrRefused, on_ok, unless, unless_refused, Standing, StatedFormula, nearest_of, is_deeper, kind_at, owner_at, still_open, pending_fault, place_fault, name_fault, grown, with_formula, with_tokens}
use Rattle.uvl_reader.specs.inside.Next.{closed}
use Rattle.uvl_reader.specs.Attributes.{items_of, formulas_of_item}
use Rattle.uvl_reader.specs.Nesting.{begins_with_include}
use Rattle.uvl_reader.specs.LineKinds.{is_group}
use Rattle.uvl_reader.specs.Shapes.{range, FeatureShape, header_of, header_of_word, header_of_one, header_of_two, range_if, bound_of, opens_square, closes_square, is_dots, feature_of}
use Rattle.feature_tree.specs.Growing.{with_root}
use Rattle.uvl_lex.specs.declared.token.TokenKind.{TokenKind}
use Rattle.uvl_lex.specs.declared.token.TokenKind.TheVariants.{Keyword, Mark}
use Rattle.uvl_lex.specs.declared.token.Keyword.TheVariants as word
use Rattle.uvl_lex.specs.declared.token.Mark.TheVariants.{Star}
use Rattle.uvl_reader.specs.inside.Standing.{and_then, with_all, with_listed, with_items, with_open, next_after, section_fault_at, after_section, with_header, with_feature, with_shape, after_constraint, after_kind, after_close, after_judged, after_line, fits}
use Rattle.uvl_reader.proofs.PlacedLaws.{Each}
use Rattle.uvl_reader.proofs.PartLaws.{Part, items_parts, formulas_parts, shape_part}
use Rattle.uvl_reader.proofs.KnownLaws.{group_under_feature}
use Rattle.uvl_reader.proofs.NextLaws.{names_append}
use Rattle.uvl_reader.proofs.PreservedLaws.{is_feature_is, from_zero}
use Rattle.uvl_reader.proofs.GoodLaws.{good_closed, good_under, names_long}
use Rattle.uvl_reader.proofs.NextLaws.{under_no_section}

-- ---- what was read, where it was

module _ {A : Type 0} where
  pub ok_unless : (line : ℕ) (fault : Option Reason) (read : OrRefused A) (value : A) → unless line fault read ≡ Ok value → (fault ≡ None) × (read ≡ Ok value)
  ok_unless line None read value e = (refl, e)
  ok_unless line (Some fault) read value e = absurd (cc)

  pub ok_refused : (fault : Option Refusal) (read : OrRefused A) (value : A) → unless_refused fault read ≡ Ok value → (fault ≡ None) × (read ≡ Ok value)
  ok_refused None read value e = (refl, e)
  ok_refused (Some fault) read value e = absurd (cc)

  pub ok_on : {B : Type 0} (f : A → B) (read : OrRefused A) (value : B) → on_ok f read ≡ Ok value → (x : A) × (read ≡ Ok x) × (f x ≡ value)
  ok_on f (Ok x) value e = (x, refl, cc)
  ok_on f (Err refused) value e = absurd (cc)

  pub ok_then : {B : Type 0} (f : A → OrRefused B) (read : OrRefused A) (value : B) → and_then f read ≡ Ok value → (x : A) × (read ≡ Ok x) × (f x ≡ Ok value)
  ok_then f (Ok x) value e = (x, refl, e)
  ok_then f (Err refused) value e = absurd (cc)

-- ---- formulas

formula_below : (tokens : List Token) (formula : Formula) → formula_answer tokens ≡ Ok formula → NamesBelow (length tokens) formula
formula_below tokens formula e = stands_below tokens formula ((formula_answer_is_the_answer tokens (Ok formula)).1 (sym e)).0

module _ (bytes : List ℕ) (line : ℕ) where
  good_answer : (before after : List StatedFormula) (tokens : List Token) (answer : Result Formula FormulaError) → formula_answer tokens ≡ answer → with_formula line tokens before answer ≡ Ok after
      → All (IsSpanOf bytes) tokens → All (IsStated bytes) before → All (IsStated bytes) after
  good_answer before after tokens (Ok formula) e is spans h =
      let one : StatedFormula = record { line = line; tokens = tokens; formula = formula } in
      let same : before ++ one ∷ [] ≡ after = cc in
      subst (All (IsStated bytes)) same (All-push (IsStated bytes) before one h (record { spans = spans; names = formula_below tokens formula e }))
  good_answer before after tokens (Err error) e is spans h = absurd (cc)

  pub good_tokens : (before after : List StatedFormula) (tokens : List Token) → with_tokens line before tokens ≡ Ok after → All (IsSpanOf bytes) tokens → All (IsStated bytes) before → All (IsStated bytes) after
  good_tokens before after tokens e spans h = good_answer before after tokens (formula_answer tokens) refl e spans h

  good_all : (most : ℕ) (formulas : List (List Token)) (before after : List StatedFormula) → with_all line before formulas ≡ Ok after → Each (Part (IsSpanOf bytes) most) formulas → All (IsStated bytes) before → All (IsStated bytes) after
  unfolding with_all
  good_all most [] before after e parts h = let same : before ≡ after = cc in subst (All (IsStated bytes)) same h
  good_all most (tokens ∷ others) before after e parts h =
      let next = ok_then (λ now. with_all line now others) (with_tokens line before tokens) after e in
      good_all most others next.0 after next.2 parts.1 (good_tokens before next.0 tokens next.1 parts.0.1 h)

  good_listed : (most : ℕ) (found : Option (List (List Token))) (before after : List StatedFormula) → with_listed line before found ≡ Ok after → ((formulas : List (List Token)) → found ≡ Some formulas → Each (Part (IsSpanOf bytes) most) formulas) → All (IsStated bytes) before → All (IsStated bytes) after
  good_listed most None before after e parts h = absurd (cc)
  good_listed most (Some formulas) before after e parts h = good_all most formulas before after e (parts formulas refl) h

  good_items : (most : ℕ) (items : List (List Token)) (before after : List StatedFormula) → with_items bytes line before items ≡ Ok after → Each (Part (IsSpanOf bytes) most) items → All (IsStated bytes) before → All (IsStated bytes) after
  unfolding with_items
  good_items most [] before after e parts h = let same : before ≡ after = cc in subst (All (IsStated bytes)) same h
  good_items most (item ∷ others) before after e parts h =
      let next = ok_then (λ now. with_items bytes line now others) (with_listed line before (formulas_of_item bytes item)) after e in
      good_items most others next.0 after next.2 parts.1 (good_listed (length item) (formulas_of_item bytes item) before next.0 next.1 (λ formulas is. formulas_parts (IsSpanOf bytes) bytes item formulas is parts.0.1) h)

-- ---- headers

BoundsIf : Option Header → Type 0
BoundsIf None = Unit {0}
BoundsIf (Some header) = HasBounds header.kind header.low header.high

word_bounds : (kind : TokenKind) → BoundsIf (header_of_word kind)
unfolding BoundsIf
word_bounds (Keyword word.Mandatory) = (refl, refl)
word_bounds (Keyword word.Optional) = (refl, refl)
word_bounds (Keyword word.Or) = (refl, refl)
word_bounds (Keyword word.Alternative) = (refl, refl)
word_bounds kind = tt

range_bounds : (low high : ℕ) → BoundsIf (range_if low high)
unfolding BoundsIf
range_bounds low high = elim (cases_Bool (nat_le low high)) [ inl y ↦ rw y tt | inr n ↦ rw n tt ]

bound_bounds : (f : ℕ → Option Header) → ((n : ℕ) → BoundsIf (f n)) → (found : Option ℕ) → BoundsIf (option_and_then f found)
unfolding BoundsIf
bound_bounds f h None = tt
bound_bounds f h (Some n) = h n

one_bounds : (bytes : List ℕ) (token : Token) (kind : TokenKind) → BoundsIf (header_of_one bytes token kind)
unfolding BoundsIf
one_bounds bytes token (Mark Star) = tt
one_bounds bytes token kind = bound_bounds (λ n. range_if n n) (λ n. range_bounds n n) (bound_of bytes token)

open_bounds : (low : Option ℕ) → BoundsIf (option_map (λ n. range n None) low)
unfolding BoundsIf
open_bounds None = tt
open_bounds (Some n) = tt

two_bounds : (bytes : List ℕ) (low high : Token) (kind : TokenKind) → BoundsIf (header_of_two bytes low high kind)
two_bounds bytes low high (Mark Star) = open_bounds (bound_of bytes low)
two_bounds bytes low high kind = bound_bounds (λ n. option_and_then (range_if n) (bound_of bytes high)) (λ n. bound_bounds (range_if n) (range_bounds n) (bound_of bytes high)) (bound_of bytes low)

if_bounds : (test : Bool) (header : Option Header) → BoundsIf header → BoundsIf (if test then header else None)
unfolding BoundsIf
if_bounds true header h = h
if_bounds false header h = tt

header_bounds : (bytes : List ℕ) (tokens : List Token) → BoundsIf (header_of bytes tokens)
unfolding BoundsIf
header_bounds bytes [] = tt
header_bounds bytes (word ∷ []) = word_bounds word.kind
header_bounds bytes (left ∷ right ∷ []) = tt
header_bounds bytes (left ∷ n ∷ right ∷ []) = if_bounds (opens_square left.kind && closes_square right.kind) (header_of_one bytes n n.kind) (one_bounds bytes n n.kind)
header_bounds bytes (left ∷ n ∷ m ∷ right ∷ []) = tt
header_bounds bytes (left ∷ n ∷ dots ∷ m ∷ right ∷ []) = if_bounds (opens_square left.kind && is_dots dots.kind && closes_square right.kind) (header_of_two bytes n m m.kind) (two_bounds bytes n m m.kind)
header_bounds bytes (left ∷ n ∷ dots ∷ m ∷ right ∷ more ∷ tokens) = tt

-- ---- features

groups_more : (features more : List Feature) (owner : ℕ) → 0 < length (groups_of features owner) → 0 < length (groups_of (features ++ more) owner)
groups_more [] more owner h = absurd (omega arith)
groups_more (feature ∷ features) more zero h = h
groups_more (feature ∷ features) more (suc owner) h = groups_more features more owner h

module _ (change : Feature → Feature) (keeps : (feature : Feature) → 0 < length feature.groups → 0 < length (change feature).groups) where
  groups_kept : (features more : List Feature) (parent owner : ℕ) → 0 < length (groups_of features owner) → 0 < length (groups_of (changed_at change features parent ++ more) owner)
  groups_kept [] more parent owner h = absurd (omega arith)
  groups_kept (feature ∷ features) more zero zero h = keeps feature h
  groups_kept (feature ∷ features) more zero (suc owner) h = groups_more features more owner h
  groups_kept (feature ∷ features) more (suc parent) zero h = h
  groups_kept (feature ∷ features) more (suc parent) (suc owner) h = groups_kept features more parent owner h

group_added : (group : Group) (features more : List Feature) (parent : ℕ) → parent < length features → 0 < length (groups_of (changed_at (with_last_group group) features parent ++ more) parent)
group_added group [] more parent l = absurd (omega arith)
group_added group (feature ∷ features) more zero l =
    let size = length-append feature.groups (group ∷ []) in
    let one : length (group ∷ []) ≡ 1 = refl in
    omega arith
group_added group (feature ∷ features) more (suc parent) l = group_added group features more parent (omega arith)

changed_last_length : {X : Type 0} (change : X → X) (xs : List X) → length (changed_last change xs) ≡ length xs
changed_last_length change [] = refl
changed_last_length change (x ∷ []) = refl
changed_last_length change (x ∷ y ∷ xs) = ap suc (changed_last_length change (y ∷ xs))

changed_at_length : {X : Type 0} (change : X → X) (xs : List X) (i : ℕ) → length (changed_at change xs i) ≡ length xs
changed_at_length change [] i = refl
changed_at_length change (x ∷ xs) zero = refl
changed_at_length change (x ∷ xs) (suc i) = ap suc (changed_at_length change xs i)

child_keeps : (child : ℕ) (feature : Feature) → 0 < length feature.groups → 0 < length (with_last_child child feature).groups
child_keeps child feature h = let size = changed_last_length (with_one_more child) feature.groups in omega arith

group_keeps : (group : Group) (feature : Feature) → 0 < length feature.groups → 0 < length (with_last_group group feature).groups
group_keeps group feature h =
    let size = length-append feature.groups (group ∷ []) in omega arith

grown_length : (change : Feature → Feature) (features : List Feature) (parent : ℕ) (one : Feature) → length (changed_at change features parent ++ one ∷ []) ≡ length features + 1
grown_length change features parent one =
    let size = length-append (changed_at change features parent) (one ∷ []) in
    let same = changed_at_length change features parent in
    let single : length (one ∷ []) ≡ 1 = refl in
    omega arith

owner_weaker : (features more : List Feature) → length features ≤ length more → ((owner : ℕ) → 0 < length (groups_of features owner) → 0 < length (groups_of more owner))
    → (kind : LineKind) (owner : ℕ) (above : List Open) → HasOwner features kind owner above → HasOwner more kind owner above
owner_weaker features more l g (SectionLine section) owner above h = h
owner_weaker features more l g FeatureLine owner above h = omega arith
owner_weaker features more l g GroupLine owner above h = g owner h
owner_weaker features more l g ConstraintLine owner above h = tt
owner_weaker features more l g NoLine owner above h = tt

owned_weaker : (features more : List Feature) → length features ≤ length more → ((owner : ℕ) → 0 < length (groups_of features owner) → 0 < length (groups_of more owner)) → (lines : List Open) → AllOwned features lines → AllOwned more lines
owned_weaker features more l g [] h = tt
owned_weaker features more l g (line ∷ lines) h = (owner_weaker features more l g line.kind line.feature lines h.0, owned_weaker features more l g lines h.1)

abbrev after_tree : Option (List Feature) → Option Pending → List Open → List ℕ → List Feature
after_tree tree pending lines name = grown tree pending (owner_at (nearest_of lines)) name

grown_count : (tree : Option (List Feature)) (pending : Option Pending) (owner : ℕ) (name : List ℕ) → length (grown tree pending owner name) ≡ length (features_in tree) + 1
grown_count None pending owner name = omega arith
grown_count (Some features) None owner name = grown_length (with_last_child (length features)) features owner (new_feature name (Some owner))
grown_count (Some features) (Some pending) owner name = grown_length (with_last_group (record { kind = pending.header.kind; low = pending.header.low; high = pending.header.high; children = length features ∷ [] })) features owner (new_feature name (Some owner))

grown_names : (tree : Option (List Feature)) (pending : Option Pending) (owner : ℕ) (name : List ℕ) → feature_names (grown tree pending owner name) ≡ feature_names (features_in tree) ++ name ∷ []
grown_names None pending owner name = refl
grown_names (Some features) None owner name = names-grown (with_last_child (length features)) (λ feature. refl) features owner name
grown_names (Some features) (Some pending) owner name = names-grown (with_last_group (record { kind = pending.header.kind; low = pending.header.low; high = pending.header.high; children = length features ∷ [] })) (λ feature. refl) features owner name

none_of_none : (owner : ℕ) → 0 < length (groups_of [] owner) → (more : List Feature) → 0 < length (groups_of more owner)
none_of_none owner h more = absurd (omega arith)

grown_owned : (tree : Option (List Feature)) (pending : Option Pending) (lines : List Open) (name : List ℕ) → AreOpen (features_in tree) pending lines → AllOwned (after_tree tree pending lines name) lines
grown_owned None None lines name h = owned_weaker [] (with_root name) (omega arith) (λ owner g. none_of_none owner g (with_root name)) lines h
grown_owned None (Some pending) [] name h = absurd h
grown_owned None (Some pending) (line ∷ lines) name h = let l = h.1 in absurd (omega arith)
grown_owned (Some features) None lines name h =
    let owner = owner_at (nearest_of lines) in
    let size = grown_count (Some features) None owner name in
    owned_weaker features (after_tree (Some features) None lines name) (omega arith)
    (λ one g. groups_kept (with_last_child (length features)) (child_keeps (length features)) features (new_feature name (Some owner) ∷ []) owner one g) lines h
grown_owned (Some features) (Some pending) [] name h = absurd h
grown_owned (Some features) (Some pending) (line ∷ lines) name h =
    let owner = line.feature in
    let group : Group = record { kind = pending.header.kind; low = pending.header.low; high = pending.header.high; children = length features ∷ [] } in
    let more = grown (Some features) (Some pending) owner name in
    let size = grown_count (Some features) (Some pending) owner name in
    let here : HasOwner more GroupLine owner lines = group_added group features (new_feature name (Some owner) ∷ []) owner h.1 in (
      subst (λ (kind : LineKind). HasOwner more kind owner lines) (sym h.0) here,
      owned_weaker features more (omega arith) (λ one g. groups_kept (with_last_group group) (group_keeps group) features (new_feature name (Some owner) ∷ []) owner one g) lines h.2,
    )

add_name : (before : Numbers) (names : List (List ℕ)) (name : List ℕ) → before ≡ placed_names 0 names → before ++ (name, length before) ∷ [] ≡ placed_names 0 (names ++ name ∷ [])
add_name before names name e =
    let count : length before ≡ length names = ap length e ∙ names_long 0 names in
    rw (e, names_long 0 names) (sym (names_append 0 names name ∙ from_zero (length names) (placed_names 0 names) name))

-- ---- lines by their kinds

not_pending : (features : List Feature) (pending : Option Pending) (lines : List Open) (tokens : List Token) → AreOpen features pending lines → (kind_at (nearest_of lines) tokens ≡ FeatureLine → ⊥) → pending ≡ None
not_pending features None lines tokens h n = refl
not_pending features (Some pending) [] tokens h n = absurd h
not_pending features (Some pending) (line ∷ lines) tokens h n = absurd (n (ap kind_under h.0))

alone_section : (lines : List Open) (tokens : List Token) (section : Option Section) → kind_at (nearest_of lines) tokens ≡ SectionLine section → lines ≡ []
alone_section [] tokens section e = refl
alone_section (line ∷ lines) tokens section e = absurd (under_no_section line.kind section e)

group_owner : (features : List Feature) (lines : List Open) (tokens : List Token) → AllOwned features lines → kind_at (nearest_of lines) tokens ≡ GroupLine → owner_at (nearest_of lines) < length features
group_owner features [] tokens h e = absurd (cc)
group_owner features (line ∷ lines) tokens h e =
    let kind : line.kind ≡ FeatureLine = is_feature_is line.kind (group_under_feature line.kind (ap is_group e)) in
    subst (λ (kind : LineKind). HasOwner features kind line.feature lines) kind h.0

module _ (bytes : List ℕ) (read : Standing) (line : Line) (spans : All (IsSpanOf bytes) line.tokens) (good : IsGood bytes read) where
  owned : read.pending ≡ None → AllOwned (features_in read.tree) read.open_now
  owned e = subst (λ (pending : Option Pending). AreOpen (features_in read.tree) pending read.open_now) e good.open_now

  good_section : (section : Option Section) (after : Standing) → kind_at (nearest_of read.open_now) line.tokens ≡ SectionLine section → after_section read line section ≡ Ok after → IsGood bytes after
  good_section section after e is =
      let next : Standing = with_open (record read { next = next_after section }) line.indent (SectionLine section) 0 in
      let same : next ≡ after = (let got = (ok_unless line.number (section_fault_at read.next section line.tokens) (Ok next) after is).1 in cc) in
      let alone = not_pending (features_in read.tree) read.pending read.open_now line.tokens good.open_now (λ f. (let wrong : SectionLine section ≡ FeatureLine = sym e ∙ f in absurd (cc))) in
      subst (IsGood bytes) same (record {
        names = good.names;
        open_now = subst (λ (pending : Option Pending). AreOpen (features_in read.tree) pending next.open_now) (sym alone) (alone_section read.open_now line.tokens section e, owned alone);
        stated = good.stated;
      })

  good_constraint : (after : Standing) → kind_at (nearest_of read.open_now) line.tokens ≡ ConstraintLine → after_constraint read line ≡ Ok after → IsGood bytes after
  good_constraint after e is =
      let done : List StatedFormula → Standing = λ stated. record read { stated = stated; open_now = record { indent = line.indent; kind = ConstraintLine; feature = 0 } ∷ read.open_now } in
      let found = ok_on done (with_tokens line.number read.stated line.tokens) after is in
      let alone = not_pending (features_in read.tree) read.pending read.open_now line.tokens good.open_now (λ f. (let wrong : ConstraintLine ≡ FeatureLine = sym e ∙ f in absurd (cc))) in
      subst (IsGood bytes) found.2 (record {
        names = good.names;
        open_now = subst (λ (pending : Option Pending). AreOpen (features_in read.tree) pending (done found.0).open_now) (sym alone) (tt, owned alone);
        stated = good_tokens bytes line.number read.stated found.0 line.tokens found.1 spans good.stated;
      })

  good_group : (header : Option Header) (after : Standing) → BoundsIf header → kind_at (nearest_of read.open_now) line.tokens ≡ GroupLine → with_header read line header ≡ Ok after → IsGood bytes after
  unfolding BoundsIf
  good_group None after bounds e is = absurd (cc)
  good_group (Some header) after bounds e is =
      let owner = owner_at (nearest_of read.open_now) in
      let next : Standing = with_open (record read { pending = Some (record { line = line.number; header = header }) }) line.indent GroupLine owner in
      let same : next ≡ after = cc in
      let alone = not_pending (features_in read.tree) read.pending read.open_now line.tokens good.open_now (λ f. (let wrong : GroupLine ≡ FeatureLine = sym e ∙ f in absurd (cc))) in
      subst (IsGood bytes) same (record {
        names = good.names;
        open_now = (refl, group_owner (features_in read.tree) read.open_now line.tokens (owned alone) e, owned alone, bounds);
        stated = good.stated;
      })

  good_shape : (shape : Option FeatureShape) (after : Standing) → feature_of line.tokens ≡ shape → with_shape bytes read line shape ≡ Ok after → IsGood bytes after
  good_shape None after s is = absurd (cc)
  good_shape (Some shape) after s is =
      let name = token_text bytes shape.name in
      let done : List StatedFormula → Standing = λ stated. with_feature (record read { stated = stated }) line.indent name in
      let items = items_of shape.attributes in
      let read_all = (ok_unless line.number (name_fault read.names name) (on_ok done (with_items bytes line.number read.stated items)) after is).1 in
      let found = ok_on done (with_items bytes line.number read.stated items) after read_all in
      let part = (shape_part (IsSpanOf bytes) line.tokens shape s spans).1 in
      let features = features_in read.tree in
      let more = after_tree read.tree read.pending read.open_now name in
      let count : length read.names ≡ length (feature_names features) = ap length good.names ∙ names_long 0 (feature_names features) in
      let size = length-map features (λ (feature : Feature). feature.name) in
      let long = grown_count read.tree read.pending (owner_at (nearest_of read.open_now)) name in
      let names : read.names ++ (name, length read.names) ∷ [] ≡ placed_names 0 (feature_names more) =
      rw (grown_names read.tree read.pending (owner_at (nearest_of read.open_now)) name)
      (add_name read.names (feature_names features) name good.names) in
      subst (IsGood bytes) found.2 (record {
        names = names;
        open_now = ((omega arith), grown_owned read.tree read.pending read.open_now name good.open_now);
        stated = good_items bytes line.number (length shape.attributes) items read.stated found.0 found.1 (items_parts (IsSpanOf bytes) shape.attributes part.1) good.stated;
      })

  good_kind : (kind : LineKind) (after : Standing) → kind_at (nearest_of read.open_now) line.tokens ≡ kind → after_kind bytes read line kind ≡ Ok after → IsGood bytes after
  unfolding after_kind
  good_kind (SectionLine section) after e is = good_section section after e is
  good_kind FeatureLine after e is = good_shape (feature_of line.tokens) after refl (ok_unless line.number (place_fault read line.tokens) (with_shape bytes read line (feature_of line.tokens)) after is).1
  good_kind GroupLine after e is = good_group (header_of bytes line.tokens) after (header_bounds bytes line.tokens) e is
  good_kind ConstraintLine after e is = good_constraint after e is
  good_kind NoLine after e is = absurd (cc)

good_judged : (bytes : List ℕ) (read after : Standing) (line : Line) → All (IsSpanOf bytes) line.tokens → IsGood bytes read → after_judged bytes read line ≡ Ok after → IsGood bytes after
unfolding after_judged
good_judged bytes read after line spans good is =
    let first = ok_refused (pending_fault (is_deeper line.indent (nearest_of read.open_now)) read.pending) (after_close bytes read line) after is in
    let placed = ok_unless line.number (fault_if (not (fits line.indent read.open_now)) reason.BadIndent) (after_kind bytes (closed read line.indent) line (kind_at (nearest_of (still_open line.indent read.open_now)) line.tokens)) after first.1 in
    good_kind bytes (closed read line.indent) line spans (good_closed bytes read line.indent good first.0) (kind_at (nearest_of (still_open line.indent read.open_now)) line.tokens) after refl placed.1

pub good_line : (bytes : List ℕ) (read after : Standing) (line : Line) → All (IsSpanOf bytes) line.tokens → IsGood bytes read → after_line bytes read line ≡ Ok after → IsGood bytes after
unfolding after_line
good_line bytes read after line spans good is =
    elim (cases_Bool (line.indent == 0)) [
      | inl y ↦ good_judged bytes (record read { under = begins_with_include line.tokens }) after line spans (good_under bytes read (begins_with_include line.tokens) good) (rw y at is)
      | inr n ↦ inside read.under (rw n at is)
    ]
  where
    inside : (under : Bool) → (if under then Ok read else after_judged bytes read line) ≡ Ok after → IsGood bytes after
    inside true e = let same : read ≡ after = cc in subst (IsGood bytes) same good
    inside false e = good_judged bytes read after line spans good e
