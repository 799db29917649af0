-- The tokens of items, of formulas and of attributes are among those of the line.
use Rattle.std.proofs.Common.{◌≡◌, ℕ, suc, ◌≤◌, ◌==◌, Bool, true, false, List, [], ◌∷◌, length, map, All, Option, Some, None, codes, refl, subst, arith, inl, inr}
use Rattle.std.proofs.lemmas.Bool.{cases_Bool}
use Rattle.std.proofs.lemmas.List.Elements.{All-nil, All-cons, All-head, All-tail}
use Rattle.std.specs.Option.{option_map}
use Rattle.std.specs.Str.{bytes_eq}
use Rattle.uvl_lex.specs.declared.token.Token.{Token}
use Rattle.uvl_lex.specs.declared.token.TokenKind.{TokenKind}
use Rattle.uvl_lex.specs.declared.token.TokenKind.TheVariants.{Name, Keyword}
use Rattle.uvl_lex.specs.declared.token.Keyword.TheVariants.{Constraints}
use Rattle.uvl_lex.specs.Text.{token_text}
use Rattle.uvl_reader.specs.Attributes.{Items, is_comma, with_token, cut_at_commas, items_of, listed, listed_if, bracketed, formulas_behind, formulas_of_item}
use Rattle.uvl_reader.specs.Shapes.{FeatureShape, open_after, enclosed, opens_square, opens_curly, attributes_of, is_boolean, is_name, feature_by, feature_of}
use Rattle.uvl_reader.proofs.PlacedLaws.{Each, each_weaker}

pub all_shown : {X Y : Type 0} (Q : Y → Type 0) (show : X → Y) (xs : List X) → Each Q (map show xs) → All (λ x. Q (show x)) xs
all_shown Q show [] h = All-nil (λ x. Q (show x))
all_shown Q show (x ∷ xs) h = All-cons (λ x. Q (show x)) x xs h.0 (all_shown Q show xs h.1)

map_some : {A B : Type 0} (f : A → B) (found : Option A) (value : B) → option_map f found ≡ Some value → (x : A) × (found ≡ Some x) × (f x ≡ value)
map_some f None value e = absurd (cc)
map_some f (Some x) value e = (x, refl, cc)

module _ (P : Token → Type 0) where
  -- at most so many tokens, of each of which it holds
  abbrev pub Part : ℕ → List Token → Type 0
  Part most tokens = (length tokens ≤ most) × All P tokens

  part_weaker : (low high : ℕ) (tokens : List Token) → low ≤ high → Part low tokens → Part high tokens
  part_weaker low high tokens l h = (let k = h.0 in omega arith, h.1)

  parts_weaker : (low high : ℕ) (items : List (List Token)) → low ≤ high → Each (Part low) items → Each (Part high) items
  parts_weaker low high items l h = each_weaker (Part low) (Part high) (λ tokens k. part_weaker low high tokens l k) items h

  enclosed_part : (depth : ℕ) (tokens inside : List Token) → enclosed depth tokens ≡ Some inside → All P tokens → Part (length tokens) inside
  enclosed_part depth [] inside e h = absurd (cc)
  enclosed_part depth (token ∷ []) inside e h =
      elim (cases_Bool (open_after depth token.kind == 0)) [
        | inl y ↦ let none : [] ≡ inside = (let is : Some [] ≡ Some inside = rw y at e in cc) in subst (Part 1) none (omega arith, All-nil P)
        | inr n ↦ let is : None ≡ Some inside = rw n at e in absurd (cc)
      ]
  enclosed_part depth (token ∷ next ∷ tokens) inside e h =
      elim (cases_Bool (open_after depth token.kind == 0)) [
        | inl y ↦ let is : None ≡ Some inside = rw y at e in absurd (cc)
        | inr n ↦
            let is : option_map (λ (inside : List Token). token ∷ inside) (enclosed (open_after depth token.kind) (next ∷ tokens)) ≡ Some inside = rw n at e in
            let found = map_some (λ (inside : List Token). token ∷ inside) (enclosed (open_after depth token.kind) (next ∷ tokens)) inside is in
            let rest = enclosed_part (open_after depth token.kind) (next ∷ tokens) found.0 found.1 (All-tail P token (next ∷ tokens) h) in
            let short = rest.0 in
            subst (Part (length (token ∷ next ∷ tokens))) found.2 (omega arith, All-cons P token found.0 (All-head P token (next ∷ tokens) h) rest.1)
      ]

  cut_step : (comma : Bool) (token : Token) (items : Items) (most : ℕ) → P token → Part most items.0 → Each (Part most) items.1 → Part (suc most) (with_token comma token items).0 × Each (Part (suc most)) (with_token comma token items).1
  cut_step true token items most p first others = ((omega arith, All-nil P), (part_weaker most (suc most) items.0 (omega arith) first, parts_weaker most (suc most) items.1 (omega arith) others))
  cut_step false token items most p first others =
      let short = first.0 in
      ((omega arith, All-cons P token items.0 p first.1), parts_weaker most (suc most) items.1 (omega arith) others)

  cut_parts : (depth : ℕ) (tokens : List Token) → All P tokens → Part (length tokens) (cut_at_commas depth tokens).0 × Each (Part (length tokens)) (cut_at_commas depth tokens).1
  cut_parts depth [] h = ((omega arith, All-nil P), tt)
  cut_parts depth (token ∷ tokens) h =
      let rest = cut_parts (open_after depth token.kind) tokens (All-tail P token tokens h) in
      cut_step (is_comma depth token.kind) token (cut_at_commas (open_after depth token.kind) tokens) (length tokens) (All-head P token tokens h) rest.0 rest.1

  pub items_parts : (tokens : List Token) → All P tokens → Each (Part (length tokens)) (items_of tokens)
  items_parts tokens h = cut_parts 0 tokens h

  listed_parts : (tokens : List Token) → All P tokens → Each (Part (length tokens)) (listed tokens)
  listed_parts [] h = tt
  listed_parts (token ∷ tokens) h = items_parts (token ∷ tokens) h

  abbrev AreParts : ℕ → Option (List (List Token)) → Type 0
  AreParts most None = Unit {0}
  AreParts most (Some formulas) = Each (Part most) formulas

  listed_if_parts : (most : ℕ) (found : Option (List Token)) → ((inside : List Token) → found ≡ Some inside → Part most inside) → AreParts most (listed_if found)
  listed_if_parts most None h = tt
  listed_if_parts most (Some inside) h =
      let part = h inside refl in
      parts_weaker (length inside) most (listed inside) part.0 (listed_parts inside part.1)

  bracketed_parts : (tokens : List Token) → All P tokens → AreParts (length tokens) (bracketed tokens)
  bracketed_parts [] h = tt
  bracketed_parts (left ∷ tokens) h =
      elim (cases_Bool (opens_square left.kind)) [
        | inl y ↦ rw y (listed_if_parts (length (left ∷ tokens)) (enclosed 1 tokens) (λ inside e. part_weaker (length tokens) (length (left ∷ tokens)) inside (omega arith) (enclosed_part 1 tokens inside e (All-tail P left tokens h))))
        | inr n ↦ rw n tt
      ]

  behind_parts : (text : List ℕ) (kind : TokenKind) (tokens : List Token) → All P tokens → AreParts (length tokens) (formulas_behind text kind tokens)
  behind_parts text Name tokens h =
      elim (cases_Bool (bytes_eq text (codes "constraint"))) [ inl y ↦ rw y ((omega arith, h), tt) | inr n ↦ rw n tt ]
  behind_parts text (Keyword Constraints) tokens h = bracketed_parts tokens h
  behind_parts text kind tokens h = tt

  parts_if_weaker : (low high : ℕ) (found : Option (List (List Token))) → low ≤ high → AreParts low found → AreParts high found
  parts_if_weaker low high None l h = tt
  parts_if_weaker low high (Some formulas) l h = parts_weaker low high formulas l h

  item_parts : (bytes : List ℕ) (item : List Token) → All P item → AreParts (length item) (formulas_of_item bytes item)
  item_parts bytes [] h = tt
  item_parts bytes (token ∷ tokens) h =
      parts_if_weaker (length tokens) (length (token ∷ tokens)) (formulas_behind (token_text bytes token) token.kind tokens) (omega arith)
      (behind_parts (token_text bytes token) token.kind tokens (All-tail P token tokens h))

  pub formulas_parts : (bytes : List ℕ) (item : List Token) (formulas : List (List Token)) → formulas_of_item bytes item ≡ Some formulas → All P item → Each (Part (length item)) formulas
  formulas_parts bytes item formulas e h = subst (AreParts (length item)) e (item_parts bytes item h)

  -- ---- a feature's shape

  attributes_part : (tokens inside : List Token) → attributes_of tokens ≡ Some inside → All P tokens → Part (length tokens) inside
  attributes_part [] inside e h = let none : [] ≡ inside = cc in subst (Part 0) none (omega arith, All-nil P)
  attributes_part (left ∷ tokens) inside e h =
      elim (cases_Bool (opens_curly left.kind)) [
        | inl y ↦ part_weaker (length tokens) (length (left ∷ tokens)) inside (omega arith) (enclosed_part 1 tokens inside (rw y at e) (All-tail P left tokens h))
        | inr n ↦ let is : None ≡ Some inside = rw n at e in absurd (cc)
      ]

  by_part : (tokens : List Token) (shape : FeatureShape) → feature_by tokens ≡ Some shape → All P tokens → P shape.name × Part (length tokens) shape.attributes
  by_part [] shape e h = absurd (cc)
  by_part (name ∷ tokens) shape e h =
      elim (cases_Bool (is_name name.kind)) [
        | inl y ↦
            let made : List Token → FeatureShape = λ inside. record { name = name; attributes = inside } in
            let is : option_map made (attributes_of tokens) ≡ Some shape = rw y at e in
            let found = map_some made (attributes_of tokens) shape is in
            let part = attributes_part tokens found.0 found.1 (All-tail P name tokens h) in
            subst (λ (one : FeatureShape). P one.name × Part (length (name ∷ tokens)) one.attributes) found.2
            (All-head P name tokens h, part_weaker (length tokens) (length (name ∷ tokens)) found.0 (omega arith) part)
        | inr n ↦ let is : None ≡ Some shape = rw n at e in absurd (cc)
      ]

  pub shape_part : (tokens : List Token) (shape : FeatureShape) → feature_of tokens ≡ Some shape → All P tokens → P shape.name × Part (length tokens) shape.attributes
  shape_part [] shape e h = absurd (cc)
  shape_part (token ∷ tokens) shape e h =
      elim (cases_Bool (is_boolean token.kind)) [
        | inl y ↦
            let found = by_part tokens shape (rw y at e) (All-tail P token tokens h) in
            (found.0, part_weaker (length tokens) (length (token ∷ tokens)) shape.attributes (omega arith) found.1)
        | inr n ↦ by_part (token ∷ tokens) shape (rw n at e) h
      ]
