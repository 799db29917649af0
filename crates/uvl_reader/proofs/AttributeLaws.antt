-- Items that are cut one after the other, and brackets that are passed one after the other.
use Rattle.std.proofs.Common.{◌≡◌, ℕ, ◌+◌, ◌-◌, ◌<◌, ◌≤◌, ◌==◌, true, false, List, [], ◌∷◌, ◌++◌, length, get_or, take, drop, map, Option, Some, None, refl, sym, ap, ◌∙◌, arith, append_assoc, append-nil, length-drop}
use Rattle.std.proofs.lemmas.Bool.Decides.{nat_tests}
use Rattle.std.proofs.lemmas.List.{take_more, at_drop_more, get_or-drop, map-append}
use Rattle.std.specs.Option.{option_map}
use Rattle.uvl_lex.specs.declared.token.Token.{Token}
use Rattle.uvl_reader.specs.Attributes.{Items, is_comma, with_token, cut_at_commas}
use Rattle.uvl_reader.specs.Shapes.{open_after, enclosed}

-- the items, where these tokens stand before the first
abbrev pub behind : List Token → Items → List (List Token)
behind part items = (part ++ items.0) ∷ items.1

pub behind_token : (part : List Token) (token : Token) (items : Items) → behind part (with_token false token items) ≡ behind (part ++ token ∷ []) items
behind_token part token items = ap (λ (first : List Token). first ∷ items.1) (sym (append_assoc part (token ∷ []) items.0))

pub behind_comma : (part : List Token) (token : Token) (items : Items) → behind part (with_token true token items) ≡ part ∷ behind [] items
behind_comma part token items = ap (λ (first : List Token). first ∷ items.0 ∷ items.1) (append-nil part)

-- a token that leaves brackets open
pub enclosed_more : (depth : ℕ) (token : Token) (tokens : List Token) → (open_after depth token.kind == 0) ≡ false → enclosed depth (token ∷ tokens) ≡ option_map (λ (inside : List Token). token ∷ inside) (enclosed (open_after depth token.kind) tokens)
enclosed_more depth token [] e = rw e refl
enclosed_more depth token (next ∷ tokens) e = rw e refl

mapped_twice : (before : List Token) (token : Token) (found : Option (List Token))
    → option_map (λ (inside : List Token). before ++ inside) (option_map (λ (inside : List Token). token ∷ inside) found) ≡ option_map (λ (inside : List Token). (before ++ token ∷ []) ++ inside) found
mapped_twice before token None = refl
mapped_twice before token (Some inside) = ap (λ (all : List Token). Some all) (sym (append_assoc before (token ∷ []) inside))

not_zero : (depth : ℕ) → (depth ≡ 0 → ⊥) → (depth == 0) ≡ false
not_zero depth n = grind (arith, nat_tests)

pub enclosed_step : (tokens : List Token) (i depth next : ℕ) (d : Token) → i < length tokens → next ≡ open_after depth (get_or tokens i d).kind → (next ≡ 0 → ⊥)
    → option_map (λ (inside : List Token). take i tokens ++ inside) (enclosed depth (drop i tokens)) ≡ option_map (λ (inside : List Token). take (i + 1) tokens ++ inside) (enclosed next (drop (i + 1) tokens))
enclosed_step tokens i depth next d l e n =
    let token = get_or tokens i d in
    let test : (open_after depth token.kind == 0) ≡ false = ap (λ k. k == 0) (sym e) ∙ not_zero next n in
    ap (option_map (λ (inside : List Token). take i tokens ++ inside)) (at_drop_more (enclosed depth) tokens i d l ∙ enclosed_more depth token (drop (i + 1) tokens) test)
    ∙ mapped_twice (take i tokens) token (enclosed (open_after depth token.kind) (drop (i + 1) tokens))
    ∙ rw (take_more tokens i d l, e) refl

-- ---- items, where the tokens from one place on are those of an item so far

abbrev pub part : List Token → ℕ → ℕ → List Token
part tokens from upto = take (upto - from) (drop from tokens)

part_more : (tokens : List Token) (from i : ℕ) (d : Token) → from ≤ i → i < length tokens → part tokens from (i + 1) ≡ part tokens from i ++ get_or tokens i d ∷ []
part_more tokens from i d f l =
    let size = length-drop from tokens in
    let within : i - from < length (drop from tokens) = omega arith in
    let next : (i + 1) - from ≡ (i - from) + 1 = omega arith in
    let place : from + (i - from) ≡ i = omega arith in
    let token : get_or (drop from tokens) (i - from) d ≡ get_or tokens i d = get_or-drop from tokens (i - from) d ∙ ap (λ k. get_or tokens k d) place in
    rw (next, take_more (drop from tokens) (i - from) d within, token) refl

no_part : (tokens : List Token) (i : ℕ) → part tokens (i + 1) (i + 1) ≡ []
no_part tokens i = let none : (i + 1) - (i + 1) ≡ 0 = omega arith in rw none refl

pub items_comma : (tokens : List Token) (from i depth next : ℕ) (d : Token) → i < length tokens → is_comma depth (get_or tokens i d).kind ≡ true → next ≡ open_after depth (get_or tokens i d).kind
    → behind (part tokens from i) (cut_at_commas depth (drop i tokens)) ≡ part tokens from i ∷ behind (part tokens (i + 1) (i + 1)) (cut_at_commas next (drop (i + 1) tokens))
items_comma tokens from i depth next d l y e =
    let token = get_or tokens i d in
    let rest = cut_at_commas (open_after depth token.kind) (drop (i + 1) tokens) in
    let cut : cut_at_commas depth (drop i tokens) ≡ with_token true token rest = at_drop_more (cut_at_commas depth) tokens i d l ∙ ap (λ b. with_token b token rest) y in
    ap (behind (part tokens from i)) cut ∙ behind_comma (part tokens from i) token rest ∙ rw (no_part tokens i, e) refl

pub items_token : (tokens : List Token) (from i depth next : ℕ) (d : Token) → from ≤ i → i < length tokens → is_comma depth (get_or tokens i d).kind ≡ false → next ≡ open_after depth (get_or tokens i d).kind
    → behind (part tokens from i) (cut_at_commas depth (drop i tokens)) ≡ behind (part tokens from (i + 1)) (cut_at_commas next (drop (i + 1) tokens))
items_token tokens from i depth next d f l n e =
    let token = get_or tokens i d in
    let rest = cut_at_commas (open_after depth token.kind) (drop (i + 1) tokens) in
    let cut : cut_at_commas depth (drop i tokens) ≡ with_token false token rest = at_drop_more (cut_at_commas depth) tokens i d l ∙ ap (λ b. with_token b token rest) n in
    ap (behind (part tokens from i)) cut ∙ behind_token (part tokens from i) token rest ∙ rw (part_more tokens from i d f l, e) refl

-- one item more in the list of what a vector holds
pub one_more : {X : Type 0} (show : X → List Token) (before after : List X) (one : X) (item : List Token) (rest : List (List Token)) → after ≡ before ++ one ∷ [] → show one ≡ item → map show before ++ item ∷ rest ≡ map show after ++ rest
one_more show before after one item rest e s = rw (e, map-append show before (one ∷ []), s) (sym (append_assoc (map show before) (item ∷ []) rest))
