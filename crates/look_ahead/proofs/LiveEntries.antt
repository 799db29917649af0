-- Lists of keys without a repeated one, and live entries with such keys.
use Rattle.std.proofs.Common.{◌≡◌, ◌∙◌, refl, sym, ap, subst, ℕ, zero, suc, ◌+◌, ◌<◌, Bool, true, false, cond, List, [], ◌∷◌, ◌++◌, filter, length, get_or, take, not, Some, None, arith, ⊎_elim, add-zero}
use Rattle.std.specs.Prelude.{All, Contains, is_none}
use Rattle.std.specs.List.{AllByRecursion, IsDistinct as AreApart}
use Rattle.std.specs.Map.{keys_of, lookup}
use Rattle.std.proofs.lemmas.Bool.{true≢false, false_from_ne_true}
use Rattle.std.proofs.lemmas.List.{append_assoc, length-take-le, take_more}
use Rattle.std.proofs.lemmas.List.Elements.{All-cons, All-nil, All-get_or}
use Rattle.lists.specs.Distinct.{IsDistinct}
use Rattle.lists.proofs.Members.{first, later, none, first_or_later, none_from, from_filter}
use Rattle.req_keys.specs.Key.{PositionSet}
use Rattle.req_keys.specs.KeyEq.{key_eq-same}
use Rattle.req_keys.specs.Order.{key_eq}
use Rattle.script.proofs.Lookups.{key_eq-refl}
use Rattle.script.proofs.Pairs.{lookup-append, or_else}
use Rattle.look_ahead.specs.Ahead.{has_key}
use Rattle.look_ahead.specs.Posting.{lacking, live_entry, numbered, numbers_of}

-- ---- lists without a repeated item

pub distinct-filter : {X : Type 0} (p : X → Bool) (xs : List X) → IsDistinct xs → IsDistinct (filter p xs)
distinct-filter p [] d = tt
distinct-filter p (x ∷ xs) d =
    let rest = distinct-filter p xs d.1 in
    elim (p x) as (λ b. IsDistinct (cond b (x ∷ filter p xs) (filter p xs))) [ true ↦ ((λ m. d.0 (from_filter p xs x m).0), rest) | false ↦ rest ]

in_take : {X : Type 0} (n : ℕ) (xs : List X) (x : X) → Contains (take n xs) x → Contains xs x
in_take zero xs x m = absurd (none x m)
in_take (suc n) [] x m = absurd (none x m)
in_take (suc n) (y ∷ ys) x m =
    ⊎_elim (λ (e : y ≡ x). subst (Contains (y ∷ ys)) e (first y ys)) (λ (r : Contains (take n ys) x). later y ys x (in_take n ys x r)) (first_or_later y (take n ys) x m)

pub distinct-take : {X : Type 0} (n : ℕ) (xs : List X) → IsDistinct xs → IsDistinct (take n xs)
distinct-take zero xs d = tt
distinct-take (suc n) [] d = tt
distinct-take (suc n) (x ∷ xs) d = ((λ m. d.0 (in_take n xs x m)), distinct-take n xs d.1)

-- an item isn't among those before it
pub distinct-before : {X : Type 0} (xs : List X) (i : ℕ) (x d : X) → i < length xs → x ≡ get_or xs i d → IsDistinct xs → ¬ Contains (take i xs) x
distinct-before [] i x d l e is m = absurd (omega arith)
distinct-before (y ∷ ys) zero x d l e is m = none x m
distinct-before (y ∷ ys) (suc i) x d l e is m =
    let within : i < length ys = omega arith in
    ⊎_elim
    (λ (same : y ≡ x). is.0 (subst (Contains ys) (sym (same ∙ e)) (i, within, at ys i d y within)))
    (λ (r : Contains (take i ys) x). distinct-before ys i x d within e is.1 r)
    (first_or_later y (take i ys) x m)
  where
    at : {X : Type 0} (xs : List X) (i : ℕ) (a b : X) → i < length xs → get_or xs i (get_or xs i a) ≡ get_or xs i a
    at [] i a b l = absurd (omega arith)
    at (x ∷ xs) zero a b l = refl
    at (x ∷ xs) (suc i) a b l = at xs i a b (omega arith)

-- ---- keys

pub not_among : (keys : List PositionSet) (key : PositionSet) → (¬ Contains keys key) → has_key keys key ≡ false
not_among keys key absent = none_from (key_eq key) keys (λ other m same. absent (subst (Contains keys) (sym (key_eq-same key other same)) m))

pub numbered-unknown : (n : ℕ) (keys : List PositionSet) (key : PositionSet) → (¬ Contains keys key) → live_entry (numbered n keys) key ≡ None
numbered-unknown n [] key absent = refl
numbered-unknown n (k ∷ ks) key absent =
    let other : key_eq key k ≡ false = false_from_ne_true (key_eq key k) (λ same. absent (subst (Contains (k ∷ ks)) (sym (key_eq-same key k same)) (first k ks))) in
    ap (λ b. cond b (Some n) (live_entry (numbered (n + 1) ks) key)) other ∙ numbered-unknown (n + 1) ks key (λ m. absent (later k ks key m))

pub numbered-push : (n : ℕ) (keys : List PositionSet) (key : PositionSet) → numbered n (keys ++ key ∷ []) ≡ numbered n keys ++ (key, n + length keys) ∷ []
numbered-push n [] key = ap (λ m. (key, m) ∷ []) (sym (add-zero n))
numbered-push n (k ∷ ks) key =
    let more : (n + 1) + length ks ≡ n + suc (length ks) = omega arith in
    ap (λ (rest : List (PositionSet × ℕ)). (k, n) ∷ rest) (numbered-push (n + 1) ks key ∙ ap (λ m. numbered (n + 1) ks ++ (key, m) ∷ []) more)

pub length-numbered : (n : ℕ) (keys : List PositionSet) → length (numbered n keys) ≡ length keys
length-numbered n [] = refl
length-numbered n (k ∷ ks) = ap suc (length-numbered (n + 1) ks)

-- none of the entries has the key, before or behind
pub unknown-append : (a b : List (PositionSet × ℕ)) (key : PositionSet) → live_entry a key ≡ None → live_entry b key ≡ None → live_entry (a ++ b) key ≡ None
unknown-append a b key here there = lookup-append (key_eq key) a b ∙ ap (λ r. or_else r (lookup (key_eq key) b)) here ∙ there

-- ---- what is lacking isn't live

is_none-None : (live : List (PositionSet × ℕ)) (key : PositionSet) → is_none (live_entry live key) ≡ true → live_entry live key ≡ None
is_none-None live key e = elim (live_entry live key) as (λ o. is_none o ≡ true → o ≡ None) [ None ↦ λ _. refl | Some n ↦ λ f. absurd (true≢false (sym f)) ] e

pub lacking-unknown : (live : List (PositionSet × ℕ)) (list : List PositionSet) → All (λ key. live_entry live key ≡ None) (lacking live list)
lacking-unknown live [] = All-nil (λ key. live_entry live key ≡ None)
lacking-unknown live (k ∷ ks) = case (lacking-unknown live ks) (is_none (live_entry live k)) refl
  where
    case : All (λ key. live_entry live key ≡ None) (lacking live ks) → (b : Bool) → is_none (live_entry live k) ≡ b → All (λ key. live_entry live key ≡ None) (cond b (k ∷ lacking live ks) (lacking live ks))
    case rest true e = All-cons (λ key. live_entry live key ≡ None) k (lacking live ks) (is_none-None live k e) rest
    case rest false e = rest

-- ---- entries with keys apart, as those of a map

others-filter : (p : PositionSet × ℕ → Bool) (x : PositionSet) (es : List (PositionSet × ℕ)) → AllByRecursion (λ k. key_eq x k ≡ false) (keys_of es) → AllByRecursion (λ k. key_eq x k ≡ false) (keys_of (filter p es))
others-filter p x [] all = tt
others-filter p x (e ∷ es) all =
    let rest = others-filter p x es all.1 in
    elim (p e) as (λ b. AllByRecursion (λ k. key_eq x k ≡ false) (keys_of (cond b (e ∷ filter p es) (filter p es)))) [ true ↦ (all.0, rest) | false ↦ rest ]

pub apart-filter : (p : PositionSet × ℕ → Bool) (es : List (PositionSet × ℕ)) → AreApart key_eq (keys_of es) → AreApart key_eq (keys_of (filter p es))
unfolding AreApart
apart-filter p [] d = tt
apart-filter p (e ∷ es) d =
    let rest = apart-filter p es d.1 in
    elim (p e) as (λ b. AreApart key_eq (keys_of (cond b (e ∷ filter p es) (filter p es)))) [ true ↦ (others-filter p e.0 es d.0, rest) | false ↦ rest ]

behind : (x : PositionSet) (es fs : List (PositionSet × ℕ)) (e : PositionSet × ℕ) → AllByRecursion (λ k. key_eq x k ≡ false) (keys_of (es ++ e ∷ fs)) → key_eq x e.0 ≡ false
behind x [] fs e all = all.0
behind x (y ∷ ys) fs e all = behind x ys fs e all.1

flip : (a b : PositionSet) → key_eq a b ≡ false → key_eq b a ≡ false
flip a b e = false_from_ne_true (key_eq b a) (λ same. true≢false (sym (key_eq-refl a) ∙ ap (key_eq a) (sym (key_eq-same b a same)) ∙ e))

pub apart-unknown : (es fs : List (PositionSet × ℕ)) (e : PositionSet × ℕ) → AreApart key_eq (keys_of (es ++ e ∷ fs)) → live_entry es e.0 ≡ None
unfolding AreApart
apart-unknown [] fs e d = refl
apart-unknown (y ∷ ys) fs e d = ap (λ b. cond b (Some y.1) (live_entry ys e.0)) (flip y.0 e.0 (behind y.0 ys fs e d.0)) ∙ apart-unknown ys fs e d.1

-- one post more, whose key isn't live before it
module _ (live now new : List (PositionSet × ℕ)) (first number i : ℕ) (items : List PositionSet) (key : PositionSet) (so_far : now ≡ live ++ numbered first (take i items)) (within : i < length items) (is : key ≡ get_or items i key) where
  pub post-fresh : IsDistinct items → All (λ k. live_entry live k ≡ None) items → live_entry now key ≡ None
  post-fresh apart absent =
      let here : live_entry live (get_or items i key) ≡ None = All-get_or (λ k. live_entry live k ≡ None) items i key within absent in
      ap (λ l. live_entry l key) so_far
      ∙ unknown-append live (numbered first (take i items)) key
      (ap (live_entry live) is ∙ here)
      (numbered-unknown first (take i items) key (distinct-before items i key key within is apart))

  pub post-more : new ≡ now ++ (key, number) ∷ [] → number ≡ first + i → new ≡ live ++ numbered first (take (i + 1) items)
  post-more put counted =
      let long : length (take i items) ≡ i = length-take-le i items (omega arith) in
      let place : number ≡ first + length (take i items) = omega arith in
      put
      ∙ ap (λ (l : List (PositionSet × ℕ)). l ++ (key, number) ∷ []) so_far
      ∙ append_assoc live (numbered first (take i items)) ((key, number) ∷ [])
      ∙ ap (λ n. live ++ (numbered first (take i items) ++ (key, n) ∷ [])) place
      ∙ ap (λ l. live ++ l) (sym (numbered-push first (take i items) key))
      ∙ ap (λ k. live ++ numbered first (take i items ++ k ∷ [])) is
      ∙ ap (λ l. live ++ numbered first l) (sym (take_more items i key within))

-- one key more, which isn't among those before it
pub key-more : (items : List PositionSet) (i : ℕ) (key : PositionSet) (now new : List PositionSet) → now ≡ take i items → i < length items → key ≡ get_or items i key → IsDistinct items → new ≡ cond (has_key now key) now (now ++ key ∷ []) → new ≡ take (i + 1) items
key-more items i key now new so_far within is apart put =
    let fresh : has_key now key ≡ false = ap (λ l. has_key l key) so_far ∙ not_among (take i items) key (distinct-before items i key key within is apart) in
    put
    ∙ ap (λ b. cond b now (now ++ key ∷ [])) fresh
    ∙ ap (λ l. l ++ key ∷ []) so_far
    ∙ ap (λ k. take i items ++ k ∷ []) is
    ∙ sym (take_more items i key within)

-- one entry more that passes, of entries with keys apart: nothing before it has its key
module _ (p : PositionSet × ℕ → Bool) (all kept rest : List (PositionSet × ℕ)) (e : PositionSet × ℕ) (so_far : kept ++ filter p (e ∷ rest) ≡ filter p all) (passes : p e ≡ true) where
  with_it : kept ++ e ∷ filter p rest ≡ filter p all
  with_it = ap (λ b. kept ++ cond b (e ∷ filter p rest) (filter p rest)) (sym passes) ∙ so_far

  pub kept-fresh : AreApart key_eq (keys_of all) → live_entry kept e.0 ≡ None
  kept-fresh apart =
      let P : List (PositionSet × ℕ) → Type 0 = λ l. AreApart key_eq (keys_of l) in
      apart-unknown kept (filter p rest) e (subst P (sym with_it) (apart-filter p all apart))

  pub kept-more : (new : List (PositionSet × ℕ)) → new ≡ kept ++ e ∷ [] → new ++ filter p rest ≡ filter p all
  kept-more new put = ap (λ l. l ++ filter p rest) put ∙ append_assoc kept (e ∷ []) (filter p rest) ∙ with_it

  -- its number isn't among those of the entries that don't pass
  pub cancelled-same : (numbers total : List ℕ) → numbers ++ numbers_of (filter (λ x. not (p x)) (e ∷ rest)) ≡ total → numbers ++ numbers_of (filter (λ x. not (p x)) rest) ≡ total
  cancelled-same numbers total h =
      let q : PositionSet × ℕ → Bool = λ x. not (p x) in
      sym (ap (λ b. numbers ++ numbers_of (cond (not b) (e ∷ filter q rest) (filter q rest))) passes) ∙ h
