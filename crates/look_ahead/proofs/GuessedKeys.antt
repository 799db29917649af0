-- What holds of the guessed keys.
use Rattle.std.proofs.Common.{◌≡◌, ◌∙◌, refl, sym, ap, ℕ, zero, suc, Bool, true, false, cond, List, [], ◌∷◌, ◌++◌, Option, Some, None}
use Rattle.std.specs.Prelude.{All, Contains, filter_map, flat_map, fold}
use Rattle.std.specs.List.{cons_option}
use Rattle.std.proofs.lemmas.Bool.{true≢false}
use Rattle.std.proofs.lemmas.List.Elements.{All-append, All-cons, All-head, All-nil, All-push, All-tail}
use Rattle.std.proofs.lemmas.Option.{none-some, option_and_then_some, same_Some}
use Rattle.lists.specs.Distinct.{IsDistinct}
use Rattle.lists.proofs.Distinct.{distinct-push}
use Rattle.lists.proofs.Members.{any_from}
use Rattle.req_keys.specs.Key.{PositionSet}
use Rattle.req_keys.specs.Order.{key_eq}
use Rattle.req_keys.specs.declared.verdict.Verdict.{Verdict}
use Rattle.req_keys.specs.declared.verdict.Verdict.TheVariants.{Sat, Unsat}
use Rattle.script.specs.Job.{Told, verdict_in}
use Rattle.script.proofs.Answering.{told-known, told-unknown}
use Rattle.script.proofs.Lookups.{key_eq-refl}
use Rattle.look_ahead.specs.Ahead.{asked_after, has_key, keys_ahead, with_key, words, words_to}

-- ---- each key once

unknown : (keys : List PositionSet) (key : PositionSet) → has_key keys key ≡ false → ¬ Contains keys key
unknown keys key e m = true≢false (sym (any_from (key_eq key) keys key m (key_eq-refl key)) ∙ e)

with_key-distinct : (keys : List PositionSet) (key : PositionSet) → IsDistinct keys → IsDistinct (with_key keys key)
with_key-distinct keys key is = case (has_key keys key) refl
  where
    case : (b : Bool) → has_key keys key ≡ b → IsDistinct (cond b keys (keys ++ key ∷ []))
    case true e = is
    case false e = distinct-push keys key is (unknown keys key e)

fold-distinct : (start keys : List PositionSet) → IsDistinct start → IsDistinct (fold with_key start keys)
fold-distinct start [] is = is
fold-distinct start (k ∷ ks) is = fold-distinct (with_key start k) ks (with_key-distinct start k is)

fold-all : (P : PositionSet → Type 0) (start keys : List PositionSet) → All P start → All P keys → All P (fold with_key start keys)
fold-all P start [] has all = has
fold-all P start (k ∷ ks) has all =
    let one : All P (with_key start k) = elim (has_key start k) as (λ b. All P (cond b start (start ++ k ∷ []))) [ true ↦ has | false ↦ All-push P start k has (All-head P k ks all) ] in
    fold-all P (with_key start k) ks one (All-tail P k ks all)

pub ahead-distinct : (wants : Told → Option PositionSet) (told : Told) (most : ℕ) → IsDistinct (keys_ahead wants told most)
ahead-distinct wants told most = fold-distinct [] (filter_map (asked_after wants told) (words_to most)) tt

-- ---- the words have a verdict

abbrev IsLong : List Verdict → Type 0
IsLong word = (verdict : Verdict) × (rest : List Verdict) × (word ≡ verdict ∷ rest)

long-push : (word : List Verdict) (last : Verdict) → IsLong (word ++ last ∷ [])
long-push [] last = (last, [], refl)
long-push (v ∷ word) last = (v, word ++ last ∷ [], refl)

long-more : (ws : List (List Verdict)) → All IsLong (flat_map (λ word. (word ++ Unsat ∷ []) ∷ (word ++ Sat ∷ []) ∷ []) ws)
long-more [] = All-nil IsLong
long-more (w ∷ ws) =
    let rest = flat_map (λ word. (word ++ Unsat ∷ []) ∷ (word ++ Sat ∷ []) ∷ []) ws in
    All-cons IsLong (w ++ Unsat ∷ []) ((w ++ Sat ∷ []) ∷ rest) (long-push w Unsat) (All-cons IsLong (w ++ Sat ∷ []) rest (long-push w Sat) (long-more ws))

words-long : (most : ℕ) → All IsLong (words_to most)
words-long zero = All-nil IsLong
words-long (suc most) = All-append IsLong (words_to most) (words (suc most)) (words-long most) (long-more (words most))

found-all : (P : PositionSet → Type 0) (f : List Verdict → Option PositionSet) → ((word : List Verdict) → IsLong word → (key : PositionSet) → f word ≡ Some key → P key)
    → (ws : List (List Verdict)) → All IsLong ws → All P (filter_map f ws)
found-all P f each [] long = All-nil P
found-all P f each (w ∷ ws) long = case (found-all P f each ws (All-tail IsLong w ws long)) (f w) refl
  where
    case : All P (filter_map f ws) → (o : Option PositionSet) → f w ≡ o → All P (cons_option o (filter_map f ws))
    case rest None e = rest
    case rest (Some key) e = All-cons P key (filter_map f ws) (each w (All-head IsLong w ws long) key e) rest

-- ---- what is asked after a word was not told

module _ (wants : Told → Option PositionSet) (n : ℕ) (new : (told : Told) (key : PositionSet) → wants told ≡ Some key → verdict_in told key ≡ None) (size : (told : Told) (key : PositionSet) → wants told ≡ Some key → key.n ≡ n) where
  asked-size : (word : List Verdict) (told : Told) (key : PositionSet) → asked_after wants told word ≡ Some key → key.n ≡ n
  asked-size [] told key e = size told key e
  asked-size (v ∷ word) told key e =
      option_and_then_some (λ (k : PositionSet). asked_after wants (told ++ (k, v) ∷ []) word) (wants told) key e
      (λ k is rest. asked-size word (told ++ (k, v) ∷ []) key rest)

  asked-other : (word : List Verdict) (told : Told) (asked key : PositionSet) (v : Verdict) → verdict_in told asked ≡ Some v → asked_after wants told word ≡ Some key → ¬ (key ≡ asked)
  asked-other [] told asked key v known e same = none-some v (sym (new told key e) ∙ ap (verdict_in told) same ∙ known)
  asked-other (u ∷ word) told asked key v known e same =
      option_and_then_some (λ (k : PositionSet). asked_after wants (told ++ (k, u) ∷ []) word) (wants told) key e
      (λ k is rest. asked-other word (told ++ (k, u) ∷ []) asked key v (told-known told ((k, u) ∷ []) asked v known) rest same)

  pub ahead-size : (told : Told) (most : ℕ) → All (λ key. key.n ≡ n) (keys_ahead wants told most)
  ahead-size told most =
      fold-all (λ key. key.n ≡ n) [] (filter_map (asked_after wants told) (words_to most)) (All-nil (λ (key : PositionSet). key.n ≡ n))
      (found-all (λ key. key.n ≡ n) (asked_after wants told) (λ word long key e. asked-size word told key e) (words_to most) (words-long most))

  now_known : (told : Told) (asked : PositionSet) (v : Verdict) → wants told ≡ Some asked → verdict_in (told ++ (asked, v) ∷ []) asked ≡ Some v
  now_known told asked v e = told-unknown told ((asked, v) ∷ []) asked (new told asked e) ∙ ap (λ b. cond b (Some v) None) (key_eq-refl asked)

  pub ahead-others : (told : Told) (most : ℕ) (asked : PositionSet) → wants told ≡ Some asked → All (λ key. ¬ (key ≡ asked)) (keys_ahead wants told most)
  ahead-others told most asked e =
      fold-all (λ key. ¬ (key ≡ asked)) [] (filter_map (asked_after wants told) (words_to most)) (All-nil (λ (key : PositionSet). ¬ (key ≡ asked)))
      (found-all (λ key. ¬ (key ≡ asked)) (asked_after wants told) each (words_to most) (words-long most))
    where
      each : (word : List Verdict) → IsLong word → (key : PositionSet) → asked_after wants told word ≡ Some key → ¬ (key ≡ asked)
      each word long key is =
          let first : asked_after wants told (long.0 ∷ long.1) ≡ Some key = ap (asked_after wants told) (sym long.2) ∙ is in
          option_and_then_some (λ (k : PositionSet). asked_after wants (told ++ (k, long.0) ∷ []) long.1) (wants told) key first
          (λ k wanted rest.
          let same : k ≡ asked = same_Some k asked (sym wanted ∙ e) in
          let after : asked_after wants (told ++ (asked, long.0) ∷ []) long.1 ≡ Some key = ap (λ (x : PositionSet). asked_after wants (told ++ (x, long.0) ∷ []) long.1) (sym same) ∙ rest in
          asked-other long.1 (told ++ (asked, long.0) ∷ []) asked key long.0 (now_known told asked long.0 e) after)
