-- The walk over the words, level by level, finds what the definition of the list says.
use Rattle.std.proofs.Common.{◌≡◌, ◌∙◌, refl, sym, ap, ℕ, zero, suc, List, [], ◌∷◌, ◌++◌, Option, Some, None}
use Rattle.std.specs.Prelude.{filter_map, flat_map, fold, option_and_then, option_map, option_to_list, IsSome}
use Rattle.std.specs.List.{cons_option}
use Rattle.std.proofs.lemmas.List.Elements.{filter_map-append}
use Rattle.std.proofs.lemmas.List.Sums.{fold-append}
use Rattle.req_keys.specs.Key.{PositionSet}
use Rattle.req_keys.specs.declared.verdict.Verdict.{Verdict}
use Rattle.req_keys.specs.declared.verdict.Verdict.TheVariants.{Sat, Unsat}
use Rattle.script.specs.Job.{Told}
use Rattle.look_ahead.specs.Ahead.{asked_after, keys_ahead, with_key, words, words_to}
use Rattle.look_ahead.specs.inside.Levels.{Asking, after_verdict, asks_of, if_asking, keys_asked, level_of, next_level_of}

module _ (wants : Told → Option PositionSet) where
  abbrev at : Told → Asking
  at told = record { wants = wants; told = told }

  -- the asker after a word, if it asks then
  abbrev after_word : Told → List Verdict → Option Asking
  after_word told [] = if_asking (at told)
  after_word told (verdict ∷ word) = option_and_then (λ key. after_word (told ++ (key, verdict) ∷ []) word) (wants told)

  asked-after_word : (told : Told) (word : List Verdict) → asked_after wants told word ≡ option_and_then asks_of (after_word told word)
  asked-after_word told [] = case (wants told) refl
    where
      case : (o : Option PositionSet) → wants told ≡ o → o ≡ option_and_then asks_of (option_map (λ key. at told) o)
      case None e = refl
      case (Some key) e = sym e
  asked-after_word told (verdict ∷ word) = case (λ key. asked-after_word (told ++ (key, verdict) ∷ []) word) (wants told)
    where
      case : ((key : PositionSet) → asked_after wants (told ++ (key, verdict) ∷ []) word ≡ option_and_then asks_of (after_word (told ++ (key, verdict) ∷ []) word)) → (o : Option PositionSet) → option_and_then (λ key. asked_after wants (told ++ (key, verdict) ∷ []) word) o ≡ option_and_then asks_of (option_and_then (λ key. after_word (told ++ (key, verdict) ∷ []) word) o)
      case rest None = refl
      case rest (Some key) = rest key

  after_word-push : (told : Told) (word : List Verdict) (last : Verdict) → after_word told (word ++ last ∷ []) ≡ option_and_then (after_verdict last) (after_word told word)
  after_word-push told [] last = case (wants told) refl
    where
      case : (o : Option PositionSet) → wants told ≡ o
          → option_and_then (λ key. if_asking (at (told ++ (key, last) ∷ []))) o ≡ option_and_then (after_verdict last) (option_map (λ key. at told) o)
      case None e = refl
      case (Some key) e = sym (ap (option_and_then (λ k. if_asking (at (told ++ (k, last) ∷ [])))) e)
  after_word-push told (verdict ∷ word) last = case (λ key. after_word-push (told ++ (key, verdict) ∷ []) word last) (wants told)
    where
      case : ((key : PositionSet) → after_word (told ++ (key, verdict) ∷ []) (word ++ last ∷ []) ≡ option_and_then (after_verdict last) (after_word (told ++ (key, verdict) ∷ []) word))
          → (o : Option PositionSet)
          → option_and_then (λ key. after_word (told ++ (key, verdict) ∷ []) (word ++ last ∷ [])) o
          ≡ option_and_then (after_verdict last) (option_and_then (λ key. after_word (told ++ (key, verdict) ∷ []) word) o)
      case rest None = refl
      case rest (Some key) = rest key

  cons_to_list : (a b : Option Asking) (rest : List Asking) → cons_option a (cons_option b rest) ≡ (option_to_list a ++ option_to_list b) ++ rest
  cons_to_list None None rest = refl
  cons_to_list None (Some b) rest = refl
  cons_to_list (Some a) None rest = refl
  cons_to_list (Some a) (Some b) rest = refl

  two_more : (a b w : Option Asking) (rest more : List Asking) → a ≡ option_and_then (after_verdict Unsat) w → b ≡ option_and_then (after_verdict Sat) w → more ≡ next_level_of rest
      → cons_option a (cons_option b more) ≡ next_level_of (cons_option w rest)
  two_more a b None rest more e f g =
      ap (λ (o : Option Asking). cons_option o (cons_option b more)) e ∙ ap (λ (o : Option Asking). cons_option o more) f ∙ g
  two_more a b (Some w) rest more e f g =
      ap (λ (o : Option Asking). cons_option o (cons_option b more)) e
      ∙ ap (λ (o : Option Asking). cons_option (after_verdict Unsat w) (cons_option o more)) f
      ∙ ap (λ l. cons_option (after_verdict Unsat w) (cons_option (after_verdict Sat w) l)) g
      ∙ cons_to_list (after_verdict Unsat w) (after_verdict Sat w) (next_level_of rest)

  -- the words of one verdict more
  more_words : (told : Told) (ws : List (List Verdict))
      → filter_map (after_word told) (flat_map (λ word. (word ++ Unsat ∷ []) ∷ (word ++ Sat ∷ []) ∷ []) ws) ≡ next_level_of (filter_map (after_word told) ws)
  more_words told [] = refl
  more_words told (word ∷ ws) =
      two_more (after_word told (word ++ Unsat ∷ [])) (after_word told (word ++ Sat ∷ [])) (after_word told word)
      (filter_map (after_word told) ws)
      (filter_map (after_word told) (flat_map (λ w. (w ++ Unsat ∷ []) ∷ (w ++ Sat ∷ []) ∷ []) ws))
      (after_word-push told word Unsat)
      (after_word-push told word Sat)
      (more_words told ws)

  -- the level is the askers after the words of its length
  pub level-words : (told : Told) (length : ℕ) → IsSome (wants told) → level_of (at told) length ≡ filter_map (after_word told) (words length)
  level-words told zero asks = case (wants told) asks
    where
      case : (o : Option PositionSet) → IsSome o → at told ∷ [] ≡ cons_option (option_map (λ key. at told) o) []
      case None is = absurd (cc)
      case (Some key) is = refl
  level-words told (suc length) asks = ap next_level_of (level-words told length asks) ∙ sym (more_words told (words length))

  asked : (told : Told) (ws : List (List Verdict)) → filter_map (asked_after wants told) ws ≡ keys_asked (filter_map (after_word told) ws)
  asked told [] = refl
  asked told (w ∷ ws) = case (asked told ws) (asked_after wants told w) (after_word told w) (asked-after_word told w)
    where
      case : filter_map (asked_after wants told) ws ≡ keys_asked (filter_map (after_word told) ws)
          → (a : Option PositionSet) (o : Option Asking) → a ≡ option_and_then asks_of o
          → cons_option a (filter_map (asked_after wants told) ws) ≡ keys_asked (cons_option o (filter_map (after_word told) ws))
      case rest a None e = ap (λ (b : Option PositionSet). cons_option b (filter_map (asked_after wants told) ws)) e ∙ rest
      case rest a (Some asking) e =
          ap (λ (b : Option PositionSet). cons_option b (filter_map (asked_after wants told) ws)) e
          ∙ ap (λ (l : List PositionSet). cons_option (asks_of asking) l) rest

  -- what the words of one length find
  pub level-keys : (told : Told) (length : ℕ) → IsSome (wants told) → filter_map (asked_after wants told) (words length) ≡ keys_asked (level_of (at told) length)
  level-keys told length asks = asked told (words length) ∙ ap keys_asked (sym (level-words told length asks))

  -- the keys ahead, with one verdict more
  pub ahead-more : (told : Told) (most : ℕ) → IsSome (wants told) → keys_ahead wants told (suc most) ≡ fold with_key (keys_ahead wants told most) (keys_asked (level_of (at told) (suc most)))
  ahead-more told most asks =
      ap (fold with_key []) (filter_map-append (asked_after wants told) (words_to most) (words (suc most)))
      ∙ fold-append with_key [] (filter_map (asked_after wants told) (words_to most)) (filter_map (asked_after wants told) (words (suc most)))
      ∙ ap (fold with_key (keys_ahead wants told most)) (level-keys told (suc most) asks)
