-- One asker more of a level.
use Rattle.std.proofs.Common.{◌≡◌, ◌∙◌, refl, sym, ap, ℕ, ◌+◌, ◌<◌, Bool, true, false, cond, List, [], ◌∷◌, ◌++◌, map, length, get_or, take, Option, Some, None}
use Rattle.std.specs.Prelude.{All, IfSome, fold, option_map, option_to_list}
use Rattle.std.proofs.lemmas.List.{append-nil, append_assoc, map-append, take_more}
use Rattle.std.proofs.lemmas.List.Concat.{flat_map-append}
use Rattle.std.proofs.lemmas.List.Elements.{All-append, All-cons, All-nil, filter_map-append}
use Rattle.std.proofs.lemmas.List.Sums.{fold-append}
use Rattle.req_keys.specs.Key.{PositionSet}
use Rattle.req_keys.specs.declared.verdict.Verdict.TheVariants.{Sat, Unsat}
use Rattle.look_ahead.specs.Ahead.{with_key}
use Rattle.look_ahead.specs.inside.Levels.{Asking, after_either, after_verdict, asks_of, keys_asked, next_level_of}

module _ {X : Type 0} (look : X → Asking) where
  listed : (o : Option X) → map look (option_to_list o) ≡ option_to_list (option_map look o)
  listed None = refl
  listed (Some x) = refl

  -- both of one asker more
  pub either-more : (level : List X) (i : ℕ) (a : X) → i < length level → a ≡ get_or level i a → next_level_of (map look (take (i + 1) level)) ≡ next_level_of (map look (take i level)) ++ after_either (look a)
  either-more level i a within is =
      let before = next_level_of (map look (take i level)) in
      ap (λ l. next_level_of (map look l)) (take_more level i a within)
      ∙ ap next_level_of (map-append look (take i level) (get_or level i a ∷ []))
      ∙ flat_map-append after_either (map look (take i level)) (look (get_or level i a) ∷ [])
      ∙ ap (λ x. before ++ (after_either (look x) ++ [])) (sym is)
      ∙ ap (λ l. before ++ l) (append-nil (after_either (look a)))

  pushed : (kept : Bool) (list new : List X) (o : Option X) (more : Option Asking) → new ≡ list ++ cond kept (option_to_list o) [] → option_map look o ≡ more → map look new ≡ map look list ++ cond kept (option_to_list more) []
  pushed true list new o more put is = ap (map look) put ∙ map-append look list (option_to_list o) ∙ ap (λ l. map look list ++ l) (listed o ∙ ap option_to_list is)
  pushed false list new o more put is = ap (map look) (put ∙ append-nil list) ∙ sym (append-nil (map look list))

  joined : (kept : Bool) (l u s : List Asking) → (l ++ cond kept u []) ++ cond kept s [] ≡ l ++ cond kept (u ++ s) []
  joined true l u s = append_assoc l u s
  joined false l u s = append-nil (l ++ [])

  pub kept-either : (kept : Bool) (a : X) (list between new : List X) (unsat sat : Option X)
      → between ≡ list ++ cond kept (option_to_list unsat) [] → option_map look unsat ≡ after_verdict Unsat (look a)
      → new ≡ between ++ cond kept (option_to_list sat) [] → option_map look sat ≡ after_verdict Sat (look a)
      → map look new ≡ map look list ++ cond kept (after_either (look a)) []
  kept-either kept a list between new unsat sat put put_is put_more put_more_is =
      pushed kept between new sat (after_verdict Sat (look a)) put_more put_more_is
      ∙ ap (λ l. l ++ cond kept (option_to_list (after_verdict Sat (look a))) []) (pushed kept list between unsat (after_verdict Unsat (look a)) put put_is)
      ∙ joined kept (map look list) (option_to_list (after_verdict Unsat (look a))) (option_to_list (after_verdict Sat (look a)))

  pub kept-more : (kept : Bool) (level : List X) (i : ℕ) (a : X) (list new : List Asking) → i < length level → a ≡ get_or level i a
      → list ≡ cond kept (next_level_of (map look (take i level))) [] → new ≡ list ++ cond kept (after_either (look a)) [] → new ≡ cond kept (next_level_of (map look (take (i + 1) level))) []
  kept-more true level i a list new within is so_far put = put ∙ ap (λ l. l ++ after_either (look a)) so_far ∙ sym (either-more level i a within is)
  kept-more false level i a list new within is so_far put = put ∙ append-nil list ∙ so_far

  -- what is found
  pub found-either : (a : X) (found between new : List PositionSet) → between ≡ fold with_key found (keys_asked (option_to_list (after_verdict Unsat (look a)))) → new ≡ fold with_key between (keys_asked (option_to_list (after_verdict Sat (look a)))) → new ≡ fold with_key found (keys_asked (after_either (look a)))
  found-either a found between new put put_more =
      let u = option_to_list (after_verdict Unsat (look a)) in
      let s = option_to_list (after_verdict Sat (look a)) in
      put_more
      ∙ ap (λ l. fold with_key l (keys_asked s)) put
      ∙ sym (fold-append with_key found (keys_asked u) (keys_asked s))
      ∙ ap (fold with_key found) (sym (filter_map-append asks_of u s))

  pub found-more : (start : List PositionSet) (level : List X) (i : ℕ) (a : X) (found new : List PositionSet) → i < length level → a ≡ get_or level i a
      → found ≡ fold with_key start (keys_asked (next_level_of (map look (take i level)))) → new ≡ fold with_key found (keys_asked (after_either (look a)))
      → new ≡ fold with_key start (keys_asked (next_level_of (map look (take (i + 1) level))))
  found-more start level i a found new within is so_far put =
      let before = next_level_of (map look (take i level)) in
      put
      ∙ ap (λ l. fold with_key l (keys_asked (after_either (look a)))) so_far
      ∙ sym (fold-append with_key start (keys_asked before) (keys_asked (after_either (look a))))
      ∙ ap (fold with_key start) (sym (filter_map-append asks_of before (after_either (look a))))
      ∙ ap (λ l. fold with_key start (keys_asked l)) (sym (either-more level i a within is))

  -- each that is kept asks
  pub all-more : (P : X → Type 0) (kept : Bool) (list new : List X) (o : Option X) → All P list → new ≡ list ++ cond kept (option_to_list o) [] → IfSome o P → All P new
  all-more P kept list new o all put is = rw put (All-append P list (cond kept (option_to_list o) []) all (case kept o is))
    where
      case : (kept : Bool) (o : Option X) → IfSome o P → All P (cond kept (option_to_list o) [])
      case true None is = All-nil P
      case true (Some x) is = All-cons P x [] is (All-nil P)
      case false o is = All-nil P
