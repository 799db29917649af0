-- What is accepted is so.
use Rattle.std.proofs.Common.{◌≡◌, ◌∙◌, ◌⊎◌, refl, sym, ap, subst, inl, inr, ⊎_elim, ℕ, ◌+◌, ◌<◌, ◌≤◌, Bool, true, false, cond, ◌&&◌, List, [], ◌∷◌, ◌++◌, length, Some, None, append-nil, append_assoc, arith}
use Rattle.std.specs.Prelude.{Contains, Option, nat_le, nat_lt, codes, ◌↔◌}
use Rattle.std.specs.List.{list_all, flat_map}
use Rattle.std.specs.Option.{option_and_then, option_map}
use Rattle.std.specs.Str.{bytes_eq}
use Rattle.std.proofs.lemmas.Bool.Decides.{nat_tests}
use Rattle.std.proofs.lemmas.List.Elements.{All-append}
use Rattle.std.proofs.lemmas.List.Folds.{list_all-append}
use Rattle.std.proofs.lemmas.List.Sums.{AllPass-from_list_all}
use Rattle.std.proofs.lemmas.Option.{none-some, option_and_then_some, same_Some}
use Rattle.lists.proofs.Members.{none, first_or_later}
use Rattle.clauses.specs.declared.literal.Lit.{Lit}
use Rattle.clauses.specs.Clause.{is_satisfied, are_satisfied}
use Rattle.clauses.specs.Closure.{clash, follows}
use Rattle.clauses.specs.Met.{AreMet}
use Rattle.clauses.proofs.ClosureLaws.{follows-satisfied, satisfied-no_clash}
use Rattle.clauses.proofs.MetLaws.{met-within}
use Rattle.clause_form.specs.ClauseForm.{problem_of}
use Rattle.clause_form.specs.Laws.{IsStatedOf}
use Rattle.clause_form.proofs.AssignmentLaws.{consistent-met}
use Rattle.config_reader.specs.Configuration.{Configuration}
use Rattle.config_reader.specs.Consistent.{AreConsistent, formulas_at, formulas_of}
use Rattle.feature_tree.specs.Decided.{is_product}
use Rattle.feature_tree.specs.FeatureModel.{FeatureModel}
use Rattle.feature_tree.specs.Truth.{Holds, truth}
use Rattle.feature_tree.proofs.Decided.{product_decided}
use Rattle.feature_tree.proofs.Products.{both}
use Rattle.pref_sets.specs.Properties.{PassesToFewer}
use Rattle.req_keys.specs.Positions.{RiseWithin}
use Rattle.req_keys.specs.Wanting.{key_over}
use Rattle.certificate.specs.declared.judgement.Judgement.{Judgement}
use Rattle.certificate.specs.declared.judgement.Judgement.TheVariants.{Yes, No}
use Rattle.certificate.specs.declared.judgement.Shown.{Shown}
use Rattle.certificate.specs.declared.judgement.Why.{Why}
use Rattle.certificate.specs.declared.judgement.Why.TheVariants as why
use Rattle.certificate.specs.Judging.{Subject, count_of, is_wanted, clauses_at, Awaited, Kind, Kept, ConflictBeside, Product, Derivation, Exactly, Nothing, consistent_parts, background_parts, refuted_parts, need_parts, conflict_parts, end_parts, explained_parts, Step, Goes, Refuses, step_at_kind, step_at_list, step_at_product, step_in_derivation, step, at_end, judged, judged_from_start, judge}
use Rattle.certificate.specs.Laws.{IsSo}
use Rattle.certificate.specs.Sets.{given_up, refuted_with, met_without}
use Rattle.certificate.proofs.GreedyShown.{kept-shown, conflict-shown}
use Rattle.certificate.specs.Words.{number_of, up_to, number_within, above, rising_from, Saying, Learns, Clashes, Malformed, Foreign, lines_of, words_of, words_after, list_in, list_of, product_in, saying_of}

-- ---- steps

-- how the judgement goes on after a line
abbrev by_step : Subject → ℕ → List (List ℕ) → Step → Judgement
by_step about number lines (Refuses why) = No number why
by_step about number lines (Goes next) = judged about next (number + 1) lines

went : (about : Subject) (number : ℕ) (lines : List (List ℕ)) (shown : Shown) (s : Step) → by_step about number lines s ≡ Yes shown → (next : List Awaited) × (s ≡ Goes next) × (judged about next (number + 1) lines ≡ Yes shown)
went about number lines shown (Refuses why) e = absurd (cc)
went about number lines shown (Goes next) e = (next, refl, e)

-- an accepted line leads on
goes_on : (about : Subject) (awaited : List Awaited) (number : ℕ) (line : List ℕ) (lines : List (List ℕ)) (shown : Shown) → judged about awaited number (line ∷ lines) ≡ Yes shown
    → (next : List Awaited) × (step about awaited line ≡ Goes next) × (judged about next (number + 1) lines ≡ Yes shown)
goes_on about awaited number line lines shown e = went about number lines shown (step about awaited line) e

-- where a test decides
if_goes : (b : Bool) (next goes : List Awaited) (why : Why) → cond b (Goes next) (Refuses why) ≡ Goes goes → (b ≡ true) × (next ≡ goes)
if_goes true next goes why e = (refl, (cc))
if_goes false next goes why e = absurd (cc)

at_list : (numbers : Option (List ℕ)) (parts : List ℕ → List Awaited) (next : List Awaited) → step_at_list numbers parts ≡ Goes next → (list : List ℕ) × (numbers ≡ Some list) × (parts list ≡ next)
at_list None parts next e = absurd (cc)
at_list (Some list) parts next e = (list, refl, (cc))

at_product : (about : Subject) (positions : List ℕ) (set : Option (List Bool)) (rest next : List Awaited) → step_at_product about positions set rest ≡ Goes next
    → (wanted : List Bool) × (is_wanted about.model about.config positions wanted ≡ true) × (rest ≡ next)
at_product about positions None rest next e = absurd (cc)
at_product about positions (Some set) rest next e = let t = if_goes (is_wanted about.model about.config positions set) rest next why.NotProduct e in (set, t.0, t.1)

-- a line of a derivation: a clause that follows, or a clash
in_derivation : (clauses : List (List Lit)) (saying : Saying) (rest next : List Awaited) → step_in_derivation clauses saying rest ≡ Goes next
    → ((clause : List Lit) × (follows clauses clause ≡ true) × (Derivation (clauses ++ clause ∷ []) ∷ rest ≡ next)) ⊎ ((clash clauses ≡ true) × (rest ≡ next))
in_derivation clauses (Learns clause) rest next e = let t = if_goes (follows clauses clause) (Derivation (clauses ++ clause ∷ []) ∷ rest) next why.NotConsequence e in inl (clause, t.0, t.1)
in_derivation clauses Clashes rest next e = let t = if_goes (clash clauses) rest next why.NotConsequence e in inr (t.0, t.1)
in_derivation clauses Malformed rest next e = absurd (cc)
in_derivation clauses Foreign rest next e = absurd (cc)

same_parts : (parts next : List Awaited) → Goes parts ≡ Goes next → parts ≡ next
same_parts parts next e = (cc)

-- ---- what the parts mean

module _ (model : FeatureModel) (config : Configuration) (allowance rungs : ℕ) where
  abbrev about : Subject
  about = record { model = model; config = config; problem = problem_of model config allowance rungs }

  abbrev P : List ℕ → Type 0
  P = AreConsistent model config

  -- no values make the clauses true
  abbrev IsUnmet : List (List Lit) → Type 0
  IsUnmet clauses = (values : List Bool) → are_satisfied values clauses ≡ true → ⊥

  abbrev Meant : List Awaited → Shown → Type 0
  Meant [] shown = Unit {0}
  Meant (Kind ∷ rest) shown = Unit {0}
  Meant (Kept ∷ rest) shown = Unit {0}
  Meant (ConflictBeside kept ∷ rest) shown = Unit {0}
  Meant (Product positions ∷ rest) shown = P positions × Meant rest shown
  Meant (Derivation clauses ∷ rest) shown = IsUnmet clauses × Meant rest shown
  Meant (Exactly text ∷ rest) shown = Meant rest shown
  Meant (Nothing found ∷ rest) shown = found ≡ shown

  consistent_from : (positions : List ℕ) (set : List Bool) → is_wanted model config positions set ≡ true → P positions
  consistent_from positions set e =
      let outer = both (is_product model set && list_all (truth set) (formulas_of config.musts)) (list_all (truth set) (formulas_at config positions)) e in
      let inner = both (is_product model set) (list_all (truth set) (formulas_of config.musts)) outer.0 in (
        set,
        (product_decided model set).0 inner.0,
        All-append (Holds set) (formulas_of config.musts) (formulas_at config positions)
            (AllPass-from_list_all (truth set) (formulas_of config.musts) inner.1) (AllPass-from_list_all (truth set) (formulas_at config positions) outer.1),
      )

  and_true : (a b : Bool) → a ≡ true → b ≡ true → (a && (b && true)) ≡ true
  and_true true true p q = refl
  and_true true false p q = absurd (cc)
  and_true false b p q = absurd (cc)

  unmet_before : (clauses : List (List Lit)) (clause : List Lit) → follows clauses clause ≡ true → IsUnmet (clauses ++ clause ∷ []) → IsUnmet clauses
  unmet_before clauses clause f unmet values holds =
      unmet values (list_all-append (is_satisfied values) clauses (clause ∷ []) ∙ and_true (are_satisfied values clauses) (is_satisfied values clause) holds (follows-satisfied values clauses clause holds f))

  meant : (lines : List (List ℕ)) (awaited : List Awaited) (number : ℕ) (shown : Shown) → judged about awaited number lines ≡ Yes shown → Meant awaited shown
  meant [] [] number shown e = tt
  meant [] (Kind ∷ rest) number shown e = tt
  meant [] (Kept ∷ rest) number shown e = tt
  meant [] (ConflictBeside kept ∷ rest) number shown e = tt
  meant [] (Product positions ∷ rest) number shown e = absurd (cc)
  meant [] (Derivation clauses ∷ rest) number shown e = absurd (cc)
  meant [] (Exactly text ∷ rest) number shown e = absurd (cc)
  meant [] (Nothing found ∷ rest) number shown e = (cc)
  meant (line ∷ lines) [] number shown e = tt
  meant (line ∷ lines) (Kind ∷ rest) number shown e = tt
  meant (line ∷ lines) (Kept ∷ rest) number shown e = tt
  meant (line ∷ lines) (ConflictBeside kept ∷ rest) number shown e = tt
  meant (line ∷ lines) (Product positions ∷ rest) number shown e =
      let next = goes_on about (Product positions ∷ rest) number line lines shown e in
      let found = at_product about positions (product_in (length model.features) line) rest next.0 next.1 in
      (consistent_from positions found.0 found.1, meant lines rest (number + 1) shown (ap (λ awaited. judged about awaited (number + 1) lines) found.2 ∙ next.2))
  meant (line ∷ lines) (Derivation clauses ∷ rest) number shown e =
      let next = goes_on about (Derivation clauses ∷ rest) number line lines shown e in
      ⊎_elim
      (λ (learned : (clause : List Lit) × (follows clauses clause ≡ true) × (Derivation (clauses ++ clause ∷ []) ∷ rest ≡ next.0)).
      let later = meant lines (Derivation (clauses ++ learned.0 ∷ []) ∷ rest) (number + 1) shown (ap (λ awaited. judged about awaited (number + 1) lines) learned.2 ∙ next.2) in
      let both : IsUnmet clauses × Meant rest shown = (unmet_before clauses learned.0 learned.1 later.0, later.1) in both)
      (λ (ended : (clash clauses ≡ true) × (rest ≡ next.0)).
      let both : IsUnmet clauses × Meant rest shown =
      ((λ values holds. satisfied-no_clash values clauses holds ended.0), meant lines rest (number + 1) shown (ap (λ awaited. judged about awaited (number + 1) lines) ended.1 ∙ next.2)) in both)
      (in_derivation clauses (saying_of about.problem.variables line) rest next.0 next.1)
  meant (line ∷ lines) (Exactly text ∷ rest) number shown e =
      let next = goes_on about (Exactly text ∷ rest) number line lines shown e in
      let same = if_goes (bytes_eq line text) rest next.0 why.BadLine next.1 in
      meant lines rest (number + 1) shown (ap (λ awaited. judged about awaited (number + 1) lines) same.1 ∙ next.2)
  meant (line ∷ lines) (Nothing found ∷ rest) number shown e =
      let next = goes_on about (Nothing found ∷ rest) number line lines shown e in
      let no : Refuses why.BadLine ≡ Goes next.0 = next.1 in absurd (cc)

-- ---- lists

module _ (most : ℕ) where
  up_to-some : (n : ℕ) (b : Bool) (result : ℕ) → nat_le n most ≡ b → cond b (Some n) None ≡ Some result → result ≤ most
  up_to-some n true result t e = let same : n ≡ result = same_Some n result e in grind (arith, nat_tests)
  up_to-some n false result t e = absurd (none-some result e)

  within-bound : (found : Option ℕ) (result : ℕ) → option_and_then (up_to most) found ≡ Some result → result ≤ most
  within-bound None result e = absurd (none-some result e)
  within-bound (Some n) result e = up_to-some n (nat_le n most) result refl e

  with_others : (number : ℕ) (others : Option (List ℕ)) (list : List ℕ) → option_map (λ numbers. number ∷ numbers) others ≡ Some list → (rest : List ℕ) × (others ≡ Some rest) × (number ∷ rest ≡ list)
  with_others number None list e = absurd (none-some list e)
  with_others number (Some rest) list e = (rest, refl, same_Some (number ∷ rest) list e)

  above-some : (low number : ℕ) (b : Bool) (others : Option (List ℕ)) (list : List ℕ) → nat_lt low number ≡ b → cond b (option_map (λ numbers. number ∷ numbers) others) None ≡ Some list
      → (low < number) × ((rest : List ℕ) × (others ≡ Some rest) × (number ∷ rest ≡ list))
  above-some low number true others list t e = (grind (arith, nat_tests), with_others number others list e)
  above-some low number false others list t e = absurd (none-some list e)

  rising : (words : List (List ℕ)) (low : ℕ) (list : List ℕ) → rising_from low most words ≡ Some list → RiseWithin low most list
  rising [] low list e = subst (RiseWithin low most) (same_Some [] list e) tt
  rising (word ∷ words) low list e =
      option_and_then_some (λ number. above low number (rising_from number most words)) (number_within most word) list e (λ number is g.
      let parts = above-some low number (nat_lt low number) (rising_from number most words) list refl g in
      let inside = within-bound (number_of word) number is in
      subst (RiseWithin low most) parts.1.2 (parts.0, inside, rising words number parts.1.0 parts.1.1))

  one_word : (word : List ℕ) (b : Bool) (list : List ℕ) → bytes_eq word (codes "none") ≡ b → cond b (Some []) (rising_from 0 most (word ∷ [])) ≡ Some list → RiseWithin 0 most list
  one_word word true list t e = subst (RiseWithin 0 most) (same_Some [] list e) tt
  one_word word false list t e = rising (word ∷ []) 0 list e

  list-rising : (words : List (List ℕ)) (list : List ℕ) → list_of most words ≡ Some list → RiseWithin 0 most list
  list-rising [] list e = absurd (none-some list e)
  list-rising (word ∷ []) list e = one_word word (bytes_eq word (codes "none")) list refl e
  list-rising (word ∷ next ∷ words) list e = rising (word ∷ next ∷ words) 0 list e

  pub list_in-rising : (word line list : List ℕ) → list_in word most line ≡ Some list → RiseWithin 0 most list
  list_in-rising word line list e = option_and_then_some (list_of most) (words_after word (words_of line)) list e (λ words is g. list-rising words list g)

-- ---- the whole

module _ (model : FeatureModel) (config : Configuration) (allowance rungs : ℕ) (stated : IsStatedOf model config) where
  abbrev subject : Subject
  subject = record { model = model; config = config; problem = problem_of model config allowance rungs }

  abbrev Met : List ℕ → Type 0
  Met = AreConsistent model config

  abbrev Said : List Awaited → Shown → Type 0
  Said = Meant model config allowance rungs

  same : (positions : List ℕ) → Met positions ↔ AreMet (problem_of model config allowance rungs) positions
  same positions = consistent-met model config allowance rungs (key_over (length (problem_of model config allowance rungs).roots) positions) stated

  fewer : PassesToFewer Met
  fewer a b within p =
      let problem = problem_of model config allowance rungs in
      (same a).1 (met-within problem (key_over (length problem.roots) a) (key_over (length problem.roots) b) within ((same b).0 p))

  -- where the clauses of some positions are unmet, these can't be met together
  refuted-from : (positions : List ℕ) → IsUnmet model config allowance rungs (clauses_at subject positions) → ¬ Met positions
  refuted-from positions unmet p = let met = (same positions).0 p in unmet met.0 met.2

  meant_each : (f : ℕ → List Awaited) (Q : ℕ → Type 0) (rest : List Awaited) (found : Shown) → ((x : ℕ) (more : List Awaited) → Said (f x ++ more) found → Q x × Said more found)
      → (xs : List ℕ) → Said (flat_map f xs ++ rest) found → ((x : ℕ) → Contains xs x → Q x) × Said rest found
  meant_each f Q rest found one [] m = ((λ x no. absurd (none x no)), m)
  meant_each f Q rest found one (x ∷ xs) m =
      let split = one x (flat_map f xs ++ rest) (subst (λ awaited. Said awaited found) (append_assoc (f x) (flat_map f xs) rest) m) in
      let others = meant_each f Q rest found one xs split.1 in (
        (λ y c. ⊎_elim (λ (e : x ≡ y). subst Q e split.0) (λ (l : Contains xs y). others.0 y l) (first_or_later x xs y c)),
        others.1,
      )

  explained-so : (kept conflict : List ℕ) (found : Shown) → RiseWithin 0 (count_of subject) kept → RiseWithin 0 (count_of subject) conflict → Said (explained_parts subject kept conflict) found → IsSo model config found
  explained-so kept conflict found kept_rise conflict_rise m =
      let n = count_of subject in
      let refuted = meant_each (refuted_parts subject kept) (λ i. ¬ Met (refuted_with n kept i)) (conflict_parts subject conflict ++ end_parts subject kept conflict) found
      (λ x more said. (refuted-from (refuted_with n kept x) said.0, said.1)) (given_up n kept) m.1 in
      let needed = meant_each (need_parts subject conflict) (λ i. Met (met_without n conflict i)) (end_parts subject kept conflict) found
      (λ x more said. (said.0, said.1)) conflict refuted.1.1 in
      subst (IsSo model config) needed.1 (
        (refl, kept-shown Met fewer n kept kept_rise m.0 refuted.0),
        (refl, conflict-shown Met fewer n conflict conflict_rise (refuted-from conflict refuted.1.0) needed.0),
      )

  end-no : (awaited : List Awaited) (number : ℕ) (found : Shown) (why : Why) → at_end awaited number ≡ No number why → judged subject awaited number [] ≡ Yes found → ⊥
  end-no awaited number found why e j = let no : No number why ≡ Yes found = sym e ∙ j in absurd (cc)

  -- behind the list of what is kept
  conflict-so : (kept : List ℕ) (lines : List (List ℕ)) (number : ℕ) (found : Shown) → RiseWithin 0 (count_of subject) kept → judged subject (ConflictBeside kept ∷ []) number lines ≡ Yes found → IsSo model config found
  conflict-so kept [] number found rise e = absurd (end-no (ConflictBeside kept ∷ []) number found why.BadLine refl e)
  conflict-so kept (line ∷ lines) number found rise e =
      let next = goes_on subject (ConflictBeside kept ∷ []) number line lines found e in
      let list = at_list (list_in (codes "conflict") (count_of subject) line) (λ conflict. explained_parts subject kept conflict ++ []) next.0 next.1 in
      let parts : explained_parts subject kept list.0 ≡ next.0 = sym (append-nil (explained_parts subject kept list.0)) ∙ list.2 in
      explained-so kept list.0 found rise (list_in-rising (count_of subject) (codes "conflict") line list.0 list.1)
      (meant model config allowance rungs lines (explained_parts subject kept list.0) (number + 1) found (ap (λ awaited. judged subject awaited (number + 1) lines) parts ∙ next.2))

  kept-so : (lines : List (List ℕ)) (number : ℕ) (found : Shown) → judged subject (Kept ∷ []) number lines ≡ Yes found → IsSo model config found
  kept-so [] number found e = absurd (end-no (Kept ∷ []) number found why.BadLine refl e)
  kept-so (line ∷ lines) number found e =
      let next = goes_on subject (Kept ∷ []) number line lines found e in
      let list = at_list (list_in (codes "kept") (count_of subject) line) (λ kept. ConflictBeside kept ∷ []) next.0 next.1 in
      conflict-so list.0 lines (number + 1) found (list_in-rising (count_of subject) (codes "kept") line list.0 list.1) (ap (λ awaited. judged subject awaited (number + 1) lines) list.2 ∙ next.2)

  at_kind : (line : List ℕ) (a b : Bool) (next : List Awaited) → bytes_eq line (codes "consistent") ≡ a → bytes_eq line (codes "background") ≡ b → step_at_kind subject line [] ≡ Goes next
      → (consistent_parts subject ≡ next) ⊎ ((background_parts subject ≡ next) ⊎ (Kept ∷ [] ≡ next))
  at_kind line true b next p q e = inl (same_parts (consistent_parts subject) next (rw (p, step_at_kind) at e))
  at_kind line false true next p q e = inr (inl (same_parts (background_parts subject) next (rw (p, q, step_at_kind) at e)))
  at_kind line false false next p q e = inr (inr (if_goes (bytes_eq line (codes "explained")) (Kept ∷ []) next why.BadLine (rw (p, q, step_at_kind) at e)).1)

  kind-so : (lines : List (List ℕ)) (number : ℕ) (found : Shown) → judged subject (Kind ∷ []) number lines ≡ Yes found → IsSo model config found
  kind-so [] number found e = absurd (end-no (Kind ∷ []) number found why.BadLine refl e)
  kind-so (line ∷ lines) number found e =
      let next = goes_on subject (Kind ∷ []) number line lines found e in
      ⊎_elim
      (λ (consistent : consistent_parts subject ≡ next.0).
      let said = meant model config allowance rungs lines (consistent_parts subject) (number + 1) found (ap (λ awaited. judged subject awaited (number + 1) lines) consistent ∙ next.2) in
      subst (IsSo model config) said.1 said.0)
      (λ (others : (background_parts subject ≡ next.0) ⊎ (Kept ∷ [] ≡ next.0)).
      ⊎_elim
      (λ (background : background_parts subject ≡ next.0).
      let said = meant model config allowance rungs lines (background_parts subject) (number + 1) found (ap (λ awaited. judged subject awaited (number + 1) lines) background ∙ next.2) in
      subst (IsSo model config) said.1 (refuted-from [] said.0))
      (λ (explained : Kept ∷ [] ≡ next.0). kept-so lines (number + 1) found (ap (λ awaited. judged subject awaited (number + 1) lines) explained ∙ next.2))
      others)
      (at_kind line (bytes_eq line (codes "consistent")) (bytes_eq line (codes "background")) next.0 refl refl next.1)

  started : (number : ℕ) (lines : List (List ℕ)) (found : Shown) (b : Bool) → (elim b as (λ x. Judgement) [ true ↦ judged subject (Kind ∷ []) (number + 1) lines | false ↦ judged_from_start subject (number + 1) lines ]) ≡ Yes found
      → (judged subject (Kind ∷ []) (number + 1) lines ≡ Yes found) ⊎ (judged_from_start subject (number + 1) lines ≡ Yes found)
  started number lines found true e = inl e
  started number lines found false e = inr e

  start-so : (lines : List (List ℕ)) (number : ℕ) (found : Shown) → judged_from_start subject number lines ≡ Yes found → IsSo model config found
  start-so [] number found e = absurd (cc)
  start-so (line ∷ lines) number found e =
      ⊎_elim
      (λ (begun : judged subject (Kind ∷ []) (number + 1) lines ≡ Yes found). kind-so lines (number + 1) found begun)
      (λ (later : judged_from_start subject (number + 1) lines ≡ Yes found). start-so lines (number + 1) found later)
      (started number lines found (bytes_eq line (codes "certificate 1")) e)

  pub accepted-so : (bytes : List ℕ) (found : Shown) → judge model config (problem_of model config allowance rungs) bytes ≡ Yes found → IsSo model config found
  accepted-so bytes found e = start-so (lines_of bytes) 1 found e
