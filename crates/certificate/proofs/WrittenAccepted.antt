-- What is written is accepted: each part is read back as the next that is awaited.
use Rattle.std.proofs.Common.{◌≡◌, ◌∙◌, refl, sym, ap, subst, ℕ, ◌+◌, ◌<◌, ◌≤◌, ◌^◌, Bool, true, not, ◌&&◌, cond, List, [], ◌∷◌, ◌++◌, length, get_or, Some, None, IfSome, append_assoc, append-nil, arith}
use Rattle.std.specs.Prelude.{Option, codes, IsTrue}
use Rattle.std.specs.Fmt.{decimal}
use Rattle.std.specs.List.{All, flat_map, join_by, list_all, range_with_len}
use Rattle.std.specs.Str.{bytes_eq}
use Rattle.std.specs.Option.{option_map}
use Rattle.std.proofs.lemmas.List.Elements.{All-head, All-tail}
use Rattle.std.proofs.lemmas.List.Sums.{list_all-from_AllPass}
use Rattle.std.proofs.lemmas.Option.{none-some, same_Some}
use Rattle.std.proofs.lemmas.Slice.Eq.{bytes_eq-Decides}
use Rattle.clauses.specs.declared.literal.Lit.{Lit}
use Rattle.clauses.specs.Clause.{are_satisfied}
use Rattle.clauses.specs.Closure.{AreDerived, IsDerivation, clash}
use Rattle.clauses.specs.Problem.{ClauseProblem, IsBelow, IsProblem, clauses_with}
use Rattle.clauses.specs.Search.{SearchAnswer, Sat, Unsat, Limit, Standing, IsReached, search_of, verdict_of}
use Rattle.config_reader.specs.Configuration.{Configuration}
use Rattle.config_reader.specs.Consistent.{formulas_at, formulas_of}
use Rattle.feature_tree.specs.Decided.{is_product}
use Rattle.feature_tree.specs.FeatureModel.{FeatureModel}
use Rattle.feature_tree.specs.Truth.{truth}
use Rattle.feature_tree.proofs.Decided.{product_decided}
use Rattle.clause_form.specs.ClauseForm.{problem_of, variables_of}
use Rattle.clause_form.specs.Laws.{AssignmentsAreProducts, IsStatedOf, IsWanted, features_in}
use Rattle.req_keys.specs.Key.{PositionSet}
use Rattle.req_keys.specs.Positions.{RiseWithin, has}
use Rattle.req_keys.specs.Wanting.{key_over}
use Rattle.req_keys.specs.declared.verdict.Verdict.{Verdict}
use Rattle.req_keys.specs.declared.verdict.Verdict.TheVariants as verdict
use Rattle.certificate.specs.declared.judgement.Judgement.{Judgement}
use Rattle.certificate.specs.declared.judgement.Judgement.TheVariants.{Yes, No}
use Rattle.certificate.specs.declared.judgement.Shown.{Shown}
use Rattle.certificate.specs.declared.judgement.Shown.TheVariants as shown
use Rattle.certificate.specs.declared.judgement.Why.TheVariants as why
use Rattle.script.specs.declared.job.Outcome.{Outcome}
use Rattle.script.specs.declared.job.Outcome.TheVariants as outcome
use Rattle.req_keys.proofs.PositionsLaws.{RiseWithin-filter_range}
use Rattle.certificate.specs.Accepted.{AreDecided, HasVerdict, IsDecided, UnlessLimit, shown_by, shown_sets}
use Rattle.certificate.specs.Writing.{IsOver}
use Rattle.certificate.specs.Judging.{Subject, count_of, is_wanted, clauses_at, Awaited, Kind, Kept, ConflictBeside, Product, Derivation, Exactly, Nothing, consistent_parts, background_parts, refuted_parts, need_parts, conflict_parts, end_parts, explained_parts, Step, Goes, Refuses, step, step_at_list, step_at_product, step_in_derivation, judged, judged_from_start, judge}
use Rattle.certificate.specs.Sets.{given_up, refuted_with, met_without}
use Rattle.certificate.specs.Text.{line, list_text, literal_text, numbers_in, product_line, derivation_line, found_product, found_derivation, searched, product_text, derivation_text, refuted_text, need_text, explained_text, parts_text, with_ends, text_of, certificate_text}
use Rattle.certificate.specs.Words.{list_in, product_in, lines_of}
use Rattle.certificate.proofs.WholeLaws.{roots-counted}
use Rattle.certificate.proofs.ReadBack.{all_true, lacks, line-back, list-back, list-lacks, product-back, numbers-rise, learn-back, learn-lacks, decimal-lacks, rising-each}

-- the same bytes
pub bytes_same : (text : List ℕ) → bytes_eq text text ≡ true
bytes_same text = (bytes_eq-Decides text text).1 refl

-- ---- one line

module _ (about : Subject) (found : Shown) where
  -- the bytes are accepted where this is awaited
  abbrev pub IsAccepted : List Awaited → List ℕ → Type 0
  IsAccepted awaited bytes = (number : ℕ) → judged about awaited number (lines_of bytes) ≡ Yes found

  -- how the judgement goes on
  abbrev by_step : ℕ → List (List ℕ) → Step → Judgement
  by_step number lines (Refuses why) = No number why
  by_step number lines (Goes next) = judged about next (number + 1) lines

  pub accept-line : (awaited next : List Awaited) (text bytes : List ℕ) → lacks 10 text ≡ true → step about awaited text ≡ Goes next → IsAccepted next bytes → IsAccepted awaited (line text ++ bytes)
  accept-line awaited next text bytes e goes h number =
      ap (judged about awaited number) (line-back text bytes e) ∙ ap (by_step number (lines_of bytes)) goes ∙ h (number + 1)

  pub accept-exactly : (rest : List Awaited) (text bytes : List ℕ) → lacks 10 text ≡ true → IsAccepted rest bytes → IsAccepted (Exactly text ∷ rest) (line text ++ bytes)
  accept-exactly rest text bytes e h =
      accept-line (Exactly text ∷ rest) rest text bytes e (ap (λ b. cond b (Goes rest) (Refuses why.BadLine)) (bytes_same text)) h

  pub accept-product : (positions : List ℕ) (rest : List Awaited) (set : List Bool) (bytes : List ℕ) → length set ≡ length about.model.features → length set < 2 ^ 64 → is_wanted about.model about.config positions set ≡ true
      → IsAccepted rest bytes → IsAccepted (Product positions ∷ rest) (product_line set ++ bytes)
  accept-product positions rest set bytes sized fits wanted h =
      accept-line (Product positions ∷ rest) rest (codes "product " ++ list_text (numbers_in set)) bytes (list-lacks (length set) fits (numbers_in set) (numbers-rise set))
      (ap (λ n. step_at_product about positions (product_in n (codes "product " ++ list_text (numbers_in set))) rest) (sym sized)
      ∙ ap (λ read. step_at_product about positions read rest) (product-back set fits)
      ∙ ap (λ b. cond b (Goes rest) (Refuses why.NotProduct)) wanted)
      h

  -- a derivation of clauses over the variables, each of which has a member, and then the empty one
  pub accept-derivation : about.problem.variables < 2 ^ 63 → (learned clauses : List (List Lit)) (rest : List Awaited) (bytes : List ℕ) → All (λ clause. clause ≡ [] → ⊥) learned → All (All (IsBelow about.problem.variables)) learned
      → AreDerived clauses (learned ++ [] ∷ []) → IsAccepted rest bytes → IsAccepted (Derivation clauses ∷ rest) (flat_map derivation_line (learned ++ [] ∷ []) ++ bytes)
  accept-derivation fits [] clauses rest bytes some below derived h =
      let ended : clash clauses ≡ true = ap clash (sym (append-nil clauses)) ∙ derived.0 in
      accept-line (Derivation clauses ∷ rest) rest (codes "clash") bytes refl (ap (λ b. cond b (Goes rest) (Refuses why.NotConsequence)) ended) h
  accept-derivation fits ([] ∷ learned) clauses rest bytes some below derived h = absurd (All-head (λ (clause : List Lit). clause ≡ [] → ⊥) [] learned some refl)
  accept-derivation fits ((literal ∷ clause) ∷ learned) clauses rest bytes some below derived h =
      let here : All (IsBelow about.problem.variables) (literal ∷ clause) = All-head (All (IsBelow about.problem.variables)) (literal ∷ clause) learned below in
      let behind : IsAccepted (Derivation (clauses ++ (literal ∷ clause) ∷ []) ∷ rest) (flat_map derivation_line (learned ++ [] ∷ []) ++ bytes) =
      accept-derivation fits learned (clauses ++ (literal ∷ clause) ∷ []) rest bytes (All-tail (λ (one : List Lit). one ≡ [] → ⊥) (literal ∷ clause) learned some)
      (All-tail (All (IsBelow about.problem.variables)) (literal ∷ clause) learned below) derived.1 h in
      subst (IsAccepted (Derivation clauses ∷ rest)) (sym (append_assoc (derivation_line (literal ∷ clause)) (flat_map derivation_line (learned ++ [] ∷ [])) bytes))
      (accept-line (Derivation clauses ∷ rest) (Derivation (clauses ++ (literal ∷ clause) ∷ []) ∷ rest) (codes "learn " ++ join_by literal_text (codes " ") (literal ∷ clause)) (flat_map derivation_line (learned ++ [] ∷ []) ++ bytes)
      (learn-lacks about.problem.variables fits literal clause here)
      (ap (λ saying. step_in_derivation clauses saying rest) (learn-back about.problem.variables fits literal clause here)
      ∙ ap (λ b. cond b (Goes (Derivation (clauses ++ (literal ∷ clause) ∷ []) ∷ rest)) (Refuses why.NotConsequence)) derived.0)
      behind)

  -- parts for several positions, each of which is accepted
  pub accept-parts : (parts : ℕ → List Awaited) (text : ℕ → List ℕ) (xs : List ℕ) (rest : List Awaited) (bytes : List ℕ)
      → All (λ x. (more : List Awaited) (behind : List ℕ) → IsAccepted more behind → IsAccepted (parts x ++ more) (text x ++ behind)) xs
      → IsAccepted rest bytes → IsAccepted (flat_map parts xs ++ rest) (flat_map text xs ++ bytes)
  accept-parts parts text [] rest bytes each h = h
  accept-parts parts text (x ∷ xs) rest bytes each h =
      let one = All-head (λ (y : ℕ). (more : List Awaited) (behind : List ℕ) → IsAccepted more behind → IsAccepted (parts y ++ more) (text y ++ behind)) x xs each in
      let behind = accept-parts parts text xs rest bytes (All-tail (λ (y : ℕ). (more : List Awaited) (behind : List ℕ) → IsAccepted more behind → IsAccepted (parts y ++ more) (text y ++ behind)) x xs each) h in
      subst (λ (awaited : List Awaited). IsAccepted awaited (flat_map text (x ∷ xs) ++ bytes)) (sym (append_assoc (parts x) (flat_map parts xs) rest))
      (subst (IsAccepted (parts x ++ (flat_map parts xs ++ rest))) (sym (append_assoc (text x) (flat_map text xs) bytes)) (one (flat_map parts xs ++ rest) (flat_map text xs ++ bytes) behind))

-- ---- what the search gives

sat-answer : (answer : Option SearchAnswer) → option_map verdict_of answer ≡ Some verdict.Sat → (values : List Bool) × (answer ≡ Some (Sat values))
sat-answer None e = absurd (cc)
sat-answer (Some (Sat values)) e = (values, refl)
sat-answer (Some (Unsat lines)) e = absurd (cc)
sat-answer (Some Limit) e = absurd (cc)

unsat-answer : (answer : Option SearchAnswer) → option_map verdict_of answer ≡ Some verdict.Unsat → (lines : List (List Lit)) × (answer ≡ Some (Unsat lines))
unsat-answer None e = absurd (cc)
unsat-answer (Some (Sat values)) e = absurd (cc)
unsat-answer (Some (Unsat lines)) e = (lines, refl)
unsat-answer (Some Limit) e = absurd (cc)

-- a derivation as a search gives it
pub record IsSearched (variables : ℕ) (clauses lines : List (List Lit)) : Type 0 where
  pub learned : List (List Lit)
  pub lines_are : lines ≡ learned ++ [] ∷ []
  pub some : All (λ clause. clause ≡ [] → ⊥) learned
  pub below : All (All (IsBelow variables)) learned
  pub derived : AreDerived clauses (learned ++ [] ∷ [])

-- each of nine pieces in turn
regrouped : (a b c d e f g h i j : List ℕ) → (a ++ (((((((b ++ c) ++ d) ++ e) ++ f) ++ g) ++ h) ++ i)) ++ j ≡ a ++ (b ++ (c ++ (d ++ (e ++ (f ++ (g ++ (h ++ (i ++ (j ++ [])))))))))
regrouped a b c d e f g h i j = simp (append_assoc, append-nil)

few_pieces : (a b c d : List ℕ) → (a ++ (b ++ c)) ++ d ≡ a ++ (b ++ (c ++ (d ++ [])))
few_pieces a b c d = simp (append_assoc, append-nil)

module _ (about : Subject) (variables_fit : about.problem.variables < 2 ^ 63) (features_fit : length about.model.features < 2 ^ 64) (n_fits : count_of about < 2 ^ 64)
    (products : (positions : List ℕ) (values : List Bool) → searched about positions ≡ Some (Sat values)
    → (is_wanted about.model about.config positions (features_in about.model values) ≡ true) × (length (features_in about.model values) ≡ length about.model.features))
    (derivations : (positions : List ℕ) (lines : List (List Lit)) → searched about positions ≡ Some (Unsat lines) → IsSearched about.problem.variables (clauses_at about positions) lines) where
  abbrev Told : Verdict → List ℕ → Type 0
  Told verdict positions = HasVerdict about.problem (count_of about) verdict positions

  module _ (found : Shown) where
    abbrev Accepts : List Awaited → List ℕ → Type 0
    Accepts = IsAccepted about found

    found-product : (positions : List ℕ) (rest : List Awaited) (bytes : List ℕ) → Told verdict.Sat positions → Accepts rest bytes → Accepts (Product positions ∷ rest) (product_text about positions ++ bytes)
    found-product positions rest bytes told h =
        let answer = sat-answer (searched about positions) told in
        let product = products positions answer.0 answer.1 in
        let sized : length (features_in about.model answer.0) ≡ length about.model.features = product.1 in
        subst (λ (given : Option SearchAnswer). Accepts (Product positions ∷ rest) (found_product about.model given ++ bytes)) (sym answer.1)
        (accept-product about found positions rest (features_in about.model answer.0) bytes sized (omega arith) product.0 h)

    found-derivation : (positions : List ℕ) (rest : List Awaited) (bytes : List ℕ) → Told verdict.Unsat positions → Accepts rest bytes
        → Accepts (Derivation (clauses_at about positions) ∷ rest) (derivation_text about positions ++ bytes)
    found-derivation positions rest bytes told h =
        let answer = unsat-answer (searched about positions) told in
        let derivation : IsSearched about.problem.variables (clauses_at about positions) answer.0 = derivations positions answer.0 answer.1 in
        subst (λ (given : Option SearchAnswer). Accepts (Derivation (clauses_at about positions) ∷ rest) (found_derivation given ++ bytes)) (sym answer.1)
        (subst (λ (lines : List (List Lit)). Accepts (Derivation (clauses_at about positions) ∷ rest) (flat_map derivation_line lines ++ bytes)) (sym derivation.lines_are)
        (accept-derivation about found variables_fit derivation.learned (clauses_at about positions) rest bytes derivation.some derivation.below derivation.derived h))

    one-refuted : (kept : List ℕ) (position : ℕ) → position < 2 ^ 64 → Told verdict.Unsat (refuted_with (count_of about) kept position) → (more : List Awaited) (behind : List ℕ) → Accepts more behind
        → Accepts (refuted_parts about kept position ++ more) (refuted_text about kept position ++ behind)
    one-refuted kept position fits told more behind h =
        let awaited : List Awaited = refuted_parts about kept position ++ more in
        subst (Accepts awaited) (sym (append_assoc (line (codes "refute " ++ decimal position)) (derivation_text about (refuted_with (count_of about) kept position)) behind))
        (accept-exactly about found (Derivation (clauses_at about (refuted_with (count_of about) kept position)) ∷ more) (codes "refute " ++ decimal position)
        (derivation_text about (refuted_with (count_of about) kept position) ++ behind) (decimal-lacks 10 position (omega arith) fits)
        (found-derivation (refuted_with (count_of about) kept position) more behind told h))

    one-need : (conflict : List ℕ) (member : ℕ) → member < 2 ^ 64 → Told verdict.Sat (met_without (count_of about) conflict member) → (more : List Awaited) (behind : List ℕ) → Accepts more behind
        → Accepts (need_parts about conflict member ++ more) (need_text about conflict member ++ behind)
    one-need conflict member fits told more behind h =
        let awaited : List Awaited = need_parts about conflict member ++ more in
        subst (Accepts awaited) (sym (append_assoc (line (codes "need " ++ decimal member)) (product_text about (met_without (count_of about) conflict member)) behind))
        (accept-exactly about found (Product (met_without (count_of about) conflict member) ∷ more) (codes "need " ++ decimal member)
        (product_text about (met_without (count_of about) conflict member) ++ behind) (decimal-lacks 10 member (omega arith) fits)
        (found-product (met_without (count_of about) conflict member) more behind told h))

    last-line : Accepts (Exactly (codes "end") ∷ Nothing found ∷ []) (line (codes "end") ++ [])
    last-line = accept-exactly about found (Nothing found ∷ []) (codes "end") [] refl (λ number. refl)

    -- the first line
    from-first : (bytes : List ℕ) → Accepts (Kind ∷ []) bytes → judged_from_start about 1 (lines_of (line (codes "certificate 1") ++ bytes)) ≡ Yes found
    from-first bytes h = ap (judged_from_start about 1) (line-back (codes "certificate 1") bytes refl) ∙ h (1 + 1)

  abbrev Judged : List ℕ → Shown → Type 0
  Judged text found = judged_from_start about 1 (lines_of text) ≡ Yes found

  pub consistent-accepted : Told verdict.Sat (range_with_len 1 (count_of about)) → Judged (text_of about outcome.Consistent) shown.Consistent
  consistent-accepted told =
      let everything : List ℕ = range_with_len 1 (count_of about) in
      ap (λ (text : List ℕ). judged_from_start about 1 (lines_of text)) (few_pieces (line (codes "certificate 1")) (line (codes "consistent")) (product_text about everything) (line (codes "end")))
      ∙ from-first shown.Consistent (line (codes "consistent") ++ (product_text about everything ++ (line (codes "end") ++ [])))
      (accept-line about shown.Consistent (Kind ∷ []) (consistent_parts about) (codes "consistent") (product_text about everything ++ (line (codes "end") ++ [])) refl refl
      (found-product shown.Consistent everything (Exactly (codes "end") ∷ Nothing shown.Consistent ∷ []) (line (codes "end") ++ []) told (last-line shown.Consistent)))

  pub background-accepted : Told verdict.Unsat [] → Judged (text_of about outcome.Background) shown.Background
  background-accepted told =
      ap (λ (text : List ℕ). judged_from_start about 1 (lines_of text)) (few_pieces (line (codes "certificate 1")) (line (codes "background")) (derivation_text about []) (line (codes "end")))
      ∙ from-first shown.Background (line (codes "background") ++ (derivation_text about [] ++ (line (codes "end") ++ [])))
      (accept-line about shown.Background (Kind ∷ []) (background_parts about) (codes "background") (derivation_text about [] ++ (line (codes "end") ++ [])) refl refl
      (found-derivation shown.Background [] (Exactly (codes "end") ∷ Nothing shown.Background ∷ []) (line (codes "end") ++ []) told (last-line shown.Background)))

  module _ (kept conflict : List ℕ) (decided : AreDecided about.problem (count_of about) kept conflict) where
    abbrev both : Shown
    both = shown.Explained (key_over (count_of about) kept) (key_over (count_of about) conflict)

    -- what is left of the text from each place on
    abbrev end_left : List ℕ
    end_left = line (codes "end") ++ []

    abbrev needs_left : List ℕ
    needs_left = flat_map (need_text about conflict) conflict ++ end_left

    abbrev conflict_left : List ℕ
    conflict_left = line (codes "refute conflict") ++ (derivation_text about conflict ++ needs_left)

    abbrev refuted_left : List ℕ
    refuted_left = flat_map (refuted_text about kept) (given_up (count_of about) kept) ++ conflict_left

    abbrev product_left : List ℕ
    product_left = product_text about kept ++ refuted_left

    bounded : (xs : List ℕ) → RiseWithin 0 (count_of about) xs → All (λ x. x < 2 ^ 64) xs
    bounded xs h = rising-each (λ x. x < 2 ^ 64) 0 (count_of about) xs (λ x some inside. omega arith) h

    at-needs : Accepts both (flat_map (need_parts about conflict) conflict ++ end_parts about kept conflict) needs_left
    at-needs =
        accept-parts about both (need_parts about conflict) (need_text about conflict) conflict (end_parts about kept conflict) end_left
        (λ k d l. one-need both conflict (get_or conflict k d) (bounded conflict decided.conflict_rises k d l) (decided.needed k d l)) (last-line both)

    at-conflict : Accepts both (conflict_parts about conflict ++ end_parts about kept conflict) conflict_left
    at-conflict =
        accept-exactly about both (Derivation (clauses_at about conflict) ∷ (flat_map (need_parts about conflict) conflict ++ end_parts about kept conflict)) (codes "refute conflict")
        (derivation_text about conflict ++ needs_left) refl
        (found-derivation both conflict (flat_map (need_parts about conflict) conflict ++ end_parts about kept conflict) needs_left decided.conflict_unmet at-needs)

    at-product : Accepts both (explained_parts about kept conflict) product_left
    at-product =
        found-product both kept (flat_map (refuted_parts about kept) (given_up (count_of about) kept) ++ (conflict_parts about conflict ++ end_parts about kept conflict)) refuted_left decided.kept_met
        (accept-parts about both (refuted_parts about kept) (refuted_text about kept) (given_up (count_of about) kept) (conflict_parts about conflict ++ end_parts about kept conflict) conflict_left
        (λ k d l.
        one-refuted both kept (get_or (given_up (count_of about) kept) k d)
        (bounded (given_up (count_of about) kept) (RiseWithin-filter_range (λ i. not (has kept i)) 1 (count_of about) 0 (count_of about) (omega arith) (omega arith)) k d l) (decided.refuted k d l))
        at-conflict)

    abbrev conflict_line_left : List ℕ
    conflict_line_left = line (codes "conflict " ++ list_text conflict) ++ product_left

    abbrev kept_line_left : List ℕ
    kept_line_left = line (codes "kept " ++ list_text kept) ++ conflict_line_left

    listed : (word xs : List ℕ) → lacks 32 word ≡ true → bytes_eq word word ≡ true → RiseWithin 0 (count_of about) xs → list_in word (count_of about) (word ++ 32 ∷ list_text xs) ≡ Some xs
    listed word xs e same h = list-back (count_of about) n_fits word xs e same h

    pub explained-accepted : Judged (with_ends (explained_text about kept conflict)) both
    explained-accepted =
        ap (λ (text : List ℕ). judged_from_start about 1 (lines_of text))
        (regrouped (line (codes "certificate 1")) (line (codes "explained")) (line (codes "kept " ++ list_text kept)) (line (codes "conflict " ++ list_text conflict)) (product_text about kept)
        (flat_map (refuted_text about kept) (given_up (count_of about) kept)) (line (codes "refute conflict")) (derivation_text about conflict) (flat_map (need_text about conflict) conflict) (line (codes "end")))
        ∙ from-first both (line (codes "explained") ++ kept_line_left)
        (accept-line about both (Kind ∷ []) (Kept ∷ []) (codes "explained") kept_line_left refl refl
        (accept-line about both (Kept ∷ []) (ConflictBeside kept ∷ []) (codes "kept " ++ list_text kept) conflict_line_left (list-lacks (count_of about) n_fits kept decided.kept_rises)
        (ap (λ (read : Option (List ℕ)). step_at_list read (λ list. ConflictBeside list ∷ [])) (listed (codes "kept") kept refl refl decided.kept_rises))
        (accept-line about both (ConflictBeside kept ∷ []) (explained_parts about kept conflict) (codes "conflict " ++ list_text conflict) product_left (list-lacks (count_of about) n_fits conflict decided.conflict_rises)
        (ap (λ (read : Option (List ℕ)). step_at_list read (λ list. explained_parts about kept list ++ [])) (listed (codes "conflict") conflict refl refl decided.conflict_rises)
        ∙ ap Goes (append-nil (explained_parts about kept conflict)))
        at-product)))

  sets-accepted : (kept conflict : Option PositionSet) (found : Shown) → IfSome kept (λ key. key.n ≡ count_of about) → IfSome conflict (λ key. key.n ≡ count_of about) → shown_sets kept conflict ≡ Some found
      → IsDecided about.problem (count_of about) found → Judged (with_ends (parts_text about kept conflict)) found
  sets-accepted (Some kept) (Some conflict) found e f shows decided =
      let is : shown.Explained kept conflict ≡ found = same_Some (shown.Explained kept conflict) found shows in
      explained-accepted kept.members conflict.members (subst (IsDecided about.problem (count_of about)) (sym is) decided)
      ∙ ap (λ (n : ℕ). Yes (shown.Explained (key_over n kept.members) (key_over (count_of about) conflict.members))) (sym e)
      ∙ ap (λ (n : ℕ). Yes (shown.Explained kept (key_over n conflict.members))) (sym f)
      ∙ ap Yes is
  sets-accepted (Some kept) None found e f shows decided = absurd (none-some found shows)
  sets-accepted None conflict found e f shows decided = absurd (none-some found shows)

  pub outcome-accepted : (given : Outcome) (found : Shown) → IsOver (count_of about) given → shown_by given ≡ Some found → IsDecided about.problem (count_of about) found → Judged (text_of about given) found
  outcome-accepted outcome.Consistent found over shows decided =
      let is : shown.Consistent ≡ found = same_Some shown.Consistent found shows in
      consistent-accepted (subst (IsDecided about.problem (count_of about)) (sym is) decided) ∙ ap Yes is
  outcome-accepted outcome.Background found over shows decided =
      let is : shown.Background ≡ found = same_Some shown.Background found shows in
      background-accepted (subst (IsDecided about.problem (count_of about)) (sym is) decided) ∙ ap Yes is
  outcome-accepted (outcome.Explained parts) found over shows decided = sets-accepted parts.kept parts.conflict found (over.0) (over.1) shows decided
  outcome-accepted (outcome.LimitAt part key before) found over shows decided = absurd (none-some found shows)

-- ---- on a problem of a model and a configuration

module _ (sized : (problem : ClauseProblem) (key : PositionSet) (values : List Bool) → IsProblem problem → search_of problem key ≡ Some (Sat values) → length values ≡ problem.variables)
    (satisfied : (problem : ClauseProblem) (key : PositionSet) (values : List Bool) → IsProblem problem → search_of problem key ≡ Some (Sat values) → IsTrue (are_satisfied values (clauses_with problem key)))
    (products : AssignmentsAreProducts)
    (lines_of_unsat : (problem : ClauseProblem) (key : PositionSet) (lines : List (List Lit)) → search_of problem key ≡ Some (Unsat lines)
    → (attempt : ℕ) × (now : Standing) × (attempt ≤ problem.rungs) × IsReached problem key attempt now × (now.decisions ≡ []) × (lines ≡ now.learned ++ [] ∷ []))
    (derivation : (problem : ClauseProblem) (key : PositionSet) (lines : List (List Lit)) → search_of problem key ≡ Some (Unsat lines) → IsDerivation (clauses_with problem key) lines)
    (members : (problem : ClauseProblem) (key : PositionSet) (attempt : ℕ) (now : Standing) → IsReached problem key attempt now → All (λ line. ¬ line ≡ []) now.learned)
    (below : (problem : ClauseProblem) (key : PositionSet) (attempt : ℕ) (now : Standing) → IsReached problem key attempt now → All (All (IsBelow problem.variables)) now.learned)
    (model : FeatureModel) (config : Configuration) (allowance rungs : ℕ) (stated : IsStatedOf model config) (lawful : IsProblem (problem_of model config allowance rungs)) where
  abbrev subject : Subject
  subject = record { model = model; config = config; problem = problem_of model config allowance rungs }

  found-wanted : (positions : List ℕ) (values : List Bool) → searched subject positions ≡ Some (Sat values)
      → (is_wanted model config positions (features_in model values) ≡ true) × (length (features_in model values) ≡ length model.features)
  found-wanted positions values e =
      let key : PositionSet = key_over (count_of subject) positions in
      let wanted : IsWanted model config positions (features_in model values) =
      products model config allowance rungs key values stated (record { sized = sized subject.problem key values lawful e; satisfied = satisfied subject.problem key values lawful e }) in
      let set : List Bool = features_in model values in (
        all_true (is_product model set && list_all (truth set) (formulas_of config.musts)) (list_all (truth set) (formulas_at config positions))
            (all_true (is_product model set) (list_all (truth set) (formulas_of config.musts)) ((product_decided model set).1 wanted.product)
            (list_all-from_AllPass (truth set) (formulas_of config.musts) wanted.musts))
            (list_all-from_AllPass (truth set) (formulas_at config positions) wanted.requirements),
        wanted.product.sized,
      )

  found-derived : (positions : List ℕ) (lines : List (List Lit)) → searched subject positions ≡ Some (Unsat lines) → IsSearched subject.problem.variables (clauses_at subject positions) lines
  found-derived positions lines e =
      let key : PositionSet = key_over (count_of subject) positions in
      let at = lines_of_unsat subject.problem key lines e in
      record {
        learned = at.1.learned;
        lines_are = at.5;
        some = members subject.problem key at.0 at.1 at.3;
        below = below subject.problem key at.0 at.1 at.3;
        derived = subst (AreDerived (clauses_at subject positions)) at.5 (derivation subject.problem key lines e).0;
      }

  pub written-accepted : (given : Outcome) (found : Shown) → IsOver (length config.requirements) given → shown_by given ≡ Some found → IsDecided (problem_of model config allowance rungs) (length config.requirements) found
      → judge model config (problem_of model config allowance rungs) (certificate_text model config (problem_of model config allowance rungs) given) ≡ Yes found
  written-accepted given found over shows decided =
      let few : variables_of model config ≤ 1000000 = lawful.few_variables in
      let features : length model.features ≤ variables_of model config = lawful.few_features in
      let counted : length (problem_of model config allowance rungs).roots ≡ length config.requirements = roots-counted model config allowance rungs in
      let roots : length (problem_of model config allowance rungs).roots ≤ 4096 = lawful.few_roots in
      let requirements : length config.requirements ≤ 4096 = subst (λ (n : ℕ). n ≤ 4096) counted roots in
      outcome-accepted subject (omega arith) (omega arith) (omega arith) found-wanted found-derived given found over shows decided

  pub decided-accepted : (given : Outcome) → IsOver (length config.requirements) given → UnlessLimit given (IsDecided (problem_of model config allowance rungs) (length config.requirements))
      → UnlessLimit given (λ found. judge model config (problem_of model config allowance rungs) (certificate_text model config (problem_of model config allowance rungs) given) ≡ Yes found)
  decided-accepted outcome.Consistent over h = written-accepted outcome.Consistent shown.Consistent over refl h
  decided-accepted outcome.Background over h = written-accepted outcome.Background shown.Background over refl h
  decided-accepted (outcome.Explained parts) over h = (h.0, h.1, written-accepted (outcome.Explained parts) h.0 over h.1 h.2)
  decided-accepted (outcome.LimitAt part key before) over h = tt
