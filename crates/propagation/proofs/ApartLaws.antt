-- The rows of clauses of two literals when all are apart.
use Rattle.std.proofs.Common.{◌≡◌, ◌≢◌, ◌∙◌, ◌⊎◌, refl, sym, ap, subst, inl, inr, ⊎_elim, ℕ, ◌+◌, ◌-◌, ◌*◌, ◌/◌, ◌<◌, ◌≤◌, List, [], ◌∷◌, ◌++◌, length, get_or, take, drop, arith}
use Rattle.std.specs.Prelude.{All, Contains}
use Rattle.std.proofs.Math.ListN.{get_or-append}
use Rattle.std.proofs.Math.Seq.{drop-append_seam, take-length}
use Rattle.std.proofs.lemmas.Bool.{cases_eq, cases_lt}
use Rattle.std.proofs.lemmas.List.{get_or_past, get_or_push, length-append, length_push, length-drop, drop-append-le, take-append-le}
use Rattle.std.proofs.lemmas.List.Elements.{All-contains, Contains-get_or}
use Rattle.lists.proofs.Members.{first, none}
use Rattle.clauses.specs.declared.literal.Lit.{Lit}
use Rattle.clauses.specs.Clause.{negative_of}
use Rattle.clauses.specs.Problem.{IsBelow}
use Rattle.propagation.specs.inside.Pairing.{ArePaired, IsOfTwo, Pairing, row_of, start_in}
use Rattle.propagation.specs.inside.Sorting.{AreListed, IsListed, IsPair, IsRow, IsSorted}
use Rattle.propagation.specs.inside.Trails.{code_of}
use Rattle.propagation.specs.inside.Watching.{AreInside, AreWatches, IsApart, partner, watched_at}
use Rattle.propagation.proofs.CodeLaws.{code-below, code-same}
use Rattle.propagation.proofs.ChainLaws.{chain-below}
use Rattle.propagation.proofs.ValueLaws.{same_or_not}
use Rattle.propagation.proofs.VisitLaws.{of-two}
use Rattle.propagation.proofs.WatchLaws.{partner-back, partner-clause, partner-inside, row-plain}

-- ---- one row more

pub listed-start : (clauses : List (List Lit)) (watched : List Lit) → AreListed clauses watched 0 (record { starts = 0 ∷ []; others = [] })
listed-start clauses watched = record { sized = refl; ends = refl; rows = (λ slot i. absurd (omega arith)); listed = (λ below i. absurd (omega arith)) }

module _ (clauses : List (List Lit)) (watched : List Lit) (slot : ℕ) (starts : List ℕ) (others row : List Lit) (are : AreListed clauses watched slot (record { starts = starts; others = others })) (is_row : IsRow clauses watched slot row) where
  abbrev longer : Pairing
  longer = record { starts = starts ++ length (others ++ row) ∷ []; others = others ++ row }

  start-old : (k : ℕ) → k ≤ slot → get_or (starts ++ length (others ++ row) ∷ []) k 0 ≡ get_or starts k 0
  start-old k i = let s = are.sized in get_or-append starts (length (others ++ row) ∷ []) 0 k (omega arith)

  start-new : get_or (starts ++ length (others ++ row) ∷ []) (slot + 1) 0 ≡ length (others ++ row)
  start-new = get_or_push starts (length (others ++ row)) 0 (slot + 1) are.sized

  row-old : (k : ℕ) → k < slot → row_of longer k ≡ row_of (record { starts = starts; others = others }) k
  row-old k i =
      let s = get_or starts k 0 in
      let e = get_or starts (k + 1) 0 in
      let size = are.sized in
      let fits = are.rows k (omega arith) in
      let rise = fits.0 in
      let within = fits.1 in
      let low : s ≤ length others = omega arith in
      let left = length-drop s others in
      ap (λ n. take (get_or (starts ++ length (others ++ row) ∷ []) (k + 1) 0 - n) (drop n (others ++ row))) (start-old k (omega arith))
      ∙ ap (λ n. take (n - s) (drop s (others ++ row))) (start-old (k + 1) (omega arith))
      ∙ ap (take (e - s)) (drop-append-le s others row low)
      ∙ take-append-le (e - s) (drop s others) row (omega arith)

  row-new : row_of longer slot ≡ row
  row-new =
      let size = length-append others row in
      let wide : length (others ++ row) - length others ≡ length row = omega arith in
      ap (λ n. take (get_or (starts ++ length (others ++ row) ∷ []) (slot + 1) 0 - n) (drop n (others ++ row))) (start-old slot (omega arith) ∙ are.ends)
      ∙ ap (λ n. take (n - length others) (drop (length others) (others ++ row))) start-new
      ∙ ap (λ n. take n (drop (length others) (others ++ row))) wide
      ∙ ap (take (length row)) (drop-append_seam others row)
      ∙ take-length row

  pub listed-next : AreListed clauses watched (slot + 1) longer
  listed-next = record {
    sized = (let a = length_push starts (length (others ++ row)) in let b = are.sized in omega arith);
    ends = start-new;
    rows = λ k i.
        let size = are.sized in
        let one = length_push starts (length (others ++ row)) in
        let grown = length-append others row in
        ⊎_elim
        (λ (e : k ≡ slot).
        let a : get_or (starts ++ length (others ++ row) ∷ []) k 0 ≡ length others = start-old k (omega arith) ∙ ap (λ n. get_or starts n 0) e ∙ are.ends in
        let b : get_or (starts ++ length (others ++ row) ∷ []) (k + 1) 0 ≡ length (others ++ row) = ap (λ n. get_or (starts ++ length (others ++ row) ∷ []) (n + 1) 0) e ∙ start-new in (
          let x : get_or (starts ++ length (others ++ row) ∷ []) k 0 ≤ get_or (starts ++ length (others ++ row) ∷ []) (k + 1) 0 = omega arith in x,
          let y : get_or (starts ++ length (others ++ row) ∷ []) (k + 1) 0 ≤ length (others ++ row) = omega arith in y,
        ))
        (λ (ne : ¬ k ≡ slot).
        let low : k < slot = omega arith in
        let fits = are.rows k (omega arith) in
        let rise = fits.0 in
        let within = fits.1 in
        let a = start-old k (omega arith) in
        let b = start-old (k + 1) (omega arith) in (
          let x : get_or (starts ++ length (others ++ row) ∷ []) k 0 ≤ get_or (starts ++ length (others ++ row) ∷ []) (k + 1) 0 = omega arith in x,
          let y : get_or (starts ++ length (others ++ row) ∷ []) (k + 1) 0 ≤ length (others ++ row) = omega arith in y,
        ))
        (cases_eq k slot);
    listed = λ k i.
        ⊎_elim
        (λ (e : k ≡ slot). subst (λ n. IsRow clauses watched n (row_of longer n)) (sym e) (subst (IsRow clauses watched slot) (sym row-new) is_row))
        (λ (ne : ¬ k ≡ slot). let low : k < slot = omega arith in subst (IsRow clauses watched k) (sym (row-old k low)) (are.listed k low))
        (cases_eq k slot);
  }

-- ---- before the first slot

module _ (clauses : List (List Lit)) (variables : ℕ) (pairs : Pairing) (watched : List Lit) (heads next : List ℕ) (are : AreWatches variables pairs watched heads next) (plain : pairs.others ≡ []) where
  not-last : (e : ℕ) → e < length watched → ¬ are.place e ≡ 2 * variables + 1
  not-last e i p =
      ⊎_elim
      (λ (a : are.place e ≡ code_of (watched_at watched e)).
      let low = code-below variables (watched_at watched e) (All-contains (IsBelow variables) watched (watched_at watched e) are.below (Contains-get_or watched e (negative_of 0) i)) in
      absurd (omega arith))
      (λ (b : IsApart variables pairs watched are.place e). absurd (row-plain pairs plain _ _ b.listed))
      (are.watching e i)

  last-empty : are.rows (2 * variables + 1) ≡ []
  last-empty = by_row (are.rows (2 * variables + 1)) refl
    where
      by_row : (row : List ℕ) → are.rows (2 * variables + 1) ≡ row → are.rows (2 * variables + 1) ≡ []
      by_row [] e = e
      by_row (y ∷ ys) e =
          let size = are.slots in
          let here : Contains (are.rows (2 * variables + 1)) y = subst (λ r. Contains r y) (sym e) (first y ys) in
          let low = All-contains (λ x. x < length next) (are.rows (2 * variables + 1)) y (chain-below next (get_or heads (2 * variables + 1) 0) (are.rows (2 * variables + 1)) (are.chains.chained (2 * variables + 1) (omega arith))) here in
          let s = are.sized in
          absurd (not-last y (omega arith) (are.chains.placed (2 * variables + 1) y (omega arith) here))

  pub sorted-start : IsSorted clauses variables watched 0 0 heads next
  sorted-start = record {
    rows = are.rows;
    place = are.place;
    chains = are.chains;
    sized = are.sized;
    slots = are.slots;
    aside = ap length last-empty;
    at = λ e i.
        ⊎_elim
        (λ (a : are.place e ≡ code_of (watched_at watched e)). inl (a, (λ p. let low : 0 ≤ code_of (watched_at watched e) = omega arith in low)))
        (λ (b : IsApart variables pairs watched are.place e). absurd (row-plain pairs plain _ _ b.listed))
        (are.watching e i);
  }

-- ---- behind the last slot

module _ (clauses : List (List Lit)) (variables : ℕ) (watched : List Lit) (pairs : Pairing) (inside : AreInside clauses watched) (below : All (IsBelow variables) watched) (are : AreListed clauses watched (2 * variables) pairs) where
  low-code : (e : ℕ) → e < length watched → code_of (watched_at watched e) < 2 * variables
  low-code e i = let low = code-below variables (watched_at watched e) (All-contains (IsBelow variables) watched (watched_at watched e) below (Contains-get_or watched e (negative_of 0) i)) in omega arith

  other-in : (e : ℕ) → e < length watched → partner e < length watched
  other-in e i = let s = inside.0 in let p = partner-inside (length clauses) e (omega arith) in omega arith

  pair-partner : (e : ℕ) → IsPair clauses watched e → IsPair clauses watched (partner e)
  pair-partner e pair = (ap (λ k. length (get_or clauses k [])) (partner-clause e) ∙ pair.0, (λ s. pair.1 (sym (s ∙ ap (watched_at watched) (partner-back e)))))

  pub sorted-watches : (count : ℕ) (heads next : List ℕ) → IsSorted clauses variables watched (2 * variables) count heads next → AreWatches variables pairs watched heads next
  sorted-watches count heads next is = record {
    rows = is.rows;
    place = is.place;
    chains = is.chains;
    sized = is.sized;
    slots = is.slots;
    below = below;
    watching = λ e i.
        ⊎_elim
        (λ (a : (is.place e ≡ code_of (watched_at watched e)) × (IsPair clauses watched e → 2 * variables ≤ code_of (watched_at watched e))). inl a.0)
        (λ (b : (is.place e ≡ 2 * variables + 1) × IsPair clauses watched e × (code_of (watched_at watched e) < 2 * variables)).
        inr
        (record {
          here = b.0;
          there = partner-last e i b.1;
          within = other-in e i;
          listed = (are.listed (code_of (watched_at watched e)) b.2).whole e i refl b.1;
        }))
        (is.at e i);
  }
    where
      partner-last : (e : ℕ) → e < length watched → IsPair clauses watched e → is.place (partner e) ≡ 2 * variables + 1
      partner-last e i pair =
          ⊎_elim
          (λ (a : (is.place (partner e) ≡ code_of (watched_at watched (partner e))) × (IsPair clauses watched (partner e) → 2 * variables ≤ code_of (watched_at watched (partner e)))).
          let high = a.1 (pair-partner e pair) in
          let low = low-code (partner e) (other-in e i) in
          absurd (omega arith))
          (λ (b : (is.place (partner e) ≡ 2 * variables + 1) × IsPair clauses watched (partner e) × (code_of (watched_at watched (partner e)) < 2 * variables)). b.0)
          (is.at (partner e) (other-in e i))

  row-beyond : (slot : ℕ) (l : Lit) → 2 * variables ≤ slot → ¬ Contains (row_of pairs slot) l
  row-beyond slot l high m =
      let size = are.sized in
      let ends : start_in pairs (slot + 1) ≡ 0 = get_or_past pairs.starts (slot + 1) 0 (omega arith) in
      let nought : start_in pairs (slot + 1) - start_in pairs slot ≡ 0 = omega arith in
      none l (subst (λ n. Contains (take n (drop (start_in pairs slot) pairs.others)) l) nought m)

  either : (clause : List Lit) (one other : Lit) → length clause ≡ 2 → Contains clause one → Contains clause other → one ≢ other → (l : Lit) → Contains clause l → (l ≡ one) ⊎ (l ≡ other)
  either clause one other size one_in other_in ne l m = ⊎_elim (λ (e : l ≡ other). inr e) (λ (n : ¬ l ≡ other). inl (of-two clause size one other one_in other_in ne l m n)) (same_or_not l other)

  pub listed-paired : ArePaired clauses pairs
  listed-paired one other m =
      ⊎_elim
      (λ (low : code_of one < 2 * variables). here ((are.listed (code_of one) low).sound other m))
      (λ (high : 2 * variables ≤ code_of one). absurd (row-beyond (code_of one) other high m))
      (cases_lt (code_of one) (2 * variables))
    where
      here : IsListed clauses watched (code_of one) other → (clause : List Lit) × Contains clauses clause × IsOfTwo clause one other
      here is =
          let e = is.entry in
          let i = is.within in
          let s = inside.0 in
          let clause = get_or clauses (e / 2) [] in
          let is_one : watched_at watched e ≡ one = code-same (watched_at watched e) one is.watches in
          let one_in : Contains clause one = subst (Contains clause) is_one (inside.1 e i) in
          let other_in : Contains clause other = subst (Contains clause) is.other_is (subst (λ k. Contains (get_or clauses k []) (watched_at watched (partner e))) (partner-clause e) (inside.1 (partner e) (other-in e i))) in
          let ne : one ≢ other = λ x. is.is_pair.1 (is_one ∙ x ∙ sym is.other_is) in (
            clause,
            Contains-get_or clauses (e / 2) [] (omega arith),
            record { one_in = one_in; other_in = other_in; only = either clause one other is.is_pair.0 one_in other_in ne },
          )
