-- Setting the clauses of two literals apart.
use Rattle.std.proofs.Common.{◌≡◌, ◌∙◌, ◌⊎◌, refl, sym, ap, subst, inl, inr, ⊎_elim, ℕ, ◌+◌, ◌*◌, ◌<◌, ◌≤◌, List, [], ◌∷◌, ◌++◌, length, get_or, set, append_assoc, arith}
use Rattle.std.specs.Prelude.{All, Contains, ◌≢◌}
use Rattle.std.proofs.lemmas.Bool.{cases_eq}
use Rattle.std.proofs.lemmas.List.{append-nil, length-set, length_push}
use Rattle.std.proofs.lemmas.List.Elements.{All-cons, All-contains, Contains-get_or, Contains-push, Contains-push_cases, Contains-append_left}
use Rattle.lists.proofs.Members.{first, none}
use Rattle.clauses.specs.declared.literal.Lit.{Lit}
use Rattle.clauses.specs.Clause.{negative_of}
use Rattle.clauses.specs.Problem.{IsBelow}
use Rattle.propagation.specs.inside.Sorting.{HasRow, IsListed, IsPair, IsSent, IsSorted, IsSortedAt}
use Rattle.propagation.specs.inside.Trails.{code_of}
use Rattle.propagation.specs.inside.Watching.{AreChains, nothing, partner, watched_at}
use Rattle.propagation.proofs.CodeLaws.{code-below}
use Rattle.propagation.proofs.ChainLaws.{chain-below, counted, chain_count, place-same, place-other, row-empty, row-other, row-same, row-some, shift-chains, shifted, shifted_place, head-inside, with_row}
use Rattle.propagation.proofs.ChainMoves.{rename-chains, swapped, swapped_place, swapped-spare, swapped-other, renamed-size}
use Rattle.propagation.proofs.RoomLaws.{distinct-few}

module _ (clauses : List (List Lit)) (variables : ℕ) (watched : List Lit) (slot : ℕ) (others0 : List Lit) where
  abbrev spare : ℕ
  spare = 2 * variables

  abbrev last : ℕ
  last = 2 * variables + 1

  -- an entry of the slot waits, is put aside, or is apart with its partner's literal in the row
  abbrev pub IsAsideHere : (ℕ → ℕ) → ℕ → Type 0
  IsAsideHere place e = (place e ≡ 2 * variables) × (code_of (watched_at watched e) ≡ slot) × ¬ IsPair clauses watched e

  abbrev pub IsApartHere : (ℕ → ℕ) → List Lit → ℕ → Type 0
  IsApartHere place row e =
      (place e ≡ 2 * variables + 1) × IsPair clauses watched e × ((code_of (watched_at watched e) < slot) ⊎ ((code_of (watched_at watched e) ≡ slot) × Contains row (watched_at watched (partner e))))

  abbrev pub IsWaiting : (ℕ → ℕ) → ℕ → Type 0
  IsWaiting place e = (place e ≡ code_of (watched_at watched e)) × (IsPair clauses watched e → slot ≤ code_of (watched_at watched e))

  abbrev pub IsPlaced : (ℕ → ℕ) → List Lit → ℕ → Type 0
  IsPlaced place row e = IsWaiting place e ⊎ (IsAsideHere place e ⊎ IsApartHere place row e)

  pub record IsSorting (heads next : List ℕ) (others : List Lit) : Type 0 where
    pub rows : ℕ → List ℕ
    pub place : ℕ → ℕ
    pub chains : AreChains heads next rows place
    pub sized : length next ≡ length watched
    pub slots : length heads ≡ 2 * variables + 2
    pub aside : length (rows (2 * variables + 1)) ≡ length others
    pub row : List Lit
    pub grows : others ≡ others0 ++ row
    pub sound : (other : Lit) → Contains row other → IsListed clauses watched slot other
    pub at : (e : ℕ) → e < length watched → IsPlaced place row e

  pub sorting-start : (heads next : List ℕ) → IsSorted clauses variables watched slot (length others0) heads next → IsSorting heads next others0
  sorting-start heads next is = record {
    rows = is.rows;
    place = is.place;
    chains = is.chains;
    sized = is.sized;
    slots = is.slots;
    aside = is.aside;
    row = [];
    grows = sym (append-nil others0);
    sound = λ o m. absurd (none o m);
    at = λ e i. ⊎_elim
        (λ (a : IsWaiting is.place e). inl a)
        (λ (b : (is.place e ≡ 2 * variables + 1) × IsPair clauses watched e × (code_of (watched_at watched e) < slot)). inr (inr (b.0, b.1, inl b.2)))
        (is.at e i);
  }

  module _ (slot_in : slot < 2 * variables) (heads next : List ℕ) (others : List Lit) (is : IsSorting heads next others) (few : length next ≤ nothing) where
    pub slot-in : slot < length heads
    slot-in = let s = is.slots in omega arith

    pub spare-in : spare < length heads
    spare-in = let s = is.slots in omega arith

    last-in : last < length heads
    last-in = let s = is.slots in omega arith

    -- ---- a step
    module _ (some : get_or heads slot 0 ≢ nothing) where
      abbrev entry : ℕ
      entry = get_or heads slot 0

      tail : (entries : List ℕ) × (is.rows slot ≡ entry ∷ entries)
      tail = row-some heads next is.rows is.place is.chains slot slot-in some

      pub entry-next : entry < length next
      entry-next = head-inside heads next is.rows is.place is.chains slot slot-in some

      pub entry-watched : entry < length watched
      entry-watched = let i = entry-next in let s = is.sized in omega arith

      there : Contains (is.rows slot) entry
      there = subst (λ r. Contains r entry) (sym tail.1) (first entry tail.0)

      entry-place : is.place entry ≡ slot
      entry-place = is.chains.placed slot entry slot-in there

      watches-it : code_of (watched_at watched entry) ≡ slot
      watches-it =
          ⊎_elim
          (λ (a : IsWaiting is.place entry). sym a.0 ∙ entry-place)
          (λ (r : IsAsideHere is.place entry ⊎ IsApartHere is.place is.row entry).
          ⊎_elim (λ (b : IsAsideHere is.place entry). b.1) (λ (b : IsApartHere is.place is.row entry). let p = entry-place in let q = b.0 in absurd (omega arith)) r)
          (is.at entry entry-watched)

      -- there is room for one more that is apart
      pub room-left : length others < length watched
      room-left =
          let row : List ℕ = entry ∷ is.rows last in
          let once : ¬ Contains (is.rows last) entry = λ m. let p = is.chains.placed last entry last-in m in let q = entry-place in omega arith in
          let below = chain-below next (get_or heads last 0) (is.rows last) (is.chains.chained last last-in) in
          let few' = distinct-few (length next) row (once, is.chains.once last last-in) (All-cons (λ e. e < length next) entry (is.rows last) entry-next below) in
          let a = is.aside in
          let s = is.sized in
          omega arith

      module _ (to : ℕ) (to_in : to < length heads) (apart : slot ≢ to) where
        abbrev heads' : List ℕ
        heads' = set (set heads slot (get_or next entry 0)) to entry

        abbrev next' : List ℕ
        next' = set next entry (get_or heads to 0)

        abbrev rows' : ℕ → List ℕ
        rows' = shifted heads next is.rows is.place is.chains slot to slot-in to_in apart entry tail.0 tail.1

        abbrev place' : ℕ → ℕ
        place' = shifted_place heads next is.rows is.place is.chains slot to slot-in to_in apart entry tail.0 tail.1

        chains' : AreChains heads' next' rows' place'
        chains' = shift-chains heads next is.rows is.place is.chains slot to slot-in to_in apart entry tail.0 tail.1

        sized' : length next' ≡ length watched
        sized' = length-set next entry (get_or heads to 0) ∙ is.sized

        slots' : length heads' ≡ 2 * variables + 2
        slots' = length-set (set heads slot (get_or next entry 0)) to entry ∙ length-set heads slot (get_or next entry 0) ∙ is.slots

        smaller : chain_count next' (length next') (get_or heads' slot 0) < chain_count next (length next) (get_or heads slot 0)
        smaller =
            let size : length next' ≡ length next = length-set next entry (get_or heads to 0) in
            let heads_size : length heads' ≡ length heads = length-set (set heads slot (get_or next entry 0)) to entry ∙ length-set heads slot (get_or next entry 0) in
            let new = counted heads' next' _ _ chains' slot (let f = slot-in in omega arith) (omega arith) in
            let old = counted heads next is.rows is.place is.chains slot slot-in few in
            let here : length (rows' slot) ≡ length tail.0 = ap length (row-same (with_row is.rows to (entry ∷ is.rows to)) slot tail.0 slot refl) in
            let was = ap length tail.1 in
            omega arith

        -- the entries but this one stand as before, in a longer row
        rest : (longer : List Lit) → ((l : Lit) → Contains is.row l → Contains longer l) → IsPlaced place' longer entry → (e : ℕ) → e < length watched → IsPlaced place' longer e
        rest longer up here e i =
            ⊎_elim
            (λ (x : e ≡ entry). subst (IsPlaced place' longer) (sym x) here)
            (λ (ne : ¬ e ≡ entry).
            let stays = place-other is.place entry to e ne in
            ⊎_elim
            (λ (a : IsWaiting is.place e). inl (stays ∙ a.0, a.1))
            (λ (r : IsAsideHere is.place e ⊎ IsApartHere is.place is.row e).
            inr
            (⊎_elim
            (λ (b : IsAsideHere is.place e). inl (stays ∙ b.0, b.1, b.2))
            (λ (b : IsApartHere is.place is.row e).
            inr (
              stays ∙ b.0,
              b.1,
              ⊎_elim
                  (λ (low : code_of (watched_at watched e) < slot). inl low)
                  (λ (m : (code_of (watched_at watched e) ≡ slot) × Contains is.row (watched_at watched (partner e))). inr (m.0, up (watched_at watched (partner e)) m.1))
                  b.2,
            ))
            r))
            (is.at e i))
            (cases_eq e entry)

      step-aside : ¬ IsPair clauses watched entry → (apart : slot ≢ spare) → IsSorting (heads' spare spare-in apart) (next' spare spare-in apart) others
      step-aside not_pair apart = record {
        rows = rows' spare spare-in apart;
        place = place' spare spare-in apart;
        chains = chains' spare spare-in apart;
        sized = sized' spare spare-in apart;
        slots = slots' spare spare-in apart;
        aside =
            ap length (row-other (with_row is.rows spare (entry ∷ is.rows spare)) slot tail.0 last (λ e. omega arith) ∙ row-other is.rows spare (entry ∷ is.rows spare) last (λ e. omega arith)) ∙ is.aside;
        row = is.row;
        grows = is.grows;
        sound = is.sound;
        at = rest spare spare-in apart is.row (λ l m. m) (inr (inl (place-same is.place entry spare entry refl, watches-it, not_pair)));
      }

      step-apart' : IsPair clauses watched entry → (apart : slot ≢ last) → IsSorting (heads' last last-in apart) (next' last last-in apart) (others ++ watched_at watched (partner entry) ∷ [])
      step-apart' is_pair apart = record {
        rows = rows' last last-in apart;
        place = place' last last-in apart;
        chains = chains' last last-in apart;
        sized = sized' last last-in apart;
        slots = slots' last last-in apart;
        aside =
            (let a = ap length (row-other (with_row is.rows last (entry ∷ is.rows last)) slot tail.0 last (λ e. apart (sym e)) ∙ row-same is.rows last (entry ∷ is.rows last) last refl) in
            let b = is.aside in
            let c = length_push others (watched_at watched (partner entry)) in
            omega arith);
        row = is.row ++ watched_at watched (partner entry) ∷ [];
        grows = ap (λ ls. ls ++ watched_at watched (partner entry) ∷ []) is.grows ∙ append_assoc others0 is.row (watched_at watched (partner entry) ∷ []);
        sound = λ o m. ⊎_elim
            (λ (old : Contains is.row o). is.sound o old)
            (λ (new : watched_at watched (partner entry) ≡ o). record { entry = entry; within = entry-watched; watches = watches-it; other_is = new; is_pair = is_pair })
            (Contains-push_cases is.row (watched_at watched (partner entry)) o m);
        at = rest last last-in apart (is.row ++ watched_at watched (partner entry) ∷ []) (λ l m. Contains-append_left is.row (watched_at watched (partner entry) ∷ []) l m)
            (inr (inr (place-same is.place entry last entry refl, is_pair, inr (watches-it, Contains-push is.row (watched_at watched (partner entry))))));
      }

      module _ (now : List Lit) (to : ℕ) (sent : IsSent clauses watched entry spare others now to) where
        slot-spare : slot ≢ spare
        slot-spare e = omega arith

        slot-last : slot ≢ last
        slot-last e = omega arith

        pub sent-inside : to < length heads
        sent-inside =
            ⊎_elim
            (λ (a : (to ≡ spare) × (now ≡ others) × ¬ IsPair clauses watched entry). subst (λ k. k < length heads) (sym a.0) spare-in)
            (λ (b : (to ≡ last) × (now ≡ others ++ watched_at watched (partner entry) ∷ []) × IsPair clauses watched entry). subst (λ k. k < length heads) (sym b.0) last-in)
            sent

        pub sent-apart : slot ≢ to
        sent-apart e =
            ⊎_elim
            (λ (a : (to ≡ spare) × (now ≡ others) × ¬ IsPair clauses watched entry). slot-spare (e ∙ a.0))
            (λ (b : (to ≡ last) × (now ≡ others ++ watched_at watched (partner entry) ∷ []) × IsPair clauses watched entry). slot-last (e ∙ b.0))
            sent

        pub sent-sorting : IsSorting (set (set heads slot (get_or next entry 0)) to entry) (set next entry (get_or heads to 0)) now
        sent-sorting =
            ⊎_elim
            (λ (a : (to ≡ spare) × (now ≡ others) × ¬ IsPair clauses watched entry).
            subst (λ k. IsSorting (set (set heads slot (get_or next entry 0)) k entry) (set next entry (get_or heads k 0)) now) (sym a.0)
            (subst (λ ls. IsSorting (set (set heads slot (get_or next entry 0)) spare entry) (set next entry (get_or heads spare 0)) ls) (sym a.1) (step-aside a.2 slot-spare)))
            (λ (b : (to ≡ last) × (now ≡ others ++ watched_at watched (partner entry) ∷ []) × IsPair clauses watched entry).
            subst (λ k. IsSorting (set (set heads slot (get_or next entry 0)) k entry) (set next entry (get_or heads k 0)) now) (sym b.0)
            (subst (λ ls. IsSorting (set (set heads slot (get_or next entry 0)) last entry) (set next entry (get_or heads last 0)) ls) (sym b.1) (step-apart' b.2 slot-last)))
            sent

        pub sent-smaller : chain_count (set next entry (get_or heads to 0)) (length (set next entry (get_or heads to 0))) (get_or (set (set heads slot (get_or next entry 0)) to entry) slot 0) < chain_count next (length next) (get_or heads slot 0)
        sent-smaller = smaller to sent-inside sent-apart

    -- ---- the end of the chain
    module _ (ends : get_or heads slot 0 ≡ nothing) where
      empty : is.rows slot ≡ []
      empty = row-empty heads next is.rows is.place is.chains slot slot-in few ends

      slot-spare' : slot ≢ spare
      slot-spare' e = omega arith

      abbrev place-after : ℕ → ℕ
      place-after = swapped_place heads next is.rows is.place is.chains slot spare slot-in spare-in slot-spare' empty

      not-here : (e : ℕ) → e < length watched → ¬ is.place e ≡ slot
      not-here e i p = none e (subst (λ r. Contains r e) empty (subst (λ s. Contains (is.rows s) e) p (is.chains.full e (let s = is.sized in omega arith))))

      at-end : (below : All (IsBelow variables) watched) (e : ℕ) → e < length watched → IsPlaced is.place is.row e → IsSortedAt clauses variables watched (slot + 1) place-after e
      at-end below e i (inl a) =
          let low = code-below variables (watched_at watched e) (All-contains (IsBelow variables) watched (watched_at watched e) below (Contains-get_or watched e (negative_of 0) i)) in
          let at = a.0 in
          inl (
            swapped-other heads next is.rows is.place is.chains slot spare slot-in spare-in slot-spare' empty e (λ x. omega arith) ∙ at,
            (λ p. let le = a.1 p in let ne : ¬ code_of (watched_at watched e) ≡ slot = λ x. not-here e i (at ∙ x) in omega arith),
          )
      at-end below e i (inr (inl b)) = inl (swapped-spare heads next is.rows is.place is.chains slot spare slot-in spare-in slot-spare' empty e b.0 ∙ sym b.1, (λ p. absurd (b.2 p)))
      at-end below e i (inr (inr b)) =
          let at = b.0 in
          inr (
            swapped-other heads next is.rows is.place is.chains slot spare slot-in spare-in slot-spare' empty e (λ x. omega arith) ∙ at,
            b.1,
            ⊎_elim
                (λ (low : code_of (watched_at watched e) < slot). let one : code_of (watched_at watched e) < slot + 1 = omega arith in one)
                (λ (m : (code_of (watched_at watched e) ≡ slot) × Contains is.row (watched_at watched (partner e))). let same = m.0 in let one : code_of (watched_at watched e) < slot + 1 = omega arith in one)
                b.2,
          )

      pub end-sorted : All (IsBelow variables) watched → IsSorted clauses variables watched (slot + 1) (length others) (set (set heads slot (get_or heads spare 0)) spare nothing) next
      end-sorted below = record {
        rows = swapped heads next is.rows is.place is.chains slot spare slot-in spare-in slot-spare' empty;
        place = place-after;
        chains = rename-chains heads next is.rows is.place is.chains slot spare slot-in spare-in slot-spare' empty;
        sized = is.sized;
        slots = renamed-size heads next is.rows is.place is.chains slot spare slot-in spare-in slot-spare' empty ∙ is.slots;
        aside = ap length (row-other (with_row is.rows slot (is.rows spare)) spare [] last (λ e. omega arith) ∙ row-other is.rows slot (is.rows spare) last (λ e. omega arith)) ∙ is.aside;
        at = λ e i. at-end below e i (is.at e i);
      }

      pub end-row : HasRow clauses watched slot others0 others
      end-row = record {
        row = is.row;
        grows = is.grows;
        is_row = record {
          sound = is.sound;
          whole = λ e i watches pair.
              ⊎_elim
              (λ (a : IsWaiting is.place e). absurd (not-here e i (a.0 ∙ watches)))
              (λ (r : IsAsideHere is.place e ⊎ IsApartHere is.place is.row e).
              ⊎_elim
              (λ (b : IsAsideHere is.place e). absurd (b.2 pair))
              (λ (b : IsApartHere is.place is.row e).
              ⊎_elim
              (λ (low : code_of (watched_at watched e) < slot). absurd (omega arith))
              (λ (m : (code_of (watched_at watched e) ≡ slot) × Contains is.row (watched_at watched (partner e))). m.1)
              b.2)
              r)
              (is.at e i);
        };
      }
