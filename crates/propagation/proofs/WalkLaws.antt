-- The walk along the chain of a literal that is false now.
use Rattle.std.proofs.Common.{◌≡◌, ◌∙◌, ◌⊎◌, refl, sym, ap, subst, inl, inr, ⊎_elim, ℕ, ◌+◌, ◌*◌, ◌/◌, ◌<◌, ◌≤◌, List, [], ◌∷◌, ◌++◌, length, get_or, set, append_assoc, arith}
use Rattle.std.specs.Prelude.{All, Any, Contains, ◌≢◌, Some}
use Rattle.std.proofs.lemmas.Bool.{cases_eq, false≢true}
use Rattle.std.proofs.lemmas.List.{append-nil, get_or-set_same, get_or-set_other, length-append, length-set}
use Rattle.std.proofs.lemmas.List.Elements.{All-contains, All-set, Contains-append_left, Contains-append_right, Contains-get_or, Contains-push_cases}
use Rattle.lists.specs.Distinct.{IsDistinct}
use Rattle.lists.proofs.Members.{first, none}
use Rattle.clauses.specs.declared.literal.Lit.{Lit}
use Rattle.clauses.specs.Clause.{negation, negative_of}
use Rattle.clauses.specs.Closure.{closure}
use Rattle.clauses.specs.Problem.{IsBelow}
use Rattle.clauses.proofs.LeastLaws.{closure-closed}
use Rattle.clauses.proofs.Literals.{has-from}
use Rattle.propagation.specs.inside.Pairing.{Pairing, row_of}
use Rattle.propagation.specs.inside.Trails.{IsOneSigned, Trailing, code_of}
use Rattle.propagation.specs.declared.visits.Visit.TheVariants as visit
use Rattle.propagation.specs.inside.Visits.{IsReplacement, IsStep}
use Rattle.propagation.specs.inside.Watching.{AreChains, AreCovered, AreInside, AreKept, AreWatches, IsApart, IsCovered, IsChain, IsGrowth, IsRefuted, IsRelinked, IsSubset, nothing, partner, watched_at}
use Rattle.propagation.proofs.ValueLaws.{Any-member}
use Rattle.propagation.proofs.CodeLaws.{code-below, code-same}
use Rattle.propagation.proofs.ChainLaws.{chain-below, chain-counted, chain_count, place-same, place-other, row-same, with_row}
use Rattle.propagation.proofs.RoomLaws.{distinct-few}
use Rattle.propagation.proofs.UnlinkLaws.{IsLast, last-next, middle-out, relink-behind, relink-chains, relink-sizes, relinked as relinked_rows, relinked_place}
use Rattle.propagation.proofs.WatchLaws.{apart-same, partner-back, partner-clause, partner-inside, partner-other}

-- ---- growth

module _ (clauses : List (List Lit)) where
  pub growth-none : (old : Trailing) → IsGrowth clauses old old
  growth-none old = record { same = refl; more = []; grows = sym (append-nil old.literals); sound = λ all part s. s }

  pub growth-then : (a b c : Trailing) → IsGrowth clauses a b → IsGrowth clauses b c → IsGrowth clauses a c
  growth-then a b c f g = record {
    same = g.same ∙ f.same;
    more = f.more ++ g.more;
    grows = g.grows ∙ ap (λ ls. ls ++ g.more) f.grows ∙ append_assoc a.literals f.more g.more;
    sound = λ all part s. g.sound all part (f.sound all part s);
  }

  pub growth-within : (a b : Trailing) → IsGrowth clauses a b → IsSubset a.literals b.literals
  growth-within a b g l m = subst (λ ls. Contains ls l) (sym g.grows) (Contains-append_left a.literals g.more l m)

  -- a literal that a clause forces
  pub growth-forced : (old new : Trailing) (clause : List Lit) (l : Lit) → Contains clauses clause → Contains clause l → new ≡ record old { literals = old.literals ++ l ∷ [] }
      → ((x : Lit) → Contains clause x → x ≢ l → Contains old.literals (negation x)) → IsGrowth clauses old new
  growth-forced old new clause l one inside e others = record {
    same = ap (λ (t : Trailing). t.variables) e;
    more = l ∷ [];
    grows = ap (λ (t : Trailing). t.literals) e;
    sound = λ all part s x m.
        ⊎_elim
        (λ (o : Contains old.literals x). s x o)
        (λ (n : l ≡ x). subst (λ (y : Lit). Contains (closure all) y) n (closure-closed all clause l (part clause one) inside (λ y k ne. s (negation y) (others y k ne))))
        (Contains-push_cases old.literals l x (subst (λ (t : Trailing). Contains t.literals x) e m));
  }

-- ---- what stands on the way

module _ (clauses : List (List Lit)) (literal : Lit) (variables : ℕ) (pairs : Pairing) (watched0 : List Lit) (trail0 : Trailing) where
  -- the entries of the chain up to the last one that stays are seen, and the others wait
  pub record IsWalk (heads next : List ℕ) (watched : List Lit) (trail : Trailing) (last entry : ℕ) : Type 0 where
    pub are : AreWatches variables pairs watched heads next
    pub before : List ℕ
    pub after : List ℕ
    pub row : are.rows (code_of literal) ≡ before ++ after
    pub behind : IsChain next entry after
    pub is_last : IsLast before last
    pub seen : (e : ℕ) → Contains before e → Contains trail.literals (watched_at watched (partner e))
    pub inside : AreInside clauses watched
    pub growth : IsGrowth clauses trail0 trail
    pub kept : AreKept trail0.literals watched0 watched

  module _ (literal_in : literal.var < variables) where
    abbrev from : ℕ
    from = code_of literal

    pub walk-start : (heads next : List ℕ) → AreWatches variables pairs watched0 heads next → AreInside clauses watched0 → IsWalk heads next watched0 trail0 nothing (get_or heads from 0)
    walk-start heads next are within = record {
      are = are;
      before = [];
      after = are.rows from;
      row = refl;
      behind = are.chains.chained from (let low = code-below variables literal literal_in in let size = are.slots in omega arith);
      is_last = inl (refl, refl);
      seen = λ e m. absurd (none e m);
      inside = within;
      growth = growth-none clauses trail0;
      kept = λ done set a b c. c;
    }

    module _ (is_false : Contains trail0.literals (negation literal)) (heads next : List ℕ) (watched : List Lit) (trail : Trailing) (last entry : ℕ) (is : IsWalk heads next watched trail last entry) (few : length next ≤ nothing) where
      pub from-in : from < length heads
      from-in = let low = code-below variables literal literal_in in let size = is.are.slots in omega arith

      falsified : Contains trail.literals (negation literal)
      falsified = growth-within clauses trail0 trail is.growth (negation literal) is_false

      walk-left : chain_count next (length next) entry ≡ length is.after
      walk-left =
          let all = distinct-few (length next) (is.are.rows from) (is.are.chains.once from from-in) (chain-below next (get_or heads from 0) (is.are.rows from) (is.are.chains.chained from from-in)) in
          let size = ap length is.row in
          let sum = length-append is.before is.after in
          chain-counted next entry (length next) is.after few is.behind (omega arith)

      -- ---- a step
      module _ (some : entry ≢ nothing) where
        tail : (entries : List ℕ) × (is.after ≡ entry ∷ entries)
        tail = by_row is.after is.behind
          where
            by_row : (row : List ℕ) → IsChain next entry row → (entries : List ℕ) × (row ≡ entry ∷ entries)
            by_row [] c = absurd (some c)
            by_row (y ∷ ys) c = (ys, ap (λ e. e ∷ ys) (sym c.0))

        row-here : is.are.rows from ≡ is.before ++ entry ∷ tail.0
        row-here = is.row ∙ ap (λ ls. is.before ++ ls) tail.1

        there : Contains (is.are.rows from) entry
        there = subst (λ r. Contains r entry) (sym row-here) (Contains-append_right is.before (entry ∷ tail.0) entry (first entry tail.0))

        pub entry-next : entry < length next
        entry-next = All-contains (λ x. x < length next) (is.are.rows from) entry (chain-below next (get_or heads from 0) (is.are.rows from) (is.are.chains.chained from from-in)) there

        pub entry-watched : entry < length watched
        entry-watched = let i = entry-next in let s = is.are.sized in omega arith

        entry-place : is.are.place entry ≡ from
        entry-place = is.are.chains.placed from entry from-in there

        -- it isn't apart, nor the partner of one that is
        entry-here : ¬ is.are.place entry ≡ 2 * variables + 1
        entry-here e = let low = code-below variables literal literal_in in let p = entry-place in omega arith

        apart-else : (x : ℕ) → IsApart variables pairs watched is.are.place x → ¬ partner x ≡ entry
        apart-else x b p = entry-here (ap is.are.place (sym p) ∙ b.there)

        watches-it : watched_at watched entry ≡ literal
        watches-it =
            ⊎_elim
            (λ (a : is.are.place entry ≡ code_of (watched_at watched entry)). code-same (watched_at watched entry) literal (sym a ∙ entry-place))
            (λ (b : IsApart variables pairs watched is.are.place entry). absurd (entry-here b.here))
            (is.are.watching entry entry-watched)

        clause-in : entry / 2 < length clauses
        clause-in = let i = entry-watched in let s = is.inside.0 in omega arith

        abbrev clause : List Lit
        clause = get_or clauses (entry / 2) []

        abbrev other : Lit
        other = watched_at watched (partner entry)

        clause-there : Contains clauses clause
        clause-there = Contains-get_or clauses (entry / 2) [] clause-in

        partner-in : partner entry < length watched
        partner-in = let i = entry-watched in let s = is.inside.0 in let p = partner-inside (length clauses) entry (omega arith) in omega arith

        pub literal-there : Contains clause literal
        literal-there = subst (Contains clause) watches-it (is.inside.1 entry entry-watched)

        pub other-there : Contains clause other
        other-there = subst (λ k. Contains (get_or clauses k []) other) (partner-clause entry) (is.inside.1 (partner entry) partner-in)

        -- the last that stays isn't this one
        pub last-apart : (last ≡ nothing) ⊎ ((last < length next) × (last ≢ entry))
        last-apart =
            ⊎_elim
            (λ (n : (is.before ≡ []) × (last ≡ nothing)). inl n.1)
            (λ (b : (front : List ℕ) × (is.before ≡ front ++ last ∷ [])).
            let whole : is.are.rows from ≡ b.0 ++ last ∷ entry ∷ tail.0 = row-here ∙ ap (λ ls. ls ++ entry ∷ tail.0) b.1 ∙ append_assoc b.0 (last ∷ []) (entry ∷ tail.0) in
            let in_row : Contains (is.are.rows from) last = subst (λ r. Contains r last) (sym whole) (Contains-append_right b.0 (last ∷ entry ∷ tail.0) last (first last (entry ∷ tail.0))) in
            inr (
              All-contains (λ x. x < length next) (is.are.rows from) last (chain-below next (get_or heads from 0) (is.are.rows from) (is.are.chains.chained from from-in)) in_row,
              (λ e. middle-out b.0 (entry ∷ tail.0) last (subst IsDistinct whole (is.are.chains.once from from-in))
                  (Contains-append_right b.0 (entry ∷ tail.0) last (subst (Contains (entry ∷ tail.0)) (sym e) (first entry tail.0)))),
            ))
            is.is_last

        -- ---- it stays
        pub walk-stays : (new : Trailing) → IsStep entry clause other watched watched trail new visit.Stays → IsWalk heads next watched new entry (get_or next entry 0)
        walk-stays new step = record {
          are = is.are;
          before = is.before ++ entry ∷ [];
          after = tail.0;
          row = row-here ∙ sym (append_assoc is.before (entry ∷ []) tail.0);
          behind = (subst (IsChain next entry) tail.1 is.behind).2;
          is_last = last-next is.before entry;
          seen = λ x m.
              ⊎_elim
              (λ (o : Contains is.before x). growth-within clauses trail new grows (watched_at watched (partner x)) (is.seen x o))
              (λ (n : entry ≡ x). subst (λ k. Contains new.literals (watched_at watched (partner k))) n step.1)
              (Contains-push_cases is.before entry x m);
          inside = is.inside;
          growth = growth-then clauses trail0 trail new is.growth grows;
          kept = is.kept;
        }
          where
            grows : IsGrowth clauses trail new
            grows =
                ⊎_elim
                (λ (e : new ≡ trail). subst (λ (t : Trailing). IsGrowth clauses trail t) (sym e) (growth-none clauses trail))
                (λ (e : (new ≡ record trail { literals = trail.literals ++ other ∷ [] }) × ((l : Lit) → Contains clause l → l ≢ other → Contains trail.literals (negation l))).
                growth-forced clauses trail new clause other clause-there other-there e.0 e.1)
                step.2

        tail-few : length tail.0 < length next
        tail-few =
            let all = distinct-few (length next) (is.are.rows from) (is.are.chains.once from from-in) (chain-below next (get_or heads from 0) (is.are.rows from) (is.are.chains.chained from from-in)) in
            let size = ap length row-here in
            let sum = length-append is.before (entry ∷ tail.0) in
            omega arith

        pub stays-smaller : chain_count next (length next) (get_or next entry 0) < chain_count next (length next) entry
        stays-smaller =
            let rest = chain-counted next (get_or next entry 0) (length next) tail.0 few (subst (IsChain next entry) tail.1 is.behind).2 (let less = tail-few in omega arith) in
            let all = walk-left in
            let size = ap length tail.1 in
            omega arith

        -- ---- its clause is refuted
        pub walk-refuted : (now : List Lit) (new : Trailing) → IsStep entry clause other watched now trail new visit.Refuted → Any (IsRefuted new.literals) clauses
        walk-refuted now new step = subst (λ (t : Trailing). Any (IsRefuted t.literals) clauses) (sym step.1) (Any-member (IsRefuted trail.literals) clauses clause clause-there step.2)

        -- ---- it moves
        module _ (clauses_below : All (All (IsBelow variables)) clauses) (found : Lit) (now : List Lit) (new : Trailing) (step : IsStep entry clause other watched now trail new (visit.Moves found)) where
          abbrev is_replacement : IsReplacement trail.literals clause other (Some found)
          is_replacement = step.2

          abbrev one_signed : IsOneSigned trail.literals
          one_signed = step.3

          found_below : found.var < variables
          found_below = All-contains (IsBelow variables) clause found (All-contains (All (IsBelow variables)) clauses clause clauses_below clause-there) is_replacement.0

          abbrev to : ℕ
          to = code_of found

          pub to-in : to < length heads
          to-in = let low = code-below variables found found_below in let size = is.are.slots in omega arith

          pub to-apart : from ≢ to
          to-apart e = false≢true (sym is_replacement.2 ∙ has-from trail.literals (negation found) (subst (λ (l : Lit). Contains trail.literals (negation l)) (code-same literal found e) falsified))

          abbrev watched' : List Lit
          watched' = set watched entry found

          not-literal : ¬ Contains trail.literals literal
          not-literal m = one_signed literal m falsified

          here' : watched_at watched' entry ≡ found
          here' = get_or-set_same watched entry found (negative_of 0) entry-watched

          else' : (x : ℕ) → ¬ x ≡ entry → watched_at watched' x ≡ watched_at watched x
          else' x ne = get_or-set_other watched entry x found (negative_of 0) ne

          not_false : ¬ Contains trail.literals (negation found)
          not_false m = false≢true (sym is_replacement.2 ∙ has-from trail.literals (negation found) m)

          kept' : AreKept trail0.literals watched0 watched'
          kept' done set' sub within covered x i = cover
            where
              old : AreCovered done set' watched
              old = is.kept done set' sub within covered

              size : length watched' ≡ length watched
              size = length-set watched entry found

              x_in : x < length watched
              x_in = subst (λ n. x < n) size i

              up : (l : Lit) → Contains set' l → Contains trail.literals l
              up l m = growth-within clauses trail0 trail is.growth l (within l m)

              cover : IsCovered done set' (watched_at watched' x) (watched_at watched' (partner x))
              cover =
                  ⊎_elim
                  (λ (e : x ≡ entry).
                  let one : watched_at watched' x ≡ found = ap (watched_at watched') e ∙ here' in
                  let two : watched_at watched' (partner x) ≡ other = ap (λ k. watched_at watched' (partner k)) e ∙ else' (partner entry) (partner-other entry) in
                  record {
                    answered = (λ m. absurd (not_false (up (negation found) (sub (negation found) (subst (λ (l : Lit). Contains done (negation l)) one m)))));
                    apart = inl (λ s. is_replacement.1 (sym one ∙ s ∙ two));
                  })
                  (λ (ne : ¬ x ≡ entry).
                  ⊎_elim
                  (λ (p : partner x ≡ entry).
                  let back : x ≡ partner entry = sym (partner-back x) ∙ ap partner p in
                  let one : watched_at watched' x ≡ other = else' x ne ∙ ap (watched_at watched) back in
                  let two : watched_at watched' (partner x) ≡ found = ap (watched_at watched') p ∙ here' in
                  record {
                    answered = (λ m.
                        let stood : Contains set' (watched_at watched (partner x)) = (old x x_in).answered (subst (λ (l : Lit). Contains done (negation l)) (else' x ne) m) in
                        absurd (not-literal (up literal (subst (Contains set') (ap (watched_at watched) p ∙ watches-it) stood))));
                    apart = inl (λ s. is_replacement.1 (sym two ∙ sym s ∙ one));
                  })
                  (λ (np : ¬ partner x ≡ entry).
                  let one : watched_at watched' x ≡ watched_at watched x = else' x ne in
                  let two : watched_at watched' (partner x) ≡ watched_at watched (partner x) = else' (partner x) np in
                  subst (λ (l : Lit). IsCovered done set' l (watched_at watched' (partner x))) (sym one) (subst (λ (l : Lit). IsCovered done set' (watched_at watched x) l) (sym two) (old x x_in)))
                  (cases_eq (partner x) entry))
                  (cases_eq x entry)

          inside' : AreInside clauses watched'
          inside' = (
            length-set watched entry found ∙ is.inside.0,
            (λ x i.
                ⊎_elim
                (λ (e : x ≡ entry). subst (λ k. Contains (get_or clauses (k / 2) []) (watched_at watched' k)) (sym e) (subst (Contains clause) (sym here') is_replacement.0))
                (λ (ne : ¬ x ≡ entry). subst (Contains (get_or clauses (x / 2) [])) (sym (else' x ne)) (is.inside.1 x (subst (λ n. x < n) (length-set watched entry found) i)))
                (cases_eq x entry)),
          )

          module _ (heads' next' : List ℕ) (relinked : IsRelinked heads next from last entry to heads' next') where
            abbrev place' : ℕ → ℕ
            place' = relinked_place heads next is.are.rows is.are.place is.are.chains from to from-in to-in to-apart is.before tail.0 entry row-here

            sizes : (length heads' ≡ length heads) × (length next' ≡ length next)
            sizes = relink-sizes heads next is.are.rows is.are.place is.are.chains from to from-in to-in to-apart is.before tail.0 entry row-here last is.is_last few heads' next' relinked

            abbrev rows' : ℕ → List ℕ
            rows' = relinked_rows heads next is.are.rows is.are.place is.are.chains from to from-in to-in to-apart is.before tail.0 entry row-here

            chains' : AreChains heads' next' rows' place'
            chains' = relink-chains heads next is.are.rows is.are.place is.are.chains from to from-in to-in to-apart is.before tail.0 entry row-here last is.is_last few heads' next' relinked

            watching' : (x : ℕ) → x < length watched' → (place' x ≡ code_of (watched_at watched' x)) ⊎ IsApart variables pairs watched' place' x
            watching' x i =
                ⊎_elim
                (λ (e : x ≡ entry). inl (place-same is.are.place entry to x e ∙ ap code_of (sym (ap (watched_at watched') e ∙ here'))))
                (λ (ne : ¬ x ≡ entry).
                ⊎_elim
                (λ (a : is.are.place x ≡ code_of (watched_at watched x)). inl (place-other is.are.place entry to x ne ∙ a ∙ ap code_of (sym (else' x ne))))
                (λ (b : IsApart variables pairs watched is.are.place x).
                let np = apart-else x b in
                let size = length-set watched entry found in
                inr (apart-same variables pairs watched watched' is.are.place place' x b (omega arith) (else' x ne) (else' (partner x) np) (place-other is.are.place entry to x ne) (place-other is.are.place entry to (partner x) np)))
                (is.are.watching x (subst (λ n. x < n) (length-set watched entry found) i)))
                (cases_eq x entry)

            pub moves-smaller : chain_count next' (length next') (get_or next entry 0) < chain_count next (length next) entry
            moves-smaller =
                let same = sizes.1 in
                let behind' = relink-behind heads next is.are.rows is.are.place is.are.chains from to from-in to-in to-apart is.before tail.0 entry row-here last is.is_last few heads' next' relinked in
                let rest = chain-counted next' (get_or next entry 0) (length next') tail.0 (omega arith) behind' (let less = tail-few in omega arith) in
                let all = walk-left in
                let size = ap length tail.1 in
                omega arith

            moved : IsWalk heads' next' watched' trail last (get_or next entry 0)
            moved = record {
              are = record {
                rows = rows';
                place = place';
                chains = chains';
                sized = sizes.1 ∙ is.are.sized ∙ sym (length-set watched entry found);
                slots = sizes.0 ∙ is.are.slots;
                below = All-set (IsBelow variables) watched entry found found_below is.are.below;
                watching = watching';
              };
              before = is.before;
              after = tail.0;
              row = row-same (with_row is.are.rows to (entry ∷ is.are.rows to)) from (is.before ++ tail.0) from refl;
              behind = relink-behind heads next is.are.rows is.are.place is.are.chains from to from-in to-in to-apart is.before tail.0 entry row-here last is.is_last few heads' next' relinked;
              is_last = is.is_last;
              seen = λ x m.
                  let stood = is.seen x m in
                  let np : ¬ partner x ≡ entry = λ p. not-literal (subst (Contains trail.literals) (ap (watched_at watched) p ∙ watches-it) stood) in
                  subst (Contains trail.literals) (sym (else' (partner x) np)) stood;
              inside = inside';
              growth = is.growth;
              kept = kept';
            }

            pub walk-moves : IsWalk heads' next' now new last (get_or next entry 0)
            walk-moves =
                subst (λ (w : List Lit). IsWalk heads' next' w new last (get_or next entry 0)) (sym step.0)
                (subst (λ (t : Trailing). IsWalk heads' next' watched' t last (get_or next entry 0)) (sym step.1) moved)

      -- ---- the end
      pub walk-seen : entry ≡ nothing → ((l : Lit) → Contains (row_of pairs (code_of literal)) l → Contains trail0.literals l) → (x : ℕ) → x < length watched → watched_at watched x ≡ literal → Contains trail.literals (watched_at watched (partner x))
      walk-seen ends brought x i e =
          ⊎_elim
          (λ (a : is.are.place x ≡ code_of (watched_at watched x)).
          let here : is.are.place x ≡ from = a ∙ ap code_of e in
          let in_row : Contains (is.are.rows from) x = subst (λ s. Contains (is.are.rows s) x) here (is.are.chains.full x (let s = is.are.sized in omega arith)) in
          is.seen x (subst (λ r. Contains r x) (is.row ∙ ap (λ ls. is.before ++ ls) (nothing-left is.after is.behind) ∙ append-nil is.before) in_row))
          (λ (b : IsApart variables pairs watched is.are.place x).
          growth-within clauses trail0 trail is.growth (watched_at watched (partner x)) (brought (watched_at watched (partner x)) (subst (λ (l : Lit). Contains (row_of pairs (code_of l)) (watched_at watched (partner x))) e b.listed)))
          (is.are.watching x i)
        where
          nothing-left : (row : List ℕ) → IsChain next entry row → row ≡ []
          nothing-left [] c = refl
          nothing-left (y ∷ ys) c = let low = c.1 in let here = c.0 in absurd (omega arith)
