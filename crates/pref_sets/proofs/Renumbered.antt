-- FastDiag over places, as FastDiag over the positions there behind a background.
use Rattle.std.proofs.Common.{◌≡◌, ℕ, zero, suc, ◌+◌, ◌<◌, ◌≤◌, ◌-◌, ◌/◌, Bool, true, false, cond, Option, Some, None, List, [], ◌∷◌, ◌++◌, map, length, take, drop, get_or, refl, sym, ◌∙◌, ap, subst, ⊎_elim, arith}
use Rattle.std.specs.Prelude.{Contains}
use Rattle.std.specs.List.{range_with_len}
use Rattle.std.proofs.lemmas.Bool.Decides.{same_from_decides}
use Rattle.std.proofs.lemmas.List.{length-map, take-map, drop-map}
use Rattle.std.proofs.lemmas.List.Elements.{Contains-append_left, Contains-append_right, Contains-append_cases, Contains-get_or}
use Rattle.std.proofs.lemmas.List.FromFn.{fill_by_all, length-range_with_len}
use Rattle.std.proofs.lemmas.Slice.Eq.{bytes_eq-Decides}
use Rattle.pref_sets.specs.Answers.{Answer, Next, Ask, Done, same_set, answer_to, by_answer}
use Rattle.pref_sets.specs.FastDiag.{fd, fd_behind}
use Rattle.pref_sets.specs.Plan.{Plan, found, asks, over, chain, AsksOnly}
use Rattle.pref_sets.specs.Positions.{union, lower_half, upper_half}
use Rattle.pref_sets.specs.Preferred.{IsWithin}
use Rattle.pref_sets.specs.Renumbering.{at_places, AnswersByPlaces, AnswersSomeByPlaces, next_at_places}
use Rattle.pref_sets.proofs.FastDiagPlan.{sat_plan, fd_plan, fd_part-plan, fd_plan-within, fd_plan-ascends}
use Rattle.pref_sets.proofs.Plans.{IsAsked, GoesOn, over-cases, over-known}
use Rattle.pref_sets.proofs.PlansLeft.{AsksOnly-and}
use Rattle.pref_sets.proofs.AscendingPositions.{HaveSame, Ascends, Ascends-apart, AreBelow, Ascends-same, union-ascends, union-cases, union-has, halves-join, lower-within, upper-within}
use Rattle.pref_sets.proofs.RisingPositions.{Ascends-from_rises, rises-from_Ascends}
use Rattle.req_keys.specs.Positions.{RiseWithin}
use Rattle.req_keys.proofs.PositionsLaws.{RiseWithin-range}
use Rattle.req_keys.proofs.Rises.{members-within}
use Rattle.lists.proofs.Members.{none as contains_none, later as contains_later, first as contains_first, from_map, to_map}

-- one plan is the other with its asked and found sets renamed
abbrev pub IsImage : (List ℕ → List ℕ) → (List ℕ → List ℕ) → Plan → Plan → Type 0
IsImage f g (found s) (found t) = g s ≡ t
IsImage f g (found s) (asks t go) = ⊥
IsImage f g (asks s go) (found t) = ⊥
IsImage f g (asks s go) (asks t more) = (f s ≡ t) × ((sat : Bool) → IsImage f g (go sat) (more sat))

module _ (f g : List ℕ → List ℕ) (A R : List ℕ → Type 0) where
  IsImage-chain : (p q : Plan) (follow more : List ℕ → Plan) → AsksOnly A R p → IsImage f g p q → ((s : List ℕ) → R s → IsImage f g (follow s) (more (g s))) → IsImage f g (chain p follow) (chain q more)
  IsImage-chain (found s) (found t) follow more only h k = subst (λ (u : List ℕ). IsImage f g (follow s) (more u)) h (k s only)
  IsImage-chain (found s) (asks t go) follow more only h k = absurd h
  IsImage-chain (asks s go) (found t) follow more only h k = absurd h
  IsImage-chain (asks s go) (asks t to) follow more only h k = (h.0, λ sat. IsImage-chain (go sat) (to sat) follow more (only.1 sat) (h.1 sat) k)

  -- what a plan gives, renamed
  abbrev renamed : Next → Next
  renamed (Ask s) = Ask (f s)
  renamed (Done s) = Done (g s)

  by_answer-renamed : (s : List ℕ) (answer : Option Bool) (sat unsat : Next) → by_answer (f s) answer (renamed sat) (renamed unsat) ≡ renamed (by_answer s answer sat unsat)
  by_answer-renamed s None sat unsat = refl
  by_answer-renamed s (Some true) sat unsat = refl
  by_answer-renamed s (Some false) sat unsat = refl

  IsImage-over : (small table : List Answer) → ((s : List ℕ) → A s → answer_to small s ≡ answer_to table (f s)) → (p q : Plan) → AsksOnly A R p → IsImage f g p q → over table q ≡ renamed (over small p)
  IsImage-over small table same (found s) (found t) only h = ap Done (sym h)
  IsImage-over small table same (found s) (asks t go) only h = absurd h
  IsImage-over small table same (asks s go) (found t) only h = absurd h
  IsImage-over small table same (asks s go) (asks t to) only h =
      ap (λ (u : List ℕ). by_answer u (answer_to table u) (over table (to true)) (over table (to false))) (sym h.0)
      ∙ ap (λ (answer : Option Bool). by_answer (f s) answer (over table (to true)) (over table (to false))) (sym (same s only.0))
      ∙ ap (λ (next : Next). by_answer (f s) (answer_to small s) next (over table (to false))) (IsImage-over small table same (go true) (to true) (only.1 true) (h.1 true))
      ∙ ap (λ (next : Next). by_answer (f s) (answer_to small s) (renamed (over small (go true))) next) (IsImage-over small table same (go false) (to false) (only.1 false) (h.1 false))
      ∙ by_answer-renamed s (answer_to small s) (over small (go true)) (over small (go false))

-- a table that answers what the small one does on renamed sets, and may have more answers
module _ (f g : List ℕ → List ℕ) (A R : List ℕ → Type 0) (small table : List Answer) (more : (s : List ℕ) (sat : Bool) → A s → answer_to small s ≡ Some sat → answer_to table (f s) ≡ Some sat) where
  image-goes_on : (s t : List ℕ) (to : Bool → Plan) (sat : Bool) → f s ≡ t → A s → answer_to small s ≡ Some sat → over table (asks t to) ≡ over table (to sat)
  image-goes_on s t to sat e a known = over-known table t to sat (subst (λ (u : List ℕ). answer_to table u ≡ Some sat) e (more s sat a known))

  IsImage-asked : (p q : Plan) → AsksOnly A R p → IsImage f g p q → (set : List ℕ) → over small p ≡ Ask set → answer_to table (f set) ≡ None → over table q ≡ Ask (f set)
  IsImage-asked (found s) (found t) only h set e none = absurd (cc)
  IsImage-asked (found s) (asks t go) only h set e none = absurd h
  IsImage-asked (asks s go) (found t) only h set e none = absurd h
  IsImage-asked (asks s go) (asks t to) only h set e none =
      ⊎_elim
      (λ (a : IsAsked small s (Ask set)).
      let same : s ≡ set = cc (a.asked) in
      let there : t ≡ f set = sym h.0 ∙ ap f same in
      let asked : over table (asks (f set) to) ≡ Ask (f set) = rw none refl in
      rw there asked)
      (λ (k : GoesOn small s go (Ask set)). image-goes_on s t to k.sat h.0 only.0 k.known ∙ IsImage-asked (go k.sat) (to k.sat) (only.1 k.sat) (h.1 k.sat) set k.further none)
      (over-cases small s go (Ask set) e)

  IsImage-found : (p q : Plan) → AsksOnly A R p → IsImage f g p q → (set : List ℕ) → over small p ≡ Done set → over table q ≡ Done (g set)
  IsImage-found (found s) (found t) only h set e = let same : s ≡ set = cc in ap Done (sym h ∙ ap g same)
  IsImage-found (found s) (asks t go) only h set e = absurd h
  IsImage-found (asks s go) (found t) only h set e = absurd h
  IsImage-found (asks s go) (asks t to) only h set e =
      ⊎_elim
      (λ (a : IsAsked small s (Done set)). absurd (cc (a.asked)))
      (λ (k : GoesOn small s go (Done set)). image-goes_on s t to k.sat h.0 only.0 k.known ∙ IsImage-found (go k.sat) (to k.sat) (only.1 k.sat) (h.1 k.sat) set k.further)
      (over-cases small s go (Done set) e)

-- of ascending positions, that at a later place is greater
get-below : (xs : List ℕ) → Ascends xs → (i j : ℕ) → i < j → j < length xs → get_or xs i 0 < get_or xs j 0
get-below [] h i j l m = absurd (omega arith)
get-below (x ∷ xs) h i zero l m = absurd (omega arith)
get-below (x ∷ xs) h zero (suc j) l m = h.0 (get_or xs j 0) (Contains-get_or xs j 0 (omega arith))
get-below (x ∷ xs) h (suc i) (suc j) l m = get-below xs h.1 i j (omega arith) (omega arith)

-- the same range by places from 0 and from 1
shifted : (h : ℕ → ℕ) (a n : ℕ) → map h (range_with_len a n) ≡ map (λ p. h (p - 1)) (range_with_len (a + 1) n)
shifted h a zero = refl
shifted h a (suc n) =
    let here : a ≡ (a + 1) - 1 = omega arith in
    ap (λ k. h k ∷ map h (range_with_len (a + 1) n)) here
    ∙ ap (λ (t : List ℕ). h ((a + 1) - 1) ∷ t) (shifted h (a + 1) n)

pub at_places-all : (positions : List ℕ) → at_places positions (range_with_len 1 (length positions)) ≡ positions
at_places-all positions =
    sym (shifted (λ k. get_or positions k 0) 0 (length positions)) ∙ sym (fill_by_all (λ k. get_or positions k 0) positions (length positions) 0 refl (λ k l. refl))

module _ (positions : List ℕ) (rises : Ascends positions) where
  -- each place is one of those of the positions
  abbrev pub AreThere : List ℕ → Type 0
  AreThere places = (i : ℕ) → Contains places i → (0 < i) × (i ≤ length positions)

  abbrev at : ℕ → ℕ
  at place = get_or positions (place - 1) 0

  at-below : (p q : ℕ) → 0 < p → p < q → q ≤ length positions → at p < at q
  at-below p q some l m = get-below positions rises (p - 1) (q - 1) (omega arith) (omega arith)

  at-same : (p q : ℕ) → (0 < p) × (p ≤ length positions) → (0 < q) × (q ≤ length positions) → at p ≡ at q → p ≡ q
  at-same p q h k e =
      let not_below : p < q → ⊥ = λ l. let less : at p < at q = at-below p q h.0 l k.1 in omega arith in
      let not_above : q < p → ⊥ = λ l. let less : at q < at p = at-below q p k.0 l h.1 in omega arith in
      omega (arith, not_below, not_above)

  image-from : (places : List ℕ) (y : ℕ) → Contains (at_places positions places) y → (p : ℕ) × Contains places p × (at p ≡ y)
  image-from places y m = from_map (λ place. get_or positions (place - 1) 0) places y m

  image-to : (places : List ℕ) (p : ℕ) → Contains places p → Contains (at_places positions places) (at p)
  image-to places p m = to_map (λ place. get_or positions (place - 1) 0) places p m

  image-has : (places : List ℕ) (p y : ℕ) → at p ≡ y → Contains places p → Contains (at_places positions places) y
  image-has places p y e m = subst (λ k. Contains (at_places positions places) k) e (image-to places p m)

  image-within : (a b : List ℕ) → IsWithin a b → IsWithin (at_places positions a) (at_places positions b)
  image-within a b inside y m = let r = image-from a y m in image-has b r.0 y r.2 (inside r.0 r.1)

  image-ascends : (places : List ℕ) → Ascends places → AreThere places → Ascends (at_places positions places)
  image-ascends [] h there = tt
  image-ascends (p ∷ places) h there = (
    (λ y m.
        let r : (q : ℕ) × Contains places q × (at q ≡ y) = image-from places y m in
        let less : at p < at r.0 = at-below p r.0 (there p (contains_first p places)).0 (h.0 r.0 r.1) (there r.0 (contains_later p places r.0 r.1)).1 in
        first-below p y r.0 less r.2),
    image-ascends places h.1 (λ i m. there i (contains_later p places i m)),
  )
    where
      first-below : (p y q : ℕ) → at p < at q → at q ≡ y → get_or positions (p - 1) 0 < y
      first-below p y q l e = rw (← e) l

  image-same : (a b : List ℕ) → Ascends a → AreThere a → Ascends b → AreThere b → at_places positions a ≡ at_places positions b → a ≡ b
  image-same a b h there k here e =
      Ascends-same a b h k
      (λ i m. let r = image-from b (at i) (subst (λ (t : List ℕ). Contains t (at i)) e (image-to a i m)) in subst (λ j. Contains b j) (at-same r.0 i (here r.0 r.1) (there i m) r.2) r.1)
      (λ i m. let r = image-from a (at i) (subst (λ (t : List ℕ). Contains t (at i)) (sym e) (image-to b i m)) in subst (λ j. Contains a j) (at-same r.0 i (there r.0 r.1) (here i m) r.2) r.1)

  image-same_set : (a b : List ℕ) → Ascends a → AreThere a → Ascends b → AreThere b → same_set (at_places positions a) (at_places positions b) ≡ same_set a b
  image-same_set a b h there k here =
      same_from_decides (same_set (at_places positions a) (at_places positions b)) (same_set a b)
      ((λ t. image-same a b h there k here ((bytes_eq-Decides (at_places positions a) (at_places positions b)).0 t)), (λ e. (bytes_eq-Decides (at_places positions a) (at_places positions b)).1 (ap (at_places positions) e)))
      (bytes_eq-Decides a b)

  there-union : (a b : List ℕ) → AreThere a → AreThere b → AreThere (union a b)
  there-union a b h k i m = ⊎_elim (λ (l : Contains a i). h i l) (λ (r : Contains b i). k i r) (union-cases a b i m)

  left-of : (a b : List ℕ) → IsWithin a (union a b)
  left-of a b i m = union-has a b i (Contains-append_left a b i m)

  right-of : (a b : List ℕ) → IsWithin b (union a b)
  right-of a b i m = union-has a b i (Contains-append_right a b i m)

  image-union : (a b : List ℕ) → AreThere a → Ascends b → AreThere b → at_places positions (union a b) ≡ union (at_places positions a) (at_places positions b)
  image-union a b there h here =
      Ascends-same (at_places positions (union a b)) (union (at_places positions a) (at_places positions b))
      (image-ascends (union a b) (union-ascends a b h) (there-union a b there here))
      (union-ascends (at_places positions a) (at_places positions b) (image-ascends b h here))
      (λ y m.
      let r = image-from (union a b) y m in
      ⊎_elim
      (λ (l : Contains a r.0). left-of (at_places positions a) (at_places positions b) y (image-has a r.0 y r.2 l))
      (λ (k : Contains b r.0). right-of (at_places positions a) (at_places positions b) y (image-has b r.0 y r.2 k))
      (union-cases a b r.0 r.1))
      (λ y m.
      ⊎_elim
      (λ (l : Contains (at_places positions a) y). image-within a (union a b) (left-of a b) y l)
      (λ (k : Contains (at_places positions b) y). image-within b (union a b) (right-of a b) y k)
      (union-cases (at_places positions a) (at_places positions b) y m))

  image-lower : (places : List ℕ) → lower_half (at_places positions places) ≡ at_places positions (lower_half places)
  image-lower places =
      ap (λ n. take (n / 2) (at_places positions places)) (length-map places (λ place. get_or positions (place - 1) 0))
      ∙ take-map (λ place. get_or positions (place - 1) 0) (length places / 2) places

  image-upper : (places : List ℕ) → upper_half (at_places positions places) ≡ at_places positions (upper_half places)
  image-upper places =
      ap (λ n. drop (n / 2) (at_places positions places)) (length-map places (λ place. get_or positions (place - 1) 0))
      ∙ drop-map (λ place. get_or positions (place - 1) 0) (length places / 2) places

  module _ (background : List ℕ) where
    -- the set that is asked for one of places
    abbrev pub asked_for : List ℕ → List ℕ
    asked_for places = union background (at_places positions places)

    -- the wider background has the members of the background and of the positions at some places
    abbrev Widens : List ℕ → List ℕ → Type 0
    Widens places wide = HaveSame wide (background ++ at_places positions places)

    widens-union : (b lower wide : List ℕ) → Widens b wide → Widens (union b lower) (union wide (at_places positions lower))
    widens-union b lower wide same = (
      (λ i m.
          ⊎_elim
          (λ (l : Contains wide i).
          ⊎_elim
          (λ (k : Contains background i). Contains-append_left background (at_places positions (union b lower)) i k)
          (λ (k : Contains (at_places positions b) i). Contains-append_right background (at_places positions (union b lower)) i (image-within b (union b lower) (left-of b lower) i k))
          (Contains-append_cases background (at_places positions b) i (same.0 i l)))
          (λ (r : Contains (at_places positions lower) i). Contains-append_right background (at_places positions (union b lower)) i (image-within lower (union b lower) (right-of b lower) i r))
          (union-cases wide (at_places positions lower) i m)),
      (λ i m.
          ⊎_elim
          (λ (l : Contains background i). left-of wide (at_places positions lower) i (same.1 i (Contains-append_left background (at_places positions b) i l)))
          (λ (r : Contains (at_places positions (union b lower)) i).
          let p = image-from (union b lower) i r in
          ⊎_elim
          (λ (k : Contains b p.0). left-of wide (at_places positions lower) i (same.1 i (Contains-append_right background (at_places positions b) i (image-has b p.0 i p.2 k))))
          (λ (k : Contains lower p.0). right-of wide (at_places positions lower) i (image-has lower p.0 i p.2 k))
          (union-cases b lower p.0 p.1))
          (Contains-append_cases background (at_places positions (union b lower)) i m)),
    )

    asked-same : (b places wide : List ℕ) → AreThere b → Ascends places → AreThere places → Widens b wide → asked_for (union b places) ≡ union wide (at_places positions places)
    asked-same b places wide there h here same =
        let all : Widens (union b places) (union wide (at_places positions places)) = widens-union b places wide same in
        Ascends-same (asked_for (union b places)) (union wide (at_places positions places))
        (union-ascends background (at_places positions (union b places)) (image-ascends (union b places) (union-ascends b places h) (there-union b places there here)))
        (union-ascends wide (at_places positions places) (image-ascends places h here))
        (λ i m. all.1 i (⊎_elim (λ (l : Contains background i). Contains-append_left background (at_places positions (union b places)) i l) (λ (r : Contains (at_places positions (union b places)) i). Contains-append_right background (at_places positions (union b places)) i r) (union-cases background (at_places positions (union b places)) i m)))
        (λ i m. union-has background (at_places positions (union b places)) i (all.0 i m))

    sat_plan-image : (places b wide : List ℕ) (known : Bool) (left more : Plan) → AreThere b → Ascends places → AreThere places → Widens b wide → IsImage asked_for (at_places positions) left more → IsImage asked_for (at_places positions) (sat_plan places b known left) (sat_plan (at_places positions places) wide known more)
    sat_plan-image places b wide true left more there h here same k = k
    sat_plan-image places b wide false left more there h here same k = (asked-same b places wide there h here same, λ sat. either sat)
      where
        either : (sat : Bool) → IsImage asked_for (at_places positions) (cond sat (found places) left) (cond sat (found (at_places positions places)) more)
        either true = refl
        either false = k

    -- two halves, one behind the other
    abbrev halves_plan : ℕ → List ℕ → List ℕ → List ℕ → Plan
    halves_plan count first second b =
        chain (fd_plan count first b false) (λ lower.
        chain (fd_plan count second (union b lower) (same_set lower first)) (λ upper.
        found (union lower upper)))

    -- what FastDiag keeps of places
    kept-there : (count : ℕ) (places b : List ℕ) (known : Bool) → Ascends places → AsksOnly (λ set. IsWithin set (b ++ places) × Ascends set) (λ set. IsWithin set places × Ascends set) (fd_plan count places b known)
    kept-there count places b known h =
        AsksOnly-and (λ set. IsWithin set (b ++ places)) Ascends (λ set. IsWithin set places) Ascends (fd_plan count places b known)
        (fd_plan-within (b ++ places) count places b known (λ i m. Contains-append_left b places i m) (λ i m. Contains-append_right b places i m))
        (fd_plan-ascends count places b known h)

    halves-image : (count : ℕ) (first second b wide : List ℕ) → Ascends first → AreThere first → Ascends second → AreThere second → AreThere b → Widens b wide →
        ((places c broad : List ℕ) (known : Bool) → Ascends places → AreThere places → AreThere c → Widens c broad → IsImage asked_for (at_places positions) (fd_plan count places c known) (fd_plan count (at_places positions places) broad known)) →
        IsImage asked_for (at_places positions) (halves_plan count first second b) (halves_plan count (at_places positions first) (at_places positions second) wide)
    halves-image count first second b wide h1 t1 h2 t2 there same ih =
        IsImage-chain asked_for (at_places positions) (λ set. IsWithin set (b ++ first) × Ascends set) (λ set. IsWithin set first × Ascends set) (fd_plan count first b false) (fd_plan count (at_places positions first) wide false)
        (λ lower. chain (fd_plan count second (union b lower) (same_set lower first)) (λ upper. found (union lower upper)))
        (λ lower. chain (fd_plan count (at_places positions second) (union wide lower) (same_set lower (at_places positions first))) (λ upper. found (union lower upper)))
        (kept-there count first b false h1)
        (ih first b wide false h1 t1 there same)
        (λ lower r.
        let lower_there : AreThere lower = λ i m. t1 i (r.0 i m) in
        let part : IsImage asked_for (at_places positions) (fd_plan count second (union b lower) (same_set lower first)) (fd_plan count (at_places positions second) (union wide (at_places positions lower)) (same_set (at_places positions lower) (at_places positions first))) =
        subst (λ (k : Bool). IsImage asked_for (at_places positions) (fd_plan count second (union b lower) (same_set lower first)) (fd_plan count (at_places positions second) (union wide (at_places positions lower)) k)) (sym (image-same_set lower first r.1 lower_there h1 t1))
        (ih second (union b lower) (union wide (at_places positions lower)) (same_set lower first) h2 t2 (there-union b lower there lower_there) (widens-union b lower wide same)) in
        IsImage-chain asked_for (at_places positions) (λ set. IsWithin set (union b lower ++ second) × Ascends set) (λ set. IsWithin set second × Ascends set) (fd_plan count second (union b lower) (same_set lower first)) (fd_plan count (at_places positions second) (union wide (at_places positions lower)) (same_set (at_places positions lower) (at_places positions first)))
        (λ upper. found (union lower upper)) (λ upper. found (union (at_places positions lower) upper))
        (kept-there count second (union b lower) (same_set lower first) h2)
        part
        (λ upper u. image-union lower upper lower_there u.1 (λ i m. t2 i (u.0 i m))))

    pub fd_plan-image : (count : ℕ) (places b wide : List ℕ) (known : Bool) → Ascends places → AreThere places → AreThere b → Widens b wide → IsImage asked_for (at_places positions) (fd_plan count places b known) (fd_plan count (at_places positions places) wide known)
    fd_plan-image zero places b wide known h here there same = refl
    fd_plan-image (suc count) [] b wide known h here there same = refl
    fd_plan-image (suc count) (x ∷ []) b wide known h here there same = sat_plan-image (x ∷ []) b wide known (found []) (found []) there h here same refl
    fd_plan-image (suc count) (x ∷ y ∷ rest) b wide known h here there same =
        let whole : List ℕ = x ∷ y ∷ rest in
        let parts : Ascends (lower_half whole) × Ascends (upper_half whole) × AreBelow (lower_half whole) (upper_half whole) = Ascends-apart (lower_half whole) (upper_half whole) (rw halves-join h) in
        let image : IsImage asked_for (at_places positions) (halves_plan count (lower_half whole) (upper_half whole) b) (halves_plan count (at_places positions (lower_half whole)) (at_places positions (upper_half whole)) wide) =
        halves-image count (lower_half whole) (upper_half whole) b wide parts.0 (λ i m. here i (lower-within whole i m)) parts.1 (λ i m. here i (upper-within whole i m)) there same (fd_plan-image count) in
        let first : IsImage asked_for (at_places positions) (halves_plan count (lower_half whole) (upper_half whole) b) (halves_plan count (lower_half (at_places positions whole)) (at_places positions (upper_half whole)) wide) =
        subst (λ (s : List ℕ). IsImage asked_for (at_places positions) (halves_plan count (lower_half whole) (upper_half whole) b) (halves_plan count s (at_places positions (upper_half whole)) wide)) (sym (image-lower whole)) image in
        sat_plan-image whole b wide known (halves_plan count (lower_half whole) (upper_half whole) b) (halves_plan count (lower_half (at_places positions whole)) (upper_half (at_places positions whole)) wide) there h here same
        (subst (λ (s : List ℕ). IsImage asked_for (at_places positions) (halves_plan count (lower_half whole) (upper_half whole) b) (halves_plan count (lower_half (at_places positions whole)) s wide)) (sym (image-upper whole)) first)

    abbrev all_places : List ℕ
    all_places = range_with_len 1 (length positions)

    all-rise : RiseWithin 0 (length positions) all_places
    all-rise = RiseWithin-range 1 (length positions) 0 (length positions) (omega arith) (omega arith)

    all-there : AreThere all_places
    all-there = members-within 0 (length positions) all_places all-rise

    all-ascend : Ascends all_places
    all-ascend = Ascends-from_rises 0 (length positions) all_places all-rise

    -- FastDiag over all places, and behind the background over the positions
    abbrev small_plan : Plan
    small_plan = fd_plan (length positions) all_places [] true

    abbrev whole_plan : Plan
    whole_plan = fd_plan (length positions) positions background true

    whole-image : IsImage asked_for (at_places positions) small_plan whole_plan
    whole-image =
        subst (λ (s : List ℕ). IsImage asked_for (at_places positions) small_plan (fd_plan (length positions) s background true)) (at_places-all positions)
        (fd_plan-image (length positions) all_places [] background true all-ascend all-there (λ i m. absurd (contains_none i m))
        ((λ i m. Contains-append_left background [] i m), (λ i m. ⊎_elim (λ (l : Contains background i). l) (λ (r : Contains [] i). absurd (contains_none i r)) (Contains-append_cases background [] i m))))

    small-plan : (small : List Answer) → fd all_places small ≡ over small small_plan
    small-plan small =
        fd_part-plan (length all_places) small all_places [] true
        ∙ ap (λ n. over small (fd_plan n all_places [] true)) (length-range_with_len 1 (length positions))

    -- a set of places that FastDiag asks or keeps
    abbrev IsOfPlaces : List ℕ → Type 0
    IsOfPlaces set = IsWithin set ([] ++ all_places) × Ascends set

    places-rise : (set : List ℕ) → IsOfPlaces set → RiseWithin 0 (length positions) set
    places-rise set a = rises-from_Ascends 0 (length positions) set a.1 (λ y m. all-there y (a.0 y m))

    renamed-places : (next : Next) → renamed asked_for (at_places positions) IsOfPlaces IsOfPlaces next ≡ next_at_places positions background next
    renamed-places (Ask s) = refl
    renamed-places (Done s) = refl

    pub fd-renumbered : (small table : List Answer) → AnswersByPlaces positions background table small → fd_behind table positions background true ≡ next_at_places positions background (fd all_places small)
    fd-renumbered small table same =
        fd_part-plan (length positions) table positions background true
        ∙ IsImage-over asked_for (at_places positions) IsOfPlaces (λ set. IsWithin set all_places × Ascends set) small table (λ s a. same s (places-rise s a)) small_plan whole_plan (kept-there (length positions) all_places [] true all-ascend) whole-image
        ∙ renamed-places (over small small_plan)
        ∙ ap (next_at_places positions background) (sym (small-plan small))

    module _ (small table : List Answer) (more : AnswersSomeByPlaces positions background table small) where
      pub fd-renumbered_asks : (places : List ℕ) → fd all_places small ≡ Ask places → answer_to table (asked_for places) ≡ None → fd_behind table positions background true ≡ Ask (asked_for places)
      fd-renumbered_asks places e none =
          fd_part-plan (length positions) table positions background true
          ∙ IsImage-asked asked_for (at_places positions) IsOfPlaces (λ set. IsWithin set all_places × Ascends set) small table (λ s sat a known. more s sat (places-rise s a) known) small_plan whole_plan (kept-there (length positions) all_places [] true all-ascend) whole-image places (sym (small-plan small) ∙ e) none

      pub fd-renumbered_finds : (places : List ℕ) → fd all_places small ≡ Done places → fd_behind table positions background true ≡ Done (at_places positions places)
      fd-renumbered_finds places e =
          fd_part-plan (length positions) table positions background true
          ∙ IsImage-found asked_for (at_places positions) IsOfPlaces (λ set. IsWithin set all_places × Ascends set) small table (λ s sat a known. more s sat (places-rise s a) known) small_plan whole_plan (kept-there (length positions) all_places [] true all-ascend) whole-image places (sym (small-plan small) ∙ e)
