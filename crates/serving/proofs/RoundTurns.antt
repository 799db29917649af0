-- The orders of a turn are ready where the turn before left the table, or on a table without an entry.
use Rattle.std.proofs.Common.{◌≡◌, ◌∙◌, refl, sym, ap, subst, ℕ, zero, suc, ◌+◌, ◌-◌, ◌<◌, ◌≤◌, Bool, true, false, cond, List, [], ◌∷◌, ◌++◌, filter, length, map, drop, ⊎_elim, arith, length-append}
use Rattle.std.specs.Prelude.{All, Contains, is_none, not}
use Rattle.std.proofs.lemmas.Bool.{true≢false, false≢true, not-true}
use Rattle.std.proofs.lemmas.List.{append-nil, append_assoc, drop-append-le, drop_all, length-take, map-append}
use Rattle.std.proofs.lemmas.List.Elements.{All-append, All-cons, All-contains, All-filter, All-map, All-nil, All-take, All-weaker, Contains-append_cases}
use mathlib.Core.Option.{some}
use lib.ListN.{get_elem?}
use Rattle.lists.specs.Distinct.{IsDistinct}
use Rattle.lists.proofs.Members.{first, later, none, first_or_later, from_filter, from_map, to_map}
use Rattle.req_keys.specs.Key.{PositionSet}
use Rattle.look_ahead.specs.Posting.{PostingState, after_turn, in_round, is_full, is_wanted, lacking, live_entry, numbered, numbers_of, orders_of, to_post, unwanted, with_posts, with_wanted}
use Rattle.look_ahead.specs.declared.orders.Orders.{Orders}
use Rattle.check_table.specs.Found.{IsWanted}
use Rattle.check_table.specs.declared.view.MainView.{MainView}
use Rattle.check_table.proofs.Entries.{at_less}
use Rattle.serving.specs.Entries.{keys_of, StandsUnder}
use Rattle.serving.specs.Laws.{IsTurn}
use Rattle.serving.specs.Rounds.{round_keys, AreReady, IsHeld, IsRound}
use Rattle.serving.proofs.LiveEntries.{all-members, round-length}
use Rattle.serving.proofs.StandingEntries.{at-longer, keys-length, stands-wanted}

-- ---- lists without a repeated item

distinct-append : {X : Type 0} (xs ys : List X) → IsDistinct xs → IsDistinct ys → ((x : X) → Contains xs x → ¬ Contains ys x) → IsDistinct (xs ++ ys)
distinct-append [] ys a b apart = b
distinct-append (x ∷ xs) ys a b apart = (
  (λ m. ⊎_elim (λ (l : Contains xs x). a.0 l) (λ (r : Contains ys x). apart x (first x xs) r) (Contains-append_cases xs ys x m)),
  distinct-append xs ys a.1 b (λ y m. apart y (later x xs y m)),
)

-- of members with distinct images one image has one
distinct-same : {X Y : Type 0} (f : X → Y) (xs : List X) (a b : X) → IsDistinct (map f xs) → Contains xs a → Contains xs b → f a ≡ f b → a ≡ b
distinct-same f [] a b d m n same = absurd (none a m)
distinct-same f (x ∷ xs) a b d m n same =
    ⊎_elim
    (λ (ha : x ≡ a). ⊎_elim
    (λ (hb : x ≡ b). sym ha ∙ hb)
    (λ (tb : Contains xs b). absurd (d.0 (subst (Contains (map f xs)) (sym same ∙ ap f (sym ha)) (to_map f xs b tb))))
    (first_or_later x xs b n))
    (λ (ta : Contains xs a). ⊎_elim
    (λ (hb : x ≡ b). absurd (d.0 (subst (Contains (map f xs)) (same ∙ ap f (sym hb)) (to_map f xs a ta))))
    (λ (tb : Contains xs b). distinct-same f xs a b d.1 ta tb same)
    (first_or_later x xs b n))
    (first_or_later x xs a m)

module _ (p : PositionSet × ℕ → Bool) where
  filter-in : (live : List (PositionSet × ℕ)) (n : ℕ) → Contains (numbers_of (filter p live)) n → Contains (numbers_of live) n
  filter-in live n m =
      let l = from_map (λ (x : PositionSet × ℕ). x.1) (filter p live) n m in
      subst (Contains (numbers_of live)) l.2 (to_map (λ (x : PositionSet × ℕ). x.1) live l.0 (from_filter p live l.0 l.1).0)

  distinct-filter : (live : List (PositionSet × ℕ)) → IsDistinct (numbers_of live) → IsDistinct (numbers_of (filter p live))
  distinct-filter [] d = d
  distinct-filter (x ∷ xs) d =
      elim (p x) as (λ b. IsDistinct (numbers_of (cond b (x ∷ filter p xs) (filter p xs)))) [
        | true ↦ ((λ m. d.0 (filter-in xs x.1 m)), distinct-filter xs d.1)
        | false ↦ distinct-filter xs d.1
      ]

-- ---- numbered posts

at-front : (front : List PositionSet) (key : PositionSet) (keys : List PositionSet) (n : ℕ) → length front ≡ n → get_elem? (front ++ key ∷ keys) n ≡ some key
at-front [] key keys zero e = refl
at-front [] key keys (suc n) e = absurd (omega arith)
at-front (x ∷ xs) key keys zero e = absurd (omega arith)
at-front (x ∷ xs) key keys (suc n) e = at-front xs key keys n (omega arith)

numbered-named : (posts front : List PositionSet) (n : ℕ) → length front ≡ n → All (λ l. get_elem? (front ++ posts) l.1 ≡ some l.0) (numbered n posts)
numbered-named [] front n e = All-nil (λ (l : PositionSet × ℕ). get_elem? (front ++ []) l.1 ≡ some l.0)
numbered-named (key ∷ keys) front n e =
    let more = length-append front (key ∷ []) in
    let rest = numbered-named keys (front ++ key ∷ []) (n + 1) (omega arith) in
    All-cons (λ (l : PositionSet × ℕ). get_elem? (front ++ key ∷ keys) l.1 ≡ some l.0) (key, n) (numbered (n + 1) keys)
    (at-front front key keys n e)
    (subst (λ (all : List PositionSet). All (λ (l : PositionSet × ℕ). get_elem? all l.1 ≡ some l.0) (numbered (n + 1) keys)) (append_assoc front (key ∷ []) keys) rest)

numbered-past : (n : ℕ) (posts : List PositionSet) → All (λ l. n ≤ l.1) (numbered n posts)
numbered-past n [] = All-nil (λ (l : PositionSet × ℕ). n ≤ l.1)
numbered-past n (key ∷ keys) =
    All-cons (λ (l : PositionSet × ℕ). n ≤ l.1) (key, n) (numbered (n + 1) keys) (omega arith)
    (All-weaker (λ (l : PositionSet × ℕ). n + 1 ≤ l.1) (λ l. n ≤ l.1) (λ l h. omega arith) (numbered (n + 1) keys) (numbered-past (n + 1) keys))

numbers-past : (n m : ℕ) (posts : List PositionSet) → Contains (numbers_of (numbered n posts)) m → n ≤ m
numbers-past n m posts c =
    let l = from_map (λ (x : PositionSet × ℕ). x.1) (numbered n posts) m c in
    subst (λ (k : ℕ). n ≤ k) l.2 (All-contains (λ (x : PositionSet × ℕ). n ≤ x.1) (numbered n posts) l.0 (numbered-past n posts) l.1)

numbered-distinct : (n : ℕ) (posts : List PositionSet) → IsDistinct (numbers_of (numbered n posts))
numbered-distinct n [] = tt
numbered-distinct n (key ∷ keys) = ((λ m. let past = numbers-past (n + 1) n keys m in omega arith), numbered-distinct (n + 1) keys)

-- ---- a round that is held

-- a live number is one of the round's
module _ (posting : PostingState) (round : IsRound posting) where
  live-below : (l : PositionSet × ℕ) → Contains posting.live l → l.1 < posting.taken
  live-below l m =
      let named : get_elem? (round_keys posting) l.1 ≡ some l.0 = All-contains (λ (x : PositionSet × ℕ). get_elem? (round_keys posting) x.1 ≡ some x.0) posting.live l round.named m in
      let less = at_less (round_keys posting) l.1 l.0 named in
      let long = round-length posting round in
      omega arith

-- what is wanted is held
held-wanted : (main : MainView) (posting : PostingState) (asked : PositionSet) (list : List PositionSet) → IsHeld main posting → IsHeld main (with_wanted asked list posting)
held-wanted main posting asked list held = record {
  round = record {
    within = held.round.within;
    counted = held.round.counted;
    named = All-filter (is_wanted asked list) (λ (l : PositionSet × ℕ). get_elem? (round_keys posting) l.1 ≡ some l.0) posting.live held.round.named;
    apart = distinct-filter (is_wanted asked list) posting.live held.round.apart;
  };
  size = held.size;
  keys = held.keys;
  live = All-filter (is_wanted asked list) (λ (l : PositionSet × ℕ). StandsUnder main.entries l.1 l.0) posting.live held.live;
}

-- a table without an entry holds a round that has taken none
pub held-none : (main : MainView) (entries : ℕ) (posted : List PositionSet) (settled : ℕ) → main.entries ≡ [] → main.size ≡ entries → IsHeld main (record { entries = entries; live = []; taken = 0; posted = posted; settled = settled })
held-none main entries posted settled none size = record {
  round = record {
    within = omega arith;
    counted = omega arith;
    named = All-nil (λ (l : PositionSet × ℕ). get_elem? (drop (length posted - 0) posted) l.1 ≡ some l.0);
    apart = tt;
  };
  size = sym size;
  keys = ap keys_of none ∙ sym (drop_all (length posted - 0) posted (omega arith));
  live = All-nil (λ (l : PositionSet × ℕ). StandsUnder main.entries l.1 l.0);
}

-- posts more in a round that is held
module _ (main : MainView) (posting : PostingState) (held : IsHeld main posting) (posts : List PositionSet) (few : length posts ≤ posting.entries - posting.taken) where
  abbrev after : PostingState
  after = with_posts posts posting

  long : length (round_keys posting) ≡ posting.taken
  long = round-length posting held.round

  entries-long : length main.entries ≡ posting.taken
  entries-long = sym (keys-length main.entries) ∙ ap length held.keys ∙ long

  keys-after : round_keys after ≡ round_keys posting ++ posts
  keys-after =
      let all = length-append posting.posted posts in
      let counted = held.round.counted in
      let same : length (posting.posted ++ posts) - (posting.taken + length posts) ≡ length posting.posted - posting.taken = omega arith in
      ap (λ (n : ℕ). drop n (posting.posted ++ posts)) same ∙ drop-append-le (length posting.posted - posting.taken) posting.posted posts (omega arith)

  named-after : All (λ l. get_elem? (round_keys posting ++ posts) l.1 ≡ some l.0) after.live
  named-after =
      All-append (λ (l : PositionSet × ℕ). get_elem? (round_keys posting ++ posts) l.1 ≡ some l.0) posting.live (numbered posting.taken posts)
      (All-weaker (λ (l : PositionSet × ℕ). get_elem? (round_keys posting) l.1 ≡ some l.0) (λ l. get_elem? (round_keys posting ++ posts) l.1 ≡ some l.0) (λ l at. at-longer (round_keys posting) posts l.1 l.0 at) posting.live held.round.named)
      (numbered-named posts (round_keys posting) posting.taken long)

  apart-after : IsDistinct (numbers_of after.live)
  apart-after =
      subst IsDistinct (sym (map-append (λ (l : PositionSet × ℕ). l.1) posting.live (numbered posting.taken posts)))
      (distinct-append (numbers_of posting.live) (numbers_of (numbered posting.taken posts)) held.round.apart (numbered-distinct posting.taken posts)
      (λ n m c.
      let l = from_map (λ (x : PositionSet × ℕ). x.1) posting.live n m in
      let below : l.0.1 < posting.taken = live-below posting held.round l.0 l.1 in
      let is : l.0.1 ≡ n = l.2 in
      let past = numbers-past posting.taken n posts c in
      omega arith))

  round-after : IsRound after
  round-after =
      let within = held.round.within in
      let counted = held.round.counted in
      let all = length-append posting.posted posts in
      record {
        within = omega arith;
        counted = omega arith;
        named = subst (λ (keys : List PositionSet). All (λ (l : PositionSet × ℕ). get_elem? keys l.1 ≡ some l.0) after.live) (sym keys-after) named-after;
        apart = apart-after;
      }

  live-after : All (λ l. l.1 < length main.entries → StandsUnder main.entries l.1 l.0) after.live
  live-after =
      All-append (λ (l : PositionSet × ℕ). l.1 < length main.entries → StandsUnder main.entries l.1 l.0) posting.live (numbered posting.taken posts)
      (All-weaker (λ (l : PositionSet × ℕ). StandsUnder main.entries l.1 l.0) (λ l. l.1 < length main.entries → StandsUnder main.entries l.1 l.0) (λ l stands less. stands) posting.live held.live)
      (All-weaker (λ (l : PositionSet × ℕ). posting.taken ≤ l.1) (λ l. l.1 < length main.entries → StandsUnder main.entries l.1 l.0) (λ l past less. let e = entries-long in absurd (omega arith)) (numbered posting.taken posts) (numbered-past posting.taken posts))

  pub ready-posts : (orders : Orders) → orders.post ≡ posts → All (λ key. key.n ≡ length main.problem.roots) posts
      → (orders.new_round ≡ true → main.entries ≡ [])
      → (orders.new_round ≡ false → All (IsWanted main) orders.cancel)
      → (orders.new_round ≡ false → IsDistinct orders.cancel)
      → (orders.new_round ≡ false → All (λ live. ¬ Contains orders.cancel live.1) after.live)
      → AreReady main after orders
  ready-posts orders is over begins wanted once others = record {
    round = round-after;
    size = held.size;
    keys = ap (λ (l : List PositionSet). keys_of main.entries ++ l) is ∙ ap (λ (l : List PositionSet). l ++ posts) held.keys ∙ sym keys-after;
    over = subst (λ (l : List PositionSet). All (λ (key : PositionSet). key.n ≡ length main.problem.roots) l) (sym is) over;
    live = live-after;
    begins = begins;
    wanted = wanted;
    once = once;
    others = others;
  }

-- ---- a turn

module _ (main : MainView) (asked : PositionSet) (list : List PositionSet) (positions : All (λ key. key.n ≡ length main.problem.roots) list) (s : PostingState) where
  abbrev orders_by : Bool → Orders
  orders_by new = record {
    new_round = new;
    cancel = unwanted asked list s ++ cond new (numbers_of (with_wanted asked list s).live) [];
    post = to_post list (in_round new (with_wanted asked list s));
  }

  abbrev after_by : Bool → PostingState
  after_by new = let before = in_round new (with_wanted asked list s) in with_posts (to_post list before) before

  over-posts : (st : PostingState) → All (λ key. key.n ≡ length main.problem.roots) (to_post list st)
  over-posts st =
      let P : PositionSet → Type 0 = λ key. key.n ≡ length main.problem.roots in
      All-take P (st.entries - st.taken) (lacking st.live list) (All-filter (λ key. is_none (live_entry st.live key)) P list positions)

  few-posts : (st : PostingState) → length (to_post list st) ≤ st.entries - st.taken
  few-posts st = let long = length-take (st.entries - st.taken) (lacking st.live list) in omega arith

  -- in the same round
  module _ (held : IsHeld main s) where
    abbrev others_of : PositionSet × ℕ → Bool
    others_of l = not (is_wanted asked list l)

    abbrev cancel : List ℕ
    cancel = unwanted asked list s

    cancel-wanted : All (IsWanted main) cancel
    cancel-wanted =
        All-map (IsWanted main) (λ (l : PositionSet × ℕ). l.1) (filter others_of s.live)
        (All-filter others_of (λ l. IsWanted main l.1) s.live (All-weaker (λ (l : PositionSet × ℕ). StandsUnder main.entries l.1 l.0) (λ l. IsWanted main l.1) (λ l stands. stands-wanted main l.1 l.0 stands) s.live held.live))

    cancel-once : IsDistinct cancel
    cancel-once = distinct-filter others_of s.live held.round.apart

    -- what is cancelled was live, and isn't wanted
    cancel-from : (n : ℕ) → Contains cancel n → (l : PositionSet × ℕ) × Contains s.live l × (l.1 ≡ n) × (is_wanted asked list l ≡ false)
    cancel-from n m =
        let l = from_map (λ (x : PositionSet × ℕ). x.1) (filter others_of s.live) n m in
        let f = from_filter others_of s.live l.0 l.1 in
        (l.0, f.0, l.2, not-true (is_wanted asked list l.0) f.1)

    kept-others : (l : PositionSet × ℕ) → Contains {X = PositionSet × ℕ} (filter (is_wanted asked list) s.live) l → ¬ Contains cancel l.1
    kept-others l m c =
        let f = from_filter (is_wanted asked list) s.live l m in
        let d = cancel-from l.1 c in
        let same : d.0 ≡ l = distinct-same (λ (x : PositionSet × ℕ). x.1) s.live d.0 l held.round.apart d.1 f.0 d.2 in
        true≢false (sym f.1 ∙ sym (ap (is_wanted asked list) same) ∙ d.3)

    posts-others : (posts : List PositionSet) → All (λ l. ¬ Contains cancel l.1) (numbered s.taken posts)
    posts-others posts =
        All-weaker (λ (l : PositionSet × ℕ). s.taken ≤ l.1) (λ l. ¬ Contains cancel l.1)
        (λ l past c.
        let d = cancel-from l.1 c in
        let below : d.0.1 < s.taken = live-below s held.round d.0 d.1 in
        let is : d.0.1 ≡ l.1 = d.2 in
        omega arith)
        (numbered s.taken posts) (numbered-past s.taken posts)

    same-round : AreReady main (after_by false) (orders_by false)
    same-round =
        let st = with_wanted asked list s in
        let whole : cancel ++ [] ≡ cancel = append-nil cancel in
        ready-posts main st (held-wanted main s asked list held) (to_post list st) (few-posts st) (orders_by false) refl (over-posts st)
        (λ e. absurd (false≢true e))
        (λ _. subst (All (IsWanted main)) (sym whole) cancel-wanted)
        (λ _. subst IsDistinct (sym whole) cancel-once)
        (λ _. subst (λ (c : List ℕ). All (λ (l : PositionSet × ℕ). ¬ Contains c l.1) (after_by false).live) (sym whole)
        (All-append (λ (l : PositionSet × ℕ). ¬ Contains cancel l.1) st.live (numbered s.taken (to_post list st))
        (all-members st.live (λ (l : PositionSet × ℕ). ¬ Contains cancel l.1) kept-others)
        (posts-others (to_post list st))))

  -- in a new one
  new-round : main.entries ≡ [] → main.size ≡ s.entries → AreReady main (after_by true) (orders_by true)
  new-round none size =
      let st = in_round true (with_wanted asked list s) in
      ready-posts main st (held-none main s.entries s.posted s.settled none size) (to_post list st) (few-posts st) (orders_by true) refl (over-posts st)
      (λ _. none)
      (λ e. absurd (true≢false e))
      (λ e. absurd (true≢false e))
      (λ e. absurd (true≢false e))

  -- whether a new round begins is told by the orders
  follows-by : (new : Bool) → new ≡ false → IsHeld main s → AreReady main (after_by new) (orders_by new)
  follows-by true is held = absurd (true≢false is)
  follows-by false is held = same-round held

  begins-by : (new : Bool) → new ≡ true → main.entries ≡ [] → main.size ≡ s.entries → AreReady main (after_by new) (orders_by new)
  begins-by true is none size = new-round none size
  begins-by false is none size = absurd (false≢true is)

module _ (main : MainView) (before after : PostingState) (orders : Orders) (asked : PositionSet) (list : List PositionSet) (turn : IsTurn (length main.problem.roots) before after orders asked list) where
  ready : AreReady main (after_turn asked list before) (orders_of asked list before) → AreReady main after orders
  ready is =
      subst (λ (s : PostingState). AreReady main s orders) (sym turn.turned)
      (subst (λ (o : Orders). AreReady main (after_turn asked list before) o) (sym turn.ordered) is)

  new_is : (new : Bool) → orders.new_round ≡ new → is_full list (with_wanted asked list before) ≡ new
  new_is new e = sym (ap (λ (o : Orders). o.new_round) turn.ordered) ∙ e

  pub turn-follows : IsHeld main before → orders.new_round ≡ false → AreReady main after orders
  turn-follows held same = ready (follows-by main asked list turn.positions before (is_full list (with_wanted asked list before)) (new_is false same) held)

  pub round-begins : main.entries ≡ [] → main.size ≡ before.entries → orders.new_round ≡ true → AreReady main after orders
  round-begins none size new = ready (begins-by main asked list turn.positions before (is_full list (with_wanted asked list before)) (new_is true new) none size)
