-- A turn, put together from its parts.
use Rattle.std.proofs.Common.{◌≡◌, ◌∙◌, refl, sym, ap, subst, ℕ, suc, ◌+◌, ◌-◌, ◌<◌, ◌≤◌, Bool, true, false, cond, ◌&&◌, Result, Ok, Err, List, [], ◌∷◌, ◌++◌, filter, length, take, arith}
use Rattle.std.specs.Prelude.{IfOk, nat_lt}
use Rattle.std.proofs.lemmas.Bool.{lt-ltb, le-ltb}
use Rattle.std.proofs.lemmas.List.{append-nil, length-append, length-take}
use Rattle.req_keys.specs.Key.{PositionSet}
use Rattle.look_ahead.specs.Posting.{PostingState, after_turn, in_round, is_full, lacking, numbered, numbers_of, orders_of, to_post, unwanted, with_posts, with_wanted}
use Rattle.look_ahead.specs.declared.orders.Orders.{Orders}
use Rattle.look_ahead.specs.declared.posting.Turn.{Turn}
use Rattle.look_ahead.specs.inside.Turns.{IsPosting, IsTurn, round_of}
use Rattle.look_ahead.proofs.LiveEntries.{length-numbered}

module _ (asked : PositionSet) (list : List PositionSet) where
  -- the turn where a new round begins, or not
  abbrev orders_by : Bool → PostingState → Orders
  orders_by new state = record {
    new_round = new;
    cancel = unwanted asked list state ++ cond new (numbers_of (with_wanted asked list state).live) [];
    post = to_post list (in_round new (with_wanted asked list state));
  }

  abbrev after_by : Bool → PostingState → PostingState
  after_by new state = let before = in_round new (with_wanted asked list state) in with_posts (to_post list before) before

  module _ (entries taken : ℕ) (live : List (PositionSet × ℕ)) (turn : Turn) where
    abbrev state : PostingState
    state = round_of entries live taken

    abbrev kept : List (PositionSet × ℕ)
    kept = (with_wanted asked list state).live

    by : (new : Bool) → is_full list (with_wanted asked list state) ≡ new → turn.orders ≡ orders_by new state → turn.live.entries ≡ (after_by new state).live → turn.taken ≡ (after_by new state).taken → IsTurn state asked list turn
    by new full orders live_is taken_is = record {
      orders = orders ∙ ap (λ b. orders_by b state) (sym full);
      live = live_is ∙ ap (λ b. (after_by b state).live) (sym full);
      taken = taken_is ∙ ap (λ b. (after_by b state).taken) (sym full);
    }

    orders_is : (new : Bool) (cancel : List ℕ) (post : List PositionSet) → turn.orders.new_round ≡ new → turn.orders.cancel ≡ cancel → turn.orders.post ≡ post → turn.orders ≡ record { new_round = new; cancel = cancel; post = post }
    orders_is new cancel post a b c = λ j. record { new_round = a j; cancel = b j; post = c j }

    pub new_turn : is_full list (with_wanted asked list state) ≡ true → turn.orders.new_round ≡ true → turn.orders.cancel ≡ unwanted asked list state ++ numbers_of kept → turn.orders.post ≡ take entries (lacking [] list) → turn.live.entries ≡ numbered 0 turn.orders.post → turn.taken ≡ length turn.orders.post → IsTurn state asked list turn
    new_turn full new cancel post live_is taken_is =
        let all : entries ≡ entries - 0 = omega arith in
        let posts : turn.orders.post ≡ take (entries - 0) (lacking [] list) = post ∙ ap (λ n. take n (lacking [] list)) all in
        let count : length (take (entries - 0) (lacking [] list)) ≡ 0 + length (take (entries - 0) (lacking [] list)) = omega arith in
        by true full
        (orders_is true (unwanted asked list state ++ numbers_of kept) (take (entries - 0) (lacking [] list)) new cancel posts)
        (live_is ∙ ap (numbered 0) posts)
        (taken_is ∙ ap length posts ∙ count)

    pub same_turn : is_full list (with_wanted asked list state) ≡ false → turn.orders.new_round ≡ false → turn.orders.cancel ≡ unwanted asked list state → turn.orders.post ≡ take (entries - taken) (lacking kept list) → turn.live.entries ≡ kept ++ numbered taken turn.orders.post → turn.taken ≡ taken + length turn.orders.post → IsTurn state asked list turn
    same_turn full new cancel posts live_is taken_is =
        by false full
        (orders_is false (unwanted asked list state ++ []) (take (entries - taken) (lacking kept list)) new (cancel ∙ sym (append-nil (unwanted asked list state))) posts)
        (live_is ∙ ap (λ p. kept ++ numbered taken p) posts)
        (taken_is ∙ ap (λ p. taken + length p) posts)

  -- the turn of a whole state is that of its round
  module _ (s : PostingState) where
    abbrev round : PostingState
    round = round_of s.entries s.live s.taken

    whole_by : (new : Bool) → after_by new s ≡ record {
      entries = s.entries;
      live = (after_by new round).live;
      taken = (after_by new round).taken;
      posted = s.posted ++ (orders_by new round).post;
      settled = s.settled;
    }
    whole_by true = refl
    whole_by false = refl

    orders_by_round : (new : Bool) → orders_by new s ≡ orders_by new round
    orders_by_round true = refl
    orders_by_round false = refl

    pub orders-round : orders_of asked list s ≡ orders_of asked list round
    orders-round = orders_by_round (is_full list (with_wanted asked list s))

    pub turn-whole : after_turn asked list s ≡ record {
      entries = s.entries;
      live = (after_turn asked list round).live;
      taken = (after_turn asked list round).taken;
      posted = s.posted ++ (orders_of asked list round).post;
      settled = s.settled;
    }
    turn-whole = whole_by (is_full list (with_wanted asked list s))

    fewer : {X : Type 0} (p : X → Bool) (xs : List X) → length (filter p xs) ≤ length xs
    fewer p [] = omega arith
    fewer p (x ∷ xs) = let rest = fewer p xs in elim (p x) as (λ b. length (cond b (x ∷ filter p xs) (filter p xs)) ≤ suc (length xs)) [ true ↦ omega (arith, rest) | false ↦ omega (arith, rest) ]

    keeps_by : (new : Bool) → IsPosting s → IsPosting (after_by new s)
    keeps_by true is =
        let lacks = lacking [] list in
        let posts = take (s.entries - 0) lacks in
        let long = length-take (s.entries - 0) lacks in
        let all = length-append s.posted posts in
        let numbers = length-numbered 0 posts in
        record { most = is.most; within = omega (arith, long); counted = omega (arith, all, numbers, is.counted) }
    keeps_by false is =
        let kept = (with_wanted asked list s).live in
        let lacks = lacking kept list in
        let posts = take (s.entries - s.taken) lacks in
        let long = length-take (s.entries - s.taken) lacks in
        let all = length-append s.posted posts in
        let numbers = length-numbered s.taken posts in
        let both = length-append kept (numbered s.taken posts) in
        let few : length kept ≤ length s.live = fewer _ s.live in
        record { most = is.most; within = omega (arith, long, is.within); counted = omega (arith, all, numbers, both, few, is.counted) }

    pub turn-keeps : IsPosting s → IsPosting (after_turn asked list s)
    turn-keeps is = keeps_by (is_full list (with_wanted asked list s)) is

-- whether a new round begins, by the numbers that the code compares
pub full-true : (entries taken : ℕ) (live : List (PositionSet × ℕ)) (list : List PositionSet) (n : ℕ) → n ≡ length (lacking live list) → 0 < taken → entries - taken < n → is_full list (round_of entries live taken) ≡ true
full-true entries taken live list n e some more =
    let missing : entries - taken < length (lacking live list) = omega arith in
    ap (λ b. b && nat_lt (entries - taken) (length (lacking live list))) (lt-ltb 0 taken some) ∙ lt-ltb (entries - taken) (length (lacking live list)) missing

pub full-none : (entries taken : ℕ) (live : List (PositionSet × ℕ)) (list : List PositionSet) → taken ≤ 0 → is_full list (round_of entries live taken) ≡ false
full-none entries taken live list none = ap (λ b. b && nat_lt (entries - taken) (length (lacking live list))) (le-ltb 0 taken none)

pub full-room : (entries taken : ℕ) (live : List (PositionSet × ℕ)) (list : List PositionSet) (n : ℕ) → n ≡ length (lacking live list) → n ≤ entries - taken → is_full list (round_of entries live taken) ≡ false
full-room entries taken live list n e room =
    let enough : length (lacking live list) ≤ entries - taken = omega arith in
    ap (λ b. nat_lt 0 taken && b) (le-ltb (entries - taken) (length (lacking live list)) enough) ∙ and-false (nat_lt 0 taken)
  where
    and-false : (b : Bool) → (b && false) ≡ false
    and-false true = refl
    and-false false = refl

-- what five clauses say of a turn together
pub turn_of_parts : {E : Type 0} (result : Result Turn E) (A B C D F P : Turn → Type 0) → IfOk result A → IfOk result B → IfOk result C → IfOk result D → IfOk result F → ((turn : Turn) → A turn → B turn → C turn → D turn → F turn → P turn) → IfOk result P
turn_of_parts (Ok turn) A B C D F P a b c d f all = all turn a b c d f
turn_of_parts (Err e) A B C D F P a b c d f all = tt

-- a turn that was entered in the whole state
module _ (asked : PositionSet) (list : List PositionSet) (s : PostingState) (turn : Turn) (posted : List PositionSet) (is : IsTurn (round_of s.entries s.live s.taken) asked list turn) (put : posted ≡ s.posted ++ turn.orders.post) where
  pub entered : record { entries = s.entries; live = turn.live.entries; taken = turn.taken; posted = posted; settled = s.settled } ≡ after_turn asked list s
  entered =
      let all : posted ≡ s.posted ++ (orders_of asked list (round_of s.entries s.live s.taken)).post = put ∙ ap (λ (o : Orders). s.posted ++ o.post) is.orders in
      let whole : record { entries = s.entries; live = turn.live.entries; taken = turn.taken; posted = posted; settled = s.settled } ≡ record {
        entries = s.entries;
        live = (after_turn asked list (round_of s.entries s.live s.taken)).live;
        taken = (after_turn asked list (round_of s.entries s.live s.taken)).taken;
        posted = s.posted ++ (orders_of asked list (round_of s.entries s.live s.taken)).post;
        settled = s.settled;
      } = λ j. record { entries = s.entries; live = is.live j; taken = is.taken j; posted = all j; settled = s.settled } in
      whole ∙ sym (turn-whole asked list s)

  pub entered-keeps : IsPosting s → IsPosting (record { entries = s.entries; live = turn.live.entries; taken = turn.taken; posted = posted; settled = s.settled })
  entered-keeps keeps = subst IsPosting (sym entered) (turn-keeps asked list s keeps)

  pub entered-orders : turn.orders ≡ orders_of asked list s
  entered-orders = is.orders ∙ sym (orders-round asked list s)
