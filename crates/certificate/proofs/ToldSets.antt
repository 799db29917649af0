-- The sets of positions that a table has an answer on, by their members, and what a recursion finds by the answers of a table.
use Rattle.std.proofs.Common.{◌≡◌, ℕ, Bool, true, false, Some, List, subst, ⊎_elim}
use Rattle.std.specs.Prelude.{Contains}
use Rattle.pref_sets.specs.Answers.{Answer, Done, answer_to}
use Rattle.pref_sets.specs.Plan.{Plan, found, asks, over, chain}
use Rattle.pref_sets.proofs.AscendingPositions.{Ascends, Ascends-same}
use Rattle.pref_sets.proofs.Plans.{GoesOn, IsAsked, over-cases}

module _ (table : List Answer) where
  -- the table has this answer on the ascending set with these members
  pub record HasTold (sat : Bool) (In : ℕ → Type 0) : Type 0 where
    pub set : List ℕ
    pub ascends : Ascends set
    pub there : (k : ℕ) → Contains set k → In k
    pub back : (k : ℕ) → In k → Contains set k
    pub told : answer_to table set ≡ Some sat

  pub told-same : (sat : Bool) (In Out : ℕ → Type 0) → ((k : ℕ) → In k → Out k) → ((k : ℕ) → Out k → In k) → HasTold sat In → HasTold sat Out
  told-same sat In Out to from h =
      record { set = h.set; ascends = h.ascends; there = λ k m. to k (h.there k m); back = λ k m. h.back k (from k m); told = h.told }

  -- so of a list that ascends
  pub told-list : (sat : Bool) (In : ℕ → Type 0) (list : List ℕ) → Ascends list → ((k : ℕ) → In k → Contains list k) → ((k : ℕ) → Contains list k → In k) → HasTold sat In → answer_to table list ≡ Some sat
  told-list sat In list rises to from h =
      let same : h.set ≡ list = Ascends-same h.set list h.ascends rises (λ k m. to k (h.there k m)) (λ k m. h.back k (from k m)) in
      rw (← same) h.told

  -- a plan finds such a set by the answers of the table
  abbrev pub Traces : (List ℕ → Type 0) → Plan → Type 0
  Traces R (found set) = R set
  Traces R (asks set go) = (answer_to table set ≡ Some true → Traces R (go true)) × (answer_to table set ≡ Some false → Traces R (go false))

  pub Traces-chain : (Q R : List ℕ → Type 0) (plan : Plan) (follow : List ℕ → Plan) → Traces Q plan → ((set : List ℕ) → Q set → Traces R (follow set)) → Traces R (chain plan follow)
  Traces-chain Q R (found set) follow h k = k set h
  Traces-chain Q R (asks set go) follow h k =
      ((λ e. Traces-chain Q R (go true) follow (h.0 e) k), (λ e. Traces-chain Q R (go false) follow (h.1 e) k))

  Traces-known : (R : List ℕ → Type 0) (set : List ℕ) (go : Bool → Plan) → Traces R (asks set go) → (sat : Bool) → answer_to table set ≡ Some sat → Traces R (go sat)
  Traces-known R set go h true e = h.0 e
  Traces-known R set go h false e = h.1 e

  pub Traces-over : (R : List ℕ → Type 0) (plan : Plan) → Traces R plan → (set : List ℕ) → over table plan ≡ Done set → R set
  Traces-over R (found other) h set e = let same : other ≡ set = cc in subst R same h
  Traces-over R (asks other go) h set e =
      ⊎_elim
      (λ (a : IsAsked table other (Done set)). absurd (cc (a.asked)))
      (λ (k : GoesOn table other go (Done set)). Traces-over R (go k.sat) (Traces-known R other go h k.sat k.known) set k.further)
      (over-cases table other go (Done set) e)
