-- What a plan finds, which sets it asks and how many, told once for all recursions.
use Rattle.std.proofs.Common.{eqb, ◌≡◌, ℕ, ◌+◌, ◌<◌, ◌≤◌, ◌-◌, Bool, true, false, Option, Some, None, List, [], ◌∷◌, ◌++◌, ◌⊎◌, refl, sym, ◌∙◌, subst, inl, inr, ⊎_elim, arith}
use Rattle.std.specs.Cmp.Lexicographic.{pointwise}
use Rattle.std.proofs.lemmas.Bool.{cases_Bool}
use Rattle.std.proofs.lemmas.Slice.Eq.{bytes_eq-Decides}
use Rattle.pref_sets.specs.Answers.{Answer, AgreesWith, Next, Ask, Done, answer_to, by_answer, and_then}
use Rattle.pref_sets.specs.Plan.{Plan, found, asks, over, chain, AsksOnly}

by_answer-and_then : (set : List ℕ) (answer : Option Bool) (sat unsat : Next) (follow : List ℕ → Next) → by_answer set answer (and_then sat follow) (and_then unsat follow) ≡ and_then (by_answer set answer sat unsat) follow
by_answer-and_then set None sat unsat follow = refl
by_answer-and_then set (Some true) sat unsat follow = refl
by_answer-and_then set (Some false) sat unsat follow = refl

pub over-chain : (table : List Answer) (plan : Plan) (follow : List ℕ → Plan) → over table (chain plan follow) ≡ and_then (over table plan) (λ set. over table (follow set))
over-chain table (found set) follow = refl
over-chain table (asks set go) follow =
    rw (over-chain table (go true) follow, over-chain table (go false) follow)
    (by_answer-and_then set (answer_to table set) (over table (go true)) (over table (go false)) (λ set. over table (follow set)))

-- where the table has an answer the plan goes on by it
pub over-known : (table : List Answer) (set : List ℕ) (go : Bool → Plan) (sat : Bool) → answer_to table set ≡ Some sat → over table (asks set go) ≡ over table (go sat)
over-known table set go true e = rw e refl
over-known table set go false e = rw e refl

-- the set is asked, where the table has no answer
pub record IsAsked (table : List Answer) (set : List ℕ) (next : Next) : Type 0 where
  pub none : answer_to table set ≡ None
  pub asked : Ask set ≡ next

-- the plan goes on by an answer of the table
pub record GoesOn (table : List Answer) (set : List ℕ) (go : Bool → Plan) (next : Next) : Type 0 where
  pub sat : Bool
  pub known : answer_to table set ≡ Some sat
  pub further : over table (go sat) ≡ next

pub over-cases : (table : List Answer) (set : List ℕ) (go : Bool → Plan) (next : Next) → over table (asks set go) ≡ next → IsAsked table set next ⊎ GoesOn table set go next
over-cases table set go next e = case (answer_to table set) refl
  where
    case : (answer : Option Bool) → answer_to table set ≡ answer → IsAsked table set next ⊎ GoesOn table set go next
    case None none = inl record { none = none; asked = rw none at e }
    case (Some true) sat = inr record { sat = true; known = sat; further = rw sat at e }
    case (Some false) unsat = inr record { sat = false; known = unsat; further = rw unsat at e }

-- a plan finds such a set, where the answers agree with the property
abbrev pub Finds : (List ℕ → Type 0) → (List ℕ → Type 0) → Plan → Type 0
Finds P R (found set) = R set
Finds P R (asks set go) = (P set → Finds P R (go true)) × ((¬ P set) → Finds P R (go false))

pub Finds-chain : (P Q R : List ℕ → Type 0) (plan : Plan) (follow : List ℕ → Plan) → Finds P Q plan → ((set : List ℕ) → Q set → Finds P R (follow set)) → Finds P R (chain plan follow)
Finds-chain P Q R (found set) follow h k = k set h
Finds-chain P Q R (asks set go) follow h k =
    ((λ p. Finds-chain P Q R (go true) follow (h.0 p) k), (λ n. Finds-chain P Q R (go false) follow (h.1 n) k))

Finds-known : (P R : List ℕ → Type 0) (table : List Answer) (set : List ℕ) (go : Bool → Plan) → AgreesWith P table → Finds P R (asks set go) → (sat : Bool) → answer_to table set ≡ Some sat → Finds P R (go sat)
Finds-known P R table set go agrees h true e = h.0 (agrees.sat set e)
Finds-known P R table set go agrees h false e = h.1 (agrees.unsat set e)

pub Finds-over : (P R : List ℕ → Type 0) (table : List Answer) (plan : Plan) → AgreesWith P table → Finds P R plan → (set : List ℕ) → over table plan ≡ Done set → R set
Finds-over P R table (found other) agrees h set e = let same : other ≡ set = cc in subst R same h
Finds-over P R table (asks other go) agrees h set e =
    ⊎_elim
    (λ (a : IsAsked table other (Done set)). absurd (cc (a.asked)))
    (λ (k : GoesOn table other go (Done set)). Finds-over P R table (go k.sat) agrees (Finds-known P R table other go agrees h k.sat k.known) set k.further)
    (over-cases table other go (Done set) e)

pub AsksOnly-chain : (A Q R : List ℕ → Type 0) (plan : Plan) (follow : List ℕ → Plan) → AsksOnly A Q plan → ((set : List ℕ) → Q set → AsksOnly A R (follow set)) → AsksOnly A R (chain plan follow)
AsksOnly-chain A Q R (found set) follow h k = k set h
AsksOnly-chain A Q R (asks set go) follow h k = (h.0, λ sat. AsksOnly-chain A Q R (go sat) follow (h.1 sat) k)

pub AsksOnly-asked : (A R : List ℕ → Type 0) (table : List Answer) (plan : Plan) → AsksOnly A R plan → (set : List ℕ) → over table plan ≡ Ask set → A set
AsksOnly-asked A R table (found other) h set e = absurd (cc)
AsksOnly-asked A R table (asks other go) h set e =
    ⊎_elim
    (λ (a : IsAsked table other (Ask set)). let same : other ≡ set = cc (a.asked) in subst A same h.0)
    (λ (k : GoesOn table other go (Ask set)). AsksOnly-asked A R table (go k.sat) (h.1 k.sat) set k.further)
    (over-cases table other go (Ask set) e)

pub AsksOnly-found : (A R : List ℕ → Type 0) (table : List Answer) (plan : Plan) → AsksOnly A R plan → (set : List ℕ) → over table plan ≡ Done set → R set
AsksOnly-found A R table (found other) h set e = let same : other ≡ set = cc in subst R same h
AsksOnly-found A R table (asks other go) h set e =
    ⊎_elim
    (λ (a : IsAsked table other (Done set)). absurd (cc (a.asked)))
    (λ (k : GoesOn table other go (Done set)). AsksOnly-found A R table (go k.sat) (h.1 k.sat) set k.further)
    (over-cases table other go (Done set) e)

-- a plan asks no set that the table has
pub over-new : (table : List Answer) (plan : Plan) (set : List ℕ) → over table plan ≡ Ask set → answer_to table set ≡ None
over-new table (found other) set e = absurd (cc)
over-new table (asks other go) set e =
    ⊎_elim
    (λ (a : IsAsked table other (Ask set)). let same : other ≡ set = cc (a.asked) in rw (← same) a.none)
    (λ (k : GoesOn table other go (Ask set)). over-new table (go k.sat) set k.further)
    (over-cases table other go (Ask set) e)

-- a plan asks at most so many sets one after the other
abbrev pub AsksAtMost : ℕ → Plan → Type 0
AsksAtMost n (found set) = Unit {0}
AsksAtMost n (asks set go) = (0 < n) × ((sat : Bool) → AsksAtMost (n - 1) (go sat))

pub AsksAtMost-weaker : (n m : ℕ) (plan : Plan) → n ≤ m → AsksAtMost n plan → AsksAtMost m plan
AsksAtMost-weaker n m (found set) l h = tt
AsksAtMost-weaker n m (asks set go) l h = (let some : 0 < n = h.0 in omega arith, λ sat. AsksAtMost-weaker (n - 1) (m - 1) (go sat) (omega arith) (h.1 sat))

pub AsksAtMost-chain : (n m k : ℕ) (plan : Plan) (follow : List ℕ → Plan) → n + m ≤ k → AsksAtMost n plan → ((set : List ℕ) → AsksAtMost m (follow set)) → AsksAtMost k (chain plan follow)
AsksAtMost-chain n m k (found set) follow l h f = AsksAtMost-weaker m k (follow set) (omega arith) (f set)
AsksAtMost-chain n m k (asks set go) follow l h f =
    let some : 0 < n = h.0 in
    (omega arith, λ sat. AsksAtMost-chain (n - 1) m (k - 1) (go sat) follow (omega arith) (h.1 sat) f)

-- an answer stays when more are told
pub answer_to-told : (table more : List Answer) (set : List ℕ) (sat : Bool) → answer_to table set ≡ Some sat → answer_to (table ++ more) set ≡ Some sat
answer_to-told [] more set sat e = absurd (cc)
answer_to-told (answer ∷ table) more set sat e =
    ⊎_elim
    (λ (same : pointwise eqb answer.set set ≡ true). rw same (rw same at e))
    (λ (other : pointwise eqb answer.set set ≡ false). rw other (answer_to-told table more set sat (rw other at e)))
    (cases_Bool (pointwise eqb answer.set set))

pub answer_to-beyond : (table more : List Answer) (set : List ℕ) → answer_to table set ≡ None → answer_to (table ++ more) set ≡ answer_to more set
answer_to-beyond [] more set e = refl
answer_to-beyond (answer ∷ table) more set e =
    ⊎_elim
    (λ (same : pointwise eqb answer.set set ≡ true). let some : Some answer.sat ≡ None = rw same at e in absurd (cc))
    (λ (other : pointwise eqb answer.set set ≡ false). rw other (answer_to-beyond table more set (rw other at e)))
    (cases_Bool (pointwise eqb answer.set set))

pub answer_to-first : (answer : Answer) (more : List Answer) → answer_to (answer ∷ more) answer.set ≡ Some answer.sat
answer_to-first answer more = rw ((bytes_eq-Decides answer.set answer.set).1 refl) refl

-- an answer on another set doesn't matter
pub answer_to-past : (answer : Answer) (table : List Answer) (set : List ℕ) → ¬ set ≡ answer.set → answer_to (answer ∷ table) set ≡ answer_to table set
answer_to-past answer table set other =
    ⊎_elim
    (λ (same : pointwise eqb answer.set set ≡ true). absurd (other (sym ((bytes_eq-Decides answer.set set).0 same))))
    (λ (differ : pointwise eqb answer.set set ≡ false). rw differ refl)
    (cases_Bool (pointwise eqb answer.set set))

-- what is found stays when more is told
pub over-stays : (table more : List Answer) (plan : Plan) (set : List ℕ) → over table plan ≡ Done set → over (table ++ more) plan ≡ Done set
over-stays table more (found other) set e = e
over-stays table more (asks other go) set e =
    ⊎_elim
    (λ (a : IsAsked table other (Done set)). absurd (cc (a.asked)))
    (λ (k : GoesOn table other go (Done set)). over-known (table ++ more) other go k.sat (answer_to-told table more other k.sat k.known) ∙ over-stays table more (go k.sat) set k.further)
    (over-cases table other go (Done set) e)

-- a table that answers what this one does, on the sets that the plan may ask
module _ (A R : List ℕ → Type 0) (table other : List Answer) (more : (set : List ℕ) (sat : Bool) → A set → answer_to table set ≡ Some sat → answer_to other set ≡ Some sat) where
  -- what the plan asks over the one it asks over the other, if that has no answer either
  pub over-more_asked : (plan : Plan) → AsksOnly A R plan → (set : List ℕ) → over table plan ≡ Ask set → answer_to other set ≡ None → over other plan ≡ Ask set
  over-more_asked (found found_set) h set e none = absurd (cc)
  over-more_asked (asks first go) h set e none =
      ⊎_elim
      (λ (a : IsAsked table first (Ask set)). let same : first ≡ set = cc (a.asked) in rw same (rw none refl))
      (λ (k : GoesOn table first go (Ask set)). over-known other first go k.sat (more first k.sat h.0 k.known) ∙ over-more_asked (go k.sat) (h.1 k.sat) set k.further none)
      (over-cases table first go (Ask set) e)

  pub over-more_found : (plan : Plan) → AsksOnly A R plan → (set : List ℕ) → over table plan ≡ Done set → over other plan ≡ Done set
  over-more_found (found found_set) h set e = e
  over-more_found (asks first go) h set e =
      ⊎_elim
      (λ (a : IsAsked table first (Done set)). absurd (cc (a.asked)))
      (λ (k : GoesOn table first go (Done set)). over-known other first go k.sat (more first k.sat h.0 k.known) ∙ over-more_found (go k.sat) (h.1 k.sat) set k.further)
      (over-cases table first go (Done set) e)
