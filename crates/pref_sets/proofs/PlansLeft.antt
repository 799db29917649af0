-- Plans one after another, and what is left of a plan after told answers: a set is asked once, and what is left gives
-- what the whole plan gives.
use Rattle.std.proofs.Common.{◌≡◌, ℕ, Bool, None, List, [], ◌∷◌, ◌++◌, refl, sym, ◌∙◌, ap, subst, append_assoc}
use Rattle.std.proofs.lemmas.List.{append-nil}
use Rattle.pref_sets.specs.Answers.{Answer, Next, Ask, Done, answer_to, with_answer, told_in_turn}
use Rattle.pref_sets.specs.Plan.{Plan, found, asks, over, chain, AsksOnly, AsksOnce, IsLeft}
use Rattle.pref_sets.proofs.Plans.{AsksOnly-chain, over-known, answer_to-beyond, answer_to-first, answer_to-past}
use Rattle.pref_sets.proofs.ToldInTurn.{told-push}

pub asks-same : (set : List ℕ) (f g : Bool → Plan) → ((sat : Bool) → f sat ≡ g sat) → asks set f ≡ asks set g
asks-same set f g h = λ i. asks set (λ sat. h sat i)

pub chain-same : (p q : Plan) (f g : List ℕ → Plan) → p ≡ q → ((set : List ℕ) → f set ≡ g set) → chain p f ≡ chain q g
chain-same p q f g e h = λ i. chain (e i) (λ set. h set i)

pub chain-found : (p : Plan) → chain p (λ set. found set) ≡ p
chain-found (found set) = refl
chain-found (asks set go) = asks-same set (λ sat. chain (go sat) (λ s. found s)) go (λ sat. chain-found (go sat))

pub chain-chain : (p : Plan) (f g : List ℕ → Plan) → chain (chain p f) g ≡ chain p (λ set. chain (f set) g)
chain-chain (found set) f g = refl
chain-chain (asks set go) f g = asks-same set (λ sat. chain (chain (go sat) f) g) (λ sat. chain (go sat) (λ s. chain (f s) g)) (λ sat. chain-chain (go sat) f g)

pub AsksOnly-weaker : (A B R S : List ℕ → Type 0) (plan : Plan) → ((set : List ℕ) → A set → B set) → ((set : List ℕ) → R set → S set) → AsksOnly A R plan → AsksOnly B S plan
AsksOnly-weaker A B R S (found set) f g h = g set h
AsksOnly-weaker A B R S (asks set go) f g h = (f set h.0, λ sat. AsksOnly-weaker A B R S (go sat) f g (h.1 sat))

pub AsksOnly-both : (A B R S : List ℕ → Type 0) (plan : Plan) → AsksOnly A R plan → AsksOnly B S plan → AsksOnly (λ set. A set × B set) R plan
AsksOnly-both A B R S (found set) h k = h
AsksOnly-both A B R S (asks set go) h k = ((h.0, k.0), λ sat. AsksOnly-both A B R S (go sat) (h.1 sat) (k.1 sat))

pub AsksOnly-and : (A B R S : List ℕ → Type 0) (plan : Plan) → AsksOnly A R plan → AsksOnly B S plan → AsksOnly (λ set. A set × B set) (λ set. R set × S set) plan
AsksOnly-and A B R S (found set) h k = (h, k)
AsksOnly-and A B R S (asks set go) h k = ((h.0, k.0), λ sat. AsksOnly-and A B R S (go sat) (h.1 sat) (k.1 sat))

pub AsksOnly-any : (A : List ℕ → Type 0) (plan : Plan) → ((set : List ℕ) → A set) → AsksOnly A (λ set. Unit {0}) plan
AsksOnly-any A (found set) h = tt
AsksOnly-any A (asks set go) h = (h set, λ sat. AsksOnly-any A (go sat) h)

-- one plan after another, where the later one asks other sets
pub AsksOnce-chain : (A Q : List ℕ → Type 0) (plan : Plan) (follow : List ℕ → Plan) → AsksOnce plan → AsksOnly A Q plan → ((set : List ℕ) → Q set → AsksOnce (follow set)) → ((set : List ℕ) → Q set → AsksOnly (λ other. ¬ A other) (λ kept. Unit {0}) (follow set)) → AsksOnce (chain plan follow)
AsksOnce-chain A Q (found set) follow once h k apart = k set h
AsksOnce-chain A Q (asks set go) follow once h k apart = λ sat.
    let others : AsksOnly (λ other. ¬ other ≡ set) (λ kept. Unit {0}) (go sat) = (once sat).0 in (
      AsksOnly-chain (λ other. ¬ other ≡ set) Q (λ kept. Unit {0}) (go sat) follow
          (AsksOnly-weaker (λ other. A other × (¬ other ≡ set)) (λ other. ¬ other ≡ set) Q Q (go sat) (λ other both. both.1) (λ other q. q) (AsksOnly-both A (λ other. ¬ other ≡ set) Q (λ kept. Unit {0}) (go sat) (h.1 sat) others))
          (λ end q. AsksOnly-weaker (λ other. ¬ A other) (λ other. ¬ other ≡ set) (λ kept. Unit {0}) (λ kept. Unit {0}) (follow end) (λ other no same. no (subst A (sym same) h.0)) (λ other u. u) (apart end q)),
      AsksOnce-chain A Q (go sat) follow (once sat).1 (h.1 sat) k apart,
    )

-- nothing is told
pub left-start : (whole : Plan) → AsksOnce whole → IsLeft [] whole whole
left-start whole once = record { same = λ more. refl; new = AsksOnly-any (λ set. answer_to [] set ≡ None) whole (λ set. refl); once = once }

-- one more answer, on the set that is asked
pub left-told : (told : List Answer) (whole : Plan) (set : List ℕ) (go : Bool → Plan) (sat : Bool) → IsLeft told whole (asks set go) → IsLeft (told ++ record { set = set; sat = sat } ∷ []) whole (go sat)
left-told told whole set go sat h = record {
  same = λ more.
      rw append_assoc
      (h.same (answer ∷ more)
      ∙ over-known (told ++ answer ∷ more) set go sat (answer_to-beyond told (answer ∷ more) set h.new.0 ∙ answer_to-first answer more));
  new =
      AsksOnly-weaker (λ other. (answer_to told other ≡ None) × (¬ other ≡ set)) (λ other. answer_to (told ++ answer ∷ []) other ≡ None) (λ kept. Unit {0}) (λ kept. Unit {0}) (go sat)
      (λ other both. answer_to-beyond told (answer ∷ []) other both.0 ∙ answer_to-past answer [] other both.1)
      (λ kept u. u)
      (AsksOnly-both (λ other. answer_to told other ≡ None) (λ other. ¬ other ≡ set) (λ kept. Unit {0}) (λ kept. Unit {0}) (go sat) (h.new.1 sat) (h.once sat).0);
  once = (h.once sat).1;
}
  where
    answer : Answer
    answer = record { set = set; sat = sat }

left-over : (told : List Answer) (whole left : Plan) → IsLeft told whole left → over told whole ≡ over told left
left-over told whole left h = let here : over (told ++ []) whole ≡ over (told ++ []) left = h.same [] in rw append-nil at here

left-ask : (told : List Answer) (whole : Plan) (set : List ℕ) (go : Bool → Plan) → IsLeft told whole (asks set go) → over told whole ≡ Ask set
left-ask told whole set go h = left-over told whole (asks set go) h ∙ rw h.new.0 refl

-- a recursion that is the whole plan asks what is left of it
module _ (next : List Answer → Next) (whole : Plan) (same : (table : List Answer) → next table ≡ over table whole) where
  pub next-asks : (told : List Answer) (set : List ℕ) (go : Bool → Plan) → IsLeft told whole (asks set go) → next told ≡ Ask set
  next-asks told set go h = same told ∙ left-ask told whole set go h

  pub next-done : (told : List Answer) (set : List ℕ) → IsLeft told whole (found set) → next told ≡ Done set
  next-done told set h = same told ∙ left-over told whole (found set) h

  -- one more answer is told
  pub next-told : (sats : List Bool) (set : List ℕ) (go : Bool → Plan) (sat : Bool) → IsLeft (told_in_turn next [] sats) whole (asks set go) → IsLeft (told_in_turn next [] (sats ++ sat ∷ [])) whole (go sat)
  next-told sats set go sat h =
      let more : told_in_turn next [] (sats ++ sat ∷ []) ≡ told_in_turn next [] sats ++ record { set = set; sat = sat } ∷ [] =
      told-push next [] sats sat ∙ ap (with_answer (told_in_turn next [] sats) sat) (next-asks (told_in_turn next [] sats) set go h) in
      subst (λ (answers : List Answer). IsLeft answers whole (go sat)) (sym more) (left-told (told_in_turn next [] sats) whole set go sat h)

-- the answers and one more
pub told-more : (next : List Answer → Next) (sats : List Bool) (sat : Bool) (set : List ℕ) → next (told_in_turn next [] sats) ≡ Ask set → told_in_turn next [] (sats ++ sat ∷ []) ≡ told_in_turn next [] sats ++ record { set = set; sat = sat } ∷ []
told-more next sats sat set e = told-push next [] sats sat ∙ ap (with_answer (told_in_turn next [] sats) sat) e
