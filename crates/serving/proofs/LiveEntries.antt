-- Live entries of a round, and what is left of them when one is settled.
use Rattle.std.proofs.Common.{◌≡◌, ◌≢◌, ◌∙◌, sym, ap, subst, ℕ, ◌+◌, ◌-◌, Bool, true, false, cond, List, [], ◌∷◌, length, map, get_or, Option, Some, None, ⊎_elim, arith, length-drop}
use Rattle.std.specs.Prelude.{All, Contains, MatchOption, is_some}
use Rattle.std.specs.Map.{remove_entry}
use Rattle.std.proofs.lemmas.List.Elements.{All-cons, All-head, All-tail, Contains-get_or}
use Rattle.std.proofs.lemmas.Option.{none-some, same_Some}
use mathlib.Core.Option.{some}
use lib.ListN.{get_elem?}
use Rattle.lists.specs.Distinct.{IsDistinct}
use Rattle.lists.proofs.Members.{first, later, first_or_later, to_map}
use Rattle.req_keys.specs.Key.{PositionSet}
use Rattle.req_keys.specs.KeyEq.{key_eq-same}
use Rattle.req_keys.specs.Order.{key_eq}
use Rattle.script.proofs.Lookups.{cases-found}
use Rattle.look_ahead.specs.Posting.{PostingState, live_entry, numbers_of, settled_by}
use Rattle.check_table.specs.declared.view.KnownEntry.{KnownEntry}
use Rattle.check_table.specs.declared.view.MainView.{MainView}
use Rattle.serving.specs.Entries.{StandsUnder}
use Rattle.serving.specs.Rounds.{round_keys, IsHeld, IsRound}
use Rattle.serving.specs.inside.Staying.{LeavesOthers}
use Rattle.serving.proofs.StandingEntries.{stands-there}

pub all-members : {X : Type 0} (xs : List X) (P : X → Type 0) → ((x : X) → Contains xs x → P x) → All P xs
all-members xs P f = λ k d less. f (get_or xs k d) (Contains-get_or xs k d less)

-- a round has as many keys as it has taken entries
pub round-length : (posting : PostingState) → IsRound posting → length (round_keys posting) ≡ posting.taken
round-length posting round =
    let long = length-drop (length posting.posted - posting.taken) posting.posted in
    let counted = round.counted in
    omega arith

-- what holds of all live entries holds of a key's
pub live-at : (P : PositionSet × ℕ → Type 0) (live : List (PositionSet × ℕ)) (key : PositionSet) (n : ℕ) → live_entry live key ≡ Some n → All P live → P (key, n)
live-at P [] key n e all = absurd (none-some n e)
live-at P (x ∷ xs) key n e all =
    ⊎_elim
    (λ (here : (key_eq key x.0 ≡ true) × (x.1 ≡ n)).
    let number : P (x.0, n) = subst (λ (m : ℕ). P (x.0, m)) here.1 (All-head P x xs all) in
    subst (λ (k : PositionSet). P (k, n)) (sym (key_eq-same key x.0 here.0)) number)
    (λ (rest : live_entry xs key ≡ Some n). live-at P xs key n rest (All-tail P x xs all))
    (cases-found (key_eq key x.0) x.1 n (live_entry xs key) e)

live-in : (live : List (PositionSet × ℕ)) (key : PositionSet) (n : ℕ) → live_entry live key ≡ Some n → Contains (numbers_of live) n
live-in live key n e = live-at (λ (l : PositionSet × ℕ). Contains (numbers_of live) l.1) live key n e (all-members live (λ (l : PositionSet × ℕ). Contains (numbers_of live) l.1) (λ l m. to_map (λ (x : PositionSet × ℕ). x.1) live l m))

-- ---- without the entry that a test finds

module _ (test : PositionSet → Bool) where
  pub All-removed : (P : PositionSet × ℕ → Type 0) (live : List (PositionSet × ℕ)) → All P live → All P (remove_entry test live)
  All-removed P [] all = all
  All-removed P (x ∷ xs) all =
      elim (test x.0) as (λ b. All P (cond b xs (x ∷ remove_entry test xs))) [
        | true ↦ All-tail P x xs all
        | false ↦ All-cons P x (remove_entry test xs) (All-head P x xs all) (All-removed P xs (All-tail P x xs all))
      ]

  removed-in : (live : List (PositionSet × ℕ)) (n : ℕ) → Contains (numbers_of (remove_entry test live)) n → Contains (numbers_of live) n
  removed-in [] n m = m
  removed-in (x ∷ xs) n m = by (removed-in xs n) (test x.0) m
    where
      by : (Contains (numbers_of (remove_entry test xs)) n → Contains (numbers_of xs) n) → (b : Bool) → Contains (numbers_of (cond b xs (x ∷ remove_entry test xs))) n → Contains (x.1 ∷ numbers_of xs) n
      by rest true m = later x.1 (numbers_of xs) n m
      by rest false m =
          ⊎_elim
          (λ (e : x.1 ≡ n). subst (Contains (x.1 ∷ numbers_of xs)) e (first x.1 (numbers_of xs)))
          (λ (r : Contains (numbers_of (remove_entry test xs)) n). later x.1 (numbers_of xs) n (rest r))
          (first_or_later x.1 (numbers_of (remove_entry test xs)) n m)

  pub distinct-removed : (live : List (PositionSet × ℕ)) → IsDistinct (numbers_of live) → IsDistinct (numbers_of (remove_entry test live))
  distinct-removed [] d = d
  distinct-removed (x ∷ xs) d =
      elim (test x.0) as (λ b. IsDistinct (numbers_of (cond b xs (x ∷ remove_entry test xs)))) [
        | true ↦ d.1
        | false ↦ ((λ m. d.0 (removed-in xs x.1 m)), distinct-removed xs d.1)
      ]

-- no entry that is left has the number of the one that was found
pub removed-apart : (live : List (PositionSet × ℕ)) (key : PositionSet) (n : ℕ) → live_entry live key ≡ Some n → IsDistinct (numbers_of live) → All (λ l. l.1 ≢ n) (remove_entry (key_eq key) live)
removed-apart [] key n e d = absurd (none-some n e)
removed-apart (x ∷ xs) key n e d = by (λ is. removed-apart xs key n is d.1) (key_eq key x.0) e
  where
    by : (live_entry xs key ≡ Some n → All (λ l. l.1 ≢ n) (remove_entry (key_eq key) xs)) → (b : Bool) → cond b (Some x.1) (live_entry xs key) ≡ Some n → All (λ l. l.1 ≢ n) (cond b xs (x ∷ remove_entry (key_eq key) xs))
    by rest true is =
        let number : x.1 ≡ n = same_Some x.1 n is in
        all-members xs (λ (l : PositionSet × ℕ). l.1 ≢ n) (λ l m same.
        d.0 (subst (Contains (numbers_of xs)) (same ∙ sym number) (to_map (λ (y : PositionSet × ℕ). y.1) xs l m)))
    by rest false is =
        All-cons (λ (l : PositionSet × ℕ). l.1 ≢ n) x (remove_entry (key_eq key) xs)
        (λ same. d.0 (subst (Contains (numbers_of xs)) (sym same) (live-in xs key n is)))
        (rest is)

-- ---- a key is settled after a step at its entry, if it has one

module _ (main now : MainView) (posting : PostingState) (key : PositionSet) (held : IsHeld main posting) (size : now.size ≡ main.size) where
  abbrev without : PostingState
  without = record posting { live = remove_entry (key_eq key) posting.live; settled = posting.settled + 1 }

  left : (n : ℕ) → live_entry posting.live key ≡ Some n → LeavesOthers n main.entries now.entries → IsHeld now without
  left n found leaves =
      let apart = removed-apart posting.live key n found held.round.apart in
      let stood = All-removed (key_eq key) (λ (l : PositionSet × ℕ). StandsUnder main.entries l.1 l.0) posting.live held.live in
      record {
        round = record {
          within = held.round.within;
          counted = held.round.counted;
          named = All-removed (key_eq key) (λ (l : PositionSet × ℕ). get_elem? (round_keys posting) l.1 ≡ some l.0) posting.live held.round.named;
          apart = distinct-removed (key_eq key) posting.live held.round.apart;
        };
        size = held.size ∙ sym size;
        keys = leaves.keys ∙ held.keys;
        live = λ k d less. stands-there main.entries now.entries _ _ (leaves.others _ (apart k d less)) (stood k d less);
      }

  same : now.entries ≡ main.entries → IsHeld now posting
  same is = record {
    round = held.round;
    size = held.size ∙ sym size;
    keys = ap (λ (es : List KnownEntry). map (λ (e : KnownEntry). e.key) es) is ∙ held.keys;
    live = subst (λ (es : List KnownEntry). All (λ (l : PositionSet × ℕ). StandsUnder es l.1 l.0) posting.live) (sym is) held.live;
  }

  by : (o : Option ℕ) → live_entry posting.live key ≡ o → MatchOption o (now.entries ≡ main.entries) (λ n. LeavesOthers n main.entries now.entries) → IsHeld now (cond (is_some o) without posting)
  by None found step = same step
  by (Some n) found step = left n found step

  pub held-settled : (o : Option ℕ) → live_entry posting.live key ≡ o → MatchOption o (now.entries ≡ main.entries) (λ n. LeavesOthers n main.entries now.entries) → IsHeld now (settled_by key posting)
  held-settled o found step = subst (λ (x : Option ℕ). IsHeld now (cond (is_some x) without posting)) (sym found) (by o found step)
