-- The finished tree's found sets are the listing.
use Rattle.std.proofs.Common.{◌≡◌, ℕ, zero, suc, ◌+◌, ◌≤◌, Bool, true, false, cond, Option, Some, None, List, [], ◌∷◌, ◌++◌, ◌⊎◌, inl, inr, length, refl, sym, ◌∙◌, subst, ⊎_elim, arith}
use Rattle.std.specs.Prelude.{Contains, not}
use Rattle.std.specs.List.{list_any, range_with_len}
use Rattle.std.specs.declared.cmp.Ordering.TheVariants.{Less}
use Rattle.std.proofs.lemmas.Bool.{cases_Bool, false≢true}
use Rattle.std.proofs.lemmas.List.Elements.{Contains-append_cases, Contains-append_left, Contains-append_right}
use Rattle.lists.proofs.Members.{first as contains_first, later as contains_later, none as contains_none, first_or_later, any_at, any_none, all_false}
use Rattle.pref_sets.specs.Answers.{Answer, AgreesWith, Next, Ask, Done, IsDone, answer_to}
use Rattle.pref_sets.specs.Positions.{with_position}
use Rattle.pref_sets.specs.Preferred.{IsWithin}
use Rattle.pref_sets.specs.Properties.{PassesToFewer}
use Rattle.pref_sets.specs.QuickXplain.{qx}
use Rattle.pref_sets.proofs.AscendingPositions.{Ascends, Ascends-same, IsDistinct-from_Ascends}
use Rattle.pref_sets.proofs.RisingPositions.{Ascends-from_rises}
use Rattle.pref_sets.proofs.BestLaws.{IsTrimmed-holds}
use Rattle.pref_sets.proofs.Plans.{AsksOnly-found}
use Rattle.pref_sets.proofs.QuickXplainPlan.{qx_plan, qx_part-plan, qx_plan-within}
use Rattle.pref_sets.proofs.TrimmedByHalves.{qx-trimmed, Fails, more-fails}
use Rattle.req_keys.specs.Order.{key_cmp}
use Rattle.req_keys.specs.Positions.{RiseWithin, has}
use Rattle.req_keys.specs.Wanting.{key_over}
use Rattle.req_keys.proofs.MemberLaws.{Contains-from_has, has-from_Contains}
use Rattle.req_keys.proofs.PositionsLaws.{RiseWithin-filter_range}
use Rattle.hs_tree.specs.Tree.{Outcome, asks, ends, Standing, without, is_within, is_apart, known_label, with_children, with_found, by_label, by_conflict, by_rest, by_known, one_set, further, one_level, levels, tree, found_by, next_of}
use Rattle.hs_tree.specs.Listing.{IsDiagnosis, IsMinimalDiagnosis, AreInOrder, AreMinimalDiagnoses, IsListing}
use Rattle.hs_tree.proofs.PositionSets.{fewer-within, same-within, rises-in_range, passes-not_false, without-out, without-range, without-in, within-from, within-to, apart-from, child-within, child-rises, child-length}
use Rattle.hs_tree.proofs.LevelSets.{AreSorted, children-cases, children-old, children-new, children-sorted, before-by_size, key-order}

-- one set more, behind all others
order-push : (n : ℕ) (sets : List (List ℕ)) (set : List ℕ) → AreInOrder n sets → ((one : List ℕ) → Contains sets one → key_cmp (key_over n one) (key_over n set) ≡ Less) → AreInOrder n (sets ++ set ∷ [])
order-push n [] set h last = ((λ other m. absurd (contains_none other m)), tt)
order-push n (one ∷ sets) set h last = (
  (λ other m.
      ⊎_elim
      (λ (old : Contains sets other). h.0 other old)
      (λ (new : Contains (set ∷ []) other). ⊎_elim (λ (e : set ≡ other). subst (λ (x : List ℕ). key_cmp (key_over n one) (key_over n x) ≡ Less) e (last one (contains_first one sets))) (λ (l : Contains [] other). absurd (contains_none other l)) (first_or_later set [] other new))
      (Contains-append_cases sets (set ∷ []) other m)),
  order-push n sets set h.1 (λ other m. last other (contains_later one sets other m)),
)

-- what a known label is
pub label-known : (known : List (List ℕ)) (set label : List ℕ) → known_label known set ≡ Some label → Contains known label × (is_apart label set ≡ true)
label-known [] set label e = absurd (cc)
label-known (conflict ∷ known) set label e = case (λ r. label-known known set label r) (is_apart conflict set) refl e
  where
    case : (known_label known set ≡ Some label → Contains known label × (is_apart label set ≡ true)) → (b : Bool) → is_apart conflict set ≡ b → cond b (Some conflict) (known_label known set) ≡ Some label → Contains (conflict ∷ known) label × (is_apart label set ≡ true)
    case rest true apart e = let same : conflict ≡ label = cc in (subst (Contains (conflict ∷ known)) same (contains_first conflict known), subst (λ (x : List ℕ). is_apart x set ≡ true) same apart)
    case rest false apart e = let r = rest e in (contains_later conflict known label r.0, r.1)

-- one of the sets is within the set
abbrev pub HasPart : List (List ℕ) → List ℕ → Type 0
HasPart sets all = (set : List ℕ) × Contains sets set × IsWithin set all

-- a set of so many positions
pub record IsPlaced (n size : ℕ) (set : List ℕ) : Type 0 where
  pub rises : RiseWithin 0 n set
  pub many : length set ≡ size

module _ (P : List ℕ → Type 0) (fewer : PassesToFewer P) (n : ℕ) (table : List Answer) (agrees : AgreesWith P table) where
  -- positions that don't have the property together
  pub record IsConflict (conflict : List ℕ) : Type 0 where
    pub within : IsWithin conflict (range_with_len 1 n)
    pub fails : ¬ P conflict

  -- a part of the set with one position more than the level's; except on the last level it is in the next one
  pub record IsLater (last : Bool) (size : ℕ) (next : List (List ℕ)) (all : List ℕ) : Type 0 where
    pub part : List ℕ
    pub placed : IsPlaced n (suc size) part
    pub within : IsWithin part all
    pub there : last ≡ false → Contains next part

  -- a found set, one that is still to do, or a later one is within the set
  abbrev pub IsCovered : Bool → ℕ → List (List ℕ) → List (List ℕ) → List (List ℕ) → List ℕ → Type 0
  IsCovered last size found sets next all = HasPart found all ⊎ (HasPart sets all ⊎ IsLater last size next all)

  -- what holds before each set of a level: `sets` are still to do
  pub record IsAt (last : Bool) (size : ℕ) (sets : List (List ℕ)) (s : Standing) : Type 0 where
    pub part : AreMinimalDiagnoses P n size s.found
    pub ahead : (a b : List ℕ) → Contains s.found a → Contains sets b → key_cmp (key_over n a) (key_over n b) ≡ Less
    pub known : (conflict : List ℕ) → Contains s.known conflict → IsConflict conflict
    pub level : (set : List ℕ) → Contains sets set → IsPlaced n size set
    pub sorted : AreSorted sets
    pub children : (set : List ℕ) → Contains s.next set → IsPlaced n (suc size) set
    pub next_sorted : AreSorted s.next
    pub covered : (all : List ℕ) → IsDiagnosis P n all → IsCovered last size s.found sets s.next all

  -- the set is done: what it covered is covered by others
  set-done : (last : Bool) (size : ℕ) (set : List ℕ) (sets : List (List ℕ)) (s : Standing) → IsAt last size (set ∷ sets) s → ((all : List ℕ) → IsDiagnosis P n all → IsWithin set all → IsCovered last size s.found sets s.next all) → IsAt last size sets s
  set-done last size set sets s h other = record {
    part = h.part;
    ahead = λ a b m k. h.ahead a b m (contains_later set sets b k);
    known = h.known;
    level = λ one m. h.level one (contains_later set sets one m);
    sorted = h.sorted.1;
    children = h.children;
    next_sorted = h.next_sorted;
    covered = λ all diagnosis.
        ⊎_elim
        (λ (f : HasPart s.found all). inl f)
        (λ (r : HasPart (set ∷ sets) all ⊎ IsLater last size s.next all).
        ⊎_elim
        (λ (m : HasPart (set ∷ sets) all).
        ⊎_elim
        (λ (e : set ≡ m.0). other all diagnosis (subst (λ (x : List ℕ). IsWithin x all) (sym e) m.2))
        (λ (l : Contains sets m.0). inr (inl (m.0, l, m.2)))
        (first_or_later set sets m.0 m.1))
        (λ (l : IsLater last size s.next all). inr (inr l))
        r)
        (h.covered all diagnosis);
  }

  -- a diagnosis has a position of each conflict
  hits : (conflict all : List ℕ) → IsConflict conflict → IsDiagnosis P n all → (x : ℕ) × Contains conflict x × Contains all x
  hits conflict all c diagnosis = case (is_apart conflict all) refl
    where
      case : (b : Bool) → is_apart conflict all ≡ b → (x : ℕ) × Contains conflict x × Contains all x
      case true e = absurd (c.fails (fewer conflict (without n all) (λ i m. without-in n all i (c.within i m) (apart-from conflict all e i m)) diagnosis))
      case false e = let f = all_false (λ position. not (has all position)) conflict e in (f.0, f.1, Contains-from_has all f.0 (passes-not_false (has all f.0) f.2))

  -- a child of the set with a position of a conflict that is apart from it
  child-placed : (size : ℕ) (set conflict : List ℕ) (x : ℕ) → IsPlaced n size set → IsConflict conflict → ((i : ℕ) → Contains conflict i → ¬ Contains set i) → Contains conflict x → IsPlaced n (suc size) (with_position x set)
  child-placed size set conflict x placed c apart m = record {
    rises = child-rises n x set placed.rises (c.within x m);
    many = let more : length (with_position x set) ≡ suc (length set) = child-length x set (apart x m) in let same : length set ≡ size = placed.many in omega arith;
  }

  -- the set gets a label
  set-labelled : (last : Bool) (size : ℕ) (set : List ℕ) (sets : List (List ℕ)) (s : Standing) (label : List ℕ) (known : List (List ℕ)) → IsAt last size (set ∷ sets) s → IsConflict label → ((i : ℕ) → Contains label i → ¬ Contains set i) → ((conflict : List ℕ) → Contains known conflict → IsConflict conflict) → IsAt last size sets (record { found = s.found; known = known; next = with_children set label s.next })
  set-labelled last size set sets s label known h c apart conflicts =
      let here : IsPlaced n size set = h.level set (contains_first set sets) in
      record {
        part = h.part;
        ahead = λ a b m k. h.ahead a b m (contains_later set sets b k);
        known = conflicts;
        level = λ one m. h.level one (contains_later set sets one m);
        sorted = h.sorted.1;
        children = λ one m.
            ⊎_elim
            (λ (old : Contains s.next one). h.children one old)
            (λ (new : (p : ℕ) × Contains label p × (with_position p set ≡ one)). subst (IsPlaced n (suc size)) new.2 (child-placed size set label new.0 here c apart new.1))
            (children-cases set label s.next one m);
        next_sorted = children-sorted set label s.next h.next_sorted;
        covered = λ all diagnosis.
            ⊎_elim
            (λ (f : HasPart s.found all). inl f)
            (λ (r : HasPart (set ∷ sets) all ⊎ IsLater last size s.next all).
            ⊎_elim
            (λ (m : HasPart (set ∷ sets) all).
            ⊎_elim
            (λ (e : set ≡ m.0).
            let hit = hits label all c diagnosis in
            inr (inr (record {
              part = with_position hit.0 set;
              placed = child-placed size set label hit.0 here c apart hit.1;
              within = child-within hit.0 set all (subst (λ (x : List ℕ). IsWithin x all) (sym e) m.2) hit.2;
              there = λ _. children-new set label s.next hit.0 hit.1;
            })))
            (λ (l : Contains sets m.0). inr (inl (m.0, l, m.2)))
            (first_or_later set sets m.0 m.1))
            (λ (l : IsLater last size s.next all).
            inr (inr (record {
              part = l.part;
              placed = l.placed;
              within = l.within;
              there = λ e. children-old set label s.next l.part (l.there e);
            })))
            r)
            (h.covered all diagnosis);
      }

  -- a part of the set that is a diagnosis is all of it, unless a found set is within it
  nothing-smaller : (last : Bool) (size : ℕ) (set : List ℕ) (sets : List (List ℕ)) (s : Standing) → IsAt last size (set ∷ sets) s → list_any (λ diagnosis. is_within diagnosis set) s.found ≡ false → (other : List ℕ) → IsWithin other set → IsDiagnosis P n other → IsWithin set other
  nothing-smaller last size set sets s h new other within diagnosis =
      let here : IsPlaced n size set = h.level set (contains_first set sets) in
      let rises : Ascends set = Ascends-from_rises 0 n set here.rises in
      let many : length set ≡ size = here.many in
      ⊎_elim
      (λ (f : HasPart s.found other). absurd (false≢true (sym (any_none (λ diagnosis. is_within diagnosis set) s.found f.0 new f.1) ∙ within-to f.0 set (λ i m. within i (f.2 i m)))))
      (λ (r : HasPart (set ∷ sets) other ⊎ IsLater last size s.next other).
      ⊎_elim
      (λ (m : HasPart (set ∷ sets) other).
      let there : IsPlaced n size m.0 = h.level m.0 m.1 in
      let much : length m.0 ≡ size = there.many in
      let same : m.0 ≡ set = same-within m.0 set (Ascends-from_rises 0 n m.0 there.rises) rises (λ i k. within i (m.2 i k)) (omega arith) in
      subst (λ (x : List ℕ). IsWithin x other) same m.2)
      (λ (l : IsLater last size s.next other).
      let much : length l.part ≡ suc size = l.placed.many in
      let few : length l.part ≤ length set = fewer-within l.part set (Ascends-from_rises 0 n l.part l.placed.rises) rises (λ i k. within i (l.within i k)) in
      absurd (omega arith))
      r)
      (h.covered other diagnosis)

  -- the set is found
  set-found : (last : Bool) (size : ℕ) (set : List ℕ) (sets : List (List ℕ)) (s : Standing) → IsAt last size (set ∷ sets) s → list_any (λ diagnosis. is_within diagnosis set) s.found ≡ false → IsDiagnosis P n set → IsAt last size sets (with_found s set)
  set-found last size set sets s h new diagnosis =
      let here : IsPlaced n size set = h.level set (contains_first set sets) in
      let many : length set ≡ size = here.many in
      let one : (Q : List ℕ → Type 0) → ((x : List ℕ) → Contains s.found x → Q x) → Q set → (x : List ℕ) → Contains (s.found ++ set ∷ []) x → Q x =
      (λ Q old q x m.
      ⊎_elim
      (λ (l : Contains s.found x). old x l)
      (λ (r : Contains (set ∷ []) x). ⊎_elim (λ (e : set ≡ x). subst Q e q) (λ (l : Contains [] x). absurd (contains_none x l)) (first_or_later set [] x r))
      (Contains-append_cases s.found (set ∷ []) x m)) in
      record {
        part = record {
          order = order-push n s.found set h.part.order (λ x m. h.ahead x set m (contains_first set sets));
          minimal = one (IsMinimalDiagnosis P n) h.part.minimal (record { positions = here.rises; diagnosis = diagnosis; minimal = nothing-smaller last size set sets s h new });
          small = one (λ x. length x ≤ size) h.part.small (omega arith);
        };
        ahead = λ a b m k.
            one (λ x. key_cmp (key_over n x) (key_over n b) ≡ Less) (λ x l. h.ahead x b l (contains_later set sets b k))
            (key-order n set b ∙ h.sorted.0 b k) a m;
        known = h.known;
        level = λ x m. h.level x (contains_later set sets x m);
        sorted = h.sorted.1;
        children = h.children;
        next_sorted = h.next_sorted;
        covered = λ all d.
            ⊎_elim
            (λ (f : HasPart s.found all). inl (f.0, Contains-append_left s.found (set ∷ []) f.0 f.1, f.2))
            (λ (r : HasPart (set ∷ sets) all ⊎ IsLater last size s.next all).
            ⊎_elim
            (λ (m : HasPart (set ∷ sets) all).
            ⊎_elim
            (λ (e : set ≡ m.0). inl (set, Contains-append_right s.found (set ∷ []) set (contains_first set []), subst (λ (x : List ℕ). IsWithin x all) (sym e) m.2))
            (λ (l : Contains sets m.0). inr (inl (m.0, l, m.2)))
            (first_or_later set sets m.0 m.1))
            (λ (l : IsLater last size s.next all). inr (inr l))
            r)
            (h.covered all d);
      }

  -- a diagnosis that has all of a set which is none has a position more
  has-more : (set all : List ℕ) → (¬ IsDiagnosis P n set) → IsDiagnosis P n all → (x : ℕ) × Contains all x × (¬ Contains set x) × Contains (range_with_len 1 n) x
  has-more set all fails diagnosis = case (is_within (without n set) (without n all)) refl
    where
      case : (b : Bool) → is_within (without n set) (without n all) ≡ b → (x : ℕ) × Contains all x × (¬ Contains set x) × Contains (range_with_len 1 n) x
      case true e = absurd (fails (fewer (without n set) (without n all) (within-from (without n set) (without n all) e) diagnosis))
      case false e =
          let f = all_false (has (without n all)) (without n set) e in
          let there : Contains (range_with_len 1 n) f.0 = without-range n set f.0 f.1 in
          ⊎_elim
          (λ (t : has all f.0 ≡ true). (f.0, Contains-from_has all f.0 t, without-out n set f.0 f.1, there))
          (λ (u : has all f.0 ≡ false).
          absurd (false≢true (sym f.2 ∙ has-from_Contains (without n all) f.0 (without-in n all f.0 there (λ m. false≢true (sym u ∙ has-from_Contains all f.0 m))))))
          (cases_Bool (has all f.0))

  -- on the last level the set is no diagnosis
  set-last : (size : ℕ) (set : List ℕ) (sets : List (List ℕ)) (s : Standing) → IsAt true size (set ∷ sets) s → (¬ IsDiagnosis P n set) → IsAt true size sets s
  set-last size set sets s h fails =
      let here : IsPlaced n size set = h.level set (contains_first set sets) in
      let many : length set ≡ size = here.many in
      set-done true size set sets s h
      (λ all diagnosis within.
      let x = has-more set all fails diagnosis in
      inr (inr (record {
        part = with_position x.0 set;
        placed = record { rises = child-rises n x.0 set here.rises x.3; many = let more : length (with_position x.0 set) ≡ suc (length set) = child-length x.0 set x.2 in omega arith };
        within = child-within x.0 set all within x.1;
        there = λ e. absurd (false≢true (sym e));
      })))

  -- a set all of whose rest is empty, and Unsat: there is no diagnosis
  set-alone : (last : Bool) (size : ℕ) (set : List ℕ) (sets : List (List ℕ)) (s : Standing) → IsAt last size (set ∷ sets) s → (¬ P []) → IsAt last size sets s
  set-alone last size set sets s h fails =
      set-done last size set sets s h (λ all diagnosis within. absurd (fails (fewer [] (without n all) (λ i m. absurd (contains_none i m)) diagnosis)))

  -- QuickXplain's label of the rest is a conflict
  label-conflict : (set label : List ℕ) → (¬ P (without n set)) → qx (without n set) table ≡ Done label → IsConflict label × IsWithin label (without n set)
  label-conflict set label fails e =
      let rest : List ℕ = without n set in
      let rises : Ascends rest = Ascends-from_rises 0 n rest (RiseWithin-filter_range (λ position. not (has set position)) 1 n 0 n (omega arith) (omega arith)) in
      let within : IsWithin label rest =
      AsksOnly-found (λ asked. IsWithin asked rest) (λ found. IsWithin found rest) table (qx_plan (length rest) [] [] rest)
      (qx_plan-within rest (length rest) [] [] rest (λ i m. absurd (contains_none i m)) (λ i m. m))
      label (sym (qx_part-plan (length rest) table [] [] rest) ∙ e) in (
        record {
          within = λ i m. without-range n set i (within i m);
          fails = λ p.
              let empty : P [] = fewer [] label (λ i m. absurd (contains_none i m)) p in
              IsTrimmed-holds (Fails P fewer) (more-fails P fewer) rest label (IsDistinct-from_Ascends rest rises) fails (qx-trimmed P fewer rest label table rises empty agrees e) p;
        },
        within,
      )

  -- before the end there are minimal diagnoses; at the end of a level what holds before each set holds
  abbrev pub IsAfter : Bool → ℕ → List (List ℕ) → Outcome → Type 0
  IsAfter last size sets (asks found set) = AreMinimalDiagnoses P n size found
  IsAfter last size sets (ends s) = IsAt last size sets s

  after-label : (size : ℕ) (set : List ℕ) (sets : List (List ℕ)) (s : Standing) → IsAt false size (set ∷ sets) s → (¬ P (without n set)) → (next : Next) → qx (without n set) table ≡ next → IsAfter false size sets (by_label s set next)
  after-label size set sets s h fails (Ask other) e = h.part
  after-label size set sets s h fails (Done label) e =
      let c = label-conflict set label fails e in
      set-labelled false size set sets s label (s.known ++ label ∷ []) h c.0 (λ i m. without-out n set i (c.1 i m))
      (λ conflict m.
      ⊎_elim
      (λ (l : Contains s.known conflict). h.known conflict l)
      (λ (r : Contains (label ∷ []) conflict). ⊎_elim (λ (same : label ≡ conflict). subst IsConflict same c.0) (λ (l : Contains [] conflict). absurd (contains_none conflict l)) (first_or_later label [] conflict r))
      (Contains-append_cases s.known (label ∷ []) conflict m))

  after-conflict : (last : Bool) (size : ℕ) (set : List ℕ) (sets : List (List ℕ)) (s : Standing) → IsAt last size (set ∷ sets) s → (¬ P (without n set)) → (rest : List ℕ) → without n set ≡ rest → IsAfter last size sets (by_conflict table last s set rest)
  after-conflict true size set sets s h fails rest e = set-last size set sets s h fails
  after-conflict false size set sets s h fails [] e = set-alone false size set sets s h (subst (λ (x : List ℕ). ¬ P x) e fails)
  after-conflict false size set sets s h fails (x ∷ rest) e = subst (λ (r : List ℕ). IsAfter false size sets (by_label s set (qx r table))) e (after-label size set sets s h fails (qx (without n set) table) refl)

  after-rest : (last : Bool) (size : ℕ) (set : List ℕ) (sets : List (List ℕ)) (s : Standing) → IsAt last size (set ∷ sets) s → list_any (λ diagnosis. is_within diagnosis set) s.found ≡ false → (answer : Option Bool) → answer_to table (without n set) ≡ answer → IsAfter last size sets (by_rest table last s set (without n set) answer)
  after-rest last size set sets s h new None e = h.part
  after-rest last size set sets s h new (Some true) e = set-found last size set sets s h new (agrees.sat (without n set) e)
  after-rest last size set sets s h new (Some false) e = after-conflict last size set sets s h (agrees.unsat (without n set) e) (without n set) refl

  after-known : (last : Bool) (size : ℕ) (set : List ℕ) (sets : List (List ℕ)) (s : Standing) → IsAt last size (set ∷ sets) s → list_any (λ diagnosis. is_within diagnosis set) s.found ≡ false → (label : Option (List ℕ)) → known_label s.known set ≡ label → IsAfter last size sets (by_known n table last s set label)
  after-known last size set sets s h new (Some label) e =
      let l = label-known s.known set label e in
      set-labelled last size set sets s label s.known h (h.known label l.0) (λ i m. apart-from label set l.1 i m) h.known
  after-known last size set sets s h new None e = after-rest last size set sets s h new (answer_to table (without n set)) refl

  after-set : (last : Bool) (size : ℕ) (set : List ℕ) (sets : List (List ℕ)) (s : Standing) → IsAt last size (set ∷ sets) s → IsAfter last size sets (one_set n table last s set)
  after-set last size set sets s h = case (list_any (λ diagnosis. is_within diagnosis set) s.found) refl
    where
      case : (b : Bool) → list_any (λ diagnosis. is_within diagnosis set) s.found ≡ b → IsAfter last size sets (cond b (ends s) (by_known n table last s set (known_label s.known set)))
      case true e =
          let f = any_at (λ diagnosis. is_within diagnosis set) s.found e in
          set-done last size set sets s h (λ all diagnosis within. inl (f.0, f.1, λ i m. within i (within-from f.0 set f.2 i m)))
      case false e = after-known last size set sets s h e (known_label s.known set) refl

  after-level : (last : Bool) (size : ℕ) (sets : List (List ℕ)) (s : Standing) → IsAt last size sets s → IsAfter last size [] (one_level n table last sets s)
  after-level last size [] s h = h
  after-level last size (set ∷ sets) s h = go-on (one_set n table last s set) (after-set last size set sets s h) (λ after k. after-level last size sets after k)
    where
      go-on : (outcome : Outcome) → IsAfter last size sets outcome → ((after : Standing) → IsAt last size sets after → IsAfter last size [] (one_level n table last sets after)) → IsAfter last size [] (further outcome (λ after. one_level n table last sets after))
      go-on (asks found asked) h rest = h
      go-on (ends after) h rest = rest after h

  small-weaker : (size most : ℕ) (found : List (List ℕ)) → size ≤ most → AreMinimalDiagnoses P n size found → AreMinimalDiagnoses P n most found
  small-weaker size most found l h = record {
    order = h.order;
    minimal = h.minimal;
    small = λ set m. let few : length set ≤ size = h.small set m in omega arith;
  }

  -- the next level begins
  next-level : (last : Bool) (size : ℕ) (s : Standing) → IsAt false size [] s → IsAt last (suc size) s.next (record s { next = [] })
  next-level last size s h = record {
    part = small-weaker size (suc size) s.found (omega arith) h.part;
    ahead = λ a b m k.
        let few : length a ≤ size = h.part.small a m in
        let many : length b ≡ suc size = (h.children b k).many in
        before-by_size n a b (omega arith);
    known = h.known;
    level = h.children;
    sorted = h.next_sorted;
    children = λ set m. absurd (contains_none set m);
    next_sorted = tt;
    covered = λ all diagnosis.
        ⊎_elim
        (λ (f : HasPart s.found all). inl f)
        (λ (r : HasPart [] all ⊎ IsLater false size s.next all).
        ⊎_elim
        (λ (m : HasPart [] all). absurd (contains_none m.0 m.1))
        (λ (l : IsLater false size s.next all). inr (inl (l.part, l.there refl, l.within)))
        r)
        (h.covered all diagnosis);
  }

  -- a minimal diagnosis that has all of a found one is that one
  found-whole : (found : List (List ℕ)) (set : List ℕ) → IsMinimalDiagnosis P n set → ((one : List ℕ) → Contains found one → IsMinimalDiagnosis P n one) → HasPart found set → Contains found set
  found-whole found set d all f =
      let one : IsMinimalDiagnosis P n f.0 = all f.0 f.1 in
      let back : IsWithin set f.0 = d.minimal f.0 f.2 one.diagnosis in
      let same : f.0 ≡ set = Ascends-same f.0 set (Ascends-from_rises 0 n f.0 one.positions) (Ascends-from_rises 0 n set d.positions) f.2 back in
      subst (Contains found) same f.1

  -- the end of the last level, and of an empty one
  last-whole : (size : ℕ) (s : Standing) → IsAt true size [] s → IsListing P n size s.found
  last-whole size s h = record {
    part = h.part;
    whole = λ set d few.
        ⊎_elim
        (λ (f : HasPart s.found set). found-whole s.found set d h.part.minimal f)
        (λ (r : HasPart [] set ⊎ IsLater true size s.next set).
        ⊎_elim
        (λ (m : HasPart [] set). absurd (contains_none m.0 m.1))
        (λ (l : IsLater true size s.next set).
        let much : length l.part ≡ suc size = l.placed.many in
        let less : length l.part ≤ length set = fewer-within l.part set (Ascends-from_rises 0 n l.part l.placed.rises) (Ascends-from_rises 0 n set d.positions) l.within in
        absurd (omega arith))
        r)
        (h.covered set d.diagnosis);
  }

  none-whole : (last : Bool) (size most : ℕ) (s : Standing) → size ≤ most → last ≡ false → IsAt last size [] s → ((x : List ℕ) → ¬ Contains s.next x) → IsListing P n most s.found
  none-whole last size most s l e h empty = record {
    part = small-weaker size most s.found l h.part;
    whole = λ set d few.
        ⊎_elim
        (λ (f : HasPart s.found set). found-whole s.found set d h.part.minimal f)
        (λ (r : HasPart [] set ⊎ IsLater last size s.next set).
        ⊎_elim
        (λ (m : HasPart [] set). absurd (contains_none m.0 m.1))
        (λ (l : IsLater last size s.next set). absurd (empty l.part (l.there e)))
        r)
        (h.covered set d.diagnosis);
  }

  -- before the end there are minimal diagnoses, and at the end all of them
  abbrev pub IsListed : ℕ → Outcome → Type 0
  IsListed most (asks found set) = AreMinimalDiagnoses P n most found
  IsListed most (ends s) = IsListing P n most s.found

  level-last : (size : ℕ) (outcome : Outcome) → IsAfter true size [] outcome → IsListed size outcome
  level-last size (asks found set) h = h
  level-last size (ends s) h = last-whole size s h

  levels-listed : (more size : ℕ) (sets : List (List ℕ)) (s : Standing) → ((last : Bool) → IsAt last size sets s) → ((x : List ℕ) → ¬ Contains s.next x) → IsListed (more + size) (levels n table more sets s)
  levels-listed zero size sets s h empty =
      let same : zero + size ≡ size = omega arith in
      subst (λ (k : ℕ). IsListed k (one_level n table true sets s)) (sym same) (level-last size (one_level n table true sets s) (after-level true size sets s (h true)))
  levels-listed (suc more) size [] s h empty = none-whole false size (suc more + size) s (omega arith) refl (h false) empty
  levels-listed (suc more) size (set ∷ sets) s h empty =
      go-on (one_level n table false (set ∷ sets) s) (after-level false size (set ∷ sets) s (h false))
      (λ after k.
      let same : more + suc size ≡ suc more + size = omega arith in
      subst (λ (m : ℕ). IsListed m (levels n table more after.next (record after { next = [] }))) same
      (levels-listed more (suc size) after.next (record after { next = [] }) (λ last. next-level last size after k) (λ x m. contains_none x m)))
    where
      go-on : (outcome : Outcome) → IsAfter false size [] outcome → ((after : Standing) → IsAt false size [] after → IsListed (suc more + size) (levels n table more after.next (record after { next = [] }))) → IsListed (suc more + size) (further outcome (λ after. levels n table more after.next (record after { next = [] })))
      go-on (asks found asked) h rest = small-weaker size (suc more + size) found (omega arith) h
      go-on (ends after) h rest = rest after h

  pub tree-listed : (most : ℕ) (first : List ℕ) → RiseWithin 0 n first → (¬ P first) → IsListed most (tree n first most table)
  tree-listed most first rises fails =
      let same : most + 0 ≡ most = omega arith in
      subst (λ (k : ℕ). IsListed k (tree n first most table)) same
      (levels-listed most 0 ([] ∷ []) (record { found = []; known = first ∷ []; next = [] })
      (λ last. record {
        part = record { order = tt; minimal = λ set m. absurd (contains_none set m); small = λ set m. absurd (contains_none set m) };
        ahead = λ a b m k. absurd (contains_none a m);
        known = λ conflict m. ⊎_elim (λ (e : first ≡ conflict). subst IsConflict e (record { within = rises-in_range n first rises; fails = fails })) (λ (l : Contains [] conflict). absurd (contains_none conflict l)) (first_or_later first [] conflict m);
        level = λ set m. ⊎_elim (λ (e : [] ≡ set). subst (IsPlaced n 0) e (record { rises = tt; many = refl })) (λ (l : Contains [] set). absurd (contains_none set l)) (first_or_later [] [] set m);
        sorted = ((λ other m. absurd (contains_none other m)), tt);
        children = λ set m. absurd (contains_none set m);
        next_sorted = tt;
        covered = λ all diagnosis. inr (inl ([], contains_first [] [], λ i m. absurd (contains_none i m)));
      })
      (λ x m. contains_none x m))

  pub found-listed : (most : ℕ) (outcome : Outcome) → IsListed most outcome → AreMinimalDiagnoses P n most (found_by outcome)
  found-listed most (asks found set) h = h
  found-listed most (ends s) h = h.part

  pub done-listed : (most : ℕ) (outcome : Outcome) → IsListed most outcome → IsDone (next_of outcome) → IsListing P n most (found_by outcome)
  done-listed most (asks found set) h done = absurd done
  done-listed most (ends s) h done = h
