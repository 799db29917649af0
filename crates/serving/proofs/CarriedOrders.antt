-- The entries once a turn's orders are carried out.
use Rattle.std.proofs.Common.{◌≡◌, ◌≢◌, ◌∙◌, refl, sym, ap, subst, ℕ, zero, suc, ◌+◌, ◌<◌, ◌≤◌, Bool, true, false, cond, List, [], ◌∷◌, ◌++◌, length, map, get_or, take, ⊎_elim, arith, length-append}
use Rattle.std.specs.Prelude.{All, Contains}
use Rattle.std.proofs.lemmas.Bool.{cases_eq, cases_lt, true≢false}
use Rattle.std.proofs.lemmas.List.{append_assoc, length-map, length-take-le, map-append, take_more}
use Rattle.std.proofs.lemmas.List.Elements.{All-contains, All-get_or}
use Rattle.std.proofs.lemmas.List.Sums.{fold_more}
use mathlib.Core.Option.{some}
use lib.ListN.{get_elem?}
use Rattle.lists.specs.Distinct.{IsDistinct}
use Rattle.lists.proofs.Members.{first, later, none, first_or_later}
use Rattle.req_keys.specs.Key.{PositionSet}
use Rattle.look_ahead.specs.Posting.{PostingState}
use Rattle.look_ahead.specs.declared.orders.Orders.{Orders}
use Rattle.look_ahead.proofs.LiveEntries.{distinct-before}
use Rattle.check_table.specs.Found.{IsWanted}
use Rattle.check_table.specs.Views.{after_cancel, change_at, fresh_entry, posted_key}
use Rattle.check_table.specs.declared.view.KnownEntry.{KnownEntry}
use Rattle.check_table.specs.declared.view.MainView.{MainView}
use Rattle.check_table.proofs.Entries.{at_map, change_else, change_here}
use Rattle.serving.specs.Entries.{keys_of, IsCancelled, StandsUnder}
use Rattle.serving.specs.Rounds.{round_keys, AreReady, IsHeld}
use Rattle.serving.specs.inside.Carrying.{with_cancels, with_mark, with_marks, with_orders}
use Rattle.serving.specs.inside.Staying.{Keeps}
use Rattle.serving.proofs.LiveEntries.{all-members, round-length}
use Rattle.serving.proofs.StandingEntries.{at-longer, keys-change, keys-length}

-- ---- marks

pub marks-keys : (numbers : List ℕ) (es : List KnownEntry) → keys_of (with_marks numbers es) ≡ keys_of es
marks-keys [] es = refl
marks-keys (n ∷ ns) es = marks-keys ns (change_at with_mark n es) ∙ keys-change with_mark (λ e. refl) es n

pub marks-length : (numbers : List ℕ) (es now : List KnownEntry) → now ≡ with_marks numbers es → length now ≡ length es
marks-length numbers es now is =
    ap length is ∙ sym (keys-length (with_marks numbers es)) ∙ ap length (marks-keys numbers es) ∙ keys-length es

pub marks-else : (numbers : List ℕ) (es : List KnownEntry) (u : ℕ) → (¬ Contains numbers u) → get_elem? (with_marks numbers es) u ≡ get_elem? es u
marks-else [] es u absent = refl
marks-else (n ∷ ns) es u absent =
    let other : u ≢ n = λ same. absent (subst (Contains (n ∷ ns)) (sym same) (first n ns)) in
    marks-else ns (change_at with_mark n es) u (λ m. absent (later n ns u m)) ∙ change_else with_mark es n u other

mark-stays : (es : List KnownEntry) (n u : ℕ) → IsCancelled es u → IsCancelled (change_at with_mark n es) u
mark-stays es n u c =
    ⊎_elim
    (λ (same : u ≡ n). record {
      entry = with_mark c.entry;
      at = subst (λ (t : ℕ). get_elem? (change_at with_mark t es) u ≡ some (with_mark c.entry)) same (change_here with_mark es u c.entry c.at);
      marked = refl;
    })
    (λ (other : u ≢ n). record { entry = c.entry; at = change_else with_mark es n u other ∙ c.at; marked = c.marked })
    (cases_eq u n)

marks-stay : (numbers : List ℕ) (es : List KnownEntry) (u : ℕ) → IsCancelled es u → IsCancelled (with_marks numbers es) u
marks-stay [] es u c = c
marks-stay (n ∷ ns) es u c = marks-stay ns (change_at with_mark n es) u (mark-stays es n u c)

-- an entry that is there stays there
there-still : (es : List KnownEntry) (n u : ℕ) (e : KnownEntry) → get_elem? es u ≡ some e → (d : KnownEntry) × (get_elem? (change_at with_mark n es) u ≡ some d)
there-still es n u e at =
    ⊎_elim
    (λ (same : u ≡ n). (with_mark e, subst (λ (t : ℕ). get_elem? (change_at with_mark t es) u ≡ some (with_mark e)) same (change_here with_mark es u e at)))
    (λ (other : u ≢ n). (e, change_else with_mark es n u other ∙ at))
    (cases_eq u n)

pub marks-here : (numbers : List ℕ) (es : List KnownEntry) (u : ℕ) (e : KnownEntry) → get_elem? es u ≡ some e → Contains numbers u → IsCancelled (with_marks numbers es) u
marks-here [] es u e at m = absurd (none u m)
marks-here (n ∷ ns) es u e at m =
    ⊎_elim
    (λ (same : n ≡ u). marks-stay ns (change_at with_mark n es) u (record {
      entry = with_mark e;
      at = subst (λ (t : ℕ). get_elem? (change_at with_mark t es) u ≡ some (with_mark e)) (sym same) (change_here with_mark es u e at);
      marked = refl;
    }))
    (λ (rest : Contains ns u). let r = there-still es n u e at in marks-here ns (change_at with_mark n es) u r.0 r.1 rest)
    (first_or_later n ns u m)

-- one entry more
pub marks-more : (numbers : List ℕ) (es now new : List KnownEntry) (i number : ℕ) → i < length numbers → number ≡ get_or numbers i number → now ≡ with_marks (take i numbers) es → new ≡ change_at with_mark number now → new ≡ with_marks (take (i + 1) numbers) es
marks-more numbers es now new i number within is so_far put =
    put
    ∙ ap (λ (l : List KnownEntry). change_at with_mark number l) so_far
    ∙ ap (λ (n : ℕ). change_at with_mark n (with_marks (take i numbers) es)) is
    ∙ sym (fold_more (λ (l : List KnownEntry) (n : ℕ). change_at with_mark n l) es numbers i number within)

-- it is as it was before the marks
pub marks-wanted : (before m : MainView) (numbers : List ℕ) (i number : ℕ) → i < length numbers → number ≡ get_or numbers i number → m.entries ≡ with_marks (take i numbers) before.entries → IsDistinct numbers → All (IsWanted before) numbers → IsWanted m number
marks-wanted before m numbers i number within is so_far once all =
    let w : IsWanted before number = subst (IsWanted before) (sym is) (All-get_or (IsWanted before) numbers i number within all) in
    let same : get_elem? m.entries number ≡ get_elem? before.entries number =
    ap (λ (l : List KnownEntry). get_elem? l number) so_far ∙ marks-else (take i numbers) before.entries number (distinct-before numbers i number number within is once) in
    record { entry = w.entry; at = same ∙ w.at; kept = w.kept; free = w.free }

-- ---- posts

pub posts-keys : (es : List KnownEntry) (post : List PositionSet) → keys_of (es ++ map fresh_entry post) ≡ keys_of es ++ post
posts-keys [] post = fresh post
  where
    fresh : (post : List PositionSet) → keys_of (map fresh_entry post) ≡ post
    fresh [] = refl
    fresh (k ∷ ks) = ap (λ (l : List PositionSet). k ∷ l) (fresh ks)
posts-keys (e ∷ es) post = ap (λ (l : List PositionSet). e.key ∷ l) (posts-keys es post)

pub posts-here : (es : List KnownEntry) (post : List PositionSet) (t : ℕ) (key : PositionSet) → length es ≤ t → get_elem? (keys_of es ++ post) t ≡ some key → get_elem? (es ++ map fresh_entry post) t ≡ some (fresh_entry key)
posts-here [] post t key past at = at_map fresh_entry post t key at
posts-here (e ∷ es) post zero key past at = absurd (omega arith)
posts-here (e ∷ es) post (suc t) key past at = posts-here es post t key (omega arith) at

-- one key more
pub posts-more : (keys : List PositionSet) (es now new : List KnownEntry) (i : ℕ) (key : PositionSet) → i < length keys → key ≡ get_or keys i key → now ≡ es ++ map fresh_entry (take i keys) → new ≡ now ++ fresh_entry key ∷ [] → new ≡ es ++ map fresh_entry (take (i + 1) keys)
posts-more keys es now new i key within is so_far put =
    put
    ∙ ap (λ (l : List KnownEntry). l ++ fresh_entry key ∷ []) so_far
    ∙ append_assoc es (map fresh_entry (take i keys)) (fresh_entry key ∷ [])
    ∙ ap (λ (l : List KnownEntry). es ++ l) (sym (map-append fresh_entry (take i keys) (key ∷ [])))
    ∙ ap (λ (k : PositionSet). es ++ map fresh_entry (take i keys ++ k ∷ [])) is
    ∙ ap (λ (l : List PositionSet). es ++ map fresh_entry l) (sym (take_more keys i key within))

-- there is room for one key more
pub posts-room : (keys : List PositionSet) (es now : List KnownEntry) (i size : ℕ) → i < length keys → length es + length keys ≤ size → now ≡ es ++ map fresh_entry (take i keys) → length now < size
posts-room keys es now i size within room so_far =
    let all : length now ≡ length (es ++ map fresh_entry (take i keys)) = ap length so_far in
    let both = length-append es (map fresh_entry (take i keys)) in
    let mapped = length-map (take i keys) fresh_entry in
    let taken = length-take-le i keys (omega arith) in
    omega arith

-- ---- one step

pub cancel-keeps : (old new : MainView) (t place word : ℕ) → new ≡ after_cancel t place word old → Keeps old new
cancel-keeps old new t place word view =
    let counted : new.trace.count ≡ old.trace.count + 1 = ap (λ (m : MainView). m.trace.count) view in
    record {
      problem = ap (λ (m : MainView). m.problem) view;
      size = ap (λ (m : MainView). m.size) view;
      stopped = ap (λ (m : MainView). m.stopped) view;
      made = ap (λ (m : MainView). m.made) view;
      left = ap (λ (m : MainView). m.left) view;
      count = omega arith;
    }

pub post-keeps : (old new : MainView) (key : PositionSet) → new ≡ posted_key key old → Keeps old new
post-keeps old new key view =
    let counted : new.trace.count ≡ old.trace.count = ap (λ (m : MainView). m.trace.count) view in
    record {
      problem = ap (λ (m : MainView). m.problem) view;
      size = ap (λ (m : MainView). m.size) view;
      stopped = ap (λ (m : MainView). m.stopped) view;
      made = ap (λ (m : MainView). m.made) view;
      left = ap (λ (m : MainView). m.left) view;
      count = omega arith;
    }

-- ---- both

module _ (orders : Orders) (es : List KnownEntry) where
  abbrev marked : Bool → List KnownEntry
  marked new = cond new es (with_marks orders.cancel es)

  marked-keys : (new : Bool) → keys_of (marked new) ≡ keys_of es
  marked-keys true = refl
  marked-keys false = marks-keys orders.cancel es

  marked-length : length (with_cancels orders es) ≡ length es
  marked-length = sym (keys-length (marked orders.new_round)) ∙ ap length (marked-keys orders.new_round) ∙ keys-length es

  pub orders-keys : keys_of (with_orders orders es) ≡ keys_of es ++ orders.post
  orders-keys = posts-keys (marked orders.new_round) orders.post ∙ ap (λ (l : List PositionSet). l ++ orders.post) (marked-keys orders.new_round)

  -- an entry that isn't cancelled is as it was
  orders-else : (new : Bool) (t : ℕ) (key : PositionSet) → (new ≡ false → ¬ Contains orders.cancel t) → StandsUnder es t key → StandsUnder (marked new ++ map fresh_entry orders.post) t key
  orders-else true t key others s = record { entry = s.entry; at = at-longer es (map fresh_entry orders.post) t s.entry s.at; same = s.same; kept = s.kept; free = s.free }
  orders-else false t key others s = record {
    entry = s.entry;
    at = at-longer (with_marks orders.cancel es) (map fresh_entry orders.post) t s.entry (marks-else orders.cancel es t (others refl) ∙ s.at);
    same = s.same;
    kept = s.kept;
    free = s.free;
  }

  -- an entry of a post stands under its key
  orders-post : (t : ℕ) (key : PositionSet) → length es ≤ t → get_elem? (keys_of es ++ orders.post) t ≡ some key → StandsUnder (with_orders orders es) t key
  orders-post t key past at =
      let long = marked-length in
      let is : get_elem? (keys_of (marked orders.new_round) ++ orders.post) t ≡ some key = ap (λ (l : List PositionSet). get_elem? (l ++ orders.post) t) (marked-keys orders.new_round) ∙ at in
      record { entry = fresh_entry key; at = posts-here (marked orders.new_round) orders.post t key (omega arith) is; same = refl; kept = refl; free = refl }

  pub orders-stand : (t : ℕ) (key : PositionSet) → (orders.new_round ≡ false → ¬ Contains orders.cancel t) → (t < length es → StandsUnder es t key) → get_elem? (keys_of es ++ orders.post) t ≡ some key → StandsUnder (with_orders orders es) t key
  orders-stand t key others stands at =
      ⊎_elim
      (λ (less : t < length es). orders-else orders.new_round t key others (stands less))
      (λ (past : length es ≤ t). orders-post t key past at)
      (cases_lt t (length es))

  orders-cancelled : (new : Bool) → new ≡ false → (t : ℕ) (e : KnownEntry) → get_elem? es t ≡ some e → Contains orders.cancel t → IsCancelled (marked new ++ map fresh_entry orders.post) t
  orders-cancelled true is t e at m = absurd (true≢false is)
  orders-cancelled false is t e at m = let c = marks-here orders.cancel es t e at m in record { entry = c.entry; at = at-longer (with_marks orders.cancel es) (map fresh_entry orders.post) t c.entry c.at; marked = c.marked }

  pub orders-cancel : orders.new_round ≡ false → (t : ℕ) (e : KnownEntry) → get_elem? es t ≡ some e → Contains orders.cancel t → IsCancelled (with_orders orders es) t
  orders-cancel is t e at m = orders-cancelled orders.new_round is t e at m

-- orders that were ready are held
module _ (main now : MainView) (posting : PostingState) (orders : Orders) (ready : AreReady main posting orders) (keeps : Keeps main now) (is : now.entries ≡ with_orders orders main.entries) where
  live-stands : (live : PositionSet × ℕ) → Contains {X = PositionSet × ℕ} posting.live live → StandsUnder now.entries live.1 live.0
  live-stands live m =
      let named : get_elem? (round_keys posting) live.1 ≡ some live.0 = All-contains (λ (l : PositionSet × ℕ). get_elem? (round_keys posting) l.1 ≡ some l.0) posting.live live ready.round.named m in
      let stands : live.1 < length main.entries → StandsUnder main.entries live.1 live.0 = All-contains (λ (l : PositionSet × ℕ). l.1 < length main.entries → StandsUnder main.entries l.1 l.0) posting.live live ready.live m in
      let others : orders.new_round ≡ false → ¬ Contains orders.cancel live.1 = λ same. All-contains (λ (l : PositionSet × ℕ). ¬ Contains orders.cancel l.1) posting.live live (ready.others same) m in
      let at : get_elem? (keys_of main.entries ++ orders.post) live.1 ≡ some live.0 = ap (λ (l : List PositionSet). get_elem? l live.1) ready.keys ∙ named in
      subst (λ (l : List KnownEntry). StandsUnder l live.1 live.0) (sym is) (orders-stand orders main.entries live.1 live.0 others stands at)

  pub ready-held : IsHeld now posting
  ready-held = record {
    round = ready.round;
    size = ready.size ∙ sym keeps.size;
    keys = ap keys_of is ∙ orders-keys orders main.entries ∙ ready.keys;
    live = all-members posting.live (λ (l : PositionSet × ℕ). StandsUnder now.entries l.1 l.0) live-stands;
  }

  pub ready-cancelled : orders.new_round ≡ false → (t : ℕ) → Contains orders.cancel t → IsCancelled now.entries t
  ready-cancelled same t m =
      let w = All-contains (IsWanted main) orders.cancel t (ready.wanted same) m in
      subst (λ (l : List KnownEntry). IsCancelled l t) (sym is) (orders-cancel orders main.entries same t w.entry w.at m)

-- the posts fit into the table
pub ready-room : (main : MainView) (posting : PostingState) (orders : Orders) (size : ℕ) → AreReady main posting orders → main.size ≡ size → length main.entries + length orders.post ≤ size
ready-room main posting orders size ready same =
    let all : length (keys_of main.entries ++ orders.post) ≡ length (round_keys posting) = ap length ready.keys in
    let both = length-append (keys_of main.entries) orders.post in
    let front = keys-length main.entries in
    let taken = round-length posting ready.round in
    let within = ready.round.within in
    let as_many = ready.size in
    omega arith
