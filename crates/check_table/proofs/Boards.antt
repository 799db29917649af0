-- The board as it is read off the table: its entries, and its tickets.
use Rattle.std.proofs.Common.{◌≡◌, ◌≢◌, ℕ, zero, suc, ◌+◌, ◌-◌, ◌<◌, ◌≤◌, Bool, cond, true, false, List, [], ◌∷◌, ◌++◌, length, map, get_or, set, sym, refl, ap, ◌∙◌, subst, arith, eqb, eq-eqb, ne_eqb, ext_get_or, get_or-set_same, get_or-set_other, length-set}
use Rattle.std.specs.Prelude.{slice_get, slice_set, Option, Some, None}
use Rattle.std.specs.List.{range_with_len}
use Rattle.std.proofs.lemmas.Option.{slice_get-get_or}
use Rattle.std.proofs.lemmas.List.FromFn.{length-map-range_with_len, get_or-map-range_with_len}
use mathlib.Core.Logic.{dite}
use mathlib.Core.Option.{some, some-injective, some-ne-none}
use native.Mathlib.Decide.{ℕ_discrete}
use lib.ListN.{get_elem?}
use Rattle.clauses.specs.Problem.{ClauseProblem}
use Rattle.board.specs.declared.state.Entry.{Entry}
use Rattle.board.specs.declared.state.Board.{Board}
use Rattle.board.specs.Board.{tickets_of}
use Rattle.check_table.specs.Views.{change_at}
use Rattle.check_table.specs.Board.{state_word, entry_read, entries_read, known_in, ticket_if, ticket_by_number}
use Rattle.check_table.specs.declared.view.KnownEntry.{KnownEntry}
use Rattle.check_table.specs.declared.view.MainView.{MainView}
use Rattle.check_table.specs.declared.view.WorkerView.{WorkerView}
use Rattle.check_table.specs.declared.view.View.{View}
use Rattle.check_table.specs.declared.view.View.TheVariants.{Main, Worker, Spent}

pub same_board : (a b : Board) → a.entries ≡ b.entries → a.cursor ≡ b.cursor → a.tickets ≡ b.tickets → a.stopped ≡ b.stopped → a.size ≡ b.size → a ≡ b
same_board a b entries cursor tickets stopped size = λ i. record { entries = entries i; cursor = cursor i; tickets = tickets i; stopped = stopped i; size = size i }

-- ---- entries
module _ (p : ClauseProblem) where
  pub entries_same : (words words' : List ℕ) (k : ℕ) (es : List KnownEntry) → ((t : ℕ) → k ≤ t → t < k + length es → state_word p words' t ≡ state_word p words t) → entries_read p words' k es ≡ entries_read p words k es
  entries_same words words' k [] f = refl
  entries_same words words' k (e ∷ es) f =
      let first = f k (omega arith) (omega arith) in
      let others = entries_same words words' (k + 1) es (λ t low high. f t (omega arith) (omega arith)) in
      λ i. entry_read (first i) e ∷ others i

  pub entries_get : (words : List ℕ) (k : ℕ) (es : List KnownEntry) (t u : ℕ) (e : KnownEntry) → u ≡ k + t → get_elem? es t ≡ some e → slice_get (entries_read p words k es) t ≡ Some (entry_read (state_word p words u) e)
  entries_get words k [] t u e is at = absurd (some-ne-none e (sym at))
  entries_get words k (x ∷ es) zero u e is at = let same : k ≡ u = omega arith in λ i. Some (entry_read (state_word p words (same i)) (some-injective x e at i))
  entries_get words k (x ∷ es) (suc t) u e is at = entries_get words (k + 1) es t u e (omega arith) at

  pub entries_none : (words : List ℕ) (k : ℕ) (es : List KnownEntry) (t : ℕ) → length es ≤ t → slice_get (entries_read p words k es) t ≡ None
  entries_none words k [] t past = refl
  entries_none words k (x ∷ es) zero past = absurd (omega arith)
  entries_none words k (x ∷ es) (suc t) past = entries_none words (k + 1) es t (omega arith)

  pub entries_length : (words : List ℕ) (k : ℕ) (es : List KnownEntry) → length (entries_read p words k es) ≡ length es
  entries_length words k [] = refl
  entries_length words k (x ∷ es) = ap suc (entries_length words (k + 1) es)

  -- only the keys of what the main seat knows are read
  pub entries_change : (words : List ℕ) (g : KnownEntry → KnownEntry) → ((e : KnownEntry) → (g e).key ≡ e.key) → (k : ℕ) (es : List KnownEntry) (t : ℕ) → entries_read p words k (change_at g t es) ≡ entries_read p words k es
  entries_change words g keys k [] t = refl
  entries_change words g keys k (x ∷ es) zero = λ i. record { key = keys x i; cell = (entry_read (state_word p words k) x).cell; cancelled = (entry_read (state_word p words k) x).cancelled } ∷ entries_read p words (k + 1) es
  entries_change words g keys k (x ∷ es) (suc t) = ap (λ (l : List Entry). entry_read (state_word p words k) x ∷ l) (entries_change words g keys (k + 1) es t)

  pub entries_end : (words : List ℕ) (k : ℕ) (es : List KnownEntry) (u : ℕ) (e : KnownEntry) → u ≡ k + length es → entries_read p words k (es ++ e ∷ []) ≡ entries_read p words k es ++ entry_read (state_word p words u) e ∷ []
  entries_end words k [] u e is = let same : k ≡ u = omega arith in λ i. entry_read (state_word p words (same i)) e ∷ []
  entries_end words k (x ∷ es) u e is = ap (λ (l : List Entry). entry_read (state_word p words k) x ∷ l) (entries_end words (k + 1) es u e (omega arith))

  -- the state word of one entry changes
  pub entries_set : (words words' : List ℕ) (k : ℕ) (es : List KnownEntry) (t u : ℕ) (e : KnownEntry) → u ≡ k + t → get_elem? es t ≡ some e → ((v : ℕ) → v ≢ u → v < k + length es → state_word p words' v ≡ state_word p words v)
      → entries_read p words' k es ≡ slice_set (entries_read p words k es) t (entry_read (state_word p words' u) e)
  entries_set words words' k [] t u e is at f = absurd (some-ne-none e (sym at))
  entries_set words words' k (x ∷ es) zero u e is at f = let same : k ≡ u = omega arith in
      let others = entries_same words words' (k + 1) es (λ v low high. f v (λ z. omega arith) (omega arith)) in
      λ i. entry_read (state_word p words' (same i)) (some-injective x e at i) ∷ others i
  entries_set words words' k (x ∷ es) (suc t) u e is at f =
      let first = f k (λ z. omega arith) (omega arith) in
      let others = entries_set words words' (k + 1) es t u e (omega arith) at (λ v ne less. f v ne (omega arith)) in
      λ i. entry_read (first i) x ∷ others i

pub known_is : (vs : List View) (m : MainView) → get_elem? vs 0 ≡ some (Main m) → known_in vs ≡ m.entries
known_is [] m at = absurd (some-ne-none (Main m) (sym at))
known_is (x ∷ vs) m at = ap (λ (v : View). known_in (v ∷ vs)) (some-injective x (Main m) at)

-- ---- tickets by number
-- the worker at id has no namesake
abbrev pub Alone : List View → ℕ → ℕ → Type 0
Alone l id n = (j : ℕ) (v : WorkerView) → get_elem? l j ≡ some (Worker v) → v.number ≡ n → j ≡ id

-- whether the view is that of the worker with the number
first : (v : WorkerView) (rest : List View) (n : ℕ) → v.number ≡ n → ticket_by_number (Worker v ∷ rest) n ≡ ticket_if v.stage
first v rest n e = ap (λ (b : Bool). cond b (ticket_if v.stage) (ticket_by_number rest n)) (eq-eqb v.number n e)

past : (v : WorkerView) (rest : List View) (n : ℕ) → v.number ≢ n → ticket_by_number (Worker v ∷ rest) n ≡ ticket_by_number rest n
past v rest n ne = ap (λ (b : Bool). cond b (ticket_if v.stage) (ticket_by_number rest n)) (ne_eqb v.number n ne)

pub own_ticket : (l : List View) (id : ℕ) (w : WorkerView) → get_elem? l id ≡ some (Worker w) → Alone l id w.number → ticket_by_number l w.number ≡ ticket_if w.stage
own_ticket [] id w at alone = absurd (some-ne-none (Worker w) (sym at))
own_ticket (x ∷ xs) zero w at alone = ap (λ (v : View). ticket_by_number (v ∷ xs) w.number) (some-injective x (Worker w) at) ∙ first w xs w.number refl
own_ticket (Main m ∷ xs) (suc id) w at alone = own_ticket xs id w at (λ j v a e. let q = alone (suc j) v a e in omega arith)
own_ticket (Spent ∷ xs) (suc id) w at alone = own_ticket xs id w at (λ j v a e. let q = alone (suc j) v a e in omega arith)
own_ticket (Worker u ∷ xs) (suc id) w at alone = past u xs w.number (λ e. let q = alone zero u refl e in omega arith) ∙ own_ticket xs id w at (λ j v a e. let q = alone (suc j) v a e in omega arith)

-- the worker with the number has another view, or none
own_changed : (l : List View) (id : ℕ) (w w' : WorkerView) → get_elem? l id ≡ some (Worker w) → Alone l id w.number → w'.number ≡ w.number → ticket_by_number (set l id (Worker w')) w.number ≡ ticket_if w'.stage
own_changed [] id w w' at alone number = absurd (some-ne-none (Worker w) (sym at))
own_changed (x ∷ xs) zero w w' at alone number = first w' xs w.number number
own_changed (Main m ∷ xs) (suc id) w w' at alone number = own_changed xs id w w' at (λ j v a e. let q = alone (suc j) v a e in omega arith) number
own_changed (Spent ∷ xs) (suc id) w w' at alone number = own_changed xs id w w' at (λ j v a e. let q = alone (suc j) v a e in omega arith) number
own_changed (Worker u ∷ xs) (suc id) w w' at alone number = past u (set xs id (Worker w')) w.number (λ e. let q = alone zero u refl e in omega arith) ∙ own_changed xs id w w' at (λ j v a e. let q = alone (suc j) v a e in omega arith) number

nobody : (l : List View) (n : ℕ) → ((j : ℕ) (v : WorkerView) → get_elem? l j ≡ some (Worker v) → v.number ≡ n → ⊥) → ticket_by_number l n ≡ None
nobody [] n free = refl
nobody (Main m ∷ xs) n free = nobody xs n (λ j v a e. free (suc j) v a e)
nobody (Spent ∷ xs) n free = nobody xs n (λ j v a e. free (suc j) v a e)
nobody (Worker u ∷ xs) n free = past u xs n (λ e. free zero u refl e) ∙ nobody xs n (λ j v a e. free (suc j) v a e)

own_spent : (l : List View) (id : ℕ) (w : WorkerView) → get_elem? l id ≡ some (Worker w) → Alone l id w.number → ticket_by_number (set l id Spent) w.number ≡ None
own_spent [] id w at alone = absurd (some-ne-none (Worker w) (sym at))
own_spent (x ∷ xs) zero w at alone = nobody xs w.number (λ j v a e. let q = alone (suc j) v a e in omega arith)
own_spent (Main m ∷ xs) (suc id) w at alone = own_spent xs id w at (λ j v a e. let q = alone (suc j) v a e in omega arith)
own_spent (Spent ∷ xs) (suc id) w at alone = own_spent xs id w at (λ j v a e. let q = alone (suc j) v a e in omega arith)
own_spent (Worker u ∷ xs) (suc id) w at alone = past u (set xs id Spent) w.number (λ e. let q = alone zero u refl e in omega arith) ∙ own_spent xs id w at (λ j v a e. let q = alone (suc j) v a e in omega arith)

-- the others keep their tickets
other_changed : (l : List View) (id : ℕ) (w w' : WorkerView) (k : ℕ) → get_elem? l id ≡ some (Worker w) → w'.number ≡ w.number → k ≢ w.number → ticket_by_number (set l id (Worker w')) k ≡ ticket_by_number l k
other_changed [] id w w' k at number ne = absurd (some-ne-none (Worker w) (sym at))
other_changed (x ∷ xs) zero w w' k at number ne = past w' xs k (λ e. ne (sym e ∙ number)) ∙ sym (ap (λ (v : View). ticket_by_number (v ∷ xs) k) (some-injective x (Worker w) at) ∙ past w xs k (λ e. ne (sym e)))
other_changed (Main m ∷ xs) (suc id) w w' k at number ne = other_changed xs id w w' k at number ne
other_changed (Spent ∷ xs) (suc id) w w' k at number ne = other_changed xs id w w' k at number ne
other_changed (Worker u ∷ xs) (suc id) w w' k at number ne = ap (λ o. cond (eqb u.number k) (ticket_if u.stage) o) (other_changed xs id w w' k at number ne)

other_spent : (l : List View) (id : ℕ) (w : WorkerView) (k : ℕ) → get_elem? l id ≡ some (Worker w) → k ≢ w.number → ticket_by_number (set l id Spent) k ≡ ticket_by_number l k
other_spent [] id w k at ne = absurd (some-ne-none (Worker w) (sym at))
other_spent (x ∷ xs) zero w k at ne = sym (ap (λ (v : View). ticket_by_number (v ∷ xs) k) (some-injective x (Worker w) at) ∙ past w xs k (λ e. ne (sym e)))
other_spent (Main m ∷ xs) (suc id) w k at ne = other_spent xs id w k at ne
other_spent (Spent ∷ xs) (suc id) w k at ne = other_spent xs id w k at ne
other_spent (Worker u ∷ xs) (suc id) w k at ne = ap (λ o. cond (eqb u.number k) (ticket_if u.stage) o) (other_spent xs id w k at ne)

-- the main seat has none
main_tickets : (l : List View) (m m' : MainView) (k : ℕ) → get_elem? l 0 ≡ some (Main m) → ticket_by_number (set l 0 (Main m')) k ≡ ticket_by_number l k
main_tickets [] m m' k at = absurd (some-ne-none (Main m) (sym at))
main_tickets (x ∷ xs) m m' k at = sym (ap (λ (v : View). ticket_by_number (v ∷ xs) k) (some-injective x (Main m) at))

-- and neither has a new worker
new_tickets : (l : List View) (w : WorkerView) (k : ℕ) → ticket_if w.stage ≡ None → ticket_by_number (l ++ Worker w ∷ []) k ≡ ticket_by_number l k
new_tickets [] w k none = by (eqb w.number k)
  where
    by : (b : Bool) → cond b (ticket_if w.stage) None ≡ None
    by true = none
    by false = refl
new_tickets (Main m ∷ xs) w k none = new_tickets xs w k none
new_tickets (Spent ∷ xs) w k none = new_tickets xs w k none
new_tickets (Worker u ∷ xs) w k none = ap (λ o. cond (eqb u.number k) (ticket_if u.stage) o) (new_tickets xs w k none)

-- ---- the list of tickets
abbrev pub listed : (ℕ → Option ℕ) → List (Option ℕ)
listed f = map f (range_with_len 1 64)

same_list : (f g : ℕ → Option ℕ) → ((n : ℕ) → g n ≡ f n) → listed g ≡ listed f
same_list f g same = ap (λ (h : ℕ → Option ℕ). listed h) (λ i n. same n i)

set_list : (f g : ℕ → Option ℕ) (w : ℕ) (x : Option ℕ) → 1 ≤ w → w ≤ 64 → g w ≡ x → ((n : ℕ) → n ≢ w → g n ≡ f n) → listed g ≡ slice_set (listed f) (w - 1) x
set_list f g w x low high is others =
    let long_g = length-map-range_with_len g 1 64 in let long_f = length-map-range_with_len f 1 64 in let long_set = length-set (listed f) (w - 1) x in
    ext_get_or None (listed g) (slice_set (listed f) (w - 1) x) (long_g ∙ sym (long_set ∙ long_f))
    (λ i less. let small : i < 64 = omega arith in get_or-map-range_with_len g 1 64 i (1 + i) None small refl ∙ dite (ℕ_discrete (1 + i) w)
    (λ e. let place : w - 1 ≡ i = omega arith in ap g e ∙ is ∙ sym (ap (λ (k : ℕ). get_or (set (listed f) k x) i None) place ∙ get_or-set_same (listed f) i x None (omega arith)))
    (λ ne. others (1 + i) ne ∙ sym (get_or-set_other (listed f) (w - 1) i x None (λ z. ne (omega arith)) ∙ get_or-map-range_with_len f 1 64 i (1 + i) None small refl)))

pub list_get : (f : ℕ → Option ℕ) (w : ℕ) (x : Option ℕ) → 1 ≤ w → w ≤ 64 → f w ≡ x → tickets_of w (listed f) ≡ Some x
list_get f zero x low high is = absurd (omega arith)
list_get f (suc k) x low high is = let long = length-map-range_with_len f 1 64 in
    slice_get-get_or (listed f) k None (omega arith) ∙ ap Some (get_or-map-range_with_len f 1 64 k (suc k) None (omega arith) (omega arith) ∙ is)

-- ---- the tickets of the views after a step
pub tickets_main : (l : List View) (m m' : MainView) → get_elem? l 0 ≡ some (Main m) → listed (ticket_by_number (set l 0 (Main m'))) ≡ listed (ticket_by_number l)
tickets_main l m m' at = same_list (ticket_by_number l) (ticket_by_number (set l 0 (Main m'))) (λ n. main_tickets l m m' n at)

pub tickets_new : (l : List View) (w : WorkerView) → ticket_if w.stage ≡ None → listed (ticket_by_number (l ++ Worker w ∷ [])) ≡ listed (ticket_by_number l)
tickets_new l w none = same_list (ticket_by_number l) (ticket_by_number (l ++ Worker w ∷ [])) (λ n. new_tickets l w n none)

module _ (l : List View) (id : ℕ) (w : WorkerView) (at : get_elem? l id ≡ some (Worker w)) (alone : Alone l id w.number) (low : 1 ≤ w.number) (high : w.number ≤ 64) where
  pub tickets_own : tickets_of w.number (listed (ticket_by_number l)) ≡ Some (ticket_if w.stage)
  tickets_own = list_get (ticket_by_number l) w.number (ticket_if w.stage) low high (own_ticket l id w at alone)

  pub tickets_set : (w' : WorkerView) → w'.number ≡ w.number → listed (ticket_by_number (set l id (Worker w'))) ≡ slice_set (listed (ticket_by_number l)) (w.number - 1) (ticket_if w'.stage)
  tickets_set w' number = set_list (ticket_by_number l) (ticket_by_number (set l id (Worker w'))) w.number (ticket_if w'.stage) low high (own_changed l id w w' at alone number)
      (λ n ne. other_changed l id w w' n at number ne)

  pub tickets_kept : (w' : WorkerView) → w'.number ≡ w.number → ticket_if w'.stage ≡ ticket_if w.stage → listed (ticket_by_number (set l id (Worker w'))) ≡ listed (ticket_by_number l)
  tickets_kept w' number same = same_list (ticket_by_number l) (ticket_by_number (set l id (Worker w')))
      (λ n. dite (ℕ_discrete n w.number)
      (λ e. subst (λ (k : ℕ). ticket_by_number (set l id (Worker w')) k ≡ ticket_by_number l k) (sym e) (own_changed l id w w' at alone number ∙ same ∙ sym (own_ticket l id w at alone)))
      (λ ne. other_changed l id w w' n at number ne))

  pub tickets_spent : listed (ticket_by_number (set l id Spent)) ≡ slice_set (listed (ticket_by_number l)) (w.number - 1) None
  tickets_spent = set_list (ticket_by_number l) (ticket_by_number (set l id Spent)) w.number None low high (own_spent l id w at alone) (λ n ne. other_spent l id w n at ne)

  pub tickets_idle : ticket_if w.stage ≡ None → listed (ticket_by_number (set l id Spent)) ≡ listed (ticket_by_number l)
  tickets_idle none = same_list (ticket_by_number l) (ticket_by_number (set l id Spent))
      (λ n. dite (ℕ_discrete n w.number)
      (λ e. subst (λ (k : ℕ). ticket_by_number (set l id Spent) k ≡ ticket_by_number l k) (sym e) (own_spent l id w at alone ∙ sym (own_ticket l id w at alone ∙ none)))
      (λ ne. other_spent l id w n at ne))
