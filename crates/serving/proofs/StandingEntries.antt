-- How entries stand after a step at one of them.
use Rattle.std.proofs.Common.{◌≡◌, ◌≢◌, ◌∙◌, refl, sym, ap, subst, ℕ, zero, suc, ◌<◌, List, [], ◌∷◌, ◌++◌, length, arith}
use Rattle.std.proofs.lemmas.List.{length-map}
use Rattle.std.proofs.lemmas.Bool.{true≢false}
use mathlib.Core.Option.{some, some-injective, some-ne-none}
use lib.ListN.{get_elem?}
use Rattle.req_keys.specs.Key.{PositionSet}
use Rattle.check_table.specs.Found.{IsWanted}
use Rattle.check_table.specs.Views.{change_at}
use Rattle.check_table.specs.declared.view.KnownEntry.{KnownEntry}
use Rattle.check_table.specs.declared.view.MainView.{MainView}
use Rattle.check_table.proofs.Entries.{at_less, change_else}
use Rattle.serving.specs.Entries.{keys_of, IsCancelled, StandsUnder}
use Rattle.serving.specs.inside.Staying.{Keeps, LeavesOthers}

pub at-longer : {X : Type 0} (xs ys : List X) (t : ℕ) (x : X) → get_elem? xs t ≡ some x → get_elem? (xs ++ ys) t ≡ some x
at-longer [] ys t x at = absurd (some-ne-none x (sym at))
at-longer (y ∷ xs) ys zero x at = at
at-longer (y ∷ xs) ys (suc t) x at = at-longer xs ys t x at

pub keys-length : (es : List KnownEntry) → length (keys_of es) ≡ length es
keys-length es = length-map es (λ (e : KnownEntry). e.key)

pub keys-change : (f : KnownEntry → KnownEntry) → ((e : KnownEntry) → (f e).key ≡ e.key) → (es : List KnownEntry) (t : ℕ) → keys_of (change_at f t es) ≡ keys_of es
keys-change f same [] t = refl
keys-change f same (e ∷ es) zero = ap (λ (k : PositionSet). k ∷ keys_of es) (same e)
keys-change f same (e ∷ es) (suc t) = ap (λ (ks : List PositionSet). e.key ∷ ks) (keys-change f same es t)

-- what is read at its number alone stays where that is read
pub stands-there : (es now : List KnownEntry) (t : ℕ) (key : PositionSet) → get_elem? now t ≡ get_elem? es t → StandsUnder es t key → StandsUnder now t key
stands-there es now t key there s = record { entry = s.entry; at = there ∙ s.at; same = s.same; kept = s.kept; free = s.free }

pub cancelled-there : (es now : List KnownEntry) (t : ℕ) → get_elem? now t ≡ get_elem? es t → IsCancelled es t → IsCancelled now t
cancelled-there es now t there s = record { entry = s.entry; at = there ∙ s.at; marked = s.marked }

pub stands-wanted : (m : MainView) (t : ℕ) (key : PositionSet) → StandsUnder m.entries t key → IsWanted m t
stands-wanted m t key s = record { entry = s.entry; at = s.at; kept = s.kept; free = s.free }

pub stands-less : (es : List KnownEntry) (t : ℕ) (key : PositionSet) → StandsUnder es t key → t < length es
stands-less es t key s = at_less es t s.entry s.at

-- an entry that was cancelled doesn't stand
pub cancelled-apart : (es : List KnownEntry) (t u : ℕ) (key : PositionSet) → StandsUnder es t key → IsCancelled es u → u ≢ t
cancelled-apart es t u key s c same =
    let at : get_elem? es t ≡ some c.entry = subst (λ (n : ℕ). get_elem? es n ≡ some c.entry) same c.at in
    let one : s.entry ≡ c.entry = some-injective s.entry c.entry (sym s.at ∙ at) in
    true≢false (sym c.marked ∙ sym (ap (λ (e : KnownEntry). e.cancelled) one) ∙ s.kept)

-- ---- what a seat keeps

pub keeps-all : (a : MainView) → Keeps a a
keeps-all a = record { problem = refl; size = refl; stopped = refl; made = refl; left = refl; count = omega arith }

pub keeps-on : (a b c : MainView) → Keeps a b → Keeps b c → Keeps a c
keeps-on a b c k l = record {
  problem = l.problem ∙ k.problem;
  size = l.size ∙ k.size;
  stopped = l.stopped ∙ k.stopped;
  made = l.made ∙ k.made;
  left = l.left ∙ k.left;
  count = let one = k.count in let two = l.count in omega arith;
}

pub leaves-all : (t : ℕ) (es : List KnownEntry) → LeavesOthers t es es
leaves-all t es = record { keys = refl; others = λ u ne. refl }

pub leaves-on : (t : ℕ) (a b c : List KnownEntry) → LeavesOthers t a b → LeavesOthers t b c → LeavesOthers t a c
leaves-on t a b c k l = record { keys = l.keys ∙ k.keys; others = λ u ne. l.others u ne ∙ k.others u ne }

pub leaves-change : (f : KnownEntry → KnownEntry) → ((e : KnownEntry) → (f e).key ≡ e.key) → (es : List KnownEntry) (t : ℕ) → LeavesOthers t es (change_at f t es)
leaves-change f same es t = record { keys = keys-change f same es t; others = λ u ne. change_else f es t u ne }
