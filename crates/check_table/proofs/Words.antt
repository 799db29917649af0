-- What one changed word does to what the words say.
use Rattle.std.proofs.Common.{◌≡◌, ℕ, ◌+◌, ◌<◌, ◌≤◌, List, length, get_or, set, sym, ap, ◌∙◌, subst, arith, length-set, get_or-set_same, get_or-set_other}
use mathlib.Core.Logic.{dite}
use native.Mathlib.Decide.{ℕ_discrete}
use Rattle.clauses.specs.Problem.{ClauseProblem}
use Rattle.check_table.specs.Places.{key_width, slot, code}
use Rattle.check_table.specs.Rule.{marked}
use Rattle.check_table.proofs.Fits.{WordsFit}
use Rattle.req_keys.specs.declared.verdict.Cell.{Cell}
use Rattle.check_table.specs.declared.view.MainView.{MainView}
use Rattle.check_table.proofs.Slots.{same_entry, same_word, slot_in, slot_past}
use Rattle.check_table.proofs.Codes.{upd, upd_same, upd_else}

module _ (p : ClauseProblem) (size : ℕ) (words : List ℕ) (main : MainView) (cursor : ℕ) (cells : ℕ → Cell) (fit : WordsFit p size words main cursor cells) where
  -- the cursor moves
  pub cursor_moves : (n : ℕ) → WordsFit p size (set words 0 n) main n cells
  cursor_moves n = let big = fit.sized in record {
    sized = length-set words 0 n ∙ fit.sized;
    cursor_at = get_or-set_same words 0 n 0 (omega arith);
    stop_at = get_or-set_other words 0 1 n 0 (omega arith) ∙ fit.stop_at;
    states = λ t before. let past = slot_past (key_width p) t 0 in get_or-set_other words 0 (slot (key_width p) t 0) n 0 (omega arith) ∙ fit.states t before;
    keys = λ t j e at small. let past = slot_past (key_width p) t (1 + j) in get_or-set_other words 0 (slot (key_width p) t (1 + j)) n 0 (omega arith) ∙ fit.keys t j e at small;
    next = λ j small few. let past = slot_past (key_width p) (length main.entries) (1 + j) in get_or-set_other words 0 (slot (key_width p) (length main.entries) (1 + j)) n 0 (omega arith) ∙ fit.next j small few;
  }

  -- the state of an entry changes
  pub state_moves : (row : length main.written ≤ key_width p) (t : ℕ) (c : Cell) → t < size → WordsFit p size (set words (slot (key_width p) t 0) (code c (marked main.entries t))) main cursor (upd cells t c)
  state_moves row t c within = let big = fit.sized in let w : ℕ = key_width p in let i : ℕ = slot w t 0 in let n : ℕ = code c (marked main.entries t) in let past = slot_past w t 0 in let fits = slot_in w t 0 size within (omega arith) in record {
    sized = length-set words i n ∙ fit.sized;
    cursor_at = get_or-set_other words i 0 n 0 (omega arith) ∙ fit.cursor_at;
    stop_at = get_or-set_other words i 1 n 0 (omega arith) ∙ fit.stop_at;
    states = λ u before. dite (ℕ_discrete u t)
        (λ e. subst (λ (k : ℕ). get_or (set words i n) (slot w k 0) 0 ≡ code (upd cells t c k) (marked main.entries k)) (sym e)
        (get_or-set_same words i n 0 (omega arith) ∙ ap (λ (x : Cell). code x (marked main.entries t)) (sym (upd_same cells t c))))
        (λ ne. get_or-set_other words i (slot w u 0) n 0 (λ e. ne (same_entry w u t 0 0 (omega arith) (omega arith) e)) ∙ fit.states u before
        ∙ ap (λ (x : Cell). code x (marked main.entries u)) (sym (upd_else cells t u c ne)));
    keys = λ u j e at small. get_or-set_other words i (slot w u (1 + j)) n 0
        (λ is. let same = same_entry w u t (1 + j) 0 (omega arith) (omega arith) is in let no : 1 + j ≡ 0 = same_word w t (1 + j) 0 (subst (λ (k : ℕ). slot w k (1 + j) ≡ slot w t 0) same is) in absurd (omega arith)) ∙ fit.keys u j e at small;
    next = λ j small few. get_or-set_other words i (slot w (length main.entries) (1 + j)) n 0
        (λ is. let same = same_entry w (length main.entries) t (1 + j) 0 (omega arith) (omega arith) is in let no : 1 + j ≡ 0 = same_word w t (1 + j) 0 (subst (λ (k : ℕ). slot w k (1 + j) ≡ slot w t 0) same is) in absurd (omega arith)) ∙ fit.next j small few;
  }
