-- The rule holds of a new table.
use Rattle.std.proofs.Common.{◌≡◌, ℕ, zero, suc, ◌+◌, ◌*◌, ◌≤◌, List, [], ◌∷◌, length, get_or, sym, refl, subst, arith}
use mathlib.Core.Option.{some, some-injective, some-ne-none}
use lib.ListN.{get_elem?}
use Rattle.atomic_table.specs.Table.{opening}
use Rattle.clauses.specs.Problem.{ClauseProblem}
use Rattle.check_table.specs.Places.{key_width, slot}
use Rattle.check_table.specs.Rule.{Rule, opened}
use Rattle.check_table.proofs.Fits.{ViewFits, Fits, rule_of}
use Rattle.req_keys.specs.declared.verdict.Cell.TheVariants.{Empty, Running}
use Rattle.check_table.specs.declared.view.View.{View}
use Rattle.check_table.specs.declared.view.View.TheVariants.{Main}

opens_so : (p : ClauseProblem) (size : ℕ) (words : List ℕ) → size ≤ 4096 → length words ≡ 2 + size * (1 + key_width p) → ((i : ℕ) → get_or words i 0 ≡ 0)
    → Fits p size (opening {S = Unit {0}} words [] (Main (opened p size)))
opens_so p size words small long zeros = record {
  main = opened p size;
  cursor = 0;
  cells = λ _. Empty;
  owner = λ _. 0;
  holder = λ _. 0;
  main_at = refl;
  words = record { sized = long; cursor_at = zeros 0; stop_at = zeros 1; states = λ t _. zeros (slot (key_width p) t 0); keys = λ t j e at less. absurd (some-ne-none e (sym at)); next = λ j less few. absurd (omega arith) };
  board = record { problem = refl; sized = refl; few = omega arith; row = omega arith; empty = λ t past. refl; entry = λ t e at. absurd (some-ne-none e (sym at)) };
  fits = fits;
  counts = record { reached = omega arith; live = refl; left = omega arith; made = omega arith; small = small };
  begun = λ t b. absurd b;
  runner = λ t n e bare. let z : Empty ≡ Running n = e in absurd (cc);
}
  where
    fits : (id : ℕ) (v : View) → get_elem? (Main (opened p size) ∷ []) id ≡ some v → ViewFits p size (opened p size) 0 (λ _. Empty) (λ _. 0) (λ _. 0) id v
    fits zero v e = subst (λ (u : View). ViewFits p size (opened p size) 0 (λ _. Empty) (λ _. 0) (λ _. 0) 0 u) (some-injective (Main (opened p size)) v e) (refl, refl)
    fits (suc id) v e = absurd (some-ne-none v (sym e))

pub opens : (p : ClauseProblem) (size : ℕ) (words : List ℕ) → size ≤ 4096 → length words ≡ 2 + size * (1 + key_width p) → ((i : ℕ) → get_or words i 0 ≡ 0)
    → Rule p size (opening {S = Unit {0}} words [] (Main (opened p size)))
opens p size words small long zeros = rule_of p size _ (opens_so p size words small long zeros)
