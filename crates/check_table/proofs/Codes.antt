-- A state word tells its cell.
use Rattle.std.proofs.Common.{◌≡◌, ◌≢◌, ℕ, ◌+◌, ◌*◌, ◌/◌, ◌%◌, ◌^◌, Bool, cond, bit_or, true, false, refl, sym, ap, ◌∙◌, arith, eq-eqb, ne_eqb, eqb}
use Rattle.std.proofs.lemmas.Nat.{or_block}
use Rattle.std.specs.Int.Bits.{or_zero_r}
use Rattle.check_table.specs.Places.{code, answer_code, cell_of, has_mark}
use Rattle.req_keys.specs.declared.verdict.Cell.{Cell}
use Rattle.req_keys.specs.declared.verdict.Cell.TheVariants.{Empty, Posted, Running, Mine, GivenUp, Answered}
use Rattle.req_keys.specs.declared.verdict.Verdict.{Verdict}
use Rattle.req_keys.specs.declared.verdict.Verdict.TheVariants.{Sat, Unsat, Limit}

module _ {A : Type 0} where
  -- a function changed at one place
  abbrev pub upd : (ℕ → A) → ℕ → A → ℕ → A
  upd f t x k = cond (eqb k t) x (f k)

  pub upd_same : (f : ℕ → A) (t : ℕ) (x : A) → upd f t x t ≡ x
  upd_same f t x = ap (λ b. cond b x (f t)) (eq-eqb t t refl)

  pub upd_else : (f : ℕ → A) (t u : ℕ) (x : A) → u ≢ t → upd f t x u ≡ f u
  upd_else f t u x ne = ap (λ b. cond b x (f u)) (ne_eqb u t ne)

-- 8 is the mark's bit
pub marks_code : (c : Cell) (m : Bool) → bit_or (code c m) 8 ≡ code c true
marks_code Empty true = refl
marks_code Empty false = refl
marks_code Posted true = refl
marks_code Posted false = refl
marks_code (Running w) true = ap (λ (n : ℕ). bit_or n 8) (let e : 2 + 256 * w + 8 ≡ w * 2 ^ 8 + 10 = omega arith in e) ∙ or_block 8 w 0 10 8 (omega arith) (omega arith) ∙ ap (λ (n : ℕ). n * 2 ^ 8 + 10) (or_zero_r w) ∙ (let e : w * 2 ^ 8 + 10 ≡ 2 + 256 * w + 8 = omega arith in e)
marks_code (Running w) false = ap (λ (n : ℕ). bit_or n 8) (let e : 2 + 256 * w ≡ w * 2 ^ 8 + 2 = omega arith in e) ∙ or_block 8 w 0 2 8 (omega arith) (omega arith) ∙ ap (λ (n : ℕ). n * 2 ^ 8 + 10) (or_zero_r w) ∙ (let e : w * 2 ^ 8 + 10 ≡ 2 + 256 * w + 8 = omega arith in e)
marks_code Mine true = refl
marks_code Mine false = refl
marks_code GivenUp true = refl
marks_code GivenUp false = refl
marks_code (Answered Sat) true = refl
marks_code (Answered Sat) false = refl
marks_code (Answered Unsat) true = refl
marks_code (Answered Unsat) false = refl
marks_code (Answered Limit) true = refl
marks_code (Answered Limit) false = refl

-- 1 is Posted without a mark, 0 Empty
pub is_posted : (c : Cell) (m : Bool) → code c m ≡ 1 → (c ≡ Posted) × (m ≡ false)
is_posted Empty true e = absurd (omega arith)
is_posted Empty false e = absurd (omega arith)
is_posted Posted true e = absurd (omega arith)
is_posted Posted false e = (refl, refl)
is_posted (Running w) true e = absurd (omega arith)
is_posted (Running w) false e = absurd (omega arith)
is_posted Mine true e = absurd (omega arith)
is_posted Mine false e = absurd (omega arith)
is_posted GivenUp true e = absurd (omega arith)
is_posted GivenUp false e = absurd (omega arith)
is_posted (Answered Sat) true e = absurd (omega arith)
is_posted (Answered Sat) false e = absurd (omega arith)
is_posted (Answered Unsat) true e = absurd (omega arith)
is_posted (Answered Unsat) false e = absurd (omega arith)
is_posted (Answered Limit) true e = absurd (omega arith)
is_posted (Answered Limit) false e = absurd (omega arith)

-- 5, 6 and 7 are answers without a mark
pub is_answered : (c : Cell) (m : Bool) (v : Verdict) → code c m ≡ answer_code v → (c ≡ Answered v) × (m ≡ false)
is_answered Empty true Sat e = absurd (omega arith)
is_answered Empty false Sat e = absurd (omega arith)
is_answered Posted true Sat e = absurd (omega arith)
is_answered Posted false Sat e = absurd (omega arith)
is_answered (Running w) true Sat e = absurd (omega arith)
is_answered (Running w) false Sat e = absurd (omega arith)
is_answered Mine true Sat e = absurd (omega arith)
is_answered Mine false Sat e = absurd (omega arith)
is_answered GivenUp true Sat e = absurd (omega arith)
is_answered GivenUp false Sat e = absurd (omega arith)
is_answered (Answered Sat) true Sat e = absurd (omega arith)
is_answered (Answered Sat) false Sat e = (refl, refl)
is_answered (Answered Unsat) true Sat e = absurd (omega arith)
is_answered (Answered Unsat) false Sat e = absurd (omega arith)
is_answered (Answered Limit) true Sat e = absurd (omega arith)
is_answered (Answered Limit) false Sat e = absurd (omega arith)
is_answered Empty true Unsat e = absurd (omega arith)
is_answered Empty false Unsat e = absurd (omega arith)
is_answered Posted true Unsat e = absurd (omega arith)
is_answered Posted false Unsat e = absurd (omega arith)
is_answered (Running w) true Unsat e = absurd (omega arith)
is_answered (Running w) false Unsat e = absurd (omega arith)
is_answered Mine true Unsat e = absurd (omega arith)
is_answered Mine false Unsat e = absurd (omega arith)
is_answered GivenUp true Unsat e = absurd (omega arith)
is_answered GivenUp false Unsat e = absurd (omega arith)
is_answered (Answered Sat) true Unsat e = absurd (omega arith)
is_answered (Answered Sat) false Unsat e = absurd (omega arith)
is_answered (Answered Unsat) true Unsat e = absurd (omega arith)
is_answered (Answered Unsat) false Unsat e = (refl, refl)
is_answered (Answered Limit) true Unsat e = absurd (omega arith)
is_answered (Answered Limit) false Unsat e = absurd (omega arith)
is_answered Empty true Limit e = absurd (omega arith)
is_answered Empty false Limit e = absurd (omega arith)
is_answered Posted true Limit e = absurd (omega arith)
is_answered Posted false Limit e = absurd (omega arith)
is_answered (Running w) true Limit e = absurd (omega arith)
is_answered (Running w) false Limit e = absurd (omega arith)
is_answered Mine true Limit e = absurd (omega arith)
is_answered Mine false Limit e = absurd (omega arith)
is_answered GivenUp true Limit e = absurd (omega arith)
is_answered GivenUp false Limit e = absurd (omega arith)
is_answered (Answered Sat) true Limit e = absurd (omega arith)
is_answered (Answered Sat) false Limit e = absurd (omega arith)
is_answered (Answered Unsat) true Limit e = absurd (omega arith)
is_answered (Answered Unsat) false Limit e = absurd (omega arith)
is_answered (Answered Limit) true Limit e = absurd (omega arith)
is_answered (Answered Limit) false Limit e = (refl, refl)

-- the mark is read off the word
pub mark_of_code : (c : Cell) (m : Bool) → has_mark (code c m) ≡ m
mark_of_code Empty true = refl
mark_of_code Empty false = refl
mark_of_code Posted true = refl
mark_of_code Posted false = refl
mark_of_code (Running w) true = eq-eqb ((2 + 256 * w + 8) / 8 % 2) 1 (omega arith)
mark_of_code (Running w) false = ne_eqb ((2 + 256 * w) / 8 % 2) 1 (λ e. omega arith)
mark_of_code Mine true = refl
mark_of_code Mine false = refl
mark_of_code GivenUp true = refl
mark_of_code GivenUp false = refl
mark_of_code (Answered Sat) true = refl
mark_of_code (Answered Sat) false = refl
mark_of_code (Answered Unsat) true = refl
mark_of_code (Answered Unsat) false = refl
mark_of_code (Answered Limit) true = refl
mark_of_code (Answered Limit) false = refl

pub sees_mark : (c : Cell) (m : Bool) (x : ℕ) → code c m ≡ x → has_mark x ≡ m
sees_mark c m x is = ap has_mark (sym is) ∙ mark_of_code c m

-- the cell by the two parts of the word
abbrev by_low : ℕ → ℕ → Cell
by_low k w = cond (eqb k 0) Empty (cond (eqb k 1) Posted (cond (eqb k 2) (Running w) (cond (eqb k 3) Mine (cond (eqb k 4) GivenUp (cond (eqb k 5) (Answered Sat) (cond (eqb k 6) (Answered Unsat) (Answered Limit)))))))

running : (n w : ℕ) → n % 8 ≡ 2 → n / 256 ≡ w → cell_of n ≡ Running w
running n w low high = ap (λ (k : ℕ). by_low k (n / 256)) low ∙ ap Running high

-- and so is the cell
pub cell_of_code : (c : Cell) (m : Bool) → cell_of (code c m) ≡ c
cell_of_code (Running w) true = running (2 + 256 * w + 8) w (omega arith) (omega arith)
cell_of_code (Running w) false = running (2 + 256 * w) w (omega arith) (omega arith)
cell_of_code Empty true = refl
cell_of_code Empty false = refl
cell_of_code Posted true = refl
cell_of_code Posted false = refl
cell_of_code Mine true = refl
cell_of_code Mine false = refl
cell_of_code GivenUp true = refl
cell_of_code GivenUp false = refl
cell_of_code (Answered Sat) true = refl
cell_of_code (Answered Sat) false = refl
cell_of_code (Answered Unsat) true = refl
cell_of_code (Answered Unsat) false = refl
cell_of_code (Answered Limit) true = refl
cell_of_code (Answered Limit) false = refl
