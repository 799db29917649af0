-- Clauses in one row.
use Rattle.std.proofs.Common.{◌≡◌, ◌∙◌, refl, sym, ap, subst, ℕ, zero, suc, ◌+◌, ◌-◌, ◌<◌, ◌≤◌, List, [], ◌∷◌, ◌++◌, length, get_or, take, drop, arith}
use Rattle.std.proofs.lemmas.List.{drop-append-le, drop_at, get_or_default, length-drop, take-append-le, take_more}
use Rattle.std.proofs.Math.Seq.{take-length}
use Rattle.clauses.specs.declared.literal.Lit.{Lit}
use Rattle.clauses.specs.Clause.{negative_of}
use Rattle.propagation.specs.inside.Cutting.{AreEnds, cut_at}

pub size : (start : ℕ) (ends : List ℕ) (row : List Lit) → length (cut_at start ends row) ≡ length ends
size start [] row = refl
size start (end ∷ ends) row = ap suc (size end ends row)

-- where a clause begins
abbrev pub begin_of : ℕ → List ℕ → ℕ → ℕ
begin_of start ends zero = start
begin_of start ends (suc number) = get_or ends number 0

begin-next : (start end : ℕ) (ends : List ℕ) (number : ℕ) → begin_of end ends number ≡ begin_of start (end ∷ ends) (suc number)
begin-next start end ends zero = refl
begin-next start end ends (suc number) = refl

pub clause-at : (start : ℕ) (ends : List ℕ) (row : List Lit) (number : ℕ) → number < length ends →
    take (get_or ends number 0 - begin_of start ends number) (drop (begin_of start ends number) row) ≡ get_or (cut_at start ends row) number []
clause-at start [] row number within = absurd (omega arith)
clause-at start (end ∷ ends) row zero within = refl
clause-at start (end ∷ ends) row (suc number) within =
    subst (λ b. take (get_or ends number 0 - b) (drop b row) ≡ get_or (cut_at end ends row) number []) (begin-next start end ends number)
    (clause-at end ends row number (omega arith))

start-within : (start : ℕ) (ends : List ℕ) (count : ℕ) → AreEnds start ends count → start ≤ count
start-within start [] count is = (let e : start ≡ count = is in omega arith)
start-within start (end ∷ ends) count is = let more = start-within end ends count is.1 in let here = is.0 in omega arith

pub begin-before : (start : ℕ) (ends : List ℕ) (count : ℕ) → AreEnds start ends count → (number : ℕ) → number < length ends → begin_of start ends number ≤ get_or ends number 0
begin-before start [] count is number within = absurd (omega arith)
begin-before start (end ∷ ends) count is zero within = is.0
begin-before start (end ∷ ends) count is (suc number) within =
    subst (λ b. b ≤ get_or ends number 0) (begin-next start end ends number) (begin-before end ends count is.1 number (omega arith))

pub end-within : (start : ℕ) (ends : List ℕ) (count : ℕ) → AreEnds start ends count → (number : ℕ) → number < length ends → get_or ends number 0 ≤ count
end-within start [] count is number within = absurd (omega arith)
end-within start (end ∷ ends) count is zero within = start-within end ends count is.1
end-within start (end ∷ ends) count is (suc number) within = end-within end ends count is.1 number (omega arith)

pub ends-push : (start : ℕ) (ends : List ℕ) (count more : ℕ) → AreEnds start ends count → AreEnds start (ends ++ (count + more) ∷ []) (count + more)
ends-push start [] count more is = ((let e : start ≡ count = is in omega arith), refl)
ends-push start (end ∷ ends) count more is = (is.0, ends-push end ends count more is.1)

-- a clause that lies before what is appended
same_part : (start end : ℕ) (row clause : List Lit) → start ≤ end → end ≤ length row → take (end - start) (drop start (row ++ clause)) ≡ take (end - start) (drop start row)
same_part start end row clause le within =
    ap (take (end - start)) (drop-append-le start row clause (omega arith))
    ∙ take-append-le (end - start) (drop start row) clause (let size = length-drop start row in omega arith)

pub cut-push : (start : ℕ) (ends : List ℕ) (row clause : List Lit) → AreEnds start ends (length row) →
    cut_at start (ends ++ (length row + length clause) ∷ []) (row ++ clause) ≡ cut_at start ends row ++ clause ∷ []
cut-push start [] row clause is =
    let e : start ≡ length row = is in
    ap (λ c. c ∷ [])
    (ap (take (length row + length clause - start)) (drop_at row clause start (sym e))
    ∙ ap (λ n. take n clause) (let n : length row + length clause - start ≡ length clause = (omega arith) in n)
    ∙ take-length clause)
cut-push start (end ∷ ends) row clause is =
    ap (λ c. c ∷ cut_at end (ends ++ (length row + length clause) ∷ []) (row ++ clause)) (same_part start end row clause is.0 (start-within end ends (length row) is.1))
    ∙ ap (λ cs. take (end - start) (drop start row) ∷ cs) (cut-push end ends row clause is.1)

-- ---- clauses and what a contract sees of them

module _ (ends : List ℕ) (row : List Lit) (clauses : List (List Lit)) (view : cut_at 0 ends row ≡ clauses) (number : ℕ) (low : number < length clauses) where
  pub inside : number < length ends
  inside = let s = size 0 ends row in let l = ap length view in omega arith

  module _ (is : AreEnds 0 ends (length row)) (end : ℕ) (end_is : end ≡ get_or ends number end) where
    end_there : end ≡ get_or ends number 0
    end_there = end_is ∙ get_or_default ends number end 0 inside

    pub end-inside : end ≤ length row
    end-inside = let e = end-within 0 ends (length row) is number inside in let t = end_there in omega arith

    pub first-clause : number ≡ 0 → take (end - 0) (drop 0 row) ≡ get_or clauses number []
    first-clause zeroth =
        ap (λ e. take (e - 0) (drop 0 row)) end_there
        ∙ ap (λ b. take (get_or ends number 0 - b) (drop b row)) (ap (begin_of 0 ends) (sym zeroth))
        ∙ clause-at 0 ends row number inside
        ∙ ap (λ (cs : List (List Lit)). get_or cs number []) view

    module _ (begin : ℕ) (later : ¬ number ≡ 0) (begin_is : begin ≡ get_or ends (number - 1) begin) where
      begin_there : begin ≡ begin_of 0 ends number
      begin_there =
          begin_is
          ∙ get_or_default ends (number - 1) begin 0 (let i = inside in omega arith)
          ∙ by number later
        where
          by : (number : ℕ) → ¬ number ≡ 0 → get_or ends (number - 1) 0 ≡ begin_of 0 ends number
          by zero ne = absurd (ne refl)
          by (suc number) ne = ap (λ n. get_or ends n 0) (let e : suc number - 1 ≡ number = (omega arith) in e)

      pub begin-inside : begin ≤ end
      begin-inside = let b = begin-before 0 ends (length row) is number inside in let t = end_there in let u = begin_there in omega arith

      pub later-clause : take (end - begin) (drop begin row) ≡ get_or clauses number []
      later-clause =
          ap (λ e. take (e - begin) (drop begin row)) end_there
          ∙ ap (λ b. take (get_or ends number 0 - b) (drop b row)) begin_there
          ∙ clause-at 0 ends row number inside
          ∙ ap (λ (cs : List (List Lit)). get_or cs number []) view

-- ---- a clause that is appended literal by literal

pub take-one : (clause : List Lit) (i : ℕ) (item : Lit) → item ≡ get_or clause i (negative_of 0) → i < length clause → take i clause ++ item ∷ [] ≡ take (i + 1) clause
take-one clause i item is within = ap (λ l. take i clause ++ l ∷ []) is ∙ sym (take_more clause i (negative_of 0) within)

pub take-next : (clauses : List (List Lit)) (i : ℕ) (item : List Lit) → item ≡ get_or clauses i item → i < length clauses → take i clauses ++ item ∷ [] ≡ take (i + 1) clauses
take-next clauses i item is within = ap (λ c. take i clauses ++ c ∷ []) is ∙ sym (take_more clauses i item within)
