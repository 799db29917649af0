-- What a seat has read of the key of its entry.
use Rattle.std.proofs.Common.{◌≡◌, ℕ, ◌+◌, ◌<◌, ◌≤◌, List, [], ◌∷◌, ◌++◌, length, get_or, Some, refl, sym, ap, ◌∙◌, subst, arith}
use Rattle.std.specs.Prelude.{Contains, Result, Ok, Err, IfOk}
use Rattle.std.proofs.lemmas.List.Elements.{Contains-append_left, Contains-append_right}
use mathlib.Core.Logic.{dite}
use native.Mathlib.Decide.{ℕ_discrete}
use Rattle.req_keys.specs.Key.{PositionSet, IsKey}
use Rattle.req_keys.specs.Words.{IsRowOver, key_of_words, words_of}
use Rattle.req_keys.specs.declared.verdict.Verdict.{Verdict}
use Rattle.req_keys.proofs.KeyRowLaws.{shown-key}
use Rattle.clauses.specs.Problem.{ClauseProblem}
use Rattle.clauses.specs.Search.{verdict_on}
use Rattle.check_table.specs.Places.{key_width, IsKeyOf, IsVerdictOf}
use Rattle.check_table.specs.Found.{IsVerdict}
use Rattle.check_table.specs.declared.view.WorkerView.{WorkerView}
use Rattle.check_table.proofs.Entries.{before_end, end_is}
use Rattle.check_table.proofs.Keys.{word_at}
use Rattle.workers.specs.inside.Tickets.{HasWords, HasKey}

-- one word more of the row, of which each word has a property that tells its place
pub row_more : (P : ℕ → ℕ → Type 0) (j x : ℕ) (words : List ℕ) → length words ≡ j → ((i : ℕ) → i < j → P i (get_or words i 0)) → P j x
    → (i : ℕ) → i < j + 1 → P i (get_or (words ++ x ∷ []) i 0)
row_more P j x words long all last i less = dite (ℕ_discrete i j)
    (λ here. subst (λ (k : ℕ). P k (get_or (words ++ x ∷ []) k 0)) (sym here) (subst (P j) (sym (ap (λ (k : ℕ). get_or (words ++ x ∷ []) k 0) (sym long) ∙ end_is words x 0)) last))
    (λ other. let low : i < j = omega arith in subst (P i) (sym (before_end words x 0 i (omega arith))) (all i low))

-- one word more was read
pub read_more : (j x : ℕ) (words : List ℕ) (read : List (ℕ × ℕ)) → length words ≡ j → ((i : ℕ) → i < j → Contains read (i, get_or words i 0))
    → (i : ℕ) → i < j + 1 → Contains (read ++ (j, x) ∷ []) (i, get_or (words ++ x ∷ []) i 0)
read_more j x words read long all =
    row_more (λ (i n : ℕ). Contains (read ++ (j, x) ∷ []) (i, n)) j x words long (λ i less. Contains-append_left read ((j, x) ∷ []) (i, get_or words i 0) (all i less))
    (Contains-append_right read ((j, x) ∷ []) (j, x) (0, omega arith, refl))

-- the words that were read are those of the key that they show
pub key_read : (w : WorkerView) (n : ℕ) (words : List ℕ) (key : PositionSet) → n ≡ length w.problem.roots → n ≤ 4096 → IsRowOver n words → key ≡ key_of_words n words → words_of key ≡ words
    → HasWords w words → HasKey w key
key_read w n words key about few row is shown has =
    let over : IsKeyOf w.problem key = (subst IsKey (sym is) (shown-key n words (record { most = few; over = row })), ap (λ (k : PositionSet). k.n) is ∙ about) in (
      has.0,
      has.1,
      record {
        runs = has.2;
        over = over;
        whole = λ j less. subst (λ (x : ℕ). Contains has.1 (j, x)) (ap (λ (l : List ℕ). get_or l j 0) (sym shown) ∙ word_at w.problem key j over less) (has.3 j less);
      },
    )

-- the verdict that a search found is one that the seat may answer
pub found_right : (w after : WorkerView) (problem : ClauseProblem) (key : PositionSet) (v : Verdict) → HasKey w key → after.stage ≡ w.stage → after.problem ≡ w.problem → problem ≡ w.problem
    → verdict_on problem key ≡ Some v → IsVerdict after v
unfolding IsVerdictOf
found_right w after problem key v has stage same about found = (
  has.0,
  has.1,
  key,
  record {
    runs = stage ∙ has.2.runs;
    over = subst (λ (p : ClauseProblem). IsKeyOf p key) (sym same) has.2.over;
    whole = λ j less. has.2.whole j (subst (λ (p : ClauseProblem). j < key_width p) same less);
  },
  subst (λ (p : ClauseProblem). verdict_on p key ≡ Some v) (about ∙ sym same) found,
)

-- two facts of the value in an Ok make a third
pub both_ok : {X E : Type 0} (r : Result X E) (P Q R : X → Type 0) → ((x : X) → P x → Q x → R x) → IfOk r P → IfOk r Q → IfOk r R
both_ok (Ok x) P Q R make p q = make x p q
both_ok (Err e) P Q R make p q = tt
