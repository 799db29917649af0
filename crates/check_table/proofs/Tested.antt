-- What the tests owe.
use Rattle.std.proofs.Common.{◌≡◌, ℕ, zero, suc, ◌<◌, List, [], ◌∷◌, ◌++◌, length, Contains, sym, refl, ap, ◌∙◌, subst, arith}
use lib.ListN.{get_elem?}
use Rattle.req_keys.specs.Key.{PositionSet, empty_key}
use Rattle.req_keys.specs.Words.{word_of}
use Rattle.req_keys.specs.declared.verdict.Verdict.TheVariants.{Sat}
use Rattle.clauses.specs.Problem.{ClauseProblem}
use Rattle.check_table.specs.Places.{key_width, IsKeyOf, IsVerdictOf}
use Rattle.check_table.specs.Views.{after_read, posted_key, fresh_entry, stage_read}
use Rattle.check_table.specs.Found.{IsWanted, IsVerdict}
use Rattle.check_table.specs.inside.Tested.{free_problem}
use Rattle.check_table.specs.declared.found.Posted.{Posted}
use Rattle.check_table.specs.declared.found.Posted.TheVariants as posted
use Rattle.check_table.specs.declared.view.KnownEntry.{KnownEntry}
use Rattle.check_table.specs.declared.view.MainView.{MainView}
use Rattle.check_table.specs.declared.view.WorkerView.{WorkerView}
use Rattle.check_table.specs.declared.view.Stage.{Stage}
use Rattle.check_table.specs.declared.view.Stage.TheVariants.{Runs}

pub one_word : key_width free_problem ≡ 1
unfolding key_width
one_word = refl

free_verdict : IsVerdictOf free_problem (empty_key 3) Sat
unfolding IsVerdictOf
free_verdict = refl

no_bit : word_of (empty_key 3) 0 ≡ 0
unfolding Rattle.req_keys.specs.Words.bits_where
no_bit = refl

pub wanted_first : (m before : MainView) (key : PositionSet) → before.entries ≡ [] → m ≡ posted_key key before → IsWanted m 0
wanted_first m before key none is = record {
  entry = fresh_entry key;
  at = ap (λ (k : MainView). get_elem? k.entries 0) is ∙ ap (λ (l : List KnownEntry). get_elem? (l ++ fresh_entry key ∷ []) 0) none;
  kept = refl;
  free = refl;
}

pub read_free : (w w' : WorkerView) (place n : ℕ) → w.problem ≡ free_problem → w.stage ≡ Runs 0 [] → w' ≡ after_read 0 place n w → n ≡ 0 → IsVerdict w' Sat
read_free w w' place n problem runs is zero_word =
    let stage : w'.stage ≡ Runs 0 ((0, 0) ∷ []) = ap (λ (k : WorkerView). k.stage) is ∙ ap (λ (g : Stage). stage_read 0 n g) runs ∙ ap (λ (k : ℕ). Runs 0 ((0, k) ∷ [])) zero_word in
    let about : w'.problem ≡ free_problem = ap (λ (k : WorkerView). k.problem) is ∙ problem in
    ready stage about
  where
    at : (j : ℕ) → j < 1 → Contains {X = ℕ × ℕ} ((0, 0) ∷ []) (j, word_of (empty_key 3) j)
    at zero less = subst (λ (k : ℕ). Contains {X = ℕ × ℕ} ((0, 0) ∷ []) (0, k)) (sym no_bit) (0, omega arith, refl)
    at (suc j) less = absurd (omega arith)

    ready : w'.stage ≡ Runs 0 ((0, 0) ∷ []) → w'.problem ≡ free_problem → IsVerdict w' Sat
    ready stage about = (
      0,
      (0, 0) ∷ [],
      empty_key 3,
      record {
        runs = stage;
        over = subst (λ (q : ClauseProblem). IsKeyOf q (empty_key 3)) (sym about) ((omega arith, tt), refl);
        whole = λ j less. at j (subst (λ (k : ℕ). j < k) (ap key_width about ∙ one_word) less);
      },
      subst (λ (q : ClauseProblem). IsVerdictOf q (empty_key 3) Sat) (sym about) free_verdict,
    )

-- what a post at the first entry of a table with room comes to
pub first_post : (before after : MainView) (size : ℕ) (key : PositionSet) (same : Type 0) (answer : Posted) → (answer ≡ posted.Full → (length before.entries ≡ size) × same)
    → ((t : ℕ) → answer ≡ posted.At t → (t ≡ length before.entries) × (t < size) × (after ≡ posted_key key before)) → before.entries ≡ [] → 0 < size → after ≡ posted_key key before
first_post before after size key same (posted.At t) full at none room = (at t refl).2
first_post before after size key same posted.Full full at none room = let long = (full refl).0 in let no_entry : length before.entries ≡ 0 = ap (λ (l : List KnownEntry). length l) none in absurd (omega arith)
