-- What a take leaves, by the word that it met.
use Rattle.std.proofs.Common.{◌≡◌, ◌≢◌, ◌∙◌, refl, sym, ap, subst, ℕ, ◌+◌, ◌⊎◌, inl, inr, ⊎_elim, false, ◌||◌, eqb, arith}
use Rattle.std.proofs.lemmas.Bool.{eq-eqb, ne_eqb}
use mathlib.Core.Option.{some}
use lib.ListN.{get_elem?}
use Rattle.req_keys.specs.Key.{PositionSet}
use Rattle.req_keys.specs.declared.verdict.Verdict.{Verdict}
use Rattle.req_keys.specs.declared.verdict.Cell.{Cell}
use Rattle.req_keys.specs.declared.verdict.Cell.TheVariants as cell
use Rattle.clauses.specs.Problem.{ClauseProblem}
use Rattle.script.specs.Sequential.{known_verdict, verdicts_of}
use Rattle.check_table.specs.Found.{TookIs}
use Rattle.check_table.specs.Places.{code, key_width, slot, IsVerdictOf}
use Rattle.check_table.specs.Views.{after_take, answer_met}
use Rattle.check_table.specs.declared.found.Took.{Took}
use Rattle.check_table.specs.declared.found.Took.TheVariants as took
use Rattle.check_table.specs.declared.view.KnownEntry.{KnownEntry}
use Rattle.check_table.specs.declared.view.MainView.{MainView}
use Rattle.check_table.proofs.Entries.{change_here}
use Rattle.serving.specs.Entries.{IsTaken, StandsUnder}
use Rattle.serving.specs.Met.{IsMet, IsOver}
use Rattle.serving.specs.inside.Staying.{Keeps, LeavesOthers}
use Rattle.serving.proofs.StandingEntries.{leaves-change}

pub verdict-is : (problem : ClauseProblem) (key : PositionSet) (v : Verdict) → IsVerdictOf problem key v → v ≡ verdicts_of problem key
unfolding IsVerdictOf
verdict-is problem key v is = sym (ap known_verdict is)

-- a take that says Running met no posted entry
pub running-word : (word : ℕ) (c : Cell) → word ≡ code c false → TookIs c took.Running → word ≢ 1
running-word word cell.Posted is how one = (cc)
running-word word (cell.Running worker) is how one = omega arith
running-word word cell.GivenUp is how one = (cc)
running-word word (cell.Answered v) is how one = (cc)
running-word word cell.Empty is how one = absurd how
running-word word cell.Mine is how one = absurd how

pub not-running : (answer : Took) → (answer ≡ took.Mine) ⊎ (answer ≡ took.GivenUp) → answer ≢ took.Running
not-running answer how is = ⊎_elim (λ (e : answer ≡ took.Mine). (cc)) (λ (e : answer ≡ took.GivenUp). (cc)) how

module _ (old new : MainView) (t place : ℕ) (key : PositionSet) (stands : StandsUnder old.entries t key) (view : new ≡ after_take t place new.trace.word old) where
  abbrev word : ℕ
  word = new.trace.word

  abbrev changed : KnownEntry → KnownEntry
  changed e = record e { seen = answer_met word e.seen; mine = eqb word 1 || e.mine }

  pub take-keeps : Keeps old new
  take-keeps =
      let counted : new.trace.count ≡ old.trace.count + 1 = ap (λ (m : MainView). m.trace.count) view in
      record {
        problem = ap (λ (m : MainView). m.problem) view;
        size = ap (λ (m : MainView). m.size) view;
        stopped = ap (λ (m : MainView). m.stopped) view;
        made = ap (λ (m : MainView). m.made) view;
        left = ap (λ (m : MainView). m.left) view;
        count = omega arith;
      }

  pub take-leaves : LeavesOthers t old.entries new.entries
  take-leaves = subst (LeavesOthers t old.entries) (sym (ap (λ (m : MainView). m.entries) view)) (leaves-change changed (λ e. refl) old.entries t)

  here : get_elem? new.entries t ≡ some (changed stands.entry)
  here = ap (λ (m : MainView). get_elem? m.entries t) view ∙ change_here changed old.entries t stands.entry stands.at

  pub take-stands : word ≢ 1 → StandsUnder new.entries t key
  take-stands other = record { entry = changed stands.entry; at = here; same = stands.same; kept = stands.kept; free = ap (λ b. b || stands.entry.mine) (ne_eqb word 1 other) ∙ stands.free }

  taken : word ≡ 1 → IsTaken new.entries t
  taken one = record { entry = changed stands.entry; at = here; taken = ap (λ b. b || stands.entry.mine) (eq-eqb word 1 one) }

  met-word : (c : Cell) (answer : Took) → word ≡ code c false → TookIs c answer → answer ≢ took.Running → ((word ≡ code cell.Posted false) × IsTaken new.entries t) ⊎ IsOver word
  met-word cell.Posted answer is how other = inl (is, taken is)
  met-word (cell.Running worker) answer is how other = absurd (other how)
  met-word cell.GivenUp answer is how other = inr (inl is)
  met-word (cell.Answered v) answer is how other = inr (inr (v, is))
  met-word cell.Empty answer is how other = absurd how
  met-word cell.Mine answer is how other = absurd how

  pub take-met : (problem : ClauseProblem) (before : MainView) → Keeps before old → place ≡ slot (key_width problem) t 0 → (answer : Took) → (c : Cell) × (word ≡ code c false) × TookIs c answer → answer ≢ took.Running → IsMet problem before new t
  take-met problem before keeps at answer how other =
      let counted : new.trace.count ≡ old.trace.count + 1 = ap (λ (m : MainView). m.trace.count) view in
      let far = keeps.count in
      record {
        rose = omega arith;
        place = ap (λ (m : MainView). m.trace.place) view ∙ at;
        word = met-word how.0 answer how.1 how.2 other;
      }
