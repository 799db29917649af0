-- What becomes of a clause that is looked at.
use Rattle.std.proofs.Common.{◌≡◌, ◌∙◌, ◌⊎◌, refl, sym, subst, inl, inr, ⊎_elim, ℕ, ◌+◌, ◌<◌, ◌≤◌, List, [], ◌∷◌, ◌++◌, length, get_or, set, take, arith}
use Rattle.std.specs.Prelude.{◌≢◌, Contains}
use Rattle.std.proofs.lemmas.List.{take_more, take_all}
use Rattle.std.proofs.lemmas.List.Elements.{Contains-append_right, Contains-push_cases}
use Rattle.lists.proofs.Members.{first, first_or_later, none}
use Rattle.clauses.specs.declared.literal.Lit.{Lit}
use Rattle.clauses.specs.Clause.{negation, negative_of}
use Rattle.propagation.specs.declared.visits.Visit.{Visit}
use Rattle.propagation.specs.declared.visits.Visit.TheVariants as visit
use Rattle.propagation.specs.inside.Trails.{Trailing}
use Rattle.propagation.specs.inside.Visits.{IsStep, IsVisit}
use Rattle.propagation.specs.inside.Watching.{IsRefuted}
use Rattle.propagation.proofs.ValueLaws.{All-members}

module _ (set clause : List Lit) (other : Lit) where
  abbrev pub NoneSo : List Lit → Type 0
  NoneSo front = (literal : Lit) → Contains front literal → (literal ≡ other) ⊎ Contains set (negation literal)

  pub none-next : (i : ℕ) → i < length clause → NoneSo (take i clause) → (get_or clause i (negative_of 0) ≡ other) ⊎ Contains set (negation (get_or clause i (negative_of 0))) → NoneSo (take (i + 1) clause)
  none-next i inside before here = λ l m.
      ⊎_elim
      (λ (old : Contains (take i clause) l). before l old)
      (λ (new : get_or clause i (negative_of 0) ≡ l). subst (λ (x : Lit). (x ≡ other) ⊎ Contains set (negation x)) new here)
      (Contains-push_cases (take i clause) (get_or clause i (negative_of 0)) l (subst (λ c. Contains c l) (take_more clause i (negative_of 0) inside) m))

  pub none-all : (i : ℕ) → i ≡ length clause → NoneSo (take i clause) → NoneSo clause
  none-all i e before = subst NoneSo (take_all i clause (let end = e in omega arith)) before

-- a clause all of whose literals are false
pub all-refuted : (set clause : List Lit) (other : Lit) → NoneSo set clause other clause → Contains set (negation other) → IsRefuted set clause
all-refuted set clause other none_so refuted =
    All-members (λ l. Contains set (negation l)) clause (λ l m.
    ⊎_elim (λ (e : l ≡ other). subst (λ (x : Lit). Contains set (negation x)) (sym e) refuted) (λ (f : Contains set (negation l)). f) (none_so l m))

-- ---- a clause of two literals

two : (p q x : Lit) → Contains (p ∷ q ∷ []) x → (p ≡ x) ⊎ (q ≡ x)
two p q x m =
    ⊎_elim
    (λ (e : p ≡ x). inl e)
    (λ (later : Contains (q ∷ []) x). ⊎_elim (λ (e : q ≡ x). inr e) (λ (no : Contains [] x). absurd (none x no)) (first_or_later q [] x later))
    (first_or_later p (q ∷ []) x m)

pub of-two : (clause : List Lit) → length clause ≡ 2 → (a b : Lit) → Contains clause a → Contains clause b → ¬ a ≡ b → (x : Lit) → Contains clause x → ¬ x ≡ b → x ≡ a
of-two [] size a b a_in b_in apart x m ne = absurd (none a a_in)
of-two (p ∷ []) size a b a_in b_in apart x m ne = absurd (omega arith)
of-two (p ∷ q ∷ r ∷ rest) size a b a_in b_in apart x m ne = absurd (omega arith)
of-two (p ∷ q ∷ []) size a b a_in b_in apart x m ne =
    ⊎_elim
    (λ (x_first : p ≡ x).
    ⊎_elim
    (λ (a_first : p ≡ a). sym x_first ∙ a_first)
    (λ (a_second : q ≡ a).
    ⊎_elim (λ (b_first : p ≡ b). absurd (ne (sym x_first ∙ b_first))) (λ (b_second : q ≡ b). absurd (apart (sym a_second ∙ b_second))) (two p q b b_in))
    (two p q a a_in))
    (λ (x_second : q ≡ x).
    ⊎_elim
    (λ (a_first : p ≡ a).
    ⊎_elim (λ (b_first : p ≡ b). absurd (apart (sym a_first ∙ b_first))) (λ (b_second : q ≡ b). absurd (ne (sym x_second ∙ b_second))) (two p q b b_in))
    (λ (a_second : q ≡ a). sym x_second ∙ a_second)
    (two p q a a_in))
    (two p q x m)

pub stays-there : (clause : List Lit) (other : Lit) (old new : Trailing) → IsVisit old new clause other visit.Stays → Contains new.literals other
stays-there clause other old new is =
    ⊎_elim
    (λ (there : (new ≡ old) × Contains old.literals other). subst (λ (n : Trailing). Contains n.literals other) (sym there.0) there.1)
    (λ (forced : (new ≡ record old { literals = old.literals ++ other ∷ [] }) × ((l : Lit) → Contains clause l → l ≢ other → Contains old.literals (negation l))).
    subst (λ (n : Trailing). Contains n.literals other) (sym forced.0) (Contains-append_right old.literals (other ∷ []) other (first other [])))
    is

pub stays-grown : (clause : List Lit) (other : Lit) (old new : Trailing) → IsVisit old new clause other visit.Stays
    → (new ≡ old) ⊎ ((new ≡ record old { literals = old.literals ++ other ∷ [] }) × ((l : Lit) → Contains clause l → l ≢ other → Contains old.literals (negation l)))
stays-grown clause other old new is = ⊎_elim (λ (there : (new ≡ old) × Contains old.literals other). inl there.0) inr is

-- a clause that was looked at, and what is watched then
pub step-from : (entry : ℕ) (clause : List Lit) (other : Lit) (watched now : List Lit) (old new : Trailing) (v : Visit) → IsVisit old new clause other v → ((found : Lit) → v ≡ visit.Moves found → now ≡ set watched entry found)
    → (((found : Lit) → ¬ v ≡ visit.Moves found) → now ≡ watched) → IsStep entry clause other watched now old new v
step-from entry clause other watched now old new visit.Stays is a b = (b (λ found e. absurd (cc)), stays-there clause other old new is, stays-grown clause other old new is)
step-from entry clause other watched now old new (visit.Moves found) is a b = (a found refl, is.0, is.1, is.2)
step-from entry clause other watched now old new visit.Refuted is a b = (b (λ found e. absurd (cc)), is.0, all-refuted old.literals clause other is.1 is.2)

-- what holds of the literals of a clause so far
module _ (P : Lit → Type 0) (clause : List Lit) where
  pub each-next : (i : ℕ) → i < length clause → ((l : Lit) → Contains (take i clause) l → P l) → P (get_or clause i (negative_of 0)) → (l : Lit) → Contains (take (i + 1) clause) l → P l
  each-next i inside before here l m =
      ⊎_elim
      (λ (old : Contains (take i clause) l). before l old)
      (λ (new : get_or clause i (negative_of 0) ≡ l). subst P new here)
      (Contains-push_cases (take i clause) (get_or clause i (negative_of 0)) l (subst (λ c. Contains c l) (take_more clause i (negative_of 0) inside) m))

  pub each-all : (i : ℕ) → length clause ≤ i → ((l : Lit) → Contains (take i clause) l → P l) → (l : Lit) → Contains clause l → P l
  each-all i end before l m = before l (subst (λ c. Contains c l) (sym (take_all i clause end)) m)
