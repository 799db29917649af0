-- Values for some more variables, and how many lists of them satisfy clauses.
use Rattle.std.proofs.Common.{◌≡◌, ◌∙◌, refl, ap, sym, subst, ℕ, ◌+◌, ◌≤◌, Bool, true, List, [], ◌∷◌, ◌++◌, length, take, drop, arith}
use Rattle.std.proofs.lemmas.Bool.{and_parts, and_from}
use Rattle.std.proofs.lemmas.List.{append_assoc, append-nil, length-append, length-take-le, length-drop, take-append-drop, nil_from_length}
use Rattle.std.proofs.lemmas.List.Folds.{list_all-append}
use Rattle.clauses.specs.declared.literal.Lit.{Lit}
use Rattle.clauses.specs.Clause.{is_satisfied, are_satisfied}
use Rattle.clauses.proofs.AgreeLaws.{satisfied-same, agree-longer}
use Rattle.clause_form.proofs.Below.{AreBelow}

abbrev pub AreTrue : List Bool → List (List Lit) → Type 0
AreTrue values these = are_satisfied values these ≡ true

-- exactly one list of so many values behind those before makes the clauses true
pub record HasOne (before : List Bool) (size : ℕ) (these : List (List Lit)) : Type 0 where
  pub new : List Bool
  pub sized : length new ≡ size
  pub true_there : AreTrue (before ++ new) these
  pub only : (other : List Bool) → length other ≡ size → AreTrue (before ++ other) these → other ≡ new

pub true-both : (values : List Bool) (a b : List (List Lit)) → AreTrue values a → AreTrue values b → AreTrue values (a ++ b)
true-both values a b x y = list_all-append (is_satisfied values) a b ∙ and_from (are_satisfied values a) (are_satisfied values b) x y

pub true-parts : (values : List Bool) (a b : List (List Lit)) → AreTrue values (a ++ b) → AreTrue values a × AreTrue values b
true-parts values a b e = and_parts (are_satisfied values a) (are_satisfied values b) (sym (list_all-append (is_satisfied values) a b) ∙ e)

-- more values make no difference to clauses about those before
pub true-more : (values more : List Bool) (these : List (List Lit)) → AreBelow (length values) these → are_satisfied (values ++ more) these ≡ are_satisfied values these
true-more values more these below = sym (satisfied-same (length values) values (values ++ more) (agree-longer values more) these below)

pub one-none : (before : List Bool) → HasOne before 0 []
one-none before = record { new = []; sized = refl; true_there = refl; only = λ other sized e. nil_from_length other sized }

-- clauses without variables of their own
pub one-bare : (before : List Bool) (these : List (List Lit)) → AreTrue before these → HasOne before 0 these
one-bare before these e = record {
  new = [];
  sized = refl;
  true_there = ap (λ values. are_satisfied values these) (append-nil before) ∙ e;
  only = λ other sized x. nil_from_length other sized;
}

-- clauses that the one list makes true besides
pub one-also : (before : List Bool) (size : ℕ) (these more : List (List Lit)) (one : HasOne before size these) → AreTrue (before ++ one.new) more → HasOne before size (these ++ more)
one-also before size these more one e = record {
  new = one.new;
  sized = one.sized;
  true_there = true-both (before ++ one.new) these more one.true_there e;
  only = λ other sized x. one.only other sized (true-parts (before ++ other) these more x).0;
}

-- one list after the other
pub one-then :
    (before : List Bool) (a b : ℕ) (first second : List (List Lit)) → AreBelow (length before + a) first
    → (one : HasOne before a first) → HasOne (before ++ one.new) b second → HasOne before (a + b) (first ++ second)
one-then before a b first second below one two =
    let mine = one.new in
    let join : before ++ (one.new ++ two.new) ≡ (before ++ one.new) ++ two.new = sym (append_assoc before one.new two.new) in
    let mine_size : length one.new ≡ a = one.sized in
    let their_size : length two.new ≡ b = two.sized in
    let here_size = length-append before one.new in
    let here_below : AreBelow (length (before ++ one.new)) first = subst (λ k. AreBelow k first) (ap (λ k. length before + k) (sym one.sized) ∙ sym here_size) below in record {
      new = one.new ++ two.new;
      sized = let both = length-append one.new two.new in omega arith;
      true_there =
          ap (λ values. are_satisfied values (first ++ second)) join
          ∙ true-both ((before ++ one.new) ++ two.new) first second (true-more (before ++ one.new) two.new first here_below ∙ one.true_there) two.true_there;
      only = λ other sized x.
          let parts : take a other ++ drop a other ≡ other = take-append-drop a other in
          let enough : a ≤ length other = omega arith in
          let taken : length (take a other) ≡ a = length-take-le a other enough in
          let dropped = length-drop a other in
          let split : before ++ other ≡ (before ++ take a other) ++ drop a other = ap (λ rest. before ++ rest) (sym parts) ∙ sym (append_assoc before (take a other) (drop a other)) in
          let both = true-parts ((before ++ take a other) ++ drop a other) first second (ap (λ values. are_satisfied values (first ++ second)) (sym split) ∙ x) in
          let there_size = length-append before (take a other) in
          let there_below : AreBelow (length (before ++ take a other)) first = subst (λ k. AreBelow k first) (ap (λ k. length before + k) (sym taken) ∙ sym there_size) below in
          let same : take a other ≡ one.new = one.only (take a other) taken (sym (true-more (before ++ take a other) (drop a other) first there_below) ∙ both.0) in
          let rest : drop a other ≡ two.new = two.only (drop a other) (omega arith) (ap (λ front. are_satisfied ((before ++ front) ++ drop a other) second) (sym same) ∙ both.1) in
          sym parts ∙ ap (λ front. front ++ drop a other) same ∙ ap (λ back. one.new ++ back) rest;
    }

-- a variable of its own that has one value
pub one-gate : (before : List Bool) (these : List (List Lit)) (value : Bool) → AreTrue (before ++ value ∷ []) these → ((other : Bool) → AreTrue (before ++ other ∷ []) these → other ≡ value)
    → HasOne before 1 these
one-gate before these value e only = record { new = value ∷ []; sized = omega arith; true_there = e; only = λ other sized x. single other sized x } where
  single : (other : List Bool) → length other ≡ 1 → AreTrue (before ++ other) these → other ≡ value ∷ []
  single [] sized x = absurd (omega arith)
  single (v ∷ []) sized x = ap (λ u. u ∷ []) (only v x)
  single (v ∷ w ∷ vs) sized x = absurd (omega arith)

pub one-same : (before : List Bool) (size other : ℕ) (these those : List (List Lit)) → size ≡ other → these ≡ those → HasOne before size these → HasOne before other those
one-same before size other these those same is one = subst (HasOne before other) is (subst (λ k. HasOne before k these) same one)
