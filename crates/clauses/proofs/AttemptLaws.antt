-- The attempts of a search: its answer is that of the first that isn't Limit.
use Rattle.std.proofs.Common.{◌≡◌, ◌∙◌, refl, sym, ap, subst, ⊎_elim, ℕ, zero, suc, ◌+◌, ◌<◌, ◌≤◌, Bool, List, Option, Some, None, arith}
use Rattle.std.proofs.lemmas.Bool.{cases_eq}
use Rattle.req_keys.specs.Key.{PositionSet}
use Rattle.clauses.specs.declared.literal.Lit.{Lit}
use Rattle.clauses.specs.Problem.{ClauseProblem, clauses_with}
use Rattle.clauses.specs.Search.{SearchAnswer, Sat, Unsat, Limit, allowance_of, first_of, attempt_of, answer_from, search_of}
use Rattle.clauses.proofs.EnoughLaws.{answers-in_count}

module _ (problem : ClauseProblem) (key : PositionSet) where
  pub attempted : (number : ℕ) → (answer : SearchAnswer) × (attempt_of problem key number ≡ Some answer)
  attempted number = answers-in_count (first_of number) (clauses_with problem key) problem.variables (allowance_of problem number)

  -- what one attempt and those after it come to
  abbrev then : Option SearchAnswer → ℕ → ℕ → Option SearchAnswer
  then attempt more number = elim attempt [
    | None ↦ None
    | Some answer ↦ elim answer [
      | Sat values ↦ Some (Sat values)
      | Unsat derivation ↦ Some (Unsat derivation)
      | Limit ↦ answer_from more problem key (number + 1)
    ]
  ]

  unfolds : (more number : ℕ) (here : SearchAnswer) → attempt_of problem key number ≡ Some here → answer_from (suc more) problem key number ≡ then (Some here) more number
  unfolds more number here h = ap (λ (o : Option SearchAnswer). then o more number) h

  one : (a b : SearchAnswer) → Some a ≡ Some b → a ≡ b
  one a b e = cc

  -- ---- there is an answer

  some_by : (more number : ℕ) → ((answer : SearchAnswer) × (answer_from more problem key (number + 1) ≡ Some answer)) → (here : SearchAnswer) → attempt_of problem key number ≡ Some here
      → (answer : SearchAnswer) × (answer_from (suc more) problem key number ≡ Some answer)
  some_by more number later (Sat values) h = (Sat values, unfolds more number (Sat values) h)
  some_by more number later (Unsat lines) h = (Unsat lines, unfolds more number (Unsat lines) h)
  some_by more number later Limit h = (later.0, unfolds more number Limit h ∙ later.1)

  pub answer-some : (more number : ℕ) → (answer : SearchAnswer) × (answer_from more problem key number ≡ Some answer)
  answer-some zero number = attempted number
  answer-some (suc more) number = let here = attempted number in some_by more number (answer-some more (number + 1)) here.0 here.1

  -- ---- it is that of an attempt, and those before it are Limit

  pub record IsOf (number more : ℕ) (answer : SearchAnswer) : Type 0 where
    pub attempt : ℕ
    pub from : number ≤ attempt
    pub most : attempt ≤ number + more
    pub is : attempt_of problem key attempt ≡ Some answer
    pub before : (earlier : ℕ) → number ≤ earlier → earlier < attempt → attempt_of problem key earlier ≡ Some Limit

  here_of : (more number : ℕ) (answer here : SearchAnswer) → attempt_of problem key number ≡ Some here → here ≡ answer → IsOf number more answer
  here_of more number answer here h same = record { attempt = number; from = omega arith; most = omega arith; is = h ∙ ap Some same; before = λ earlier low high. absurd (omega arith) }

  later_of : (more number : ℕ) (answer : SearchAnswer) → attempt_of problem key number ≡ Some Limit → IsOf (number + 1) more answer → IsOf number (suc more) answer
  later_of more number answer h later = record {
    attempt = later.attempt;
    from = (let low = later.from in omega arith);
    most = (let high = later.most in omega arith);
    is = later.is;
    before = λ earlier low high. ⊎_elim
        (λ (e : earlier ≡ number). ap (attempt_of problem key) e ∙ h)
        (λ (n : earlier ≡ number → ⊥). later.before earlier (omega arith) high)
        (cases_eq earlier number);
  }

  of_by : (more number : ℕ) (answer : SearchAnswer) → (answer_from more problem key (number + 1) ≡ Some answer → IsOf (number + 1) more answer) → (here : SearchAnswer) → attempt_of problem key number ≡ Some here
      → answer_from (suc more) problem key number ≡ Some answer → IsOf number (suc more) answer
  of_by more number answer rest (Sat values) h e = here_of (suc more) number answer (Sat values) h (one (Sat values) answer (sym (unfolds more number (Sat values) h) ∙ e))
  of_by more number answer rest (Unsat lines) h e = here_of (suc more) number answer (Unsat lines) h (one (Unsat lines) answer (sym (unfolds more number (Unsat lines) h) ∙ e))
  of_by more number answer rest Limit h e = later_of more number answer h (rest (sym (unfolds more number Limit h) ∙ e))

  pub answer-of : (more number : ℕ) (answer : SearchAnswer) → answer_from more problem key number ≡ Some answer → IsOf number more answer
  answer-of zero number answer e = here_of zero number answer answer e refl
  answer-of (suc more) number answer e = let here = attempted number in of_by more number answer (answer-of more (number + 1) answer) here.0 here.1 e

  -- ---- Limit is that of all

  limit_by : (more number : ℕ) → (answer_from more problem key (number + 1) ≡ Some Limit → (attempt : ℕ) → number + 1 ≤ attempt → attempt ≤ (number + 1) + more → attempt_of problem key attempt ≡ Some Limit)
      → (here : SearchAnswer) → attempt_of problem key number ≡ Some here → answer_from (suc more) problem key number ≡ Some Limit
      → (attempt : ℕ) → number ≤ attempt → attempt ≤ number + suc more → attempt_of problem key attempt ≡ Some Limit
  limit_by more number rest (Sat values) h e attempt low high = let same : Sat values ≡ Limit = one (Sat values) Limit (sym (unfolds more number (Sat values) h) ∙ e) in absurd (cc)
  limit_by more number rest (Unsat lines) h e attempt low high = let same : Unsat lines ≡ Limit = one (Unsat lines) Limit (sym (unfolds more number (Unsat lines) h) ∙ e) in absurd (cc)
  limit_by more number rest Limit h e attempt low high =
      ⊎_elim
      (λ (s : attempt ≡ number). ap (attempt_of problem key) s ∙ h)
      (λ (n : attempt ≡ number → ⊥). rest (sym (unfolds more number Limit h) ∙ e) attempt (omega arith) (omega arith))
      (cases_eq attempt number)

  pub answer-limit : (more number : ℕ) → answer_from more problem key number ≡ Some Limit → (attempt : ℕ) → number ≤ attempt → attempt ≤ number + more → attempt_of problem key attempt ≡ Some Limit
  answer-limit zero number e = λ attempt low high. let same : attempt ≡ number = omega arith in ap (attempt_of problem key) same ∙ e
  answer-limit (suc more) number e = let here = attempted number in limit_by more number (answer-limit more (number + 1)) here.0 here.1 e

  pub limit-answer : (more number : ℕ) → ((attempt : ℕ) → number ≤ attempt → attempt ≤ number + more → attempt_of problem key attempt ≡ Some Limit) → answer_from more problem key number ≡ Some Limit
  limit-answer zero number f = f number (omega arith) (omega arith)
  limit-answer (suc more) number f = unfolds more number Limit (f number (omega arith) (omega arith)) ∙ limit-answer more (number + 1) (λ attempt low high. f attempt (omega arith) (omega arith))

  -- ---- attempt by attempt

  pub first-answer : (more number : ℕ) (answer : SearchAnswer) → attempt_of problem key number ≡ Some answer → (¬ answer ≡ Limit) → answer_from more problem key number ≡ Some answer
  first-answer zero number answer h other = h
  first-answer (suc more) number (Sat values) h other = unfolds more number (Sat values) h
  first-answer (suc more) number (Unsat lines) h other = unfolds more number (Unsat lines) h
  first-answer (suc more) number Limit h other = absurd (other refl)

  pub past-limits : (count more number : ℕ) → ((earlier : ℕ) → number ≤ earlier → earlier < number + count → attempt_of problem key earlier ≡ Some Limit) → answer_from (count + more) problem key number ≡ answer_from more problem key (number + count)
  past-limits zero more number f =
      let none : zero + more ≡ more = omega arith in
      let same : number ≡ number + zero = omega arith in
      ap (λ k. answer_from k problem key number) none ∙ ap (answer_from more problem key) same
  past-limits (suc count) more number f =
      let one_more : suc count + more ≡ suc (count + more) = omega arith in
      let same : (number + 1) + count ≡ number + suc count = omega arith in
      ap (λ k. answer_from k problem key number) one_more
      ∙ unfolds (count + more) number Limit (f number (omega arith) (omega arith))
      ∙ past-limits count more (number + 1) (λ earlier low high. f earlier (omega arith) (omega arith))
      ∙ ap (answer_from more problem key) same

  -- ---- the whole search

  -- where so many attempts are a Limit, it is what there is from the next one on
  pub search-from : (number more : ℕ) → number + more ≡ problem.rungs → ((earlier : ℕ) → earlier < number → attempt_of problem key earlier ≡ Some Limit) → search_of problem key ≡ answer_from more problem key number
  search-from number more count f =
      let plain : 0 + number ≡ number = omega arith in
      ap (λ k. answer_from k problem key 0) (sym count)
      ∙ past-limits number more 0 (λ earlier low high. f earlier (omega arith))
      ∙ ap (answer_from more problem key) plain

  pub searched : (answer : SearchAnswer) × (search_of problem key ≡ Some answer)
  searched = answer-some problem.rungs 0

  pub search-of : (answer : SearchAnswer) → search_of problem key ≡ Some answer → IsOf 0 problem.rungs answer
  search-of = answer-of problem.rungs 0

  pub attempt-most : (answer : SearchAnswer) (of : IsOf 0 problem.rungs answer) → of.attempt ≤ problem.rungs
  attempt-most answer of = let most = of.most in omega arith
