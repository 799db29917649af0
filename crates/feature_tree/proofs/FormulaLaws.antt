-- A list of tokens has at most one formula, and exactly one answer; the reader gives it.
use Rattle.std.proofs.Common.{◌≡◌, ◌∙◌, refl, ap, sym, subst, ℕ, max, inl, inr, Bool, true, false, IsTrue, IsFalse, List, length, Result, Ok, Err, IfErr, IsErrAnd, arith}
use Rattle.std.proofs.lemmas.Result.{err_from_is_err_and}
use Rattle.std.proofs.lemmas.Bool.{cases_lt}
use Rattle.feature_tree.specs.declared.formula.Formula.{Formula}
use Rattle.feature_tree.specs.declared.reader.descent.Found.{Found}
use Rattle.feature_tree.specs.declared.reader.error.FormulaError.{FormulaError}
use Rattle.feature_tree.specs.declared.reader.error.FormulaError.TheVariants.{Unsupported, BadFormula, TooDeep, Memory}
use Rattle.feature_tree.specs.declared.reader.parsed.Parsed.{Parsed}
use Rattle.feature_tree.specs.declared.reader.role.Level.TheVariants.{Same}
use Rattle.feature_tree.specs.declared.reader.role.Role.{Role}
use Rattle.feature_tree.specs.Grammar.{chain, IsFormula, HasFormula}
use Rattle.feature_tree.specs.Roles.{has_unsupported}
use Rattle.feature_tree.specs.FormulaAnswer.{IsRefusal}
use Rattle.feature_tree.specs.Refusals.{most, StandsFor, IsBad, IsTooDeep, IsRefused, IsAnswer, OneParse, OneAnswer, IsMemory}
use Rattle.feature_tree.specs.inside.Descent.{OrRefusal, Answers, read}
use Rattle.feature_tree.proofs.Completeness.{Agrees, reads_whole}
use Rattle.feature_tree.proofs.Scanning.{scan, formula_of_scan, no_formula}

found : Parsed → ℕ → Found
found parsed after = record { parsed = parsed; after = after }

found_same : (one other : Parsed) (after : ℕ) (outcome : OrRefusal Found) → outcome ≡ Ok (found one after) → outcome ≡ Ok (found other after) → one ≡ other
unfolding found
found_same one other after outcome is too =
    let same : found one after ≡ found other after = cc in ap (λ f. f.parsed) same

pub one_parse : OneParse
unfolding found
one_parse tokens one other reads too =
    let room : ℕ = max one.height other.height in
    found_same one other (length tokens) (read tokens (chain Same) room 0)
    ((reads_whole tokens one room reads).low (omega arith))
    ((reads_whole tokens other room too).low (omega arith))

-- ---- what the descent finds

module _ (tokens : List Role) (supported : IsFalse (has_unsupported tokens)) (has : HasFormula tokens) where
  agrees : Agrees most has.0 (length tokens) (read tokens (chain Same) most 0)
  agrees = reads_whole tokens has.0 most has.1

  pub formula_found : (part : Found) → read tokens (chain Same) most 0 ≡ Ok part → StandsFor tokens part.parsed.formula
  formula_found part is = elim (cases_lt most has.0.height) [
    | inl high ↦ let none = agrees.high high in absurd (cc)
    | inr low ↦
        let whole = agrees.low low in
        let same : has.0 ≡ part.parsed = let f : record { parsed = has.0; after = length tokens } ≡ part = cc in ap (λ p. p.parsed) f in
        let reads : IsFormula tokens part.parsed = subst (IsFormula tokens) same has.1 in
        let height : has.0.height ≡ part.parsed.height = ap (λ r. r.height) same in
        record { supported = supported; height = part.parsed.height; reads = reads; low = omega arith }
  ]

  pub refusal_found : (reason : FormulaError) → Answers {A = Found} (Err reason) (read tokens (chain Same) most 0) → IsRefused tokens reason
  refusal_found Memory answers = tt
  refusal_found TooDeep answers = elim (cases_lt most has.0.height) [
    | inl high ↦ record { supported = supported; parsed = has.0; reads = has.1; high = high }
    | inr low ↦ let whole = agrees.low low in absurd (cc)
  ]
  refusal_found Unsupported answers = elim (cases_lt most has.0.height) [
    | inl high ↦ let none = agrees.high high in absurd (cc)
    | inr low ↦ let whole = agrees.low low in absurd (cc)
  ]
  refusal_found BadFormula answers = elim (cases_lt most has.0.height) [
    | inl high ↦ let none = agrees.high high in absurd (cc)
    | inr low ↦ let whole = agrees.low low in absurd (cc)
  ]

-- ---- each list has one answer

abbrev Answer : List Role → Type 0
Answer tokens = (answer : Result Formula FormulaError) × IsAnswer tokens answer × ¬ IsMemory answer

answer_of_formula : (tokens : List Role) → IsFalse (has_unsupported tokens) → HasFormula tokens → Answer tokens
answer_of_formula tokens supported (parsed, reads) = elim (cases_lt most parsed.height) [
  | inl high ↦ (Err TooDeep, record { supported = supported; parsed = parsed; reads = reads; high = high }, λ e. cc)
  | inr low ↦ (Ok parsed.formula, record { supported = supported; height = parsed.height; reads = reads; low = low }, λ e. cc)
]

answer_of_scan : (tokens : List Role) (passes : Bool) → scan true 0 tokens ≡ passes → IsFalse (has_unsupported tokens) → Answer tokens
answer_of_scan tokens true is supported = answer_of_formula tokens supported (formula_of_scan tokens is)
answer_of_scan tokens false is supported =
    (Err BadFormula, record { supported = supported; none = λ parsed reads. no_formula tokens is (parsed, reads) }, λ e. cc)

answer_of : (tokens : List Role) (unsupported : Bool) → has_unsupported tokens ≡ unsupported → Answer tokens
answer_of tokens true is = (Err Unsupported, is, λ e. cc)
answer_of tokens false is = answer_of_scan tokens (scan true 0 tokens) refl is

both : {b : Bool} → IsTrue b → IsFalse b → ⊥
both is is_not = absurd (cc)

apart : (tokens : List Role) → IsBad tokens → (parsed : Parsed) → IsFormula tokens parsed → ⊥
apart tokens bad parsed reads = bad.none parsed reads

too_high : (tokens : List Role) (formula : Formula) → StandsFor tokens formula → IsTooDeep tokens → ⊥
too_high tokens formula one other =
    let same = one_parse tokens _ other.parsed one.reads other.reads in
    let height : one.height ≡ other.parsed.height = ap (λ r. r.height) same in
    let low = one.low in let high = other.high in omega arith

pub answers_same : (tokens : List Role) (one other : Result Formula FormulaError) → IsAnswer tokens one → IsAnswer tokens other → ¬ IsMemory one → ¬ IsMemory other → one ≡ other
answers_same tokens (Err Memory) other is too some more = absurd (some refl)
answers_same tokens (Ok formula) (Err Memory) is too some more = absurd (more refl)
answers_same tokens (Err Unsupported) (Err Memory) is too some more = absurd (more refl)
answers_same tokens (Err BadFormula) (Err Memory) is too some more = absurd (more refl)
answers_same tokens (Err TooDeep) (Err Memory) is too some more = absurd (more refl)
answers_same tokens (Ok formula) (Ok other) is too some more =
    ap (λ r. Ok r.formula) (one_parse tokens _ _ is.reads too.reads)
answers_same tokens (Ok formula) (Err Unsupported) is too some more = absurd (both too is.supported)
answers_same tokens (Ok formula) (Err BadFormula) is too some more = absurd (apart tokens too _ is.reads)
answers_same tokens (Ok formula) (Err TooDeep) is too some more = absurd (too_high tokens formula is too)
answers_same tokens (Err Unsupported) (Ok formula) is too some more = absurd (both is too.supported)
answers_same tokens (Err Unsupported) (Err Unsupported) is too some more = refl
answers_same tokens (Err Unsupported) (Err BadFormula) is too some more = absurd (both is too.supported)
answers_same tokens (Err Unsupported) (Err TooDeep) is too some more = absurd (both is too.supported)
answers_same tokens (Err BadFormula) (Ok formula) is too some more = absurd (apart tokens is _ too.reads)
answers_same tokens (Err BadFormula) (Err Unsupported) is too some more = absurd (both too is.supported)
answers_same tokens (Err BadFormula) (Err BadFormula) is too some more = refl
answers_same tokens (Err BadFormula) (Err TooDeep) is too some more = absurd (apart tokens is _ too.reads)
answers_same tokens (Err TooDeep) (Ok formula) is too some more = absurd (too_high tokens formula too is)
answers_same tokens (Err TooDeep) (Err Unsupported) is too some more = absurd (both too is.supported)
answers_same tokens (Err TooDeep) (Err BadFormula) is too some more = absurd (apart tokens too _ is.reads)
answers_same tokens (Err TooDeep) (Err TooDeep) is too some more = refl

pub one_answer : OneAnswer
one_answer tokens =
    let one = answer_of tokens (has_unsupported tokens) refl in
    (one.0, one.1, one.2, λ other is some. answers_same tokens other one.0 is one.1 some one.2)

-- ---- at the exit of a `?`

pub at_err : (tokens : List Role) (result : Result Formula FormulaError) (reason : FormulaError) → IsErrAnd result (λ e. e ≡ reason) → IsRefused tokens reason
    → IfErr result (IsRefused tokens)
at_err tokens result reason is refused =
    let p = err_from_is_err_and {Q = λ e. e ≡ reason} result is in
    subst (λ r. IfErr r (IsRefused tokens)) (sym (p.1 ∙ ap (λ e. Err e) p.2)) refused

pub at_refusal : (answer : Result Formula FormulaError) (result : Result Formula FormulaError) (reason : FormulaError) → IsErrAnd result (λ e. e ≡ reason)
    → IsRefusal reason answer → IfErr result (λ e. IsRefusal e answer)
at_refusal answer result reason is refused =
    let p = err_from_is_err_and {Q = λ e. e ≡ reason} result is in
    subst (λ r. IfErr r (λ e. IsRefusal e answer)) (sym (p.1 ∙ ap (λ e. Err e) p.2)) refused
