-- What is read of the tokens of a requirement.
use Rattle.std.proofs.Common.{◌≡◌, ℕ, suc, List, [], ◌∷◌, length, Option, Some, None, Result, Err, refl, sym, ap}
use Rattle.std.specs.Option.{option_and_then, option_map}
use Rattle.feature_tree.specs.declared.formula.Formula.{Formula}
use Rattle.feature_tree.specs.declared.reader.error.FormulaError.{FormulaError}
use Rattle.feature_tree.specs.declared.reader.error.FormulaError.TheVariants as formula
use Rattle.feature_tree.specs.FormulaAnswer.{formula_answer, IsRefusal as IsFormulaRefusal}
use Rattle.uvl_lex.specs.declared.token.Token.{Token}
use Rattle.config_reader.specs.Judgement.{requirement, if_formula, refusal, IsRefusal}
use Rattle.config_reader.specs.Names.{numbers, number_at}
use Rattle.name_table.specs.Numbers.{Numbers}

module _ (names : Numbers) (bytes : List ℕ) (line : ℕ) (tokens : List Token) where
  pub requirement_of_answer : (answer : Result Formula FormulaError) → formula_answer tokens ≡ answer → requirement names bytes line tokens ≡ if_formula names bytes line tokens answer
  unfolding requirement
  requirement_of_answer answer e = ap (if_formula names bytes line tokens) e

  pub requirement_refused : (reason : FormulaError) → IsFormulaRefusal reason (formula_answer tokens) → IsRefusal (refusal line reason) (requirement names bytes line tokens)
  requirement_refused formula.Unsupported e = requirement_of_answer (Err formula.Unsupported) e
  requirement_refused formula.BadFormula e = requirement_of_answer (Err formula.BadFormula) e
  requirement_refused formula.TooDeep e = requirement_of_answer (Err formula.TooDeep) e
  requirement_refused formula.Memory e = tt

module _ (names : Numbers) (bytes : List ℕ) where
  long_enough : (token : Token) (after : List Token) (found : Option ℕ) (others : Option (List ℕ)) (of : List ℕ)
      → ((rest : List ℕ) → others ≡ Some rest → length rest ≡ length after) → option_and_then (λ (number : ℕ). option_map (λ (rest : List ℕ). number ∷ rest) others) found ≡ Some of → length of ≡ length (token ∷ after)
  long_enough token after None others of long e = absurd (cc)
  long_enough token after (Some number) None of long e = absurd (cc)
  long_enough token after (Some number) (Some rest) of long e =
      let same : number ∷ rest ≡ of = cc in
      rw (sym same) (ap suc (long rest refl))

  -- there is a number for each token
  pub numbers_long : (tokens : List Token) (of : List ℕ) → numbers names bytes tokens ≡ Some of → length of ≡ length tokens
  numbers_long [] [] e = refl
  numbers_long [] (number ∷ of) e = absurd (cc)
  numbers_long (token ∷ after) of e = long_enough token after (number_at names bytes token) (numbers names bytes after) of (numbers_long after) e
