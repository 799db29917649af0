-- What one line comes to.
use Rattle.std.proofs.Common.{◌≡◌, ◌∙◌, refl, sym, ap, subst, ℕ, suc, ◌+◌, ◌-◌, ◌<◌, Bool, true, false, ◌&&◌, cond, ◌≤◌, List, [], ◌∷◌, ◌++◌, length, take, drop, append-nil, append_assoc, Some, None, arith}
use Rattle.std.specs.Prelude.{Option, Result, Ok, Err, IsErrAnd, codes, filter}
use Rattle.std.specs.List.{flat_map, list_all, range_with_len}
use Rattle.std.proofs.lemmas.List.{drop_all, take_all}
use Rattle.std.proofs.lemmas.List.Folds.{list_all-map}
use Rattle.clauses.specs.declared.literal.Lit.{Lit}
use Rattle.clauses.specs.Closure.{clash, follows}
use Rattle.config_reader.specs.declared.config.Requirement.{Requirement}
use Rattle.config_reader.specs.Configuration.{Configuration}
use Rattle.config_reader.specs.Consistent.{formulas_at, formulas_of}
use Rattle.feature_tree.specs.Decided.{is_product}
use Rattle.feature_tree.specs.FeatureModel.{FeatureModel}
use Rattle.feature_tree.specs.Truth.{truth}
use Rattle.certificate.specs.declared.judgement.Judgement.{Judgement}
use Rattle.certificate.specs.declared.judgement.Judgement.TheVariants.{No}
use Rattle.certificate.specs.declared.judgement.Why.{Why}
use Rattle.certificate.specs.declared.judgement.Why.TheVariants as why
use Rattle.certificate.specs.Judging.{Subject, Awaited, Kind, ConflictBeside, Exactly, Kept, Nothing, conflict_parts, count_of, end_parts, explained_parts, refuted_parts, Product, Derivation, Step, Goes, Refuses, is_wanted, step, step_at_product, step_in_derivation, judged}
use Rattle.certificate.specs.Words.{Saying, Learns, Clashes, Malformed, Foreign, product_in, saying_of}
use Rattle.certificate.specs.declared.parts.Stop.{Stop}
use Rattle.certificate.specs.declared.parts.Stop.TheVariants.{Refused, Memory}
use Rattle.certificate.specs.inside.Ahead.{Ahead, judged_at}
use Rattle.certificate.specs.Sets.{given_up}
use Rattle.certificate.specs.declared.judgement.Shown.{Shown}
use Rattle.certificate.specs.inside.Fronts.{front_parts}
use Rattle.certificate.specs.inside.Kinds.{KindIs}
use Rattle.certificate.specs.inside.Passing.{EndsAfter, IsListAt, Leads, Passes, Shows}

abbrev by_step : Subject → ℕ → List (List ℕ) → Step → Judgement
by_step about number lines (Refuses why) = No number why
by_step about number lines (Goes next) = judged about next (number + 1) lines

module _ (about : Subject) (awaited : List Awaited) (before now : Ahead) (line : List ℕ) (taken : before.lines ≡ line ∷ now.lines) (counted : now.number ≡ before.number + 1) where
  by_line : (s : Step) → step about awaited line ≡ s → judged_at about awaited before ≡ by_step about before.number now.lines s
  by_line s e = ap (judged about awaited before.number) taken ∙ ap (by_step about before.number now.lines) e

  pub step-goes : (next : List Awaited) → step about awaited line ≡ Goes next → judged_at about awaited before ≡ judged_at about next now
  step-goes next e = by_line (Goes next) e ∙ ap (λ n. judged about next n now.lines) (sym counted)

  pub step-refuses : (why : Why) → step about awaited line ≡ Refuses why → judged_at about awaited before ≡ No before.number why
  step-refuses why e = by_line (Refuses why) e

-- ---- products

pub read-some : (yes : Bool) (read : Option (List Bool)) (set : List Bool) → read ≡ cond yes (Some set) None → yes ≡ true → read ≡ Some set
read-some true read set e y = e
read-some false read set e y = absurd (cc)

pub product-step : (about : Subject) (positions : List ℕ) (rest : List Awaited) (line : List ℕ) (set : List Bool) (wanted : Bool) → product_in (length about.model.features) line ≡ Some set → is_wanted about.model about.config positions set ≡ wanted
    → step about (Product positions ∷ rest) line ≡ cond wanted (Goes rest) (Refuses why.NotProduct)
product-step about positions rest line set wanted e w =
    ap (λ o. step_at_product about positions o rest) e ∙ ap (λ b. cond b (Goes rest) (Refuses why.NotProduct)) w

module _ (model : FeatureModel) (config : Configuration) (positions : List ℕ) (set : List Bool) where
  no_product : (a m r : Bool) → a ≡ false → false ≡ ((a && m) && r)
  no_product true m r e = absurd (cc)
  no_product false m r e = refl

  no_musts : (a m r : Bool) → m ≡ false → false ≡ ((a && m) && r)
  no_musts true true r e = absurd (cc)
  no_musts true false r e = refl
  no_musts false m r e = refl

  both_hold : (a m r : Bool) → a ≡ true → m ≡ true → ((a && m) && r) ≡ r
  both_hold true true r e f = refl
  both_hold true false r e f = absurd (cc)
  both_hold false m r e f = absurd (cc)

  musts_are : list_all (truth set) (formulas_of config.musts) ≡ list_all (λ (must : Requirement). truth set must.formula) config.musts
  musts_are = list_all-map (truth set) (λ (must : Requirement). must.formula) config.musts

  pub unwanted-product : is_product model set ≡ false → false ≡ is_wanted model config positions set
  unwanted-product e = no_product (is_product model set) (list_all (truth set) (formulas_of config.musts)) (list_all (truth set) (formulas_at config positions)) e

  pub unwanted-musts : list_all (λ (must : Requirement). truth set must.formula) config.musts ≡ false → false ≡ is_wanted model config positions set
  unwanted-musts e = no_musts (is_product model set) (list_all (truth set) (formulas_of config.musts)) (list_all (truth set) (formulas_at config positions)) (musts_are ∙ e)

  pub wanted-rest : is_product model set ≡ true → list_all (λ (must : Requirement). truth set must.formula) config.musts ≡ true → is_wanted model config positions set ≡ list_all (truth set) (formulas_at config positions)
  wanted-rest e f = both_hold (is_product model set) (list_all (truth set) (formulas_of config.musts)) (list_all (truth set) (formulas_at config positions)) e (musts_are ∙ f)

-- a set that was lent as a slice and comes back
pub put-back : (len : ℕ) (items new : List Bool) → length new ≡ length items → length items ≤ len → take len (new ++ drop (length new) items) ≡ new
put-back len items new e l =
    ap (λ rest. take len (new ++ rest)) (drop_all (length new) items (omega arith))
    ∙ ap (take len) (append-nil new)
    ∙ take_all len new (omega arith)

-- ---- derivations

module _ (about : Subject) (clauses : List (List Lit)) (rest : List Awaited) (line : List ℕ) where
  said : (saying : Saying) → saying_of about.problem.variables line ≡ saying → step about (Derivation clauses ∷ rest) line ≡ step_in_derivation clauses saying rest
  said saying e = ap (λ s. step_in_derivation clauses s rest) e

  pub learns-step : (clause : List Lit) (test : Bool) → saying_of about.problem.variables line ≡ Learns clause → follows clauses clause ≡ test
      → step about (Derivation clauses ∷ rest) line ≡ cond test (Goes (Derivation (clauses ++ clause ∷ []) ∷ rest)) (Refuses why.NotConsequence)
  learns-step clause test e f = said (Learns clause) e ∙ ap (λ b. cond b (Goes (Derivation (clauses ++ clause ∷ []) ∷ rest)) (Refuses why.NotConsequence)) f

  pub clashes-step : (test : Bool) → saying_of about.problem.variables line ≡ Clashes → clash clauses ≡ test → step about (Derivation clauses ∷ rest) line ≡ cond test (Goes rest) (Refuses why.NotConsequence)
  clashes-step test e f = said Clashes e ∙ ap (λ b. cond b (Goes rest) (Refuses why.NotConsequence)) f

  pub malformed-step : saying_of about.problem.variables line ≡ Malformed → step about (Derivation clauses ∷ rest) line ≡ Refuses why.BadLine
  malformed-step e = said Malformed e

  pub foreign-step : saying_of about.problem.variables line ≡ Foreign → step about (Derivation clauses ∷ rest) line ≡ Refuses why.NoEnd
  foreign-step e = said Foreign e

-- ---- parts one after another

-- what the first parts come to, and then the others
pub passes-then : {A : Type 0} (about : Subject) (first others : List Awaited) (before mid now : Ahead) (r : Result A Stop)
    → ((rest : List Awaited) → judged_at about (first ++ rest) before ≡ judged_at about rest mid) → Passes about others mid now r → Passes about (first ++ others) before now r
passes-then about first others before mid now (Ok made) f g = λ rest. ap (λ parts. judged_at about parts before) (append_assoc first others rest) ∙ f (others ++ rest) ∙ g rest
passes-then about first others before mid now (Err (Refused line why)) f g = λ rest. ap (λ parts. judged_at about parts before) (append_assoc first others rest) ∙ f (others ++ rest) ∙ g rest
passes-then about first others before mid now (Err Memory) f g = tt

-- a refusal among the first parts
failed : (A B : Type 0) (about : Subject) (first others : List Awaited) (before mid now : Ahead) (stop : Stop) → Passes {A = A} about first before mid (Err stop) → Passes {A = B} about (first ++ others) before now (Err stop)
failed A B about first others before mid now (Refused line why) f = λ rest. ap (λ parts. judged_at about parts before) (append_assoc first others rest) ∙ f (others ++ rest)
failed A B about first others before mid now Memory f = tt

pub passes-fail : (A : Type 0) {B : Type 0} (about : Subject) (first others : List Awaited) (before mid now : Ahead) (r : Result B Stop) (stop : Stop) → IsErrAnd r (λ x. x ≡ stop)
    → Passes {A = A} about first before mid (Err stop) → Passes about (first ++ others) before now r
passes-fail A {B} about first others before mid now (Ok made) stop is f = absurd is
passes-fail A {B} about first others before mid now (Err x) stop is f = subst (λ y. Passes {A = B} about (first ++ others) before now (Err y)) (sym is) (failed A B about first others before mid now stop f)

-- where the first parts were taken and what is left fails or passes
pub passes-left : {B : Type 0} (about : Subject) (all left : List Awaited) (before at now : Ahead) (r : Result B Stop) → ((rest : List Awaited) → judged_at about (all ++ rest) before ≡ judged_at about (left ++ rest) at)
    → Passes about left at now r → Passes about all before now r
passes-left about all left before at now (Ok made) f g = λ rest. f rest ∙ g rest
passes-left about all left before at now (Err (Refused line why)) f g = λ rest. f rest ∙ g rest
passes-left about all left before at now (Err Memory) f g = tt

-- ---- positions one after another

module _ (test : ℕ → Bool) (n place : ℕ) (inside : place < n) where
  one_less : n - place ≡ suc (n - (place + 1))
  one_less = omega arith

  pub filter-here : test (place + 1) ≡ true → filter test (range_with_len (place + 1) (n - place)) ≡ (place + 1) ∷ filter test (range_with_len ((place + 1) + 1) (n - (place + 1)))
  filter-here t =
      ap (λ m. filter test (range_with_len (place + 1) m)) one_less
      ∙ ap (λ b. cond b ((place + 1) ∷ filter test (range_with_len ((place + 1) + 1) (n - (place + 1)))) (filter test (range_with_len ((place + 1) + 1) (n - (place + 1))))) t

  pub filter-skip : test (place + 1) ≡ false → filter test (range_with_len (place + 1) (n - place)) ≡ filter test (range_with_len ((place + 1) + 1) (n - (place + 1)))
  filter-skip t =
      ap (λ m. filter test (range_with_len (place + 1) m)) one_less
      ∙ ap (λ b. cond b ((place + 1) ∷ filter test (range_with_len ((place + 1) + 1) (n - (place + 1)))) (filter test (range_with_len ((place + 1) + 1) (n - (place + 1))))) t

-- ---- the end

ends-failed : (A B : Type 0) (text : List ℕ) (before mid : Ahead) (stop : Stop) → ((about : Subject) → Passes {A = A} about (Exactly text ∷ []) before mid (Err stop)) → EndsAfter {A = B} text before (Err stop)
ends-failed A B text before mid (Refused line why) f = λ about shown. f about (Nothing shown ∷ [])
ends-failed A B text before mid Memory f = tt

pub ends-fail : (A B : Type 0) (text : List ℕ) (before mid : Ahead) (r : Result B Stop) (stop : Stop) → IsErrAnd r (λ x. x ≡ stop) → ((about : Subject) → Passes {A = A} about (Exactly text ∷ []) before mid (Err stop)) → EndsAfter {A = B} text before r
ends-fail A B text before mid (Ok made) stop is f = absurd is
ends-fail A B text before mid (Err x) stop is f = subst (λ y. EndsAfter {A = B} text before (Err y)) (sym is) (ends-failed A B text before mid stop f)

-- ---- what is shown

shows-failed : (A : Type 0) (about : Subject) (first others : List Awaited) (before mid : Ahead) (stop : Stop) → Passes {A = A} about first before mid (Err stop) → Shows about (first ++ others) before (Err stop)
shows-failed A about first others before mid (Refused line why) f = f others
shows-failed A about first others before mid Memory f = tt

pub shows-fail : (A : Type 0) (about : Subject) (first others : List Awaited) (before mid : Ahead) (r : Result Shown Stop) (stop : Stop) → IsErrAnd r (λ x. x ≡ stop) → Passes {A = A} about first before mid (Err stop) → Shows about (first ++ others) before r
shows-fail A about first others before mid (Ok made) stop is f = absurd is
shows-fail A about first others before mid (Err x) stop is f = subst (λ y. Shows about (first ++ others) before (Err y)) (sym is) (shows-failed A about first others before mid stop f)

pub shows-from : (about : Subject) (a b : List Awaited) (before mid : Ahead) (r : Result Shown Stop) → judged_at about a before ≡ judged_at about b mid → Shows about b mid r → Shows about a before r
shows-from about a b before mid (Ok shown) e f = e ∙ f
shows-from about a b before mid (Err (Refused line why)) e f = e ∙ f
shows-from about a b before mid (Err Memory) e f = tt

end-failed : (A : Type 0) (about : Subject) (text : List ℕ) (shown : Shown) (before : Ahead) (stop : Stop) → EndsAfter {A = A} text before (Err stop) → Shows about (Exactly text ∷ Nothing shown ∷ []) before (Err stop)
end-failed A about text shown before (Refused line why) f = f about shown
end-failed A about text shown before Memory f = tt

pub end-fail : (A : Type 0) (about : Subject) (text : List ℕ) (shown : Shown) (before : Ahead) (r : Result Shown Stop) (stop : Stop) → IsErrAnd r (λ x. x ≡ stop) → EndsAfter {A = A} text before (Err stop) → Shows about (Exactly text ∷ Nothing shown ∷ []) before r
end-fail A about text shown before (Ok made) stop is f = absurd is
end-fail A about text shown before (Err x) stop is f = subst (λ y. Shows about (Exactly text ∷ Nothing shown ∷ []) before (Err y)) (sym is) (end-failed A about text shown before stop f)

-- ---- lists

list-failed : (about : Subject) (word : List ℕ) (n : ℕ) (awaited : List Awaited) (next : List ℕ → List Awaited) (before mid : Ahead) (stop : Stop) → IsListAt about word n awaited next → Leads word n before mid (Err stop) → Shows about awaited before (Err stop)
list-failed about word n awaited next before mid (Refused line why) at f = f about awaited next at
list-failed about word n awaited next before mid Memory at f = tt

pub list-fail : (about : Subject) (word : List ℕ) (n : ℕ) (awaited : List Awaited) (next : List ℕ → List Awaited) (before mid : Ahead) (r : Result Shown Stop) (stop : Stop) → IsErrAnd r (λ x. x ≡ stop) → IsListAt about word n awaited next
    → Leads word n before mid (Err stop) → Shows about awaited before r
list-fail about word n awaited next before mid (Ok made) stop is at f = absurd is
list-fail about word n awaited next before mid (Err x) stop is at f = subst (λ y. Shows about awaited before (Err y)) (sym is) (list-failed about word n awaited next before mid stop at f)

pub kept-at : (about : Subject) (n : ℕ) → n ≡ count_of about → IsListAt about (codes "kept") n (Kept ∷ []) (λ kept. ConflictBeside kept ∷ [])
kept-at about n e = subst (λ k. IsListAt about (codes "kept") k (Kept ∷ []) (λ kept. ConflictBeside kept ∷ [])) (sym e) (record { line = (λ line. refl); end = (λ number. refl) })

pub conflict-at : (about : Subject) (n : ℕ) (kept : List ℕ) → n ≡ count_of about → IsListAt about (codes "conflict") n (ConflictBeside kept ∷ []) (λ conflict. explained_parts about kept conflict ++ [])
conflict-at about n kept e =
    subst (λ k. IsListAt about (codes "conflict") k (ConflictBeside kept ∷ []) (λ conflict. explained_parts about kept conflict ++ [])) (sym e) (record { line = (λ line. refl); end = (λ number. refl) })

pub parts-apart : (about : Subject) (kept conflict : List ℕ) → explained_parts about kept conflict ++ [] ≡ front_parts about kept conflict ++ end_parts about kept conflict
parts-apart about kept conflict =
    append-nil (explained_parts about kept conflict)
    ∙ ap (λ parts. Product kept ∷ parts) (sym (append_assoc (flat_map (refuted_parts about kept) (given_up (count_of about) kept)) (conflict_parts about conflict) (end_parts about kept conflict)))

-- ---- what a certificate says of the requirements

kind-failed : (about : Subject) (before mid : Ahead) (stop : Stop) → KindIs before mid (Err stop) → Shows about (Kind ∷ []) before (Err stop)
kind-failed about before mid (Refused line why) f = f about
kind-failed about before mid Memory f = tt

pub kind-fail : (about : Subject) (before mid : Ahead) (r : Result Shown Stop) (stop : Stop) → IsErrAnd r (λ x. x ≡ stop) → KindIs before mid (Err stop) → Shows about (Kind ∷ []) before r
kind-fail about before mid (Ok made) stop is f = absurd is
kind-fail about before mid (Err x) stop is f = subst (λ y. Shows about (Kind ∷ []) before (Err y)) (sym is) (kind-failed about before mid stop f)
