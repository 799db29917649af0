use Rattle.std.proofs.Common.{◌≡◌, ◌∙◌, sym, ℕ, List, cond, eqb, ltb, length, get_or, Some, None, ◌-◌, arith, rules, tests}
use Rattle.std.specs.List.{position_or_len}
use Rattle.std.proofs.lemmas.Iterator.{YieldsList-from_slice}
use Rattle.std.proofs.lemmas.Iterator.Search.{position_from_yields_List}
use Rattle.solver.proofs.SearchLaws.{cut-many, up_to-found, up_to-missing}
use Rattle.solver.proofs.search.cut.Goals as goal

pub returns-in-Some : goal.returns-in-Some
returns-in-Some c =
    let items : List ℕ = c.args.decisions.now.items in
    let trimmed : List ℕ = c.args.trimmed.now in
    let before : ℕ = get_or trimmed (length trimmed - 2) 0 in
    let found : c.position.result ≡ cond (ltb (position_or_len (λ x. eqb x before) items) (length items)) (Some (position_or_len (λ x. eqb x before) items)) None =
    position_from_yields_List (λ x. eqb x before) _ _ c.position.result c.position.ensures.ran (YieldsList-from_slice items cc) (λ x b q k. search (rules, tests)) in
    c.truncate.ensures.items ∙ sym (cut-many items trimmed (omega arith) ∙ up_to-found before items c.in-Some.place (sym found ∙ c.in-Some.is))

pub returns-in_default : goal.returns-in_default
returns-in_default c =
    let items : List ℕ = c.args.decisions.now.items in
    let trimmed : List ℕ = c.args.trimmed.now in
    let before : ℕ = get_or trimmed (length trimmed - 2) 0 in
    let found : c.position.result ≡ cond (ltb (position_or_len (λ x. eqb x before) items) (length items)) (Some (position_or_len (λ x. eqb x before) items)) None =
    position_from_yields_List (λ x. eqb x before) _ _ c.position.result c.position.ensures.ran (YieldsList-from_slice items cc) (λ x b q k. search (rules, tests)) in
    sym (cut-many items trimmed (omega arith) ∙ up_to-missing before items (sym found ∙ c.in_default.is))
