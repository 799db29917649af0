use Rattle.std.proofs.Common.{◌≡◌, ℕ, List, cond, ltb, length, Some, None, rules, tests, sym, ◌∙◌}
use Rattle.std.specs.List.{position_or_len}
use Rattle.std.proofs.lemmas.Iterator.{YieldsList-from_slice}
use Rattle.std.proofs.lemmas.Iterator.Search.{position_from_yields_List}
use Rattle.diag_top.proofs.LinesLemmas.{ends, cut_at, cut_whole, found_at, found_nowhere}
use Rattle.diag_top.proofs.generated.first_line.Goals as goal

pub returns-in-Some-clause-cut : goal.returns-in-Some-clause-cut
returns-in-Some-clause-cut c =
    let text : List ℕ = c.args.text.now in
    let found : c.position.result ≡ cond (ltb (position_or_len ends text) (length text)) (Some (position_or_len ends text)) None =
    position_from_yields_List ends _ _ c.position.result c.position.ensures.ran (YieldsList-from_slice text cc) (λ x b q k. search (rules, tests)) in
    cut_at text c.in-Some.place c.requires (found_at text c.in-Some.place (sym found ∙ c.in-Some.is))

pub returns-in-None-clause-cut : goal.returns-in-None-clause-cut
returns-in-None-clause-cut c =
    let text : List ℕ = c.args.text.now in
    let found : c.position.result ≡ cond (ltb (position_or_len ends text) (length text)) (Some (position_or_len ends text)) None =
    position_from_yields_List ends _ _ c.position.result c.position.ensures.ran (YieldsList-from_slice text cc) (λ x b q k. search (rules, tests)) in
    cut_whole text c.requires (found_nowhere text (sym found ∙ c.in-None.is))
