use Rattle.std.proofs.Common.{◌≡◌, ◌∙◌, sym, ap, subst, length, [], ◌∷◌, ◌++◌, ◌+◌, arith}
use Rattle.std.proofs.lemmas.List.{length-append}
use Rattle.propagation.specs.inside.Cutting.{AreEnds, cut_at}
use Rattle.propagation.proofs.FlatLaws.{ends-push, cut-push}
use Rattle.propagation.proofs.flat.FlatClauses.push.Goals as goal

pub invariant_of-self-2 : goal.invariant_of-self-2
invariant_of-self-2 c =
    let ends = c.self.inside.ends.items in
    let row = c.self.inside.row.items in
    let clause = c.args.clause.now in
    let after : c.append.new.row.items ≡ row ++ clause = c.append.ensures.items ∙ ap (λ ls. ls ++ clause) c.reserve-2.ensures.items in
    let longer : length c.append.new.row.items ≡ length row + length clause = ap length after ∙ length-append row clause in
    let count : c.len.result ≡ length row + length clause = (let l = c.len.ensures in omega arith) in
    let pushed : c.push_reserved.new.self.items ≡ ends ++ (length row + length clause) ∷ [] =
    c.push_reserved.ensures.items ∙ ap (λ es. es ++ c.len.result ∷ []) c.reserve.ensures.items ∙ ap (λ n. ends ++ n ∷ []) count in
    subst (λ es. AreEnds 0 es (length c.append.new.row.items)) (sym pushed)
    (subst (AreEnds 0 (ends ++ (length row + length clause) ∷ [])) (sym longer) (ends-push 0 ends (length row) (length clause) c.self.invariant))

pub returns-clause-ok : goal.returns-clause-ok
returns-clause-ok c =
    let ends = c.self.inside.ends.items in
    let row = c.self.inside.row.items in
    let clause = c.args.clause.now in
    let after : c.append.new.row.items ≡ row ++ clause = c.append.ensures.items ∙ ap (λ ls. ls ++ clause) c.reserve-2.ensures.items in
    let longer : length c.append.new.row.items ≡ length row + length clause = ap length after ∙ length-append row clause in
    let count : c.len.result ≡ length row + length clause = (let l = c.len.ensures in omega arith) in
    let pushed : c.push_reserved.new.self.items ≡ ends ++ (length row + length clause) ∷ [] =
    c.push_reserved.ensures.items ∙ ap (λ es. es ++ c.len.result ∷ []) c.reserve.ensures.items ∙ ap (λ n. ends ++ n ∷ []) count in
    ap (λ es. cut_at 0 es c.append.new.row.items) pushed
    ∙ ap (cut_at 0 (ends ++ (length row + length clause) ∷ [])) after
    ∙ cut-push 0 ends row clause c.self.invariant
    ∙ ap (λ cs. cs ++ clause ∷ []) c.self.view_is
