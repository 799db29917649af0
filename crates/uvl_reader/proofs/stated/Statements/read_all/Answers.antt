use Rattle.std.proofs.Common.{map, ◌∙◌, arith}
use Rattle.std.proofs.lemmas.List.{at_drop_all}
use Rattle.std.proofs.lemmas.Result.{err_from_is_err_and}
use Rattle.uvl_reader.specs.inside.Standing.{with_all}
use Rattle.uvl_reader.proofs.ReadLaws.{all_next_at, all_refused_at, all_end}
use Rattle.uvl_reader.proofs.stated.Statements.read_all.Goals as goal

pub returns-in_err-read-clause-refused : goal.returns-in_err-read-clause-refused
returns-in_err-read-clause-refused c =
    let p = err_from_is_err_and c.from_residual.result c.from_residual.ensures.1 in
    rw (p.1, p.2) (all_refused_at c.args.line (λ tokens. tokens.now) c.args.formulas.now c.loop-tokens.tokens-index _ c.loop-tokens-test.true c.loop-tokens.self _ _ c.loop-tokens.invariant c.in_err-read.ensures.refused)

pub loop-tokens-preserved : goal.loop-tokens-preserved
loop-tokens-preserved c =
    all_next_at c.args.line (λ tokens. tokens.now) c.args.formulas.now c.loop-tokens.tokens-index _ c.loop-tokens-test.true c.loop-tokens.self _ c.read.new.self c.loop-tokens.invariant c.in_ok-read.ensures.ok

pub returns-clause-ok : goal.returns-clause-ok
returns-clause-ok c =
    c.loop-tokens.invariant ∙ at_drop_all (λ l. with_all c.args.line c.loop-tokens.self (map (λ tokens. tokens.now) l)) c.args.formulas.now c.loop-tokens.tokens-index (omega arith)
    ∙ all_end c.args.line c.loop-tokens.self
