use Rattle.std.proofs.Common.{Ok, sym, ◌∙◌, ap}
use Rattle.uvl_lex.proofs.ReadLemmas.{at_open_end, at_closed_end}
use Rattle.uvl_lex.proofs.reader.Reader.finish.Goals as goal

pub returns-in-Some-clause-refused : goal.returns-in-Some-clause-refused
returns-in-Some-clause-refused c = at_open_end c.args.self _ _ c.in-Some.ensures

pub returns-clause-ok : goal.returns-clause-ok
returns-clause-ok c =
    let none = c.in_default.ensures in
    at_closed_end c.args.self none ∙ ap Ok (sym c.in_ok-end_line.ensures.lines)
