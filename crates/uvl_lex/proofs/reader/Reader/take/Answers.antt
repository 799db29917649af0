use Rattle.std.proofs.Common.{◌≡◌, true, false, Some, sym, ◌∙◌, ap}
use Rattle.uvl_lex.proofs.ReadLemmas.{past_quiet, at_fault, past_inner_end, past_line_end, past_token, at_misfit}
use Rattle.uvl_lex.proofs.reader.Reader.take.Goals as goal

pub returns-then-not-branch-clause-refused : goal.returns-then-not-branch-clause-refused
returns-then-not-branch-clause-refused c = λ ps. rw c.in-Lexeme.is (at_misfit c.args.self.now c.in-Lexeme.kind c.args.from c.args.upto ps (c.in_ok-take-in-Lexeme.ensures.misfits c.if-not-branch.true))

pub returns-in-Blank-clause-ok : goal.returns-in-Blank-clause-ok
returns-in-Blank-clause-ok c = λ ps. past_quiet c.args.self.now c.args.what c.args.from c.args.upto ps c.in-Blank.is

pub returns-in_ok-end_line-in-LineEnd-clause-ok : goal.returns-in_ok-end_line-in-LineEnd-clause-ok
returns-in_ok-end_line-in-LineEnd-clause-ok c = λ ps.
    rw c.in-LineEnd.is (past_line_end c.args.self.now c.end_line.new.self c.args.from c.args.upto ps (c.is_empty.ensures.0 c.if-is_empty.true)
    c.in_ok-end_line-in-LineEnd.ensures.lines c.in_ok-end_line-in-LineEnd.ensures.none c.in_ok-end_line-in-LineEnd.ensures.brackets)

pub returns-else-is_empty-clause-ok : goal.returns-else-is_empty-clause-ok
returns-else-is_empty-clause-ok c = λ ps.
    rw c.in-LineEnd.is (past_inner_end c.args.self.now c.args.from c.args.upto ps (λ e. let no : true ≡ false = sym (c.is_empty.ensures.1 e) ∙ c.if-is_empty.false in cc))

pub returns-in_ok-add-in-Lexeme-clause-ok : goal.returns-in_ok-add-in-Lexeme-clause-ok
returns-in_ok-add-in-Lexeme-clause-ok c = λ ps.
    rw c.in-Lexeme.is (past_token c.args.self.now c.add.new.self c.in-Lexeme.kind c.args.from c.args.upto ps
    (c.in_ok-take-in-Lexeme.ensures.fits c.if-not-branch.false ∙ ap Some (sym c.in_ok-add-in-Lexeme.ensures.brackets)) c.in_ok-add-in-Lexeme.ensures.lines c.in_ok-add-in-Lexeme.ensures.current)

pub returns-in-Fault-clause-refused : goal.returns-in-Fault-clause-refused
returns-in-Fault-clause-refused c = λ ps. rw c.in-Fault.is (at_fault c.args.self.now c.args.from c.args.upto c.in-Fault.reason ps)
