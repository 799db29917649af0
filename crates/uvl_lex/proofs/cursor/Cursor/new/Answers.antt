use Rattle.std.proofs.Common.{arith}
use Rattle.std.proofs.lemmas.Str.{is_utf8-from_IsUtf8}
use Rattle.uvl_lex.proofs.cursor.Cursor.new.Goals as goal

pub invariant_of-start : goal.invariant_of-start
invariant_of-start c = record {
  text = is_utf8-from_IsUtf8 _ c.utf8.text;
  fits = (omega arith, omega arith, omega arith);
}
