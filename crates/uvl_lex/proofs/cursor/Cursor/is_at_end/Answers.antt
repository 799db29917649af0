use Rattle.std.proofs.lemmas.Bool.{eqb-true, eq-eqb}
use Rattle.uvl_lex.proofs.CursorLemmas.{chars_none, no_bytes}
use Rattle.uvl_lex.proofs.cursor.Cursor.is_at_end.Goals as goal

pub returns : goal.returns
returns c =
    rw c.is_empty.ensures (
      λ h. chars_none c.args.self.rest.now (eqb-true _ _ h),
      λ e. eq-eqb _ _ (no_bytes c.args.self.rest.now c.args.self.text e),
    )
