use Rattle.std.proofs.Common.{sym, ◌∙◌, ap}
use Rattle.std.proofs.lemmas.Str.{is_utf8-from_IsUtf8}
use Rattle.std.specs.Prelude.{length}
use Rattle.uvl_lex.proofs.CursorLemmas.{fits_offset, fits_line, fits_column, length_past, chars_some, chars_none}
use Rattle.uvl_lex.proofs.cursor.Cursor.step.Goals as goal

pub invariant_of-result : goal.invariant_of-result
invariant_of-result c = record {
  text = is_utf8-from_IsUtf8 _ c.as_str.utf8;
  fits = rw (c.place_after.ensures, c.as_str.ensures) (
    fits_offset c.args.self.place c.in-Some.c _ _ c.args.self.fits.0
        (length_past _ _ _ (sym c.chars-chars.ensures.rest ∙ c.in-Some.ensures.steps.0)),
    fits_line c.args.self.place c.in-Some.c c.args.self.fits.1,
    fits_column c.args.self.place c.in-Some.c c.args.self.fits.2,
  );
}

pub returns-in-Some : goal.returns-in-Some
returns-in-Some c = record {
  rest = rw c.as_str.ensures (chars_some _ _ _ c.args.self.text (sym c.chars-chars.ensures.rest ∙ c.in-Some.ensures.steps.0));
  place = c.place_after.ensures;
}

pub returns-in-None : goal.returns-in-None
returns-in-None c = chars_none _ (sym (ap length c.chars-chars.ensures.rest) ∙ c.in-None.ensures.steps.0.0)
