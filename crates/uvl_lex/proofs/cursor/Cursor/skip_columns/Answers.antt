use Rattle.std.proofs.Common.{◌≤◌, ◌∙◌, refl, ap, length, arith}
use Rattle.std.specs.List.{prefix_len}
use Rattle.std.proofs.lemmas.Str.{IsUtf8-from_is_utf8, is_utf8-from_IsUtf8, IsCharBoundary-from_drop}
use Rattle.uvl_lex.specs.inside.Classes.{is_column}
use Rattle.uvl_lex.proofs.ColumnLemmas.{goes_over_run, passed_by_run, utf8_from}
use Rattle.uvl_lex.proofs.cursor.Cursor.skip_columns.Goals as goal

pub range_from-rest-requires : goal.range_from-rest-requires
range_from-rest-requires c = λ some.
    let bytes = c.args.self.rest.now in
    let within : c.columns-count.result ≤ length bytes = omega (arith, c.columns-count.ensures.within, ap length c.as_bytes.ensures.value) in
    IsCharBoundary-from_drop bytes c.columns-count.result within
    (utf8_from c.args.class bytes c.columns-count.result
    (c.columns-count.ensures.value ∙ ap (prefix_len (is_column c.args.class)) c.as_bytes.ensures.value) (IsUtf8-from_is_utf8 bytes c.args.self.text))

pub invariant_of-result : goal.invariant_of-result
invariant_of-result c =
    let within = ap length c.as_bytes.ensures.value in
    let size = c.range_from-rest.ensures.len in
    record {
      text = is_utf8-from_IsUtf8 _ c.range_from-rest.utf8;
      fits = (omega arith, omega arith, omega arith);
    }

pub returns-clause-after : goal.returns-clause-after
returns-clause-after c =
    goes_over_run c.args.class c.args.self _ c.columns-count.result
    (c.columns-count.ensures.value ∙ ap (prefix_len (is_column c.args.class)) c.as_bytes.ensures.value)
    (IsUtf8-from_is_utf8 c.args.self.rest.now c.args.self.text) c.range_from-rest.ensures.value refl

pub returns-clause-passed : goal.returns-clause-passed
returns-clause-passed c =
    passed_by_run c.args.class c.args.self.rest.now c.range_from-rest.result.now c.columns-count.result
    (c.columns-count.ensures.value ∙ ap (prefix_len (is_column c.args.class)) c.as_bytes.ensures.value)
    (IsUtf8-from_is_utf8 c.args.self.rest.now c.args.self.text) c.range_from-rest.ensures.value
