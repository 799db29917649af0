use Rattle.std.proofs.Common.{◌≡◌, Some, sym, ◌∙◌, arith}
use Rattle.uvl_lex.specs.Text.{IsSpanOf}
use Rattle.uvl_reader.specs.Shapes.{feature_of}
use Rattle.uvl_reader.proofs.PartLaws.{shape_part}
use Rattle.uvl_reader.proofs.draft.Draft.read_feature.Goals as goal

pub read_shape-requires-clause-few : goal.read_shape-requires-clause-few
read_shape-requires-clause-few c =
    let shape : feature_of c.args.line.now.tokens ≡ Some c.in-Some-of.shape = rw c.as_slice-tokens.ensures at (sym c.of.ensures ∙ c.in-Some-of.is) in
    let part = shape_part (IsSpanOf c.args.bytes.now) c.args.line.now.tokens c.in-Some-of.shape shape c.requires.line.spans in
    let short = part.1.0 in
    let few = c.requires.line.few in
    let most = c.requires.few in
    omega arith

pub read_shape-requires-clause-spans : goal.read_shape-requires-clause-spans
read_shape-requires-clause-spans c =
    let shape : feature_of c.args.line.now.tokens ≡ Some c.in-Some-of.shape = rw c.as_slice-tokens.ensures at (sym c.of.ensures ∙ c.in-Some-of.is) in
    (shape_part (IsSpanOf c.args.bytes.now) c.args.line.now.tokens c.in-Some-of.shape shape c.requires.line.spans).1.1

pub read_shape-requires-clause-name : goal.read_shape-requires-clause-name
read_shape-requires-clause-name c =
    let shape : feature_of c.args.line.now.tokens ≡ Some c.in-Some-of.shape = rw c.as_slice-tokens.ensures at (sym c.of.ensures ∙ c.in-Some-of.is) in
    (shape_part (IsSpanOf c.args.bytes.now) c.args.line.now.tokens c.in-Some-of.shape shape c.requires.line.spans).0
