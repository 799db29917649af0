use Rattle.std.proofs.Common.{◌≡◌, ◌+◌, drop, refl, ◌∙◌, ap, arith}
use Rattle.std.specs.List.{prefix_len}
use Rattle.uvl_lex.specs.inside.Classes.{is_plain}
use Rattle.uvl_lex.specs.inside.Cursors.{left}
use Rattle.uvl_lex.specs.declared.piece.Piece.TheVariants.{Lexeme}
use Rattle.uvl_lex.specs.Pieces.{first, first_piece, inside_len, is_inside, quote}
use Rattle.uvl_lex.proofs.CursorLemmas.{goes_then}
use Rattle.uvl_lex.proofs.PieceLemmas.{piece_is}
use Rattle.uvl_lex.proofs.ScanLemmas.{plain_len, more_len, double_name, double_text, double_open, inside_is}
use Rattle.uvl_lex.proofs.piece.double_quoted.Goals as goal
use Rattle.uvl_lex.proofs.piece.double_quoted.Goals.{then-plain-gt0+then-more-eq0, else-plain-gt0, else-plain-gt0-via-then-plain-gt0+else-more-eq0, else-plain-gt0-via-else-plain-gt0}

pub returns-then-first-ne34 : goal.returns-then-first-ne34
returns-then-first-ne34 c =
    piece_is _ _ _ 1 1
    (double_open (left c.args.cursor) c.requires
    (rw (c.first.ensures, c.skip_while-more.ensures.after.rest, c.skip_while-plain.ensures.after.rest, c.skip-inside.ensures.rest) at c.if-first-ne34.true))
    refl c.skip-inside.ensures

-- the counts of the code
plain_is : (c : goal.After-skip) → c.skip_while-plain.result.0 ≡ plain_len (drop 1 (left c.args.cursor))
plain_is c = c.skip_while-plain.ensures.count ∙ ap plain_len c.skip-inside.ensures.rest

more_is : (c : goal.After-skip) → c.skip_while-more.result.0 ≡ more_len (drop 1 (left c.args.cursor))
more_is c =
    c.skip_while-more.ensures.count ∙ rw (c.skip_while-plain.ensures.after.rest, c.skip-inside.ensures.rest) refl

piece : (c : goal.After-skip) → first_piece (left c.args.cursor) ≡ (Lexeme c.if-plain-gt0.kind, inside_len quote (left c.args.cursor) + 2)
piece c =
    let end : first (drop (more_len (drop 1 (left c.args.cursor))) (drop (plain_len (drop 1 (left c.args.cursor))) (drop 1 (left c.args.cursor)))) ≡ quote
    = rw (c.first.ensures, c.skip_while-more.ensures.after.rest, c.skip_while-plain.ensures.after.rest, c.skip-inside.ensures.rest) at c.if-first-ne34.false in
    let plain = plain_is c in
    let more = more_is c in
    elim c.if-plain-gt0.branch [
      | then-plain-gt0+then-more-eq0 w ↦
          rw w.kind-is (double_name (left c.args.cursor) c.requires end (rw plain at w.if-plain-gt0.true) (rw more at w.if-more-eq0.true))
      | else-plain-gt0 w ↦
          rw w.kind-is (double_text (left c.args.cursor) c.requires end (λ both.
          elim w.else-plain-gt0.branch [
            | else-plain-gt0-via-then-plain-gt0+else-more-eq0 v ↦ v.if-more-eq0.false (more ∙ both.1)
            | else-plain-gt0-via-else-plain-gt0 v ↦ let no = v.if-plain-gt0.false in let yes = both.0 in absurd (omega arith)
          ]))
    ]

pub returns : goal.returns
returns c =
    let n = inside_is (left c.args.cursor) in
    let plain : prefix_len is_plain (left c.skip-inside.result) ≡ plain_len (drop 1 (left c.args.cursor)) = ap plain_len c.skip-inside.ensures.rest in
    let more : prefix_len (is_inside quote) (left c.skip_while-plain.result.1) ≡ more_len (drop 1 (left c.args.cursor))
    = rw (c.skip_while-plain.ensures.after.rest, c.skip-inside.ensures.rest) refl in
    piece_is _ _ _ _ _ (piece c) (omega arith)
    (goes_then (goes_then (goes_then c.skip-inside.ensures c.skip_while-plain.ensures.after) c.skip_while-more.ensures.after) c.skip.ensures)
