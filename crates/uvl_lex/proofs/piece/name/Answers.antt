use Rattle.std.proofs.Common.{◌≡◌, refl, sym, ◌∙◌, ap}
use Rattle.uvl_lex.specs.inside.Cursors.{left, GoesOn}
use Rattle.uvl_lex.specs.Pieces.{name_kind, name_len, kind_of_word}
use Rattle.uvl_lex.specs.Words.{keyword_of}
use Rattle.uvl_lex.proofs.CursorLemmas.{goes_then, goes_so, bytes_fewer, bytes_passed}
use Rattle.uvl_lex.proofs.PieceLemmas.{piece_is}
use Rattle.uvl_lex.proofs.ScanLemmas.{at_word, word_len}
use Rattle.uvl_lex.proofs.piece.name.Goals as goal
use Rattle.uvl_lex.proofs.piece.name.Goals.{in-Some, in-None}

pub bytes_up_to-requires : goal.bytes_up_to-requires
bytes_up_to-requires c = bytes_fewer (goes_then c.skip.ensures c.skip_while.ensures.after)

passed : (c : goal.Joined-keyword_of) → GoesOn c.args.cursor (name_len (left c.args.cursor)) c.skip_while.result.1
passed c =
    goes_so (goes_then c.skip.ensures c.skip_while.ensures.after) _
    (rw c.skip.ensures.rest (word_len (left c.args.cursor) c.requires))

kind : (c : goal.Joined-keyword_of) → name_kind (left c.args.cursor) ≡ c.match-keyword_of.kind
kind c =
    let word = c.keyword_of.ensures ∙ ap keyword_of (c.bytes_up_to.ensures ∙ bytes_passed (passed c)) in
    elim c.match-keyword_of.branch [
      | in-Some w ↦ ap kind_of_word (sym word ∙ w.in-Some.is) ∙ sym w.kind-is
      | in-None w ↦ ap kind_of_word (sym word ∙ w.in-None.is) ∙ sym w.kind-is
    ]

pub returns : goal.returns
returns c =
    piece_is _ _ _ _ (name_len (left c.args.cursor))
    (at_word (left c.args.cursor) c.requires ∙ rw (kind c) refl) refl (passed c)
