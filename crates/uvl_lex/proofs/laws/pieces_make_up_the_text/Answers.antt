use Rattle.uvl_lex.proofs.CoverLemmas.{pieces_cover}
use Rattle.uvl_lex.proofs.laws.pieces_make_up_the_text.Goals as goal

pub returns : goal.returns
returns c = pieces_cover
