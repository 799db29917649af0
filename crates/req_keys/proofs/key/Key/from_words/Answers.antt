use Rattle.std.proofs.Common.{ℕ, List, ap, ◌∙◌}
use Rattle.std.proofs.Math.Facts.{Fits-lt-pow}
use Rattle.req_keys.specs.Words.{words_of, key_of_words}
use Rattle.req_keys.proofs.WordLaws.{words_of-key_of_words}
use Rattle.req_keys.proofs.key.Key.from_words.Goals as goal

pub returns-clause-words : goal.returns-clause-words
returns-clause-words c =
    ap (λ (t : List ℕ). words_of (key_of_words c.args.n t)) c.in_ok-words.ensures.items
    ∙ words_of-key_of_words c.args.n c.args.words.now c.requires.row (λ k l. Fits-lt-pow (c.type_inv.words k))
