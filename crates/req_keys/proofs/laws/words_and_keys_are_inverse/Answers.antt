use Rattle.std.proofs.Common.{ℕ, List, ap}
use Rattle.req_keys.specs.Key.{PositionSet}
use Rattle.req_keys.proofs.WordLaws.{words_of-key_of_words, key_of_words-words_of}
use Rattle.req_keys.proofs.laws.words_and_keys_are_inverse.Goals as goal

pub returns-clause-from_words : goal.returns-clause-from_words
returns-clause-from_words c = λ key h.
    let P : List ℕ → PositionSet = λ t. record { n = key.n; members = t } in
    ap P (key_of_words-words_of key.n key.members h.1)

pub returns-clause-words : goal.returns-clause-words
returns-clause-words c = λ n words row small. words_of-key_of_words n words row (λ k l. small k 0 l)
