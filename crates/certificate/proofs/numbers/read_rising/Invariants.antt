use Rattle.std.proofs.Common.{◌≡◌, ◌++◌, ℕ, List}
use Rattle.std.specs.Option.{option_map}
use Rattle.std.specs.Borrow.{Bor}
use Rattle.certificate.specs.Words.{rising_from, words_of}
use Rattle.certificate.specs.inside.Pieces.{pieces_of}
use Rattle.certificate.proofs.Cuts.{left_of}
use Rattle.certificate.proofs.numbers.read_rising.Given as goal

abbrev pub invariant-words : goal.invariant-words
invariant-words l =
    rising_from 0 l.most (words_of l.list) ≡ option_map (λ ns. l.numbers ++ ns) (rising_from l.low l.most (pieces_of 32 (option_map (λ (x : Bor (List ℕ)). x.now) l.rest)))

abbrev pub decreases-words : goal.decreases-words
decreases-words l = left_of l.rest
