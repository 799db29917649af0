-- Where something is asked there is a set that is.
use Rattle.std.proofs.Common.{◌≡◌, ℕ, List, refl}
use Rattle.pref_sets.specs.Answers.{Next, Ask, Done, IsAsking}

pub asked-set : (next : Next) → IsAsking next → (set : List ℕ) × (next ≡ Ask set)
asked-set (Ask set) h = (set, refl)
asked-set (Done found) h = absurd h
