-- What was told of a key, and what the table of answers has on its set.
use Rattle.std.proofs.Common.{◌≡◌, Bool, true, false, cond, Option, Some, None, [], ◌∷◌, ◌⊎◌, inl, inr, refl, ap, rules}
use Rattle.pref_sets.specs.Answers.{answer_to}
use Rattle.pref_sets.proofs.Plans.{answer_to-first}
use Rattle.req_keys.specs.Key.{PositionSet}
use Rattle.req_keys.specs.KeyEq.{key_eq-same}
use Rattle.req_keys.specs.Order.{key_eq}
use Rattle.req_keys.specs.declared.verdict.Verdict.{Verdict}
use Rattle.req_keys.specs.declared.verdict.Verdict.TheVariants as verdict
use Rattle.script.specs.Job.{Told, answers_of, verdict_in, with_verdict}

later-none : (b sat : Bool) (rest : Option Bool) → cond b (Some sat) rest ≡ None → rest ≡ None
later-none true sat rest e = absurd (cc)
later-none false sat rest e = e

-- the set has no answer: its key wasn't told, or with Limit
pub unanswered : (told : Told) (key : PositionSet) → answer_to (answers_of told) key.members ≡ None → (verdict_in told key ≡ None) ⊎ (verdict_in told key ≡ Some verdict.Limit)
unanswered [] key e = inl refl
unanswered (pair ∷ told) key e = case (λ none. unanswered told key none) (key_eq key pair.0) refl pair.1 e
  where
    first : (sat : Bool) → key ≡ pair.0 → answer_to (record { set = pair.0.members; sat = sat } ∷ answers_of told) key.members ≡ None → ⊥
    first sat same e =
        let there = answer_to-first (record { set = pair.0.members; sat = sat }) (answers_of told) in
        let members : key.members ≡ pair.0.members = ap (λ (k : PositionSet). k.members) same in
        cc

    case : (answer_to (answers_of told) key.members ≡ None → (verdict_in told key ≡ None) ⊎ (verdict_in told key ≡ Some verdict.Limit))
        → (b : Bool) → key_eq key pair.0 ≡ b → (v : Verdict) → answer_to (with_verdict pair.0.members v (answers_of told)) key.members ≡ None
        → (cond b (Some v) (verdict_in told key) ≡ None) ⊎ (cond b (Some v) (verdict_in told key) ≡ Some verdict.Limit)
    case rest true same verdict.Sat e = absurd (first true (key_eq-same key pair.0 same) e)
    case rest true same verdict.Unsat e = absurd (first false (key_eq-same key pair.0 same) e)
    case rest true same verdict.Limit e = inr refl
    case rest false same verdict.Sat e = rest (later-none _ true _ e)
    case rest false same verdict.Unsat e = rest (later-none _ false _ e)
    case rest false same verdict.Limit e = rest e

-- a test that passes finds the first, and else the rest is looked through
pub cases-found : {X : Type 0} (b : Bool) (x y : X) (rest : Option X) → cond b (Some x) rest ≡ Some y → ((b ≡ true) × (x ≡ y)) ⊎ (rest ≡ Some y)
cases-found true x y rest e = let same : x ≡ y = cc in inl (refl, same)
cases-found false x y rest e = inr e

pub key_eq-refl : (a : PositionSet) → key_eq a a ≡ true
key_eq-refl a = search rules
