use Rattle.std.proofs.Common.{◌≡◌, ℕ, List, ap, refl, arith}
use Rattle.std.proofs.Math.Facts.{Fits-lt-pow}
use Rattle.std.proofs.lemmas.Grind.{same_number_lists}
use Rattle.req_keys.specs.Words.{bit_of}
use Rattle.req_keys.proofs.RowLaws.{AreSame-word}
use Rattle.req_keys.proofs.rows.is_same.Goals as goal

pub returns-then-first-j : goal.returns-then-first-j
returns-then-first-j c =
    (λ e. absurd (cc), λ h. absurd (c.if-first-j.true (AreSame-word c.args.first.now c.args.second.now c.loop-j.j _ c.loop-j-test.true (Fits-lt-pow (c.type_inv.first c.loop-j.j)) (Fits-lt-pow (c.type_inv.second c.loop-j.j)) h)))

pub returns : goal.returns
returns c =
    let one : c.args.first.now ≡ c.args.second.now = same_number_lists c.args.first.now c.args.second.now c.requires (λ k l. c.loop-j.invariant k (omega arith)) in
    (λ e i l. ap (λ (t : List ℕ). bit_of t i) one, λ h. refl)
