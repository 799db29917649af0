-- A text that is put piece by piece.
use Rattle.std.proofs.Common.{◌≡◌, ℕ, ◌+◌, ◌≤◌, List, ◌++◌, length, take, drop, Some, None, append_assoc, arith, sym, ap, subst, ◌∙◌}
use Rattle.std.specs.Prelude.{Option, option_map}
use Rattle.std.proofs.lemmas.List.{take-take, length-take-le, length-drop}
use Rattle.std.proofs.Math.Seq.{take-add}
use Rattle.diag_base.specs.Sink.{Gains, GainsPart}

-- two pieces in a row are one
pub gains_more : (a b : List ℕ) (x y z : Option (List ℕ)) → Gains a x y → Gains b y z → Gains (a ++ b) x z
gains_more a b None y z p q = q ∙ ap (option_map (λ (w : List ℕ). w ++ b)) p
gains_more a b (Some w) y z p q = q ∙ ap (option_map (λ (w : List ℕ). w ++ b)) p ∙ ap Some (append_assoc w a b)

-- the text up to a place, and the first bytes of what is left from there on, are the text up to a later place
pub gains_on : (text rest : List ℕ) (done more : ℕ) (x y z : Option (List ℕ)) → rest ≡ drop done text → Gains (take done text) x y → Gains (take more rest) y z → Gains (take (done + more) text) x z
gains_on text rest done more x y z left p q =
    let same : take done text ++ take more rest ≡ take (done + more) text = ap (λ (r : List ℕ). take done text ++ take more r) left ∙ sym (take-add done more text) in
    subst (λ (t : List ℕ). Gains t x z) same (gains_more (take done text) (take more rest) x y z p q)

-- of a piece that begins what is left, a part was put
pub gains_part : (text rest : List ℕ) (done size : ℕ) (x y z : Option (List ℕ)) → done ≤ length text → rest ≡ drop done text → size ≤ length rest → Gains (take done text) x y → GainsPart (take size rest) y z → GainsPart text x z
gains_part text rest done size x y z inside left fits p (taken, few, q) =
    let within : taken ≤ size = omega (arith, few, length-take-le size rest fits) in
    let long : length rest + done ≡ length text = omega (arith, ap length left, length-drop done text) in
    let q' : Gains (take taken rest) y z = subst (λ (t : List ℕ). Gains t y z) (take-take taken size rest within) q in
    (done + taken, omega arith, gains_on text rest done taken x y z left p q')
