-- What was found stays, over more than one step.
use Rattle.std.proofs.Common.{◌≡◌, List, ◌++◌, length, take, drop, sym, ◌∙◌, ap, arith, length-append}
use Rattle.std.proofs.lemmas.List.{take-append-drop, take-append-le}
use Rattle.hs_tree.specs.declared.found.Found.{Found}
use Rattle.hs_tree.specs.inside.Steps.{Grows}

list-more : {X : Type 0} (a b c : List X) → take (length a) b ≡ a → take (length b) c ≡ b → take (length a) c ≡ a
list-more a b c e f =
    let parts : c ≡ b ++ drop (length b) c = sym (take-append-drop (length b) c) ∙ ap (λ (t : List _). t ++ drop (length b) c) f in
    let before : b ≡ a ++ drop (length a) b = sym (take-append-drop (length a) b) ∙ ap (λ (t : List _). t ++ drop (length a) b) e in
    let size : length b ≡ length (a ++ drop (length a) b) = ap (λ (t : List _). length t) before in
    let sum = length-append a (drop (length a) b) in
    ap (take (length a)) parts ∙ take-append-le (length a) b (drop (length b) c) (omega arith) ∙ e

pub grows-more : (a b c : Found) → Grows a b → Grows b c → Grows a c
grows-more a b c h k = record {
  diagnoses = list-more a.diagnoses b.diagnoses c.diagnoses h.diagnoses k.diagnoses;
  conflicts = list-more a.conflicts b.conflicts c.conflicts h.conflicts k.conflicts;
  labels = list-more a.labels b.labels c.labels h.labels k.labels;
}
