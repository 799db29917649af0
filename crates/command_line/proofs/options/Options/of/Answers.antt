use Rattle.std.proofs.Common.{◌≡◌, ◌∷◌, List, ℕ, false, true, map, ap, sym, ◌∙◌}
use Rattle.std.specs.Prelude.{codes}
use Rattle.std.specs.Str.{bytes_eq}
use Rattle.std.specs.String.{string_bytes}
use Rattle.command_line.specs.Words.{nothing_chosen, chosen_from}
use Rattle.command_line.specs.inside.Chosen.{chosen}
use Rattle.command_line.proofs.ChosenLemmas.{next, next_certified, one_word, two_more}
use Rattle.command_line.proofs.options.Options.of.Goals as goal

pub options-preserved-then-eq : goal.options-preserved-then-eq
options-preserved-then-eq c =
    let name = c.as_str.result.now in
    let after = map string_bytes c.in-Some.after.now in
    let all : map string_bytes c.options.rest.now ≡ name ∷ after =
    one_word string_bytes c.options.rest.now c.in-Some.after.now c.in-Some.name.now name c.in-Some.ensures.cases.0 c.as_str.ensures.value in
    let is : bytes_eq name (codes "--certify") ≡ true = sym c.eq.ensures ∙ c.if-eq.true in
    record {
      allowed = c.in_ok-options.ensures.allowed;
      chosen = next_certified (chosen c.options.options) (chosen c.in_ok-options.options) name (map string_bytes c.options.rest.now) after
          (chosen_from nothing_chosen (map string_bytes c.args.words.now)) all is c.in_ok-options.ensures.chosen c.options.invariant.chosen;
    }

pub options-preserved : goal.options-preserved
options-preserved c =
    let first = c.as_str.result.now in
    let name = c.as_str-else-eq.result.now in
    let value = c.as_str-else-eq-2.result.now in
    let after = map string_bytes c.in_ok-value.after.now in
    let all : map string_bytes c.options.rest.now ≡ name ∷ value ∷ after =
    two_more string_bytes c.options.rest.now c.in-Some.after.now c.in_ok-value.after.now c.in-Some.name.now c.in_ok-value.value.now name value
    c.in-Some.ensures.cases.0 c.in_ok-value.ensures.cases.0 c.as_str-else-eq.ensures.value c.as_str-else-eq-2.ensures.value in
    let same : name ≡ first = c.as_str-else-eq.ensures.value ∙ sym c.as_str.ensures.value in
    let other : bytes_eq name (codes "--certify") ≡ false = ap (λ (n : List ℕ). bytes_eq n (codes "--certify")) same ∙ sym c.eq.ensures ∙ c.if-eq.false in
    record {
      allowed = c.in_ok-options-2.ensures.allowed;
      chosen = next (chosen c.options.options) (chosen c.in_ok-options-2.options) name value (map string_bytes c.options.rest.now) after
          (chosen_from nothing_chosen (map string_bytes c.args.words.now)) all other c.in_ok-options-2.ensures.chosen c.options.invariant.chosen;
    }
