use Rattle.std.proofs.Common.{◌≡◌, ◌≤◌, true, length, ap, ◌∙◌, sym, arith}
use Rattle.std.specs.Result.{result_ok}
use Rattle.std.specs.Str.{all_ascii_digits}
use Rattle.command_line.specs.Numbers.{is_plain}
use Rattle.command_line.proofs.NumbersLemmas.{parsed, is_number_from}
use Rattle.command_line.proofs.number.number_of.Goals as goal

pub returns-then-are_digits : goal.returns-then-are_digits
returns-then-are_digits c =
    let word = c.args.word.now in
    let short : length word ≤ 13 = omega arith in
    let plain : is_plain word ≡ true = (cc) in
    let digits : all_ascii_digits word ≡ true = (cc) in
    c.ok.ensures.value ∙ ap result_ok (parsed word c.parse.result short plain digits c.parse.ensures.value.0)
    ∙ sym (is_number_from word short plain digits)
