use Rattle.std.proofs.Common.{◌∙◌, ◌≡◌, rules, sym, true}
use Rattle.std.specs.List.{list_all}
use Rattle.std.proofs.lemmas.Str.Parse.{parse_digits}
use Rattle.plant_words.specs.Numbers.{is_digit}
use Rattle.plant_words.proofs.Decimals.{text_of_digits, bytes_of_text, parsed, own}
use Rattle.plant_words.proofs.numbers.read_decimal.Goals as goal

pub returns-in_err-ok : goal.returns-in_err-ok
returns-in_err-ok c =
    let digits : list_all is_digit c.args.word.now ≡ true = search rules in
    absurd (text_of_digits c.args.word.now _ _ c.from_utf8.result digits c.from_utf8.ensures.cases (sym c.ok.ensures.value ∙ c.in_err-ok.was))

pub returns : goal.returns
returns c =
    let digits : list_all is_digit c.args.word.now ≡ true = search rules in
    let text = bytes_of_text c.args.word.now _ _ c.from_utf8.result c.in_ok-ok.field-0 c.from_utf8.ensures.cases (sym c.ok.ensures.value ∙ c.in_ok-ok.was) in
    c.ok-2.ensures.value ∙ parsed c.args.word.now c.parse.result digits (parse_digits own 64 c.args.word.now c.parse.result (rw text at c.parse.ensures.value.0) digits)
