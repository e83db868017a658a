use Rattle.std.proofs.Common.{◌≡◌, ◌∙◌, sym, ap, ◌++◌, false, rules, w64, SFits}
use Rattle.std.specs.Fmt.{signed_decimal}
use Rattle.std.proofs.lemmas.Int.{to_z-of_z}
use Rattle.restated_text.specs.Lines.{says_value}
use Rattle.restated_text.proofs.Pieces.{ends_with, valued_pieces}
use Rattle.restated_text.proofs.line.add_variable_line.Goals as goal

pub returns : goal.returns
returns c =
    let fits : SFits w64 c.args.value = search rules in
    let word = c.word_at.result.now in
    let before = c.extend_from_slice-3.new.self.items in
    let fails : says_value c.args.value word ≡ false = sym (ap (λ v. says_value v word) (to_z-of_z w64 c.args.value fits)) ∙ sym c.says_value.ensures ∙ c.if-says_value.false in
    let digits : c.add_number.new.text.items ≡ before ++ signed_decimal c.args.value = c.in_ok-add_number.ensures ∙ ap (λ v. before ++ signed_decimal v) (to_z-of_z w64 c.args.value fits) in
    ends_with c.extend_from_slice-4.result c.extend_from_slice-4.new.self.items c.add_number.new.text.items c.behind_word.result.now _ c.extend_from_slice-4.ensures.items
    (valued_pieces c.args.value c.args.line.now c.args.text.now.items c.behind_name-behind.result.now word c.up_to_name.result.now c.blanks_before.result.now c.behind_word.result.now
    c.extend_from_slice-2.new.self.items before c.add_number.new.text.items
    c.behind_name-behind.ensures.value c.word_at.ensures fails c.up_to_name.ensures c.blanks_before.ensures c.behind_word.ensures.value
    c.in_ok-extend_from_slice.ensures.items c.in_ok-extend_from_slice-2.ensures.items digits)
