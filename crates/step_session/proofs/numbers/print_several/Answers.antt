use Rattle.std.proofs.Common.{◌≡◌, ◌∙◌, ◌-◌, ◌∷◌, ◌++◌, ap, sym, subst, append_assoc, codes, drop, length}
use Rattle.std.specs.Prelude.{OnOk, decimal}
use Rattle.std.specs.List.{range_with_len}
use Rattle.std.specs.Io.KnownBytes.{Appends}
use Rattle.std.proofs.KnownBytes.{Appends-trans}
use Rattle.text_io.proofs.Leading.{printed-last}
use Rattle.step_session.specs.Numbers.{several_text, told_numbers}
use Rattle.step_session.proofs.ToldNumbers.{several-long}
use Rattle.step_session.proofs.numbers.print_several.Goals as goal

pub returns : goal.returns
returns g c =
    let name = c.args.name.now in
    let first = c.args.numbers.first in
    let count = c.args.numbers.end - first in
    let others = drop 1 (range_with_len first count) in
    let told = told_numbers first others in
    let number = decimal c.count-count.result in
    let has = codes " has " ++ (number ++ codes " choices: ") in
    let start = g.W.Write.contents c.args.output.now in
    let named = g.W.Write.contents c.print_text.new.writer in
    let counted = g.W.Write.contents c.write.new.self in
    let now = g.W.Write.contents c.print_numbers.new.output in
    let end = g.W.Write.contents c.end_line.new.writer in
    let many : length (first ∷ others) ≡ c.count-count.result = several-long first count c.requires ∙ sym c.count-count.ensures in
    let said : several_text name first others ≡ name ++ has ++ told ++ codes "\n" =
    ap (λ n. name ++ codes " has " ++ decimal n ++ codes " choices: " ++ told ++ codes "\n") many ∙
    ap (λ text. text ++ told ++ codes "\n") (append_assoc (name ++ codes " has ") number (codes " choices: ") ∙ append_assoc name (codes " has ") (number ++ codes " choices: ")) in
    subst (λ text. OnOk c.end_line.result (Appends start end text)) (sym said)
    (printed-last c.end_line.result start now end (name ++ has ++ told) (codes "\n")
    (Appends-trans start counted now (name ++ has) told (Appends-trans start named counted name has c.in_ok-print_text.ensures c.in_ok-write.ensures.bytes) c.in_ok-print_numbers.ensures) c.end_line.ensures)
