use Rattle.std.proofs.Common.{◌≡◌, ◌∙◌, ◌+◌, ◌-◌, ◌++◌, ap, sym, subst, arith, drop, min}
use Rattle.std.specs.Prelude.{OnOk, decimal, flat_map}
use Rattle.std.specs.List.{range_with_len}
use Rattle.std.specs.Io.KnownBytes.{Appends}
use Rattle.std.proofs.KnownBytes.{Appends-trans}
use Rattle.text_io.proofs.Leading.{printed-last}
use Rattle.run_text.specs.declared.choices.TheConstants.{MOST_LISTED}
use Rattle.step_session.specs.Numbers.{dots_text, later_number, told_numbers}
use Rattle.step_session.proofs.ToldNumbers.{told-first, told-more}
use Rattle.step_session.proofs.numbers.print_numbers.Goals as goal

pub loop-number-preserved : goal.loop-number-preserved
loop-number-preserved g c =
    let second = c.args.numbers.first + 1 in
    let number = c.loop-number.number-counter in
    let start = g.W.Write.contents c.write.new.self in
    let new = g.W.Write.contents c.write-in-loop-number.new.self in
    let longer : number + 1 - second ≡ number - second + 1 = omega arith in
    subst (Appends start new)
    (sym (ap (λ n. flat_map later_number (range_with_len second n)) longer ∙ told-more second (number - second) number (omega arith)))
    (Appends-trans start (g.W.Write.contents c.loop-number.output) new (flat_map later_number (range_with_len second (number - second))) (later_number number) c.loop-number.invariant c.in_ok-write-2.ensures.bytes)

pub returns : goal.returns
returns g c =
    let first = c.args.numbers.first in
    let count = c.args.numbers.end - first in
    let others = c.loop-number.number-counter - (first + 1) in
    let told = decimal first ++ flat_map later_number (range_with_len (first + 1) others) in
    let start = g.W.Write.contents c.args.output.now in
    let middle = g.W.Write.contents c.write.new.self in
    let now = g.W.Write.contents c.loop-number.output in
    let end = g.W.Write.contents c.print_dots.new.output in
    let counted : c.count.result ≡ count = c.count.ensures in
    let counted_again : c.count-2.result ≡ count = c.count-2.ensures in
    let most : others + 1 ≡ min count MOST_LISTED = omega arith in
    let said : told_numbers first (drop 1 (range_with_len first count)) ≡ told ++ dots_text c.count-2.result =
    told-first first count others c.requires most ∙ ap (λ k. told ++ dots_text k) (sym counted_again) in
    subst (λ text. OnOk c.print_dots.result (Appends start end text)) (sym said)
    (printed-last c.print_dots.result start now end told (dots_text c.count-2.result)
    (Appends-trans start middle now (decimal first) (flat_map later_number (range_with_len (first + 1) others)) c.in_ok-write.ensures.bytes c.loop-number.invariant) c.print_dots.ensures)
