use Rattle.std.proofs.Common.{◌≡◌, ◌-◌, ◌<◌, ◌∙◌, ◌++◌, ap, subst, arith, length, take, min}
use Rattle.std.specs.Prelude.{OnOk}
use Rattle.std.specs.Io.KnownBytes.{Appends}
use Rattle.plant_model.specs.System.{plant_of}
use Rattle.run_text.specs.declared.choices.TheConstants.{MOST_LISTED}
use Rattle.run_text.specs.Choices.{choice_text, choices_text, more_text}
use Rattle.text_io.specs.Numbered.{numbered}
use Rattle.text_io.proofs.Leading.{printed-last}
use Rattle.run_text.proofs.Listed.{choices-listed}
use Rattle.run_text.proofs.choices.print_choices.Goals as goal

pub returns : goal.returns
returns g c =
    let plant = plant_of c.args.system.now in
    let all = g.L.Listed.listed c.args.run.now in
    let start = g.W.Write.contents c.args.output.now in
    let after = g.W.Write.contents c.print_more.new.output in
    let count : c.how_many-count.result ≡ length all = c.how_many-count.ensures in
    let some : 0 < length all = omega arith in
    let listed : c.min-listed.result ≡ min MOST_LISTED (length all) = omega arith in
    let rest : c.how_many-count.result - c.from-2.result ≡ length all - min MOST_LISTED (length all) = omega arith in
    let same : numbered (choice_text plant) 0 (take c.min-listed.result all) ++ more_text (c.how_many-count.result - c.from-2.result) ≡ choices_text plant all =
    ap (λ n. numbered (choice_text plant) 0 (take n all) ++ more_text (c.how_many-count.result - c.from-2.result)) listed ∙
    ap (λ more. numbered (choice_text plant) 0 (take (min MOST_LISTED (length all)) all) ++ more_text more) rest ∙ choices-listed plant all some in
    subst (λ text. OnOk c.print_more.result (Appends start after text)) same (printed-last c.print_more.result start _ after _ _ c.in_ok-print_listed.ensures c.print_more.ensures)
