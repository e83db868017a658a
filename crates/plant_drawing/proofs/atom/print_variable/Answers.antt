use Rattle.std.proofs.Common.{◌∙◌, subst, w64, SFits, rules, OnOk}
use Rattle.std.specs.Fmt.{signed_decimal}
use Rattle.std.specs.Io.KnownBytes.{Appends}
use Rattle.std.proofs.KnownBytes.{Appends-trans}
use Rattle.std.proofs.lemmas.Int.{to_z-of_z}
use Rattle.petri_atom.specs.Local.{value_in}
use Rattle.text_io.proofs.Leading.{printed-last}
use Rattle.plant_drawing.proofs.atom.print_variable.Goals as goal

pub returns : goal.returns
returns g c =
    let begun = g.W.Write.contents c.print_text.new.writer in
    let named = g.W.Write.contents c.print_text-2.new.writer in
    let assigned = g.W.Write.contents c.print_text-3.new.writer in
    let after = g.W.Write.contents c.print_signed.new.writer in
    let value = value_in c.args.values.now c.args.number in
    let printed = c.value_at.result in
    let fits : SFits w64 printed = search rules in
    let name : Appends begun named c.args.variable.now.name = subst (Appends begun named) c.as_bytes.ensures c.in_ok-print_text-2.ensures in
    let last : OnOk c.print_signed.result (Appends assigned after (signed_decimal value)) =
    subst (λ z. OnOk c.print_signed.result (Appends assigned after (signed_decimal z))) (to_z-of_z w64 printed fits ∙ c.value_at.ensures) c.print_signed.ensures in
    printed-last c.print_signed.result (g.W.Write.contents c.args.output.now) assigned after _ (signed_decimal value)
    (Appends-trans _ _ _ _ _ (Appends-trans _ _ _ _ _ (c.in_ok-print_text.ensures) name) c.in_ok-print_text-3.ensures) last
