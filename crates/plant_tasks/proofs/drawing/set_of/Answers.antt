use Rattle.std.proofs.Common.{◌*◌, ◌%◌, ◌^◌, ◌<◌, ◌∙◌, refl, sym, ap, length, arith, false}
use Rattle.std.specs.Prelude.{bit_or}
use Rattle.std.specs.Int.{w64}
use Rattle.std.specs.List.{list_any}
use Rattle.std.specs.Option.{option_map_or}
use Rattle.std.proofs.lemmas.Option.{slice_get_read}
use Rattle.petri_atom.specs.Atom.{definition_of}
use Rattle.petri_atom.specs.Name.{is_same_text}
use Rattle.petri_atom.proofs.Sets.{set_below-zero, set_below-next}
use Rattle.plant_tasks.specs.Drawn.{is_named_in}
use Rattle.plant_tasks.proofs.drawing.set_of.Goals as goal

pub loop-number-init : goal.loop-number-init
loop-number-init c = set_below-zero (is_named_in c.args.names.now c.args.atoms.now)

pub loop-number-preserved : goal.loop-number-preserved
loop-number-preserved c =
    let atoms = c.args.atoms.now in
    let names = c.args.names.now in
    let n = c.loop-number.number in
    let atom = c.index-atoms-number.result in
    let within : n < 64 = omega arith in
    let named = ap (λ o. option_map_or (λ a. list_any (λ name. is_same_text name.now (definition_of a).name) names) o false)
    (slice_get_read atoms (length atoms) n atom refl c.loop-number-test.true c.index-atoms-number.is) ∙ sym c.is_named.ensures in
    ap (λ x. bit_or c.loop-number.set (x * 2 ^ n % 2 ^ 64)) c.from.ensures ∙
    set_below-next w64 n c.loop-number.set (is_named_in names atoms) c.is_named.result within c.loop-number.invariant named
