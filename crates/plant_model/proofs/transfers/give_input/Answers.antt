use Rattle.std.proofs.Common.{◌==◌, ◌<◌, ◌∙◌, ap, arith, length, refl, w64}
use Rattle.std.specs.Prelude.{find}
use Rattle.std.proofs.lemmas.Int.{to_z-of_z}
use Rattle.std.proofs.lemmas.List.{get_or_default, take_all}
use Rattle.std.proofs.lemmas.Option.{slice_get_within}
use Rattle.petri_atom.specs.Local.{given}
use Rattle.plant_model.proofs.ValueRows.{changed-here, changed-none}
use Rattle.plant_model.proofs.transfers.give_input.Goals as goal

pub returns-in-Some : goal.returns-in-Some
returns-in-Some c =
    let input = c.args.input.now in
    let delivered = c.args.delivered.now in
    let n = c.in-Some.place in
    let found = c.in-Some.ensures.found in
    let within : n < length delivered = omega (arith, slice_get_within c.args.moves.now n found.its found.here, c.requires.few, c.told-delivered) in
    changed-here c.args.moves.now input.atom (given input.export c.args.value) delivered n found.its found.here found.same found.first within c.give_at.new.self
    (λ values is.
    c.give_at.ensures ∙ ap (given input.export _) (get_or_default delivered n _ c.give_at.new.self within ∙ is) ∙
    ap (λ v. given input.export v values) (to_z-of_z w64 c.args.value c.ranges.value))

pub returns-in_default : goal.returns-in_default
returns-in_default c =
    let moves = c.args.moves.now in
    changed-none moves c.args.input.now.atom (given c.args.input.now.export c.args.value) c.args.delivered.now (length moves) (omega arith)
    (ap (find (λ m. m.atom == c.args.input.now.atom)) (take_all (length moves) moves (omega arith)) ∙ c.in_default.ensures.none refl)
