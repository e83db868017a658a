use Rattle.std.proofs.Common.{◌==◌, ◌<◌, ◌∙◌, ap, arith, length, refl, w64}
use Rattle.std.specs.Prelude.{find}
use Rattle.std.proofs.lemmas.Int.{to_z-of_z}
use Rattle.std.proofs.lemmas.List.{get_or_default, take_all}
use Rattle.std.proofs.lemmas.Option.{slice_get_within}
use Rattle.petri_atom.specs.Expression.{tree_of, value_of}
use Rattle.petri_atom.specs.Local.{given}
use Rattle.plant_model.specs.Values.{value_there}
use Rattle.plant_model.proofs.ValueRows.{changed-here, changed-none}
use Rattle.plant_model.proofs.transfers.deliver_one.Goals as goal

pub returns-in-Some-clause-given : goal.returns-in-Some-clause-given
returns-in-Some-clause-given c =
    let delivery = c.args.delivery.now in
    let delivered = c.args.delivered.now in
    let n = c.in-Some.place in
    let found = c.in-Some.ensures.found in
    let within : n < length delivered = omega (arith, slice_get_within c.args.moves.now n found.its found.here, c.requires.few, c.told-delivered) in
    changed-here c.args.moves.now delivery.atom (given delivery.export (value_of (value_there c.args.states.now) (tree_of delivery.value.tree))) delivered n found.its found.here found.same found.first within c.give_at.new.self
    (λ values is.
    c.give_at.ensures ∙ ap (given delivery.export _) (get_or_default delivered n _ c.give_at.new.self within ∙ is) ∙
    ap (λ v. given delivery.export v values) (to_z-of_z w64 c.value-value.result (record { sfits = c.value-value.type_inv }) ∙ c.value-value.ensures))

pub returns-in-Some-clause-place : goal.returns-in-Some-clause-place
returns-in-Some-clause-place c = slice_get_within c.args.moves.now c.in-Some.place c.in-Some.ensures.found.its c.in-Some.ensures.found.here

pub returns-in-None-clause-given : goal.returns-in-None-clause-given
returns-in-None-clause-given c =
    let delivery = c.args.delivery.now in
    let moves = c.args.moves.now in
    changed-none moves delivery.atom (given delivery.export (value_of (value_there c.args.states.now) (tree_of delivery.value.tree))) c.args.delivered.now (length moves) (omega arith)
    (ap (find (λ m. m.atom == delivery.atom)) (take_all (length moves) moves (omega arith)) ∙ c.in-None.ensures.none refl)
