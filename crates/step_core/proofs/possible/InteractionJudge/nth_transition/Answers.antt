use Rattle.std.proofs.Common.{[], ◌∙◌, ap, sym, map, refl, get_or}
use Rattle.std.specs.Prelude.{None, option_map, slice_get}
use Rattle.std.proofs.lemmas.Option.{slice_get-map}
use Rattle.petri_atom.specs.Atom.{definition_of}
use Rattle.petri_atom.specs.Definition.{enabled}
use Rattle.plant_model.specs.Choice.{move_of}
use Rattle.plant_model.proofs.Judging.{atom-there, of_atom-there, of_atom-past}
use Rattle.step_core.proofs.possible.InteractionJudge.nth_transition.Goals as goal

pub returns-in-Some : goal.returns-in-Some
returns-in-Some c =
    let judged = c.args.self.now in
    let there = c.in-Some.ensures.lookup in
    let port = c.args.port.now in
    let n = c.from.result in
    let atom = c.in-Some.atom.now in
    of_atom-there judged.atoms.now judged.states.now n port.atom c.from.ensures (λ a s. map (move_of port.atom) (enabled a s port.port)) [] (λ xs. slice_get xs c.args.place) (option_map (move_of port.atom) c.nth_among.result) atom there.3.0 there.1 judged.as_many
    (λ s known. ap (option_map (move_of port.atom)) (c.nth_among.ensures s
    (c.set_of.ensures ∙ ap (λ k. get_or judged.offers.now.sets k 0) (sym c.from.ensures) ∙ judged.exact n (definition_of atom) s (atom-there judged.atoms.now n atom there.3.0 there.1) known)) ∙
    sym (slice_get-map (move_of port.atom) (enabled (definition_of atom) s port.port) c.args.place))

pub returns-in-None : goal.returns-in-None
returns-in-None c =
    let judged = c.args.self.now in
    let port = c.args.port.now in
    of_atom-past judged.atoms.now judged.states.now c.from.result port.atom c.from.ensures (λ a s. map (move_of port.atom) (enabled a s port.port)) [] (λ xs. slice_get xs c.args.place) None c.in-None.ensures.lookup.3 refl
