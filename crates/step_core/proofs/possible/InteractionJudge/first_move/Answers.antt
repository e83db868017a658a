use Rattle.std.proofs.Common.{◌<◌, ◌∙◌, ap, length, get_or, arith}
use Rattle.std.specs.Prelude.{Some}
use Rattle.std.proofs.lemmas.List.{length-map}
use Rattle.std.proofs.lemmas.Option.{slice_get_within}
use Rattle.petri_atom.specs.Atom.{definition_of}
use Rattle.plant_model.proofs.Judging.{atom-at}
use Rattle.step_core.specs.Judges.{judged_atoms}
use Rattle.step_core.proofs.FirstMove.{first-is, its-atom, set-there, some-set}
use Rattle.step_core.proofs.possible.InteractionJudge.first_move.Goals as goal

pub bounds-self-from : goal.bounds-self-from
bounds-self-from c =
    let judged = c.args.self.now in
    let port = c.args.port.now in
    let found = its-atom (judged_atoms judged) judged.states.now port c.requires in
    omega (arith, slice_get_within (judged_atoms judged) port.atom found.0 found.2, length-map judged.atoms.now definition_of, c.from.ensures)

pub set_at-requires : goal.set_at-requires
set_at-requires c =
    let judged = c.args.self.now in
    set-there (judged_atoms judged) judged.states.now c.args.port.now c.requires judged.offers.now.sets judged.exact

pub first_among-requires : goal.first_among-requires
first_among-requires c =
    let judged = c.args.self.now in
    let port = c.args.port.now in
    let item = get_or judged.atoms.now c.from.result c.index-self-from.result in
    let found = its-atom (judged_atoms judged) judged.states.now port c.requires in
    let within : c.from.result < length judged.atoms.now = omega (arith, slice_get_within (judged_atoms judged) port.atom found.0 found.2, length-map judged.atoms.now definition_of, c.from.ensures) in
    let known = atom-at judged.atoms.now c.from.result port.atom c.index-self-from.result c.from.ensures within c.index-self-from.is in
    record {
      some = some-set (judged_atoms judged) judged.states.now port c.requires judged.offers.now.sets judged.exact c.set_at.result c.set_at.ensures
          (definition_of item) (known ∙ ap (λ x. Some (definition_of x)) c.index-self-from.is);
    }

pub returns : goal.returns
returns c =
    let judged = c.args.self.now in
    let port = c.args.port.now in
    let item = get_or judged.atoms.now c.from.result c.index-self-from.result in
    let found = its-atom (judged_atoms judged) judged.states.now port c.requires in
    let within : c.from.result < length judged.atoms.now = omega (arith, slice_get_within (judged_atoms judged) port.atom found.0 found.2, length-map judged.atoms.now definition_of, c.from.ensures) in
    let known = atom-at judged.atoms.now c.from.result port.atom c.index-self-from.result c.from.ensures within c.index-self-from.is in
    first-is (judged_atoms judged) judged.states.now port c.requires judged.offers.now.sets judged.exact c.set_at.result c.set_at.ensures
    (definition_of item) (known ∙ ap (λ x. Some (definition_of x)) c.index-self-from.is) c.first_among.result c.first_among.ensures
