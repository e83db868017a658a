use Rattle.std.proofs.Common.{◌≡◌, ◌<◌, arith, length, refl, Some}
use Rattle.std.specs.Prelude.{slice_get}
use Rattle.std.specs.Int.{w128}
use Rattle.petri_atom.specs.Atom.{definition_of}
use Rattle.petri_atom.specs.Definition.{fired}
use Rattle.petri_atom.proofs.Fitting.{few_transitions}
use Rattle.petri_atom.proofs.Judging.{quiet-movable, quiet-offered}
use Rattle.petri_atom.proofs.Lists.{got-at}
use Rattle.petri_atom.proofs.atom.Atom.is_quiet.Goals as goal

pub index-told-requires : goal.index-told-requires
index-told-requires c =
    let atom = c.args.self.now in
    omega (arith, c.requires, c.from.ensures, atom.told.number, atom.behind.ok.0)

pub returns-clause-movable : goal.returns-clause-movable
returns-clause-movable c quiet before row offered =
    let atom = c.args.self.now in
    let a = definition_of atom in
    let n = c.args.transition in
    let told = c.index-told.result.now in
    let within : c.from.result < length atom.behind.items = omega (arith, c.requires, c.from.ensures, atom.told.number) in
    let got : slice_get atom.behind.items n ≡ Some told =
    got-at atom.behind.items atom.behind.items c.from.result n told refl c.from.ensures within c.index-told.ensures in
    quiet-movable a w128 (few_transitions a atom.well_formed) atom.behind.items atom.told n told got before (fired a n row before) row offered refl quiet

pub returns-clause-offered : goal.returns-clause-offered
returns-clause-offered c quiet before row offered =
    let atom = c.args.self.now in
    let a = definition_of atom in
    let n = c.args.transition in
    let told = c.index-told.result.now in
    let within : c.from.result < length atom.behind.items = omega (arith, c.requires, c.from.ensures, atom.told.number) in
    let got : slice_get atom.behind.items n ≡ Some told =
    got-at atom.behind.items atom.behind.items c.from.result n told refl c.from.ensures within c.index-told.ensures in
    quiet-offered a w128 (few_transitions a atom.well_formed) atom.behind.items atom.told n told got before (fired a n row before) row offered refl quiet
