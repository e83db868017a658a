use Rattle.std.proofs.Common.{◌≡◌, ◌<◌, ℕ, true, sym, ◌∙◌, ap, subst, List, length, get_or, arith, Some}
use Rattle.std.specs.Prelude.{slice_get}
use Rattle.std.proofs.lemmas.List.{get_or_default, length-map}
use Rattle.petri_atom.specs.Atom.{definition_of}
use Rattle.petri_atom.specs.Definition.{AtomDefinition}
use Rattle.record_codec.specs.Fired.{FiredFields}
use Rattle.record_codec.specs.Saved.{SavedFields}
use Rattle.record_replay.specs.Parts.{AreParts}
use Rattle.plant_model.specs.System.{plant_of}
use Rattle.plant_image.specs.Contents.{unsaved}
use Rattle.plant_image.specs.Faults.{is_of_atom}
use Rattle.plant_image.proofs.FirstFault.{mapped_at}
use Rattle.parallel_replay.proofs.share.replay_own.Goals as goal

pub replay_saved-requires-clause-of_atom : goal.replay_saved-requires-clause-of_atom
replay_saved-requires-clause-of_atom g c =
    let n : ℕ = c.args.number in
    let slots : List SavedFields = c.args.held.now.slots.items in
    let atoms = (plant_of c.args.system.now).atoms in
    let below : n < length c.atoms.result.now = omega (arith, ap (λ (l : List AtomDefinition). length l) c.atoms.ensures, length-map c.atoms.result.now definition_of, c.requires.there) in
    let at : slice_get atoms n ≡ Some (definition_of c.index-atoms-number.result) = ap (λ (l : List AtomDefinition). slice_get l n) (sym c.atoms.ensures) ∙ mapped_at definition_of c.atoms.result.now n c.index-atoms-number.result c.index-atoms-number.is below in
    let within : n < length slots = omega (arith, c.requires.sound.as_many, c.requires.there) in
    let is : get_or slots n (unsaved n) ≡ c.index.result.now = get_or_default slots n (unsaved n) c.index.result.now within ∙ sym c.index.ensures in
    subst (λ (s : SavedFields). is_of_atom n (definition_of c.index-atoms-number.result) s ≡ true) is (c.requires.sound.of_atoms n (definition_of c.index-atoms-number.result) at)

pub replay_saved-requires-clause-parts : goal.replay_saved-requires-clause-parts
replay_saved-requires-clause-parts g c = subst (λ (rs : List FiredFields). AreParts rs c.args.parts.now) (sym c.deref.ensures.value) c.requires.parts
