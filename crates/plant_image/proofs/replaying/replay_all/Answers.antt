use Rattle.std.proofs.Common.{◌≡◌, ◌<◌, ◌≤◌, ◌+◌, ℕ, true, List, length, set, Some, Result, Ok, get_or, slice_get, sym, ◌∙◌, ap, subst, arith, refl}
use Rattle.std.proofs.lemmas.Option.{slice_get_within}
use Rattle.std.proofs.lemmas.Result.{err_from_is_err_and}
use Rattle.std.proofs.lemmas.List.{length-map, get_or_default}
use Rattle.petri_atom.specs.Atom.{definition_of}
use Rattle.petri_atom.specs.Definition.{AtomDefinition}
use Rattle.petri_atom.specs.Local.{Local}
use Rattle.record_codec.specs.Fired.{FiredFields}
use Rattle.record_codec.specs.Saved.{SavedFields}
use Rattle.record_replay.specs.Parts.{AreParts}
use Rattle.record_replay.specs.Replay.{Position, replay_from}
use Rattle.record_replay.specs.declared.fault.ReplayFault.{ReplayFault}
use Rattle.snapshot_writer.specs.Parcels.{local_in}
use Rattle.plant_model.specs.Plant.{PlantDefinition}
use Rattle.plant_model.specs.System.{plant_of}
use Rattle.plant_model.specs.declared.limits.TheConstants.{MAX_ATOMS}
use Rattle.plant_image.specs.Contents.{unsaved, replayed}
use Rattle.plant_image.specs.Faults.{is_of_atom, fault_of_replay}
use Rattle.plant_image.specs.Reading.{IsFault, contents_in}
use Rattle.plant_image.proofs.FirstFault.{told_first, mapped_at}
use Rattle.plant_image.proofs.SoFar.{SoFar, ends_told, none_so_far, so_far_more, told_of_atom}
use Rattle.plant_image.proofs.replaying.replay_all.Goals as goal

pub loop-number-init : goal.loop-number-init
loop-number-init c = none_so_far (plant_of c.args.system.now) (contents_in c.args.held) c.in_ok-states.states c.in_ok-states.ensures.of_plant c.in_ok-states.ensures.fits

-- replay from the slot is that of what was read
replayed_is : (n : ℕ) (a : AtomDefinition) (slots : List SavedFields) (records : List FiredFields) (saved : SavedFields) (over : List FiredFields) → saved ≡ get_or slots n (unsaved n) → over ≡ records
    → replay_from a n (record { state = local_in saved; count = saved.count }) over ≡ replay_from a n (record { state = local_in (get_or slots n (unsaved n)); count = (get_or slots n (unsaved n)).count }) records
replayed_is n a slots records saved over is are = ap (λ (s : SavedFields). replay_from a n (record { state = local_in s; count = s.count }) over) is ∙ ap (replay_from a n (record { state = local_in (get_or slots n (unsaved n)); count = (get_or slots n (unsaved n)).count })) are

pub replay_saved-requires-clause-of_atom : goal.replay_saved-requires-clause-of_atom
replay_saved-requires-clause-of_atom c =
    let n : ℕ = c.loop-number.number in
    let slots : List SavedFields = c.args.held.slots.items in
    let at : slice_get (plant_of c.args.system.now).atoms n ≡ Some (definition_of c.atom-item.result) = ap (λ (l : List AtomDefinition). slice_get l n) (sym c.atoms-atom-items.ensures) ∙ mapped_at definition_of c.atoms-atom-items.result.now n c.atom-item.result c.atom-item.is c.loop-number-test.true in
    let within : n < length slots = omega (arith, c.requires.as_many, slice_get_within (plant_of c.args.system.now).atoms n (definition_of c.atom-item.result) at) in
    let is : get_or slots n (unsaved n) ≡ c.index-saved.result.now = get_or_default slots n (unsaved n) c.index-saved.result.now within ∙ sym c.index-saved.ensures in
    subst (λ (s : SavedFields). is_of_atom n (definition_of c.atom-item.result) s ≡ true) is (c.requires.of_atoms n (definition_of c.atom-item.result) at)

pub replay_saved-requires-clause-parts : goal.replay_saved-requires-clause-parts
replay_saved-requires-clause-parts c =
    subst (AreParts c.deref-in-loop-number.result.now) (sym c.deref-in-loop-number-2.ensures.value)
    (subst (λ (rs : List FiredFields). AreParts rs c.in_ok-parts.parts.items) (c.deref.ensures.value ∙ sym c.deref-in-loop-number.ensures.value) c.in_ok-parts.ensures)

pub returns-in_err-reached : goal.returns-in_err-reached
returns-in_err-reached c =
    let p = err_from_is_err_and c.from_residual-in_err-reached.result c.from_residual-in_err-reached.ensures.1 in
    let n : ℕ = c.loop-number.number in
    let plant : PlantDefinition = plant_of c.args.system.now in
    let a : AtomDefinition = definition_of c.atom-item.result in
    let slots : List SavedFields = c.args.held.slots.items in
    let at : slice_get plant.atoms n ≡ Some a = ap (λ (l : List AtomDefinition). slice_get l n) (sym c.atoms-atom-items.ensures) ∙ mapped_at definition_of c.atoms-atom-items.result.now n c.atom-item.result c.atom-item.is c.loop-number-test.true in
    let within : n < length slots = omega (arith, c.requires.as_many, slice_get_within plant.atoms n a at) in
    let is : c.index-saved.result.now ≡ get_or slots n (unsaved n) = c.index-saved.ensures ∙ get_or_default slots n c.index-saved.result.now (unsaved n) within in
    rw (p.1, p.2) (told_first (fault_of_replay n (replayed (contents_in c.args.held) n a)) _ _ _
    (told_of_atom plant (contents_in c.args.held) n c.loop-number.states c.loop-number.counts c.loop-number.invariant a at)
    (subst (λ (r : Result Position ReplayFault). IsFault (fault_of_replay n r) c.in_err-reached.field-0.0) (replayed_is n a slots c.args.held.records.items c.index-saved.result.now c.deref-in-loop-number.result.now is c.deref-in-loop-number.ensures.value) c.in_err-reached.ensures.reached))

pub loop-number-preserved : goal.loop-number-preserved
loop-number-preserved c =
    let n : ℕ = c.loop-number.number in
    let plant : PlantDefinition = plant_of c.args.system.now in
    let a : AtomDefinition = definition_of c.atom-item.result in
    let slots : List SavedFields = c.args.held.slots.items in
    let end : Position = record { state = c.in_ok-reached.reached.state; count = c.in_ok-reached.reached.count } in
    let at : slice_get plant.atoms n ≡ Some a = ap (λ (l : List AtomDefinition). slice_get l n) (sym c.atoms-atom-items.ensures) ∙ mapped_at definition_of c.atoms-atom-items.result.now n c.atom-item.result c.atom-item.is c.loop-number-test.true in
    let within : n < length slots = omega (arith, c.requires.as_many, slice_get_within plant.atoms n a at) in
    let is : c.index-saved.result.now ≡ get_or slots n (unsaved n) = c.index-saved.ensures ∙ get_or_default slots n c.index-saved.result.now (unsaved n) within in
    let ends : replayed (contents_in c.args.held) n a ≡ Ok end = sym (replayed_is n a slots c.args.held.records.items c.index-saved.result.now c.deref-in-loop-number.result.now is c.deref-in-loop-number.ensures.value) ∙ c.in_ok-reached.ensures.reached.1 in
    let few : length plant.atoms ≤ MAX_ATOMS = c.keeps_its_rules.ensures.few in
    let far : SoFar plant (contents_in c.args.held) (n + 1) (set c.loop-number.states n c.in_ok-reached.reached.state) (set c.loop-number.counts n c.in_ok-reached.reached.count) = so_far_more plant (contents_in c.args.held) n c.loop-number.states c.loop-number.counts c.loop-number.invariant a at few end ends c.in_ok-reached.ensures.fits in
    subst (λ (s : List Local). SoFar plant (contents_in c.args.held) (n + 1) s (set c.loop-number.counts n c.in_ok-reached.reached.count)) (sym c.set.ensures) far

pub returns : goal.returns
returns c =
    let plant : PlantDefinition = plant_of c.args.system.now in
    let all : c.loop-number.number ≡ length plant.atoms = omega (arith, ap (λ (l : List AtomDefinition). length l) c.atoms-atom-items.ensures, length-map c.atoms-atom-items.result.now definition_of) in
    ends_told plant (contents_in c.args.held) c.loop-number.number c.loop-number.states c.loop-number.counts c.loop-number.invariant all _ refl refl refl
