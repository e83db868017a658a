use Rattle.std.proofs.Common.{◌≡◌, ◌≤◌, ◌+◌, ℕ, List, length, map, replicate, take, sym, ◌∙◌, ap, subst, arith, OnOk}
use Rattle.std.proofs.lemmas.List.{length-map, take-replicate}
use Rattle.petri_atom.specs.Atom.{definition_of}
use Rattle.petri_atom.specs.Definition.{AtomDefinition}
use Rattle.petri_atom.specs.Local.{Local}
use Rattle.petri_atom.specs.declared.atom.Atom.{Atom}
use Rattle.disk_model.specs.declared.cells.TheConstants.{BODY}
use Rattle.disk_model.specs.DiskState.{DiskState}
use Rattle.disk_model.specs.Cells.{Leaves}
use Rattle.plant_model.specs.Plant.{PlantDefinition}
use Rattle.plant_model.specs.System.{digest_of, plant_of}
use Rattle.plant_model.specs.declared.limits.TheConstants.{MAX_ATOMS}
use Rattle.plant_image.specs.Standing.{HasRoom, first_counts}
use Rattle.plant_image.proofs.FormattedImages.{first_has_room}
use Rattle.recovery.specs.Writing.{HasWritten, IsWriting}
use Rattle.recovery.proofs.formatting.format_cells.Goals as goal

-- as many counts as atoms, each 0
counts_first : (plant : PlantDefinition) (atoms : List Atom) (counts : List ℕ) → map definition_of atoms ≡ plant.atoms → length plant.atoms ≤ MAX_ATOMS → counts ≡ replicate MAX_ATOMS 0 → take (length atoms) counts ≡ first_counts plant
counts_first plant atoms counts of_plant few none =
    let many : length atoms ≡ length plant.atoms = sym (length-map atoms definition_of) ∙ ap (λ (l : List AtomDefinition). length l) of_plant in
    ap (take (length atoms)) none ∙ take-replicate (length atoms) MAX_ATOMS 0 (omega (arith, many, few)) ∙ ap (λ (k : ℕ). replicate k 0) many

pub write_image-requires-clause-room : goal.write_image-requires-clause-room
write_image-requires-clause-room g c =
    let plant : PlantDefinition = plant_of c.args.system.now in
    subst (λ (counts : List ℕ). HasRoom plant c.args.states.now counts 0) (sym (counts_first plant c.atoms.result.now c.first_counts-counts.result c.atoms.ensures c.keeps_its_rules.ensures.few c.first_counts-counts.ensures))
    (subst (λ (states : List Local). HasRoom plant states (first_counts plant) 0) (sym c.requires.states) (first_has_room plant))

pub returns-clause-stops : goal.returns-clause-stops
returns-clause-stops g c keeps =
    let old : DiskState = c.args.cells.now in
    let new : DiskState = c.write_image.new.cells in
    subst (λ (states : List Local). Leaves (BODY + 1) (IsWriting (plant_of c.args.system.now) (digest_of c.args.system.now) states 0 old) old new) c.requires.states (c.write_image.ensures.stops keeps)

pub returns-clause-formatted : goal.returns-clause-formatted
returns-clause-formatted g c keeps =
    let plant : PlantDefinition = plant_of c.args.system.now in
    let digest : List ℕ = digest_of c.args.system.now in
    let new : DiskState = c.write_image.new.cells in
    subst (λ (states : List Local). OnOk c.write_image.result (HasWritten plant digest c.args.ring states (first_counts plant) 0 new)) c.requires.states
    (subst (λ (counts : List ℕ). OnOk c.write_image.result (HasWritten plant digest c.args.ring c.args.states.now counts 0 new)) (counts_first plant c.atoms.result.now c.first_counts-counts.result c.atoms.ensures c.keeps_its_rules.ensures.few c.first_counts-counts.ensures) (c.write_image.ensures.written keeps))
