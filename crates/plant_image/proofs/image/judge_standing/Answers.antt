use Rattle.std.proofs.Common.{◌≡◌, ℕ, List, length, map, Option, None, sym, ◌∙◌, ap}
use Rattle.std.proofs.lemmas.List.{length-map}
use Rattle.std.proofs.lemmas.Result.{err_from_is_err_and}
use Rattle.petri_atom.specs.Atom.{definition_of}
use Rattle.petri_atom.specs.Definition.{AtomDefinition}
use Rattle.record_replay.specs.Records.{count_of}
use Rattle.plant_model.specs.Plant.{PlantDefinition}
use Rattle.plant_model.specs.Rules.{first_fault_in}
use Rattle.plant_model.specs.System.{plant_of}
use Rattle.plant_image.specs.Contents.{Contents}
use Rattle.plant_image.specs.Faults.{fault_where, count_fault, is_unaccounted, replay_fault}
use Rattle.plant_image.specs.Reading.{contents_in}
use Rattle.plant_image.specs.declared.fault.ImageFault.{ImageFault}
use Rattle.plant_image.specs.declared.fault.ImageFault.TheVariants.{Gap}
use Rattle.plant_image.proofs.CountFaults.{counts_told}
use Rattle.plant_image.proofs.WholeImage.{second_is, told_of_same}
use Rattle.plant_image.proofs.image.judge_standing.Goals as goal

pub judge_counts-requires-clause-slots : goal.judge_counts-requires-clause-slots
judge_counts-requires-clause-slots c = c.requires.sound.as_many ∙ sym (ap (λ (l : List AtomDefinition). length l) c.atoms.ensures) ∙ length-map c.atoms.result.now definition_of

pub returns-in_err-judge_counts : goal.returns-in_err-judge_counts
returns-in_err-judge_counts c =
    let p = err_from_is_err_and c.from_residual.result c.from_residual.ensures.1 in
    let plant : PlantDefinition = plant_of c.args.system.now in
    let held : Contents = contents_in c.args.standing.held in
    let tell : ℕ → AtomDefinition → Option ImageFault = λ atom a. fault_where (is_unaccounted held atom (count_of c.args.standing.counts atom)) (Gap atom) in
    let none : first_fault_in (replay_fault held) 0 plant.atoms ≡ None = c.requires.none in
    let same : first_fault_in tell 0 (map definition_of c.atoms.result.now) ≡ first_fault_in (count_fault held) 0 plant.atoms = ap (first_fault_in tell 0) c.atoms.ensures ∙ counts_told plant held none c.args.standing.counts c.requires.led.counts in
    rw (p.1, p.2) (told_of_same (first_fault_in tell 0 (map definition_of c.atoms.result.now)) _ _
    (second_is (first_fault_in (replay_fault held) 0 plant.atoms) (first_fault_in (count_fault held) 0 plant.atoms) none ∙ sym same)
    c.in_err-judge_counts.ensures)

pub returns : goal.returns
returns c =
    let plant : PlantDefinition = plant_of c.args.system.now in
    let held : Contents = contents_in c.args.standing.held in
    let tell : ℕ → AtomDefinition → Option ImageFault = λ atom a. fault_where (is_unaccounted held atom (count_of c.args.standing.counts atom)) (Gap atom) in
    let none : first_fault_in (replay_fault held) 0 plant.atoms ≡ None = c.requires.none in
    let same : first_fault_in tell 0 (map definition_of c.atoms.result.now) ≡ first_fault_in (count_fault held) 0 plant.atoms = ap (first_fault_in tell 0) c.atoms.ensures ∙ counts_told plant held none c.args.standing.counts c.requires.led.counts in (
      second_is (first_fault_in (replay_fault held) 0 plant.atoms) (first_fault_in (count_fault held) 0 plant.atoms) none ∙ sym same ∙ c.in_ok-judge_counts.ensures.0,
      c.requires.led,
    )
