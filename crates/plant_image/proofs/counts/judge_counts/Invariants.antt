use Rattle.std.proofs.Common.{◌≡◌, map, drop}
use Rattle.petri_atom.specs.Atom.{definition_of}
use Rattle.petri_atom.specs.Definition.{AtomDefinition}
use Rattle.plant_model.specs.Rules.{first_fault_in}
use Rattle.record_replay.specs.Records.{count_of}
use Rattle.plant_image.specs.Faults.{fault_where, is_unaccounted}
use Rattle.plant_image.specs.Reading.{contents_in}
use Rattle.plant_image.specs.declared.fault.ImageFault.TheVariants.{Gap}
use Rattle.plant_image.proofs.counts.judge_counts.Given as goal

-- the whole is the answer for the rest
abbrev pub invariant-loop-number : goal.invariant-loop-number
invariant-loop-number l = first_fault_in (λ atom (a : AtomDefinition). fault_where (is_unaccounted (contents_in l.held) atom (count_of l.counts atom)) (Gap atom)) 0 (map definition_of l.atoms)
    ≡ first_fault_in (λ atom (a : AtomDefinition). fault_where (is_unaccounted (contents_in l.held) atom (count_of l.counts atom)) (Gap atom)) l.number (drop l.number (map definition_of l.atoms))
