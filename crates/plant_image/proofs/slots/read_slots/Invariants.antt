use Rattle.std.proofs.Common.{◌≡◌, map, drop, length, vec_len, vec_capacity}
use Rattle.std.specs.List.{range_with_len}
use Rattle.petri_atom.specs.Atom.{definition_of}
use Rattle.plant_model.specs.Rules.{first_fault_in}
use Rattle.plant_image.specs.Contents.{newest_held}
use Rattle.plant_image.specs.Faults.{atom_fault}
use Rattle.plant_image.proofs.slots.read_slots.Given as goal

-- the whole is what was read, and the answer for the rest
abbrev pub invariant-loop-number : goal.invariant-loop-number
invariant-loop-number l = record {
  room : vec_capacity l.slots ≡ length l.atoms;
  long : vec_len l.slots ≡ l.number;
  read : l.slots.items ≡ map (newest_held l.cells) (range_with_len 0 l.number);
  rest : first_fault_in (atom_fault l.cells) 0 (map definition_of l.atoms) ≡ first_fault_in (atom_fault l.cells) l.number (drop l.number (map definition_of l.atoms));
}
