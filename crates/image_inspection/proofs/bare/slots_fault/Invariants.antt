use Rattle.std.proofs.Common.{◌≡◌, ◌-◌, map}
use Rattle.std.specs.List.{range_with_len}
use Rattle.plant_image.specs.Faults.{first_fault}
use Rattle.image_inspection.specs.Verdicts.{bare_atom_fault}
use Rattle.image_inspection.proofs.bare.slots_fault.Given as goal

abbrev pub invariant-loop-atom : goal.invariant-loop-atom
invariant-loop-atom l =
    first_fault (map (bare_atom_fault l.cells) (range_with_len 0 l.atoms)) ≡ first_fault (map (bare_atom_fault l.cells) (range_with_len l.atom (l.atoms - l.atom)))
