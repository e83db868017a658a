use Rattle.std.proofs.Common.{◌≡◌, map}
use Rattle.plant_model.specs.Wire.{wire_of}
use Rattle.plant_text.specs.Parts.{wire_defined}
use Rattle.plant_text.proofs.making.make_wires.Given as goal

-- the connectors so far are those of the drafts so far
abbrev pub invariant-loop-draft : goal.invariant-loop-draft
invariant-loop-draft l = map wire_of l.wires.items ≡ map wire_defined l.yielded
