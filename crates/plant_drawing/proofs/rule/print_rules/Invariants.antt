-- The writer took each rule so far that is drawn.
use Rattle.std.proofs.Common.{take}
use Rattle.std.specs.Prelude.{flat_map}
use Rattle.std.specs.Io.KnownBytes.{Appends}
use Rattle.plant_model.specs.System.{plant_of}
use Rattle.plant_drawing.specs.Rule.{drawn_rule}
use Rattle.plant_drawing.proofs.rule.print_rules.Given as goal

abbrev pub invariant-loop-rule : goal.invariant-loop-rule
invariant-loop-rule g l =
    Appends (g.W.Write.contents l.initial.output) (g.W.Write.contents l.output) (flat_map (drawn_rule l.label l.drawn (plant_of l.system)) (take l.rule-index l.rules))
