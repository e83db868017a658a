use Rattle.std.proofs.Common.{◌∙◌, sym}
use Rattle.std.proofs.lemmas.List.Folds.{list_all-map}
use Rattle.plant_model.specs.Rules.{is_small_wire}
use Rattle.plant_model.specs.Wire.{wire_of}
use Rattle.plant_model.proofs.rules.are_small.Goals as goal

pub returns : goal.returns
returns c = c.each_is_small.ensures ∙ sym (list_all-map is_small_wire wire_of c.args.wires.now)
