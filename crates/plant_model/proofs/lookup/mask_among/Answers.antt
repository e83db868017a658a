use Rattle.std.proofs.Common.{◌∙◌, ap, sym}
use Rattle.std.specs.Prelude.{option_map}
use Rattle.plant_model.specs.Interaction.{interaction_of}
use Rattle.plant_model.specs.Lookup.{is_of_atoms}
use Rattle.plant_model.proofs.Found.{found-now, found-later}
use Rattle.plant_model.proofs.lookup.mask_among.Goals as goal

pub returns-then-is_of_atoms : goal.returns-then-is_of_atoms
returns-then-is_of_atoms c =
    sym (sym c.loop-interaction.invariant ∙
    ap (option_map (λ i. i.mask)) (found-now (is_of_atoms c.args.connector c.args.atoms.now) interaction_of c.args.interactions.now c.loop-interaction.interaction-index c.interaction-item.result c.loop-interaction-test.true c.interaction-item.is
    (sym c.is_of_atoms.ensures ∙ c.if-is_of_atoms.true)))

pub loop-interaction-preserved : goal.loop-interaction-preserved
loop-interaction-preserved c =
    ap (option_map (λ i. i.mask)) (found-later (is_of_atoms c.args.connector c.args.atoms.now) interaction_of c.args.interactions.now c.loop-interaction.interaction-index c.interaction-item.result c.loop-interaction-test.true c.interaction-item.is
    (sym c.is_of_atoms.ensures ∙ c.if-is_of_atoms.false)) ∙
    c.loop-interaction.invariant
