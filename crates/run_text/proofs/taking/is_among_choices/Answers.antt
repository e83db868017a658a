use Rattle.std.proofs.Common.{◌∙◌}
use Rattle.plant_model.specs.Choice.{choices}
use Rattle.plant_model.specs.Chosen.{choice_of}
use Rattle.step_core.specs.Running.{plant_in, states_in}
use Rattle.run_text.proofs.Among.{told-by-place}
use Rattle.run_text.proofs.taking.is_among_choices.Goals as goal

pub returns : goal.returns
returns c =
    c.is_some.ensures ∙
    told-by-place (choices (plant_in c.args.run.now) (states_in c.args.run.now)) (choice_of c.args.choice.now) c.find.result c.find.ensures.there c.find.ensures.none
