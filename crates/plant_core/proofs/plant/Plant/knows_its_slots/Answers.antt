use Rattle.plant_core.proofs.plant.Plant.knows_its_slots.Goals as goal

pub returns : goal.returns
returns g c = λ keeps whole. (c.args.self.now.at_rest keeps whole).slots
