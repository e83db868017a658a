use Rattle.plant_drawing.proofs.edges.print_end.Goals as goal

pub returns-then-trigger : goal.returns-then-trigger
returns-then-trigger g c = rw c.if-trigger.true c.print_text.ensures
