use Rattle.plant_for_c.proofs.Fills.{filled_in}
use Rattle.plant_for_c.proofs.thing.Thing.fill.Goals as goal

pub returns-in-Image : goal.returns-in-Image
returns-in-Image c =
    filled_in c.args.self.now c.in-Image.disk c.fill.new.self c.args.at c.args.bytes.now c.fill.result c.in-Image.is c.fill.ensures.fits c.fill.ensures.filled c.fill.ensures.same
