use Rattle.step_executor.proofs.Standing.{states-many}
use Rattle.step_executor.proofs.executor.Executor.fits.Goals as goal

pub returns-clause-of_plant : goal.returns-clause-of_plant
returns-clause-of_plant c = states-many c.args.self.now
