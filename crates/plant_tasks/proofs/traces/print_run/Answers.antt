-- The signals begin in the first states, where nothing was fired.
use Rattle.std.proofs.Common.{[]}
use Rattle.plant_tasks.proofs.traces.print_run.Goals as goal

pub tell_run-requires-in-Waves : goal.tell_run-requires-in-Waves
tell_run-requires-in-Waves g c = ([], c.in_ok-telling-in-Waves.ensures [])
