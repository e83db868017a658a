use Rattle.std.proofs.Common.{◌≡◌, ◌++◌, map, take}
use Rattle.plant_model.specs.Chosen.{fired_of}
use Rattle.plant_core.specs.Events.{all_fired}
use Rattle.crash_explorer.proofs.running.fired_behind.Given as goal

abbrev pub invariant-loop-happened : goal.invariant-loop-happened
invariant-loop-happened l = map fired_of l.fired.items ≡ map fired_of l.initial.fired.items ++ all_fired (take l.happened-index l.answers)
