use Rattle.std.specs.FinSet.{contains}
use Rattle.plant_model.specs.System.{interactions_in}
use Rattle.step_core.proofs.Looked.{IsLooked}
use Rattle.step_core.proofs.standing.rivalry_of.Given as goal

-- of the words so far it is told what other connectors see
abbrev pub invariant-loop-place : goal.invariant-loop-place
invariant-loop-place l = IsLooked (interactions_in l.system) l.system.ranks l.connector l.place (contains l.before) (contains l.now) l.rivalry
