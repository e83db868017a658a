use Rattle.std.proofs.Common.{◌≡◌, map, take}
use Rattle.plant_model.specs.Choice.{moves_of}
use Rattle.plant_model.specs.declared.choice.Move.{Move}
use Rattle.step_core.specs.Judges.{judged_atoms}
use Rattle.step_core.proofs.FirstRow.{first}
use Rattle.step_core.proofs.possible.InteractionJudge.first_row.Given as goal

-- the first moves of the ports so far
abbrev pub invariant-loop-port : goal.invariant-loop-port
invariant-loop-port l =
    let none : Move = record { atom = 0; transition = 0 } in
    l.moves ≡ map (first (moves_of (judged_atoms l.self) l.self.states.now) none) (take l.port-index l.ports)
