-- A durable plant may go to another thread if its device may. Its executor reaches expressions and trees, which hold themselves, so the
-- proof cites that of an executor; a struct that holds a plant, and a lock of one, cite this.
use denote.RattleType.{RattleType}
use denote.Ref.{NamedLft}
use denote.Param.Send.{IsSend, sendable}
use Rattle.std.proofs.Crossing.{crosses}
use Rattle.disk_model.proofs.cells.Cells.TheSendSync as cells
use Rattle.disk_model.specs.declared.disk.Disk.{Ghosts}
use Rattle.plant_core.specs.contracts.plant.Plant as plant
use Rattle.step_executor.proofs.Crossing.{Executor-send}

pub Plant-send : (κ : NamedLft) (D : RattleType) (g : Ghosts D.Denot) → IsSend D → IsSend (plant.the_field κ D g).row
Plant-send κ D g send = search (Executor-send, cells.the_send, sendable, crosses) depth 60 fits 10000

pub Plant-row-send : (κ : NamedLft) (D : RattleType) (g : Ghosts D.Denot) → IsSend D → IsSend (plant.the_row κ D g)
Plant-row-send κ D g send = search (Plant-send, sendable)
