-- A plant that runs while atoms are away may go to another thread: a struct that holds one beside more cites this.
use denote.Ref.{NamedLft}
use denote.Param.Send.{IsSend, sendable}
use Rattle.std.proofs.Crossing.{crosses}
use Rattle.step_core.proofs.Crossing.{Dispatcher-send, Job-send}
use Rattle.step_core.proofs.parts.PlantParts.TheSendSync as parts
use Rattle.step_executor.specs.contracts.executor.Executor as executor

pub Executor-send : (κ : NamedLft) → IsSend (executor.the_field κ).row
Executor-send κ = search (Dispatcher-send, Job-send, parts.the_send, sendable, crosses) depth 40
