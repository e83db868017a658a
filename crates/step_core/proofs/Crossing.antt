-- A plant that runs may go to another thread, and several threads may use one that runs alone. It holds a system, of which the
-- check does not find this by itself.
use denote.Ref.{NamedLft}
use denote.Param.Send.{IsSend, IsSync, sendable}
use Rattle.std.proofs.Crossing.{crosses}
use Rattle.plant_model.proofs.state.PlantState.TheSendSync as states
use Rattle.plant_model.proofs.Crossing.{Atom-sync, System-sync}
use Rattle.step_core.specs.contracts.dispatcher.Dispatcher as dispatcher
use Rattle.step_core.specs.contracts.job.Job as job
use Rattle.step_core.specs.contracts.stepper.Stepper as stepper
use Rattle.step_core.proofs.judgement.Judgement.TheSendSync as judgement
use Rattle.step_core.proofs.parts.PlantParts.TheSendSync as parts
use Rattle.step_core.proofs.sure.SureJudgement.TheSendSync as sure

-- ---- a plant that runs
pub Stepper-send : (κ : NamedLft) → IsSend (stepper.the_field κ).row
Stepper-send κ = search (System-sync, judgement.the_field_send, states.the_send, sendable, crosses) depth 30

pub Stepper-sync : (κ : NamedLft) → IsSync (stepper.the_field κ).row
Stepper-sync κ = search (System-sync, judgement.the_field_sync, states.the_sync, sendable, crosses) depth 30

-- ---- so may a plant that runs while atoms are away, and what these have to do
pub Dispatcher-send : (κ : NamedLft) → IsSend (dispatcher.the_field κ).row
Dispatcher-send κ = search (System-sync, sure.the_field_send, parts.the_send, sendable, crosses) depth 30

pub Job-send : (κ : NamedLft) → IsSend (job.the_field κ).row
Job-send κ = search (Atom-sync, sendable, crosses) depth 30
