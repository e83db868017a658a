use denote.Param.Send.{sendable}
use Rattle.std.proofs.Crossing.{crosses}
use Rattle.step_core.proofs.Crossing.{Job-send}
use Rattle.engine_tests.proofs.tests.sure_choices.are_jobs_sent.Goals as goal

pub is_sent-requires-send-T : goal.is_sent-requires-send-T
is_sent-requires-send-T c κs = search (Job-send, sendable, crosses) depth 40
