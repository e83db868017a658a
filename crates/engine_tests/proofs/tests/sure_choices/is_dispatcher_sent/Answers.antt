use denote.Param.Send.{sendable}
use Rattle.std.proofs.Crossing.{crosses}
use Rattle.step_core.proofs.Crossing.{Dispatcher-send}
use Rattle.engine_tests.proofs.tests.sure_choices.is_dispatcher_sent.Goals as goal

pub is_sent-requires-send-T : goal.is_sent-requires-send-T
is_sent-requires-send-T c κs = search (Dispatcher-send, sendable, crosses) depth 40
