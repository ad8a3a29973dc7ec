use denote.Param.Send.{sendable}
use denote.Param.SendFields.{declared_send, as_row_send}
use Rattle.std.proofs.Crossing.{crosses}
use Rattle.continuation.proofs.segment.Job.TheSendSync as job
use Rattle.continuation.proofs.Crossing.{done_send}
use Rattle.lang_tests.proofs.crossing.read_there.Goals as goal

pub join-requires-send-F : goal.join-requires-send-F
join-requires-send-F g c κs within = search (sendable, crosses, declared_send, as_row_send, done_send, job.the_send) depth 30
