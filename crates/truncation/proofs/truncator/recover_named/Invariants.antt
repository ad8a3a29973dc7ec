-- So far the first executions are recovered.
use Rattle.std.proofs.Common.{take}
use Rattle.protocol.specs.Warden.State.{still}
use Rattle.protocol.specs.Warden.Truncation.{recover_all}
use Rattle.recovery.specs.Recoverer.{Does}
use Rattle.truncation.proofs.truncator.recover_named.Given as goal

abbrev pub invariant-loop-x : goal.invariant-loop-x
invariant-loop-x l = Does (recover_all l.fn.rec.rules (still l.fn.rec.state) (take l.x-index l.named)) l.fn.rec l.rec l.fn.out l.out
