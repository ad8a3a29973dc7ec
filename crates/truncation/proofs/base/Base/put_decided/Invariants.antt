-- So far the writes of the first executions are put.
use Rattle.std.proofs.Common.{◌≡◌, take}
use Rattle.protocol.specs.Warden.Base.{put_entries, decided_entries}
use Rattle.truncation.proofs.base.Base.put_decided.Given as goal

abbrev pub invariant-loop-kept : goal.invariant-loop-kept
invariant-loop-kept l = l.self ≡ put_entries l.initial.self (decided_entries l.w l.rec.state (take l.kept-index l.voted))
