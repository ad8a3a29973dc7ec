-- So far the writes of the first contents are put.
use Rattle.std.proofs.Common.{◌≡◌, take}
use Rattle.protocol.specs.Warden.Base.{put_entries, kept_entries}
use Rattle.truncation.proofs.base.Base.put_committed.Given as goal

abbrev pub invariant-loop-kept : goal.invariant-loop-kept
invariant-loop-kept l = l.self ≡ put_entries l.initial.self (kept_entries l.w (take l.kept-index l.committed))
