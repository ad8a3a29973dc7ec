-- So far the first writes are put.
use Rattle.std.proofs.Common.{◌≡◌, take}
use Rattle.protocol.specs.Warden.Base.{put_entries, entries_of}
use Rattle.truncation.proofs.base.Base.put_writes.Given as goal

abbrev pub invariant-loop-at : goal.invariant-loop-at
invariant-loop-at l = l.self ≡ put_entries l.initial.self (entries_of l.exec 1 (take l.at l.writes))
