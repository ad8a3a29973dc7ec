-- So far the first entries are put.
use Rattle.std.proofs.Common.{◌≡◌, take}
use Rattle.protocol.specs.Warden.Base.{put_entries}
use Rattle.truncation.proofs.base.Base.put_all.Given as goal

abbrev pub invariant-loop-entry : goal.invariant-loop-entry
invariant-loop-entry l = l.self ≡ put_entries l.initial.self (take l.entry-index l.entries)
