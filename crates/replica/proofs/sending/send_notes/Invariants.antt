use Rattle.std.proofs.Common.{◌≡◌, ◌++◌, map}
use Rattle.miss_notice.specs.Envelope2.{sent_by}
use Rattle.replica.proofs.sending.send_notes.Given as goal

abbrev pub invariant-loop-note : goal.invariant-loop-note
invariant-loop-note l = l.out ++ map (sent_by l.number) l.note-iterator.rest.items ≡ l.fn.out ++ map (sent_by l.number) l.fn.notes
