-- A Note and the client that it goes to.
use Rattle.std.specs.Prelude.{ℕ}
use Rattle.protocol.specs.Words.{Client, Envelope}
use Rattle.protocol.specs.Replica.Readers.{envelope_from}
use Rattle.miss_notice.specs.declared.Envelope2.{Envelope2}

-- the envelope of replica r
abbrev pub sent_by : ℕ → Envelope2 → Envelope
sent_by r e = envelope_from r (Client e.client) e.body
