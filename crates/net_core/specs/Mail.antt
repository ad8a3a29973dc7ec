-- The mail: envelopes in order of sending, each kept as its frame.
use Rattle.std.specs.Prelude.{◌≡◌, ℕ, Bool, true, false, List, [], Ok, Err}
use Rattle.morty_base.specs.Names.{no_version}
use Rattle.morty_base.specs.declared.names.NodeId.TheVariants.{Client}
use Rattle.msg.specs.declared.Body.TheVariants.{Fence}
use Rattle.msg.specs.declared.Envelope.{Envelope}
use Rattle.wire.specs.Field.{Judged}
use Rattle.wire.specs.Frame.{envelope}
use Rattle.wire.specs.Wire.{frame}

-- the envelope that other bytes stand for, which are never kept
abbrev pub no_envelope : Envelope
no_envelope = record { from = Client 0; to = Client 0; body = Fence no_version }

abbrev pub read_envelope : Judged Envelope → Envelope
read_envelope (Ok x) = x.0
read_envelope (Err fault) = no_envelope

-- the envelope whose frame these bytes are
abbrev pub opened : List ℕ → Envelope
opened bytes = read_envelope (envelope.judged bytes)

abbrev pub ends_there : Judged Envelope → Bool
ends_there (Ok (m, [])) = true
ends_there judged = false

-- these bytes are one whole frame, that of the envelope that they open to
pub record IsFrame (bytes : List ℕ) : Type 0 where
  pub whole : ends_there (envelope.judged bytes) ≡ true
  pub same : frame (opened bytes) ≡ bytes
