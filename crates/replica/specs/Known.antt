-- What a decision makes known.
use Rattle.std.specs.Prelude.{Option, Some, None}
use Rattle.protocol.specs.Words.{Choice, ToCommit, Abandon, Content}

-- the content that is known once a choice is decided with this one, where the last one was known
abbrev pub known_after : Choice → Option Content → Option Content → Option Content
known_after ToCommit (Some c) known = Some c
known_after ToCommit None known = known
known_after Abandon content known = known
