-- The first values so far are entries.
use Rattle.std.proofs.Common.{◌≡◌, map, take}
use Rattle.serial_ref.specs.Serial.{first_entry}
use Rattle.serial_ref.proofs.running.entries.Given as goal

abbrev pub invariant-loop-first : goal.invariant-loop-first
invariant-loop-first l = l.entries ≡ map first_entry (take l.first-index l.firsts)
