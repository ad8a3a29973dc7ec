use Rattle.std.proofs.Common.{◌≡◌, ◌≤◌, take}
use Rattle.txn_text.specs.declared.bytes.TheConstants.{GREATEST_NUMBER}
use Rattle.txn_text.specs.Bytes.{number_of}
use Rattle.txn_text.proofs.bytes.number.Given as goal

abbrev pub invariant-loop-byte : goal.invariant-loop-byte
invariant-loop-byte l = (l.value ≡ number_of (take l.byte-index l.digits)) × (l.value ≤ GREATEST_NUMBER)
