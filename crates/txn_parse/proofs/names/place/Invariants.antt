use Rattle.std.proofs.Common.{◌≡◌, ◌+◌, drop}
use Rattle.txn_parse.specs.Binding.{place}
use Rattle.txn_parse.proofs.names.place.Given as goal

abbrev pub invariant-loop-at : goal.invariant-loop-at
invariant-loop-at l = l.at + place (drop l.at l.names) l.name ≡ place l.names l.name
