use Rattle.std.proofs.Common.{◌≡◌}
use Rattle.txn_parse.specs.Binding.{is_known}
use Rattle.txn_parse.proofs.names.is_known.Given as goal

abbrev pub invariant-loop-known : goal.invariant-loop-known
invariant-loop-known l = is_known l.known-iterator.iter.rest.now l.name ≡ is_known l.names l.name
