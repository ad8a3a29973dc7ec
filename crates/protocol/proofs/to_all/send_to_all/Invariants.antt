-- The replicas up to the last one were sent the body.
use Rattle.std.proofs.Common.{◌≡◌, ◌++◌}
use Rattle.protocol.specs.World.Events.{to_all}
use Rattle.protocol.proofs.to_all.send_to_all.Given as goal

abbrev pub invariant-loop-before : goal.invariant-loop-before
invariant-loop-before l = l.out ≡ l.initial.out ++ to_all l.before l.from l.body
