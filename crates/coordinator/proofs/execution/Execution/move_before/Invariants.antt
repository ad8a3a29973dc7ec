-- So many reads have taken their next labels.
use Rattle.std.proofs.Common.{◌≡◌, false, Option}
use Rattle.coordinator.specs.Execution.{Loaded, StandsFor}
use Rattle.coordinator.specs.Moving.{moved_before}
use Rattle.coordinator.proofs.execution.Execution.move_before.Given as goal

abbrev pub invariant-loop-i : goal.invariant-loop-i
invariant-loop-i l = record {
  stands : (o : Option Loaded) → StandsFor o l.initial.self → StandsFor o l.self;
  broken : l.self.log.broken ≡ l.initial.self.log.broken;
  log : l.initial.self.log.broken ≡ false → l.self ≡ record l.initial.self { log = record l.initial.self.log { reads = moved_before l.i l.initial.self.log.reads l.initial.self.nexts } };
}
