-- Places without a next label change no answer.
use Rattle.std.proofs.Common.{◌≡◌, ◌+◌, ◌-◌, List, length}
use Rattle.exec_log.specs.declared.read.LogRead.{LogRead}
use Rattle.coordinator.specs.Answers.{answers_with}
use Rattle.coordinator.proofs.labels.set_next.Given as goal

abbrev pub invariant-loop-nexts : goal.invariant-loop-nexts
invariant-loop-nexts l = (reads : List LogRead) → answers_with reads l.nexts ≡ answers_with reads l.initial.nexts

abbrev pub decreases-loop-nexts : goal.decreases-loop-nexts
decreases-loop-nexts l = (l.i + 1) - length l.nexts
