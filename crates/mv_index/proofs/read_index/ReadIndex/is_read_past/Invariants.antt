use Rattle.mv_index.proofs.ReadsLeft.{IsLeft}
use Rattle.mv_index.proofs.read_index.ReadIndex.is_read_past.Given as goal

abbrev pub invariant-loop-place : goal.invariant-loop-place
invariant-loop-place l =
    (goal.iterator-loop-place).can_next l.place-iterator ×
    (goal.iterator-loop-place).is_finite l.place-iterator ×
    IsLeft l.self.reads l.key l.ver l.place-iterator
