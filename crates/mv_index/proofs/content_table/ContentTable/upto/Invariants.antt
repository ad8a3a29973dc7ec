use Rattle.std.proofs.Common.{◌≡◌, ◌++◌}
use Rattle.std.specs.BTreeMap.{IsOrdered}
use Rattle.mv_index.specs.Orders.{exec_cmp}
use Rattle.mv_index.proofs.UpTo.{entries_upto}
use Rattle.mv_index.proofs.content_table.ContentTable.upto.Given as goal

abbrev pub invariant-loop-exec : goal.invariant-loop-exec
invariant-loop-exec l = IsOrdered exec_cmp l.self.contents × (l.out ++ entries_upto l.w l.exec-iterator ≡ entries_upto l.w l.self.contents.entries)
