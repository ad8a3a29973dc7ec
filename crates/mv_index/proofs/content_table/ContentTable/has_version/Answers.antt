use Rattle.mv_index.proofs.TableOrder.{no_first, one_first}
use Rattle.mv_index.proofs.content_table.ContentTable.has_version.Goals as goal

pub returns-in-None : goal.returns-in-None
returns-in-None c = no_first c.args.ver c.args.self.now.contents c.range.result (c.range.ensures.in_range tt) c.in-None.ensures.steps.0

pub returns-in-Some : goal.returns-in-Some
returns-in-Some c = one_first c.args.ver c.args.self.now.contents c.range.result c.next.new.self c.in-Some.exec.now _ c.is_same_version.result (c.range.ensures.in_range tt) c.in-Some.ensures.steps c.is_same_version.ensures
