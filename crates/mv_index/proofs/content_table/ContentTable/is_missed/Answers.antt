use Rattle.mv_index.specs.ContentTable.{content_at}
use Rattle.mv_index.specs.WriteIndex.{held_at}
use Rattle.mv_index.proofs.IndexedContents.{missed_none, missed_some}
use Rattle.mv_index.proofs.content_table.ContentTable.is_missed.Goals as goal

pub returns-in-None : goal.returns-in-None
returns-in-None c = λ s. missed_none (content_at c.args.self.now) (held_at c.args.self.now.writes) c.args.ver c.args.read s.writes_are c.in-None.ensures

pub returns-in-Some : goal.returns-in-Some
returns-in-Some c = λ s.
    missed_some (content_at c.args.self.now) (held_at c.args.self.now.writes) c.args.ver c.args.read c.in-Some.last c.is_before.result s.writes_are c.in-Some.ensures c.is_before.ensures
