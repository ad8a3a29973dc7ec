use Rattle.mv_index.proofs.Rising.{in_order}
use Rattle.mv_index.proofs.records.Records.due_readers.Goals as goal

pub returns : goal.returns
returns c = λ firsts h s. c.of_key_from.ensures (in_order h c.args.self.now.readers.readers.items s.readers_are)
