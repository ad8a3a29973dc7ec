use Rattle.mv_index.proofs.Rising.{in_order}
use Rattle.mv_index.proofs.records.Records.first_reader.Goals as goal

pub returns : goal.returns
returns c = λ firsts h s. c.first_of.ensures (in_order h c.args.self.now.readers.readers.items s.readers_are)
