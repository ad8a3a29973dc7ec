use Rattle.mv_index.proofs.Settling.{settle_stands}
use Rattle.mv_index.proofs.records.Records.settle.Goals as goal

pub returns : goal.returns
returns c = λ firsts h s t. settle_stands firsts h c.args.self.now c.clear.new.self _ s t c.clear.ensures
