use Rattle.std.proofs.lemmas.List.{length-map}
use Rattle.txn_parse.specs.Reading.{block_from}
use Rattle.txn_parse.proofs.blocks.read_block.Goals as goal

pub returns-clause-exact : goal.returns-clause-exact
unfolding block_from
returns-clause-exact c = rw length-map c.block.ensures.found
